use Rattle.std.proofs.Common.{◌≡◌, ◌≤◌, ◌+◌, ℕ, List, All, Some, length, ap, sym, subst, ◌∙◌, arith}
use Rattle.std.proofs.lemmas.List.{length_push, with_items_is}
use Rattle.walter_rules.specs.Knowledge.{site_at}
use Rattle.walter_rules.specs.Learning.{epoch_after}
use Rattle.walter_report.proofs.Logged.{length_log_pieces}
use Rattle.walter_report.proofs.Telling.{last_epoch-more}
use Rattle.walter_report.proofs.overview.Overview.add_record.Goals as goal

pub invariant_of-self : goal.invariant_of-self
invariant_of-self c =
    let old = c.args.self.now in
    let got : length c.count_got.new.got ≡ old.got.len =
    grind (arith, c.count_got.auto.got, c.deref_mut.ensures.value, c.deref_mut.ensures.len) in
    let seen : length c.count_seen.new.seen ≡ old.seen.len =
    grind (arith, c.count_seen.auto.seen, c.deref_mut-2.ensures.value, c.deref_mut-2.ensures.len) in
    let few = λ (ns : List ℕ). All (λ n. n ≤ old.records) ns in
    let more = λ (ns : List ℕ). All (λ n. n ≤ old.records + 1) ns in
    record {
      got_few = subst more (sym (with_items_is old.got c.count_got.new.got got))
          (c.count_got.ensures.most old.records (subst few (sym c.deref_mut.ensures.value) old.got_few));
      seen_few = subst more (sym (with_items_is old.seen c.count_seen.new.seen seen))
          (c.count_seen.ensures.most old.records (subst few (sym c.deref_mut-2.ensures.value) old.seen_few));
      commits_few = omega (arith, old.commits_few, c.commits_in.ensures.few);
    }

pub returns-clause-tells : goal.returns-clause-tells
returns-clause-tells c = λ sites up recs tells.
    let old = c.args.self.now in
    let stable = c.args.stable.now in
    let got : length c.count_got.new.got ≡ old.got.len =
    grind (arith, c.count_got.auto.got, c.deref_mut.ensures.value, c.deref_mut.ensures.len) in
    let seen : length c.count_seen.new.seen ≡ old.seen.len =
    grind (arith, c.count_seen.auto.seen, c.deref_mut-2.ensures.value, c.deref_mut-2.ensures.len) in
    record {
      stands = tells.stands;
      epoch = c.epoch_behind-self.ensures ∙ ap (epoch_after (Some stable)) tells.epoch
          ∙ sym (last_epoch-more 0 recs stable);
      records = omega (arith, tells.records, length_push recs stable);
      got = with_items_is old.got c.count_got.new.got got
          ∙ c.count_got.ensures.counts sites recs (c.deref_mut.ensures.value ∙ tells.got);
      seen = with_items_is old.seen c.count_seen.new.seen seen
          ∙ c.count_seen.ensures.counts sites recs (c.deref_mut-2.ensures.value ∙ tells.seen);
      commits = omega (
        arith,
        tells.commits,
        c.commits_in.ensures.commits (site_at c.args.site),
        length_log_pieces (site_at c.args.site) recs stable,
      );
    }
