use Rattle.std.proofs.Common.{◌++◌, List, ap, subst, append_assoc, ◌∙◌}
use Rattle.walter_base.specs.declared.message.Record.{Record}
use Rattle.walter_rules.specs.Knowledge.{site_at}
use Rattle.walter_rules.specs.Standing.{up_after}
use Rattle.walter_report.specs.Sites.{record_in}
use Rattle.walter_report.specs.Overviews.{Tells}
use Rattle.walter_report.proofs.overview.Overview.add_entry.Goals as goal

pub returns : goal.returns
returns c = λ sites up recs tells.
    let i = site_at c.args.site in
    let e = c.args.entry.now in
    let kept = record_in e.came.kept in
    let wrote = record_in e.came.wrote in
    let now = up_after e.event e.came.outcome up in
    let first = c.add_stable.ensures.tells sites now recs record {
      stands = c.up_behind-self.ensures ∙ ap (up_after e.event e.came.outcome) tells.stands;
      epoch = tells.epoch;
      records = tells.records;
      got = tells.got;
      seen = tells.seen;
      commits = tells.commits;
    } in
    subst (λ (rs : List Record). Tells c.add_stable-2.new.self sites i now rs)
    (append_assoc recs kept wrote)
    (c.add_stable-2.ensures.tells sites now (recs ++ kept) first)
