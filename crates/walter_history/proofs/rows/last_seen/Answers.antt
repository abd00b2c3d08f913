use Rattle.std.proofs.Common.{ap, sym, ◌∙◌, subst}
use Rattle.walter_base.specs.Values.{value_of}
use Rattle.walter_history.specs.Rows.{AreOf, seen_updates}
use Rattle.walter_history.proofs.LastSeen.{own_front, last_writes, last_leaves}
use Rattle.walter_history.proofs.rows.last_seen.Goals as goal

pub returns-in-Some-seen_write : goal.returns-in-Some-seen_write
returns-in-Some-seen_write c =
    let split = c.in-Some.ensures.cases.0 in
    let own = subst (AreOf c.args.oid) split c.loop-row.invariant.own in
    sym (last_writes c.args.by.now c.args.oid c.in-Some.front.now c.in-Some.row.now _ own (sym c.in-Some-seen_write.ensures))
    ∙ ap (λ rows. value_of c.args.oid (seen_updates c.args.by.now rows)) (sym split) ∙ c.loop-row.invariant.same

pub loop-row-preserved : goal.loop-row-preserved
loop-row-preserved c =
    let split = c.in-Some.ensures.cases.0 in
    let own = subst (AreOf c.args.oid) split c.loop-row.invariant.own in
    record {
      same = sym (last_leaves c.args.by.now c.args.oid c.in-Some.front.now c.in-Some.row.now own (sym c.in_default-seen_write.ensures))
          ∙ ap (λ rows. value_of c.args.oid (seen_updates c.args.by.now rows)) (sym split) ∙ c.loop-row.invariant.same;
      own = own_front c.args.oid c.in-Some.front.now c.in-Some.row.now own;
    }
