use Rattle.std.proofs.Common.{sym, subst, arith}
use Rattle.std.proofs.lemmas.Grind.{common_steps}
use Rattle.std.proofs.lemmas.List.{take_all}
use Rattle.std.proofs.lemmas.List.Elements.{All-more, All-same}
use Rattle.walter_txcode.specs.Spelling.{IsUpdate}
use Rattle.walter_txcode.proofs.updates.write_updates.Goals as goal

pub loop-update-preserved : goal.loop-update-preserved
loop-update-preserved c =
    let u = c.update-item.result in
    record {
      bytes = grind (arith, common_steps);
      room = grind (arith, common_steps);
      ranges = All-more IsUpdate c.args.updates.now c.loop-update.update-index u c.loop-update-test.true c.loop-update.invariant.ranges (subst IsUpdate c.update-item.is c.write_update.ensures.range);
    }

pub returns-clause-ranges : goal.returns-clause-ranges
returns-clause-ranges c =
    let updates = c.args.updates.now in
    All-same IsUpdate updates _ (sym (take_all c.loop-update.update-index updates c.loop-update-test.false)) c.loop-update.invariant.ranges
