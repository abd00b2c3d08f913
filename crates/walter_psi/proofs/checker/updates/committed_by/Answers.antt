use Rattle.std.proofs.Common.{◌++◌, get_or, ◌∙◌, sym, ap}
use Rattle.walter_psi.specs.Histories.{committed_updates}
use Rattle.walter_psi.proofs.CheckerLists.{pieces_more}
use Rattle.walter_psi.proofs.checker.updates.committed_by.Goals as goal

pub loop-x-preserved : goal.loop-x-preserved
loop-x-preserved c =
    c.in_ok-extend_committed.ensures
    ∙ ap (λ front. front ++ committed_updates c.args.steps.now (get_or c.args.transactions.now c.loop-x.x-index (record { site = record { 0 = 0 }; epoch = 0; number = 0 }))) c.loop-x.invariant
    ∙ sym (pieces_more (committed_updates c.args.steps.now) c.args.transactions.now c.loop-x.x-index (record { site = record { 0 = 0 }; epoch = 0; number = 0 }) c.loop-x-test.true)
