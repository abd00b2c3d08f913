use Rattle.std.proofs.Common.{take}
use Rattle.std.specs.Prelude.{All, Contains}
use Rattle.walter_psi.proofs.checker.rules.are_all_among.Given as goal

-- those so far are among the others
abbrev pub invariant-loop-x : goal.invariant-loop-x
invariant-loop-x l = All (Contains l.others) (take l.x-index l.transactions)
