use Rattle.std.proofs.Common.{take}
use Rattle.std.specs.Prelude.{All}
use Rattle.walter_base.specs.Counting.{IsCountOf}
use Rattle.walter_psi.proofs.checker.answers.are_true.Given as goal

-- the entries so far are counts of their ids
abbrev pub invariant-loop-count : goal.invariant-loop-count
invariant-loop-count l = All (IsCountOf l.oid l.updates) (take l.count-index l.counts)
