use Rattle.std.proofs.Common.{take}
use Rattle.std.specs.Prelude.{All}
use Rattle.walter_base.specs.Counting.{IsListed}
use Rattle.walter_psi.proofs.checker.answers.are_listed.Given as goal

-- the ids so far are listed
abbrev pub invariant-loop-id : goal.invariant-loop-id
invariant-loop-id l = All (IsListed l.oid l.updates l.counts) (take l.id-index l.ids)
