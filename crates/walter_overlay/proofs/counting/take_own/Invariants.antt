use Rattle.std.proofs.Common.{◌≡◌, ℕ, take}
use Rattle.std.specs.Prelude.{◌+ℤ◌}
use Rattle.walter_base.specs.Values.{count_of}
use Rattle.walter_cset.specs.Tallies.{number_at}
use Rattle.walter_overlay.proofs.counting.take_own.Given as goal

-- each number is moved by the updates so far
abbrev pub invariant-loop-update : goal.invariant-loop-update
invariant-loop-update l = (id : ℕ) → number_at l.moves id ≡ number_at l.initial.moves id +ℤ count_of l.oid id (take l.update-index l.updates)
