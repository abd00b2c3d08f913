use Rattle.std.proofs.Common.{◌≡◌, ℕ, take}
use Rattle.walter_history.specs.Steps.{told}
use Rattle.walter_cset.specs.Between.{moved}
use Rattle.walter_cset.specs.Tallies.{number_at}
use Rattle.walter_cset.proofs.between.moves_between.Given as goal

-- each number is moved by the steps so far
abbrev pub invariant-loop-kept : goal.invariant-loop-kept
invariant-loop-kept l = (id : ℕ) → number_at l.tally id ≡ moved l.from l.to l.oid id (told (take l.kept-index l.steps))
