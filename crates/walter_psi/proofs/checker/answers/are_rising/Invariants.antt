use Rattle.std.proofs.Common.{ℕ, ◌<◌, length}
use Rattle.std.specs.Prelude.{ℤ, slice_index_or}
use Rattle.walter_psi.proofs.checker.answers.are_rising.Given as goal

-- each entry before the place has a smaller id than each one behind it
abbrev pub invariant-loop-place : goal.invariant-loop-place
invariant-loop-place l =
    (i j : ℕ) (d : ℕ × ℤ) → i < j → j < length l.counts → i < l.place → (slice_index_or l.counts i d).0 < (slice_index_or l.counts j d).0
