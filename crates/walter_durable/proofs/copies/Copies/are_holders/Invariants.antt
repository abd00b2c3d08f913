use Rattle.std.proofs.Common.{◌≡◌, ◌<◌, ℕ, true}
use Rattle.walter_durable.specs.Marks.{site_at, holds}
use Rattle.walter_durable.specs.Counted.{copies_in}
use Rattle.walter_durable.specs.Bits.{has_place}
use Rattle.walter_durable.proofs.copies.Copies.are_holders.Given as goal

-- at each place so far that one of them has, the site holds it
abbrev pub invariant-loop-place : goal.invariant-loop-place
invariant-loop-place l =
    (k : ℕ) → k < l.place → has_place l.sites k ≡ true → holds (copies_in l.self l.acknowledged) l.q (site_at k) ≡ true
