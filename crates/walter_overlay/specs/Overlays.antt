-- Updates laid over the counts of a set.
use Rattle.std.specs.Prelude.{◌+◌, ◌^◌, ◌≤ℤ◌, ◌<ℤ◌, ◌+ℤ◌, ◌-ℤ◌, ℕ, ℤ, pos, List}
use Rattle.walter_base.specs.declared.names.ObjId.{ObjId}
use Rattle.walter_base.specs.declared.update.Update.{Update}
use Rattle.walter_base.specs.Values.{count_of}
use Rattle.walter_cset.specs.Tallies.{AreNumbers}

-- a count that leaves room for updates to come
abbrev pub IsModest : ℤ → Type 0
IsModest count = ((pos 0 -ℤ pos (2 ^ 62 + 256)) ≤ℤ count) × (count ≤ℤ pos (2 ^ 62 + 256))

-- a number that a count can be
abbrev pub IsCount : ℤ → Type 0
IsCount number = ((pos 0 -ℤ pos (2 ^ 63)) ≤ℤ number) × (number <ℤ pos (2 ^ 63))

-- the ids whose number isn't 0 behind the updates, by rising id
abbrev pub AreLaidOver : (ℕ → ℤ) → ObjId → List Update → List (ℕ × ℤ) → Type 0
AreLaidOver number oid updates counts = AreNumbers (λ id. number id +ℤ count_of oid id updates) counts
