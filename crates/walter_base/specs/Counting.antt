-- When entries are the counts of a set after some updates.
use Rattle.std.specs.Prelude.{◌≡◌, ◌≢◌, ◌⊎◌, ℕ, ℤ, pos, List, Any}
use Rattle.walter_base.specs.declared.names.ObjId.{ObjId}
use Rattle.walter_base.specs.declared.update.Update.{Update}
use Rattle.walter_base.specs.Values.{count_of}

-- the entry is the count of its id, which isn't 0
abbrev pub IsCountOf : ObjId → List Update → ℕ × ℤ → Type 0
IsCountOf oid updates entry = (count_of oid entry.0 updates ≡ entry.1) × (entry.1 ≢ pos 0)

-- one of the entries is of the id
abbrev pub HasId : ℕ → List (ℕ × ℤ) → Type 0
HasId id counts = Any (λ entry. entry.0 ≡ id) counts

-- the id has an entry, if its count isn't 0
abbrev pub IsListed : ObjId → List Update → List (ℕ × ℤ) → ℕ → Type 0
IsListed oid updates counts id = (count_of oid id updates ≡ pos 0) ⊎ HasId id counts
