use Rattle.std.proofs.Common.{◌≡◌, All, None, take}
use Rattle.walter_locks.specs.Parts.{owner_of}
use Rattle.walter_tables.proofs.tables.Tables.are_unlocked.Given as goal

-- none of those so far is locked
abbrev pub invariant-loop-place : goal.invariant-loop-place
invariant-loop-place l = All (λ oid. owner_of l.self.locks oid ≡ None) (take l.place l.objects)
