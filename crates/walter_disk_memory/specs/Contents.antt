-- What a disk in memory holds after its calls, and what a crash may leave of it: the bytes of the last sync after the
-- writes since, each of which a crash may have cut short.
use Rattle.std.specs.Prelude.{◌≡◌, ◌≤◌, ◌%◌, ◌==◌, ℕ, nat_le, List, [], ◌∷◌, ◌++◌, length, take, replicate, if◌then◌else◌}
use Rattle.walter_disk.specs.Disks.{laid}
use Rattle.walter_disk.specs.Images.{Torn}
use Rattle.walter_disk_memory.specs.declared.place.Place.{Place}

-- a call that the disk keeps in mind: a write at a place, one that failed, a sync, and a settle by its choice
pub data Call : Type 0 where
  Write : ℕ → List ℕ → Call
  FailedWrite : ℕ → List ℕ → Call
  Sync : Call
  Settle : ℕ → Call

-- what is on a disk
pub record Content : Type 0 where
  -- what a read gives
  pub reads : List ℕ
  -- the same, had the failed writes reached the disk too
  pub whole : List ℕ
  -- what is safe from a crash
  pub synced : List ℕ
  -- the writes since, in order
  pub pending : List Place

-- the bytes after a write that begins within them or at their end; none begins elsewhere
abbrev pub put : ℕ → List ℕ → List ℕ → List ℕ
put at from bytes = if nat_le at (length bytes) then laid at from bytes else bytes

-- the bytes after writes of one byte all over these places
abbrev pub filled : ℕ → List Place → List ℕ → List ℕ
filled byte [] bytes = bytes
filled byte (place ∷ places) bytes = filled byte places (put place.at (replicate place.count byte) bytes)

-- nothing is pending
abbrev pub at_rest : List ℕ → Content
at_rest bytes = record { reads = bytes; whole = bytes; synced = bytes; pending = [] }

-- what a settle finds by this choice: the pending writes are gone, or whole, or their places hold other bytes
abbrev pub settled : ℕ → Content → List ℕ
settled choice content =
    if choice == 0 then content.synced
    else if choice == 1 then content.whole
    else filled (choice % 256) content.pending content.synced

abbrev pub after : Call → Content → Content
after (Write at from) content = record {
  reads = put at from content.reads;
  whole = put at from content.whole;
  synced = content.synced;
  pending = content.pending ++ record { at = at; count = length from } ∷ [];
}
after (FailedWrite at from) content = record {
  reads = content.reads;
  whole = put at from content.whole;
  synced = content.synced;
  pending = content.pending ++ record { at = at; count = length from } ∷ [];
}
after Sync content = at_rest content.reads
after (Settle choice) content = at_rest (settled choice content)

-- after these calls, in order
abbrev pub replayed : List Call → Content → Content
replayed [] content = content
replayed (call ∷ calls) content = replayed calls (after call content)

-- the image is one of these bytes after the pending writes, each of which a crash may have cut short
abbrev pub Leaves : List ℕ → List Place → List ℕ → Type 0
Leaves bytes [] image = image ≡ bytes
Leaves bytes (place ∷ places) image = (next : List ℕ) × Torn place.at place.count bytes next × Leaves next places image

-- what a crash may leave of the content
abbrev pub MayLeave : Content → List ℕ → Type 0
MayLeave content image = Leaves content.synced content.pending image

-- what a crash at some moment from the t-th on, between two calls of these, might have left
abbrev pub MightHaveLeft : List ℕ → List Call → ℕ → List ℕ → Type 0
MightHaveLeft first calls t image =
    (k : ℕ) × (t ≤ k) × (k ≤ length calls) × MayLeave (replayed (take k calls) (at_rest first)) image
