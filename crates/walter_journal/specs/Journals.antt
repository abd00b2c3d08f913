-- What a journal on a disk stands for (docs/FORMATS.md, "Journal"): bodies that are safe, so that each crash leaves them.
use Rattle.std.specs.Prelude.{◌≡◌, ◌==◌, ◌+◌, ◌-◌, ◌≤◌, if◌then◌else◌, ℕ, false, List, length, Some, Result, Ok, Err, vec_capacity}
use Rattle.walter_base.specs.declared.format.Format.{Format}
use Rattle.walter_disk.specs.Images.{Only}
use Rattle.walter_disk.specs.declared.disk.Disk.{Ghosts}
use Rattle.walter_journal.specs.Layout.{header_in, HasBehind, span_of}
use Rattle.walter_journal.specs.declared.fault.JournalFault.{JournalFault}
use Rattle.walter_journal.specs.declared.journal.Journal.{Journal}

-- the disk that a journal is on
abbrev pub disk_of : {D : Type 0} {g : Ghosts D} → Journal D g → D
disk_of journal = journal.disk

-- the place behind the closed gate that ends its bodies
abbrev pub end_of : {D : Type 0} {g : Ghosts D} → Journal D g → ℕ
end_of journal = journal.end

-- the place that its end may not pass
abbrev pub capacity_of : {D : Type 0} {g : Ghosts D} → Journal D g → ℕ
capacity_of journal = journal.capacity

-- for how many bytes of a write it has memory
abbrev pub staged_of : {D : Type 0} {g : Ghosts D} → Journal D g → ℕ
staged_of journal = vec_capacity journal.staged

-- how many bytes are left behind its end
abbrev pub left_of : {D : Type 0} {g : Ghosts D} → Journal D g → ℕ
left_of journal = capacity_of journal - end_of journal

-- how many bytes one more body needs
abbrev pub need_of : List ℕ → ℕ
need_of body = length body + 5

-- the disk tells that it has these bodies behind other bytes in front, whole, and each crash leaves what it tells
pub record StandsBehind {D : Type 0} {g : Ghosts D} (front : List ℕ) (journal : Journal D g) (bodies : List (List ℕ)) : Type 0 where
  pub bytes : List ℕ
  pub told : (g.known (disk_of journal)).reads ≡ Some bytes
  pub content : HasBehind front bytes bodies
  pub whole : (g.known (disk_of journal)).broken ≡ false
  pub durable : Only bytes (g.may_leave (disk_of journal))
  pub end : end_of journal ≡ length front + span_of bodies

-- the same behind the header of this format
abbrev pub StandsFor : {D : Type 0} {g : Ghosts D} → Format → Journal D g → List (List ℕ) → Type 0
StandsFor format journal bodies = StandsBehind (header_in format) journal bodies

-- there is room to append a body of so many bytes
pub record HasRoom {D : Type 0} {g : Ghosts D} (journal : Journal D g) (n : ℕ) : Type 0 where
  pub reaches : end_of journal + 5 + n ≤ g.room_end (disk_of journal)
  pub calls : 4 ≤ g.room_calls (disk_of journal)
  pub holds : n + 5 ≤ vec_capacity journal.staged

-- a body was appended
pub record Appends {D : Type 0} {g : Ghosts D} (old new : Journal D g) (body : List ℕ) : Type 0 where
  pub fits : need_of body ≤ left_of old
  pub whole : (g.known (disk_of new)).broken ≡ false
  pub faultless : (g.known (disk_of new)).faults ≡ (g.known (disk_of old)).faults
  pub end : end_of new ≡ end_of old + need_of body

-- the disk behind a load, in the journal or beside the fault
abbrev pub disk_behind : {D : Type 0} {g : Ghosts D}
    → Result (Journal D g × List (List ℕ) × Format) (D × JournalFault) → D
disk_behind (Ok loaded) = disk_of loaded.0
disk_behind (Err left) = left.0

-- how many reads, writes and syncs a load of a disk of this size makes
abbrev pub calls_of_load : ℕ → ℕ
calls_of_load size = if size == 0 then 2 else 1
