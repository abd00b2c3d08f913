-- How a record is spelled for a book, and what comes of it there.
use Rattle.std.specs.Prelude.{◌≡◌, ◌⊎◌, ◌<◌, ℕ, List, [], length, map, Option, Some, None, IfSome, is_some}
use Rattle.walter_base.specs.declared.format.Format.{Format}
use Rattle.walter_base.specs.declared.message.Record.{Record}
use Rattle.walter_disk.specs.declared.disk.Disk.{Ghosts}
use Rattle.walter_disk.specs.Images.{LeavesOnly}
use Rattle.walter_engine.specs.Contents.{AreSpelled, MayHaveNext}
use Rattle.walter_engine.specs.Effects.{AreCalls}
use Rattle.walter_engine.specs.Stores.{IsKept, IsLeft}
use Rattle.walter_checkpoint.specs.Books.{disk_of, shape_of, left_of, IsSameBook, HasRoom, HasRoomBehind}
use Rattle.walter_checkpoint.specs.declared.book.Book.{Book}
use Rattle.walter_machine.specs.Comings.{IsSized, IsFaulty}
use Rattle.walter_machine.specs.Machines.{catalog_in, site_in, tables_in, is_up, HasStanding, IsCounted, IsSameSite}
use Rattle.walter_machine.specs.Readiness.{rec_in, came_in, IsReadyFor}
use Rattle.walter_machine.specs.declared.machine.Machine.{Machine}
use Rattle.walter_machine.specs.declared.ready.Ready.{Ready}
use Rattle.walter_packet.specs.Framed.{FramedBytes, frame_of}
use Rattle.walter_record.specs.Spelling.{record_spelled, AreInRange}
use Rattle.walter_rules.specs.Layouts.{Layout, header_of, format_at, need_of}
use Rattle.walter_rules.specs.Standing.{Standing, stands_after, up_after}
use Rattle.walter_rules.specs.Trails.{Comes, failure, fullness, want}
use Rattle.walter_rules.specs.declared.entry.Came.{Came}
use Rattle.walter_rules.specs.declared.event.Event.{Event}
use Rattle.walter_rules.specs.declared.event.Event.TheVariants.{Given}
use Rattle.walter_rules.specs.declared.event.Input.TheVariants.{Tick}
use Rattle.walter_rules.specs.declared.outcome.Outcome.{Outcome}
use Rattle.walter_rules.specs.declared.outcome.Outcome.TheVariants.{Taken}
use Rattle.walter_tables.specs.Folding.{IsTidy}

-- the disk tells what it told, and the book is as before, but for its room
pub record IsSameButRoom {D : Type 0} {g : Ghosts D} (old new : Book D g) : Type 0 where
  pub disk : g.known (disk_of new) ≡ g.known (disk_of old)
  pub book : IsSameBook old new

-- the spelling of a record in the format, for which the book has room
pub record IsSpelling {D : Type 0} {g : Ghosts D} (format : Format) (book : Book D g) (rec : Record)
    (body : List ℕ) : Type 0 where
  pub is : body ≡ record_spelled format rec
  pub ranges : AreInRange rec
  pub room : HasRoom book (length body)

-- of a record where there is one
abbrev pub IsSpellingIfAny : {D : Type 0} {g : Ghosts D} → Format → Book D g → Option Record → Option (List ℕ) → Type 0
IsSpellingIfAny format book None None = Unit {0}
IsSpellingIfAny format book None (Some body) = ⊥
IsSpellingIfAny format book (Some rec) None = ⊥
IsSpellingIfAny format book (Some rec) (Some body) = IsSpelling format book rec body

-- and there is room for it behind a pack too
abbrev pub HasRoomIfAny : {D : Type 0} {g : Ghosts D} → Book D g → Option (List ℕ) → Type 0
HasRoomIfAny book None = Unit {0}
HasRoomIfAny book (Some body) = HasRoomBehind book (length body)

-- what comes of a record that needs more than is left
pub record IsOverflow (format : Format) (event : Event) (ready : Ready) (left : ℕ) (outcome : Outcome) : Type 0 where
  pub rec : Record
  pub is : rec_in ready ≡ Some rec
  pub less : left < need_of format rec
  pub outcome_is : outcome ≡ fullness event (need_of format rec) left

-- What comes of what is ready, where so many bytes are left: what is to come; or memory ran out, or its record met a
-- fault or found no place.
abbrev pub IsOutcomeOf : Format → Event → Ready → ℕ → Outcome → Type 0
IsOutcomeOf format event ready left outcome =
    (outcome ≡ (came_in ready).outcome)
    ⊎ (outcome ≡ want event)
    ⊎ ((rec : Record) × (outcome ≡ failure event rec))
    ⊎ IsOverflow format event ready left outcome

-- the format is in force behind the records of a site that stands so
abbrev pub IsFormatAt : Format → Layout → Standing → Type 0
IsFormatAt format layout S = format ≡ format_at (header_of layout) S.records

-- What is ready came to this at a site over this book, with these frames of what is to be put out; and what it left: the
-- outcome is one of these, and the machine and the book stand as it leaves them. A crash at any moment of it leaves the
-- records from before, with the one that the rule brings behind them or without. Rows that are folded stay so at a tick.
pub record Writes {D : Type 0} (g : Ghosts D) (format : Format) (old new : Machine) (before now : Book D g)
    (event : Event) (ready : Ready) (came : Came) (frames : List FramedBytes) : Type 0 where
  pub comes : (layout : Layout) (S : Standing) → HasStanding old S → IsCounted old S (rec_in ready)
      → IsReadyFor (header_of layout) (catalog_in old) (site_in old) (tables_in old) S event ready
      → IsFormatAt format layout S → AreSpelled (header_of layout) (catalog_in old).sites S → IsKept layout S before
      → Comes (catalog_in old) layout (site_in old) S event came
  pub leaves : (layout : Layout) (S : Standing) → HasStanding old S → IsCounted old S (rec_in ready)
      → IsReadyFor (header_of layout) (catalog_in old) (site_in old) (tables_in old) S event ready
      → IsFormatAt format layout S → AreSpelled (header_of layout) (catalog_in old).sites S → IsKept layout S before
      → IsLeft layout new (stands_after (catalog_in old) (site_in old) S event came) now
  pub any_moment : (layout : Layout) (S : Standing)
      → IsReadyFor (header_of layout) (catalog_in old) (site_in old) (tables_in old) S event ready
      → IsFormatAt format layout S → IsKept layout S before
      → LeavesOnly g.moment g.left_since (disk_of before) (disk_of now)
      (MayHaveNext (catalog_in old) layout (site_in old) S event None)
  pub outcome : IsOutcomeOf format event ready (left_of before) came.outcome
  pub up : is_up new ≡ up_after event came.outcome (is_up old)
  pub sent : (came_in ready).sends ≡ [] → came.sends ≡ []
  pub wrote : came.outcome ≡ Taken → came.wrote ≡ rec_in ready
  pub untouched : rec_in ready ≡ None → disk_of now ≡ disk_of before
  pub shape : shape_of now ≡ shape_of before
  pub sized : IsSized (catalog_in old).sites came
  pub framed : frames ≡ map (λ s. frame_of (catalog_in old).sites s.1) came.sends
  pub none_dropped : came.dropped ≡ 0
  pub none_kept : came.kept ≡ None
  pub faults : IsFaulty came (g.known (disk_of before)).faults (g.known (disk_of now)).faults
  pub arms : (g.known (disk_of now)).arms ≡ (g.known (disk_of before)).arms
  pub tells : is_some (g.known (disk_of now)).reads ≡ is_some (g.known (disk_of before)).reads
  pub device : AreCalls came (g.device_calls (disk_of before)) (g.device_calls (disk_of now))
  pub tidy : event ≡ Given Tick → IfSome (tables_in old) IsTidy → IfSome (tables_in new) IsTidy
  pub same : IsSameSite old new
