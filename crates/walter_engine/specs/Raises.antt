-- What a restart comes to over a book that was loaded.
use Rattle.std.specs.Prelude.{◌≡◌, ◌⊎◌, ℕ, false, List, [], ◌∷◌, Option, Some, None, IfSome}
use Rattle.walter_base.specs.declared.catalog.Catalog.{Catalog}
use Rattle.walter_base.specs.declared.names.SiteId.{SiteId}
use Rattle.walter_checkpoint.specs.Books.{disk_of, shape_of, left_of, calls_of_pack, StandsFor, HasRoom, HasRoomBehind}
use Rattle.walter_checkpoint.specs.declared.book.Book.{Book}
use Rattle.walter_disk.specs.declared.disk.Disk.{Ghosts}
use Rattle.walter_engine.specs.declared.answers.RefusedRestart.{RefusedRestart}
use Rattle.walter_engine.specs.declared.answers.RefusedRestart.TheVariants as refused
use Rattle.walter_engine.specs.Contents.{AreSpelled, spelled}
use Rattle.walter_engine.specs.Effects.{TakesNoEpoch}
use Rattle.walter_engine.specs.Restarts.{left_over}
use Rattle.walter_engine.specs.Stores.{IsLeft, layout_of}
use Rattle.walter_journal.specs.declared.fault.JournalFault.{JournalFault}
use Rattle.walter_journal.specs.declared.fault.JournalFault.TheVariants as fault
use Rattle.walter_machine.specs.declared.machine.Machine.{Machine}
use Rattle.walter_machine.specs.States.{AreTold}
use Rattle.walter_rules.specs.declared.entry.Came.{Came}
use Rattle.walter_rules.specs.declared.event.Event.TheVariants.{Restart}
use Rattle.walter_rules.specs.declared.outcome.Outcome.{Outcome}
use Rattle.walter_rules.specs.declared.outcome.Outcome.TheVariants.{Failed, Memory, Refused}
use Rattle.walter_rules.specs.Layouts.{Layout, header_of}
use Rattle.walter_rules.specs.Standing.{Standing, stands_after}
use Rattle.walter_rules.specs.Trails.{Comes}

-- a site that is down stands so, and the bodies of its book, which is laid out so, are its records
pub record LiesIn {D : Type 0} {g : Ghosts D} (catalog : Catalog) (layout : Layout) (i : SiteId) (S : Standing)
    (book : Book D g) (bodies : List (List ℕ)) : Type 0 where
  pub down : S.up ≡ false
  pub told : AreTold catalog i S
  pub spellings : AreSpelled (header_of layout) catalog.sites S
  pub is : bodies ≡ spelled (header_of layout) S.records
  pub laid : layout_of book ≡ layout
  pub stands : StandsFor book bodies

-- A restart of such a site came to what it may, and left the machine and the book so. It was refused only behind the
-- last epoch, and takes none there.
pub record Raises {D : Type 0} {g : Ghosts D} (catalog : Catalog) (layout : Layout) (i : SiteId) (S : Standing)
    (came : Came) (why : Option RefusedRestart) (m : Machine) (book : Book D g) : Type 0 where
  pub comes : (came.outcome ≡ Refused) ⊎ Comes catalog layout i S Restart came
  pub leaves : IsLeft layout m (stands_after catalog i S Restart came) book
  pub last : IfSome why (λ cause. (cause ≡ refused.LastEpoch) × (S.knows.epoch ≡ 4294967295))
  pub takes_none : S.knows.epoch ≡ 4294967295 → TakesNoEpoch came

-- where none is ready over the bodies
abbrev pub hindered_by : Option RefusedRestart → Outcome
hindered_by None = Memory
hindered_by (Some cause) = Refused

-- where no journal was loaded
abbrev pub unloaded_by : JournalFault → Outcome × Option RefusedRestart
unloaded_by fault.Failed = (Failed, None)
unloaded_by fault.NoMemory = (Memory, None)
unloaded_by fault.Foreign = (Refused, Some refused.Foreign)
unloaded_by (fault.Damaged at length) = (Refused, Some (refused.Damaged at length))

-- how many calls a restart over these bodies makes before it writes its record: those of a pack, where there are any
abbrev pub calls_before : {D : Type 0} {g : Ghosts D} → Book D g → List (List ℕ) → ℕ
calls_before book [] = 0
calls_before {g = g} book (body ∷ bodies) =
    calls_of_pack (shape_of book) book.live (g.known (disk_of book)).size

-- Where there are bodies, all are packed; of one area nothing has changed.
pub record IsPacked {D : Type 0} {g : Ghosts D} (old new : Book D g) (bodies : List (List ℕ)) : Type 0 where
  pub layout : layout_of new ≡ layout_of old
  pub left : left_of new ≡ left_over (layout_of old) bodies
  pub stands : StandsFor old bodies → StandsFor new bodies
  pub room : (n : ℕ) → HasRoomBehind old n → HasRoom new n
  pub faultless : (g.known (disk_of new)).faults ≡ (g.known (disk_of old)).faults
