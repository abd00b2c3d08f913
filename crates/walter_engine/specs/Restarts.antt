-- What a restart comes to over what the disk has, whoever left it there.
use Rattle.std.specs.Prelude.{◌≡◌, ◌≢◌, ◌⊎◌, ◌+◌, ◌-◌, ◌/◌, ◌<◌, ◌≤◌, ℕ, List, [], length, Option, Some, None}
use Rattle.walter_base.specs.declared.catalog.Catalog.{Catalog}
use Rattle.walter_base.specs.declared.format.Format.{Format}
use Rattle.walter_base.specs.declared.message.Record.{Record}
use Rattle.walter_base.specs.declared.message.Record.TheVariants.{Boot}
use Rattle.walter_base.specs.declared.names.SiteId.{SiteId}
use Rattle.walter_base.specs.Sizes.{most_in}
use Rattle.walter_engine.specs.declared.answers.RefusedRestart.{RefusedRestart}
use Rattle.walter_engine.specs.declared.answers.RefusedRestart.TheVariants as refused
use Rattle.walter_engine.specs.Effects.{Tell, IsRefusedOver}
use Rattle.walter_engine.specs.Contents.{HasBodies, headed}
use Rattle.walter_engine.specs.Stores.{layout_by}
use Rattle.walter_checkpoint.specs.Areas.{Shape, IsForeign}
use Rattle.walter_checkpoint.specs.Faults.{IsDamagedBook}
use Rattle.walter_checkpoint.specs.Packs.{renewed_by}
use Rattle.walter_checkpoint.specs.declared.book.Live.{Live}
use Rattle.walter_journal.specs.Layout.{end_behind}
use Rattle.walter_rules.specs.declared.entry.Came.{Came}
use Rattle.walter_rules.specs.declared.outcome.Outcome.{Outcome}
use Rattle.walter_rules.specs.declared.outcome.Outcome.TheVariants.{Taken, Failed, Full, Memory, Refused}
use Rattle.walter_rules.specs.Knowledge.{fresh}
use Rattle.walter_rules.specs.Layouts.{Layout, one_area, two_areas, header_of}
use Rattle.walter_rules.specs.Records.{replayed}

-- what comes of bodies, where so many bytes are left: they spell records that can follow each other, and the next epoch
-- is written behind these, or its 10 bytes find no place; or it is refused for what they are; or a fault or want of memory
-- comes first
abbrev pub ComesOf : Format → Catalog → SiteId → ℕ → List (List ℕ) → Option Record → Option RefusedRestart → Outcome → Type 0
ComesOf header catalog i left bodies wrote why Taken = (records : List Record) × Tell header catalog i bodies records
    × (wrote ≡ Some (Boot ((replayed catalog i fresh records).epoch + 1)))
ComesOf header catalog i left bodies wrote why (Full need free) =
    (records : List Record) × Tell header catalog i bodies records × (left < 10) × (need ≡ 10) × (free ≡ left)
ComesOf header catalog i left bodies wrote why Refused =
    (cause : RefusedRestart) × (why ≡ Some cause) × IsRefusedOver header catalog i bodies cause
ComesOf header catalog i left bodies wrote why Failed = why ≡ None
ComesOf header catalog i left bodies wrote why Memory = why ≡ None
ComesOf header catalog i left bodies wrote why outcome = ⊥

-- how many bytes are left behind bodies: of two areas, where all are packed
abbrev pub left_over : Layout → List (List ℕ) → ℕ
left_over (one_area capacity header) bodies = capacity - end_behind bodies
left_over (two_areas capacity sites header) bodies = (capacity - 9) / 2 - length (renewed_by sites bodies)

-- no book can be loaded from these bytes: they are none, or a damaged one
abbrev pub IsUnloadable : Shape → List ℕ → Option RefusedRestart → Type 0
IsUnloadable shape bytes why =
    ((why ≡ Some refused.Foreign) × IsForeign shape.capacity shape.sites bytes)
    ⊎ ((at claimed : ℕ) × (why ≡ Some (refused.Damaged at claimed))
    × IsDamagedBook shape.capacity shape.sites bytes at claimed)

-- What a restart comes to over a disk that reads so, of which a crash leaves these images: it goes by no bodies, where
-- there are no bytes, and makes a book of the layout that is asked for; else by those that one of the images has, in the
-- layout that it has, or it is refused, since that has none; or a fault or want of memory comes first.
pub data RestartsOver (catalog : Catalog) (shape : Shape) (asked : Layout) (i : SiteId) (bytes : List ℕ)
    (images : List ℕ → Type 0) (came : Came) (why : Option RefusedRestart) : Type 0 where
  hindered : (came.outcome ≡ Failed) ⊎ (came.outcome ≡ Memory) → why ≡ None
      → RestartsOver catalog shape asked i bytes images came why
  over_none : bytes ≡ [] → ComesOf (header_of asked) catalog i (left_over asked []) [] came.wrote why came.outcome
      → RestartsOver catalog shape asked i bytes images came why
  over_book : (found : List ℕ) (header : Format) (live : Live) (bodies : List (List ℕ)) → bytes ≢ [] → images found
      → shape.sites ≤ most_in header → HasBodies (layout_by (headed header shape) live) found bodies
      → ComesOf header catalog i (left_over (layout_by (headed header shape) live) bodies) bodies
      came.wrote why came.outcome
      → RestartsOver catalog shape asked i bytes images came why
  over_others : (found : List ℕ) → bytes ≢ [] → images found → IsUnloadable shape found why → came.outcome ≡ Refused
      → RestartsOver catalog shape asked i bytes images came why
