-- What the first restart of a site comes to.
use Rattle.std.specs.Prelude.{◌≡◌, ◌≢◌, ◌⊎◌, ◌<◌, ◌≤◌, ℕ, List, [], ◌∷◌, length, Some, Result, Ok, Err}
use Rattle.walter_base.specs.declared.format.Format.{Format}
use Rattle.walter_base.specs.declared.message.Record.TheVariants.{Boot}
use Rattle.walter_base.specs.Sizes.{most_in}
use Rattle.walter_disk.specs.declared.disk.Disk.{Ghosts}
use Rattle.walter_disk.specs.Images.{Only}
use Rattle.walter_engine.specs.declared.answers.BeginFault.{BeginFault}
use Rattle.walter_engine.specs.declared.answers.BeginFault.TheVariants.{Failed, Foreign, Damaged, Used, NoMemory}
use Rattle.walter_checkpoint.specs.Areas.{Shape, HasContent, IsForeign}
use Rattle.walter_checkpoint.specs.Faults.{IsDamagedBook}
use Rattle.walter_checkpoint.specs.Loads.{new_size}
use Rattle.walter_engine.specs.Contents.{HasBodies, HasBook, headed}
use Rattle.walter_record.specs.Spelling.{record_spelled}
use Rattle.walter_rules.specs.Layouts.{Layout}

-- the disk tells these bytes, and a crash leaves nothing else
pub record HasOnly {D : Type 0} (g : Ghosts D) (bytes : List ℕ) (disk : D) : Type 0 where
  pub told : (g.known disk).reads ≡ Some bytes
  pub only : Only bytes (g.may_leave disk)

-- no record stands in these bytes: there are none, or they are a book without records
abbrev pub HasNoRecord : Shape → List ℕ → Type 0
HasNoRecord shape bytes = (bytes ≡ []) ⊎ HasBook shape bytes []

-- a book without records, or with the first Boot
abbrev pub MayHaveBoot : Shape → List ℕ → Type 0
MayHaveBoot shape image =
    HasContent shape image [] ⊎ HasContent shape image (record_spelled shape.header (Boot 1) ∷ [])

-- a book begins over these bytes with such a header: with the one that is asked for where there are none, or with theirs
abbrev pub BeginsBehind : Shape → List ℕ → Format → Type 0
BeginsBehind shape bytes header =
    ((bytes ≡ []) × (header ≡ shape.header))
    ⊎ ((shape.sites ≤ most_in header) × HasContent (headed header shape) bytes [])

-- What a crash within a first restart leaves of a disk with these bytes: these; where there were none, the first bytes of a
-- book of so many areas; where there was no record, none, or the first Boot.
abbrev pub MayHaveBegun : Shape → ℕ → List ℕ → List ℕ → Type 0
MayHaveBegun shape areas bytes image =
    (image ≡ bytes) ⊎ ((bytes ≡ []) × (length image ≤ new_size shape areas))
    ⊎ ((header : Format) × BeginsBehind shape bytes header × MayHaveBoot (headed header shape) image)

-- how the journal of a site that begins is laid out: as is asked for where there are no bytes, or as these are
abbrev pub IsLaidOver : List ℕ → (asked found : Layout) → Type 0
IsLaidOver bytes asked found = ((bytes ≡ []) × (found ≡ asked)) ⊎ HasBodies found bytes []

-- what a first restart answers over such bytes
abbrev pub IsBegun : Shape → List ℕ → Result (Unit {0}) BeginFault → Type 0
IsBegun shape bytes (Ok done) = HasNoRecord shape bytes
IsBegun shape bytes (Err Failed) = Unit {0}
IsBegun shape bytes (Err Foreign) = IsForeign shape.capacity shape.sites bytes × (bytes ≢ [])
IsBegun shape bytes (Err (Damaged at length)) = IsDamagedBook shape.capacity shape.sites bytes at length
IsBegun shape bytes (Err Used) = (bodies : List (List ℕ)) × HasBook shape bytes bodies × (bodies ≢ [])
IsBegun shape bytes (Err NoMemory) = Unit {0}

-- the disk's faults rise exactly where a first restart failed
abbrev pub IsFaultOfBegin : Result (Unit {0}) BeginFault → ℕ → ℕ → Type 0
IsFaultOfBegin (Err Failed) old new = old < new
IsFaultOfBegin result old new = new ≡ old
