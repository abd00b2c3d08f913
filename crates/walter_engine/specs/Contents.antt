-- The journal of a site: what its records are, and what a crash leaves of them.
use Rattle.std.specs.Prelude.{◌≡◌, ◌⊎◌, ◌≤◌, ℕ, Bool, true, false, List, [], ◌∷◌, ◌++◌, map, Option, Some, None, IfSome, All}
use Rattle.walter_base.specs.declared.catalog.Catalog.{Catalog}
use Rattle.walter_base.specs.declared.message.Record.{Record}
use Rattle.walter_base.specs.declared.message.Record.TheVariants.{Format as FormatRecord}
use Rattle.walter_base.specs.Sizes.{most_in}
use Rattle.walter_base.specs.declared.names.SiteId.{SiteId}
use Rattle.walter_checkpoint.specs.Areas.{Shape, shape_by, HasTwo, HasContent}
use Rattle.walter_journal.specs.Layout as journal
use Rattle.walter_base.specs.declared.format.Format.{Format}
use Rattle.walter_base.specs.declared.format.Format.TheVariants.{Second}
use Rattle.walter_record.specs.Spelling.{record_spelled, HasRecordSpelling}
use Rattle.walter_rules.specs.declared.event.Event.{Event}
use Rattle.walter_rules.specs.Layouts.{Layout, one_area, two_areas, header_of, Placed, placed, format_at}
use Rattle.walter_rules.specs.Rule.{rule}
use Rattle.walter_rules.specs.Standing.{Standing, settled}

-- the bytes of a journal that is laid out so, with these bodies
abbrev pub HasBodies : Layout → List ℕ → List (List ℕ) → Type 0
HasBodies (one_area capacity header) bytes bodies = journal.HasContent header bytes bodies
HasBodies (two_areas capacity sites header) bytes bodies = HasTwo (shape_by capacity sites header) bytes bodies

-- a shape with a header that names this format
abbrev pub headed : Format → Shape → Shape
headed header shape = shape_by shape.capacity shape.sites header

-- the bytes of a book with these bodies, whose header names a format that has places for so many sites
pub record HasBook (shape : Shape) (bytes : List ℕ) (bodies : List (List ℕ)) : Type 0 where
  pub header : Format
  pub places : shape.sites ≤ most_in header
  pub content : HasContent (headed header shape) bytes bodies

-- a record in the format in force at its place, and the bodies of records behind a header that names this format
abbrev pub spelled_there : Placed → List ℕ
spelled_there it = record_spelled it.0 it.1

abbrev pub spelled : Format → List Record → List (List ℕ)
spelled header records = map spelled_there (placed header records)

-- the record says where the second format is in force that this begins
abbrev pub says_again : Record → Format → Bool
says_again FormatRecord Second = true
says_again rec format = false

-- a record that has a spelling where this format is in force, among so many sites, can stand there
pub record CanStandIn (format : Format) (sites : ℕ) (rec : Record) : Type 0 where
  pub spelling : HasRecordSpelling format sites rec
  pub once : says_again rec format ≡ false

-- each of them can stand at its place
abbrev pub HasSpellingThere : ℕ → Placed → Type 0
HasSpellingThere sites it = CanStandIn it.0 sites it.1

abbrev pub HaveSpellings : Format → ℕ → List Record → Type 0
HaveSpellings header sites records = All (HasSpellingThere sites) (placed header records)

-- a journal that is laid out so has these records
abbrev pub HasRecords : Layout → List ℕ → List Record → Type 0
HasRecords layout bytes records = HasBodies layout bytes (spelled (header_of layout) records)

-- with these records; or with the one in flight behind them, where one is
abbrev pub MayHaveRecords : Layout → List Record → Option Record → List ℕ → Type 0
MayHaveRecords layout records None image = HasRecords layout image records
MayHaveRecords layout records (Some rec) image =
    HasRecords layout image records ⊎ HasRecords layout image (records ++ rec ∷ [])

-- with one more record, where there is one
abbrev pub HasOneMore : Layout → List Record → Option Record → List ℕ → Type 0
HasOneMore layout records None image = ⊥
HasOneMore layout records (Some rec) image = HasRecords layout image (records ++ rec ∷ [])

-- What a crash within an event leaves: the records from before; or those that it finds, where it finds the one in flight or
-- doesn't, with the one that the rule brings behind them.
abbrev pub MayHaveNext : Catalog → Layout → SiteId → Standing → Event → Option Record → List ℕ → Type 0
MayHaveNext catalog layout i S event kept image =
    MayHaveRecords layout S.records S.flight image
    ⊎ HasOneMore layout (settled catalog i kept S).records
    (rule (header_of layout) catalog i (settled catalog i kept S) event).wrote image

-- each record of a site among so many has a spelling at its place, and the one in flight behind them
pub record AreSpelled (header : Format) (sites : ℕ) (S : Standing) : Type 0 where
  pub records : HaveSpellings header sites S.records
  pub flight : IfSome S.flight (CanStandIn (format_at header S.records) sites)
