-- The first record, and the first pair, of which something is so: by site and then by place (docs/AUDIT.md, "Reasons").
use Rattle.std.specs.Prelude.{◌≡◌, ◌<◌, ◌⊎◌, ℕ, List, slice_get, Some}
use Rattle.walter_base.specs.declared.message.Record.{Record}
use Rattle.walter_base.specs.declared.names.SiteId.{SiteId}
use Rattle.walter_audit.specs.declared.finding.Named.{Named}
use Rattle.walter_audit.specs.Journals.{Journals, record_at}

-- a record before another, by site and then by place; a pair before another, by the first and then by the second
abbrev pub IsEarlier : Named → Named → Type 0
IsEarlier a b = (a.site.0 < b.site.0) ⊎ ((a.site ≡ b.site) × (a.index < b.index))

abbrev pub IsBefore : Named → Named → Named → Named → Type 0
IsBefore a b c d = IsEarlier a c ⊎ ((a ≡ c) × IsEarlier b d)

-- what is asked is so of the record at this place of a site
abbrev pub IsSoAt : (Named → Record → Type 0) → SiteId → List Record → ℕ → Type 0
IsSoAt holds site records index = (rec : Record) × (slice_get records index ≡ Some rec)
    × holds (record { site = site; index = index }) rec

-- and of none before it there
pub record IsFirstPlace (holds : Named → Record → Type 0) (site : SiteId) (records : List Record)
    (index : ℕ) : Type 0 where
  pub so : IsSoAt holds site records index
  pub least : (k : ℕ) → k < index → ¬ IsSoAt holds site records k

-- it is so of the record of this name
abbrev pub IsSo : (Named → Record → Type 0) → Journals → Named → Type 0
IsSo holds journals a = (rec : Record) × (record_at journals a ≡ Some rec) × holds a rec

-- what is asked of two records is so of this one and another; and of these two
abbrev pub IsSoBeside : (Named → Record → Named → Record → Type 0) → Journals → Named → Record → Type 0
IsSoBeside pairs journals a first = (b : Named) × IsSo (λ c second. pairs a first c second) journals b

abbrev pub IsSoPair : (Named → Record → Named → Record → Type 0) → Journals → Named → Named → Type 0
IsSoPair pairs journals a b = IsSo (λ c first. IsSo (λ d second. pairs c first d second) journals b) journals a

-- it is so of this record, and of none before it
pub record IsFirst (P : Named → Type 0) (a : Named) : Type 0 where
  pub so : P a
  pub least : (c : Named) → P c → ¬ IsEarlier c a

-- it is so of this pair, and of none before it
pub record IsFirstPair (P : Named → Named → Type 0) (a b : Named) : Type 0 where
  pub so : P a b
  pub least : (c d : Named) → P c d → ¬ IsBefore c d a b
