-- What the journals of all sites hold, as records, and how many commits of each site stand in one (docs/AUDIT.md).
use Rattle.std.specs.Prelude.{◌≡◌, ℕ, zero, suc, ◌+◌, ◌-◌, nat_eq, Bool, false, List, [], ◌∷◌, count_by, flat_map, length, take, slice_get, unwrap_or, Option, Some, None}
use Rattle.std.specs.List.{list_all}
use Rattle.walter_base.specs.declared.catalog.Catalog.{Catalog}
use Rattle.walter_base.specs.declared.message.Record.{Record}
use Rattle.walter_base.specs.declared.message.Record.TheVariants.{Own, Seen}
use Rattle.walter_base.specs.declared.names.SiteId.{SiteId}
use Rattle.walter_base.specs.declared.names.Tid.{Tid}
use Rattle.walter_base.specs.declared.transaction.Tx.{Tx}
use Rattle.walter_base.specs.Names.{same_site}
use Rattle.walter_base.specs.Vectors.{entry_at}
use Rattle.walter_rules.specs.Knowledge.{sites}
use Rattle.walter_audit.specs.declared.finding.Named.{Named}

-- the records of each site, in order
abbrev pub Journals : Type 0
Journals = SiteId → List Record

-- the record of this name
abbrev pub record_at : Journals → Named → Option Record
record_at journals a = slice_get (journals a.site) a.index

-- it is its site's own commit of this number
abbrev pub IsOwn : Journals → Named → ℕ → Tx → Type 0
IsOwn journals a seq tx = record_at journals a ≡ Some (Own seq tx)

-- the site has an own commit of this number
abbrev pub HasOwn : Journals → SiteId → ℕ → Type 0
HasOwn journals j seq = (index : ℕ) × (tx : Tx) × (slice_get (journals j) index ≡ Some (Own seq tx))

-- the own commits of these records, in order, and the one of this number
abbrev pub own_of : Record → List Tx
own_of (Own seq tx) = tx ∷ []
own_of rec = []

abbrev pub own_at : Journals → SiteId → ℕ → Option Tx
own_at journals j seq = slice_get (flat_map own_of (journals j)) (seq - 1)

-- the own commit of this number among these records, counted from 1
abbrev pub made_in : List Record → ℕ → Option Tx
made_in records zero = None
made_in records (suc place) = slice_get (flat_map own_of records) place

-- the own commits of each site are numbered from 1 on, in order
abbrev pub AreNumbered : Journals → Type 0
AreNumbered journals = (i : SiteId) (index seq : ℕ) (tx : Tx) → slice_get (journals i) index ≡ Some (Own seq tx)
    → seq ≡ length (flat_map own_of (take index (journals i))) + 1

-- and each is of its site
abbrev pub AreAtHome : Journals → Type 0
AreAtHome journals = (i : SiteId) (index seq : ℕ) (tx : Tx) → slice_get (journals i) index ≡ Some (Own seq tx)
    → tx.tid.site ≡ i

-- the start of each own commit among these records has a number for each of so many sites
abbrev pub AreAmong : ℕ → List Record → Type 0
AreAmong sites records = (index seq : ℕ) (tx : Tx) → slice_get records index ≡ Some (Own seq tx)
    → length tx.start ≡ sites

-- the records of each site, where these are theirs, from the first site on
abbrev pub journals_of : List (List Record) → Journals
journals_of all k = unwrap_or (slice_get all k.0) []

-- the transaction that a record commits at its site, by its name
abbrev pub named_by : Option Tx → List Tid
named_by None = []
named_by (Some tx) = tx.tid ∷ []

abbrev pub record_tids : Journals → Record → List Tid
record_tids journals (Own seq tx) = tx.tid ∷ []
record_tids journals (Seen j seq) = named_by (own_at journals j seq)
record_tids journals rec = []

-- whether a record of site i commits one of site k's there: its own, or another's that it sees
abbrev pub commits_of : SiteId → SiteId → Record → Bool
commits_of i k (Own seq tx) = same_site i k
commits_of i k (Seen j seq) = same_site j k
commits_of i k rec = false

-- how many commits of site k these records of site i tell
abbrev pub count : SiteId → List Record → SiteId → ℕ
count i records k = count_by (commits_of i k) records

-- whether the start is the counts of these records of site i
abbrev pub are_counts : Catalog → SiteId → List Record → List ℕ → Bool
are_counts catalog i records start = list_all (λ k. nat_eq (count i records k) (entry_at start k)) (sites catalog)
