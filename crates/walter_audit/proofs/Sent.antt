-- Where each transaction that a site received is of the site that it was received of, the records are read as they are.
use Rattle.std.proofs.Common.{◌≡◌, ℕ, suc, List, [], ◌∷◌, map, slice_get, Some, refl, sym}
use Rattle.walter_base.specs.declared.catalog.Catalog.{Catalog}
use Rattle.walter_base.specs.declared.message.Record.{Record}
use Rattle.walter_base.specs.declared.message.Record.TheVariants.{Got}
use Rattle.walter_base.specs.declared.names.SiteId.{SiteId}
use Rattle.walter_rules.specs.Knowledge.{Knowledge}
use Rattle.walter_rules.specs.Learning.{recorded}
use Rattle.walter_rules.specs.Records.{CanFollow, CanAllFollow}
use Rattle.walter_audit.specs.Contents.{as_sent}

-- what was received is of its sender
abbrev pub IsSent : Record → Type 0
IsSent (Got j seq tx) = tx.tid.site ≡ j
IsSent rec = Unit {0}

pub sent_same : (rec : Record) → IsSent rec → as_sent rec ≡ rec
sent_same (Got j seq tx) of = λ t. Got j seq (record tx { tid = record tx.tid { site = sym of t } })
sent_same rec of = refl

pub all_sent : (records : List Record) → ((p : ℕ) (rec : Record) → slice_get records p ≡ Some rec → IsSent rec)
    → map as_sent records ≡ records
all_sent [] each = refl
all_sent (rec ∷ records) each =
    let here = sent_same rec (each 0 rec refl) in
    let rest = all_sent records (λ p r at. each (suc p) r at) in
    λ t. here t ∷ rest t

-- as it is where the records can follow one another
pub sent_records : (catalog : Catalog) (i : SiteId) (K : Knowledge) (records : List Record)
    → CanAllFollow catalog i K records → map as_sent records ≡ records
sent_records catalog i K [] f = refl
sent_records catalog i K (rec ∷ records) f =
    let here = sent_same rec (one rec f.0) in
    let rest = sent_records catalog i (recorded catalog i (Some rec) K) records f.1 in
    λ t. here t ∷ rest t
  where
    one : (r : Record) → CanFollow catalog i K r → IsSent r
    one (Got j seq tx) can = can.sender
    one r can = tt
