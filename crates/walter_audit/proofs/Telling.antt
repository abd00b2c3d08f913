-- What records tell of which each can follow those before it: how many commits of each site, and which transactions.
use Rattle.std.proofs.Common.{◌≡◌, ◌≢◌, ◌+◌, ◌≤◌, ℕ, zero, suc, List, [], ◌∷◌, ◌++◌, take, slice_get, Some, refl, ap, sym, ◌∙◌, subst, arith, inl, inr, if◌then◌else◌, true, false}
use Rattle.std.specs.Prelude.{Contains, flat_map, count_by, Bool}
use Rattle.std.proofs.lemmas.List.{append-nil, append_assoc}
use Rattle.std.proofs.lemmas.Option.{same_Some}
use Rattle.walter_base.specs.declared.catalog.Catalog.{Catalog}
use Rattle.walter_base.specs.declared.message.Record.{Record}
use Rattle.walter_base.specs.declared.message.Record.TheVariants.{Boot, Own, Got, Seen, Prepared, Released, SlowBegin, SlowEnd, Marks, Format as FormatRecord}
use Rattle.walter_base.specs.declared.names.SiteId.{SiteId}
use Rattle.walter_base.specs.declared.transaction.Tx.{Tx}
use Rattle.walter_base.specs.Names.{same_site}
use Rattle.walter_psi.proofs.Lists.{Contains-flat_map, Contains-flat_map_from, Contains-one, Contains-nil, contains_at, place_of}
use Rattle.walter_rules.specs.declared.held.Held.{Held}
use Rattle.walter_rules.specs.Knowledge.{Knowledge, fresh}
use Rattle.walter_rules.specs.Learning.{recorded}
use Rattle.walter_rules.specs.Records.{CanFollow, CanAllFollow, replayed}
use Rattle.walter_rules.proofs.RuleTests.{peer_true}
use Rattle.walter_agreement.proofs.Cases.{site_cases}
use Rattle.walter_refinement.proofs.SameReads.{count_by-append}
use Rattle.walter_audit.specs.Journals.{commits_of, count}

-- the transaction that a record adds to the log
abbrev pub held_in : Record → List Held
held_in (Own seq tx) = record { seq = seq; tx = tx } ∷ []
held_in (Got j seq tx) = record { seq = seq; tx = tx } ∷ []
held_in (Boot epoch) = []
held_in (Seen j seq) = []
held_in (Prepared j n tid objects) = []
held_in (Released j n) = []
held_in (SlowBegin n tx) = []
held_in (SlowEnd n) = []
held_in (Marks durable visible) = []
held_in FormatRecord = []

log_one : (catalog : Catalog) (i : SiteId) (K : Knowledge) (rec : Record)
    → (recorded catalog i (Some rec) K).log ≡ K.log ++ held_in rec
log_one catalog i K (Own seq tx) = refl
log_one catalog i K (Got j seq tx) = refl
log_one catalog i K (Boot epoch) = sym (append-nil K.log)
log_one catalog i K (Seen j seq) = sym (append-nil K.log)
log_one catalog i K (Prepared j n tid objects) = sym (append-nil K.log)
log_one catalog i K (Released j n) = sym (append-nil K.log)
log_one catalog i K (SlowBegin n tx) = sym (append-nil K.log)
log_one catalog i K (SlowEnd n) = sym (append-nil K.log)
log_one catalog i K (Marks durable visible) = sym (append-nil K.log)
log_one catalog i K FormatRecord = sym (append-nil K.log)

-- the log is what the records add
pub log_told : (catalog : Catalog) (i : SiteId) (K : Knowledge) (records : List Record)
    → (replayed catalog i K records).log ≡ K.log ++ flat_map held_in records
log_told catalog i K [] = sym (append-nil K.log)
log_told catalog i K (rec ∷ records) =
    log_told catalog i (recorded catalog i (Some rec) K) records
    ∙ (ap (λ l. l ++ flat_map held_in records) (log_one catalog i K rec)
    ∙ append_assoc K.log (held_in rec) (flat_map held_in records))

-- what is committed is what the records count
abbrev as_one : Bool → ℕ
as_one true = 1
as_one false = 0

count_one : (n : ℕ) (b : Bool) → (if b then n + 1 else n) ≡ n + as_one b
count_one n true = refl
count_one n false = omega arith

committed_one : (catalog : Catalog) (i : SiteId) (K : Knowledge) (rec : Record) (k : SiteId)
    → (recorded catalog i (Some rec) K).committed k ≡ K.committed k + as_one (commits_of i k rec)
committed_one catalog i K (Own seq tx) k = count_one (K.committed k) (same_site i k)
committed_one catalog i K (Seen j seq) k = count_one (K.committed k) (same_site j k)
committed_one catalog i K (Boot epoch) k = omega arith
committed_one catalog i K (Got j seq tx) k = omega arith
committed_one catalog i K (Prepared j n tid objects) k = omega arith
committed_one catalog i K (Released j n) k = omega arith
committed_one catalog i K (SlowBegin n tx) k = omega arith
committed_one catalog i K (SlowEnd n) k = omega arith
committed_one catalog i K (Marks durable visible) k = omega arith
committed_one catalog i K FormatRecord k = omega arith

count_cons : (i k : SiteId) (rec : Record) (records : List Record)
    → count i (rec ∷ records) k ≡ as_one (commits_of i k rec) + count i records k
count_cons i k rec records =
    let sums = count_by-append (commits_of i k) (rec ∷ []) records in
    let one : count_by (commits_of i k) (rec ∷ []) ≡ as_one (commits_of i k rec) = elim (commits_of i k rec) as
    (λ b. 0 + (if b then 1 else 0) ≡ as_one b) [ true ↦ omega arith | false ↦ omega arith ] in
    omega (arith, sums, one)

pub committed_told : (catalog : Catalog) (i : SiteId) (K : Knowledge) (records : List Record) (k : SiteId)
    → (replayed catalog i K records).committed k ≡ K.committed k + count i records k
committed_told catalog i K [] k = omega arith
committed_told catalog i K (rec ∷ records) k =
    let rest = committed_told catalog i (recorded catalog i (Some rec) K) records k in
    let one = committed_one catalog i K rec k in
    let cons = count_cons i k rec records in
    omega (arith, rest, one, cons)

-- counts rise with the records
pub count_front : (i k : SiteId) (records : List Record) (p : ℕ) → count i (take p records) k ≤ count i records k
count_front i k records zero = omega arith
count_front i k [] (suc p) = omega arith
count_front i k (rec ∷ records) (suc p) =
    let rest = count_front i k records p in
    let a = count_cons i k rec (take p records) in
    let b = count_cons i k rec records in
    omega (arith, rest, a, b)

-- the record at a place can follow those before it
pub follows_at : (catalog : Catalog) (i : SiteId) (K : Knowledge) (records : List Record) (p : ℕ) (rec : Record)
    → CanAllFollow catalog i K records → slice_get records p ≡ Some rec
    → CanFollow catalog i (replayed catalog i K (take p records)) rec
follows_at catalog i K [] p rec follow at = absurd cc
follows_at catalog i K (first ∷ records) zero rec follow at =
    subst (λ r. CanFollow catalog i K r) (same_Some first rec at) follow.0
follows_at catalog i K (first ∷ records) (suc p) rec follow at =
    follows_at catalog i (recorded catalog i (Some first) K) records p rec follow.1 at

-- one more is counted behind a record that commits one
pub count_behind : (i k : SiteId) (records : List Record) (p : ℕ) (rec : Record) → slice_get records p ≡ Some rec
    → commits_of i k rec ≡ true → count i (take p records) k + 1 ≤ count i records k
count_behind i k [] p rec at is = absurd cc
count_behind i k (first ∷ records) zero rec at is =
    let one : commits_of i k first ≡ true = ap (commits_of i k) (same_Some first rec at) ∙ is in
    let a = count_cons i k first records in
    let e : as_one (commits_of i k first) ≡ 1 = ap as_one one in
    omega (arith, a, e)
count_behind i k (first ∷ records) (suc p) rec at is =
    let rest = count_behind i k records p rec at is in
    let a = count_cons i k first (take p records) in
    let b = count_cons i k first records in
    omega (arith, rest, a, b)

module _ (catalog : Catalog) (i : SiteId) (records : List Record) (follow : CanAllFollow catalog i fresh records) where
  -- an own commit is of the site
  pub own_here : (p seq : ℕ) (tx : Tx) → slice_get records p ≡ Some (Own seq tx) → tx.tid.site ≡ i
  own_here p seq tx at = (follows_at catalog i fresh records p (Own seq tx) follow at).here

  -- its number is how many there are with it
  pub own_number : (p seq : ℕ) (tx : Tx) → slice_get records p ≡ Some (Own seq tx)
      → seq ≡ count i (take p records) i + 1
  own_number p seq tx at =
      let next = (follows_at catalog i fresh records p (Own seq tx) follow at).next in
      let told = committed_told catalog i fresh (take p records) i in
      omega (arith, next, told)

  -- what is received is another site's, and of that one
  pub got_there : (p : ℕ) (j : SiteId) (seq : ℕ) (tx : Tx) → slice_get records p ≡ Some (Got j seq tx)
      → (j ≢ i) × (tx.tid.site ≡ j)
  got_there p j seq tx at =
      let f = follows_at catalog i fresh records p (Got j seq tx) follow at in
      ((peer_true catalog i j f.peer).1, f.sender)

  -- what is seen is another site's, and counted
  pub seen_there : (p : ℕ) (j : SiteId) (seq : ℕ) → slice_get records p ≡ Some (Seen j seq)
      → (j ≢ i) × (1 ≤ seq) × (seq ≤ count i records j)
  seen_there p j seq at =
      let f = follows_at catalog i fresh records p (Seen j seq) follow at in
      let told = committed_told catalog i fresh (take p records) j in
      let next = f.next in
      let is : commits_of i j (Seen j seq) ≡ true = elim (site_cases j j) [ inl same ↦ same.0 | inr apart ↦ absurd (apart.1 refl) ] in
      let behind = count_behind i j records p (Seen j seq) at is in
      ((peer_true catalog i j f.peer).1, omega (arith, next, told), omega (arith, next, told, behind))

  -- what the log has of the site itself is an own commit
  pub held_own : (h : Held) → Contains (flat_map held_in records) h → h.tx.tid.site ≡ i
      → (p : ℕ) × (slice_get records p ≡ Some (Own h.seq h.tx))
  held_own h c here =
      let from = Contains-flat_map_from held_in records h c in
      let place = place_of records from.0 from.1 in
      (place.0, place.1 ∙ ap (λ r. Some r) (by from.0 place.0 place.1 from.2))
    where
      by : (rec : Record) (p : ℕ) → slice_get records p ≡ Some rec → Contains (held_in rec) h
          → rec ≡ Own h.seq h.tx
      by (Own seq tx) p at in_it =
          let e : record { seq = seq; tx = tx } ≡ h = Contains-one (record { seq = seq; tx = tx }) h in_it in
          ap (λ (z : Held). Own z.seq z.tx) e
      by (Got j seq tx) p at in_it =
          let e : record { seq = seq; tx = tx } ≡ h = Contains-one (record { seq = seq; tx = tx }) h in_it in
          let there = got_there p j seq tx at in
          absurd (there.0 (sym there.1 ∙ (ap (λ (z : Held). z.tx.tid.site) e ∙ here)))
      by (Boot epoch) p at in_it = absurd (Contains-nil h in_it)
      by (Seen j seq) p at in_it = absurd (Contains-nil h in_it)
      by (Prepared j n tid objects) p at in_it = absurd (Contains-nil h in_it)
      by (Released j n) p at in_it = absurd (Contains-nil h in_it)
      by (SlowBegin n tx) p at in_it = absurd (Contains-nil h in_it)
      by (SlowEnd n) p at in_it = absurd (Contains-nil h in_it)
      by (Marks durable visible) p at in_it = absurd (Contains-nil h in_it)
      by FormatRecord p at in_it = absurd (Contains-nil h in_it)

-- the log has what is received, and what is committed here
pub got_held : (records : List Record) (p : ℕ) (j : SiteId) (seq : ℕ) (tx : Tx)
    → slice_get records p ≡ Some (Got j seq tx) → Contains (flat_map held_in records) (record { seq = seq; tx = tx })
got_held records p j seq tx at = Contains-flat_map held_in records (Got j seq tx) (record { seq = seq; tx = tx })
    (contains_at records (Got j seq tx) p at) (contains_at (record { seq = seq; tx = tx } ∷ []) (record { seq = seq; tx = tx }) 0 refl)

pub own_held : (records : List Record) (p seq : ℕ) (tx : Tx)
    → slice_get records p ≡ Some (Own seq tx) → Contains (flat_map held_in records) (record { seq = seq; tx = tx })
own_held records p seq tx at = Contains-flat_map held_in records (Own seq tx) (record { seq = seq; tx = tx })
    (contains_at records (Own seq tx) p at) (contains_at (record { seq = seq; tx = tx } ∷ []) (record { seq = seq; tx = tx }) 0 refl)
