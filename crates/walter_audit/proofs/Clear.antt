-- Journals in which no reason stands: what they have of each other.
use Rattle.std.proofs.Common.{◌≡◌, ◌≢◌, ◌+◌, ◌-◌, ◌<◌, ◌≤◌, ◌⊎◌, ◌&&◌, ℕ, zero, suc, List, [], ◌∷◌, ◌++◌, length, take, slice_get, Some, None, not, refl, ap, sym, ◌∙◌, subst, arith, inl, inr, if◌then◌else◌, true, false, option_map}
use Rattle.std.specs.Prelude.{Option, Bool, Contains, flat_map, filter_map}
use Rattle.std.specs.List.{list_any, range_with_len, cons_option}
use Rattle.std.proofs.lemmas.Bool.{cases_Bool, cases_eq, cases_order, and_parts}
use Rattle.std.proofs.lemmas.List.{take-take}
use Rattle.std.proofs.lemmas.List.Elements.{Contains-append_left}
use Rattle.std.proofs.lemmas.Option.{same_Some, slice_get_within}
use Rattle.walter_base.specs.declared.catalog.Catalog.{Catalog}
use Rattle.walter_base.specs.declared.message.Record.{Record}
use Rattle.walter_base.specs.declared.message.Record.TheVariants.{Boot, Own, Got, Seen, Prepared, Released, SlowBegin, SlowEnd, Marks, Format as FormatRecord}
use Rattle.walter_base.specs.declared.names.SiteId.{SiteId}
use Rattle.walter_base.specs.declared.names.Tid.{Tid}
use Rattle.walter_base.specs.declared.transaction.Tx.{Tx}
use Rattle.walter_base.specs.Names.{same_site}
use Rattle.walter_base.specs.Vectors.{entry_at}
use Rattle.walter_base.proofs.NameTests.{same_site_refl}
use Rattle.walter_psi.proofs.Lists.{Contains-nil, Contains-one, Contains-flat_map, Contains-flat_map_from, contains_at, place_of, slice_get-take, slice_get-take_within}
use Rattle.walter_rules.specs.declared.held.Held.{Held}
use Rattle.walter_rules.specs.Knowledge.{Knowledge, fresh}
use Rattle.walter_rules.specs.Learning.{recorded}
use Rattle.walter_rules.specs.Log.{is_of, of_site, commit_at}
use Rattle.walter_rules.specs.Records.{CanFollow, CanAllFollow, replayed}
use Rattle.walter_rules.proofs.Membership.{in_cases, first_in, later_in, in_range}
use Rattle.walter_rules.proofs.RuleTests.{covers_true, peer_true}
use Rattle.walter_agreement.proofs.Cases.{site_cases, low_or}
use Rattle.walter_agreement.proofs.Lists.{filter_push_kept, filter_push_left, filter_place}
use Rattle.walter_alone.proofs.TestsPass.{some_pass}
use Rattle.walter_audit.specs.declared.finding.Named.{Named}
use Rattle.walter_audit.specs.Journals.{Journals, record_at, IsOwn, HasOwn, own_at, count, are_counts}
use Rattle.walter_audit.specs.Orders.{Item, Starts, is_shortest, start_behind, item_of, items_behind, items}
use Rattle.walter_audit.specs.Reasons.{IsMissing, AreTwice, IsUnstarted}
use Rattle.walter_audit.proofs.Numbered.{DoesCommit, counted_stands, own_place, own_found, counts_entry}
use Rattle.walter_audit.proofs.Sorted.{OwnsApart, named_by, record_tids}
use Rattle.walter_audit.proofs.Telling.{held_in, log_told, committed_told, follows_at, own_here, own_number, got_there, count_front, count_behind}

-- each record can follow those before it, and no reason stands but a conflict or a circle, if there is one
pub record AreClear (catalog : Catalog) (J : Journals) : Type 0 where
  pub follow : (i : SiteId) → CanAllFollow catalog i fresh (J i)
  pub no_others : (i : SiteId) → catalog.sites ≤ i.0 → J i ≡ []
  pub missing : (a : Named) → ¬ IsMissing J a
  pub same : (i : SiteId) (p : ℕ) (j : SiteId) (q seq : ℕ) (x y : Tx) → slice_get (J i) p ≡ Some (Got j seq x)
      → slice_get (J j) q ≡ Some (Own seq y) → x ≡ y
  pub twice : (a b : Named) → ¬ AreTwice J a b
  pub start : (a : Named) → ¬ IsUnstarted catalog J a

-- the least number up to this one that passes, if one does
pub data Least (P : ℕ → Bool) (n : ℕ) : Type 0 where
  none_passes : ((q : ℕ) → q ≤ n → P q ≡ false) → Least P n
  least_is : (q : ℕ) → q ≤ n → P q ≡ true → list_any P (range_with_len 0 q) ≡ false → Least P n

pub none_any : (P : ℕ → Bool) (xs : List ℕ) → ((q : ℕ) → Contains xs q → P q ≡ false) → list_any P xs ≡ false
none_any P [] each = refl
none_any P (x ∷ xs) each = rw (each x (first_in x xs)) (none_any P xs (λ q c. each q (later_in x xs q c)))

range_below : (a n k : ℕ) → Contains (range_with_len a n) k → k < a + n
range_below a zero k within = absurd (Contains-nil k within)
range_below a (suc n) k within = elim (in_cases a (range_with_len (a + 1) n) k within) [
  | inl here ↦ omega (arith, here)
  | inr there ↦ let rest = range_below (a + 1) n k there in omega (arith, rest)
]

least : (P : ℕ → Bool) (n : ℕ) → Least P n
least P zero = elim (cases_Bool (P 0)) [
  | inl is ↦ least_is 0 (omega arith) is refl
  | inr is ↦ none_passes (λ q l. let e : q ≡ 0 = omega (arith, l) in ap P e ∙ is)
]
least P (suc n) = by (least P n)
  where
    by : Least P n → Least P (suc n)
    by (least_is q l is none) = least_is q (omega (arith, l)) is none
    by (none_passes each) = elim (cases_Bool (P (suc n))) [
      | inl is ↦ least_is (suc n) (omega arith) is (none_any P (range_with_len 0 (suc n))
          (λ q c. let l = range_below 0 (suc n) q c in each q (omega (arith, l))))
      | inr is ↦ none_passes (λ q l. elim (cases_eq q (suc n)) [
        | inl same ↦ ap P same ∙ is
        | inr apart ↦ each q (omega (arith, l, apart))
      ])
    ]

-- a front that is the shortest is the only one
pub one_shortest : (catalog : Catalog) (i : SiteId) (records : List Record) (start : List ℕ) (p q : ℕ)
    → is_shortest catalog i records start p ≡ true → is_shortest catalog i records start q ≡ true → p ≡ q
one_shortest catalog i records start p q a b = elim (cases_order p q) [
  | inl same ↦ same
  | inr apart ↦ elim apart [ inl sooner ↦ absurd (never p q a b sooner) | inr later ↦ absurd (never q p b a later) ]
]
  where
    never : (p q : ℕ) → is_shortest catalog i records start p ≡ true → is_shortest catalog i records start q ≡ true → p < q → ⊥
    never p q a b l =
        let P = λ (r : ℕ). are_counts catalog i (take r records) start in
        let first = (and_parts (are_counts catalog i (take p records) start) (not (list_any P (range_with_len 0 p))) a).0 in
        let second = (and_parts (are_counts catalog i (take q records) start) (not (list_any P (range_with_len 0 q))) b).1 in
        let some = some_pass P (range_with_len 0 q) p (in_range 0 q p (omega arith) (omega (arith, l))) first in
        let clash : false ≡ true = ap not (sym some) ∙ second in
        cc

-- a start behind a front has its item
start_item : (catalog : Catalog) (i : SiteId) (all : List Record) (p seq : ℕ) (tx : Tx) (records : List Record)
    → Contains records (Own seq tx) → is_shortest catalog i all tx.start p ≡ true
    → Contains (filter_map (start_behind catalog i all p) records) (Starts p tx)
start_item catalog i all p seq tx [] c is = absurd (Contains-nil (Own seq tx) c)
start_item catalog i all p seq tx (rec ∷ records) c is =
    let rest = filter_map (start_behind catalog i all p) records in
    elim (in_cases rec records (Own seq tx) c) [
      | inl here ↦
          let gives : start_behind catalog i all p rec ≡ Some (Starts p tx) = ap (start_behind catalog i all p) here
          ∙ ap (λ b. if b then Some (Starts p tx) else None) is in
          subst (λ o. Contains (cons_option o rest) (Starts p tx)) (sym gives) (first_in (Starts p tx) rest)
      | inr there ↦ behind (start_behind catalog i all p rec) rest (start_item catalog i all p seq tx records there is)
    ]
  where
    behind : (o : Option Item) (xs : List Item) → Contains xs (Starts p tx) → Contains (cons_option o xs) (Starts p tx)
    behind None xs c = c
    behind (Some y) xs c = later_in y xs (Starts p tx) c

-- what is received of another site stands in the log by its number
pub record IsReceived (i : SiteId) (K : Knowledge) (j : SiteId) : Type 0 where
  pub many : K.got j ≡ length (of_site j K.log)
  pub numbered : (q : ℕ) (r : Held) → slice_get (of_site j K.log) q ≡ Some r → r.seq ≡ q + 1

received_push : (i : SiteId) (K : Knowledge) (j from : SiteId) (h : Held) (got2 : SiteId → ℕ) (log2 : List Held)
    → IsReceived i K j → h.tx.tid.site ≡ from → log2 ≡ K.log ++ h ∷ []
    → got2 j ≡ (if same_site from j then K.got j + 1 else K.got j) → (from ≡ j → h.seq ≡ K.got j + 1)
    → (got2 j ≡ length (of_site j log2)) × ((q : ℕ) (r : Held) → slice_get (of_site j log2) q ≡ Some r → r.seq ≡ q + 1)
received_push i K j from h got2 log2 R of is got next = elim (site_cases from j) [
  | inl same ↦
      let own : is_of j h ≡ true = ap (λ z. same_site z j) of ∙ same.0 in
      let longer : of_site j log2 ≡ of_site j K.log ++ h ∷ [] = ap (λ l. of_site j l) is ∙ filter_push_kept (is_of j) K.log h own in
      let size = ap length longer ∙ Rattle.std.proofs.lemmas.List.length-append (of_site j K.log) (h ∷ []) in
      let many = R.many in
      let now : got2 j ≡ K.got j + 1 = got ∙ ap (λ b. if b then K.got j + 1 else K.got j) same.0 in
      let number = next same.1 in (
        omega (arith, size, many, now),
        λ q r at. elim (Rattle.walter_psi.proofs.Lists.slice_get-push_cases (of_site j K.log) h r q (ap (λ l. slice_get l q) (sym longer) ∙ at)) [
          | inl before ↦ R.numbered q r before.1
          | inr last ↦ let place = last.0 in let e : h.seq ≡ r.seq = ap (λ (z : Held). z.seq) last.1 in omega (arith, place, e, number, many)
        ],
      )
  | inr apart ↦
      let other : is_of j h ≡ false = ap (λ z. same_site z j) of ∙ apart.0 in
      let same : of_site j log2 ≡ of_site j K.log = ap (λ l. of_site j l) is ∙ filter_push_left (is_of j) K.log h other in
      let size = ap length same in
      let many = R.many in
      let now : got2 j ≡ K.got j = got ∙ ap (λ b. if b then K.got j + 1 else K.got j) apart.0 in (
        omega (arith, size, many, now),
        λ q r at. R.numbered q r (ap (λ l. slice_get l q) (sym same) ∙ at),
      )
]

received_one : (catalog : Catalog) (i : SiteId) (K : Knowledge) (rec : Record) (j : SiteId) → j ≢ i
    → CanFollow catalog i K rec → IsReceived i K j → IsReceived i (recorded catalog i (Some rec) K) j
received_one catalog i K (Own seq tx) j apart f R =
    let r = received_push i K j i (record { seq = seq; tx = tx }) (recorded catalog i (Some (Own seq tx)) K).got
    (recorded catalog i (Some (Own seq tx)) K).log R f.here refl refl (λ e. absurd (apart (sym e))) in
    record { many = r.0; numbered = r.1 }
received_one catalog i K (Got from seq tx) j apart f R =
    let r = received_push i K j from (record { seq = seq; tx = tx }) (recorded catalog i (Some (Got from seq tx)) K).got
    (recorded catalog i (Some (Got from seq tx)) K).log R f.sender refl refl (λ e. f.next ∙ ap (λ k. K.got k + 1) e) in
    record { many = r.0; numbered = r.1 }
received_one catalog i K (Boot epoch) j apart f R = record { many = R.many; numbered = R.numbered }
received_one catalog i K (Seen k seq) j apart f R = record { many = R.many; numbered = R.numbered }
received_one catalog i K (Prepared k n tid objects) j apart f R = record { many = R.many; numbered = R.numbered }
received_one catalog i K (Released k n) j apart f R = record { many = R.many; numbered = R.numbered }
received_one catalog i K (SlowBegin n tx) j apart f R = record { many = R.many; numbered = R.numbered }
received_one catalog i K (SlowEnd n) j apart f R = record { many = R.many; numbered = R.numbered }
received_one catalog i K (Marks durable visible) j apart f R = record { many = R.many; numbered = R.numbered }
received_one catalog i K FormatRecord j apart f R = record { many = R.many; numbered = R.numbered }

received_all : (catalog : Catalog) (i : SiteId) (K : Knowledge) (records : List Record) (j : SiteId) → j ≢ i
    → CanAllFollow catalog i K records → IsReceived i K j → IsReceived i (replayed catalog i K records) j
received_all catalog i K [] j apart f R = R
received_all catalog i K (rec ∷ records) j apart f R = received_all catalog i (recorded catalog i (Some rec) K) records j apart f.1
    (received_one catalog i K rec j apart f.0 R)

pub follow_take : (catalog : Catalog) (i : SiteId) (K : Knowledge) (records : List Record) (p : ℕ)
    → CanAllFollow catalog i K records → CanAllFollow catalog i K (take p records)
follow_take catalog i K records zero f = tt
follow_take catalog i K [] (suc p) f = tt
follow_take catalog i K (rec ∷ records) (suc p) f = (f.0, follow_take catalog i (recorded catalog i (Some rec) K) records p f.1)

has : {X : Type 0} (xs : List X) (q : ℕ) → q < length xs → (x : X) × (slice_get xs q ≡ Some x)
has [] q low = absurd (omega (arith, low))
has (x ∷ xs) zero low = (x, refl)
has (x ∷ xs) (suc q) low = has xs q (omega (arith, low))

-- whether records have an own commit of this number
abbrev HasIn : List Record → ℕ → Type 0
HasIn rs m = (index : ℕ) × (tx : Tx) × (slice_get rs index ≡ Some (Own m tx))

not_in : (z : Record) (rs : List Record) (m : ℕ) → ((tx : Tx) → z ≢ Own m tx) → (HasIn rs m → ⊥) → (index : ℕ) (tx : Tx)
    → slice_get (z ∷ rs) index ≡ Some (Own m tx) → ⊥
not_in z rs m other none zero tx at = other tx (same_Some z (Own m tx) at)
not_in z rs m other none (suc index) tx at = none (index, tx, at)

own_first : (z : Record) (m : ℕ) → ((tx : Tx) × (z ≡ Own m tx)) ⊎ ((tx : Tx) → z ≢ Own m tx)
own_first (Own n x) m = elim (cases_eq n m) [
  | inl same ↦ inl (x, ap (λ k. Own k x) same)
  | inr apart ↦ inr (λ tx e. apart (let f : n ≡ m = cc in f))
]
own_first (Boot epoch) m = inr (λ tx e. cc)
own_first (Got j n x) m = inr (λ tx e. cc)
own_first (Seen j n) m = inr (λ tx e. cc)
own_first (Prepared j n tid objects) m = inr (λ tx e. cc)
own_first (Released j n) m = inr (λ tx e. cc)
own_first (SlowBegin n x) m = inr (λ tx e. cc)
own_first (SlowEnd n) m = inr (λ tx e. cc)
own_first (Marks d v) m = inr (λ tx e. cc)
own_first FormatRecord m = inr (λ tx e. cc)

pub own_or_not : (rs : List Record) (m : ℕ) → HasIn rs m ⊎ (HasIn rs m → ⊥)
own_or_not [] m = inr (λ h. let e = h.2 in cc)
own_or_not (z ∷ rs) m =
    let rest = own_or_not rs m in
    elim (own_first z m) [
      | inl here ↦ inl (0, here.0, ap (λ r. Some r) here.1)
      | inr other ↦ elim rest [
        | inl there ↦ inl (suc there.0, there.1, there.2)
        | inr none ↦ inr (λ h. not_in z rs m other none h.0 h.1 h.2)
      ]
    ]

-- what the records of a site up to a place commit
abbrev pub tids_to : Journals → SiteId → ℕ → List Tid
tids_to J i p = flat_map (record_tids J) (take p (J i))

module _ (catalog : Catalog) (J : Journals) (C : AreClear catalog J) where
  -- two own commits of one transaction are one record
  pub one_own : (i k : SiteId) (p q seq m : ℕ) (x y : Tx) → slice_get (J i) p ≡ Some (Own seq x)
      → slice_get (J k) q ≡ Some (Own m y) → x.tid ≡ y.tid → (i ≡ k) × (p ≡ q)
  one_own i k p q seq m x y a b same =
      let first : Named = record { site = i; index = p } in
      let second : Named = record { site = k; index = q } in
      let twice : first ≢ second → ⊥ = λ apart. C.twice first second
      (record { owns = record { seq = seq; other = m; x = x; y = y; first = a; second = b; apart = apart }; same = same }) in
      elim (site_cases i k) [
        | inl sites ↦ elim (cases_eq p q) [
          | inl places ↦ (sites.1, places)
          | inr apart ↦ absurd (twice (λ e. apart (ap (λ (n : Named). n.index) e)))
        ]
        | inr apart ↦ absurd (twice (λ e. apart.1 (ap (λ (n : Named). n.site) e)))
      ]

  -- so they have one number and are the same
  pub same_own : (i k : SiteId) (p q seq m : ℕ) (x y : Tx) → slice_get (J i) p ≡ Some (Own seq x)
      → slice_get (J k) q ≡ Some (Own m y) → x.tid ≡ y.tid → (i ≡ k) × (p ≡ q) × (seq ≡ m) × (x ≡ y)
  same_own i k p q seq m x y a b same =
      let one = one_own i k p q seq m x y a b same in
      let there : slice_get (J i) p ≡ Some (Own m y) = (λ t. slice_get (J (one.0 t)) (one.1 t)) ∙ b in
      let e : Own seq x ≡ Own m y = same_Some (Own seq x) (Own m y) (sym a ∙ there) in
      (one.0, one.1, (let f : seq ≡ m = cc in f), (let g : x ≡ y = cc in g))

  owns_apart_from : (rs : List Record) → ((p q seq m : ℕ) (x y : Tx) → slice_get rs p ≡ Some (Own seq x)
      → slice_get rs q ≡ Some (Own m y) → x.tid ≡ y.tid → p ≡ q) → OwnsApart rs
  owns_apart_from [] one = tt
  owns_apart_from (Own seq tx ∷ rs) one = (
    λ m y c same. let at = place_of rs (Own m y) c in
        let e = one 0 (suc at.0) seq m tx y refl at.1 (sym same) in absurd (omega (arith, e)),
    owns_apart_from rs (λ p q s m x y a b same. let e = one (suc p) (suc q) s m x y a b same in omega (arith, e)),
  )
  owns_apart_from (Boot epoch ∷ rs) one = owns_apart_from rs (λ p q s m x y a b same. let e = one (suc p) (suc q) s m x y a b same in omega (arith, e))
  owns_apart_from (Got j n z ∷ rs) one = owns_apart_from rs (λ p q s m x y a b same. let e = one (suc p) (suc q) s m x y a b same in omega (arith, e))
  owns_apart_from (Seen j n ∷ rs) one = owns_apart_from rs (λ p q s m x y a b same. let e = one (suc p) (suc q) s m x y a b same in omega (arith, e))
  owns_apart_from (Prepared j n tid objects ∷ rs) one = owns_apart_from rs (λ p q s m x y a b same. let e = one (suc p) (suc q) s m x y a b same in omega (arith, e))
  owns_apart_from (Released j n ∷ rs) one = owns_apart_from rs (λ p q s m x y a b same. let e = one (suc p) (suc q) s m x y a b same in omega (arith, e))
  owns_apart_from (SlowBegin n z ∷ rs) one = owns_apart_from rs (λ p q s m x y a b same. let e = one (suc p) (suc q) s m x y a b same in omega (arith, e))
  owns_apart_from (SlowEnd n ∷ rs) one = owns_apart_from rs (λ p q s m x y a b same. let e = one (suc p) (suc q) s m x y a b same in omega (arith, e))
  owns_apart_from (Marks d v ∷ rs) one = owns_apart_from rs (λ p q s m x y a b same. let e = one (suc p) (suc q) s m x y a b same in omega (arith, e))
  owns_apart_from (FormatRecord ∷ rs) one = owns_apart_from rs (λ p q s m x y a b same. let e = one (suc p) (suc q) s m x y a b same in omega (arith, e))

  pub owns_apart : (i : SiteId) → OwnsApart (J i)
  owns_apart i = owns_apart_from (J i) (λ p q s m x y a b same. (one_own i i p q s m x y a b same).1)

  -- an own commit has the place of its start, and that has its item
  pub begins_at : (i : SiteId) (p seq : ℕ) (tx : Tx) → slice_get (J i) p ≡ Some (Own seq tx)
      → (q : ℕ) × (q ≤ p) × (is_shortest catalog i (J i) tx.start q ≡ true)
      × (are_counts catalog i (take q (J i)) tx.start ≡ true) × Contains (items catalog i (J i)) (Starts q tx)
  begins_at i p seq tx at = by (least (λ r. are_counts catalog i (take r (J i)) tx.start) p)
    where
      by : Least (λ r. are_counts catalog i (take r (J i)) tx.start) p
          → (q : ℕ) × (q ≤ p) × (is_shortest catalog i (J i) tx.start q ≡ true)
          × (are_counts catalog i (take q (J i)) tx.start ≡ true) × Contains (items catalog i (J i)) (Starts q tx)
      by (none_passes each) = absurd (C.start (record { site = i; index = p })
          (record { seq = seq; tx = tx; here = at; never = each }))
      by (least_is q low is none) =
          let shortest : is_shortest catalog i (J i) tx.start q ≡ true = (λ t. is t && not (none t)) in
          let within = slice_get_within (J i) p (Own seq tx) at in (
            q,
            low,
            shortest,
            is,
            Contains-flat_map (items_behind catalog i (J i)) (range_with_len 0 (length (J i) + 1)) q (Starts q tx)
                (in_range 0 (length (J i) + 1) q (omega arith) (omega (arith, low, within)))
                (Contains-append_left (filter_map (start_behind catalog i (J i) q) (J i)) (item_of q (slice_get (J i) q)) (Starts q tx)
                (start_item catalog i (J i) q seq tx (J i) (contains_at (J i) (Own seq tx) p at) shortest)),
          )

  below : (k : SiteId) (q : ℕ) (rec : Record) → slice_get (J k) q ≡ Some rec → k.0 < catalog.sites
  below k q rec at = elim (low_or k.0 catalog.sites) [
    | inl l ↦ l
    | inr out ↦ absurd (let e : ◌≡◌ {A = Option Record} None (Some rec) = ap (λ rs. slice_get rs q) (sym (C.no_others k out)) ∙ at in cc)
  ]

  -- where the counts of a start are those of a front, each site's count is its entry
  pub start_entry : (i : SiteId) (p : ℕ) (start : List ℕ) → are_counts catalog i (take p (J i)) start ≡ true
      → (k : SiteId) (q : ℕ) (rec : Record) → slice_get (J k) q ≡ Some rec → count i (take p (J i)) k ≡ entry_at start k
  start_entry i p start is k q rec at = counts_entry catalog i (take p (J i)) start k is (below k q rec at)

  -- an own commit that the records of a site up to a place count is among what they commit
  pub in_tids : (i k : SiteId) (p q m : ℕ) (y : Tx) → slice_get (J k) q ≡ Some (Own m y) → m ≤ count i (take p (J i)) k
      → Contains (tids_to J i p) y.tid
  in_tids i k p q m y at low =
      let number = own_number catalog k (J k) (C.follow k) q m y at in
      let s = counted_stands catalog i (J i) (C.follow i) k m p (omega (arith, number)) low in
      Contains-flat_map (record_tids J) (take p (J i)) s.1 y.tid
      (contains_at (take p (J i)) s.1 s.0 (slice_get-take (J i) p s.0 s.2 ∙ s.3)) (by s.0 s.1 s.3 s.4)
    where
      by : (r : ℕ) (rec : Record) → slice_get (J i) r ≡ Some rec → DoesCommit i k m rec → Contains (record_tids J rec) y.tid
      by r (Own n z) here does =
          let there : slice_get (J k) r ≡ Some (Own m z) = (λ t. slice_get (J (sym does.0 t)) r) ∙ (here ∙ ap (λ w. Some (Own w z)) does.1) in
          let place = own_place catalog k (J k) (C.follow k) r q m z y there at in
          let e : Own m z ≡ Own m y = same_Some (Own m z) (Own m y) (sym there ∙ (ap (λ w. slice_get (J k) w) place ∙ at)) in
          let same : z ≡ y = cc in
          subst (λ (w : Tx). Contains (z.tid ∷ []) w.tid) same (first_in z.tid [])
      by r (Seen j n) here does =
          let found : own_at J j n ≡ Some y = (λ t. own_at J (does.0 t) (does.1 t)) ∙ own_found catalog k (J k) (C.follow k) J refl q m y at in
          subst (λ o. Contains (named_by o) y.tid) (sym found) (first_in y.tid [])
      by r (Boot epoch) here does = absurd does
      by r (Got j n z) here does = absurd does
      by r (Prepared j n tid objects) here does = absurd does
      by r (Released j n) here does = absurd does
      by r (SlowBegin n z) here does = absurd does
      by r (SlowEnd n) here does = absurd does
      by r (Marks d v) here does = absurd does
      by r FormatRecord here does = absurd does

  -- and what they commit is an own commit that they count
  pub from_tids : (i : SiteId) (p : ℕ) (x : Tid) → Contains (tids_to J i p) x
      → (k : SiteId) × (q : ℕ) × (m : ℕ) × (y : Tx) × (r : ℕ) × (slice_get (J k) q ≡ Some (Own m y)) × (y.tid ≡ x)
      × (r < p) × ((slice_get (J i) r ≡ Some (Own m y)) ⊎ (slice_get (J i) r ≡ Some (Seen k m)))
      × (m ≤ count i (take p (J i)) k)
  from_tids i p x c =
      let from = Contains-flat_map_from (record_tids J) (take p (J i)) x c in
      let at = Rattle.walter_psi.proofs.Lists.place_of (take p (J i)) from.0 from.1 in
      let low = slice_get-take_within (J i) p at.0 from.0 at.1 in
      by at.0 low from.0 (sym (slice_get-take (J i) p at.0 low) ∙ at.1) from.2
    where
      counts : (r : ℕ) → r < p → (rec : Record) → slice_get (J i) r ≡ Some rec → (k : SiteId)
          → Rattle.walter_audit.specs.Journals.commits_of i k rec ≡ true
          → count i (take r (J i)) k + 1 ≤ count i (take p (J i)) k
      counts r low rec here k is =
          let behind = count_behind i k (take p (J i)) r rec (slice_get-take (J i) p r low ∙ here) is in
          let same = ap (λ rs. count i rs k) (take-take r p (J i) (omega (arith, low))) in
          omega (arith, behind, same)

      seen : (r : ℕ) → r < p → (j : SiteId) (n : ℕ) → slice_get (J i) r ≡ Some (Seen j n)
          → HasOwn J j n → (o : Option Tx) → own_at J j n ≡ o → Contains (named_by o) x
          → (k : SiteId) × (q : ℕ) × (m : ℕ) × (y : Tx) × (r : ℕ) × (slice_get (J k) q ≡ Some (Own m y)) × (y.tid ≡ x)
          × (r < p) × ((slice_get (J i) r ≡ Some (Own m y)) ⊎ (slice_get (J i) r ≡ Some (Seen k m)))
          × (m ≤ count i (take p (J i)) k)
      seen r low j n here own o is named =
          let found : own_at J j n ≡ Some own.1 = own_found catalog j (J j) (C.follow j) J refl own.0 n own.1 own.2 in
          let one : Contains (named_by (Some own.1)) x = subst (λ z. Contains (named_by z) x) (sym is ∙ found) named in
          let f = (follows_at catalog i fresh (J i) r (Seen j n) (C.follow i) here).next in
          let told = committed_told catalog i fresh (take r (J i)) j in
          let up = counts r low (Seen j n) here j (same_site_refl j) in
          (j, own.0, n, own.1, r, own.2, Contains-one own.1.tid x one, low, inr here, omega (arith, f, told, up))

      made : (r j : ℕ) → (k : SiteId) → slice_get (J i) r ≡ Some (Seen k j) → HasOwn J k j
      made r m k here = elim (own_or_not (J k) m) [
        | inl h ↦ h
        | inr none ↦ absurd (C.missing (record { site = i; index = r }) (record { from = k; seq = m; told = inr here; unmade = none }))
      ]

      by : (r : ℕ) → r < p → (rec : Record) → slice_get (J i) r ≡ Some rec → Contains (record_tids J rec) x
          → (k : SiteId) × (q : ℕ) × (m : ℕ) × (y : Tx) × (r : ℕ) × (slice_get (J k) q ≡ Some (Own m y)) × (y.tid ≡ x)
          × (r < p) × ((slice_get (J i) r ≡ Some (Own m y)) ⊎ (slice_get (J i) r ≡ Some (Seen k m)))
          × (m ≤ count i (take p (J i)) k)
      by r low (Own n z) here named =
          let number = own_number catalog i (J i) (C.follow i) r n z here in
          let up = counts r low (Own n z) here i (same_site_refl i) in
          (i, r, n, z, r, here, Contains-one z.tid x named, low, inl here, omega (arith, number, up))
      by r low (Seen j n) here named = seen r low j n here (made r n j here) (own_at J j n) refl named
      by r low (Boot epoch) here named = absurd (Contains-nil x named)
      by r low (Got j n z) here named = absurd (Contains-nil x named)
      by r low (Prepared j n tid objects) here named = absurd (Contains-nil x named)
      by r low (Released j n) here named = absurd (Contains-nil x named)
      by r low (SlowBegin n z) here named = absurd (Contains-nil x named)
      by r low (SlowEnd n) here named = absurd (Contains-nil x named)
      by r low (Marks d v) here named = absurd (Contains-nil x named)
      by r low FormatRecord here named = absurd (Contains-nil x named)

  -- what is seen at a site has its start counted there
  pub seen_covered : (i j : SiteId) (p at seq : ℕ) (y : Tx) → slice_get (J i) p ≡ Some (Seen j seq)
      → slice_get (J j) at ≡ Some (Own seq y) → (k : SiteId) → entry_at y.start k ≤ count i (take p (J i)) k
  seen_covered i j p at seq y here there k =
      let f = follows_at catalog i fresh (J i) p (Seen j seq) (C.follow i) here in
      let K = replayed catalog i fresh (take p (J i)) in
      let apart : j ≢ i = (peer_true catalog i j f.peer).1 in
      let R = received_all catalog i fresh (take p (J i)) j apart (follow_take catalog i fresh (J i) p (C.follow i))
      (record { many = refl; numbered = λ q r at. absurd cc }) in
      let some = f.next in
      let low = f.received in
      let many = R.many in
      let r = has (of_site j K.log) (seq - 1) (omega (arith, some, low, many)) in
      let number = R.numbered (seq - 1) r.0 r.1 in
      let seq_is : r.0.seq ≡ seq = omega (arith, number, some) in
      let same : r.0.tx ≡ y = got_same (filter_place (is_of j) K.log r.0 (seq - 1) r.1) seq_is apart in
      let commit : commit_at j seq (replayed catalog i fresh (take p (J i))).log ≡ Some y = ap (λ o. option_map (λ (h : Held). h.tx) o) r.1 ∙ ap (λ z. Some z) same in
      let covered : entry_at y.start k ≤ (replayed catalog i fresh (take p (J i))).committed k = covers_true K.committed y.start (f.covered y commit) k in
      let told = committed_told catalog i fresh (take p (J i)) k in
      omega (arith, covered, told)
    where
      got_same : {r : Held} {m : ℕ}
          → (a : ℕ) × (slice_get (replayed catalog i fresh (take p (J i))).log a ≡ Some r) × (is_of j r ≡ true)
          × (length (of_site j (take a (replayed catalog i fresh (take p (J i))).log)) ≡ m) → r.seq ≡ seq → j ≢ i → r.tx ≡ y
      got_same {r = r} place seq_is apart =
          let c : Contains (flat_map held_in (take p (J i))) r = subst (λ l. Contains l r) (log_told catalog i fresh (take p (J i)))
          (contains_at (replayed catalog i fresh (take p (J i))).log r place.0 place.1) in
          let of : r.tx.tid.site ≡ j = Rattle.walter_base.proofs.NameTests.same_site-true r.tx.tid.site j place.2 in
          let from = Contains-flat_map_from held_in (take p (J i)) r c in
          let at1 = Rattle.walter_psi.proofs.Lists.place_of (take p (J i)) from.0 from.1 in
          let low = slice_get-take_within (J i) p at1.0 from.0 at1.1 in
          by r of seq_is apart at1.0 from.0 (sym (slice_get-take (J i) p at1.0 low) ∙ at1.1) from.2
        where
          by : (r : Held) → r.tx.tid.site ≡ j → r.seq ≡ seq → j ≢ i → (q : ℕ) (rec : Record) → slice_get (J i) q ≡ Some rec
              → Contains (held_in rec) r → r.tx ≡ y
          by r of seq_is apart q (Own n z) at2 held =
              let e : record { seq = n; tx = z } ≡ r = Contains-one (record { seq = n; tx = z }) r held in
              absurd (apart (sym of ∙ (ap (λ (h : Held). h.tx.tid.site) (sym e) ∙ own_here catalog i (J i) (C.follow i) q n z at2)))
          by r of seq_is apart q (Got from n z) at2 held =
              let e : record { seq = n; tx = z } ≡ r = Contains-one (record { seq = n; tx = z }) r held in
              let sender = (got_there catalog i (J i) (C.follow i) q from n z at2).1 in
              let site : from ≡ j = sym sender ∙ (ap (λ (h : Held). h.tx.tid.site) e ∙ of) in
              let number : n ≡ seq = ap (λ (h : Held). h.seq) e ∙ seq_is in
              let got : slice_get (J i) q ≡ Some (Got j seq z) = at2 ∙ (λ t. Some (Got (site t) (number t) z)) in
              ap (λ (h : Held). h.tx) (sym e) ∙ C.same i q j at seq z y got there
          by r of seq_is apart q (Boot epoch) at2 held = absurd (Contains-nil r held)
          by r of seq_is apart q (Seen k n) at2 held = absurd (Contains-nil r held)
          by r of seq_is apart q (Prepared k n tid objects) at2 held = absurd (Contains-nil r held)
          by r of seq_is apart q (Released k n) at2 held = absurd (Contains-nil r held)
          by r of seq_is apart q (SlowBegin n z) at2 held = absurd (Contains-nil r held)
          by r of seq_is apart q (SlowEnd n) at2 held = absurd (Contains-nil r held)
          by r of seq_is apart q (Marks d v) at2 held = absurd (Contains-nil r held)
          by r of seq_is apart q FormatRecord at2 held = absurd (Contains-nil r held)

  -- seeing is transitive: what a commit has seen that another has seen, that one has seen
  counts_up : (i k : SiteId) (s f : ℕ) → s ≤ f → count i (take s (J i)) k ≤ count i (take f (J i)) k
  counts_up i k s f low =
      let front = count_front i k (take f (J i)) s in
      let same = ap (λ rs. count i rs k) (take-take s f (J i) low) in
      omega (arith, front, same)

  pub seen_through : (i k l : SiteId) (p q r m n o : ℕ) (x y z : Tx) → slice_get (J i) p ≡ Some (Own m x)
      → slice_get (J k) q ≡ Some (Own n y) → slice_get (J l) r ≡ Some (Own o z)
      → m ≤ entry_at y.start i → n ≤ entry_at z.start k → m ≤ entry_at z.start i
  seen_through i k l p q r m n o x y z a b c first second =
      let begins_z = begins_at l r o z c in
      let f : ℕ = begins_z.0 in
      let entry_k = start_entry l f z.start begins_z.3 k q (Own n y) b in
      let entry_i = start_entry l f z.start begins_z.3 i p (Own m x) a in
      let number = own_number catalog k (J k) (C.follow k) q n y b in
      let s = counted_stands catalog l (J l) (C.follow l) k n f (omega (arith, number)) (omega (arith, second, entry_k)) in
      let up = counts_up l i s.0 f (let w = s.2 in omega (arith, w)) in
      let covered = by s.0 s.1 s.3 s.4 in
      omega (arith, first, entry_i, up, covered)
    where
      by : (s : ℕ) (rec : Record) → slice_get (J l) s ≡ Some rec → DoesCommit l k n rec
          → entry_at y.start i ≤ count l (take s (J l)) i
      by s (Own n2 w) at does =
          let there : slice_get (J k) s ≡ Some (Own n w) = (λ t. slice_get (J (sym does.0 t)) s) ∙ (at ∙ ap (λ v. Some (Own v w)) does.1) in
          let place = own_place catalog k (J k) (C.follow k) s q n w y there b in
          let begins_y = begins_at k q n y b in
          let entry = start_entry k begins_y.0 y.start begins_y.3 i p (Own m x) a in
          let up = counts_up k i begins_y.0 q begins_y.1 in
          let same : count l (take s (J l)) i ≡ count k (take q (J k)) i = (λ t. count (does.0 t) (take (place t) (J (does.0 t))) i) in
          omega (arith, entry, up, same)
      by s (Seen j n2) at does =
          let seen : slice_get (J l) s ≡ Some (Seen k n) = at ∙ (λ t. Some (Seen (does.0 t) (does.1 t))) in
          seen_covered l k s q n y seen b i
      by s (Boot epoch) at does = absurd does
      by s (Got j n2 w) at does = absurd does
      by s (Prepared j n2 tid objects) at does = absurd does
      by s (Released j n2) at does = absurd does
      by s (SlowBegin n2 w) at does = absurd does
      by s (SlowEnd n2) at does = absurd does
      by s (Marks d v) at does = absurd does
      by s FormatRecord at does = absurd does
