-- The start of each transaction of a site, open, begun, in flight or committed, is the counts of a front of the site's
-- records; and that of a commit is the counts of a front of those before it.
use Rattle.std.proofs.Common.{◌≡◌, ◌+◌, ◌<◌, ◌≤◌, ◌⊎◌, ℕ, zero, suc, nat_eq, List, [], ◌∷◌, ◌++◌, length, map, take, slice_get, slice_index, Some, None, IfSome, option_map, refl, ap, sym, ◌∙◌, subst, arith, inl, inr, if◌then◌else◌, true, false, Ok}
use Rattle.std.specs.Prelude.{Option, Bool, Contains, Result}
use Rattle.std.specs.List.{range_with_len}
use Rattle.std.specs.Map.{lookup}
use Rattle.std.proofs.lemmas.Bool.{eq-eqb}
use Rattle.std.proofs.lemmas.List.{take-append-le, take-take, length-append, length-take-le}
use Rattle.std.proofs.Math.Seq.{take-length}
use Rattle.std.proofs.lemmas.List.FromFn.{get_or-map-range_with_len}
use Rattle.std.proofs.lemmas.Option.{same_Some, slice_get_within}
use Rattle.std.proofs.lemmas.Simd.{map-map}
use Rattle.walter_base.specs.declared.catalog.Catalog.{Catalog}
use Rattle.walter_base.specs.declared.message.BadFrame.{BadFrame}
use Rattle.walter_base.specs.declared.message.Record.{Record}
use Rattle.walter_base.specs.declared.message.Record.TheVariants.{Boot, Own, Got, Seen, Prepared, Released, SlowBegin, SlowEnd, Marks, Format as FormatRecord}
use Rattle.walter_base.specs.declared.message.Reply.TheVariants.{Started, Done, Committed, Aborted, Deciding, Ended, Unsure}
use Rattle.walter_base.specs.declared.message.Request.{Request}
use Rattle.walter_base.specs.declared.message.Request.TheVariants.{Write, SetAdd, SetDel}
use Rattle.walter_base.specs.declared.names.SiteId.{SiteId}
use Rattle.walter_base.specs.declared.transaction.Tx.{Tx}
use Rattle.walter_base.specs.Vectors.{entry_at}
use Rattle.walter_base.proofs.ByClient.{lookup-changed, lookup-without}
use Rattle.walter_psi.proofs.Lists.{slice_get-push_cases}
use Rattle.walter_rules.specs.declared.entry.Came.{Came}
use Rattle.walter_rules.specs.declared.entry.Entry.{Entry}
use Rattle.walter_rules.specs.declared.event.Event.{Event}
use Rattle.walter_rules.specs.declared.event.Event.TheVariants.{Given, Stop, Restart}
use Rattle.walter_rules.specs.declared.event.Input.TheVariants.{Call, Deliver, Advance, Tick, Upgrade}
use Rattle.walter_rules.specs.declared.outcome.Outcome.{Outcome}
use Rattle.walter_rules.specs.declared.outcome.Outcome.TheVariants.{Replied, Full}
use Rattle.walter_rules.specs.Allowed.{IsKind, commits, begins, decides}
use Rattle.walter_rules.specs.Knowledge.{Knowledge, session_of, vector_of, sites, site_at}
use Rattle.walter_rules.specs.Layouts.{Layout}
use Rattle.walter_rules.specs.Learning.{slow_after, sessions_after, updated, deciding, recorded, after, lost}
use Rattle.walter_rules.specs.Merges.{Named as InRun, entries_of}
use Rattle.walter_rules.specs.Sessions.{Session, Sessions, session_in}
use Rattle.walter_rules.specs.Slow.{Slow, Unused, Undecided, Dropped, Decided, begun, ended, decided}
use Rattle.walter_rules.specs.Standing.{Standing, unmade, records_after, settled, goes_down, knows_after, flight_after, stands_after}
use Rattle.walter_rules.specs.Trails.{standing, IsFound, AreRight}
use Rattle.walter_psi.proofs.Lists.{Contains-nil}
use Rattle.walter_rules.proofs.Membership.{in_cases, made_from}
use Rattle.walter_agreement.proofs.Cases.{low_or, none_not_some, not_unused}
use Rattle.walter_alone.proofs.TestsPass.{all_pass}
use Rattle.walter_alone.proofs.TrailJournaled.{right_journaled}
use Rattle.walter_linked.proofs.Runs.{run_right, none_outside}
use Rattle.walter_refinement.proofs.Going.{after_committed, after_slow}
use Rattle.walter_runs.proofs.Steps.{IsStep, stable, flies, unread_step, wants, finds_full, step_of}
use Rattle.walter_runs.specs.Runs.{IsRun}
use Rattle.walter_rules.specs.Knowledge.{fresh}
use Rattle.walter_audit.specs.declared.finding.Named.{Named}
use Rattle.walter_audit.specs.Journals.{count, are_counts}
use Rattle.walter_audit.specs.Reasons.{IsUnstarted}
use Rattle.walter_audit.proofs.Held.{journals_of}
use Rattle.walter_audit.proofs.Telling.{committed_told}

-- the start is the counts of a front of the records
abbrev pub IsFront : Catalog → SiteId → List Record → List ℕ → Type 0
IsFront catalog i records start = (p : ℕ) × (p ≤ length records) × (are_counts catalog i (take p records) start ≡ true)

front_more : (catalog : Catalog) (i : SiteId) (records : List Record) (rec : Record) (start : List ℕ)
    → IsFront catalog i records start → IsFront catalog i (records ++ rec ∷ []) start
front_more catalog i records rec start f = (
  f.0,
  let l = f.1 in let e = length-append records (rec ∷ []) in omega (arith, l, e),
  subst (λ rs. are_counts catalog i rs start ≡ true) (sym (take-append-le f.0 records (rec ∷ []) f.1)) f.2,
)

front_after : (catalog : Catalog) (i : SiteId) (records : List Record) (wrote : Option Record) (start : List ℕ)
    → IsFront catalog i records start → IsFront catalog i (records_after wrote records) start
front_after catalog i records None start f = f
front_after catalog i records (Some rec) start f = front_more catalog i records rec start f

-- so is that of a record that has a transaction of the site
abbrev pub HasFront : Catalog → SiteId → List Record → Record → Type 0
HasFront catalog i records (Own seq tx) = IsFront catalog i records tx.start
HasFront catalog i records (SlowBegin n tx) = IsFront catalog i records tx.start
HasFront catalog i records rec = Unit {0}

has_after : (catalog : Catalog) (i : SiteId) (records : List Record) (wrote : Option Record) (rec : Record)
    → HasFront catalog i records rec → HasFront catalog i (records_after wrote records) rec
has_after catalog i records wrote (Own seq tx) f = front_after catalog i records wrote tx.start f
has_after catalog i records wrote (SlowBegin n tx) f = front_after catalog i records wrote tx.start f
has_after catalog i records wrote rec f = tt

-- of a site: the sessions of its clients, its slow commits, the record in flight, and its records
pub record AreStarted (catalog : Catalog) (i : SiteId) (sess : ℕ → Option Session) (slows : ℕ → Slow)
    (flight : Option Record) (records : List Record) : Type 0 where
  pub sessions : (c : ℕ) (s : Session) → sess c ≡ Some s → IsFront catalog i records s.snapshot
  pub slow : (n : ℕ) (x : Tx) → begun (slows n) ≡ Some x → IsFront catalog i records x.start
  pub flies : (r : Record) → flight ≡ Some r → HasFront catalog i records r
  pub owns : (q seq : ℕ) (x : Tx) → slice_get records q ≡ Some (Own seq x) → IsFront catalog i (take q records) x.start

owns_more : (catalog : Catalog) (i : SiteId) (records : List Record) (wrote : Option Record)
    → IfSome wrote (HasFront catalog i records)
    → ((q seq : ℕ) (x : Tx) → slice_get records q ≡ Some (Own seq x) → IsFront catalog i (take q records) x.start)
    → (q seq : ℕ) (x : Tx) → slice_get (records_after wrote records) q ≡ Some (Own seq x)
    → IsFront catalog i (take q (records_after wrote records)) x.start
owns_more catalog i records None has owns q seq x at = owns q seq x at
owns_more catalog i records (Some rec) has owns q seq x at =
    elim (slice_get-push_cases records rec (Own seq x) q at) [
      | inl before ↦
          let l = before.0 in
          subst (λ rs. IsFront catalog i rs x.start) (sym (take-append-le q records (rec ∷ []) (omega (arith, l))))
          (owns q seq x before.1)
      | inr last ↦
          subst (λ rs. IsFront catalog i rs x.start)
          (sym (ap (λ n. take n (records ++ rec ∷ [])) last.0
          ∙ (take-append-le (length records) records (rec ∷ []) (omega arith) ∙ take-length records)))
          (subst (λ r. HasFront catalog i records r) last.1 has)
    ]

-- it goes on
started_more : (catalog : Catalog) (i : SiteId) (sess sess2 : ℕ → Option Session) (slows slows2 : ℕ → Slow)
    (flight flight2 : Option Record) (records : List Record) (wrote : Option Record)
    → AreStarted catalog i sess slows flight records → IfSome wrote (HasFront catalog i records)
    → ((c : ℕ) (s : Session) → sess2 c ≡ Some s → ((z : Session) × (sess c ≡ Some z) × (z.snapshot ≡ s.snapshot))
    ⊎ IsFront catalog i (records_after wrote records) s.snapshot)
    → ((n : ℕ) (y : Tx) → begun (slows2 n) ≡ Some y → (begun (slows n) ≡ Some y) ⊎ ((m : ℕ) × (wrote ≡ Some (SlowBegin m y))))
    → ((r : Record) → flight2 ≡ Some r → (flight ≡ Some r) ⊎ HasFront catalog i records r)
    → AreStarted catalog i sess2 slows2 flight2 (records_after wrote records)
started_more catalog i sess sess2 slows slows2 flight flight2 records wrote A has from begins_ flying = record {
  sessions = λ c s h. elim (from c s h) [
    | inl was ↦ subst (λ v. IsFront catalog i (records_after wrote records) v) was.2
        (front_after catalog i records wrote was.0.snapshot (A.sessions c was.0 was.1))
    | inr new ↦ new
  ];
  slow = λ n y h. elim (begins_ n y h) [
    | inl was ↦ front_after catalog i records wrote y.start (A.slow n y was)
    | inr new ↦ front_after catalog i records wrote y.start
        (subst (λ (w : Option Record). IfSome w (HasFront catalog i records)) new.1 has)
  ];
  flies = λ r h. elim (flying r h) [
    | inl was ↦ has_after catalog i records wrote r (A.flies r was)
    | inr new ↦ has_after catalog i records wrote r new
  ];
  owns = owns_more catalog i records wrote has A.owns;
}

-- what is begun behind a record was, or is the record's
begun_ended : (g : Slow) → begun (ended g) ≡ begun g
begun_ended Unused = refl
begun_ended (Undecided x asked) = refl
begun_ended (Dropped x asked) = refl
begun_ended (Decided x) = refl

begun_decided : (g : Slow) → begun (decided g) ≡ begun g
begun_decided Unused = refl
begun_decided (Undecided x asked) = refl
begun_decided (Dropped x asked) = refl
begun_decided (Decided x) = refl

begun_then : (catalog : Catalog) (i : SiteId) (K : Knowledge) (wrote : Option Record) (n : ℕ) (y : Tx)
    → begun (slow_after catalog i K wrote n) ≡ Some y
    → (begun (K.slow n) ≡ Some y) ⊎ ((m : ℕ) × (wrote ≡ Some (SlowBegin m y)))
begun_then catalog i K None n y h = inl h
begun_then catalog i K (Some (SlowBegin m x)) n y h = elim (nat_eq m n) as
    (λ b. begun (if b then Undecided x (Rattle.walter_rules.specs.Objects.participants catalog K i x.updates) else K.slow n) ≡ Some y
    → (begun (K.slow n) ≡ Some y) ⊎ ((k : ℕ) × (Some (SlowBegin m x) ≡ Some (SlowBegin k y)))) [
      | true ↦ λ e. inr (m, ap (λ z. Some (SlowBegin m z)) (same_Some x y e))
      | false ↦ λ e. inl e
    ] h
begun_then catalog i K (Some (SlowEnd m)) n y h = elim (nat_eq m n) as
    (λ b. begun (if b then ended (K.slow n) else K.slow n) ≡ Some y
    → (begun (K.slow n) ≡ Some y) ⊎ ((k : ℕ) × (Some (SlowEnd m) ≡ Some (SlowBegin k y)))) [
      | true ↦ λ e. inl (sym (begun_ended (K.slow n)) ∙ e)
      | false ↦ λ e. inl e
    ] h
begun_then catalog i K (Some (Own seq tx)) n y h = elim (nat_eq tx.slow n) as
    (λ b. begun (if b then decided (K.slow n) else K.slow n) ≡ Some y
    → (begun (K.slow n) ≡ Some y) ⊎ ((k : ℕ) × (Some (Own seq tx) ≡ Some (SlowBegin k y)))) [
      | true ↦ λ e. inl (sym (begun_decided (K.slow n)) ∙ e)
      | false ↦ λ e. inl e
    ] h
begun_then catalog i K (Some (Boot epoch)) n y h = inl (sym (begun_ended (K.slow n)) ∙ h)
begun_then catalog i K (Some (Got j seq tx)) n y h = inl h
begun_then catalog i K (Some (Seen j seq)) n y h = inl h
begun_then catalog i K (Some (Prepared j m tid objects)) n y h = inl h
begun_then catalog i K (Some (Released j m)) n y h = inl h
begun_then catalog i K (Some (Marks durable visible)) n y h = inl h
begun_then catalog i K (Some FormatRecord) n y h = inl h

-- a session behind a reply was there, with its snapshot; or its snapshot is taken now
abbrev WasOrNew : List ℕ → Sessions → ℕ → Session → Type 0
WasOrNew now sessions c s = ((z : Session) × (session_in c sessions ≡ Some z) × (z.snapshot ≡ s.snapshot)) ⊎ (now ≡ s.snapshot)

open_from : (c client : ℕ) (new t : Session) (ss : Sessions) → lookup (nat_eq c) (ss ++ (client, new) ∷ []) ≡ Some t
    → (lookup (nat_eq c) ss ≡ Some t) ⊎ (new ≡ t)
open_from c client new t [] h = elim (nat_eq c client) as
    (λ b. (if b then Some new else None) ≡ Some t → (◌≡◌ {A = Option Session} None (Some t)) ⊎ (new ≡ t)) [
      | true ↦ λ e. inr (same_Some new t e)
      | false ↦ λ e. inl e
    ] h
open_from c client new t (e ∷ ss) h =
    let rest = open_from c client new t ss in
    elim (nat_eq c e.0) as
    (λ b. (if b then Some e.1 else lookup (nat_eq c) (ss ++ (client, new) ∷ [])) ≡ Some t
    → ((if b then Some e.1 else lookup (nat_eq c) ss) ≡ Some t) ⊎ (new ≡ t)) [
      | true ↦ λ g. inl g
      | false ↦ λ g. rest g
    ] h

changed_from : (c client : ℕ) (f : Session → Session) (t : Session) (ss : Sessions)
    → ((z : Session) → z.snapshot ≡ (f z).snapshot)
    → lookup (nat_eq c) (Rattle.walter_base.specs.ByClient.changed client f ss) ≡ Some t
    → (z : Session) × (lookup (nat_eq c) ss ≡ Some z) × (z.snapshot ≡ t.snapshot)
changed_from c client f t ss same h =
    by (nat_eq client c) (lookup (nat_eq c) ss) (sym (lookup-changed client c f ss) ∙ h)
  where
    by : (b : Bool) (o : Option Session) → (if b then option_map f o else o) ≡ Some t
        → (z : Session) × (o ≡ Some z) × (z.snapshot ≡ t.snapshot)
    by true None e = absurd cc
    by true (Some z) e = (z, refl, same z ∙ ap (λ (w : Session). w.snapshot) (same_Some (f z) t e))
    by false o e = (t, e, refl)

without_from : (c client : ℕ) (t : Session) (ss : Sessions)
    → lookup (nat_eq c) (Rattle.walter_base.specs.ByClient.without client ss) ≡ Some t
    → lookup (nat_eq c) ss ≡ Some t
without_from c client t ss h = by (nat_eq client c) (sym (lookup-without client c ss) ∙ h)
  where
    by : (b : Bool) → (if b then None else lookup (nat_eq c) ss) ≡ Some t → lookup (nat_eq c) ss ≡ Some t
    by true e = absurd cc
    by false e = e

updated_same : (call : Result Request BadFrame) (z : Session) → z.snapshot ≡ (updated call z).snapshot
updated_same (Ok (Write oid bytes)) z = refl
updated_same (Ok (SetAdd oid id)) z = refl
updated_same (Ok (SetDel oid id)) z = refl
updated_same call z = refl

deciding_same : (wrote : Option Record) (z : Session) → z.snapshot ≡ (deciding wrote z).snapshot
deciding_same (Some (SlowBegin n tx)) z = refl
deciding_same wrote z = refl

sessions_from : (event : Event) (outcome : Outcome) (wrote : Option Record) (now : List ℕ) (ss : Sessions) (c : ℕ)
    (s : Session) → session_in c (sessions_after event outcome wrote now ss) ≡ Some s → WasOrNew now ss c s
sessions_from (Given (Call client call)) (Replied (Started tid)) wrote now ss c s h =
    elim (open_from c client (record { tid = tid; snapshot = now; updates = []; slow = 0 }) s ss h) [
      | inl was ↦ inl (s, was, refl)
      | inr new ↦ inr (ap (λ (z : Session). z.snapshot) new)
    ]
sessions_from (Given (Call client call)) (Replied Done) wrote now ss c s h =
    inl (changed_from c client (updated call) s ss (updated_same call) h)
sessions_from (Given (Call client call)) (Replied (Committed version)) wrote now ss c s h = inl (s, without_from c client s ss h, refl)
sessions_from (Given (Call client call)) (Replied (Aborted cause)) wrote now ss c s h = inl (s, without_from c client s ss h, refl)
sessions_from (Given (Call client call)) (Replied (Deciding tid)) wrote now ss c s h =
    inl (changed_from c client (deciding wrote) s ss (deciding_same wrote) h)
sessions_from (Given (Call client call)) (Replied Ended) wrote now ss c s h = inl (s, without_from c client s ss h, refl)
sessions_from (Given (Call client call)) (Replied (Unsure tid)) wrote now ss c s h = inl (s, without_from c client s ss h, refl)
sessions_from (Given (Deliver from number packet)) (Replied (Started tid)) wrote now ss c s h = inl (s, h, refl)
sessions_from (Given (Advance from)) (Replied (Started tid)) wrote now ss c s h = inl (s, h, refl)
sessions_from (Given Tick) (Replied (Started tid)) wrote now ss c s h = inl (s, h, refl)
sessions_from (Given Upgrade) (Replied (Started tid)) wrote now ss c s h = inl (s, h, refl)
sessions_from Stop (Replied (Started tid)) wrote now ss c s h = inl (s, h, refl)
sessions_from Restart (Replied (Started tid)) wrote now ss c s h = inl (s, h, refl)
sessions_from event outcome wrote now ss c s h = inl (s, h, refl)

-- what a site has committed, as a vector, is what its records count
pub range_below : (a n k : ℕ) → Contains (range_with_len a n) k → k < a + n
range_below a zero k within = absurd (Contains-nil k within)
range_below a (suc n) k within = elim (in_cases a (range_with_len (a + 1) n) k within) [
  | inl here ↦ omega (arith, here)
  | inr there ↦ let rest = range_below (a + 1) n k there in omega (arith, rest)
]

vector_entry : (catalog : Catalog) (K : Knowledge) (k : SiteId) → k.0 < catalog.sites
    → entry_at (vector_of catalog K) k ≡ K.committed k
vector_entry catalog K k within =
    let numbers : List ℕ = range_with_len 0 catalog.sites in
    let same : vector_of catalog K ≡ map (λ n. K.committed (site_at n)) numbers = map-map K.committed site_at numbers in
    let e : slice_index (map (λ n. K.committed (site_at n)) numbers) k.0 ≡ K.committed k =
    get_or-map-range_with_len (λ n. K.committed (site_at n)) 0 catalog.sites k.0 k.0 0 within (omega arith) in
    ap (λ v. entry_at v k) same ∙ e

vector_counts : (catalog : Catalog) (i : SiteId) (K : Knowledge) (records : List Record)
    → ((k : SiteId) → K.committed k ≡ count i records k) → IsFront catalog i records (vector_of catalog K)
vector_counts catalog i K records is = (
  length records,
  omega arith,
  subst (λ rs. are_counts catalog i rs (vector_of catalog K) ≡ true) (sym (take-length records))
      (all_pass (λ k. nat_eq (count i records k) (entry_at (vector_of catalog K) k)) (sites catalog)
      (λ k within.
      let from = made_from site_at (range_with_len 0 catalog.sites) k within in
      let below = range_below 0 catalog.sites from.0 from.1 in
      let e : from.0 ≡ k.0 = ap (λ (s : SiteId). s.0) from.2 in
      let at = vector_entry catalog K k (omega (arith, below, e)) in
      eq-eqb (count i records k) (entry_at (vector_of catalog K) k) (sym (is k) ∙ sym at))),
)

-- a record that an event brings has its start from a session, or from a slow commit that was begun
kind_front : (catalog : Catalog) (i : SiteId) (S : Standing) (event : Event) (wrote : Option Record) (outcome : Outcome)
    → AreStarted catalog i (λ c. session_of S.knows c) S.knows.slow S.flight S.records
    → IsKind catalog i S event wrote outcome → IfSome wrote (HasFront catalog i S.records)
kind_front catalog i S event wrote outcome A (commits client s open_ some local clear) = A.sessions client s open_.session
kind_front catalog i S event wrote outcome A (begins client s open_ some clear) = A.sessions client s open_.session
kind_front catalog i S event wrote outcome A (decides p number n tx asked from undecided within said) =
    A.slow n tx (ap begun undecided)
kind_front catalog i S event wrote outcome A kind = tt

step_front : (catalog : Catalog) (i : SiteId) (S : Standing) (event : Event) (came : Came)
    → AreStarted catalog i (λ c. session_of S.knows c) S.knows.slow S.flight S.records → IsStep catalog i S event came
    → IfSome came.wrote (HasFront catalog i S.records)
    × ((r : Record) → came.flight ≡ Some r → HasFront catalog i S.records r)
step_front catalog i S event came A (stable kind none said) = (
  kind_front catalog i S event came.wrote came.outcome A kind,
  λ r h. absurd (none_not_some came.flight r none h),
)
step_front catalog i S event came A (flies rec outcome kind only) = (
  subst (λ (w : Option Record). IfSome w (HasFront catalog i S.records)) (sym only.wrote) tt,
  λ r h. subst (λ z. HasFront catalog i S.records z) (same_Some rec r (sym only.flight_is ∙ h))
      (kind_front catalog i S event (Some rec) outcome A kind),
)
step_front catalog i S event came A (unread_step restart down only) = (
  subst (λ (w : Option Record). IfSome w (HasFront catalog i S.records)) (sym only.wrote) tt,
  λ r h. absurd (none_not_some came.flight r only.flight_is h),
)
step_front catalog i S event came A (wants takes only) = (
  subst (λ (w : Option Record). IfSome w (HasFront catalog i S.records)) (sym only.wrote) tt,
  λ r h. absurd (none_not_some came.flight r only.flight_is h),
)
step_front catalog i S event came A (finds_full rec outcome need left kind only) = (
  subst (λ (w : Option Record). IfSome w (HasFront catalog i S.records)) (sym only.wrote) tt,
  λ r h. absurd (none_not_some came.flight r only.flight_is h),
)

-- the record in flight behind an event is its own, or was there
flight_from : (flight wrote : Option Record) (outcome : Outcome) (old : Option Record) (r : Record)
    → flight_after flight wrote outcome old ≡ Some r → (flight ≡ Some r) ⊎ (old ≡ Some r)
flight_from (Some rec) wrote outcome old r h = inl h
flight_from None (Some rec) outcome old r h = absurd cc
flight_from None None (Full need left) old r h = absurd cc
flight_from None None outcome old r h = inr h

-- of how a site stands
abbrev pub StandsStarted : Catalog → SiteId → Standing → Type 0
StandsStarted catalog i S = AreStarted catalog i (λ c. session_of S.knows c) S.knows.slow S.flight S.records

unmade_started : (catalog : Catalog) (i : SiteId) → StandsStarted catalog i unmade
unmade_started catalog i = record {
  sessions = λ c s h. absurd (let e : ◌≡◌ {A = Option Session} None (Some s) = h in cc);
  slow = λ n x h. absurd (not_unused Unused x h refl);
  flies = λ r h. absurd (let e : ◌≡◌ {A = Option Record} None (Some r) = h in cc);
  owns = λ q seq x h. absurd (let e : ◌≡◌ {A = Option Record} None (Some (Own seq x)) = h in cc);
}

settled_started : (catalog : Catalog) (i : SiteId) (S : Standing) (event : Event) (kept : Option Record)
    → IfSome kept (IsFound S event) → StandsStarted catalog i S → StandsStarted catalog i (settled catalog i kept S)
settled_started catalog i S event None found A = A
settled_started catalog i S event (Some rec) found A =
    started_more catalog i (λ c. session_of S.knows c) (λ c. session_of S.knows c) S.knows.slow
    (slow_after catalog i S.knows (Some rec)) S.flight None S.records (Some rec) A (A.flies rec found.in_flight)
    (λ c s h. inl (s, h, refl)) (λ n y h. begun_then catalog i S.knows (Some rec) n y h)
    (λ r h. absurd (let e : ◌≡◌ {A = Option Record} None (Some r) = h in cc))

-- the sessions behind an event
after_sessions : (catalog : Catalog) (i : SiteId) (K : Knowledge) (event : Event) (outcome : Outcome)
    (wrote : Option Record) (c : ℕ) (s : Session)
    → session_of (knows_after event outcome (after catalog i K event outcome wrote)) c ≡ Some s
    → WasOrNew (vector_of catalog (recorded catalog i wrote K)) K.sessions c s
after_sessions catalog i K event outcome wrote c s h = by (goes_down event outcome) h
  where
    by : (b : Bool) → session_of (if b then lost (after catalog i K event outcome wrote) else after catalog i K event outcome wrote) c ≡ Some s
        → WasOrNew (vector_of catalog (recorded catalog i wrote K)) K.sessions c s
    by true g = absurd (let e : ◌≡◌ {A = Option Session} None (Some s) = g in cc)
    by false g = sessions_from event outcome wrote (vector_of catalog (recorded catalog i wrote K)) K.sessions c s g

after_started : (catalog : Catalog) (i : SiteId) (T : Standing) (event : Event) (came : Came)
    → StandsStarted catalog i T → IsStep catalog i T event came
    → ((k : SiteId) → (recorded catalog i came.wrote T.knows).committed k
    ≡ count i (records_after came.wrote T.records) k)
    → StandsStarted catalog i (stands_after catalog i T event came)
after_started catalog i T event came A step counted =
    let fronts = step_front catalog i T event came A step in
    started_more catalog i (λ c. session_of T.knows c)
    (λ c. session_of (stands_after catalog i T event came).knows c) T.knows.slow
    (stands_after catalog i T event came).knows.slow T.flight (stands_after catalog i T event came).flight T.records
    came.wrote A fronts.0
    (λ c s h. elim (after_sessions catalog i T.knows event came.outcome came.wrote c s h) [
      | inl was ↦ inl was
      | inr new ↦ inr (subst (λ v. IsFront catalog i (records_after came.wrote T.records) v) new
          (vector_counts catalog i (recorded catalog i came.wrote T.knows) (records_after came.wrote T.records) counted))
    ])
    (λ n y h. begun_then catalog i T.knows came.wrote n y
    (ap begun (sym (after_slow catalog i T.knows event came.outcome came.wrote n)) ∙ h))
    (λ r h. elim (flight_from came.flight came.wrote came.outcome T.flight r h) [
      | inl new ↦ inr (fronts.1 r new)
      | inr was ↦ inl was
    ])

-- each right trail keeps it
pub right_started : (catalog : Catalog) (layout : Layout) (i : SiteId) → i.0 < catalog.sites → (older : List Entry)
    → AreRight catalog layout i older → StandsStarted catalog i (standing catalog i older)
right_started catalog layout i below [] right = unmade_started catalog i
right_started catalog layout i below (e ∷ older) right =
    let T : Standing = settled catalog i e.came.kept (standing catalog i older) in
    let told = (right_journaled catalog layout i below (e ∷ older) right).told in
    after_started catalog i T e.event e.came
    (settled_started catalog i (standing catalog i older) e.event e.came.kept right.1.kept
    (right_started catalog layout i below older right.0))
    (step_of catalog layout i T e.event e.came right.1.comes)
    (λ k.
    let now : (standing catalog i (e ∷ older)).knows.committed k ≡ (recorded catalog i e.came.wrote T.knows).committed k =
    after_committed catalog i T.knows e.event e.came.outcome e.came.wrote k in
    let all = ap (λ (K : Knowledge). K.committed k) told in
    let sums = committed_told catalog i fresh (standing catalog i (e ∷ older)).records k in
    omega (arith, now, all, sums))

-- so no own commit of a run is without its start
pub none_unstarted : (catalog : Catalog) (layouts : SiteId → Layout) (run : List InRun) → IsRun catalog layouts run
    → (a : Named) → ¬ IsUnstarted catalog (journals_of catalog run) a
none_unstarted catalog layouts run is a u = elim (low_or a.site.0 catalog.sites) [
  | inl below ↦
      let A = right_started catalog (layouts a.site) a.site below (entries_of a.site run)
      (run_right catalog layouts run is a.site) in
      let f = A.owns a.index u.seq u.tx u.here in
      let within = slice_get_within (journals_of catalog run a.site) a.index (Own u.seq u.tx) u.here in
      let size = length-take-le a.index (journals_of catalog run a.site) (omega (arith, within)) in
      let low = f.1 in
      let least : f.0 ≤ a.index = omega (arith, low, size) in
      let is_so : are_counts catalog a.site (take f.0 (journals_of catalog run a.site)) u.tx.start ≡ true =
      subst (λ rs. are_counts catalog a.site rs u.tx.start ≡ true)
      (take-take f.0 a.index (journals_of catalog run a.site) least) f.2 in
      let not_so = u.never f.0 least in
      absurd (let e : true ≡ false = sym is_so ∙ not_so in cc)
  | inr out ↦
      let none : journals_of catalog run a.site ≡ [] = ap (λ es. (standing catalog a.site es).records)
      (none_outside catalog layouts run is a.site out) in
      absurd (let e : ◌≡◌ {A = Option Record} None (Some (Own u.seq u.tx)) = ap (λ rs. slice_get rs a.index) (sym none) ∙ u.here in cc)
]
