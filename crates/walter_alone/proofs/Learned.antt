-- What the records of a site tell by themselves, and that each record that can follow them keeps it.
use Rattle.std.proofs.Common.{◌≡◌, ◌≢◌, ◌+◌, ◌<◌, ◌≤◌, ◌⊎◌, ℕ, zero, suc, nat_eq, Bool, true, false, not, ◌&&◌, List, Some, None, refl, ap, sym, ◌∙◌, subst, arith, inl, inr, if◌then◌else◌}
use Rattle.std.specs.Prelude.{Option, Contains}
use Rattle.std.specs.List.{list_any, range_with_len}
use Rattle.std.proofs.lemmas.Bool.{and_parts}
use Rattle.std.proofs.lemmas.List.Elements.{All-contains}
use Rattle.walter_base.specs.declared.catalog.Catalog.{Catalog}
use Rattle.walter_base.specs.declared.message.Record.{Record}
use Rattle.walter_base.specs.declared.message.Record.TheVariants.{Boot, Own, Got, Seen, Prepared, Released, SlowBegin, SlowEnd, Marks, Format as FormatRecord}
use Rattle.walter_base.specs.declared.names.Kind.TheVariants.{Regular}
use Rattle.walter_base.specs.declared.names.ObjId.{ObjId}
use Rattle.walter_base.specs.declared.names.SiteId.{SiteId}
use Rattle.walter_base.specs.declared.names.Tid.{Tid}
use Rattle.walter_base.specs.declared.transaction.Tx.{Tx}
use Rattle.walter_base.specs.Names.{same_site}
use Rattle.walter_base.specs.Values.{write_set}
use Rattle.walter_base.proofs.NameTests.{same_site-true, same_site_refl}
use Rattle.walter_psi.proofs.Lists.{Contains-nil}
use Rattle.walter_rules.specs.declared.event.Event.{Event}
use Rattle.walter_rules.specs.declared.outcome.Outcome.{Outcome}
use Rattle.walter_rules.specs.Declarations.{is_of_kind, are_declared}
use Rattle.walter_rules.specs.Knowledge.{Knowledge, fresh, preferred, site_at, sites, peers, from_to}
use Rattle.walter_rules.specs.Learning.{slow_number, part_over, part_after, freed_over, is_locked_here, owner_after, slow_after, one_more, got_after, committed_after, durable_after, visible_after, recorded, after, lost}
use Rattle.walter_rules.specs.Log.{commit_at}
use Rattle.walter_rules.specs.Objects.{objects_of, objects_at, participants}
use Rattle.walter_rules.specs.Records.{CanFollow}
use Rattle.walter_rules.specs.Slow.{Slow, Unused, Undecided, Dropped, Decided, begun, ended, decided, Part, Free, Locked, Over, is_slow, has_object, does_lock, unlocked}
use Rattle.walter_rules.proofs.Membership.{in_cases, each_passes, one_passes, kept_from, is_kept, made_from, in_range}
use Rattle.walter_rules.proofs.RuleTests.{peer_true}
use Rattle.walter_rules.proofs.WrittenObjects.{objects_at_from, in_rising, rising_from}
use Rattle.walter_agreement.proofs.Cases.{site_cases, slow_cases, object_in, locked_not_free, over_not_locked, unlocked_not_locked, unlocked_or_free, not_unused}
use Rattle.walter_agreement.proofs.Owners.{AreOwners, none_owned, release, unlock, lock, boot_here}
use Rattle.walter_alone.proofs.Alone.{home, IsAskedFor}
use Rattle.walter_alone.proofs.TestsPass.{is_made, some_pass, in_from_to}

-- a slow commit whose part at its own site is a lock is being decided
abbrev pub IsOpenIfLocked : Part → Slow → Type 0
IsOpenIfLocked a g = (t : Tid) (objs : List ObjId) → a ≡ Locked t objs → (tx : Tx) × (asked : List SiteId)
    × (g ≡ Undecided tx asked)

-- of what a site knows by its records
pub record IsLearned (catalog : Catalog) (i : SiteId) (K : Knowledge) : Type 0 where
  -- the owners of objects are those of its locks
  pub owners : AreOwners K.part K.owner
  -- what is locked is preferred here
  pub here : (j : SiteId) (n : ℕ) (t : Tid) (objs : List ObjId) (oid : ObjId) → K.part j n ≡ Locked t objs
      → Contains objs oid → home catalog oid ≡ i
  -- who is asked
  pub asked : (n : ℕ) (tx : Tx) (asked : List SiteId) → (K.slow n ≡ Undecided tx asked) ⊎ (K.slow n ≡ Dropped tx asked)
      → IsAskedFor catalog i tx asked
  -- sites that aren't of the catalog have committed nothing
  pub outside : (k : SiteId) → catalog.sites ≤ k.0 → (K.got k ≡ 0) × (K.committed k ≡ 0)
  -- its own slow commits have locks only where their numbers were given
  pub given_ : (n : ℕ) → (K.part i n ≡ Free) ⊎ ((1 ≤ n) × (n ≤ K.last))
  -- and only while they are being decided
  pub own_open : (n : ℕ) → IsOpenIfLocked (K.part i n) (K.slow n)
  -- slow commits write what the catalog has
  pub declared : (n : ℕ) (tx : Tx) → begun (K.slow n) ≡ Some tx → are_declared catalog tx.updates ≡ true
  -- the marks are of own commits
  pub durable : K.durable_floor ≤ K.committed i
  pub visible : K.visible_floor ≤ K.committed i

-- at first
pub learned_fresh : (catalog : Catalog) (i : SiteId) → IsLearned catalog i fresh
learned_fresh catalog i = record {
  owners = none_owned fresh.part fresh.owner (λ j n. refl) (λ oid. refl);
  here = λ j n t objs oid h. absurd (locked_not_free (fresh.part j n) t objs h refl);
  asked = λ n tx asked h. elim h [ inl e ↦ absurd cc | inr e ↦ absurd cc ];
  outside = λ k past. (refl, refl);
  given_ = λ n. inl refl;
  own_open = λ n t objs h. absurd (locked_not_free (fresh.part i n) t objs h refl);
  declared = λ n tx h. absurd (not_unused (fresh.slow n) tx h refl);
  durable = omega arith;
  visible = omega arith;
}

-- it is so without the sessions, and without what peers have said
pub learned_lost : (catalog : Catalog) (i : SiteId) (K : Knowledge) → IsLearned catalog i K
    → IsLearned catalog i (lost K)
learned_lost catalog i K L = record {
  owners = L.owners;
  here = L.here;
  asked = L.asked;
  outside = L.outside;
  given_ = L.given_;
  own_open = L.own_open;
  declared = L.declared;
  durable = L.durable;
  visible = L.visible;
}

pub learned_after : (catalog : Catalog) (i : SiteId) (K : Knowledge) (event : Event) (outcome : Outcome)
    (wrote : Option Record)
    → IsLearned catalog i (recorded catalog i wrote K) → IsLearned catalog i (after catalog i K event outcome wrote)
learned_after catalog i K event outcome wrote L = record {
  owners = L.owners;
  here = L.here;
  asked = L.asked;
  outside = L.outside;
  given_ = L.given_;
  own_open = L.own_open;
  declared = L.declared;
  durable = L.durable;
  visible = L.visible;
}

-- the sites of the catalog are those below their number
range_below : (a n k : ℕ) → Contains (range_with_len a n) k → k < a + n
range_below a zero k within = absurd (Contains-nil k within)
range_below a (suc n) k within = elim (in_cases a (range_with_len (a + 1) n) k within) [
  | inl here ↦ omega (arith, here)
  | inr there ↦ let rest = range_below (a + 1) n k there in omega (arith, rest)
]

site_below : (catalog : Catalog) (p : SiteId) → Contains (sites catalog) p → p.0 < catalog.sites
site_below catalog p within =
    let from = made_from site_at (range_with_len 0 catalog.sites) p within in
    let below = range_below 0 catalog.sites from.0 from.1 in
    let e : from.0 ≡ p.0 = ap (λ (s : SiteId). s.0) from.2 in
    omega (arith, below, e)

in_sites : (catalog : Catalog) (p : SiteId) → p.0 < catalog.sites → Contains (sites catalog) p
in_sites catalog p below = is_made site_at (range_with_len 0 catalog.sites) p.0
    (in_range 0 catalog.sites p.0 (omega arith) (omega (arith, below)))

-- the sites that are asked for these updates
pub participants_asked : (catalog : Catalog) (i : SiteId) (K : Knowledge) (tx : Tx)
    → IsAskedFor catalog i tx (participants catalog K i tx.updates)
participants_asked catalog i K tx = record {
  there = λ p within.
      let kept = kept_from (λ k. list_any (λ oid. same_site (preferred catalog K oid) k) (objects_of tx.updates))
      (peers catalog i) p within in
      let peer = kept_from (λ k. not (same_site k i)) (sites catalog) p kept.0 in
      let one = one_passes (λ oid. same_site (preferred catalog K oid) p) (objects_of tx.updates) kept.1 in (
        (λ e. let no_ : not (same_site i i) ≡ true = subst
            (λ (z : SiteId). not (same_site z i) ≡ true) e peer.1 in let is = same_site_refl i in absurd cc),
        site_below catalog p peer.0,
        (one.0, rising_from (write_set tx.updates) one.0 one.1, same_site-true (preferred catalog K one.0) p one.2),
      );
  all = λ oid within apart below.
      let p : SiteId = home catalog oid in
      is_kept (λ k. list_any (λ o. same_site (preferred catalog K o) k) (objects_of tx.updates)) (peers catalog i) p
      (is_kept (λ k. not (same_site k i)) (sites catalog) p (in_sites catalog p below) (elim (site_cases p i) [
        | inl same ↦ absurd (apart same.1)
        | inr other ↦ ap not other.0
      ]))
      (some_pass (λ o. same_site (preferred catalog K o) p) (objects_of tx.updates) oid
      (in_rising (write_set tx.updates) oid within) (same_site_refl p));
}

module _ (catalog : Catalog) (i : SiteId) (K : Knowledge) (L : IsLearned catalog i K) where
  -- a slow commit of another is over here
  over_owners : (k : SiteId) (n : ℕ) → AreOwners (part_over k n K.part) (λ oid. freed_over k n K oid)
  over_owners k zero = L.owners
  over_owners k (suc n) = release K.part K.owner L.owners k (suc n) (part_over k (suc n) K.part)
      (λ oid. freed_over k (suc n) K oid) (λ j m. refl) (λ oid. refl)

  -- what is locked by an own slow commit
  some_locked : (oid : ObjId) → is_locked_here i K oid ≡ true → (n : ℕ) × (does_lock (K.part i n) oid ≡ true)
  some_locked oid is = let one = one_passes (λ n. does_lock (K.part i n) oid) (from_to 1 K.last) is in (one.0, one.2)

  is_locked : (n : ℕ) (t : Tid) (objs : List ObjId) (oid : ObjId) → K.part i n ≡ Locked t objs
      → has_object oid objs ≡ true → is_locked_here i K oid ≡ true
  is_locked n t objs oid h has = elim (L.given_ n) [
    | inl free ↦ absurd (locked_not_free (K.part i n) t objs h free)
    | inr within ↦ some_pass (λ m. does_lock (K.part i m) oid) (from_to 1 K.last) n
        (in_from_to n K.last within.0 within.1) (ap (λ a. does_lock a oid) h ∙ has)
  ]

  -- the next own slow commit has no lock yet
  next_free : (n : ℕ) → n ≡ K.last + 1 → K.part i n ≡ Free
  next_free n next = elim (L.given_ n) [
    | inl free ↦ free
    | inr within ↦ absurd (let high = within.1 in omega (arith, next, high))
  ]

  owners_then : (rec : Record) → CanFollow catalog i K rec
      → AreOwners (part_after catalog i K (Some rec)) (owner_after catalog i K (Some rec))
  owners_then (Boot epoch) f = boot_here K.part K.owner L.owners i (is_locked_here i K)
      (part_after catalog i K (Some (Boot epoch))) (owner_after catalog i K (Some (Boot epoch))) some_locked is_locked
      (λ j n. refl) (λ oid. refl)
  owners_then (Own seq tx) f = unlock K.part K.owner L.owners i tx.slow (part_after catalog i K (Some (Own seq tx)))
      (owner_after catalog i K (Some (Own seq tx))) (λ j n. refl) (λ oid. refl)
  owners_then (Got j seq tx) f = L.owners
  owners_then (Seen j seq) f = over_owners j (slow_number (commit_at j seq K.log))
  owners_then (Prepared j n tid objects) f =
      lock K.part K.owner L.owners j n tid objects (part_after catalog i K (Some (Prepared j n tid objects)))
      (owner_after catalog i K (Some (Prepared j n tid objects)))
      f.free (λ oid has. All-contains (λ o. K.owner o ≡ None) objects oid f.unlocked (object_in oid objects has))
      (λ k m. refl) (λ oid. refl)
  owners_then (Released j n) f = release K.part K.owner L.owners j n (part_after catalog i K (Some (Released j n)))
      (owner_after catalog i K (Some (Released j n))) (λ k m. refl) (λ oid. refl)
  owners_then (SlowBegin n tx) f =
      let objects : List ObjId = objects_at catalog K i tx.updates in
      lock K.part K.owner L.owners i n tx.tid objects (part_after catalog i K (Some (SlowBegin n tx)))
      (owner_after catalog i K (Some (SlowBegin n tx)))
      (next_free n f.next) (λ oid has. All-contains (λ o. K.owner o ≡ None) objects oid f.unlocked
      (object_in oid objects has)) (λ k m. refl) (λ oid. refl)
  owners_then (SlowEnd n) f = unlock K.part K.owner L.owners i n (part_after catalog i K (Some (SlowEnd n)))
      (owner_after catalog i K (Some (SlowEnd n))) (λ k m. refl) (λ oid. refl)
  owners_then (Marks durable visible) f = L.owners
  owners_then FormatRecord f = L.owners

  -- a part is as it was, or free, or over; or it is the one that was locked
  abbrev pub IsHere : Part → Type 0
  IsHere a = (t : Tid) (objs : List ObjId) (oid : ObjId) → a ≡ Locked t objs → Contains objs oid → home catalog oid ≡ i

  here_unlocked : (a : Part) → IsHere a → IsHere (unlocked a)
  here_unlocked a is t objs oid h = absurd (unlocked_not_locked a t objs h)

  here_over : IsHere Over
  here_over t objs oid h = absurd (over_not_locked Over t objs h)

  here_part : (j : SiteId) (n : ℕ) → IsHere (K.part j n)
  here_part j n t objs oid h within = L.here j n t objs oid h within

  here_locked : (tid : Tid) (objects : List ObjId) → ((oid : ObjId) → Contains objects oid → home catalog oid ≡ i)
      → IsHere (Locked tid objects)
  here_locked tid objects all t objs oid h within = let e : objects ≡ objs = cc in all oid
      (subst (λ os. Contains os oid) (sym e) within)

  here_if : (b : Bool) (x y : Part) → IsHere x → IsHere y → IsHere (if b then x else y)
  here_if true x y a c = a
  here_if false x y a c = c

  here_passed : (k : SiteId) (n : ℕ) (j : SiteId) (m : ℕ) → IsHere (part_over k n K.part j m)
  here_passed k zero j m = here_part j m
  here_passed k (suc n) j m = here_if (is_slow k (suc n) j m) Over (K.part j m) here_over (here_part j m)

  here_then : (rec : Record) → CanFollow catalog i K rec → (j : SiteId) (n : ℕ)
      → IsHere (part_after catalog i K (Some rec) j n)
  here_then (Boot epoch) f j n = here_if (same_site i j) (unlocked (K.part j n)) (K.part j n)
      (here_unlocked (K.part j n) (here_part j n)) (here_part j n)
  here_then (Own seq tx) f j n = here_if (is_slow i tx.slow j n) (unlocked (K.part j n)) (K.part j n)
      (here_unlocked (K.part j n) (here_part j n)) (here_part j n)
  here_then (Got k seq tx) f j n = here_part j n
  here_then (Seen k seq) f j n = here_passed k (slow_number (commit_at k seq K.log)) j n
  here_then (Prepared k m tid objects) f j n = here_if (is_slow k m j n) (Locked tid objects) (K.part j n)
      (here_locked tid objects (λ oid within.
      same_site-true (preferred catalog K oid) i
      (and_parts (is_of_kind catalog Regular oid) (same_site (preferred catalog K oid) i)
      (each_passes (λ o. is_of_kind catalog Regular o && same_site
      (preferred catalog K o) i) objects oid f.here within)).1))
      (here_part j n)
  here_then (Released k m) f j n = here_if (is_slow k m j n) Over (K.part j n) here_over (here_part j n)
  here_then (SlowBegin m tx) f j n =
      let objects : List ObjId = objects_at catalog K i tx.updates in
      here_if (is_slow i m j n) (Locked tx.tid objects) (K.part j n)
      (here_locked tx.tid objects (λ oid within. (objects_at_from catalog K i tx.updates oid within).1))
      (here_part j n)
  here_then (SlowEnd m) f j n = here_if (is_slow i m j n) (unlocked (K.part j n)) (K.part j n)
      (here_unlocked (K.part j n) (here_part j n)) (here_part j n)
  here_then (Marks durable visible) f j n = here_part j n
  here_then FormatRecord f j n = here_part j n

  -- who is asked, and what is written, of each slow commit
  abbrev pub IsSlowOf : Slow → Type 0
  IsSlowOf g =
      ((tx : Tx) (asked : List SiteId) → (g ≡ Undecided tx asked) ⊎ (g ≡ Dropped tx asked)
      → IsAskedFor catalog i tx asked)
      × ((tx : Tx) → begun g ≡ Some tx → are_declared catalog tx.updates ≡ true)

  slow_before : (n : ℕ) → IsSlowOf (K.slow n)
  slow_before n = (L.asked n, L.declared n)

  slow_ended : (g : Slow) → IsSlowOf g → IsSlowOf (ended g)
  slow_ended Unused is = is
  slow_ended (Undecided x asked) is = (
    λ tx others h. elim h [
      | inl e ↦ absurd cc
      | inr e ↦ is.0 tx others (inl (let p : x ≡ tx = cc in let q : asked ≡ others = cc in
          ap (λ z. Undecided z asked) p ∙ ap (λ z. Undecided tx z) q))
    ],
    is.1,
  )
  slow_ended (Dropped x asked) is = is
  slow_ended (Decided x) is = is

  slow_decided : (g : Slow) → IsSlowOf g → IsSlowOf (decided g)
  slow_decided Unused is = is
  slow_decided (Undecided x asked) is = (λ tx others h. elim h [ inl e ↦ absurd cc | inr e ↦ absurd cc ], is.1)
  slow_decided (Dropped x asked) is = is
  slow_decided (Decided x) is = is

  slow_if : (b : Bool) (x y : Slow) → IsSlowOf x → IsSlowOf y → IsSlowOf (if b then x else y)
  slow_if true x y a c = a
  slow_if false x y a c = c

  slow_new : (tx : Tx) → are_declared catalog tx.updates ≡ true
      → IsSlowOf (Undecided tx (participants catalog K i tx.updates))
  slow_new tx declared = (
    λ x asked h. elim h [
      | inl e ↦
          let p : tx ≡ x = cc in
          let q : participants catalog K i tx.updates ≡ asked = cc in
          subst (λ (z : List SiteId). IsAskedFor catalog i x z) q
          (subst (λ (z : Tx). IsAskedFor catalog i z (participants catalog K i tx.updates)) p
          (participants_asked catalog i K tx))
      | inr e ↦ absurd cc
    ],
    λ x h. let p : tx ≡ x = cc in subst (λ (z : Tx). are_declared catalog z.updates ≡ true) p declared,
  )

  slow_then : (rec : Record) → CanFollow catalog i K rec → (n : ℕ) → IsSlowOf (slow_after catalog i K (Some rec) n)
  slow_then (Boot epoch) f n = slow_ended (K.slow n) (slow_before n)
  slow_then (Own seq tx) f n = slow_if (nat_eq tx.slow n) (decided (K.slow n)) (K.slow n)
      (slow_decided (K.slow n) (slow_before n)) (slow_before n)
  slow_then (Got j seq tx) f n = slow_before n
  slow_then (Seen j seq) f n = slow_before n
  slow_then (Prepared j m tid objects) f n = slow_before n
  slow_then (Released j m) f n = slow_before n
  slow_then (SlowBegin m tx) f n = slow_if (nat_eq m n) (Undecided tx (participants catalog K i tx.updates)) (K.slow n)
      (slow_new tx f.declared) (slow_before n)
  slow_then (SlowEnd m) f n = slow_if (nat_eq m n) (ended (K.slow n)) (K.slow n) (slow_ended (K.slow n) (slow_before n))
      (slow_before n)
  slow_then (Marks durable visible) f n = slow_before n
  slow_then FormatRecord f n = slow_before n

  -- one more of a site of the catalog is none of another
  apart_same : (j k : SiteId) (counts : SiteId → ℕ) → j.0 < catalog.sites → catalog.sites ≤ k.0
      → one_more j counts k ≡ counts k
  apart_same j k counts below past = elim (site_cases j k) [
    | inl same ↦ absurd (let e : j.0 ≡ k.0 = ap (λ (s : SiteId). s.0) same.1 in omega (arith, below, past, e))
    | inr other ↦ ap (λ b. if b then counts k + 1 else counts k) other.0
  ]

  outside_then : i.0 < catalog.sites → (rec : Record) → CanFollow catalog i K rec → (k : SiteId) → catalog.sites ≤ k.0
      → (got_after i (Some rec) K.got k ≡ 0) × (committed_after i (Some rec) K.committed k ≡ 0)
  outside_then below (Boot epoch) f k past = L.outside k past
  outside_then below (Own seq tx) f k past = (
    apart_same i k K.got below past
        ∙ (L.outside k past).0,
    apart_same i k K.committed below past ∙ (L.outside k past).1,
  )
  outside_then below (Got j seq tx) f k past = (
    apart_same j k K.got (peer_true catalog i j f.peer).0 past
        ∙ (L.outside k past).0,
    (L.outside k past).1,
  )
  outside_then below (Seen j seq) f k past = (
    (L.outside k past).0,
    apart_same j k K.committed
        (peer_true catalog i j f.peer).0 past ∙ (L.outside k past).1,
  )
  outside_then below (Prepared j n tid objects) f k past = L.outside k past
  outside_then below (Released j n) f k past = L.outside k past
  outside_then below (SlowBegin n tx) f k past = L.outside k past
  outside_then below (SlowEnd n) f k past = L.outside k past
  outside_then below (Marks durable visible) f k past = L.outside k past
  outside_then below FormatRecord f k past = L.outside k past

  -- an own part is free, or of a number that was given
  abbrev pub IsGivenUpTo : ℕ → ℕ → Part → Type 0
  IsGivenUpTo last n a = (a ≡ Free) ⊎ ((1 ≤ n) × (n ≤ last))

  given_unlocked : (last n : ℕ) (a : Part) → IsGivenUpTo last n a → IsGivenUpTo last n (unlocked a)
  given_unlocked last n a is = elim (unlocked_or_free a) [
    | inl same ↦ elim is [ inl free ↦ inl (same ∙ free) | inr within ↦ inr within ]
    | inr free ↦ inl free
  ]

  given_if : (last n : ℕ) (b : Bool) (x y : Part) → IsGivenUpTo last n x → IsGivenUpTo last n y
      → IsGivenUpTo last n (if b then x else y)
  given_if last n true x y a c = a
  given_if last n false x y a c = c

  -- the part of another's slow commit is none of its own
  not_own : (k : SiteId) (m n : ℕ) (a : Part) → k ≢ i → IsGivenUpTo K.last n (if is_slow k m i n then a else K.part i n)
  not_own k m n a other = elim (slow_cases k m i n) [
    | inl same ↦ absurd (other same.1)
    | inr apart ↦ subst (λ b. IsGivenUpTo K.last n (if b then a else K.part i n)) (sym apart.0) (L.given_ n)
  ]

  given_over : (k : SiteId) (m n : ℕ) → k ≢ i → IsGivenUpTo K.last n (part_over k m K.part i n)
  given_over k zero n other = L.given_ n
  given_over k (suc m) n other = not_own k (suc m) n Over other

  given_begun : (m n : ℕ) (a : Part) → m ≡ K.last + 1 → IsGivenUpTo m n (if is_slow i m i n then a else K.part i n)
  given_begun m n a next = elim (slow_cases i m i n) [
    | inl same ↦ inr (let e = same.2 in (omega (arith, e, next), omega (arith, e)))
    | inr apart ↦ subst (λ b. IsGivenUpTo m n (if b then a else K.part i n)) (sym apart.0) (elim (L.given_ n) [
      | inl free ↦ inl free
      | inr within ↦ inr (let low = within.0 in let high = within.1 in (low, omega (arith, high, next)))
    ])
  ]

  given_then : (rec : Record) → CanFollow catalog i K rec → (n : ℕ)
      → IsGivenUpTo (recorded catalog i (Some rec) K).last n (part_after catalog i K (Some rec) i n)
  given_then (Boot epoch) f n = given_if K.last n (same_site i i) (unlocked (K.part i n)) (K.part i n)
      (given_unlocked K.last n (K.part i n) (L.given_ n)) (L.given_ n)
  given_then (Own seq tx) f n = given_if K.last n (is_slow i tx.slow i n) (unlocked (K.part i n)) (K.part i n)
      (given_unlocked K.last n (K.part i n) (L.given_ n)) (L.given_ n)
  given_then (Got k seq tx) f n = L.given_ n
  given_then (Seen k seq) f n = given_over k (slow_number (commit_at k seq K.log)) n (peer_true catalog i k f.peer).1
  given_then (Prepared k m tid objects) f n = not_own k m n (Locked tid objects) (peer_true catalog i k f.peer).1
  given_then (Released k m) f n = not_own k m n Over (peer_true catalog i k f.peer).1
  given_then (SlowBegin m tx) f n = given_begun m n (Locked tx.tid (objects_at catalog K i tx.updates)) f.next
  given_then (SlowEnd m) f n = given_if K.last n (is_slow i m i n) (unlocked (K.part i n)) (K.part i n)
      (given_unlocked K.last n (K.part i n) (L.given_ n)) (L.given_ n)
  given_then (Marks durable visible) f n = L.given_ n
  given_then FormatRecord f n = L.given_ n

  -- an own lock goes with the slow commit that ends or is decided
  own_open_if : (m n : ℕ) (g : Slow) (a : Part) → IsOpenIfLocked a g
      → IsOpenIfLocked (if is_slow i m i n then a else K.part i n) (if nat_eq m n then g else K.slow n)
  own_open_if m n g a is =
      subst (λ s. IsOpenIfLocked (if s && nat_eq m n then a else K.part i n) (if nat_eq m n then g else K.slow n))
      (sym (same_site_refl i)) (elim (nat_eq m n) as (λ b. IsOpenIfLocked (if b then a else K.part i n)
      (if b then g else K.slow n)) [ true ↦ is | false ↦ L.own_open n ])

  own_open_unlocked : (n : ℕ) (g : Slow) → IsOpenIfLocked (unlocked (K.part i n)) g
  own_open_unlocked n g t objs h = absurd (unlocked_not_locked (K.part i n) t objs h)

  own_open_other : (k : SiteId) (m n : ℕ) (a : Part) → k ≢ i
      → IsOpenIfLocked (if is_slow k m i n then a else K.part i n) (K.slow n)
  own_open_other k m n a other = elim (slow_cases k m i n) [
    | inl same ↦ absurd (other same.1)
    | inr apart ↦ subst (λ b. IsOpenIfLocked (if b then a else K.part i n) (K.slow n)) (sym apart.0) (L.own_open n)
  ]

  own_open_over : (k : SiteId) (m n : ℕ) → k ≢ i → IsOpenIfLocked (part_over k m K.part i n) (K.slow n)
  own_open_over k zero n other = L.own_open n
  own_open_over k (suc m) n other = own_open_other k (suc m) n Over other

  own_open_then : (rec : Record) → CanFollow catalog i K rec → (n : ℕ)
      → IsOpenIfLocked (part_after catalog i K (Some rec) i n) (slow_after catalog i K (Some rec) n)
  own_open_then (Boot epoch) f n =
      subst (λ b. IsOpenIfLocked (if b then unlocked (K.part i n) else K.part i n) (ended (K.slow n)))
      (sym (same_site_refl i)) (own_open_unlocked n (ended (K.slow n)))
  own_open_then (Own seq tx) f n = own_open_if tx.slow n (decided (K.slow n)) (unlocked (K.part i n))
      (own_open_unlocked n (decided (K.slow n)))
  own_open_then (Got k seq tx) f n = L.own_open n
  own_open_then (Seen k seq) f n = own_open_over k (slow_number (commit_at k seq K.log)) n
      (peer_true catalog i k f.peer).1
  own_open_then (Prepared k m tid objects) f n = own_open_other k m n (Locked tid objects)
      (peer_true catalog i k f.peer).1
  own_open_then (Released k m) f n = own_open_other k m n Over (peer_true catalog i k f.peer).1
  own_open_then (SlowBegin m tx) f n = own_open_if m n (Undecided tx (participants catalog K i tx.updates))
      (Locked tx.tid (objects_at catalog K i tx.updates))
      (λ t objs h. (tx, participants catalog K i tx.updates, refl))
  own_open_then (SlowEnd m) f n = own_open_if m n (ended (K.slow n)) (unlocked (K.part i n))
      (own_open_unlocked n (ended (K.slow n)))
  own_open_then (Marks durable visible) f n = L.own_open n
  own_open_then FormatRecord f n = L.own_open n

  -- the marks
  abbrev pub AreBelow : ℕ → ℕ → ℕ → Type 0
  AreBelow durable visible own = (durable ≤ own) × (visible ≤ own)

  more_below : (j : SiteId) → AreBelow K.durable_floor K.visible_floor (one_more j K.committed i)
  more_below j = elim (same_site j i) as (λ b. AreBelow K.durable_floor K.visible_floor
      (if b then K.committed i + 1 else K.committed i)) [
        | true ↦ (let l = L.durable in omega (arith, l), let l = L.visible in omega (arith, l))
        | false ↦ (L.durable, L.visible)
      ]

  marks_then : (rec : Record) → CanFollow catalog i K rec
      → AreBelow (durable_after (Some rec) K.durable_floor) (visible_after (Some rec) K.visible_floor)
      (committed_after i (Some rec) K.committed i)
  marks_then (Boot epoch) f = (L.durable, L.visible)
  marks_then (Own seq tx) f = more_below i
  marks_then (Got j seq tx) f = (L.durable, L.visible)
  marks_then (Seen j seq) f = more_below j
  marks_then (Prepared j n tid objects) f = (L.durable, L.visible)
  marks_then (Released j n) f = (L.durable, L.visible)
  marks_then (SlowBegin n tx) f = (L.durable, L.visible)
  marks_then (SlowEnd n) f = (L.durable, L.visible)
  marks_then (Marks durable visible) f = (f.durable_own, f.visible_own)
  marks_then FormatRecord f = (L.durable, L.visible)

  -- a record that can follow keeps it
  pub learned_recorded : i.0 < catalog.sites → (rec : Record) → CanFollow catalog i K rec
      → IsLearned catalog i (recorded catalog i (Some rec) K)
  learned_recorded below rec f = record {
    owners = owners_then rec f;
    here = here_then rec f;
    asked = λ n. (slow_then rec f n).0;
    outside = outside_then below rec f;
    given_ = given_then rec f;
    own_open = own_open_then rec f;
    declared = λ n. (slow_then rec f n).1;
    durable = (marks_then rec f).0;
    visible = (marks_then rec f).1;
  }
