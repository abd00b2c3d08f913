-- Where the walk ends with something left, the sites wait in a circle, and there is one alone.
use Rattle.std.proofs.Common.{◌≡◌, ◌<◌, ℕ, zero, suc, List, [], ◌∷◌, length, drop, take, slice_get, slice_index, Some, None, refl, ap, sym, ◌∙◌, subst, arith, inl, inr}
use Rattle.std.specs.Prelude.{Option, Contains, flat_map, unwrap_or, IfSome, IfNone}
use Rattle.std.proofs.lemmas.Bool.{cases_order}
use Rattle.std.proofs.lemmas.List.{length-append}
use Rattle.std.proofs.lemmas.Option.{same_Some}
use Rattle.walter_base.specs.declared.catalog.Catalog.{Catalog}
use Rattle.walter_base.specs.declared.message.Record.{Record}
use Rattle.walter_base.specs.declared.message.Record.TheVariants.{Own, Seen}
use Rattle.walter_base.specs.declared.names.SiteId.{SiteId}
use Rattle.walter_base.specs.declared.transaction.Tx.{Tx}
use Rattle.walter_rules.proofs.Membership.{first_in}
use Rattle.walter_agreement.proofs.Cases.{low_or}
use Rattle.walter_audit.specs.declared.finding.Named.{Named}
use Rattle.walter_audit.specs.Circles.{IsOwnOf, IsAwaited, AreQueues}
use Rattle.walter_audit.specs.Firsts.{IsSoAt, IsFirstPlace, IsEarlier, IsFirstPair}
use Rattle.walter_audit.specs.Journals.{Journals, journals_of, own_of, made_in, AreNumbered}
use Rattle.walter_audit.specs.Orders.{Item, Starts, Commits, Arrives, Taken, IsWaiting, AreTaken, items_of, IsOrder, IsCycle}
use Rattle.walter_audit.specs.Reasons.{IsMissing}
use Rattle.walter_audit.specs.Walks.{all_of, IsWalk, IsLeft, NoneIsLeft}
use Rattle.walter_audit.proofs.Items.{arrival_recorded, left_among}
use Rattle.walter_audit.proofs.Owned.{there_made, none_made}
use Rattle.walter_audit.proofs.Reasoned.{not_itself}
use Rattle.walter_audit.proofs.Walks.{drop_at, none_behind, past_all, one_end}

-- behind an own commit there is one more
owns_rise : (rs : List Record) (p q seq : ℕ) (x : Tx) → p < q → slice_get rs p ≡ Some (Own seq x)
    → length (flat_map own_of (take p rs)) < length (flat_map own_of (take q rs))
owns_rise [] p q seq x low at = absurd cc
owns_rise (r ∷ rs) p zero seq x low at = absurd (omega (arith, low))
owns_rise (r ∷ rs) zero (suc q) seq x low at =
    let one : r ≡ Own seq x = same_Some r (Own seq x) at in
    let long = length-append (own_of r) (flat_map own_of (take q rs)) in
    let e : length (own_of r) ≡ 1 = ap (λ z. length (own_of z)) one in
    omega (arith, long, e)
owns_rise (r ∷ rs) (suc p) (suc q) seq x low at =
    let rest = owns_rise rs p q seq x (omega (arith, low)) at in
    let a = length-append (own_of r) (flat_map own_of (take p rs)) in
    let b = length-append (own_of r) (flat_map own_of (take q rs)) in
    omega (arith, rest, a, b)

one_number : (J : Journals) → AreNumbered J → (i : SiteId) (p q seq : ℕ) (x y : Tx) → slice_get (J i) p ≡ Some (Own seq x)
    → slice_get (J i) q ≡ Some (Own seq y) → p ≡ q
one_number J numbered i p q seq x y a b =
    let first = numbered i p seq x a in
    let second = numbered i q seq y b in
    elim (cases_order p q) [
      | inl same ↦ same
      | inr apart ↦ elim apart [
        | inl low ↦ absurd (let rise = owns_rise (J i) p q seq x low a in omega (arith, first, second, rise))
        | inr high ↦ absurd (let rise = owns_rise (J i) q p seq y high b in omega (arith, first, second, rise))
      ]
    ]

module _ (catalog : Catalog) (J : Journals) (numbered : AreNumbered J) where
  not_empty : {x : Item} {xs ys : List Item} → ys ≡ [] → ys ≡ x ∷ xs → ⊥
  not_empty none some = (let e = sym none ∙ some in cc)

  -- the circle is the only one
  one_cycle : (a b c d : Named) → IsCycle catalog J a b → IsCycle catalog J c d → (a ≡ c) × (b ≡ d)
  one_cycle a b c d C D =
      let same = one_end (items_of catalog J) C.left D.left C.done D.done C.taken C.stuck D.taken D.stuck in
      let sites : a.site ≡ c.site = elim (cases_order a.site.0 c.site.0) [
        | inl equal ↦ (λ t. record { 0 = equal t })
        | inr apart ↦ elim apart [
          | inl low ↦ absurd (not_empty (same.0 a.site ∙ D.before a.site low) C.next)
          | inr high ↦ absurd (not_empty (sym (same.0 c.site) ∙ C.before c.site high) D.next)
        ]
      ] in
      let lists : Arrives a.index b.site C.seq ∷ C.rest ≡ Arrives c.index d.site D.seq ∷ D.rest =
      sym C.next ∙ (same.0 a.site ∙ (ap D.left sites ∙ D.next)) in
      let places : a.index ≡ c.index = (let f : a.index ≡ c.index = cc in f) in
      let froms : b.site ≡ d.site = (let f : b.site ≡ d.site = cc in f) in
      let seqs : C.seq ≡ D.seq = (let f : C.seq ≡ D.seq = cc in f) in
      let there : slice_get (J b.site) d.index ≡ Some (Own C.seq D.tx) =
      (λ t. slice_get (J (froms t)) d.index) ∙ (D.awaited ∙ (λ t. Some (Own (sym seqs t) D.tx))) in
      let index = one_number J numbered b.site b.index d.index C.seq C.tx D.tx C.awaited there in
      ((λ t. record { site = sites t; index = places t }), (λ t. record { site = froms t; index = index t }))

  pub first_cycle : (a b : Named) → IsCycle catalog J a b → IsFirstPair (IsCycle catalog J) a b
  first_cycle a b C = record {
    so = C;
    least = λ c d D before.
        let same = one_cycle a b c d C D in
        elim before [
          | inl earlier ↦ not_itself c (subst (λ z. IsEarlier c z) same.0 earlier)
          | inr later ↦ not_itself d (subst (λ z. IsEarlier d z) same.1 later.1)
        ];
  }

  -- an order leaves no circle
  pub order_no_cycle : (order : List Taken) → IsOrder catalog J order → (a b : Named) → ¬ IsCycle catalog J a b
  order_no_cycle order O a b C =
      let ended : (k : SiteId) → IsWaiting order (O.left k) = λ k. subst (λ xs. IsWaiting order xs) (sym (O.all k)) tt in
      let same = one_end (items_of catalog J) C.left O.left C.done order C.taken C.stuck O.taken ended in
      not_empty (same.0 a.site ∙ O.all a.site) C.next

  module _ (queues : List (List Item)) (are : AreQueues catalog J queues) (order : List Taken) (cursors : List ℕ)
      (W : IsWalk queues order cursors) where
    taken : AreTaken (items_of catalog J) W.left order
    taken = subst (λ all. AreTaken all W.left order) (λ t k. are k t) W.taken

    pub whole_order : NoneIsLeft queues cursors → IsOrder catalog J order
    whole_order none = record {
      left = W.left;
      taken = taken;
      all = λ k. W.is k ∙ none_behind (all_of queues k) (slice_index cursors k.0) (elim (low_or k.0 (length queues)) [
        | inl low ↦ none k.0 low
        | inr out ↦ past_all queues k.0 (slice_index cursors k.0) out
      ]);
    }

    module _ (n : ℕ) (item : Item) (L : IsLeft queues cursors n item) where
      abbrev site : SiteId
      site = record { 0 = n }

      abbrev behind : List Item
      behind = drop (suc (slice_index cursors n)) (all_of queues site)

      next : W.left site ≡ item ∷ behind
      next = W.is site ∙ drop_at (all_of queues site) (slice_index cursors n) item L.next

      before : (k : SiteId) → k.0 < n → W.left k ≡ []
      before k low = W.is k ∙ none_behind (all_of queues k) (slice_index cursors k.0) (L.before k.0 low)

      pub cycle_is : (a b : Named) → IsAwaited J site item a b → IsCycle catalog J a b
      cycle_is a b awaited = by item next awaited
        where
          by : (x : Item) → W.left site ≡ x ∷ behind → IsAwaited J site x a b → IsCycle catalog J a b
          by (Arrives place j seq) here A =
              let site_is : a.site ≡ site = ap (λ (z : Named). z.site) A.0 in
              let place_is : a.index ≡ place = ap (λ (z : Named). z.index) A.0 in
              let from = A.1 in
              record {
                left = W.left;
                done = order;
                taken = taken;
                stuck = W.stuck;
                before = λ k low. before k (let e : a.site.0 ≡ n = ap (λ (z : SiteId). z.0) site_is in omega (arith, low, e));
                seq = seq;
                tx = A.2.0;
                rest = behind;
                next = ap W.left site_is ∙ (here ∙ (λ t. Arrives (sym place_is t) (sym from t) seq ∷ behind));
                awaited = A.2.1;
              }
          by (Starts place tx) here A = absurd A
          by (Commits place seq tx) here A = absurd A

      -- what is left first is an arrival, whose commit was made
      pub is_awaited : ((a : Named) → ¬ IsMissing J a) → ((a b : Named) → ¬ IsAwaited J site item a b) → ⊥
      is_awaited made none = by item next (λ a b A. none a b A)
        where
          by : (x : Item) → W.left site ≡ x ∷ behind → ((a b : Named) → ¬ IsAwaited J site x a b) → ⊥
          by (Starts place tx) here never = subst (λ xs. IsWaiting order xs) here (W.stuck site) tt
          by (Commits place seq tx) here never = subst (λ xs. IsWaiting order xs) here (W.stuck site) tt
          by (Arrives place j seq) here never =
              let within = left_among (items_of catalog J) W.left order taken site (Arrives place j seq)
              (subst (λ xs. Contains xs (Arrives place j seq)) (sym here) (first_in (Arrives place j seq) behind)) in
              let seen = arrival_recorded catalog site (J site) place j seq within in
              found (made_in (J j) seq) refl seen
            where
              found : (o : Option Tx) → made_in (J j) seq ≡ o → slice_get (J site) place ≡ Some (Seen j seq) → ⊥
              found None e seen = made (record { site = site; index = place })
                  (record { from = j; seq = seq; told = inr seen; unmade = none_made J numbered j seq e })
              found (Some tx) e seen =
                  let own = there_made J numbered j seq tx e in
                  never (record { site = site; index = place }) (record { site = j; index = own.0 }) (refl, refl, (tx, own.1))

-- the commit that an arrival waits for, found by its number
module _ (J : Journals) (i j : SiteId) (place seq : ℕ) where
  pub awaited_is : (index : ℕ) → IsFirstPlace (λ at rec. IsOwnOf seq rec) j (J j) index
      → IsAwaited J i (Arrives place j seq) (record { site = i; index = place }) (record { site = j; index = index })
  awaited_is index first = by first.so
    where
      by : IsSoAt (λ at rec. IsOwnOf seq rec) j (J j) index
          → IsAwaited J i (Arrives place j seq) (record { site = i; index = place }) (record { site = j; index = index })
      by (Own number tx, at, is) = (refl, refl, (tx, at ∙ (λ t. Some (Own (is t) tx))))
      by (rec, at, is) = absurd is

  pub none_awaited : ((index : ℕ) → ¬ IsSoAt (λ at rec. IsOwnOf seq rec) j (J j) index) → (a b : Named)
      → ¬ IsAwaited J i (Arrives place j seq) a b
  none_awaited none a b A =
      none b.index (Own seq A.2.0, (λ t. slice_get (J (sym A.1 t)) b.index) ∙ A.2.1, refl)

-- the records of a site, where these are those of a place
pub told_at : (all : List (List Record)) (j : SiteId) (records : List Record) → slice_get all j.0 ≡ Some records
    → journals_of all j ≡ records
told_at all j records at = ap (λ o. unwrap_or o []) at

-- what is found of the next item that is left
module _ (catalog : Catalog) (J : Journals) (numbered : AreNumbered J) (queues : List (List Item))
    (are : AreQueues catalog J queues) (order : List Taken) (cursors : List ℕ) (W : IsWalk queues order cursors) (n : ℕ)
    (item : Item) (L : IsLeft queues cursors n item) where
  pub found_first : (found : Option (Named × Named)) → IfSome found (λ (a, b). IsAwaited J (record { 0 = n }) item a b)
      → IfSome found (λ (a, b). IsFirstPair (IsCycle catalog J) a b)
  found_first None awaited = tt
  found_first (Some (a, b)) awaited = first_cycle catalog J numbered a b
      (cycle_is catalog J numbered queues are order cursors W n item L a b awaited)

  pub found_none : (P : Type 0) → ((a : Named) → ¬ IsMissing J a) → (found : Option (Named × Named))
      → IfNone found ((a b : Named) → ¬ IsAwaited J (record { 0 = n }) item a b) → IfNone found P
  found_none P made None none = absurd (is_awaited catalog J numbered queues are order cursors W n item L made none)
  found_none P made (Some pair) none = tt
