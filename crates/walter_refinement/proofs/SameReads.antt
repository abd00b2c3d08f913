-- Two lists of transactions that agree on each site's own give the same counts, whatever their order.
use Rattle.std.proofs.Common.{◌≡◌, ℕ, ◌+◌, List, [], ◌∷◌, ◌++◌, refl, ap, sym, ◌∙◌, subst, arith, Bool, true, false, inl, inr, if◌then◌else◌}
use Rattle.std.specs.Prelude.{flat_map, filter, count_by, pos, ◌-ℤ◌}
use Rattle.std.proofs.lemmas.List.Sums.{sum_by-append}
use Rattle.std.proofs.lemmas.List.Concat.{flat_map-append}
use Rattle.std.proofs.lemmas.List.Elements.{filter-append}
use Rattle.walter_base.specs.declared.names.ObjId.{ObjId}
use Rattle.walter_base.specs.declared.names.SiteId.{SiteId}
use Rattle.walter_base.specs.declared.names.Tid.{Tid}
use Rattle.walter_base.specs.declared.update.Update.{Update}
use Rattle.walter_base.specs.Names.{same_site}
use Rattle.walter_base.specs.Values.{value_of, count_of, adds, takes}
use Rattle.walter_base.proofs.NameTests.{same_site_refl}
use Rattle.walter_agreement.proofs.Cases.{site_cases}
use Rattle.walter_psi.specs.declared.step.Answer.{Answer}
use Rattle.walter_psi.specs.declared.step.Answer.TheVariants.{Value, Counts, Count}
use Rattle.walter_psi.specs.Legal.{IsAnswer}

-- the transactions of a site in a list
abbrev pub by : SiteId → List Tid → List Tid
by k xs = filter (λ x. same_site x.site k) xs

-- counts of two lists in one
pub count_by-append : {X : Type 0} (p : X → Bool) (xs ys : List X)
    → count_by p (xs ++ ys) ≡ count_by p xs + count_by p ys
count_by-append p xs ys = sum_by-append (λ x. if p x then 1 else 0) xs ys

-- where the first of a site stands
record Split (k : SiteId) (ys : List Tid) (x : Tid) (rest : List Tid) : Type 0 where
  pub before : List Tid
  pub after : List Tid
  pub is : ys ≡ before ++ x ∷ after
  pub none : by k before ≡ []
  pub others : by k after ≡ rest

-- it stands somewhere, where the others of its site come behind it
split_at : (k : SiteId) (ys : List Tid) (x : Tid) (rest : List Tid) → by k ys ≡ x ∷ rest → Split k ys x rest
split_at k [] x rest h = absurd cc
split_at k (y ∷ ys) x rest h =
    elim (same_site y.site k) as
    (λ b. same_site y.site k ≡ b → (if b then y ∷ by k ys else by k ys) ≡ x ∷ rest → Split k (y ∷ ys) x rest) [
      | true ↦ λ is h. let e : y ≡ x = cc in record {
        before = [];
        after = ys;
        is = ap (λ z. z ∷ ys) e;
        none =
            refl;
        others = cc;
      }
      | false ↦ λ is h.
          let s = split_at k ys x rest h in
          record {
            before = y ∷ s.before;
            after = s.after;
            is = ap (λ t. y ∷ t) s.is;
            none = rw is s.none;
            others =
                s.others;
          }
    ] refl h

-- a list without one of any site is empty
none_of_any : (ys : List Tid) → ((k : SiteId) → by k ys ≡ []) → ys ≡ []
none_of_any [] h = refl
none_of_any (y ∷ ys) h =
    let e : by y.site (y ∷ ys) ≡ [] = h y.site in let t = same_site_refl y.site in
    absurd (let f : y ∷ by y.site ys ≡ [] = rw t at e in cc)

-- lists that agree on each site's own give the same counts
pub count_same : (p : Update → Bool) (f : Tid → List Update) (xs ys : List Tid) → ((k : SiteId) → by k xs ≡ by k ys)
    → count_by p (flat_map f xs) ≡ count_by p (flat_map f ys)
count_same p f [] ys same = rw (none_of_any ys (λ k. sym (same k))) refl
count_same p f (x ∷ xs) ys same =
    let first : by x.site ys ≡ x ∷ by x.site xs = sym (same x.site) ∙ rw (same_site_refl x.site) refl in
    let s = split_at x.site ys x (by x.site xs) first in
    let agree : (k : SiteId) → by k xs ≡ by k (s.before ++ s.after) = λ k.
    let joined : by k (s.before ++ s.after) ≡ by k s.before ++ by k s.after =
    filter-append (λ z. same_site z.site k) s.before s.after in
    let whole : by k (x ∷ xs) ≡ by k s.before ++ by k (x ∷ s.after) =
    same k ∙ (ap (λ t. by k t) s.is ∙ filter-append (λ z. same_site z.site k) s.before (x ∷ s.after)) in
    elim (site_cases x.site k) [
      | inl here ↦
          let none : by k s.before ≡ [] = subst (λ j. by j s.before ≡ []) here.1 s.none in
          let others : by k s.after ≡ by k xs = subst (λ j. by j s.after ≡ by j xs) here.1 s.others in
          sym (joined ∙ (ap (λ t. t ++ by k s.after) none ∙ others))
      | inr far ↦ (rw far.0 at whole) ∙ sym joined
    ] in
    let rest = count_same p f xs (s.before ++ s.after) agree in
    let left = count_by-append p (f x) (flat_map f xs) in
    let right =
    ap (λ t. count_by p (flat_map f t)) s.is
    ∙ (ap (λ t. count_by p t) (flat_map-append f s.before (x ∷ s.after)) ∙ count_by-append p (flat_map f s.before)
    (f x ++ flat_map f s.after)) in
    let inner = count_by-append p (f x) (flat_map f s.after) in
    let outer =
    ap (λ t. count_by p t) (flat_map-append f s.before s.after)
    ∙ count_by-append p (flat_map f s.before) (flat_map f s.after) in
    omega (arith, rest, left, right, inner, outer)

-- what such lists give to the count of an id, with the same updates behind them
pub count_of_same : (oid : ObjId) (id : ℕ) (f : Tid → List Update) (xs ys : List Tid) (own : List Update)
    → ((k : SiteId) → by k xs ≡ by k ys)
    → count_of oid id (flat_map f xs ++ own) ≡ count_of oid id (flat_map f ys ++ own)
count_of_same oid id f xs ys own agree =
    let count : (p : Update → Bool) → count_by p (flat_map f xs ++ own) ≡ count_by p (flat_map f ys ++ own) = λ p.
    count_by-append p (flat_map f xs) own
    ∙ (ap (λ n. n + count_by p own) (count_same p f xs ys agree) ∙ sym (count_by-append p (flat_map f ys) own)) in
    ap (λ n. pos n -ℤ pos (count_by (takes oid id) (flat_map f xs ++ own))) (count (adds oid id))
    ∙ ap (λ n. pos (count_by (adds oid id) (flat_map f ys ++ own)) -ℤ pos n) (count (takes oid id))

-- an answer is by the value and the counts alone
pub answer_same : (oid : ObjId) (us vs : List Update) (a : Answer) → value_of oid us ≡ value_of oid vs
    → ((id : ℕ) → count_of oid id us ≡ count_of oid id vs) → IsAnswer oid us a → IsAnswer oid vs a
answer_same oid us vs (Value bytes) v c h = h ∙ v
answer_same oid us vs (Counts counts) v c h = record {
  rising = h.rising;
  held =
      λ id n. (λ has. let r = (h.held id n).0 has in (sym (c id) ∙ r.0, r.1), λ r. (h.held id n).1 (c id ∙ r.0, r.1));
}
answer_same oid us vs (Count id n) v c h = h ∙ c id
