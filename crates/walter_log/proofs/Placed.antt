-- Where the transactions of a site stand in the log.
use Rattle.std.proofs.Common.{◌≡◌, ◌∙◌, ◌-◌, ◌<◌, ◌≤◌, ◌++◌, ℕ, zero, suc, true, false, List, [], ◌∷◌, length, get_or, map, slice_get, Option, Some, None, option_map, refl, ap, sym, subst, append-nil, arith, if◌then◌else◌}
use Rattle.std.specs.Global.{Vec}
use Rattle.std.specs.Option.{option_and_then, option_map_or}
use Rattle.std.proofs.Math.Seq.{get_or-append_seam}
use Rattle.std.proofs.lemmas.List.{length-append, map-append}
use Rattle.std.proofs.lemmas.List.Elements.{filter-append}
use Rattle.std.proofs.lemmas.Option.{slice_get-get_or, slice_get_past}
use Rattle.walter_base.specs.declared.names.SiteId.{SiteId}
use Rattle.walter_base.specs.Names.{same_site}
use Rattle.walter_base.proofs.NameTests.{same_site-true}
use Rattle.walter_rules.specs.declared.held.Held.{Held}
use Rattle.walter_rules.specs.Log.{is_of, of_site, commit_at}
use Rattle.walter_log.specs.Kept.{ArePlaced}
use Rattle.walter_log.specs.Places.{places_of}

-- what a look-up finds
pub stands_at : {X : Type 0} (found those : List X) (i place : ℕ) (x : X) → found ≡ those → i ≡ place → i < length found
    → x ≡ get_or found i x → slice_get those place ≡ Some x
stands_at found those i place x all at within is =
    (λ t. slice_get (sym all t) (sym at t)) ∙ slice_get-get_or found i x within ∙ ap (λ y. Some y) (sym is)

pub none_stands : {X : Type 0} (found those : List X) (i place : ℕ) → found ≡ those → i ≡ place → length found ≤ i
    → slice_get those place ≡ None
none_stands found those i place all at past = (λ t. slice_get (sym all t) (sym at t)) ∙ slice_get_past found i past

-- these transactions, one after another
abbrev all_of : List Held → List (Option Held)
all_of those = map (λ h. Some h) those

-- what stands at a place stays there
one_kept : (log more : List Held) (place : ℕ) (h : Held) → slice_get log place ≡ Some h
    → slice_get (log ++ more) place ≡ Some h
one_kept [] more place h is = absurd (cc)
one_kept (x ∷ log) more zero h is = is
one_kept (x ∷ log) more (suc place) h is = one_kept log more place h is

all_kept : (log more : List Held) (places : List ℕ) (those : List Held) → map (slice_get log) places ≡ all_of those
    → map (slice_get (log ++ more)) places ≡ all_of those
all_kept log more [] those is = is
all_kept log more (p ∷ places) [] is = absurd (cc)
all_kept log more (p ∷ places) (h ∷ those) is =
    let first : slice_get log p ≡ Some h = cc in
    let rest : map (slice_get log) places ≡ all_of those = cc in
    λ i. one_kept log more p h first i ∷ all_kept log more places those rest i

-- the next place is the last
last_place : (log : List Held) (h : Held) → slice_get (log ++ h ∷ []) (length log) ≡ Some h
last_place log h =
    slice_get-get_or (log ++ h ∷ []) (length log) h (omega (arith, length-append log (h ∷ [])))
    ∙ ap (λ x. Some x) (get_or-append_seam log h [] h)

-- what stands at the place of a number
at_place : (log : List Held) (places : List ℕ) (those : List Held) (n : ℕ) → map (slice_get log) places ≡ all_of those
    → option_and_then (slice_get log) (slice_get places n) ≡ slice_get those n
at_place log [] [] n is = refl
at_place log [] (h ∷ those) n is = absurd (cc)
at_place log (p ∷ places) [] n is = absurd (cc)
at_place log (p ∷ places) (h ∷ those) zero is = let first : slice_get log p ≡ Some h = cc in first
at_place log (p ∷ places) (h ∷ those) (suc n) is =
    let rest : map (slice_get log) places ≡ all_of those = cc in at_place log places those n rest

-- the commit stands at the place of its number among those of its site
pub commit_is : (log : List Held) (places : List (Vec ℕ)) → ArePlaced log places → (j : SiteId) (seq : ℕ) (list : Vec ℕ)
    (place : ℕ) → slice_get places j.0 ≡ Some list → slice_get list.items (seq - 1) ≡ Some place
    → commit_at j seq log ≡ option_map (λ h. h.tx) (slice_get log place)
commit_is log places placed j seq list place here at =
    ap (option_map (λ (h : Held). h.tx)) (
    sym (at_place log (places_of places j) (of_site j log) (seq - 1) (placed j))
    ∙ ap (λ o. option_and_then (slice_get log) (slice_get (option_map_or (λ (l : Vec ℕ). l.items) o []) (seq - 1))) here
    ∙ ap (option_and_then (slice_get log)) at
    )

-- one more transaction stands at the next place, among those of its site
module _ (log : List Held) (h : Held) (before after : List (Vec ℕ)) (placed : ArePlaced log before) (j : SiteId) where
  others_kept : map (slice_get (log ++ h ∷ [])) (places_of before j) ≡ all_of (of_site j log)
  others_kept = all_kept log (h ∷ []) (places_of before j) (of_site j log) (placed j)

  one_more : map (slice_get (log ++ h ∷ [])) (places_of before j ++ length log ∷ []) ≡ all_of (of_site j log ++ h ∷ [])
  one_more =
      map-append (slice_get (log ++ h ∷ [])) (places_of before j) (length log ∷ [])
      ∙ ap (λ xs. xs ++ slice_get (log ++ h ∷ []) (length log) ∷ []) others_kept
      ∙ ap (λ x. all_of (of_site j log) ++ x ∷ []) (last_place log h)
      ∙ sym (map-append (λ (x : Held). Some x) (of_site j log) (h ∷ []))

  pub placed_more : places_of after j ≡ (if same_site h.tx.tid.site j
      then places_of before h.tx.tid.site ++ length log ∷ [] else places_of before j)
      → map (slice_get (log ++ h ∷ [])) (places_of after j) ≡ all_of (of_site j (log ++ h ∷ []))
  placed_more put =
      let s = h.tx.tid.site in
      ap (map (slice_get (log ++ h ∷ []))) put
      ∙ (elim (same_site s j) as (λ b. same_site s j ≡ b
      → map (slice_get (log ++ h ∷ [])) (if b then places_of before s ++ length log ∷ [] else places_of before j)
      ≡ all_of (of_site j log ++ (if b then h ∷ [] else []))) [
        | true ↦ λ is. subst (λ k. map (slice_get (log ++ h ∷ [])) (places_of before k ++ length log ∷ [])
            ≡ all_of (of_site j log ++ h ∷ [])) (sym (same_site-true s j is)) one_more
        | false ↦ λ apart. others_kept ∙ ap all_of (sym (append-nil (of_site j log)))
      ] refl)
      ∙ ap all_of (sym (filter-append (is_of j) log (h ∷ [])))
