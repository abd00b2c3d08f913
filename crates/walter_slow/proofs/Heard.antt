-- What is missing, once one more site is heard.
use Rattle.std.proofs.Common.{◌≡◌, ◌≤◌, ◌+◌, ℕ, Bool, true, false, not, ◌||◌, List, [], ◌∷◌, ◌++◌, cond, sym, subst, arith, length, refl}
use Rattle.std.proofs.lemmas.List.{length_push}
use Rattle.std.proofs.lemmas.List.Folds.{list_any-append}
use Rattle.std.proofs.lemmas.List.Sums.{sum_by-cons}
use Rattle.walter_base.specs.declared.names.SiteId.{SiteId}
use Rattle.walter_base.specs.Names.{same_site}
use Rattle.walter_base.proofs.NameTests.{both, same_site-true, same_site_refl}
use Rattle.walter_rules.specs.Slow.{has_site}
use Rattle.walter_slow.specs.Sites.{is_missing, missing_count, HasRoom}

heard_more : (s site : SiteId) (heard : List SiteId) → has_site s (heard ++ site ∷ []) ≡ (has_site s heard || (same_site s site || false))
heard_more s site heard = list_any-append (same_site s) heard (site ∷ [])

fewer : (a b : Bool) → cond (not (a || b)) 1 0 ≤ cond (not a) 1 0
fewer true b = omega arith
fewer false true = omega arith
fewer false false = omega arith

one_less : (a b : Bool) → a ≡ false → b ≡ true → cond (not (a || (b || false))) 1 0 + 1 ≤ cond (not a) 1 0
one_less true b old new = absurd (cc)
one_less false true old new = omega arith
one_less false false old new = absurd (cc)

-- what one of the asked sites adds to the count
adds_less : (s site : SiteId) (heard : List SiteId) → cond (not (has_site s (heard ++ site ∷ []))) 1 0 ≤ cond (not (has_site s heard)) 1 0
adds_less s site heard = subst (λ b. cond (not b) 1 0 ≤ cond (not (has_site s heard)) 1 0) (sym (heard_more s site heard)) (fewer (has_site s heard) (same_site s site || false))

adds_one_less : (s site : SiteId) (heard : List SiteId) → site ≡ s → has_site site heard ≡ false → cond (not (has_site s (heard ++ site ∷ []))) 1 0 + 1 ≤ cond (not (has_site s heard)) 1 0
adds_one_less s site heard is old =
    subst (λ b. cond (not b) 1 0 + 1 ≤ cond (not (has_site s heard)) 1 0) (sym (heard_more s site heard))
    (one_less (has_site s heard) (same_site s site) (subst (λ t. has_site t heard ≡ false) is old) (subst (λ t. same_site s t ≡ true) (sym is) (same_site_refl s)))

count_one : (s : SiteId) (asked heard : List SiteId) → missing_count (s ∷ asked) heard ≡ cond (not (has_site s heard)) 1 0 + missing_count asked heard
count_one s asked heard = sum_by-cons (λ site. cond (not (has_site site heard)) 1 0) s asked

no_more : (site : SiteId) (asked heard : List SiteId) → missing_count asked (heard ++ site ∷ []) ≤ missing_count asked heard
no_more site [] heard = omega arith
no_more site (s ∷ asked) heard = omega (arith, count_one s asked heard, count_one s asked (heard ++ site ∷ []), adds_less s site heard, no_more site asked heard)

-- a site that was missing is missing no more
less_missing : (site : SiteId) (asked heard : List SiteId) → has_site site asked ≡ true → has_site site heard ≡ false
    → missing_count asked (heard ++ site ∷ []) + 1 ≤ missing_count asked heard
less_missing site [] heard asks old = absurd (cc)
less_missing site (s ∷ asked) heard asks old = elim (same_site site s) as (λ b. same_site site s ≡ b → (b || has_site site asked) ≡ true → missing_count (s ∷ asked) (heard ++ site ∷ []) + 1 ≤ missing_count (s ∷ asked) heard) [
  | true ↦ λ is _. omega (arith, count_one s asked heard, count_one s asked (heard ++ site ∷ []), adds_one_less s site heard (same_site-true site s is) old, no_more site asked heard)
  | false ↦ λ is rest. omega (arith, count_one s asked heard, count_one s asked (heard ++ site ∷ []), adds_less s site heard, less_missing site asked heard rest old)
] refl asks

not_true : (b : Bool) → not b ≡ true → b ≡ false
not_true true h = absurd (cc)
not_true false h = refl

less_by_missing : (site : SiteId) (asked heard : List SiteId) → is_missing site asked heard ≡ true → missing_count asked (heard ++ site ∷ []) + 1 ≤ missing_count asked heard
less_by_missing site asked heard is =
    let parts = both (has_site site asked) (not (has_site site heard)) is in
    less_missing site asked heard parts.0 (not_true (has_site site heard) parts.1)

-- room for one that is missing
pub has_place : (site : SiteId) (asked heard : List SiteId) (capacity : ℕ) → HasRoom asked heard capacity → is_missing site asked heard ≡ true → length heard + 1 ≤ capacity
has_place site asked heard capacity room is = omega (arith, less_by_missing site asked heard is, room.missing)

pub room_heard : (site : SiteId) (asked heard : List SiteId) (capacity : ℕ) → HasRoom asked heard capacity → is_missing site asked heard ≡ true → HasRoom asked (heard ++ site ∷ []) capacity
room_heard site asked heard capacity room is = record {
  missing = omega (arith, less_by_missing site asked heard is, room.missing, length_push heard site);
  all = room.all;
}
