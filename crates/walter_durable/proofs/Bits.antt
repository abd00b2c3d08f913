-- Sites as bits, and what a site holds by its bit.
use Rattle.std.proofs.Common.{◌≡◌, ◌∙◌, ◌*◌, ◌%◌, ◌^◌, ◌<◌, ◌≤◌, ℕ, Bool, true, false, nat_eq, nat_le, ◌||◌, List, ◌∷◌, ◌++◌, [], length, get_or, bit_or, All, w32, inl, inr, refl, ap, sym, subst, arith, if◌then◌else◌}
use Rattle.std.specs.Int.{bit_at}
use Rattle.std.proofs.Math.ListN.{get_or-eq_default}
use Rattle.std.proofs.lemmas.Bool.{cases_lt, cases_eq, eqb-true, eq-eqb, ne_eqb, lt-leb, or_right}
use Rattle.std.proofs.lemmas.List.Folds.{Any-from_list_any, list_any_at, list_any-append}
use Rattle.std.proofs.lemmas.Nat.Bits.{bit_at_set_same, bit_at_set_other}
use Rattle.walter_base.specs.declared.names.SiteId.{SiteId}
use Rattle.walter_base.specs.Vectors.{most_sites, entry_at}
use Rattle.walter_durable.specs.Marks.{Holdings, site_at, holds}
use Rattle.walter_durable.specs.Bits.{place_of, has_place, AreBitsOf}

or_none : (b : Bool) → (b || false) ≡ b
or_none true = refl
or_none false = refl

-- with the bit of one more site
pub bits_with : (bits : ℕ) (sites : List SiteId) (site : SiteId) → AreBitsOf bits sites
    → AreBitsOf (bit_or bits (1 * 2 ^ place_of site % 2 ^ 32)) (sites ++ site ∷ [])
bits_with bits sites site are place =
    let fits : place_of site < 32 = omega arith in
    let more : has_place (sites ++ site ∷ []) place ≡ (has_place sites place || nat_eq (place_of site) place) =
    list_any-append (λ it. nat_eq (place_of it) place) sites (site ∷ [])
    ∙ ap (λ b. has_place sites place || b) (or_none (nat_eq (place_of site) place)) in
    let told = ap (λ b. if b then 1 else 0) more in
    elim (cases_eq place (place_of site)) [
      | inl same ↦
          let here = or_right (has_place sites place) (nat_eq (place_of site) place)
          (eq-eqb (place_of site) place (sym same)) in
          subst (λ k. bit_at (bit_or bits (1 * 2 ^ place_of site % 2 ^ 32)) k ≡ 1) (sym same)
          (bit_at_set_same w32 bits (place_of site) fits)
          ∙ sym (told ∙ ap (λ b. if b then 1 else 0) here)
      | inr other ↦
          let none = ne_eqb (place_of site) place (λ is. other (sym is)) in
          let as_before : (has_place sites place || nat_eq (place_of site) place) ≡ has_place sites place =
          ap (λ b. has_place sites place || b) none ∙ or_none (has_place sites place) in
          bit_at_set_other w32 bits (place_of site) fits place other ∙ are place
          ∙ sym (told ∙ ap (λ b. if b then 1 else 0) as_before)
    ]

module _ (H : Holdings) (q : ℕ) (some : 0 < q) (here : H.site.0 < most_sites)
    (few : length H.acknowledged ≤ most_sites) where
  -- a site that no catalog has holds nothing
  holds_none : (site : SiteId) → most_sites ≤ site.0 → holds H q site ≡ false
  holds_none site beyond =
      let other = ne_eqb site.0 H.site.0 (λ same. absurd (omega (arith, same, beyond, here))) in
      let nothing : entry_at H.acknowledged site ≡ 0 = get_or-eq_default H.acknowledged 0 (omega (arith, few, beyond)) in
      let untold = lt-leb q (entry_at H.acknowledged site) (omega (arith, nothing, some)) in
      ap (λ b. b || nat_le q (entry_at H.acknowledged site)) other ∙ untold

  -- so each site holds what the one of its bit does
  holds_by_place : (site : SiteId) → holds H q (site_at (place_of site)) ≡ holds H q site
  holds_by_place site = elim (cases_lt site.0 most_sites) [
    | inl inside ↦
        let same : place_of site ≡ site.0 = omega (arith, inside) in
        ap (λ k. holds H q (site_at k)) same
    | inr beyond ↦
        let last : most_sites ≤ place_of site = omega (arith, beyond) in
        holds_none (site_at (place_of site)) last ∙ sym (holds_none site beyond)
  ]

  pub all_hold : (sites : List SiteId) (places : ℕ) → most_sites < places
      → ((k : ℕ) → k < places → has_place sites k ≡ true → holds H q (site_at k) ≡ true)
      → All (λ site. holds H q site ≡ true) sites
  all_hold sites places all they k d inside =
      let site = get_or sites k d in
      let place = place_of site in
      let has = list_any_at (λ it. nat_eq (place_of it) place) sites k d inside (eq-eqb place place refl) in
      sym (holds_by_place site) ∙ they place (omega (arith, all)) has

  pub one_lacks : (sites : List SiteId) (k : ℕ) → has_place sites k ≡ true → holds H q (site_at k) ≡ false
      → ¬ All (λ site. holds H q site ≡ true) sites
  one_lacks sites k has lacks all =
      let found = Any-from_list_any (λ it. nat_eq (place_of it) k) sites has in
      let site = found.1 in
      let is : holds H q site ≡ true = ap (holds H q) (sym found.3) ∙ all found.0 site found.2 in
      let place = eqb-true (place_of site) k found.4 in
      let held : holds H q (site_at k) ≡ true =
      ap (λ n. holds H q (site_at n)) (sym place) ∙ holds_by_place site ∙ is in
      absurd (cc (held, lacks))
