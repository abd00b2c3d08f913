-- What peers have said, where one says a number.
use Rattle.std.proofs.Common.{◌≡◌, ◌∙◌, ◌<◌, ◌≤◌, ℕ, true, false, nat_le, List, length, get_or, set, max, inl, inr, refl, sym, subst, arith, if◌then◌else◌}
use Rattle.std.proofs.lemmas.Bool.{cases_eq, leb-true}
use Rattle.std.proofs.lemmas.List.{length-set, get_or-set_same, get_or-set_other}
use Rattle.walter_base.specs.declared.names.SiteId.{SiteId}
use Rattle.walter_base.specs.Vectors.{entry_at}
use Rattle.walter_durable.specs.Marks.{Holdings, own, heard, IsPossible, with_acknowledged, with_visible}

module _ (most : ℕ) (said : List ℕ) (peer : SiteId) (number : ℕ) where
  abbrev greater : List ℕ
  greater = set said peer.0 (max (entry_at said peer) number)

  -- there are as many entries
  pub heard_long : length (heard most said peer number) ≡ length said
  heard_long = elim (nat_le number most) as (λ b. length (if b then greater else said) ≡ length said) [
    | true ↦ length-set said peer.0 (max (entry_at said peer) number)
    | false ↦ refl
  ]

  -- none falls
  pub heard_more : (k : ℕ) → peer.0 < length said → get_or said k 0 ≤ get_or (heard most said peer number) k 0
  heard_more k inside = elim (nat_le number most) as (λ b. get_or said k 0 ≤ get_or (if b then greater else said) k 0) [
    | true ↦ elim (cases_eq k peer.0) [
      | inl same ↦ subst (λ j. get_or said j 0 ≤ get_or greater j 0) (sym same)
          (omega (arith, get_or-set_same said peer.0 (max (entry_at said peer) number) 0 inside))
      | inr apart ↦ omega (arith, get_or-set_other said peer.0 k (max (entry_at said peer) number) 0 apart)
    ]
    | false ↦ omega arith
  ]

  -- none is above the most
  heard_few : (k : ℕ) → peer.0 < length said → ((j : ℕ) → get_or said j 0 ≤ most)
      → get_or (heard most said peer number) k 0 ≤ most
  heard_few k inside few = elim (nat_le number most)
      as (λ b. nat_le number most ≡ b → get_or (if b then greater else said) k 0 ≤ most) [
        | true ↦ λ le. elim (cases_eq k peer.0) [
          | inl same ↦ subst (λ j. get_or greater j 0 ≤ most) (sym same)
              (omega (
                arith,
                get_or-set_same said peer.0 (max (entry_at said peer) number) 0 inside,
                few peer.0,
                leb-true number most le,
              ))
          | inr apart ↦ omega (arith, get_or-set_other said peer.0 k (max (entry_at said peer) number) 0 apart, few k)
        ]
        | false ↦ λ gt. few k
      ] refl

module _ (H : Holdings) (possible : IsPossible H) (peer : SiteId) (number : ℕ) (inside : peer.0 < H.sites) where
  pub possible_acknowledged : IsPossible (with_acknowledged peer number H)
  possible_acknowledged =
      let within : peer.0 < length H.acknowledged = omega (arith, inside, possible.acknowledged) in
      record {
        here = possible.here;
        few = possible.few;
        tolerated = possible.tolerated;
        acknowledged = heard_long (own H) H.acknowledged peer number ∙ possible.acknowledged;
        visible = possible.visible;
        held = λ k. heard_few (own H) H.acknowledged peer number k within possible.held;
        seen = possible.seen;
        durable_floor = possible.durable_floor;
        visible_floor = possible.visible_floor;
      }

  pub possible_visible : IsPossible (with_visible peer number H)
  possible_visible =
      let within : peer.0 < length H.visible = omega (arith, inside, possible.visible) in
      record {
        here = possible.here;
        few = possible.few;
        tolerated = possible.tolerated;
        acknowledged = possible.acknowledged;
        visible = heard_long (own H) H.visible peer number ∙ possible.visible;
        held = possible.held;
        seen = λ k. heard_few (own H) H.visible peer number k within possible.seen;
        durable_floor = possible.durable_floor;
        visible_floor = possible.visible_floor;
      }
