-- Numbers that rise.
use Rattle.std.proofs.Common.{◌≡◌, ◌<◌, ◌≤◌, ◌+◌, ℕ, Bool, true, false, cond, nat_eq, List, [], ◌∷◌, ◌++◌, map, Some, None, refl, arith}
use Rattle.std.specs.Map.{lookup, remove_entry}
use Rattle.std.proofs.lemmas.Bool.{eqb-true}
use Rattle.walter_slow.specs.Tables.{RiseBetween}

-- from a smaller one on
from_smaller : (less first last : ℕ) (ns : List ℕ) → less ≤ first → RiseBetween first last ns → RiseBetween less last ns
from_smaller less first last [] le rise = omega (arith, le, rise)
from_smaller less first last (n ∷ ns) le rise = (omega (arith, le, rise.0), rise.1)

-- the next number goes last
pub rise_next : (first last : ℕ) (ns : List ℕ) → RiseBetween first last ns → RiseBetween first (last + 1) (ns ++ (last + 1) ∷ [])
rise_next first last [] rise = (omega (arith, rise), omega arith)
rise_next first last (n ∷ ns) rise = (rise.0, rise_next n last ns rise.1)

module _ {X : Type 0} where
  -- one of the numbers is taken out
  pub rise_removed : (first last : ℕ) (test : ℕ → Bool) (es : List (ℕ × X)) → RiseBetween first last (map (λ e. e.0) es) → RiseBetween first last (map (λ e. e.0) (remove_entry test es))
  rise_removed first last test [] rise = rise
  rise_removed first last test (e ∷ es) rise = elim (test e.0) as (λ b. RiseBetween first last (map (λ e. e.0) (cond b es (e ∷ remove_entry test es)))) [
    | true ↦ from_smaller first e.0 last (map (λ e. e.0) es) (omega (arith, rise.0)) rise.1
    | false ↦ (rise.0, rise_removed e.0 last test es rise.1)
  ]

  -- nothing is kept under a number past the last
  pub none_past : (first last n : ℕ) (es : List (ℕ × X)) → RiseBetween first last (map (λ e. e.0) es) → last < n → lookup (nat_eq n) es ≡ None
  none_past first last n [] rise past = refl
  none_past first last n (e ∷ es) rise past = elim (nat_eq n e.0) as (λ b. nat_eq n e.0 ≡ b → cond b (Some e.1) (lookup (nat_eq n) es) ≡ None) [
    | true ↦ λ same. absurd (omega (arith, eqb-true n e.0 same, up_to first last e.0 (map (λ e. e.0) es) rise, past))
    | false ↦ λ same. none_past e.0 last n es rise.1 past
  ] refl
    where
      least : (first last : ℕ) (ns : List ℕ) → RiseBetween first last ns → first ≤ last
      least first last [] rise = rise
      least first last (n ∷ ns) rise = omega (arith, rise.0, least n last ns rise.1)

      up_to : (first last n : ℕ) (ns : List ℕ) → RiseBetween first last (n ∷ ns) → n ≤ last
      up_to first last n ns rise = least n last ns rise.1
