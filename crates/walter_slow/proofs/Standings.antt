-- What is kept of each slow commit, where that of one changes.
use Rattle.std.proofs.Common.{◌≡◌, ◌<◌, ◌≤◌, ◌+◌, ℕ, Bool, true, false, ◌||◌, nat_eq, cond, List, [], ◌∷◌, length, take, map, slice_get, Option, Some, None, is_some, option_map, Result, Ok, Err, IsOk, OnOk, inl, inr, refl, ap, sym, ◌∙◌, subst, arith, if◌then◌else◌}
use Rattle.std.specs.List.{list_any}
use Rattle.std.specs.Map.{lookup}
use Rattle.std.specs.Option.{option_map_or}
use Rattle.std.proofs.lemmas.List.Folds.{list_any_more}
use Rattle.std.proofs.lemmas.Option.{slice_get_cases}
use Rattle.std.proofs.lemmas.Bool.{eqb-true}
use Rattle.indexmap.specs.IndexMap.{IndexMap, WritesThrough}
use Rattle.walter_base.specs.declared.transaction.Tx.{Tx}
use Rattle.walter_slow.specs.Kept.{Kept, booted}
use Rattle.walter_slow.specs.Tables.{Table, CanBegin}

-- what is kept under the number is changed so, and what is kept under each other stays
pub record Changes (old new : List (ℕ × Kept)) (slow : ℕ) (f : Kept → Kept) : Type 0 where
  pub at : (n : ℕ) → lookup (nat_eq n) new ≡ (if nat_eq slow n then option_map f (lookup (nat_eq n) old) else lookup (nat_eq n) old)

pub from_view : (commits old new : List (ℕ × Kept)) {slow : ℕ} {f : Kept → Kept} → commits ≡ old → Changes commits new slow f → Changes old new slow f
from_view commits old new {slow} {f} is changes = subst (λ es. Changes es new slow f) is changes

-- by a write through what a look-up lends
pub lent_changes : {S : Type 0} (before after : IndexMap ℕ Kept S) (slow : ℕ) (f : Kept → Kept) (was now : Kept)
    → Some was ≡ lookup (nat_eq slow) before.entries → now ≡ f was → WritesThrough nat_eq (nat_eq slow) before now after
    → Changes before.entries after.entries slow f
lent_changes before after slow f was now is here writes = record {
  at = λ n. (writes.3 (ap is_some (sym is))).0 n ∙ (elim (nat_eq slow n) as (λ b. nat_eq slow n ≡ b → cond b (Some now) (lookup (nat_eq n) before.entries) ≡ (if b then option_map f (lookup (nat_eq n) before.entries) else lookup (nat_eq n) before.entries)) [
    | true ↦ λ same. ap Some here ∙ subst (λ m. option_map f (Some was) ≡ option_map f (lookup (nat_eq m) before.entries)) (eqb-true slow n same) (ap (option_map f) is)
    | false ↦ λ same. refl
  ] refl);
}

-- where nothing is kept under the number, nothing changes
pub none_changes : {S : Type 0} (before after : IndexMap ℕ Kept S) (slow : ℕ) (f : Kept → Kept) → after ≡ before → lookup (nat_eq slow) before.entries ≡ None
    → Changes before.entries after.entries slow f
none_changes before after slow f same none = record {
  at = λ n. ap (λ m. lookup (nat_eq n) m.entries) same ∙ (elim (nat_eq slow n) as (λ b. nat_eq slow n ≡ b → lookup (nat_eq n) before.entries ≡ (if b then option_map f (lookup (nat_eq n) before.entries) else lookup (nat_eq n) before.entries)) [
    | true ↦ λ is. let absent = subst (λ m. lookup (nat_eq m) before.entries ≡ None) (eqb-true slow n is) none in absent ∙ sym (ap (option_map f) absent)
    | false ↦ λ is. refl
  ] refl);
}

pub from_ok : {T E : Type 0} (r : Result T E) (P : Type 0) → IsOk r → OnOk r P → P
from_ok (Ok x) P is p = p
from_ok (Err e) P is p = absurd (cc)

-- as much room as before
pub room_kept : (old : Table) {places spots seats : ℕ} → old.places ≤ places → old.spots ≤ spots → old.seats ≤ seats → (k : ℕ) → CanBegin old k
    → (0 < places) × (0 < spots) × (k ≤ seats)
room_kept old more still also k can = (omega (arith, more, can.0), omega (arith, still, can.1), omega (arith, also, can.2))

-- those up to a place, and the one there
pub any_more : {X : Type 0} (test : X → Bool) (xs : List X) (place : ℕ) → place < length xs
    → list_any test (take (place + 1) xs) ≡ (list_any test (take place xs) || option_map_or test (slice_get xs place) false)
any_more test xs place within = elim (slice_get_cases xs place).1 [
  | inl w ↦ list_any_more test xs place w.0 within ∙ ap (λ b. list_any test (take place xs) || b) (ap test w.3 ∙ sym (ap (λ o. option_map_or test o false) w.2))
  | inr w ↦ absurd (omega (arith, within, w.0))
]

-- nothing is kept under a number that is none of these
pub none_kept : (es : List (ℕ × Kept)) (n : ℕ) → list_any (nat_eq n) (map (λ e. e.0) es) ≡ false → lookup (nat_eq n) es ≡ None
none_kept [] n none = refl
none_kept (e ∷ es) n none = elim (nat_eq n e.0) as (λ b. (b || list_any (nat_eq n) (map (λ e. e.0) es)) ≡ false → cond b (Some e.1) (lookup (nat_eq n) es) ≡ None) [
  | true ↦ λ none. absurd (cc)
  | false ↦ λ none. none_kept es n none
] none

-- one that was booted twice
twice : (o : Option Kept) → option_map booted (option_map booted o) ≡ option_map booted o
twice None = refl
twice (Some kept) = by kept.tx
  where
    by : (tx : Option Tx) → Some (booted (booted (record kept { tx = tx }))) ≡ Some (booted (record kept { tx = tx }))
    by None = refl
    by (Some tx) = refl

pub booted_more : (some here : Bool) (o : Option Kept) → (if here then option_map booted (if some then option_map booted o else o) else (if some then option_map booted o else o)) ≡ (if some || here then option_map booted o else o)
booted_more true true o = twice o
booted_more true false o = refl
booted_more false true o = refl
booted_more false false o = refl

pub all_booted : (some : Bool) (o : Option Kept) → (some ≡ false → o ≡ None) → (if some then option_map booted o else o) ≡ option_map booted o
all_booted true o none = refl
all_booted false o none = none refl ∙ sym (ap (option_map booted) (none refl))
