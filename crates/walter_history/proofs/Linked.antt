-- Steps that are linked stay so where some are left out, and see those before them.
use Rattle.std.proofs.Common.{◌≡◌, ℕ, ◌<◌, Bool, true, false, cond, ◌++◌, List, [], ◌∷◌, length, take, drop, get_or, filter, All, Option, refl, ap, sym, ◌∙◌, subst, arith}
use Rattle.std.proofs.Math.Seq.{get_or-append_seam}
use Rattle.std.proofs.lemmas.List.{get_or-take, get_or_default, get_or_append_left, length-append, length-take-le, map-append, take-append-drop}
use Rattle.std.proofs.lemmas.List.Elements.{All-push, All-filter, All-map}
use Rattle.std.proofs.lemmas.List.Kept.{AllPairs-filter}
use Rattle.walter_base.specs.declared.update.Row.{Row}
use Rattle.walter_history.specs.declared.steps.Step.{Step}
use Rattle.walter_history.specs.Rows.{sees_row}
use Rattle.walter_base.specs.declared.names.Version.{Version}
use Rattle.walter_base.specs.Conflicts.{sees_version}
use Rattle.walter_history.specs.Reaches.{Reaches}
use Rattle.walter_history.specs.Steps.{told, AreLinked, AreSeenBefore, AreBehind}

pub linked_filter : (p : Step → Bool) (steps : List Step) → AreLinked steps → AreLinked (filter p steps)
linked_filter p steps linked = record {
  pairs = AllPairs-filter (λ a b. Reaches b.before a.row.version) p steps linked.pairs;
}

pub told_filter : (p : Row → Bool) (steps : List Step) → told (filter (λ s. p s.row) steps) ≡ filter p (told steps)
told_filter p [] = refl
told_filter p (s ∷ ss) =
    let rest = told_filter p ss in
    elim (p s.row) as (λ b. told (cond b (s ∷ filter (λ (o : Step). p o.row) ss) (filter (λ (o : Step). p o.row) ss)) ≡ cond b (s.row ∷ filter p (told ss)) (filter p (told ss))) [
      | true ↦ ap (λ rs. s.row ∷ rs) rest
      | false ↦ rest
    ]

-- what sees all before the last and the last, sees all
pub reach_all : (front : List Step) (last : Step) (vector : Option (List ℕ)) → AreLinked (front ++ last ∷ []) → ((version : Version) → Reaches last.before version → Reaches vector version) → Reaches vector last.row.version
    → All (λ s. Reaches vector s.row.version) (front ++ last ∷ [])
reach_all front last vector linked keeps here =
    All-push (λ (s : Step). Reaches vector s.row.version) front last
    (λ k d within.
    let long = length-append front (last ∷ []) in
    let pair = linked.pairs k (length front) d within (omega (arith, long)) in
    let behind = subst (λ (s : Step). Reaches s.before (get_or (front ++ last ∷ []) k d).row.version) (get_or-append_seam front last [] d) pair in
    keeps (get_or front k d).row.version (subst (λ (s : Step). Reaches last.before s.row.version) (get_or_append_left front (last ∷ []) d k within) behind)) here

-- where both vectors see what a step's vector sees, they see all before it
pub seen_before : (steps : List Step) (place : ℕ) (from to : List ℕ) (step : Step) → place < length steps → AreLinked steps
    → ((version : Version) → Reaches (get_or steps place step).before version → (sees_version from version ≡ true) × (sees_version to version ≡ true))
    → AreSeenBefore place from to steps
seen_before steps place from to step within linked both k d front =
    let long = length-take-le place steps (omega (arith, within)) in
    let first : k < place = omega (arith, front, long) in
    let seen = both (get_or steps k step).row.version (linked.pairs k place step first within) in
    subst (λ (s : Step). (sees_row from s.row ≡ true) × (sees_row to s.row ≡ true)) (get_or_default steps k step d (omega (arith, first, within)) ∙ sym (get_or-take place steps k d first)) seen

told_all : (P : Row → Type 0) (steps : List Step) → All (λ s. P s.row) steps → All P (told steps)
told_all P steps all = All-map P (λ (s : Step). s.row) steps all

-- the steps from a place on
pub are_behind : (steps : List Step) (place : ℕ) (from to : List ℕ) → AreSeenBefore place from to steps
    → AreBehind from to (told steps) (told (drop place steps))
are_behind steps place from to seen = record {
  front = told (take place steps);
  split = ap told (sym (take-append-drop place steps)) ∙ map-append (λ (s : Step). s.row) (take place steps) (drop place steps);
  seen = told_all (λ row. (sees_row from row ≡ true) × (sees_row to row ≡ true)) (take place steps) seen;
}
