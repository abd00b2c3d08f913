-- What is of a client in lists of what is of clients, where one more comes, one changes, or one goes.
use Rattle.std.proofs.Common.{◌≡◌, ℕ, Bool, true, false, cond, not, nat_eq, List, [], ◌∷◌, ◌++◌, map, All, Option, Some, None, IfSome, refl, ap, sym, ◌∙◌, subst, option_map, if◌then◌else◌}
use Rattle.std.specs.Map.{lookup, remove_entry}
use Rattle.std.proofs.lemmas.Bool.{eqb-true, eq-eqb}
use Rattle.std.proofs.lemmas.List.Elements.{All-nil, All-cons, All-head, All-tail}
use Rattle.std.proofs.lemmas.Map.Made.{lookup-map_values}
use Rattle.walter_base.specs.ByClient.{AreApart, changed, without}

-- the other way round
pub turned : (a b : ℕ) → nat_eq a b ≡ false → nat_eq b a ≡ false
turned a b apart = elim (nat_eq b a) as (λ t. nat_eq b a ≡ t → t ≡ false) [
  | true ↦ λ is. let yes : nat_eq a b ≡ true = eq-eqb a b (sym (eqb-true b a is)) in absurd (cc)
  | false ↦ λ is. refl
] refl

module _ {X : Type 0} where
  -- a client that has nothing is neither that of the head nor among the others
  pub absent_head : (client : ℕ) (e : ℕ × X) (es : List (ℕ × X)) → lookup (nat_eq client) (e ∷ es) ≡ None → nat_eq client e.0 ≡ false
  absent_head client e es none = elim (nat_eq client e.0) as (λ b. cond b (Some e.1) (lookup (nat_eq client) es) ≡ None → b ≡ false) [
    | true ↦ λ h. absurd (cc)
    | false ↦ λ h. refl
  ] none

  pub absent_tail : (client : ℕ) (e : ℕ × X) (es : List (ℕ × X)) → lookup (nat_eq client) (e ∷ es) ≡ None → lookup (nat_eq client) es ≡ None
  absent_tail client e es none = elim (nat_eq client e.0) as (λ b. cond b (Some e.1) (lookup (nat_eq client) es) ≡ None → lookup (nat_eq client) es ≡ None) [
    | true ↦ λ h. absurd (cc)
    | false ↦ λ h. h
  ] none

  -- a change of what isn't there
  pub changed-absent : (client : ℕ) (f : X → X) (es : List (ℕ × X)) → lookup (nat_eq client) es ≡ None → changed client f es ≡ es
  changed-absent client f [] none = refl
  changed-absent client f (e ∷ es) none =
      ap (λ b. (if b then (e.0, f e.1) else e) ∷ changed client f es) (absent_head client e es none)
      ∙ ap (λ os. e ∷ os) (changed-absent client f es (absent_tail client e es none))

  pub without-absent : (client : ℕ) (es : List (ℕ × X)) → lookup (nat_eq client) es ≡ None → without client es ≡ es
  without-absent client [] none = refl
  without-absent client (e ∷ es) none =
      ap (λ b. cond (not b) (e ∷ without client es) (without client es)) (absent_head client e es none)
      ∙ ap (λ os. e ∷ os) (without-absent client es (absent_tail client e es none))

  pub removed-absent : (client : ℕ) (es : List (ℕ × X)) → lookup (nat_eq client) es ≡ None → remove_entry (nat_eq client) es ≡ es
  removed-absent client [] none = refl
  removed-absent client (e ∷ es) none =
      ap (λ b. cond b es (e ∷ remove_entry (nat_eq client) es)) (absent_head client e es none)
      ∙ ap (λ os. e ∷ os) (removed-absent client es (absent_tail client e es none))

  -- what is found after a change, and after an end
  pub lookup-changed : (client other : ℕ) (f : X → X) (es : List (ℕ × X))
      → lookup (nat_eq other) (changed client f es) ≡ (if nat_eq client other then option_map f (lookup (nat_eq other) es) else lookup (nat_eq other) es)
  lookup-changed client other f [] = elim (nat_eq client other) as (λ b. let nothing : Option X = None in nothing ≡ (if b then option_map f None else None)) [ true ↦ refl | false ↦ refl ]
  lookup-changed client other f (e ∷ es) = at (lookup-changed client other f es) (nat_eq other e.0) refl
    where
      changed_head : ℕ × X
      changed_head = if nat_eq client e.0 then (e.0, f e.1) else e

      same_key : changed_head.0 ≡ e.0
      same_key = elim (nat_eq client e.0) as (λ b. (let c : ℕ × X = if b then (e.0, f e.1) else e in c.0) ≡ e.0) [ true ↦ refl | false ↦ refl ]

      here : nat_eq other e.0 ≡ true → Some changed_head.1 ≡ (if nat_eq client other then Some (f e.1) else Some e.1)
      here is = ap (λ k. Some (let c : ℕ × X = if nat_eq client k then (e.0, f e.1) else e in c.1)) (sym (eqb-true other e.0 is))
          ∙ (elim (nat_eq client other) as (λ b. Some (let c : ℕ × X = if b then (e.0, f e.1) else e in c.1) ≡ (if b then Some (f e.1) else Some e.1)) [ true ↦ refl | false ↦ refl ])

      at : lookup (nat_eq other) (changed client f es) ≡ (if nat_eq client other then option_map f (lookup (nat_eq other) es) else lookup (nat_eq other) es)
          → (b : Bool) → nat_eq other e.0 ≡ b
          → cond (nat_eq other changed_head.0) (Some changed_head.1) (lookup (nat_eq other) (changed client f es))
          ≡ (if nat_eq client other then option_map f (cond (nat_eq other e.0) (Some e.1) (lookup (nat_eq other) es)) else cond (nat_eq other e.0) (Some e.1) (lookup (nat_eq other) es))
      at rest true is =
          ap (λ k. cond (nat_eq other k) (Some changed_head.1) (lookup (nat_eq other) (changed client f es))) same_key
          ∙ ap (λ b. cond b (Some changed_head.1) (lookup (nat_eq other) (changed client f es))) is
          ∙ here is
          ∙ sym (ap (λ b. if nat_eq client other then option_map f (cond b (Some e.1) (lookup (nat_eq other) es)) else cond b (Some e.1) (lookup (nat_eq other) es)) is)
      at rest false is =
          ap (λ k. cond (nat_eq other k) (Some changed_head.1) (lookup (nat_eq other) (changed client f es))) same_key
          ∙ ap (λ b. cond b (Some changed_head.1) (lookup (nat_eq other) (changed client f es))) is
          ∙ rest
          ∙ sym (ap (λ b. if nat_eq client other then option_map f (cond b (Some e.1) (lookup (nat_eq other) es)) else cond b (Some e.1) (lookup (nat_eq other) es)) is)

  -- where it changes from something
  pub lookup-changed_into : (client other : ℕ) (f : X → X) (now : X) (es : List (ℕ × X)) → option_map f (lookup (nat_eq client) es) ≡ Some now
      → lookup (nat_eq other) (changed client f es) ≡ (if nat_eq client other then Some now else lookup (nat_eq other) es)
  lookup-changed_into client other f now es is = lookup-changed client other f es ∙ by (nat_eq client other) refl
    where
      by : (b : Bool) → nat_eq client other ≡ b → (if b then option_map f (lookup (nat_eq other) es) else lookup (nat_eq other) es) ≡ (if b then Some now else lookup (nat_eq other) es)
      by true same = ap (λ k. option_map f (lookup (nat_eq k) es)) (sym (eqb-true client other same)) ∙ is
      by false same = refl

  pub lookup-without : (client other : ℕ) (es : List (ℕ × X)) → lookup (nat_eq other) (without client es) ≡ (if nat_eq client other then None else lookup (nat_eq other) es)
  lookup-without client other [] = elim (nat_eq client other) as (λ b. let nothing : Option X = None in nothing ≡ (if b then None else None)) [ true ↦ refl | false ↦ refl ]
  lookup-without client other (e ∷ es) = at (lookup-without client other es) (nat_eq client e.0) (nat_eq other e.0) refl refl
    where
      at : lookup (nat_eq other) (without client es) ≡ (if nat_eq client other then None else lookup (nat_eq other) es) → (a b : Bool) → nat_eq client e.0 ≡ a → nat_eq other e.0 ≡ b
          → lookup (nat_eq other) (cond (not a) (e ∷ without client es) (without client es)) ≡ (if nat_eq client other then None else cond b (Some e.1) (lookup (nat_eq other) es))
      at rest true true ends is =
          let one : nat_eq client other ≡ true = ap (nat_eq client) (eqb-true other e.0 is) ∙ ends in
          rest ∙ ap (λ t. if t then None else lookup (nat_eq other) es) one ∙ sym (ap (λ t. if t then None else Some e.1) one)
      at rest true false ends is = rest
      at rest false true stays is =
          let two : nat_eq client other ≡ false = ap (nat_eq client) (eqb-true other e.0 is) ∙ stays in
          ap (λ b. cond b (Some e.1) (lookup (nat_eq other) (without client es))) is ∙ sym (ap (λ t. if t then None else Some e.1) two)
      at rest false false stays is = ap (λ b. cond b (Some e.1) (lookup (nat_eq other) (without client es))) is ∙ rest

  -- what is found where another's is put behind
  pub lookup-behind : (client other : ℕ) (x : X) (es : List (ℕ × X)) → lookup (nat_eq client) es ≡ None
      → lookup (nat_eq other) (es ++ (client, x) ∷ []) ≡ (if nat_eq client other then Some x else lookup (nat_eq other) es)
  lookup-behind client other x [] none = by (nat_eq client other) refl
    where
      by : (b : Bool) → nat_eq client other ≡ b → cond (nat_eq other client) (Some x) None ≡ (if b then Some x else None)
      by true is = ap (λ b. cond b (Some x) None) (eq-eqb other client (sym (eqb-true client other is)))
      by false is = ap (λ b. cond b (Some x) None) (turned client other is)
  lookup-behind client other x (e ∷ es) none = by (lookup-behind client other x es (absent_tail client e es none)) (nat_eq other e.0) refl
    where
      by : lookup (nat_eq other) (es ++ (client, x) ∷ []) ≡ (if nat_eq client other then Some x else lookup (nat_eq other) es) → (b : Bool) → nat_eq other e.0 ≡ b
          → cond b (Some e.1) (lookup (nat_eq other) (es ++ (client, x) ∷ [])) ≡ (if nat_eq client other then Some x else cond b (Some e.1) (lookup (nat_eq other) es))
      by rest true is =
          let apart : nat_eq client other ≡ false = ap (nat_eq client) (eqb-true other e.0 is) ∙ absent_head client e es none in
          sym (ap (λ b. if b then Some x else Some e.1) apart)
      by rest false is = rest

  pub apart_behind : (client : ℕ) (x : X) (es : List (ℕ × X)) → AreApart es → lookup (nat_eq client) es ≡ None → AreApart (es ++ (client, x) ∷ [])
  apart_behind client x [] apart none = (refl, tt)
  apart_behind client x (e ∷ es) apart none = (
    lookup-behind client e.0 x es (absent_tail client e es none) ∙ ap (λ b. if b then Some x else lookup (nat_eq e.0) es) (absent_head client e es none) ∙ apart.0,
    apart_behind client x es apart.1 (absent_tail client e es none),
  )

  pub apart_changed : (client : ℕ) (f : X → X) (es : List (ℕ × X)) → AreApart es → AreApart (changed client f es)
  apart_changed client f [] apart = tt
  apart_changed client f (e ∷ es) apart =
      let none : lookup (nat_eq e.0) (changed client f es) ≡ None =
      lookup-changed client e.0 f es ∙ ap (λ o. if nat_eq client e.0 then option_map f o else o) apart.0
      ∙ (elim (nat_eq client e.0) as (λ b. (let nothing : Option X = None in if b then nothing else nothing) ≡ None) [ true ↦ refl | false ↦ refl ]) in
      elim (nat_eq client e.0) as (λ b. AreApart ((if b then (e.0, f e.1) else e) ∷ changed client f es)) [
        | true ↦ (none, apart_changed client f es apart.1)
        | false ↦ (none, apart_changed client f es apart.1)
      ]

  pub apart_without : (client : ℕ) (es : List (ℕ × X)) → AreApart es → AreApart (without client es)
  apart_without client [] apart = tt
  apart_without client (e ∷ es) apart =
      let none : lookup (nat_eq e.0) (without client es) ≡ None =
      lookup-without client e.0 es ∙ ap (λ o. if nat_eq client e.0 then None else o) apart.0
      ∙ (elim (nat_eq client e.0) as (λ b. (let nothing : Option X = None in if b then nothing else nothing) ≡ None) [ true ↦ refl | false ↦ refl ]) in
      elim (nat_eq client e.0) as (λ b. AreApart (cond (not b) (e ∷ without client es) (without client es))) [
        | true ↦ apart_without client es apart.1
        | false ↦ (none, apart_without client es apart.1)
      ]

  -- a change into itself
  pub changed-same : (client : ℕ) (f : X → X) (es : List (ℕ × X)) → ((x : X) → f x ≡ x) → changed client f es ≡ es
  changed-same client f [] same = refl
  changed-same client f (e ∷ es) same =
      let rest = changed-same client f es same in
      elim (nat_eq client e.0) as (λ b. (if b then (e.0, f e.1) else e) ∷ changed client f es ≡ e ∷ es) [
        | true ↦ λ i. (e.0, same e.1 i) ∷ rest i
        | false ↦ ap (λ os. e ∷ os) rest
      ]

  -- what holds of all, and of what the client's becomes, holds behind the change
  pub all_changed : (P : X → Type 0) (client : ℕ) (f : X → X) (es : List (ℕ × X)) → All (λ e. P e.1) es → AreApart es
      → IfSome (lookup (nat_eq client) es) (λ x. P (f x)) → All (λ e. P e.1) (changed client f es)
  all_changed P client f [] all apart fits = All-nil (λ e. P e.1)
  all_changed P client f (e ∷ es) all apart fits = by (all_changed P client f es (All-tail (λ o. P o.1) e es all) apart.1) (nat_eq client e.0) refl fits
    where
      Q : ℕ × X → Type 0
      Q o = P o.1

      by : (IfSome (lookup (nat_eq client) es) (λ x. P (f x)) → All Q (changed client f es)) → (b : Bool) → nat_eq client e.0 ≡ b
          → IfSome (cond b (Some e.1) (lookup (nat_eq client) es)) (λ x. P (f x)) → All Q ((if b then (e.0, f e.1) else e) ∷ changed client f es)
      by rest true is fit =
          let none : lookup (nat_eq client) es ≡ None = ap (λ k. lookup (nat_eq k) es) (eqb-true client e.0 is) ∙ apart.0 in
          All-cons Q (e.0, f e.1) (changed client f es) fit (subst (λ os. All Q os) (sym (changed-absent client f es none)) (All-tail Q e es all))
      by rest false is fit = All-cons Q e (changed client f es) (All-head Q e es all) (rest fit)

  -- what holds of all holds of the client's
  pub all_of_client : (P : X → Type 0) (client : ℕ) (es : List (ℕ × X)) → All (λ e. P e.1) es → IfSome (lookup (nat_eq client) es) P
  all_of_client P client [] all = tt
  all_of_client P client (e ∷ es) all =
      let Q : ℕ × X → Type 0 = λ o. P o.1 in
      elim (nat_eq client e.0) as (λ b. IfSome (cond b (Some e.1) (lookup (nat_eq client) es)) P) [
        | true ↦ All-head Q e es all
        | false ↦ all_of_client P client es (All-tail Q e es all)
      ]

  none_left : (client other : ℕ) (es : List (ℕ × X)) → lookup (nat_eq other) es ≡ None → lookup (nat_eq other) (remove_entry (nat_eq client) es) ≡ None
  none_left client other [] none = refl
  none_left client other (e ∷ es) none =
      let tail = absent_tail other e es none in
      elim (nat_eq client e.0) as (λ b. lookup (nat_eq other) (cond b es (e ∷ remove_entry (nat_eq client) es)) ≡ None) [
        | true ↦ tail
        | false ↦ ap (λ b. cond b (Some e.1) (lookup (nat_eq other) (remove_entry (nat_eq client) es))) (absent_head other e es none) ∙ none_left client other es tail
      ]

  pub apart_left : (client : ℕ) (es : List (ℕ × X)) → AreApart es → AreApart (remove_entry (nat_eq client) es)
  apart_left client [] apart = tt
  apart_left client (e ∷ es) apart = elim (nat_eq client e.0) as (λ b. AreApart (cond b es (e ∷ remove_entry (nat_eq client) es))) [
    | true ↦ apart.1
    | false ↦ (none_left client e.0 es apart.0, apart_left client es apart.1)
  ]

-- each is seen in another way
module _ {X Y : Type 0} (g : X → Y) where
  pub seen-changed : (client : ℕ) (f : X → X) (h : Y → Y) (es : List (ℕ × X)) → ((x : X) → g (f x) ≡ h (g x))
      → map (λ e. (e.0, g e.1)) (changed client f es) ≡ changed client h (map (λ e. (e.0, g e.1)) es)
  seen-changed client f h [] same = refl
  seen-changed client f h (e ∷ es) same =
      let rest = seen-changed client f h es same in
      elim (nat_eq client e.0) as (λ b. map (λ o. (o.0, g o.1)) ((if b then (e.0, f e.1) else e) ∷ changed client f es) ≡ (if b then (e.0, h (g e.1)) else (e.0, g e.1)) ∷ changed client h (map (λ o. (o.0, g o.1)) es)) [
        | true ↦ λ i. (e.0, same e.1 i) ∷ rest i
        | false ↦ ap (λ os. (e.0, g e.1) ∷ os) rest
      ]

  pub seen-without : (client : ℕ) (es : List (ℕ × X)) → map (λ e. (e.0, g e.1)) (without client es) ≡ without client (map (λ e. (e.0, g e.1)) es)
  seen-without client [] = refl
  seen-without client (e ∷ es) =
      let rest = seen-without client es in
      elim (nat_eq client e.0) as (λ b. map (λ o. (o.0, g o.1)) (cond (not b) (e ∷ without client es) (without client es)) ≡ cond (not b) ((e.0, g e.1) ∷ without client (map (λ o. (o.0, g o.1)) es)) (without client (map (λ o. (o.0, g o.1)) es))) [
        | true ↦ rest
        | false ↦ ap (λ os. (e.0, g e.1) ∷ os) rest
      ]

  pub seen-apart : (es : List (ℕ × X)) → AreApart es → AreApart (map (λ e. (e.0, g e.1)) es)
  seen-apart [] apart = tt
  seen-apart (e ∷ es) apart = (lookup-map_values g (nat_eq e.0) es ∙ ap (option_map g) apart.0, seen-apart es apart.1)
