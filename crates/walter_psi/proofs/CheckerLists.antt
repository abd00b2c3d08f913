-- What the checker's loops keep, one element further.
use Rattle.std.proofs.Common.{◌≡◌, ℕ, zero, suc, ◌+◌, ◌-◌, ◌<◌, ◌≤◌, List, [], ◌∷◌, ◌++◌, length, take, drop, get_or, Option, Some, slice_get, refl, ap, sym, ◌∙◌, subst, arith, false, inl, inr, ◌↔◌, if◌then◌else◌, append_assoc, add-one}
use Rattle.std.specs.Prelude.{Contains, All, AllPairs, flat_map, IsTrue, IfOk, Result, Ok, Err}
use Rattle.std.proofs.Math.Seq.{drop-cons}
use Rattle.std.proofs.lemmas.Bool.{false_from_ne_true}
use Rattle.std.proofs.lemmas.List.{take_more, get_or-drop, get_or_default, take_all}
use Rattle.std.proofs.lemmas.List.Elements.{Contains-get_or}
use Rattle.std.proofs.lemmas.Option.{slice_get-get_or}
use Rattle.walter_psi.proofs.Lists.{flat_map-push, slice_get-take}
use Rattle.std.proofs.lemmas.Bool.{cases_lt}
use Rattle.std.proofs.Common.{length-drop, Bool}
use Rattle.walter_base.specs.declared.names.ObjId.{ObjId}
use Rattle.walter_base.specs.declared.names.Tid.{Tid}
use Rattle.walter_base.specs.declared.names.Version.{Version}
use Rattle.walter_base.specs.declared.update.Update.{Update}
use Rattle.walter_base.specs.Values.{held_after, value_of}
use Rattle.walter_base.proofs.ValuesFrom.{value_from-append}
use Rattle.walter_psi.specs.declared.step.Step.{Step}
use Rattle.walter_psi.specs.declared.step.Step.TheVariants.{Commit}
use Rattle.walter_psi.specs.Histories.{starts, before_start, commits, IsCommitted}
use Rattle.walter_psi.specs.Legal.{IsVersionOf, IsLegal, IsLegalStep}
use Rattle.walter_psi.specs.Checking.{IsStartOf, IsFirstIllegal}
use Rattle.walter_psi.proofs.StepFacts.{starts_is}
use Rattle.walter_psi.proofs.OneMore.{committed_snoc, legal_snoc}

-- a front of a list with one more element
pub take_one : {X : Type 0} (xs : List X) (i : ℕ) (x : X) → i < length xs → x ≡ get_or xs i x → take (i + 1) xs ≡ take i xs ++ x ∷ []
take_one xs i x within is = take_more xs i x within ∙ ap (λ y. take i xs ++ y ∷ []) (sym is)

-- what is left of a list is its first element and what is left then
pub drop_one : {X : Type 0} (xs : List X) (i : ℕ) (x : X) → i < length xs → x ≡ get_or xs i x → drop i xs ≡ x ∷ drop (i + 1) xs
drop_one xs i x within is = drop-cons xs i x within ∙ rw add-one (ap (λ y. y ∷ drop (suc i) xs) (sym is))

-- the value after one more update
pub value_more : (oid : ObjId) (updates : List Update) (i : ℕ) (update : Update) → i < length updates → update ≡ get_or updates i update
    → value_of oid (take (i + 1) updates) ≡ held_after oid (value_of oid (take i updates)) update
value_more oid updates i update within is =
    ap (λ front. value_of oid front) (take_one updates i update within is) ∙ value_from-append _ oid (take i updates) (update ∷ [])

-- a step that doesn't start the transaction stands before its start, if those before it do
pub before_start_more : (x : Tid) (steps : List Step) (i : ℕ) (step : Step) → i < length steps → step ≡ get_or steps i step
    → ¬ IsStartOf x step → before_start x steps ≡ take i steps ++ before_start x (drop i steps)
    → before_start x steps ≡ take (i + 1) steps ++ before_start x (drop (i + 1) steps)
before_start_more x steps i step within is other so_far =
    let not : starts x step ≡ false = false_from_ne_true (starts x step) (λ does. other (starts_is x step does)) in
    let rest = before_start x (drop (i + 1) steps) in
    let next : before_start x (drop i steps) ≡ step ∷ rest =
    ap (λ left. before_start x left) (drop_one steps i step within is) ∙ ap (λ b. if b then [] else step ∷ rest) not in
    so_far ∙ ap (λ left. take i steps ++ left) next
    ∙ sym (append_assoc (take i steps) (step ∷ []) rest)
    ∙ ap (λ front. front ++ rest) (sym (take_one steps i step within is))

-- pairs in order up to one more place
pub pairs_more : {X : Type 0} (R : X → X → Type 0) (xs : List X) (i : ℕ) (x : X) → i < length xs → x ≡ get_or xs i x
    → All (λ y. R x y) (drop (i + 1) xs) → ((a b : ℕ) (d : X) → a < b → b < length xs → a < i → R (get_or xs a d) (get_or xs b d))
    → (a b : ℕ) (d : X) → a < b → b < length xs → a < i + 1 → R (get_or xs a d) (get_or xs b d)
pairs_more R xs i x within is behind so_far a b d before inside up =
    elim (cases_lt a i) [
      | inl below ↦ so_far a b d before inside below
      | inr from ↦
          let here : a ≡ i = omega arith in
          let far : (i + 1) + (b - (i + 1)) ≡ b = omega arith in
          let room : b - (i + 1) < length (drop (i + 1) xs) = omega (arith, length-drop (i + 1) xs) in
          let first : x ≡ get_or xs a d = is ∙ get_or_default xs i x d within ∙ ap (λ k. get_or xs k d) (sym here) in
          let other : get_or (drop (i + 1) xs) (b - (i + 1)) d ≡ get_or xs b d = get_or-drop (i + 1) xs (b - (i + 1)) d ∙ ap (λ k. get_or xs k d) far in
          subst (λ y. R y (get_or xs b d)) first (subst (λ y. R x y) other (behind (b - (i + 1)) d room))
    ]

-- pairs in order have each element behind a place in order with the one there
pub pairs_behind : {X : Type 0} (R : X → X → Type 0) (xs : List X) (i : ℕ) (x : X) → i < length xs → x ≡ get_or xs i x → AllPairs R xs
    → All (λ y. R x y) (drop (i + 1) xs)
pairs_behind R xs i x within is all k d inside =
    let room : (i + 1) + k < length xs = omega (arith, length-drop (i + 1) xs) in
    subst (λ y. R y (get_or (drop (i + 1) xs) k d)) (sym (is ∙ get_or_default xs i x d within))
    (subst (λ y. R (get_or xs i d) y) (sym (get_or-drop (i + 1) xs k d)) (all i ((i + 1) + k) d (omega arith) room))

-- the version's transaction is the element at the place before its number
pub version_at : (steps : List Step) (version : Version) (found : Option Tid) → (version.seq ≡ 0 → ⊥)
    → found ≡ slice_get (commits version.site steps) (version.seq - 1) → (x : Tid) → (found ≡ Some x) ↔ IsVersionOf steps version x
version_at steps version found some at x =
    let positive : 0 < version.seq = omega (arith, some) in (
      λ same. (version.seq - 1, omega (arith, positive), sym at ∙ same),
      λ is.
          let place : version.seq - 1 ≡ is.0 = omega (arith, is.1) in
          at ∙ ap (λ k. slice_get (commits version.site steps) k) place ∙ is.2,
    )

-- what holds of each element of the front up to the end holds of each
pub all_whole : {X : Type 0} (P : X → Type 0) (xs : List X) (i : ℕ) → length xs ≤ i → All P (take i xs) → All P xs
all_whole P xs i end all = subst (λ front. All P front) (take_all i xs end) all

-- the pieces of one element more
pub pieces_more : {X Y : Type 0} (f : X → List Y) (xs : List X) (i : ℕ) (d : X) → i < length xs
    → flat_map f (take (i + 1) xs) ≡ flat_map f (take i xs) ++ f (get_or xs i d)
pieces_more f xs i d within = ap (λ front. flat_map f front) (take_more xs i d within) ∙ flat_map-push f (take i xs) (get_or xs i d)

-- an element read stands in the list
pub read_stands : {X : Type 0} (xs : List X) (i : ℕ) (x : X) → i < length xs → x ≡ get_or xs i x → Contains xs x
read_stands xs i x within is = subst (λ y. Contains xs y) (sym is) (Contains-get_or xs i x within)

-- what nothing committed so far does, and nothing that one more step commits, nothing committed does by then
pub committed_more : (Q : Tid → Type 0) (steps : List Step) (i : ℕ) (step : Step) → i < length steps → step ≡ get_or steps i step
    → ((y : Tid) → IsCommitted y (take i steps) → Q y → ⊥) → ((y : Tid) (updates : List Update) → step ≡ Commit y updates → Q y → ⊥)
    → (y : Tid) → IsCommitted y (take (i + 1) steps) → Q y → ⊥
committed_more Q steps i step within is so_far here y committed does =
    elim ((committed_snoc y (take i steps) step).0 (subst (λ front. IsCommitted y front) (take_one steps i step within is) committed)) [
      | inl before ↦ so_far y before does
      | inr last ↦ here y last.0 last.1 does
    ]

-- one more step that may follow
pub legal_more : (steps : List Step) (i : ℕ) (step : Step) → i < length steps → step ≡ get_or steps i step → IsLegal (take i steps)
    → IsLegalStep (take i steps) step → IsLegal (take (i + 1) steps)
legal_more steps i step within is legal next =
    subst (λ front. IsLegal front) (sym (take_one steps i step within is)) (legal_snoc (take i steps) step legal next)

-- a step that stands at its place
pub read_at : {X : Type 0} (xs : List X) (i : ℕ) (x : X) → i < length xs → x ≡ get_or xs i x → slice_get xs i ≡ Some x
read_at xs i x within is = slice_get-get_or xs i x within ∙ ap (λ y. Some y) (sym is)

-- a front of a front is a front
take_front : {X : Type 0} (p q : ℕ) (xs : List X) → p ≤ q → take p (take q xs) ≡ take p xs
take_front zero q xs le = refl
take_front (suc p) zero xs le = absurd (omega arith)
take_front (suc p) (suc q) [] le = refl
take_front (suc p) (suc q) (x ∷ xs) le = ap (λ front. x ∷ front) (take_front p q xs (omega arith))

-- a step of a legal front may follow those before it
front_legal : (steps : List Step) (p q : ℕ) (step : Step) → p < q → IsLegal (take q steps) → slice_get steps p ≡ Some step → IsLegalStep (take p steps) step
front_legal steps p q step before legal at =
    let stands : slice_get (take q steps) p ≡ Some step = slice_get-take steps q p before ∙ at in
    subst (λ front. IsLegalStep front step) (take_front p q steps (omega (arith, before))) (legal p step stands)

-- there is one first step that may not follow, at most
pub first_once : (steps : List Step) (p q : ℕ) → IsFirstIllegal steps p → IsFirstIllegal steps q → p ≡ q
first_once steps p q first other =
    elim (cases_lt p q) [
      | inl below ↦ absurd (first.wrong (front_legal steps p q first.step below other.legal first.here))
      | inr from ↦ elim (cases_lt q p) [
        | inl below ↦ absurd (other.wrong (front_legal steps q p other.step below first.legal other.here))
        | inr back ↦ omega arith
      ]
    ]

-- an answer that tells whether P holds tells whether Q does, where one holds with the other
pub tells_same : {E : Type 0} (answer : Result Bool E) (P Q : Type 0) → (P → Q) → (Q → P) → IfOk answer (λ b. IsTrue b ↔ P) → IfOk answer (λ b. IsTrue b ↔ Q)
tells_same (Ok b) P Q there back tells = (λ is. there (tells.0 is), λ q. tells.1 (back q))
tells_same (Err e) P Q there back tells = tt
