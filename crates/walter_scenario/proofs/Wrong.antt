-- The place of what is wrong with a list.
use Rattle.std.proofs.Common.{◌≡◌, ℕ, ◌+◌, ◌<◌, List, length, take, inl, inr, sym, ◌∙◌, subst, arith}
use Rattle.std.proofs.lemmas.List.{take-take}
use Rattle.serde_json.specs.Data.{Data}
use Rattle.walter_scenario.specs.Parts.{list, IsFirstWrong, IsWrongAt}
use Rattle.walter_scenario.proofs.Spelling.{same_values}

-- the first wrong item
pub first_wrong : (Right : List Data → Type 0) (value : Data) (values : List Data) (i : ℕ) → value ≡ list values
    → i < length values → Right (take i values)
    → ¬ Right (take (i + 1) values) → IsWrongAt Right value i
first_wrong Right value values i e h before wrong =
    inr (record { values = values; spelled = e; within = h; before = before; wrong = wrong })

pub list_of : (value : Data) (a b : List Data) → value ≡ list a → value ≡ list b → a ≡ b
list_of value a b d e = let same : list a ≡ list b = sym d ∙ e in same_values a b cc

-- a right list is wrong nowhere
pub right_nowhere : (Right : List Data → Type 0) → ((n : ℕ) (values : List Data) → Right values → Right (take n values))
    → (value : Data) (values : List Data) (i : ℕ)
    → value ≡ list values → Right values → ¬ IsWrongAt Right value i
right_nowhere Right closed value values i e right (inl none) = none.0 values e
right_nowhere Right closed value values i e right (inr first) =
    first.wrong (closed (i + 1) first.values (subst Right (list_of value values first.values e first.spelled) right))

not_before : (Right : List Data → Type 0) → ((n : ℕ) (values : List Data) → Right values → Right (take n values))
    → (value : Data) (m n : ℕ)
    → IsFirstWrong Right value m → IsFirstWrong Right value n → ¬ (m < n)
not_before Right closed value m n a b h =
    let same = list_of value b.values a.values b.spelled a.spelled in
    let front = closed (m + 1) (take n b.values) b.before in
    let shorter : take (m + 1) (take n b.values) ≡ take (m + 1) b.values = take-take (m + 1) n b.values (omega arith) in
    a.wrong (subst (λ vs. Right (take (m + 1) vs)) same (subst Right shorter front))

-- a list is wrong at one place
pub one_place : (Right : List Data → Type 0) → ((n : ℕ) (values : List Data) → Right values → Right (take n values))
    → (value : Data) (m n : ℕ)
    → IsWrongAt Right value m → IsWrongAt Right value n → m ≡ n
one_place Right closed value m n (inl a) (inl b) = a.1 ∙ sym b.1
one_place Right closed value m n (inl a) (inr b) = absurd (a.0 b.values b.spelled)
one_place Right closed value m n (inr a) (inl b) = absurd (b.0 a.values a.spelled)
one_place Right closed value m n (inr a) (inr b) =
    let below : m < n → ⊥ = not_before Right closed value m n a b in
    let above : n < m → ⊥ = not_before Right closed value n m b a in
    omega (arith, below, above)
