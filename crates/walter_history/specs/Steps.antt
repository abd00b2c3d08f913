-- The changes of a set, each with a vector that sees those before it, and which of them two vectors can see
-- differently.
use Rattle.std.specs.Prelude.{◌≡◌, ◌++◌, ℕ, true, List, map, take, All, AllPairs}
use Rattle.walter_base.specs.declared.update.Row.{Row}
use Rattle.walter_history.specs.declared.steps.Step.{Step}
use Rattle.walter_history.specs.Reaches.{Reaches}
use Rattle.walter_history.specs.Rows.{sees_row}

abbrev pub told : List Step → List Row
told steps = map (λ step. step.row) steps

-- each step's vector sees the steps before it
pub record AreLinked (steps : List Step) : Type 0 where
  pub pairs : AllPairs (λ a b. Reaches b.before a.row.version) steps

-- the rows of the steps, and how many more can be pushed without memory
pub record Stepped : Type 0 where
  pub rows : List Row
  pub room : ℕ

-- both vectors see the first so many steps
abbrev pub AreSeenBefore : ℕ → List ℕ → List ℕ → List Step → Type 0
AreSeenBefore place from to steps =
    All (λ step. (sees_row from step.row ≡ true) × (sees_row to step.row ≡ true)) (take place steps)

-- rows of which both vectors see all that stand before these
pub record AreBehind (from to : List ℕ) (rows back : List Row) : Type 0 where
  pub front : List Row
  pub split : rows ≡ front ++ back
  pub seen : All (λ row. (sees_row from row ≡ true) × (sees_row to row ≡ true)) front
