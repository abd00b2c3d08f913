-- How rounds drive a bench to its end.
use Rattle.std.proofs.Common.{◌≡◌, ◌+◌, ◌⊎◌, ℕ, true, List, [], length, slice_get, Some, ap, sym, ◌∙◌, subst, arith, inl, inr}
use Rattle.std.proofs.lemmas.Bool.{cases_lt}
use Rattle.std.proofs.lemmas.Option.{slice_get_within}
use Rattle.walter_cell.specs.Cells.{CellValue}
use Rattle.walter_cell.specs.Nodes.{is_told}
use Rattle.walter_cluster.specs.Benches.{BenchValue, IsToldAt, Keeps, trails_of}
use Rattle.walter_cluster.specs.Shared.{CanWork}
use Rattle.walter_cluster.proofs.Changes.{field_at, there_is}
use Rattle.walter_disk.specs.declared.disk.Disk.{Ghosts}
use Rattle.walter_link.specs.Pumps.{PumpValue}
use Rattle.walter_rules.specs.declared.entry.Entry.{Entry}
use Rattle.walter_rules.specs.Knowledge.{site_at}
use Rattle.walter_scenario.specs.declared.scenario.Client.{Client}
use Rattle.walter_scenario.specs.declared.scenario.Scenario.{Scenario}
use Rattle.walter_work.specs.Driven.{HasAllCalled, IsDriven, IsIdleAt, IsSpentAt}
use Rattle.walter_work.specs.Worked.{IsWorked}
use Rattle.walter_work.proofs.Working.{worked_so}
use Rattle.walter_workers.specs.Rounds.{AreDone, HaveAllCalled, IsDoneAt}
use Rattle.walter_work.proofs.Driven.{idle_fewer}

-- ---- clients

-- one more has made all its calls
pub called_more : (fails : Type 0) (t : Scenario) (old new : List (List Entry)) (count : ℕ)
    → fails ⊎ (new ≡ old) → HaveAllCalled fails t old count
    → ((client : Client) → slice_get t.clients count ≡ Some client → HasAllCalled fails new count client)
    → HaveAllCalled fails t new (count + 1)
called_more fails t old new count same before one number client below at = elim (cases_lt number count) [
  | inl front ↦ elim same [
    | inl failed ↦ inl failed
    | inr kept ↦ subst (λ (trails : List (List Entry)). HasAllCalled fails trails number client) (sym kept) (before number client front at)
  ]
  | inr last ↦
      let is : number ≡ count = omega (arith, below, last) in
      subst (λ (n : ℕ). HasAllCalled fails new n client) (sym is) (one client (sym (ap (slice_get t.clients) is) ∙ at))
]

-- ---- sites

module _ {D : Type 0} (g : Ghosts D) (t : Scenario) where
  -- what is done stays so where no trail changes
  pub done_more : (old new : BenchValue D) → Keeps g old new → (count : ℕ) → trails_of new.cells ≡ trails_of old.cells
      → AreDone g t old count → (i : ℕ) → i ≡ count → IsDoneAt g t new i → AreDone g t new (count + 1)
  done_more old new keeps count same before i is one k below = elim (cases_lt k count) [
    | inl front ↦
        subst (λ (trails : List (List Entry)). IsSpentAt trails (site_at k) ⊎ IsIdleAt (IsToldAt g k new) t trails (site_at k)) (sym same)
        (elim (before k front) [
          | inl spent ↦ inl spent
          | inr idle ↦ inr (idle_fewer (IsToldAt g k old) (IsToldAt g k new) (told_before k) t (trails_of old.cells) (site_at k) idle)
        ])
    | inr last ↦
        let here : i ≡ k = omega (arith, below, last, is) in
        subst (λ (n : ℕ). IsDoneAt g t new n) here one
  ]
    where
      told_before : (k : ℕ) → IsToldAt g k new → IsToldAt g k old
      told_before k told a at =
          let within = slice_get_within old.cells k a at in
          let long = keeps.cells.long in
          let b = there_is new.cells k (omega (arith, within, long)) in
          sym (keeps.cells.each k a b.0 at b.1).node.told ∙ told b.0 b.1

  -- where all have called, and nothing is left to do, the bench is driven
  pub driven : (fails : Type 0) (old new : BenchValue D) (pumps : List PumpValue) → CanWork g t new pumps
      → ⊥ ⊎ (trails_of new.cells ≡ trails_of old.cells) → HaveAllCalled fails t (trails_of old.cells) (length t.clients)
      → AreDone g t new t.catalog.sites → IsDriven (λ i. IsToldAt g i new) fails t (trails_of new.cells)
  driven fails old new pumps can same called done = record {
    worked = λ i below.
        let long = can.of.sites in
        let as_long = can.are.long in
        let c = there_is new.cells i (omega (arith, below, long)) in
        let p = there_is pumps i (omega (arith, below, long, as_long)) in
        let worked = worked_so (is_told g c.0.node.disk ≡ true) t (site_at i) c.0.node.trail p.0 (can.working i c.0 p.0 c.1 p.1) in
        subst (λ (es : List Entry). IsWorked (IsToldAt g i new) t (site_at i) es)
        (sym (field_at (λ (c : CellValue D). c.node.trail) new.cells i c.0 [] c.1))
        (record { events = λ told. worked.events (told c.0 c.1); packets = worked.packets; ticks = worked.ticks });
    calls = λ number client at.
        elim same [
          | inl never ↦ absurd never
          | inr kept ↦ subst (λ (trails : List (List Entry)). HasAllCalled fails trails number client) (sym kept)
              (called number client (slice_get_within t.clients number client at) at)
        ];
    pumps = λ i below. done i below;
  }
