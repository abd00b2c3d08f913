-- A bench whose sites work goes on to work, where no trail but one site's changes.
use Rattle.std.proofs.Common.{◌≡◌, ◌≢◌, ℕ, true, Bool, List, slice_get, Some, [], ap, sym, ◌∙◌, subst, arith, inl, inr}
use Rattle.std.proofs.lemmas.Bool.{cases_eq}
use Rattle.std.proofs.lemmas.Option.{slice_get_within}
use Rattle.walter_base.specs.declared.names.SiteId.{SiteId}
use Rattle.walter_cell.specs.Cells.{CellValue}
use Rattle.walter_cell.specs.Nodes.{is_told}
use Rattle.walter_cluster.specs.Benches.{BenchValue, Keeps}
use Rattle.walter_cluster.specs.Moments.{trail_at}
use Rattle.walter_cluster.specs.Pumps.{ArePumps}
use Rattle.walter_cluster.specs.Shared.{CanWork}
use Rattle.walter_cluster.proofs.Changes.{there_is, field_at}
use Rattle.walter_cluster.proofs.Keeping.{of_kept}
use Rattle.walter_disk.specs.declared.disk.Disk.{Ghosts}
use Rattle.walter_link.specs.Pumps.{PumpValue}
use Rattle.walter_rules.specs.declared.entry.Entry.{Entry}
use Rattle.walter_rules.specs.Knowledge.{site_at}
use Rattle.walter_scenario.specs.declared.scenario.Scenario.{Scenario}
use Rattle.walter_work.specs.Working.{IsWorking}

module _ {D : Type 0} (g : Ghosts D) (t : Scenario) (old new : BenchValue D) (keeps : Keeps g old new)
    (pumps pumped : List PumpValue) (can : CanWork g t old pumps) (are : ArePumps new.cells pumped) (i : SiteId)
    (same_pumps : (k : ℕ) → k ≢ i.0 → slice_get pumped k ≡ slice_get pumps k)
    (same_trails : (j : SiteId) → j ≢ i → trail_at new.cells j ≡ trail_at old.cells j)
    (on : (c : CellValue D) (p q : PumpValue) → slice_get old.cells i.0 ≡ Some c → slice_get pumps i.0 ≡ Some p
    → slice_get pumped i.0 ≡ Some q → IsWorking (is_told g c.node.disk ≡ true) t i (trail_at old.cells i) p
    → IsWorking (is_told g c.node.disk ≡ true) t i (trail_at new.cells i) q) where
  -- each site by its trail, told as it was
  site_on : (k : ℕ) (a : CellValue D) (p q : PumpValue) → slice_get old.cells k ≡ Some a → slice_get pumps k ≡ Some p
      → slice_get pumped k ≡ Some q → IsWorking (is_told g a.node.disk ≡ true) t (site_at k) (trail_at old.cells (site_at k)) p
      → IsWorking (is_told g a.node.disk ≡ true) t (site_at k) (trail_at new.cells (site_at k)) q
  site_on k a p q at before after works = elim (cases_eq k i.0) [
    | inl here ↦
        let is : site_at k ≡ i = ap site_at here in
        let T : Type 0 = is_told g a.node.disk ≡ true in
        subst (λ (s : SiteId). IsWorking T t s (trail_at new.cells s) q) (sym is)
        (on a p q (sym (ap (slice_get old.cells) here) ∙ at) (sym (ap (slice_get pumps) here) ∙ before)
        (sym (ap (slice_get pumped) here) ∙ after)
        (subst (λ (s : SiteId). IsWorking T t s (trail_at old.cells s) p) is works))
    | inr apart ↦
        let other : site_at k ≢ i = λ e. apart (ap (λ (s : SiteId). s.0) e) in
        let found : Some p ≡ Some q = sym before ∙ (sym (same_pumps k apart) ∙ after) in
        let one : p ≡ q = cc in
        subst (λ (es : List Entry). IsWorking (is_told g a.node.disk ≡ true) t (site_at k) es q) (sym (same_trails (site_at k) other))
        (subst (λ (x : PumpValue). IsWorking (is_told g a.node.disk ≡ true) t (site_at k) (trail_at old.cells (site_at k)) x) one works)
  ]

  pub can_on : CanWork g t new pumped
  can_on = record {
    of = of_kept g old new keeps t can.of;
    are = are;
    working = λ k c q at after.
        let within = slice_get_within new.cells k c at in
        let long = keeps.cells.long in
        let as_long = can.are.long in
        let a = there_is old.cells k (omega (arith, within, long)) in
        let p = there_is pumps k (omega (arith, within, long, as_long)) in
        let was = field_at (λ (c : CellValue D). c.node.trail) old.cells k a.0 [] a.1 in
        let now = field_at (λ (c : CellValue D). c.node.trail) new.cells k c [] at in
        subst (λ (b : Bool). IsWorking (b ≡ true) t (site_at k) c.node.trail q) (sym (keeps.cells.each k a.0 c a.1 at).node.told)
        (subst (λ (es : List Entry). IsWorking (is_told g a.0.node.disk ≡ true) t (site_at k) es q) now
        (site_on k a.0 p.0 q a.1 p.1 after
        (subst (λ (es : List Entry). IsWorking (is_told g a.0.node.disk ≡ true) t (site_at k) es p.0) (sym was)
        (can.working k a.0 p.0 a.1 p.1))));
  }
