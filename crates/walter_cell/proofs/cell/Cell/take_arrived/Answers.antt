use Rattle.std.proofs.Common.{rules, ◌≡◌, ◌≢◌, ℕ, ap, sym, ◌∙◌, subst}
use Rattle.walter_base.specs.declared.names.SiteId.{SiteId}
use Rattle.walter_cell.specs.Pumps.{counts_in}
use Rattle.walter_cell.proofs.Works.{below_other, below_own}
use Rattle.walter_link.specs.Pumps.{PumpValue, KeepsPump, take_up_to}
use Rattle.walter_link.proofs.Taking.{keeps_on, take_keeps}
use Rattle.walter_cell.proofs.cell.Cell.take_arrived.Goals.{then-ne+in_ok-take, else-ne}
use Rattle.walter_cell.proofs.cell.Cell.take_arrived.Goals as goal

pub loop-from-preserved : goal.loop-from-preserved
loop-from-preserved g c =
    let i = c.args.self.now.node.site in
    let counts = counts_in c.args.self.now.ins in
    let n = c.loop-from.from in
    let from : SiteId = record { 0 = n } in
    let first = c.args.pump.now in
    let was = c.loop-from.pump in
    let is = c.loop-from.invariant in
    let site : c.site.result ≡ i = c.site.ensures ∙ (is.keeps.site ∙ c.requires.site) in
    elim c.if-ne.branch [
      | then-ne+in_ok-take w ↦
          let apart : n ≢ i.0 = λ e. let same : from ≡ c.site.result = ap (λ (k : ℕ). record { 0 = k }) e ∙ sym site in search rules in
          let took : c.if-ne.pump ≡ take_up_to from (counts n) was =
          w.pump-is ∙ (w.in_ok-take.ensures.taken ∙ ap (λ (k : ℕ). take_up_to from k was) w.count_from.ensures) in
          record {
            taken = took ∙ (ap (take_up_to from (counts n)) is.taken ∙ sym (below_other i counts n first apart));
            keeps = keeps_on counts first was c.if-ne.pump is.keeps
                (subst (λ (p : PumpValue). KeepsPump counts was p) (sym took) (take_keeps counts from was));
          }
      | else-ne w ↦
          let same : n ≡ i.0 = search rules in
          record {
            taken = w.pump-is ∙ (is.taken ∙ sym (below_own i counts n first same));
            keeps = subst (λ (p : PumpValue). KeepsPump counts first p) (sym w.pump-is) is.keeps;
          }
    ]
