use Rattle.std.proofs.Common.{◌≡◌, ◌+◌, ℕ, min, sym, subst, arith}
use Rattle.walter_base.specs.Vectors.{entry_at}
use Rattle.walter_durable.specs.Marks.{site_at}
use Rattle.walter_durable.specs.Counted.{kept_in}
use Rattle.walter_durable.proofs.Seen.{IsLeast, least_here, least_peer}
use Rattle.walter_durable.proofs.durable.Durable.seen.Goals as goal
use Rattle.walter_durable.proofs.durable.Durable.seen.Goals.{then-site-self, else-site-self}

pub loop-site-preserved : goal.loop-site-preserved
loop-site-preserved c =
    let H = record (kept_in c.self.inside) { visible = c.args.visible.now } in
    let site = c.loop-site.site in
    elim c.if-site-self.branch [
      | then-site-self w ↦
          let least : c.if-site-self.least ≡ min c.loop-site.least (entry_at H.visible (site_at site)) =
          omega (arith, w.least-is, w.min-least.ensures, w.get.ensures) in
          subst (λ (n : ℕ). IsLeast H (site + 1) n) (sym least)
          (least_peer H site c.loop-site.least w.if-site-self.true c.loop-site.invariant)
      | else-site-self w ↦
          let least : c.if-site-self.least ≡ c.loop-site.least = w.least-is in
          subst (λ (n : ℕ). IsLeast H (site + 1) n) (sym least)
          (least_here H site c.loop-site.least w.if-site-self.false c.loop-site.invariant)
    ]
