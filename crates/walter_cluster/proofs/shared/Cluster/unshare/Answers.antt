use Rattle.std.proofs.Common.{◌≡◌, ℕ, length, arith, sym, subst}
use Rattle.std.proofs.lemmas.List.{length-map}
use Rattle.walter_cluster.specs.Benches.{HasRoom}
use Rattle.walter_cluster.specs.Shared.{Origin}
use Rattle.walter_cluster.proofs.Sharing.{bench_again}
use Rattle.walter_cluster.proofs.shared.Cluster.unshare.Goals as goal

pub invariant_of-bench : goal.invariant_of-bench
invariant_of-bench g c =
    let origins = g.N.Name.origins in
    let was = c.self.invariant.0 in
    let few = was.few in
    let all = length-map origins (λ (o : Origin). o.cell) in
    let last = c.unlock_next-16 in
    let cells = last.new.cells.items in
    let pumps = last.new.pumps.items in
    let long : length cells ≡ length origins = omega (arith, few, all, last.ensures.cells, last.new.cells.ok.0) in
    let as_long : length pumps ≡ length origins = omega (arith, few, all, last.ensures.pumps, last.new.pumps.ok.0) in
    let lists = c.into_lists-cells in (
      bench_again g.D.Disk origins c.self.inside.homes.items cells pumps was long as_long last.ensures.held,
      subst (λ (n : ℕ). HasRoom n lists.result.2) (sym long) lists.ensures.trails,
      subst (λ (n : ℕ). HasRoom n lists.result.3) (sym long) lists.ensures.disks,
      subst (λ (n : ℕ). HasRoom n lists.result.4) (sym long) lists.ensures.remains,
    )
