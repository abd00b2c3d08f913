use Rattle.std.proofs.Common.{◌≡◌, ◌∙◌, length, arith, ap, sym, subst}
use Rattle.std.proofs.lemmas.List.{length-map}
use Rattle.walter_cluster.specs.Benches.{BenchValue}
use Rattle.walter_cluster.specs.Shared.{CanWork, origin_of, origins_of}
use Rattle.walter_cluster.proofs.Sharing.{held_first, bench_bare}
use Rattle.walter_cluster.proofs.shared.Cluster.share.Goals as goal

pub lock_last-site_15-requires : goal.lock_last-site_15-requires
lock_last-site_15-requires g c =
    let t = c.requires.0 in
    let cells = c.bench.inside.cells.items in
    let are : g.N.Name.origins ≡ origins_of g.D.Disk t cells =
    subst (λ (b : BenchValue g.row.D.Denot). g.N.Name.origins ≡ origins_of g.D.Disk t b.cells) (sym c.bench.view_is) c.requires.1 in
    let can : CanWork g.D.Disk t (record { cells = cells; homes = c.bench.inside.homes.items }) c.args.pumps.items =
    subst (λ (b : BenchValue g.row.D.Denot). CanWork g.D.Disk t b c.args.pumps.items) (sym c.bench.view_is) c.requires.2 in
    let long = ap length are ∙ length-map cells (origin_of g.D.Disk t) in
    let few = c.bench.invariant.0.few in
    let as_long = can.are.long in (
      omega arith,
      (
        omega (arith, long, few, c.bench.inside.cells.ok.0),
        (
          omega (arith, long, few, as_long, c.args.pumps.ok.0),
          held_first g.D.Disk t g.N.Name.origins _ c.args.pumps.items are c.bench.invariant.0 can,
        ),
      ),
    )

pub invariant_of-result : goal.invariant_of-result
invariant_of-result g c =
    let t = c.requires.0 in
    let are = subst (λ (b : BenchValue g.row.D.Denot). g.N.Name.origins ≡ origins_of g.D.Disk t b.cells) (sym c.bench.view_is) c.requires.1 in (
      bench_bare g.D.Disk t g.N.Name.origins c.bench.inside.homes.items c.bench.inside.cells.items are c.bench.invariant.0,
      c.lock_last-site_0.ensures.there,
      c.lock_last-site_1.ensures.there,
      c.lock_last-site_2.ensures.there,
      c.lock_last-site_3.ensures.there,
      c.lock_last-site_4.ensures.there,
      c.lock_last-site_5.ensures.there,
      c.lock_last-site_6.ensures.there,
      c.lock_last-site_7.ensures.there,
      c.lock_last-site_8.ensures.there,
      c.lock_last-site_9.ensures.there,
      c.lock_last-site_10.ensures.there,
      c.lock_last-site_11.ensures.there,
      c.lock_last-site_12.ensures.there,
      c.lock_last-site_13.ensures.there,
      c.lock_last-site_14.ensures.there,
      c.lock_last-site_15.ensures.there,
    )
