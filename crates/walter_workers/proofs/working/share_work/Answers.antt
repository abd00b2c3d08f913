use Rattle.std.proofs.Common.{rules, length, ap, sym, ◌∙◌, arith}
use Rattle.std.proofs.lemmas.List.{length-map}
use Rattle.walter_cluster.specs.Shared.{origin_of}
use Rattle.walter_cluster.proofs.Sharing.{all_arms, all_gone, all_work}
use Rattle.walter_scenario.specs.declared.scenario.Client.{Client}
use Rattle.walter_workers.proofs.Beginning.{take_short}
use Rattle.walter_workers.proofs.working.share_work.Goals as goal

pub for_each_mut-requires-clause-accepts : goal.for_each_mut-requires-clause-accepts
for_each_mut-requires-clause-accepts g c κs within = λ i p below is.
    let t = c.args.scenario.now in
    let homes = ap length c.requires.works.of.homes ∙ length-map t.clients (λ (client : Client). client.site) in
    let many = ap length c.requires.origins ∙ length-map c.args.bench.cells (origin_of g.D.Disk t) in (
      omega (arith, ap length c.share-cluster.ensures, homes, ap length c.as_slice.ensures),
      (
        c.from-sites.ensures ∙ (sym c.requires.works.of.sites ∙ sym many),
        (
          omega (arith, c.from-sites.ensures, c.requires.sites),
          (rw c.from-threads.ensures c.requires.threads, (take_short _ _ i below, search rules)),
        ),
      ),
    )

pub returns-clause-cells : goal.returns-clause-cells
returns-clause-cells g c =
    let out = c.unshare.ensures in
    all_gone g.D.Disk c.args.scenario.now g.N.Name.origins c.args.bench c.unshare.result.0 c.unshare.result.1.items c.requires.origins
    out.sites out.pumps out.held

pub returns-clause-arms : goal.returns-clause-arms
returns-clause-arms g c =
    let out = c.unshare.ensures in
    all_arms g.D.Disk c.args.scenario.now g.N.Name.origins c.args.bench c.unshare.result.0 c.unshare.result.1.items c.requires.origins
    out.sites out.pumps out.held

pub returns-clause-works : goal.returns-clause-works
returns-clause-works g c =
    let out = c.unshare.ensures in
    all_work g.D.Disk c.args.scenario.now g.N.Name.origins c.args.bench c.unshare.result.0 c.unshare.result.1.items c.requires.origins
    out.sites out.pumps out.held (out.homes ∙ c.share-cluster.ensures) c.requires.works.of
