use Rattle.walter_rules.specs.Knowledge.{site_at}
use Rattle.walter_cluster.proofs.Sharing.{held_further}
use Rattle.walter_cluster.proofs.Working.{works_served}
use Rattle.walter_cluster.proofs.held.Held.turn.Goals as goal

pub invariant_of-self : goal.invariant_of-self
invariant_of-self g c =
    let is = c.self.invariant in
    let a = c.self.inside.cell in
    let b = c.serve.new.self in
    let p = c.self.inside.pump in
    let served = c.serve.ensures in
    held_further g.D.Disk g.N.Name.origins g.row.I a b p p is served.proceeds.keeps served.proceeds.arms
    (works_served g.D.Disk is.origin.scenario (site_at g.row.I) a b p c.args.client c.serve.result served.proceeds.keeps
    served.serves served.kept is.works)
