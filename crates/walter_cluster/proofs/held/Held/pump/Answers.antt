use Rattle.std.proofs.Common.{◌≡◌, true, ap, arith, sym, ◌∙◌}
use Rattle.walter_cell.specs.Nodes.{arms_under, is_told, standing_of}
use Rattle.walter_rules.specs.Knowledge.{site_at}
use Rattle.walter_cluster.proofs.Keeping.{keeps_on}
use Rattle.walter_cluster.proofs.Sharing.{held_further, held_raised}
use Rattle.walter_cluster.proofs.Working.{works_still, works_pumped}
use Rattle.walter_cluster.proofs.held.Held.pump.Goals as goal

-- the site was made anew
pub invariant_of-self : goal.invariant_of-self
invariant_of-self g c =
    let raised = c.restart.ensures in
    held_raised g.D.Disk g.N.Name.origins g.row.I c.self.inside.cell c.restart.new.self c.self.inside.pump c.restart.result
    c.self.invariant raised.proceeds.keeps raised.proceeds.arms
    (λ told. let e = c.is_up.ensures told in let f = c.if-not-is_up.true in cc) raised.acts raised.kept

-- memory ran out
pub invariant_of-self-then-not-is_up : goal.invariant_of-self-then-not-is_up
invariant_of-self-then-not-is_up g c =
    let raised = c.restart.ensures in
    held_raised g.D.Disk g.N.Name.origins g.row.I c.self.inside.cell c.restart.new.self c.self.inside.pump c.restart.result
    c.self.invariant raised.proceeds.keeps raised.proceeds.arms
    (λ told. let e = c.is_up.ensures told in let f = c.if-not-is_up.true in cc) raised.acts raised.kept

-- memory runs out while what has come arrives
pub invariant_of-self-in_err-poll : goal.invariant_of-self-in_err-poll
invariant_of-self-in_err-poll g c =
    let is = c.self.invariant in
    let a = c.self.inside.cell in
    let b = c.poll.new.self in
    let p = c.self.inside.pump in
    let polled = c.poll.ensures in
    held_further g.D.Disk g.N.Name.origins g.row.I a b p p is polled.keeps (ap (λ n. arms_under g.D.Disk n.disk) polled.node)
    (works_still g.D.Disk is.origin.scenario (site_at g.row.I) a b p polled.keeps (ap (λ n. n.trail) polled.node) is.works)

-- no more was taken than has arrived
pub pump_arrived-requires-clause-taken : goal.pump_arrived-requires-clause-taken
pump_arrived-requires-clause-taken g c = λ from.
    let most = c.self.invariant.works.taken from in
    let more = c.poll.ensures.keeps.more from in
    omega (arith, most, more)

-- the site did what was next
pub invariant_of-self-2 : goal.invariant_of-self-2
invariant_of-self-2 g c =
    let is = c.self.invariant in
    let a = c.self.inside.cell in
    let b = c.poll.new.self in
    let e = c.pump_arrived.new.self in
    let p = c.self.inside.pump in
    let q = c.pump_arrived.new.pump in
    let t = is.origin.scenario in
    let i = site_at g.row.I in
    let polled = c.poll.ensures in
    let does = c.pump_arrived.ensures in
    let still = works_still g.D.Disk t i a b p polled.keeps (ap (λ n. n.trail) polled.node) is.works in
    let up : is_told g.D.Disk b.node.disk ≡ true → (standing_of b.node).up ≡ true =
    λ told.
    let so = c.is_up.ensures (sym (ap (λ n. is_told g.D.Disk n.disk) polled.node) ∙ told) in
    let f = c.if-not-is_up.false in
    let now : (standing_of a.node).up ≡ true = cc in
    ap (λ n. (standing_of n).up) polled.node ∙ now in
    held_further g.D.Disk g.N.Name.origins g.row.I a e p q is (keeps_on g.D.Disk a b e polled.keeps does.proceeds.keeps)
    (does.proceeds.arms ∙ ap (λ n. arms_under g.D.Disk n.disk) polled.node)
    (works_pumped g.D.Disk t i b e p q c.pump_arrived.result does.proceeds.keeps does.proceeds.ins up does.pumps does.kept
    does.taken does.pump still)
