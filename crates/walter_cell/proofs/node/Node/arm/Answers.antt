use Rattle.std.proofs.Common.{◌-◌, ◌∙◌, ap, sym, subst, vec_capacity, vec_len}
use Rattle.walter_engine.specs.Engines.{disk_in}
use Rattle.walter_engine.specs.declared.engine.Engine.{Engine}
use Rattle.walter_cell.specs.Nodes.{NodeParts, NodeValue, IsSameButDisk, IsWhole, seen}
use Rattle.walter_cell.proofs.Wholes.{armed_or_not, seen_over, whole_over}
use Rattle.walter_cell.proofs.node.Node.arm.Goals as goal

pub invariant_of-self : goal.invariant_of-self
invariant_of-self g c =
    let inside = c.self.inside in
    let lent : NodeParts g.row.D.Denot g.D.Disk = record {
      engine = c.deref_mut.result.now;
      trail = inside.entries.items;
      clock = inside.clock;
      outs = inside.outs.items;
    } in
    let whole : IsWhole g.D.Disk lent = subst
    (λ (e : Engine g.row.D.Denot g.D.Disk). IsWhole g.D.Disk (record lent { engine = e })) (sym c.deref_mut.ensures.value) c.self.invariant in
    whole_over lent c.arm.new.self c.arm.ensures.engine c.arm.ensures.stands
    (armed_or_not g.D.Disk c.arm.result c.args.nth c.args.choice
    (disk_in c.deref_mut.result.now) (disk_in c.arm.new.self) c.arm.ensures.armed c.arm.ensures.same) whole

pub returns-clause-same : goal.returns-clause-same
returns-clause-same g c =
    let inside = c.self.inside in
    let lent : NodeParts g.row.D.Denot g.D.Disk = record {
      engine = c.deref_mut.result.now;
      trail = inside.entries.items;
      clock = inside.clock;
      outs = inside.outs.items;
    } in
    let room = vec_capacity inside.entries - vec_len inside.entries in
    subst (λ (v : NodeValue g.row.D.Denot). IsSameButDisk v (seen room (record lent { engine = c.arm.new.self })))
    (ap (λ (e : Engine g.row.D.Denot g.D.Disk). seen room (record lent { engine = e })) c.deref_mut.ensures.value ∙ c.self.view_is)
    (seen_over lent c.arm.new.self room c.arm.ensures.engine)
