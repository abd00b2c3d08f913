use Rattle.std.proofs.Common.{◌≤◌, subst, sym}
use Rattle.walter_base.specs.Sizes.{most_in}
use Rattle.walter_engine.proofs.engine.Engine.arm.Goals as goal
use Rattle.walter_engine.specs.Engines.{layout_in}
use Rattle.walter_machine.specs.Machines.{catalog_in}

pub invariant_of-self-clause-places : goal.invariant_of-self-clause-places
invariant_of-self-clause-places g c =
    let engine = c.args.self.now in
    subst (λ h. (catalog_in engine.machine).sites ≤ most_in h) (sym (c.arm.ensures.header engine.format)) engine.places

pub returns-clause-stands : goal.returns-clause-stands
returns-clause-stands g c S stands = record {
  machine = stands.machine;
  spellings = stands.spellings;
  stored = c.arm.ensures.stored (layout_in c.args.self.now) S stands.stored;
}
