use Rattle.std.proofs.Common.{ℕ, List, sym, subst, arith, refl}
use Rattle.walter_cluster.specs.Benches.{IsLaidFor, shape_of}
use Rattle.walter_cluster.specs.Builds.{AreUnread}
use Rattle.walter_engine.specs.Begins.{HasNoRecord}
use Rattle.walter_scenario.specs.declared.scenario.Client.{Client}
use Rattle.walter_cli.specs.Ending.{EndsEarly}
use Rattle.walter_cli.specs.Racks.{RackAt, rack_at, racked}
use Rattle.walter_cli.specs.declared.ended.Fault.{Fault}
use Rattle.walter_cli.specs.declared.ended.Fault.TheVariants.{Memory}
use Rattle.walter_cli.proofs.Early.{ends_before, ends_unbuilt}
use Rattle.walter_cli.proofs.Finished.{arms_built}
use Rattle.walter_cli.proofs.Giving.{of_reads}
use Rattle.walter_cli.proofs.Racking.{few_in, sure_back}
use Rattle.walter_cli.proofs.running.build_over.Goals as goal

pub returns-in_default-clause-unbuilt : goal.returns-in_default-clause-unbuilt
returns-in_default-clause-unbuilt g c =
    let a : RackAt g.row.R-D.Denot = rack_at g.R.Rack c.args.rack.now in
    ends_before g.R.D.Disk a a c.args.scenario.now Memory refl refl refl (omega arith) (λ many. refl) tt

pub returns-in-Ok-build-clause-built : goal.returns-in-Ok-build-clause-built
returns-in-Ok-build-clause-built g c =
    let was = c.in_ok-disks.ensures.taken in
    let built = c.in-Ok-build.ensures in
    record {
      disks = c.in_ok-disks.disks.items;
      many = was.0;
      taken = was.1;
      no_records = λ i disk at.
          of_reads (g.R.D.Disk.known disk).reads (g.R.D.Disk.may_leave disk)
          (HasNoRecord (shape_of c.args.scenario.now)) (was.1.fresh i disk at).durable
          (λ bytes told only. built.had_none i disk bytes at (record { told = told; only = only }));
      laid = λ i disk cell at here.
          of_reads (g.R.D.Disk.known disk).reads (g.R.D.Disk.may_leave disk)
          (λ (bytes : List ℕ). IsLaidFor c.args.scenario.now bytes cell.node.layout) (was.1.fresh i disk at).durable
          (λ bytes told only. built.laid i disk cell bytes at here (record { told = told; only = only }));
      of = built.of;
      told = built.told;
      connected = built.connected (subst (λ (clients : List Client). AreUnread clients c.in-Ok.lines.items) c.as_slice.ensures
          c.in-Ok.ensures.unread);
      met = built.met;
      first = built.first (λ i disk at. (was.1.fresh i disk at).unarmed);
      arms = λ i disk at. let left = built.leaves i disk at in arms_built g.R.D.Disk c.args.scenario.now c.in-Ok-build.bench i disk left.0 left.1 left.2;
      calls = built.calls;
    }

pub returns-in-Err-clause-unbuilt : goal.returns-in-Err-clause-unbuilt
returns-in-Err-clause-unbuilt g c =
    let a : RackAt g.row.R-D.Denot = rack_at g.R.Rack c.args.rack.now in
    let b : RackAt g.row.R-D.Denot = rack_at g.R.Rack c.take_all.new.rack in
    let d : RackAt g.row.R-D.Denot = rack_at g.R.Rack c.give_all.new.rack in
    let was = c.in_ok-disks.ensures.taken in
    let disks = c.in_ok-disks.disks.items in
    let why = c.in-Err.ensures.why in
    let gives = c.give_all.ensures.given in
    let few = few_in c.args.scenario.now.format c.requires.playable.few in
    let many = was.0 in
    subst (λ (f : Fault). EndsEarly (racked g.R.D.Disk a d) c.args.scenario.now f) (sym c.unbegun.ensures)
    (ends_unbuilt g.R.D.Disk c.args.scenario.now a b d disks c.in-Err.field-0
    (record {
      told = was.1.told;
      fresh = was.1.fresh;
      same_given = was.1.given;
      same_handed = was.1.handed;
      many = was.1.taken;
      level = (let e = was.1.faults in omega (arith, e));
      long = why.all_back;
      gives = gives;
    }) many why c.in-Err.ensures.leaves
    (λ enough. sure_back g.R.D.Disk a b d disks c.in-Err.field-0.disks.items was.1 gives why.all_back (omega (arith, many, few)) enough))
