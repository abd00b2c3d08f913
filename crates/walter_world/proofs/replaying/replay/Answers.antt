use Rattle.std.proofs.Common.{◌+◌, Some, sym, subst, refl, arith}
use Rattle.walter_base.specs.declared.message.Record.{Record}
use Rattle.walter_rules.specs.Knowledge.{fresh}
use Rattle.walter_rules.specs.Learning.{recorded}
use Rattle.walter_rules.specs.Records.{CanFollow, IsRecordAmong, replayed}
use Rattle.walter_tables.specs.Replaying.{IsReplayFault}
use Rattle.walter_tables.specs.Sites.{site_of, catalog_of, Stands}
use Rattle.walter_world.proofs.RecordsReplayed.{last_follows, last_sized, told_more}
use Rattle.walter_world.proofs.replaying.replay.Goals as goal

pub replay-requires : goal.replay-requires
replay-requires c =
    let r = c.requires in
    record {
      sizes = subst (IsRecordAmong (catalog_of c.args.told.now.tables).sites) (sym c.in_ok-clone.ensures.cases)
          (last_sized r.0 r.1 r.2 c.args.rec.now c.args.told.now r.3 r.4);
    }

pub unreachable-requires : goal.unreachable-requires
unreachable-requires c =
    let r = c.requires in
    (subst (IsReplayFault c.args.told.now.tables c.in_ok-clone.field-0) c.in-Err-Unfit.field-0-is c.in-Err-Unfit.ensures.unfit)
    (replayed r.0 r.1 fresh r.2) r.3.stands
    (subst (CanFollow (catalog_of c.args.told.now.tables) (site_of c.args.told.now.tables) (replayed r.0 r.1 fresh r.2))
    (sym c.in_ok-clone.ensures.cases) (last_follows r.0 r.1 r.2 c.args.rec.now c.args.told.now r.3 r.4))

pub returns-in-Ok : goal.returns-in-Ok
returns-in-Ok c catalog i records is =
    let r = c.requires in
    let old = c.args.told.now in
    let K = replayed catalog i fresh records in
    let sized = subst (IsRecordAmong (catalog_of old.tables).sites) (sym c.in_ok-clone.ensures.cases)
    (last_sized r.0 r.1 r.2 c.args.rec.now old r.3 r.4) in
    let stands = subst (λ (x : Record). Stands c.replay.new.self (recorded (catalog_of old.tables) (site_of old.tables) (Some x) K))
    c.in_ok-clone.ensures.cases (c.in-Ok.ensures.stands K is.stands (c.in-Ok.ensures.ok K is.stands) sized) in
    told_more catalog i records c.args.rec.now old (record { tables = c.replay.new.self; count = old.count + 1 }) is stands
    c.replay.ensures.site c.replay.ensures.catalog refl (omega arith)
