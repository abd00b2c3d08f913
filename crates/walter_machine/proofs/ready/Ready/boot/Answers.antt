use Rattle.std.proofs.Common.{refl}
use Rattle.walter_base.specs.declared.format.Format.TheVariants.{First}
use Rattle.walter_machine.proofs.Planned.{boot_ready, unmade_with}
use Rattle.walter_machine.proofs.ready.Ready.boot.Goals as goal

pub returns-clause-ready : goal.returns-clause-ready
returns-clause-ready c = λ header S down stands. boot_ready header c.args.tables c.replay.new.self c.in-Ok-new.tables S c.in-Some.epoch _ down
    (c.in-Ok.ensures.ok S.knows stands) c.replay.ensures.site c.replay.ensures.catalog
    (c.in-Ok.ensures.stands S.knows stands (c.in-Ok.ensures.ok S.knows stands) tt) c.in-Ok-new.ensures.ok refl c.new-3.ensures.items

pub returns-clause-anyway : goal.returns-clause-anyway
returns-clause-anyway c =
    let K = c.requires.told.0 in
    record {
      header = First;
      S = unmade_with K;
      ready_for = boot_ready First c.args.tables c.replay.new.self c.in-Ok-new.tables (unmade_with K) c.in-Some.epoch _ refl
          (c.in-Ok.ensures.ok K c.requires.told.1) c.replay.ensures.site c.replay.ensures.catalog
          (c.in-Ok.ensures.stands K c.requires.told.1 (c.in-Ok.ensures.ok K c.requires.told.1) tt) c.in-Ok-new.ensures.ok refl c.new-3.ensures.items;
    }
