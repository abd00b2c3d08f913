use Rattle.std.proofs.Common.{◌++◌, List, Option, sym, subst}
use Rattle.std.specs.Prelude.{OnOk}
use Rattle.std.proofs.lemmas.List.{append-nil}
use Rattle.walter_base.specs.declared.message.Record.{Record}
use Rattle.walter_world.specs.Records.{CanBeReplayed, IsTold, one_of}
use Rattle.walter_world.proofs.replaying.replay_any.Goals as goal

pub replay-requires : goal.replay-requires
replay-requires c =
    let r = c.requires in (
      r.0,
      r.1,
      r.2,
      r.3,
      subst (λ (o : Option Record). CanBeReplayed r.0 r.1 (r.2 ++ one_of o)) c.in-Some.ensures.some r.4,
    )

pub returns-in-Some : goal.returns-in-Some
returns-in-Some c catalog i records is =
    subst (λ (o : Option Record). OnOk c.replay.result (IsTold catalog i (records ++ one_of o) c.replay.new.told))
    (sym c.in-Some.ensures.some) (c.replay.ensures catalog i records is)

pub returns-in-None : goal.returns-in-None
returns-in-None c catalog i records is =
    subst (λ (o : Option Record). IsTold catalog i (records ++ one_of o) c.args.told.now) (sym c.in-None.ensures.none)
    (subst (λ (rs : List Record). IsTold catalog i rs c.args.told.now) (sym (append-nil records)) is)
