use Rattle.std.proofs.Common.{sym, subst}
use Rattle.walter_audit.specs.Reading.{Spells}
use Rattle.walter_audit.proofs.Readers.{takes, unfit}
use Rattle.walter_audit.proofs.reading.take_body.Goals as goal

pub returns-in-Ok-replay-clause-taken : goal.returns-in-Ok-replay-clause-taken
returns-in-Ok-replay-clause-taken c =
    takes c.args.tables.now c.replay.new.self c.args.format c.args.body.now c.in-Ok.journaled c.in-Ok-sent.rec
    (subst (λ n. Spells n c.args.format c.args.body.now c.in-Ok.journaled) (sym c.requires.sites) c.in-Ok.ensures.spells)
    c.in-Ok-sent.ensures c.in-Ok-replay.ensures.ok c.in-Ok-replay.ensures.stands

pub returns-in-Err-replay-clause-unfit : goal.returns-in-Err-replay-clause-unfit
returns-in-Err-replay-clause-unfit c =
    unfit c.args.tables.now c.args.format c.args.body.now c.in-Ok.journaled c.in-Ok-sent.rec c.in-Err-replay.fault
    (subst (λ n. Spells n c.args.format c.args.body.now c.in-Ok.journaled) (sym c.requires.sites) c.in-Ok.ensures.spells)
    c.in-Ok-sent.ensures c.in-Err-replay.ensures.unfit
