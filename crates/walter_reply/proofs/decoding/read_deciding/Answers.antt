use Rattle.std.proofs.Common.{refl}
use Rattle.walter_fields.proofs.Exits.{exits_with}
use Rattle.walter_reply.specs.declared.fault.Stop.TheVariants.{Cut}
use Rattle.walter_reply.specs.Stops.{StopsBehind}
use Rattle.walter_reply.proofs.Fronts.{cut_deciding}
use Rattle.walter_reply.proofs.decoding.read_deciding.Goals as goal

pub returns-in_err-read_tid-clause-stop : goal.returns-in_err-read_tid-clause-stop
returns-in_err-read_tid-clause-stop c =
    let left = c.args.cursor.now.left in
    exits_with (StopsBehind 0x87 left) Cut c.from_residual.result c.from_residual.ensures.1 (cut_deciding left (c.in_err-read_tid.ensures.short.0 refl))
