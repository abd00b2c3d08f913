use Rattle.std.proofs.Common.{refl}
use Rattle.walter_fields.proofs.Exits.{exits_with}
use Rattle.walter_reply.specs.declared.fault.Stop.TheVariants.{Cut}
use Rattle.walter_reply.specs.Stops.{StopsBehind}
use Rattle.walter_reply.proofs.Fronts.{cut_count}
use Rattle.walter_reply.proofs.decoding.read_count.Goals as goal

pub returns-in_err-i64-clause-stop : goal.returns-in_err-i64-clause-stop
returns-in_err-i64-clause-stop c =
    let left = c.args.cursor.now.left in
    exits_with (StopsBehind 0x84 left) Cut c.from_residual.result c.from_residual.ensures.1 (cut_count left (c.in_err-i64.ensures.short.0 refl))
