use Rattle.std.proofs.Common.{refl}
use Rattle.walter_fields.proofs.Exits.{exits_with}
use Rattle.walter_reply.specs.declared.fault.Stop.TheVariants.{Cut}
use Rattle.walter_reply.specs.Stops.{StopsBehind}
use Rattle.walter_reply.proofs.Fronts.{cut_committed}
use Rattle.walter_reply.proofs.decoding.read_committed.Goals as goal

pub returns-in_err-read_version-clause-stop : goal.returns-in_err-read_version-clause-stop
returns-in_err-read_version-clause-stop c =
    let left = c.args.cursor.now.left in
    exits_with (StopsBehind 0x85 left) Cut c.from_residual.result c.from_residual.ensures.1 (cut_committed left (c.in_err-read_version.ensures.short.0 refl))
