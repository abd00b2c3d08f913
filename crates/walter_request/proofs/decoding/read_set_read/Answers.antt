use Rattle.std.proofs.Common.{refl}
use Rattle.walter_fields.proofs.Exits.{exits_with}
use Rattle.walter_request.specs.declared.fault.Stop.TheVariants.{Cut}
use Rattle.walter_request.specs.Stops.{StopsBehind}
use Rattle.walter_request.proofs.Fronts.{cut_set_read}
use Rattle.walter_request.proofs.decoding.read_set_read.Goals as goal

pub returns-in_err-read_object-clause-stop : goal.returns-in_err-read_object-clause-stop
returns-in_err-read_object-clause-stop c =
    let left = c.args.cursor.now.left in
    exits_with (StopsBehind 6 c.args.cursor.now _) Cut c.from_residual.result c.from_residual.ensures.1 (cut_set_read left (c.in_err-read_object.ensures.short.0 refl))
