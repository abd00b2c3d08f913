use Rattle.std.proofs.Common.{refl}
use Rattle.walter_fields.proofs.Exits.{exits_with}
use Rattle.walter_request.specs.declared.fault.Stop.TheVariants.{Cut}
use Rattle.walter_request.specs.Stops.{StopsAt}
use Rattle.walter_request.proofs.Fronts.{cut_operation}
use Rattle.walter_request.proofs.decoding.read_request.Goals as goal

pub returns-in_err-operation-clause-stop : goal.returns-in_err-operation-clause-stop
returns-in_err-operation-clause-stop c =
    let left = c.args.cursor.now.left in
    exits_with (StopsAt c.args.cursor.now _) Cut c.from_residual.result c.from_residual.ensures.1 (λ bytes. cut_operation left (c.in_err-operation.ensures.short.0 refl))
