use Rattle.std.proofs.Common.{refl}
use Rattle.walter_base.specs.declared.message.Request.TheVariants.{SetReadId}
use Rattle.walter_fields.proofs.Exits.{exits_with}
use Rattle.walter_request.specs.declared.fault.Stop.TheVariants.{Cut}
use Rattle.walter_request.specs.Stops.{StopsBehind}
use Rattle.walter_request.proofs.Fronts.{cut_in_member}
use Rattle.walter_request.proofs.decoding.read_set_read_id.Goals as goal

pub returns-in_err-oid-clause-stop : goal.returns-in_err-oid-clause-stop
returns-in_err-oid-clause-stop c =
    let left = c.args.cursor.now.left in
    exits_with (StopsBehind 7 c.args.cursor.now _) Cut c.from_residual.result c.from_residual.ensures.1 (cut_in_member 7 SetReadId left (λ oid id. (λ fits. fits, refl)) (c.in_err-oid.ensures.short.0 refl))
