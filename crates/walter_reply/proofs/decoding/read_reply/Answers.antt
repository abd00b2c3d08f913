use Rattle.std.proofs.Common.{refl}
use Rattle.walter_fields.proofs.Exits.{exits_with}
use Rattle.walter_reply.specs.declared.fault.Stop.TheVariants.{Cut}
use Rattle.walter_reply.specs.Stops.{StopsAt}
use Rattle.walter_reply.proofs.Fronts.{cut_kind}
use Rattle.walter_reply.proofs.decoding.read_reply.Goals as goal

pub returns-in_err-kind-clause-stop : goal.returns-in_err-kind-clause-stop
returns-in_err-kind-clause-stop c =
    let left = c.args.cursor.now.left in
    exits_with (StopsAt left) Cut c.from_residual.result c.from_residual.ensures.1 (λ bytes. cut_kind left (c.in_err-kind.ensures.short.0 refl))
