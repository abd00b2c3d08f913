use Rattle.std.proofs.Common.{refl, arith}
use Rattle.walter_fields.proofs.Exits.{exits_with}
use Rattle.walter_reply.specs.declared.fault.Stop.TheVariants.{Cut}
use Rattle.walter_reply.specs.Stops.{StopsBehind}
use Rattle.walter_reply.proofs.Fronts.{cut_level, unknown_level}
use Rattle.walter_reply.proofs.decoding.read_level.Goals as goal

pub returns-in_err-u8-clause-stop : goal.returns-in_err-u8-clause-stop
returns-in_err-u8-clause-stop c =
    let left = c.args.cursor.now.left in
    exits_with (StopsBehind 0x88 left) Cut c.from_residual.result c.from_residual.ensures.1 (λ bytes. cut_level left (c.in_err-u8.ensures.short.0 refl))

pub returns-in_default-clause-stop : goal.returns-in_default-clause-stop
returns-in_default-clause-stop c =
    unknown_level c.in_ok-u8.field-0 c.args.cursor.now.left c.u8.new.self.left (omega arith) (λ e. omega (arith, e)) (λ e. omega (arith, e)) (λ e. omega (arith, e)) (λ e. omega (arith, e)) (λ e. omega (arith, e)) (λ e. omega (arith, e)) c.in_ok-u8.ensures.taken.front
