use Rattle.std.proofs.Common.{arith}
use Rattle.walter_request.proofs.Fronts.{unknown_operation}
use Rattle.walter_request.proofs.decoding.read_fields.Goals as goal

pub returns-in_default-clause-stop : goal.returns-in_default-clause-stop
returns-in_default-clause-stop c =
    unknown_operation c.args.operation c.args.cursor.now.left (omega arith) (λ known. omega (arith, known.0, known.1))
