use Rattle.std.proofs.Common.{inl, inr, arith}
use Rattle.walter_reply.proofs.Fronts.{unknown_kind}
use Rattle.walter_reply.proofs.decoding.read_fields.Goals as goal

pub returns-in_default-clause-stop : goal.returns-in_default-clause-stop
returns-in_default-clause-stop c =
    unknown_kind c.args.kind c.args.cursor.now.left (omega arith) (λ known. elim known [
      | inl within ↦ omega (arith, within.0, within.1)
      | inr is ↦ omega (arith, is)
    ])
