use Rattle.std.proofs.Common.{◌++◌, take, arith}
use Rattle.std.proofs.lemmas.Grind.{common_steps}
use Rattle.walter_stream.proofs.StreamLemmas.{TakesFront-trans, OnErr-from}
use Rattle.walter_stream.proofs.reading.read_to_end.Goals as goal

pub returns-then-limit-len-clause-too_long : goal.returns-then-limit-len-clause-too_long
returns-then-limit-len-clause-too_long g c = λ _. (
  c.pieces.bytes.items ++ take c.in_ok-count.count c.read.new.into,
  grind (arith, common_steps, c.in_ok-count.ensures.within, c.pieces.bytes.ok.0),
  TakesFront-trans _ _ _ _ _ c.pieces.invariant.taken c.in_ok-count.ensures.taken,
)

pub returns-then-limit-len-clause-gone : goal.returns-then-limit-len-clause-gone
returns-then-limit-len-clause-gone g c =
    (_, TakesFront-trans _ _ _ _ _ c.pieces.invariant.taken c.in_ok-count.ensures.taken)

pub returns-in_err-extend_from_slice-clause-gone : goal.returns-in_err-extend_from_slice-clause-gone
returns-in_err-extend_from_slice-clause-gone g c =
    OnErr-from c.from_residual-in_err-extend_from_slice.result
    (_, TakesFront-trans _ _ _ _ _ c.pieces.invariant.taken c.in_ok-count.ensures.taken)
