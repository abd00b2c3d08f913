use Rattle.std.proofs.Common.{◌≡◌, take}
use Rattle.walter_make.specs.Made.{steps_of}
use Rattle.walter_make.proofs.calls.steps_of.Given as goal

abbrev pub invariant-loop-call : goal.invariant-loop-call
invariant-loop-call l = l.steps.items ≡ steps_of (take l.call-index l.calls)
