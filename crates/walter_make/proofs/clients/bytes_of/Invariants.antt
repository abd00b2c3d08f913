use Rattle.std.proofs.Common.{◌≡◌, take}
use Rattle.walter_make.specs.Made.{bytes_of}
use Rattle.walter_make.proofs.clients.bytes_of.Given as goal

abbrev pub invariant-loop-call : goal.invariant-loop-call
invariant-loop-call l = l.bytes.items ≡ bytes_of (take l.call-index l.calls) l.client
