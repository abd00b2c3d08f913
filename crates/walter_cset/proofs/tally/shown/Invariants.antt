use Rattle.std.proofs.Common.{◌≡◌, ◌++◌}
use Rattle.walter_cset.proofs.Numbers.{others_than_0}
use Rattle.walter_cset.proofs.tally.shown.Given as goal

-- those taken so far and those to come
abbrev pub invariant-loop-id : goal.invariant-loop-id
invariant-loop-id l = l.items.items ++ others_than_0 l.id-iterator ≡ others_than_0 l.tally.entries
