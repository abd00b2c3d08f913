use Rattle.std.proofs.Common.{◌≡◌, take, false}
use Rattle.std.specs.List.{list_any}
use Rattle.std.specs.Option.{option_map_or}
use Rattle.walter_slow.specs.Kept.{does_decide}
use Rattle.walter_slow.specs.Tables.{commit_of}
use Rattle.walter_slow.proofs.slow.SlowCommits.has_undecided.Given as goal

abbrev pub invariant-loop-slow : goal.invariant-loop-slow
invariant-loop-slow l = list_any (λ n. option_map_or (does_decide l.fn.tid) (commit_of l.self n) false) (take l.slow-index l.self.busy) ≡ false
