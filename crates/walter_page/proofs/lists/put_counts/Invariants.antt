use Rattle.std.proofs.Common.{◌++◌, drop, map, nat_lt}
use Rattle.std.specs.Fmt.{decimal}
use Rattle.walter_page.specs.Lists.{list_behind}
use Rattle.walter_page.specs.Words.{listed}
use Rattle.walter_page.proofs.Going.{Goes}
use Rattle.walter_page.proofs.lists.put_counts.Given as goal

abbrev pub invariant-loop-place : goal.invariant-loop-place
invariant-loop-place g l =
    Goes g.K.Sink.holds g.K.Sink.faults l.fn.sink l.sink l.fn.page l.page
    (l.word ++ listed (map decimal l.counts)) (list_behind (nat_lt 0 l.place) (map decimal (drop l.place l.counts)))
