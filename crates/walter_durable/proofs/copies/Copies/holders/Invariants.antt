use Rattle.std.proofs.Common.{◌≡◌, count_by}
use Rattle.walter_durable.specs.Marks.{all_sites, holds}
use Rattle.walter_durable.specs.Counted.{copies_in}
use Rattle.walter_durable.proofs.copies.Copies.holders.Given as goal

-- how many of the sites so far hold it
abbrev pub invariant-loop-site : goal.invariant-loop-site
invariant-loop-site l = l.count ≡ count_by (holds (copies_in l.self l.acknowledged) l.q) (all_sites l.site)
