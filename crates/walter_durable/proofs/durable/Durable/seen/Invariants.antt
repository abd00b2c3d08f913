use Rattle.walter_durable.specs.Counted.{kept_in}
use Rattle.walter_durable.proofs.Seen.{IsLeast}
use Rattle.walter_durable.proofs.durable.Durable.seen.Given as goal

abbrev pub invariant-loop-site : goal.invariant-loop-site
invariant-loop-site l = IsLeast (record (kept_in l.self-inside) { visible = l.visible }) l.site l.least
