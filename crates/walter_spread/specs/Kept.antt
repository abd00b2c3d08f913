-- The progress that the fields of a `Spread` stand for.
use Rattle.walter_spread.specs.declared.spread.Spread.TheInside.{Inside}
use Rattle.walter_spread.specs.Propagation.{Progress}

abbrev pub progress_in : Inside → Progress
progress_in s = record {
  site = s.site;
  window = s.window;
  got = s.got;
  committed = s.committed;
  durable = s.durable;
}
