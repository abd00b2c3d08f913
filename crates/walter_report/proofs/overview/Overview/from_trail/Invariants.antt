use Rattle.std.proofs.Common.{take}
use Rattle.walter_rules.specs.Knowledge.{site_at}
use Rattle.walter_report.specs.Sites.{is_up, records}
use Rattle.walter_report.specs.Overviews.{Tells}
use Rattle.walter_report.proofs.overview.Overview.from_trail.Given as goal

abbrev pub invariant-loop-entry : goal.invariant-loop-entry
invariant-loop-entry l =
    Tells l.overview l.sites (site_at l.site) (is_up (take l.entry-index l.trail))
    (records (take l.entry-index l.trail))
