use Rattle.std.proofs.Common.{◌≡◌, ◌<◌, ℕ, List, length, get_or}
use Rattle.walter_rules.specs.declared.entry.Entry.{Entry}
use Rattle.walter_rules.specs.Knowledge.{site_at}
use Rattle.walter_report.specs.declared.overview.Overview.{Overview}
use Rattle.walter_report.specs.Overviews.{Tells}
use Rattle.walter_report.specs.Sites.{is_up, records}
use Rattle.walter_report.proofs.told.overviews_of.Given as goal

abbrev pub invariant-loop-site : goal.invariant-loop-site
invariant-loop-site l = record {
  many : length l.overviews.items ≡ l.site;
  each : (i : ℕ) (o : Overview) (t : List Entry) → i < l.site
      → Tells (get_or l.overviews.items i o) l.sites (site_at i) (is_up (get_or l.trails i t))
      (records (get_or l.trails i t));
}
