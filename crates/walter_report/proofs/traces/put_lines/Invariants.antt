use Rattle.std.proofs.Common.{◌≡◌, ◌≤◌, All, length, drop}
use Rattle.walter_base.specs.declared.format.Format.{Format}
use Rattle.walter_base.specs.Sizes.{most_in}
use Rattle.walter_report.specs.Traces.{trace_lines}
use Rattle.walter_page.proofs.Going.{Goes}
use Rattle.walter_report.proofs.traces.put_lines.Given as goal

abbrev pub invariant-loop-site : goal.invariant-loop-site
invariant-loop-site g l = record {
  goes : Goes g.K.Sink.holds g.K.Sink.faults l.initial.sink l.sink l.initial.page l.page
      (trace_lines l.initial.formats l.entries) (trace_lines l.formats (drop l.site-index l.entries));
  many : length l.formats ≡ length l.initial.formats;
  places : All (λ (f : Format). length l.initial.formats ≤ most_in f) l.formats;
}
