-- What a run writes.
use Rattle.std.specs.Prelude.{ℕ, Bool, true, false, List, [], ◌++◌}
use Rattle.walter_base.specs.declared.format.Format.{Format}
use Rattle.walter_report.specs.Reports.{report_text}
use Rattle.walter_report.specs.Traces.{trace_text}
use Rattle.walter_scenario.specs.declared.scenario.Scenario.{Scenario}
use Rattle.walter_rules.specs.declared.entry.Entry.{Entry}

-- the report, with the trace behind it where one is asked for
abbrev pub text_of : Bool → Scenario → List Format → List (List Entry) → List ℕ
text_of false s headers trails = report_text s trails
text_of true s headers trails = report_text s trails ++ trace_text headers trails

-- what is shown of each site in a trace: its trail, or the format that its header names
abbrev pub shown_of : {A : Type 0} → Bool → List A → List A
shown_of false all = []
shown_of true all = all
