use Rattle.std.proofs.Common.{take}
use Rattle.walter_report.specs.Reports.{replies_to}
use Rattle.walter_report.specs.Answered.{AddEach}
use Rattle.walter_report.proofs.replies.add_trail.Given as goal

abbrev pub invariant-loop-entry : goal.invariant-loop-entry
invariant-loop-entry l = AddEach l.initial.answered l.answered (λ c. replies_to c (take l.entry-index l.trail))
