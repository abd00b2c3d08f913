use Rattle.std.proofs.Common.{take, flat_map}
use Rattle.walter_report.specs.Reports.{replies_to}
use Rattle.walter_report.specs.Answered.{AddEach}
use Rattle.walter_report.proofs.replies.add_trails.Given as goal

abbrev pub invariant-loop-trail : goal.invariant-loop-trail
invariant-loop-trail l = AddEach l.initial.answered l.answered
    (λ c. flat_map (replies_to c) (take l.trail-index l.trails))
