use Rattle.std.proofs.Common.{◌<◌}
use Rattle.walter_audit.specs.Firsts.{IsSo}
use Rattle.walter_audit.specs.Journals.{journals_of}
use Rattle.walter_audit.specs.declared.finding.Named.{Named}
use Rattle.walter_audit.proofs.question.first_of.Given as goal

-- it is so of no record of the sites so far
abbrev pub invariant-loop-number : goal.invariant-loop-number
invariant-loop-number g l = (a : Named) → a.site.0 < l.number → ¬ IsSo (g.Q.Question.holds l.question) (journals_of l.journals) a
