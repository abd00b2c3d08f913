use Rattle.std.proofs.Common.{◌<◌}
use Rattle.walter_audit.specs.declared.finding.Named.{Named}
use Rattle.walter_audit.specs.Journals.{journals_of}
use Rattle.walter_audit.specs.Reasons.{IsUnstarted}
use Rattle.walter_audit.proofs.starting.first_unstarted.Given as goal

-- each own commit of the sites so far has its start
abbrev pub invariant-loop-number : goal.invariant-loop-number
invariant-loop-number l = (a : Named) → a.site.0 < l.number → ¬ IsUnstarted l.catalog (journals_of l.journals) a
