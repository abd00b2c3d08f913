use Rattle.std.proofs.Common.{◌<◌, ℕ}
use Rattle.walter_audit.specs.Firsts.{IsSoAt}
use Rattle.walter_audit.proofs.question.first_in.Given as goal

-- it is so of none so far
abbrev pub invariant-loop-index : goal.invariant-loop-index
invariant-loop-index g l = (k : ℕ) → k < l.index → ¬ IsSoAt (g.Q.Question.holds l.question) l.site l.records k
