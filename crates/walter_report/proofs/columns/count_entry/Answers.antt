use Rattle.std.proofs.Common.{◌≤◌, ◌+◌, List, All, ℕ, sym, subst}
use Rattle.walter_report.specs.Summaries.{column}
use Rattle.walter_report.proofs.Counted.{All-one_more}
use Rattle.walter_report.proofs.columns.count_entry.Goals as goal

pub returns-in-Replied-clause-most : goal.returns-in-Replied-clause-most
returns-in-Replied-clause-most c = λ most all.
    subst (λ (ns : List ℕ). All (λ n. n ≤ most + 1) ns) (sym c.count_reply.ensures)
    (All-one_more most (column c.in-Replied.reply) c.args.counts.now all)
