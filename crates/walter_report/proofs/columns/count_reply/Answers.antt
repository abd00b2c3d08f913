use Rattle.std.proofs.Common.{ap, sym, ◌∙◌, arith}
use Rattle.walter_report.specs.Adding.{one_more}
use Rattle.walter_report.proofs.Counted.{one_more-set}
use Rattle.walter_report.proofs.columns.count_reply.Goals as goal

pub returns : goal.returns
returns c =
    let counts = c.args.counts.now in
    sym (one_more-set c.column_of.result counts (omega (arith, c.column_of.ensures.there, c.requires.columns)))
    ∙ ap (λ place. one_more place counts) c.column_of.ensures.column
