use Rattle.std.proofs.Common.{sym}
use Rattle.walter_report.proofs.Counted.{one_more-set, one_more-past}
use Rattle.walter_report.proofs.overview.count_one.Goals as goal

pub returns-then-site-counts : goal.returns-then-site-counts
returns-then-site-counts c = sym (one_more-set c.args.site c.args.counts.now c.if-site-counts.true)

pub returns-else-site-counts : goal.returns-else-site-counts
returns-else-site-counts c = sym (one_more-past c.args.site c.args.counts.now c.if-site-counts.false)
