use Rattle.std.proofs.Common.{◌++◌, Option, sym, subst}
use Rattle.walter_base.specs.declared.message.Record.{Record}
use Rattle.walter_rules.specs.Knowledge.{site_at}
use Rattle.walter_report.specs.Overviews.{Tells}
use Rattle.walter_report.specs.Sites.{record_in}
use Rattle.walter_report.proofs.overview.Overview.add_stable.Goals as goal

pub returns-in-Some-clause-tells : goal.returns-in-Some-clause-tells
returns-in-Some-clause-tells c = λ sites up recs tells.
    subst (λ (found : Option Record). Tells c.add_record.new.self sites (site_at c.args.site) up (recs ++ record_in found))
    (sym c.in-Some.ensures.some) (c.add_record.ensures.tells sites up recs tells)
