use Rattle.std.proofs.Common.{sym, subst}
use Rattle.walter_rules.specs.declared.event.Event.TheVariants.{Given}
use Rattle.walter_rules.specs.declared.event.Input.TheVariants.{Call}
use Rattle.walter_rules.specs.declared.outcome.Outcome.TheVariants.{Replied}
use Rattle.walter_rules.specs.Learning.{answered}
use Rattle.walter_tables.specs.Sites.{values_of, site_of, catalog_of}
use Rattle.walter_tables.specs.Standing.{StandFor}
use Rattle.walter_tables.proofs.tables.Tables.answer.Goals as goal

pub returns-in-Done-clause-stands : goal.returns-in-Done-clause-stands
unfolding values_of site_of catalog_of
returns-in-Done-clause-stands c = λ K wrote S at.
    let self = c.args.self.now in
    let event = Given (Call c.args.client c.args.call.now) in
    subst (λ reply. StandFor (values_of c.answer_done.new.self) (answered self.catalog event (Replied reply) wrote K))
    (sym c.in-Done.is) (c.answer_done.ensures.stands K wrote S)
