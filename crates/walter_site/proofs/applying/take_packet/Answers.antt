use Rattle.std.proofs.Common.{sym, subst}
use Rattle.walter_site.specs.Plans.{IsNewsIn}
use Rattle.walter_rules.specs.declared.event.Event.TheVariants.{Given}
use Rattle.walter_rules.specs.declared.event.Input.TheVariants.{Deliver}
use Rattle.walter_rules.specs.Learning.{heard, answered}
use Rattle.walter_tables.specs.Sites.{site_of, catalog_of, Stands}
use Rattle.walter_site.proofs.applying.take_packet.Goals as goal

pub returns-in-Taken-clause-stands : goal.returns-in-Taken-clause-stands
returns-in-Taken-clause-stands c = λ K number wrote S news.
    let t = c.args.tables.now in
    let input = Deliver c.args.from number c.args.packet.now in
    subst (λ o. Stands c.hear.new.self (heard (Given input) o (answered (catalog_of t) (Given input) o wrote K)))
    (sym c.in-Taken.is)
    (c.hear.ensures.stands K number S (subst (λ o. IsNewsIn (site_of t) K input o) c.in-Taken.is news))
