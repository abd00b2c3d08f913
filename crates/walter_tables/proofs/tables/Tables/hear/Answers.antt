use Rattle.std.proofs.Common.{◌<◌, length, refl, sym, ◌∙◌, subst}
use Rattle.walter_base.specs.declared.packet.Packet.TheVariants.{Ack, Visible, Released}
use Rattle.walter_rules.specs.declared.event.Event.TheVariants.{Given}
use Rattle.walter_rules.specs.declared.event.Input.TheVariants.{Deliver}
use Rattle.walter_rules.specs.declared.outcome.Outcome.TheVariants.{Taken}
use Rattle.walter_rules.specs.Learning.{heard}
use Rattle.walter_tables.specs.Hearing.{IsNewsOf}
use Rattle.walter_tables.specs.Sites.{values_of, site_of, catalog_of}
use Rattle.walter_tables.specs.Standing.{StandFor}
use Rattle.walter_tables.proofs.StandHeard.{stand_said, said_acknowledged, said_visible, said_released, same_spread, same_durable, same_slow}
use Rattle.walter_tables.proofs.tables.Tables.hear.Goals as goal

pub returns-in-Ack-clause-stands : goal.returns-in-Ack-clause-stands
unfolding values_of site_of catalog_of
returns-in-Ack-clause-stands c = λ K number S news.
    let old = c.args.self.now in
    let from = c.args.from in
    let packet = Ack c.in-Ack.got in
    let H = c.hear_acknowledged.new.self.holdings in
    let possible = c.hear_acknowledged.ensures.possible in
    let there : from.0 < length old.durable.holdings.acknowledged =
    subst (λ n. from.0 < n) (sym (possible.acknowledged ∙ old.durable_sites)) c.requires.within in
    subst (λ p. IsNewsOf old.site K from p
    → StandFor (record (values_of old) { durable = H }) (heard (Given (Deliver from number p)) Taken K)) (sym c.in-Ack.is)
    (λ is. stand_said (values_of old) K S from number packet is old.spread H old.slow refl
    (same_spread (values_of old) K S from number packet refl)
    (said_acknowledged (values_of old) K S from number c.in-Ack.got is there H c.hear_acknowledged.ensures.holdings)
    (same_slow (values_of old) K S from number packet refl refl refl)) news

pub returns-in-Visible-clause-stands : goal.returns-in-Visible-clause-stands
unfolding values_of site_of catalog_of
returns-in-Visible-clause-stands c = λ K number S news.
    let old = c.args.self.now in
    let from = c.args.from in
    let packet = Visible c.in-Visible.committed in
    let H = c.hear_visible.new.self.holdings in
    let possible = c.hear_visible.ensures.possible in
    let there : from.0 < length old.durable.holdings.visible =
    subst (λ n. from.0 < n) (sym (possible.visible ∙ old.durable_sites)) c.requires.within in
    subst (λ p. IsNewsOf old.site K from p
    → StandFor (record (values_of old) { durable = H }) (heard (Given (Deliver from number p)) Taken K)) (sym c.in-Visible.is)
    (λ is. stand_said (values_of old) K S from number packet is old.spread H old.slow refl
    (same_spread (values_of old) K S from number packet refl)
    (said_visible (values_of old) K S from number c.in-Visible.committed is there H c.hear_visible.ensures.holdings)
    (same_slow (values_of old) K S from number packet refl refl refl)) news

pub returns-in-Vote-clause-stands : goal.returns-in-Vote-clause-stands
unfolding values_of site_of catalog_of
returns-in-Vote-clause-stands c = λ K number S news.
    let old = c.args.self.now in
    let from = c.args.from in
    subst (λ p. IsNewsOf old.site K from p
    → StandFor (values_of c.hear_vote.new.self) (heard (Given (Deliver from number p)) Taken K)) (sym c.in-Vote.is)
    (c.hear_vote.ensures.stands K number S) news

pub returns-in-Released-clause-stands : goal.returns-in-Released-clause-stands
unfolding values_of site_of catalog_of
returns-in-Released-clause-stands c = λ K number S news.
    let old = c.args.self.now in
    let from = c.args.from in
    let n = c.in-Released.slow in
    let packet = Released n in
    let T = c.hear_released.new.self in
    subst (λ p. IsNewsOf old.site K from p
    → StandFor (record (values_of old) { slow = T }) (heard (Given (Deliver from number p)) Taken K)) (sym c.in-Released.is)
    (λ is. stand_said (values_of old) K S from number packet is old.spread old.durable.holdings T refl
    (same_spread (values_of old) K S from number packet refl) (same_durable (values_of old) K S from number packet refl refl)
    (said_released (values_of old) K S from number n is T c.hear_released.ensures.last c.hear_released.ensures.commits)) news
