use Rattle.std.proofs.Common.{refl, ap, sym, subst}
use Rattle.walter_base.specs.declared.packet.Answer.{Answer}
use Rattle.walter_base.specs.declared.packet.Answer.TheVariants.{Yes, No}
use Rattle.walter_base.specs.declared.packet.Packet.TheVariants.{Vote}
use Rattle.walter_rules.specs.declared.event.Event.TheVariants.{Given}
use Rattle.walter_rules.specs.declared.event.Input.TheVariants.{Deliver}
use Rattle.walter_rules.specs.declared.outcome.Outcome.TheVariants.{Taken}
use Rattle.walter_rules.specs.Learning.{heard}
use Rattle.walter_tables.specs.Hearing.{IsNewsOf, IsVoteFor}
use Rattle.walter_tables.specs.Sites.{values_of, site_of, catalog_of}
use Rattle.walter_tables.specs.Standing.{StandFor}
use Rattle.walter_tables.proofs.StandHeard.{stand_said, said_yes, said_no, same_spread, same_durable}
use Rattle.walter_tables.proofs.tables.Tables.hear_vote.Goals as goal

pub returns-in-Yes-clause-stands : goal.returns-in-Yes-clause-stands
unfolding values_of site_of catalog_of
returns-in-Yes-clause-stands c = λ K number S news.
    let old = c.args.self.now in
    let from = c.args.from in
    let n = c.args.slow in
    let packet = Vote n Yes in
    let T = c.hear_yes.new.self in
    subst (λ p. IsNewsOf old.site K from p
    → StandFor (record (values_of old) { slow = T }) (heard (Given (Deliver from number p)) Taken K)) (ap (λ (a : Answer). Vote n a) (sym c.in-Yes.is))
    (λ is. stand_said (values_of old) K S from number packet is old.spread old.durable.holdings T refl
    (same_spread (values_of old) K S from number packet refl) (same_durable (values_of old) K S from number packet refl refl)
    (said_yes (values_of old) K S from number n is T c.hear_yes.ensures.last c.hear_yes.ensures.commits)) news

pub returns-in-No-clause-stands : goal.returns-in-No-clause-stands
unfolding values_of site_of catalog_of
returns-in-No-clause-stands c = λ K number S news.
    let old = c.args.self.now in
    let from = c.args.from in
    let n = c.args.slow in
    let conflict = c.in-No.conflict in
    let packet = Vote n (No conflict) in
    let T = c.hear_no.new.self in
    subst (λ p. IsNewsOf old.site K from p
    → StandFor (record (values_of old) { slow = T }) (heard (Given (Deliver from number p)) Taken K)) (ap (λ (a : Answer). Vote n a) (sym c.in-No.is))
    (λ is. stand_said (values_of old) K S from number packet is old.spread old.durable.holdings T refl
    (same_spread (values_of old) K S from number packet refl) (same_durable (values_of old) K S from number packet refl refl)
    (said_no (values_of old) K S from number n conflict is T c.hear_no.ensures.last c.hear_no.ensures.commits)) news

pub returns-in-Later-clause-stands : goal.returns-in-Later-clause-stands
unfolding values_of site_of catalog_of
returns-in-Later-clause-stands c = λ K number S news.
    absurd (subst (λ (a : Answer). IsVoteFor K c.args.from c.args.slow a) c.in-Later.is news)
