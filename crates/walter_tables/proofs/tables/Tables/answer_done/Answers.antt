use Rattle.std.proofs.Common.{◌≡◌, Option, Some, None, refl, ap, sym, ◌∙◌, subst}
use Rattle.std.specs.Prelude.{IfSome, IsSomeAnd}
use Rattle.walter_base.specs.declared.message.Reply.TheVariants.{Done}
use Rattle.walter_rules.specs.declared.event.Event.TheVariants.{Given}
use Rattle.walter_rules.specs.declared.event.Input.TheVariants.{Call}
use Rattle.walter_rules.specs.declared.outcome.Outcome.TheVariants.{Replied}
use Rattle.walter_rules.specs.Learning.{updated}
use Rattle.walter_base.specs.ByClient.{changed}
use Rattle.walter_base.specs.declared.update.Update.{Update}
use Rattle.walter_rules.specs.Sessions.{Session}
use Rattle.walter_session.specs.Floors.{AllCover}
use Rattle.walter_session.specs.Sessions.{sessions_of, session_of}
use Rattle.walter_tables.specs.Answering.{with_any}
use Rattle.walter_tables.specs.Open.{AreOpenAt, IsOpenAt}
use Rattle.walter_tables.specs.Sites.{values_of, site_of, catalog_of}
use Rattle.walter_tables.proofs.Answered.{stand_answered}
use Rattle.walter_tables.proofs.CoveredFloors.{cover_changed}
use Rattle.walter_tables.proofs.Opened.{open_changed}
use Rattle.walter_tables.proofs.tables.Tables.answer_done.Goals as goal

some_and : {X : Type 0} (P : X → Type 0) (o : Option X) → IsSomeAnd o P → IfSome o P
some_and P None h = tt
some_and P (Some x) h = h

pub invariant_of-self-clause-open : goal.invariant_of-self-clause-open
invariant_of-self-clause-open c =
    let self = c.args.self.now in
    let ss = sessions_of self.sessions in
    let same : updated c.args.call.now ≡ with_any c.args.asked = λ t s. c.requires.asks s t in
    subst (AreOpenAt self.catalog self.site) (ap (λ f. changed c.args.client f ss) same ∙ sym c.update.ensures)
    (open_changed self.catalog self.site c.args.client (updated c.args.call.now) ss self.open
    (some_and (λ s. IsOpenAt self.catalog self.site (updated c.args.call.now s)) (session_of self.sessions c.args.client)
    c.requires.fits))

same_snapshot : (asked : Option Update) (s : Session) → (with_any asked s).snapshot ≡ s.snapshot
same_snapshot None s = refl
same_snapshot (Some update) s = refl

pub invariant_of-self-clause-snapshots : goal.invariant_of-self-clause-snapshots
invariant_of-self-clause-snapshots c =
    let self = c.args.self.now in
    let ss = sessions_of self.sessions in
    subst (λ others. AllCover others self.history.floor) (sym c.update.ensures)
    (cover_changed self.history.floor c.args.client (with_any c.args.asked) ss (same_snapshot c.args.asked) self.open.apart
    self.snapshots)

pub returns-clause-stands : goal.returns-clause-stands
unfolding values_of site_of catalog_of
returns-clause-stands c = λ K wrote S.
    let self = c.args.self.now in
    let ss = sessions_of self.sessions in
    let same : updated c.args.call.now ≡ with_any c.args.asked = λ t s. c.requires.asks s t in
    stand_answered (values_of self) K S (Given (Call c.args.client c.args.call.now)) (Replied Done) wrote self.starts
    (sessions_of c.update.new.sessions) S.starts
    (c.update.ensures ∙ sym (ap (λ f. changed c.args.client f ss) same)
    ∙ ap (changed c.args.client (updated c.args.call.now)) S.sessions)
