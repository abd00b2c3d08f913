use Rattle.std.proofs.Common.{◌≡◌, ◌+◌, ◌∷◌, [], ◌++◌, ℕ, List, Option, Some, None, length, inl, inr, refl, ap, sym, ◌∙◌, subst}
use Rattle.walter_base.specs.declared.message.Reply.TheVariants.{Started}
use Rattle.walter_rules.specs.declared.event.Event.TheVariants.{Given}
use Rattle.walter_rules.specs.declared.event.Input.TheVariants.{Call}
use Rattle.walter_rules.specs.declared.outcome.Outcome.TheVariants.{Replied}
use Rattle.walter_rules.specs.Learning.{answered}
use Rattle.walter_base.specs.Vectors.{Covers}
use Rattle.walter_rules.specs.Sessions.{Session}
use Rattle.walter_session.specs.Floors.{AllCover}
use Rattle.walter_session.specs.Sessions.{sessions_of, session_of, started}
use Rattle.walter_tables.specs.Answering.{CanBeAnswered, deciding_any}
use Rattle.walter_tables.specs.Open.{AreOpenAt}
use Rattle.walter_tables.specs.Sites.{values_of, site_of, catalog_of}
use Rattle.walter_tables.specs.Standing.{StandFor}
use Rattle.walter_tables.proofs.Answered.{DoesEnd, vector_is, stand_answered, stand_ended}
use Rattle.walter_tables.proofs.CoveredFloors.{cover_changed, cover_without, cover_more}
use Rattle.walter_tables.proofs.Opened.{session_is, open_changed, open_without, open_more, open_started, open_decided}
use Rattle.walter_tables.proofs.tables.Tables.answer_other.Goals as goal

pub invariant_of-self-clause-open : goal.invariant_of-self-clause-open
invariant_of-self-clause-open c =
    let self = c.args.self.now in
    let tid = c.in-Started.tid in
    let fits = subst (CanBeAnswered self c.args.client c.args.call.now) c.in-Started.is c.requires.fits in
    let sites = ap (λ (v : List ℕ). length v) c.committed.ensures ∙ self.spread_committed in
    subst (AreOpenAt self.catalog self.site) (sym c.start.ensures)
    (open_more self.catalog self.site c.args.client (started tid c.committed.result.now) (sessions_of self.sessions)
    self.open fits.none (open_started self.catalog self.site tid c.committed.result.now fits.here sites))

pub invariant_of-self-in-Committed-clause-open : goal.invariant_of-self-in-Committed-clause-open
invariant_of-self-in-Committed-clause-open c =
    let self = c.args.self.now in
    subst (AreOpenAt self.catalog self.site) (sym c.end.ensures.sessions)
    (open_without self.catalog self.site c.args.client (sessions_of self.sessions) self.open)

pub invariant_of-self-in-Deciding-1-clause-open : goal.invariant_of-self-in-Deciding-1-clause-open
invariant_of-self-in-Deciding-1-clause-open c =
    let self = c.args.self.now in
    let ss = sessions_of self.sessions in
    let is = open_decided self.catalog self.site c.args.begun (session_of self.sessions c.args.client)
    (session_is self.catalog self.site c.args.client ss self.open) in
    subst (AreOpenAt self.catalog self.site) (sym c.decide.ensures)
    (open_changed self.catalog self.site c.args.client (deciding_any c.args.begun) ss self.open is)

pub invariant_of-self-clause-snapshots : goal.invariant_of-self-clause-snapshots
invariant_of-self-clause-snapshots c =
    let self = c.args.self.now in
    let floor = self.history.floor in
    subst (λ ss. AllCover ss floor) (sym c.start.ensures)
    (cover_more floor c.args.client (started c.in-Started.tid c.committed.result.now) (sessions_of self.sessions) self.snapshots
    (subst (λ (v : List ℕ). Covers v floor) (sym c.committed.ensures) self.folded))

pub invariant_of-self-in-Committed-clause-snapshots : goal.invariant_of-self-in-Committed-clause-snapshots
invariant_of-self-in-Committed-clause-snapshots c =
    let self = c.args.self.now in
    subst (λ ss. AllCover ss self.history.floor) (sym c.end.ensures.sessions)
    (cover_without self.history.floor c.args.client (sessions_of self.sessions) self.snapshots)

decided_snapshot : (begun : Option ℕ) (s : Session) → (deciding_any begun s).snapshot ≡ s.snapshot
decided_snapshot None s = refl
decided_snapshot (Some slow) s = refl

pub invariant_of-self-in-Deciding-1-clause-snapshots : goal.invariant_of-self-in-Deciding-1-clause-snapshots
invariant_of-self-in-Deciding-1-clause-snapshots c =
    let self = c.args.self.now in
    subst (λ ss. AllCover ss self.history.floor) (sym c.decide.ensures)
    (cover_changed self.history.floor c.args.client (deciding_any c.args.begun) (sessions_of self.sessions)
    (decided_snapshot c.args.begun) self.open.apart self.snapshots)

pub returns-in-Started-clause-stands : goal.returns-in-Started-clause-stands
unfolding values_of site_of catalog_of
returns-in-Started-clause-stands c = λ K wrote S at.
    let self = c.args.self.now in
    let client = c.args.client in
    let tid = c.in-Started.tid in
    let event = Given (Call client c.args.call.now) in
    let fits = subst (CanBeAnswered self client c.args.call.now) c.in-Started.is c.requires.fits in
    let vector = c.committed.ensures ∙ vector_is (values_of self) K S self.spread_committed in
    let ss = sessions_of c.start.new.sessions in
    subst (λ reply. StandFor (record (values_of self) { starts = tid.number; sessions = ss })
    (answered self.catalog event (Replied reply) wrote K)) (sym c.in-Started.is)
    (stand_answered (values_of self) K S event (Replied (Started tid)) wrote tid.number ss
    (fits.next ∙ ap (λ (n : ℕ). n + 1) S.starts)
    (c.start.ensures ∙ (λ t. S.sessions t ++ (client, started tid (vector t)) ∷ [])))

pub returns-in-Committed-clause-stands : goal.returns-in-Committed-clause-stands
unfolding values_of site_of catalog_of
returns-in-Committed-clause-stands c = λ K wrote S at.
    let self = c.args.self.now in
    let ends : DoesEnd c.args.reply.now = elim c.in-Committed.is [
      | inl committed ↦ subst DoesEnd (sym committed.1) tt
      | inr others ↦ elim others [
        | inl aborted ↦ subst DoesEnd (sym aborted.1) tt
        | inr rest ↦ elim rest [
          | inl ended ↦ subst DoesEnd (sym ended) tt
          | inr unsure ↦ subst DoesEnd (sym unsure.1) tt
        ]
      ]
    ] in
    stand_ended (values_of self) K S c.args.client c.args.call.now wrote c.args.reply.now (sessions_of c.end.new.self) ends
    c.end.ensures.sessions
