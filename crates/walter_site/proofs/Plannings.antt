-- What holds of a plan that is the rule's.
use Rattle.std.proofs.Common.{◌≡◌, ℕ, true, Option, None, Result, Ok, Err, OnErr, All, IfSome, IsSome, ap, sym, ◌∙◌, subst}
use Rattle.walter_base.specs.declared.catalog.Catalog.{Catalog}
use Rattle.walter_base.specs.declared.format.Format.{Format}
use Rattle.walter_base.specs.declared.message.BadFrame.{BadFrame}
use Rattle.walter_base.specs.declared.message.Record.{Record}
use Rattle.walter_base.specs.declared.message.Request.{Request}
use Rattle.walter_base.specs.declared.names.SiteId.{SiteId}
use Rattle.walter_base.specs.declared.update.Update.{Update}
use Rattle.walter_site.specs.Members.{Knows, IsStarted, input_rule, IsSizedPacket, IsSizedInput, IsShortOutcome}
use Rattle.walter_site.specs.Plans.{CanBeAnsweredAny, CanTakeIn, TakesRoomIn, IsNewsIn, IsFromWithin, IsFor}
use Rattle.walter_rules.specs.declared.event.Event.TheVariants.{Given}
use Rattle.walter_rules.specs.declared.event.Input.{Input}
use Rattle.walter_rules.specs.declared.event.Input.TheVariants.{Call, Deliver, Advance, Tick, Upgrade}
use Rattle.walter_rules.specs.declared.outcome.Outcome.{Outcome}
use Rattle.walter_rules.specs.declared.outcome.Outcome.TheVariants.{Replied, Taken, Passed, Failed, Full, Memory, Down, Refused}
use Rattle.walter_rules.specs.Calls.{Expected, call_rule}
use Rattle.walter_rules.specs.Knowledge.{Knowledge, session_of}
use Rattle.walter_rules.specs.Learning.{recorded, answered, heard, after}
use Rattle.walter_rules.specs.Records.{CanFollow, IsRecordAmong}
use Rattle.walter_rules.specs.Trails.{TakesMemory}
use Rattle.walter_tables.specs.declared.plan.Planned.{Planned}
use Rattle.walter_tables.specs.declared.tables.Tables.{Tables}
use Rattle.walter_tables.specs.Answering.{begun_in}
use Rattle.walter_tables.specs.Planning.{expected_of}
use Rattle.walter_tables.specs.Sites.{site_of, catalog_of, Stands}
use Rattle.walter_tables.proofs.Called.{can_be_answered}
use Rattle.walter_site.proofs.Outcomes.{rule_for, rule_wants_room}
use Rattle.walter_site.proofs.Ruled.{rule_follows, rule_recorded, rule_sent, rule_short, rule_news, rule_within, rule_started, rule_wants_record}
use Rattle.walter_site.proofs.Readied.{takes_in_kept}
use Rattle.walter_site.proofs.Up.{sound_at, open_at, most_at, starts_kept}

pub on_err : {T E : Type 0} (P : Type 0) (r : Result T E) → P → OnErr r P
on_err P (Ok x) holds = tt
on_err P (Err e) holds = holds

-- a tick has no record
pub tick_wrote : (header : Format) (t : Tables) (K : Knowledge) (input : Input) (p : Planned)
    → expected_of p ≡ input_rule header (catalog_of t) (site_of t) K input → input ≡ Tick → p.rec ≡ None
tick_wrote header t K input p ruled tick =
    ap (λ e. e.wrote) (ruled ∙ ap (input_rule header (catalog_of t) (site_of t) K) tick)

module _ (header : Format) (t : Tables) (K : Knowledge) (S : Knows t K) (input : Input) (p : Planned)
    (ruled : expected_of p ≡ input_rule header (catalog_of t) (site_of t) K input) where
  -- what holds of what the rule expects holds of the plan
  by_rule : (P : Expected → Type 0) → P (input_rule header (catalog_of t) (site_of t) K input) → P (expected_of p)
  by_rule P holds = subst P (sym ruled) holds

  pub plan_follows : IfSome p.rec (CanFollow (catalog_of t) (site_of t) K)
  plan_follows =
      by_rule (λ e. IfSome e.wrote (CanFollow (catalog_of t) (site_of t) K))
      (rule_follows header (catalog_of t) (site_of t) K (sound_at t K S.stands) (open_at t K S.stands) S.started
      (most_at t) input)

  pub plan_recorded : IsSizedInput (catalog_of t).sites input → IfSome p.rec (IsRecordAmong (catalog_of t).sites)
  plan_recorded sized =
      by_rule (λ e. IfSome e.wrote (IsRecordAmong (catalog_of t).sites))
      (rule_recorded header (catalog_of t) (site_of t) K (sound_at t K S.stands) (open_at t K S.stands) S.started
      (most_at t) input sized)

  pub plan_sent : IsSizedInput (catalog_of t).sites input
      → All (λ s. IsSizedPacket (catalog_of t).sites s.1) p.sends
  plan_sent sized =
      by_rule (λ e. All (λ s. IsSizedPacket (catalog_of t).sites s.1) e.sends)
      (rule_sent header (catalog_of t) (site_of t) K (sound_at t K S.stands) (open_at t K S.stands) S.started
      (most_at t) input sized)

  pub plan_short : IsShortOutcome p.outcome
  plan_short =
      by_rule (λ e. IsShortOutcome e.outcome)
      (rule_short header (catalog_of t) (site_of t) K (sound_at t K S.stands) (open_at t K S.stands) S.started
      (most_at t) input)

  pub plan_news : IsNewsIn (site_of t) (recorded (catalog_of t) (site_of t) p.rec K) input p.outcome
  plan_news =
      by_rule (λ e. IsNewsIn (site_of t) (recorded (catalog_of t) (site_of t) e.wrote K) input e.outcome)
      (rule_news header (catalog_of t) (site_of t) K (sound_at t K S.stands) (open_at t K S.stands) S.started
      (most_at t) input)

  pub plan_within : IsFromWithin (catalog_of t) input p.outcome
  plan_within =
      by_rule (λ e. IsFromWithin (catalog_of t) input e.outcome)
      (rule_within header (catalog_of t) (site_of t) K (sound_at t K S.stands) (open_at t K S.stands) S.started
      (most_at t) input)

  pub plan_for : IsFor input p.outcome
  plan_for = by_rule (λ e. IsFor input e.outcome) (rule_for (catalog_of t) (site_of t) K header input)

  pub plan_started : IsStarted (site_of t) (after (catalog_of t) (site_of t) K (Given input) p.outcome p.rec)
  plan_started =
      by_rule (λ e. IsStarted (site_of t) (after (catalog_of t) (site_of t) K (Given input) e.outcome e.wrote))
      (rule_started header (catalog_of t) (site_of t) K (sound_at t K S.stands) (open_at t K S.stands) S.started
      (most_at t) input)

  -- what takes memory is of an input that may want it
  pub plan_wants_record : IsSome p.rec → TakesMemory true (Given input)
  plan_wants_record =
      by_rule (λ e. IsSome e.wrote → TakesMemory true (Given input))
      (rule_wants_record header (catalog_of t) (site_of t) K (sound_at t K S.stands) (open_at t K S.stands) S.started
      (most_at t) input)

  pub plan_wants_room : TakesRoomIn input p.outcome → TakesMemory true (Given input)
  plan_wants_room =
      by_rule (λ e. TakesRoomIn input e.outcome → TakesMemory true (Given input))
      (rule_wants_room (catalog_of t) (site_of t) K header input)

-- a call can be answered as the rule says
module _ (t : Tables) (K : Knowledge) (S : Stands t K) where
  call_fits : (client : ℕ) (call : Result Request BadFrame) (outcome : Outcome)
      → (call_rule (catalog_of t) (site_of t) K call (session_of K client)).outcome ≡ outcome
      → CanBeAnsweredAny t (Call client call) outcome
  call_fits client call (Replied reply) ruled = can_be_answered t K S client call reply ruled
  call_fits client call Taken ruled = tt
  call_fits client call Passed ruled = tt
  call_fits client call Failed ruled = tt
  call_fits client call (Full need left) ruled = tt
  call_fits client call Memory ruled = tt
  call_fits client call Down ruled = tt
  call_fits client call Refused ruled = tt

  pub input_fits : (header : Format) (input : Input) (outcome : Outcome)
      → (input_rule header (catalog_of t) (site_of t) K input).outcome ≡ outcome → CanBeAnsweredAny t input outcome
  input_fits header (Call client call) outcome ruled = call_fits client call outcome ruled
  input_fits header (Deliver from number packet) outcome ruled = tt
  input_fits header (Advance from) outcome ruled = tt
  input_fits header Tick outcome ruled = tt
  input_fits header Upgrade outcome ruled = tt

-- what can be taken in can be taken in once the record is kept
pub kept_takes_in : (old new : Tables) (K : Knowledge) (rec : Option Record) → Stands old K
    → Stands new (recorded (catalog_of old) (site_of old) rec K) → new.sessions ≡ old.sessions
    → site_of new ≡ site_of old → catalog_of new ≡ catalog_of old → (input : Input) (outcome : Outcome)
    (asked : Option Update) → CanTakeIn old input outcome asked → CanTakeIn new input outcome asked
unfolding site_of catalog_of
kept_takes_in old new K rec S S2 sessions site catalog input outcome asked can =
    takes_in_kept old new site catalog (starts_kept old new K rec S S2) sessions input outcome asked can

-- a call can be answered as planned, by tables that stand for as much
pub plan_fits : (header : Format) (t new : Tables) (K : Knowledge) → Stands new K → site_of new ≡ site_of t
    → catalog_of new ≡ catalog_of t
    → (input : Input) (p : Planned) → expected_of p ≡ input_rule header (catalog_of t) (site_of t) K input
    → CanBeAnsweredAny new input p.outcome
plan_fits header t new K S site catalog input p ruled =
    input_fits new K S header input p.outcome
    (subst (λ (c : Catalog). (input_rule header c (site_of new) K input).outcome ≡ p.outcome) (sym catalog)
    (subst (λ (i : SiteId). (input_rule header (catalog_of t) i K input).outcome ≡ p.outcome) (sym site)
    (ap (λ (e : Expected). e.outcome) (sym ruled))))

-- what the tables stand for once the record is kept and the input is taken in
module _ (t kept new : Tables) (input : Input) (p : Planned) (begun : Option ℕ)
    (kept_site : site_of kept ≡ site_of t) (kept_catalog : catalog_of kept ≡ catalog_of t)
    (site : site_of new ≡ site_of kept)
    (keeps : (K : Knowledge) → Stands t K → IfSome p.rec (CanFollow (catalog_of t) (site_of t) K)
    → IfSome p.rec (IsRecordAmong (catalog_of t).sites)
    → Stands kept (recorded (catalog_of t) (site_of t) p.rec K))
    (sizes : IfSome p.rec (IsRecordAmong (catalog_of t).sites))
    (header : Format) (K : Knowledge) (S : Knows t K)
    (ruled : expected_of p ≡ input_rule header (catalog_of t) (site_of t) K input) where
  keeps_planned : Stands kept (recorded (catalog_of t) (site_of t) p.rec K)
  keeps_planned = keeps K S.stands (plan_follows header t K S input p ruled) sizes

  pub planned_takes_in : kept.sessions ≡ t.sessions → (asked : Option Update)
      → CanTakeIn t input p.outcome asked → CanTakeIn kept input p.outcome asked
  planned_takes_in sessions asked can =
      kept_takes_in t kept K p.rec S.stands keeps_planned sessions kept_site kept_catalog input p.outcome asked can

  pub planned_knows : begun ≡ begun_in p.rec
      → ((K : Knowledge) (wrote : Option Record) → Stands kept K → begun_in wrote ≡ begun
      → IsNewsIn (site_of kept) K input p.outcome
      → Stands new (heard (Given input) p.outcome (answered (catalog_of kept) (Given input) p.outcome wrote K)))
      → Knows new (after (catalog_of t) (site_of t) K (Given input) p.outcome p.rec)
  planned_knows begins takes =
      let K2 = recorded (catalog_of t) (site_of t) p.rec K in
      let news = subst (λ (i : SiteId). IsNewsIn i K2 input p.outcome) (sym kept_site) (plan_news header t K S input p ruled) in
      record {
        stands = subst (λ (c : Catalog). Stands new (heard (Given input) p.outcome
            (answered c (Given input) p.outcome p.rec K2))) kept_catalog
            (takes K2 p.rec keeps_planned (sym begins) news);
        started = subst (λ (i : SiteId). IsStarted i (after (catalog_of t) (site_of t) K (Given input) p.outcome p.rec))
            (sym (site ∙ kept_site)) (plan_started header t K S input p ruled);
      }
