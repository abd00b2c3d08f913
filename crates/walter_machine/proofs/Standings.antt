-- The records of a site, the one in flight and the debts behind a step, a fault, and what came to nothing.
use Rattle.std.proofs.Common.{◌≡◌, ◌∙◌, ◌<◌, [], ℕ, Bool, true, false, Option, Some, None, refl, sym, ap, subst, arith}
use Rattle.std.specs.Prelude.{IfSome, IsSome}
use Rattle.walter_alone.proofs.Followed.{follow_lost}
use Rattle.walter_base.specs.declared.catalog.Catalog.{Catalog}
use Rattle.walter_base.specs.declared.message.Record.{Record}
use Rattle.walter_base.specs.declared.message.Record.TheVariants.{Boot, Own, SlowBegin}
use Rattle.walter_base.specs.declared.names.SiteId.{SiteId}
use Rattle.walter_base.specs.declared.names.Tid.{Tid}
use Rattle.walter_machine.specs.Steps.{Step, Answer, Apply, Fall, Rise, came_of, record_of, IsIdle, IsStep, flight_behind}
use Rattle.walter_machine.specs.Comings.{IsFall}
use Rattle.walter_machine.specs.States.{AreTold, CanBeNext, IsState}
use Rattle.walter_machine.proofs.Behind.{none_flies, stays_knows, stays_up, stays_gone, falls_up, falls_knows, falls_gone, plan_stays}
use Rattle.walter_machine.proofs.Records.{told_more, told_same, still_can, lost_after, booted_behind}
use Rattle.walter_rules.specs.declared.entry.Came.{Came}
use Rattle.walter_rules.specs.declared.event.Event.{Event}
use Rattle.walter_rules.specs.declared.event.Event.TheVariants.{Given, Stop, Restart}
use Rattle.walter_rules.specs.declared.event.Input.{Input}
use Rattle.walter_rules.specs.declared.event.Input.TheVariants.{Call, Deliver, Advance, Tick, Upgrade}
use Rattle.walter_rules.specs.declared.outcome.Outcome.{Outcome}
use Rattle.walter_rules.specs.declared.outcome.Outcome.TheVariants.{Taken}
use Rattle.walter_rules.specs.Knowledge.{Knowledge}
use Rattle.walter_rules.specs.Learning.{after, lost, recorded, epoch_after}
use Rattle.walter_rules.specs.Records.{CanFollow}
use Rattle.walter_rules.specs.Sessions.{session_in}
use Rattle.walter_rules.specs.Standing.{Standing, stands_after, records_after, goes_down, comes_up, flight_after, owed, told}
use Rattle.walter_rules.specs.Trails.{failure, fullness, want, only}
use Rattle.walter_rules.proofs.Staying.{fault_falls}
use Rattle.walter_site.specs.Members.{Knows}
use Rattle.walter_tables.specs.declared.tables.Tables.{Tables}

pub no_up : {P : Type 0} (b : Bool) → b ≡ false → b ≡ true → P
no_up b down up = absurd (let e = sym down ∙ up in cc)

pub no_down : {P : Type 0} (b : Bool) → b ≡ true → b ≡ false → P
no_down b up down = absurd (let e = sym down ∙ up in cc)

-- ---- where the answer changes nothing

module _ (catalog : Catalog) (i : SiteId) (S : Standing) (event : Event) (outcome : Outcome)
    (idle : IsIdle catalog i S event outcome) where
  abbrev pub Still : Standing
  Still = stands_after catalog i S event (came_of (Answer outcome))

  still_knows : Still.knows ≡ S.knows
  still_knows = stays_knows catalog i S event (came_of (Answer outcome)) idle.stays ∙ idle.knows

  pub still_up : Still.up ≡ S.up
  still_up = stays_up catalog i S event (came_of (Answer outcome)) idle.stays idle.rests

  pub still_told : AreTold catalog i S → AreTold catalog i Still
  still_told all =
      told_same catalog i S Still all refl (ap lost still_knows)
      (subst (λ (f : Option Record). IfSome f (CanBeNext catalog i Still)) (sym idle.flies)
      (still_can catalog i S Still all S.flight (ap lost still_knows) still_knows all.in_flight))
      (λ up. subst (λ (K : Knowledge). 0 < K.epoch) (sym still_knows) (all.booted (sym still_up ∙ up)))
      (λ down. ap lost still_knows ∙ (all.rests (sym still_up ∙ down) ∙ sym still_knows))

-- ---- where a record can be the next

-- behind what leaves a site up that is up
module _ (catalog : Catalog) (i : SiteId) (S : Standing) (event : Event) (came : Came) (all : AreTold catalog i S)
    (up : S.up ≡ true) (settled : S.flight ≡ None) (none : came.flight ≡ None)
    (stays : goes_down event came.outcome ≡ false) (rests : comes_up event came.outcome ≡ false)
    (next : IfSome came.wrote (CanBeNext catalog i S)) where
  abbrev Then : Standing
  Then = stands_after catalog i S event came

  then_up : Then.up ≡ true
  then_up = stays_up catalog i S event came stays rests ∙ up

  then_knows : Then.knows ≡ after catalog i S.knows event came.outcome came.wrote
  then_knows = stays_knows catalog i S event came stays

  pub then_flight : Then.flight ≡ None
  then_flight = ap (λ (f : Option Record). flight_after f came.wrote came.outcome S.flight) none
      ∙ (ap (flight_after None came.wrote came.outcome) settled ∙ none_flies came.wrote came.outcome)

  then_lost : lost Then.knows ≡ recorded catalog i came.wrote (lost S.knows)
  then_lost = ap lost then_knows ∙ lost_after catalog i S.knows event came.outcome came.wrote

  epoch_of : (wrote : Option Record) → IfSome wrote (CanBeNext catalog i S) → 0 < epoch_after wrote S.knows.epoch
  epoch_of None can = all.booted up
  epoch_of (Some rec) can = booted_behind catalog i S.knows rec can.follows (all.booted up)

  pub then_told : AreTold catalog i Then
  then_told = by came.wrote refl
    where
      booted : Then.up ≡ true → 0 < Then.knows.epoch
      booted b = subst (λ (K : Knowledge). 0 < K.epoch) (sym then_knows) (epoch_of came.wrote next)

      by : (wrote : Option Record) → came.wrote ≡ wrote → AreTold catalog i Then
      by None is =
          told_same catalog i S Then all
          (ap (λ (w : Option Record). records_after w S.records) is)
          (then_lost ∙ ap (λ (w : Option Record). recorded catalog i w (lost S.knows)) is)
          (subst (λ (f : Option Record). IfSome f (CanBeNext catalog i Then)) (sym then_flight) tt)
          booted (no_down Then.up then_up)
      by (Some rec) is =
          told_more catalog i S Then all rec (subst (λ (w : Option Record). IfSome w (CanBeNext catalog i S)) is next)
          (ap (λ (w : Option Record). records_after w S.records) is)
          (then_lost ∙ ap (λ (w : Option Record). recorded catalog i w (lost S.knows)) is)
          then_flight booted (no_down Then.up then_up)

-- ---- behind a step

-- the records
pub step_told : (catalog : Catalog) (i : SiteId) (site : Option Tables) (S : Standing) (event : Event) (step : Step)
    → IsState S site → IsStep catalog i site S event step → IfSome (record_of step) (CanBeNext catalog i S)
    → AreTold catalog i S → AreTold catalog i (stands_after catalog i S event (came_of step))
step_told catalog i site S event (Answer outcome) state is next all = still_told catalog i S event outcome is all
step_told catalog i None S event (Apply plan) state is next all = absurd is
step_told catalog i (Some t) S (Given input) (Apply plan) state is next all =
    then_told catalog i S (Given input) (came_of (Apply plan)) all state.up state.settled refl
    (plan_stays t S.knows input plan is) refl next
step_told catalog i (Some t) S Stop (Apply plan) state is next all = absurd is
step_told catalog i (Some t) S Restart (Apply plan) state is next all = absurd is
step_told catalog i None S event Fall state is next all = absurd is
step_told catalog i (Some t) S event Fall state is next all =
    subst (λ (e : Event). AreTold catalog i (stands_after catalog i S e (came_of Fall))) (sym is)
    (told_same catalog i S (stands_after catalog i S Stop (came_of Fall)) all refl refl
    (subst (λ (f : Option Record). IfSome f (CanBeNext catalog i (stands_after catalog i S Stop (came_of Fall)))) (sym state.settled) tt)
    (λ up. absurd cc) (λ down. refl))
step_told catalog i site S event (Rise tables epoch) state is next all =
    subst (λ (e : Event). AreTold catalog i (stands_after catalog i S e (came_of (Rise tables epoch)))) (sym is.restart)
    (told_more catalog i S (stands_after catalog i S Restart (came_of (Rise tables epoch))) all (Boot epoch) next refl
    (lost_after catalog i S.knows Restart Taken (Some (Boot epoch))) refl
    (λ up. omega (arith, is.next)) (λ down. absurd cc))

-- the one in flight
kept_none : (wrote : Option Record) → flight_behind wrote None ≡ None
kept_none None = refl
kept_none (Some rec) = refl

pub step_flight : (catalog : Catalog) (i : SiteId) (site : Option Tables) (S : Standing) (event : Event) (step : Step)
    → IsState S site → IsStep catalog i site S event step
    → flight_behind (record_of step) S.flight ≡ (stands_after catalog i S event (came_of step)).flight
step_flight catalog i site S event (Answer outcome) state is = sym is.flies
step_flight catalog i None S event (Apply plan) state is = absurd is
step_flight catalog i (Some t) S event (Apply plan) state is =
    ap (flight_behind plan.planned.rec) state.settled ∙ (kept_none plan.planned.rec
    ∙ sym (ap (flight_after None plan.planned.rec plan.planned.outcome) state.settled
    ∙ none_flies plan.planned.rec plan.planned.outcome))
step_flight catalog i None S event Fall state is = absurd is
step_flight catalog i (Some t) S event Fall state is = refl
step_flight catalog i site S event (Rise tables epoch) state is = refl

-- ---- behind a fault

-- what a site that is down knows of sessions
pub none_open : (catalog : Catalog) (i : SiteId) (S : Standing) → AreTold catalog i S → S.up ≡ false → S.knows.sessions ≡ []
none_open catalog i S all down = sym (ap (λ (K : Knowledge). K.sessions) (all.rests down))

abbrev pub fault_of : Event → Record → Came
fault_of event rec = record (only (failure event rec)) { flight = Some rec }

module _ (catalog : Catalog) (i : SiteId) (S : Standing) (event : Event) (rec : Record) (all : AreTold catalog i S)
    (next : CanBeNext catalog i S rec) where
  abbrev pub Failing : Standing
  Failing = stands_after catalog i S event (fault_of event rec)

  falls : goes_down event (failure event rec) ≡ true
  falls = fault_falls event rec

  failing_knows : Failing.knows ≡ lost S.knows
  failing_knows = falls_knows catalog i S event (fault_of event rec) falls
      ∙ lost_after catalog i S.knows event (failure event rec) None

  pub failing_up : Failing.up ≡ false
  failing_up = falls_up catalog i S event (fault_of event rec) falls

  pub failing_told : AreTold catalog i Failing
  failing_told =
      told_same catalog i S Failing all refl (ap lost failing_knows)
      (record {
        sizes = next.sizes;
        follows = subst (λ (K : Knowledge). CanFollow catalog i K rec) (sym failing_knows)
            (follow_lost catalog i S.knows rec next.follows);
      })
      (no_up Failing.up failing_up) (λ down. ap lost failing_knows ∙ sym failing_knows)

  pub failing_gone : (client : ℕ) → Failing.gone client
      ≡ owed (session_in client (after catalog i S.knows event (failure event rec) None).sessions) (S.gone client)
  failing_gone client = falls_gone catalog i S event (fault_of event rec) falls client

-- it is a fall
pub failure_falls : (event : Event) (rec : Record) → IsFall event (failure event rec)
failure_falls (Given (Call client call)) (Own seq tx) = tt
failure_falls (Given (Call client call)) (SlowBegin n tx) = tt
failure_falls (Given (Call client call)) rec = tt
failure_falls (Given (Deliver from number packet)) rec = tt
failure_falls (Given (Advance from)) rec = tt
failure_falls (Given Tick) rec = tt
failure_falls (Given Upgrade) rec = tt
failure_falls Stop rec = tt
failure_falls Restart rec = tt

-- ---- behind what came to nothing

pub want_idle : (catalog : Catalog) (i : SiteId) (S : Standing) (event : Event) → IsIdle catalog i S event (want event)
want_idle catalog i S (Given (Call client call)) = record { stays = refl; rests = refl; knows = refl; flies = refl }
want_idle catalog i S (Given (Deliver from number packet)) = record { stays = refl; rests = refl; knows = refl; flies = refl }
want_idle catalog i S (Given (Advance from)) = record { stays = refl; rests = refl; knows = refl; flies = refl }
want_idle catalog i S (Given Tick) = record { stays = refl; rests = refl; knows = refl; flies = refl }
want_idle catalog i S (Given Upgrade) = record { stays = refl; rests = refl; knows = refl; flies = refl }
want_idle catalog i S Stop = record { stays = refl; rests = refl; knows = refl; flies = refl }
want_idle catalog i S Restart = record { stays = refl; rests = refl; knows = refl; flies = refl }

pub want_told : (event : Event) (gone : ℕ → Option Tid) (client : ℕ) → told event (want event) gone client ≡ gone client
want_told (Given (Call c call)) gone client = refl
want_told (Given (Deliver from number packet)) gone client = refl
want_told (Given (Advance from)) gone client = refl
want_told (Given Tick) gone client = refl
want_told (Given Upgrade) gone client = refl
want_told Stop gone client = refl
want_told Restart gone client = refl

-- ---- behind a record that found no place

abbrev pub overflow_of : Event → ℕ → ℕ → Came
overflow_of event need left = only (fullness event need left)

full_stays : (input : Input) (need left : ℕ) → goes_down (Given input) (fullness (Given input) need left) ≡ false
full_stays (Call client call) need left = refl
full_stays (Deliver from number packet) need left = refl
full_stays (Advance from) need left = refl
full_stays Tick need left = refl
full_stays Upgrade need left = refl

full_knows : (catalog : Catalog) (i : SiteId) (K : Knowledge) (input : Input) (need left : ℕ)
    → after catalog i K (Given input) (fullness (Given input) need left) None ≡ K
full_knows catalog i K (Call client call) need left = refl
full_knows catalog i K (Deliver from number packet) need left = refl
full_knows catalog i K (Advance from) need left = refl
full_knows catalog i K Tick need left = refl
full_knows catalog i K Upgrade need left = refl

full_told : (input : Input) (need left : ℕ) (gone : ℕ → Option Tid) (client : ℕ)
    → told (Given input) (fullness (Given input) need left) gone client ≡ gone client
full_told (Call c call) need left gone client = refl
full_told (Deliver from number packet) need left gone client = refl
full_told (Advance from) need left gone client = refl
full_told Tick need left gone client = refl
full_told Upgrade need left gone client = refl

-- the site stands as before, and no record is in flight
pub record IsFilled (catalog : Catalog) (i : SiteId) (site : Option Tables) (S T : Standing) : Type 0 where
  pub state : IsState T site
  pub told_all : AreTold catalog i T
  pub flight : T.flight ≡ None
  pub up : T.up ≡ true → S.up ≡ true
  pub gone : (client : ℕ) → T.gone client ≡ S.gone client

pub overflow_filled : (catalog : Catalog) (i : SiteId) (site : Option Tables) (S : Standing) (event : Event) (step : Step)
    (need left : ℕ) → IsState S site → IsStep catalog i site S event step → IsSome (record_of step) → AreTold catalog i S
    → IsFilled catalog i site S (stands_after catalog i S event (overflow_of event need left))
overflow_filled catalog i site S event (Answer outcome) need left state is some all = absurd cc
overflow_filled catalog i None S event (Apply plan) need left state is some all = absurd is
overflow_filled catalog i (Some t) S (Given input) (Apply plan) need left state is some all =
    let came : Came = overflow_of (Given input) need left in
    let stays = full_stays input need left in
    let knows = stays_knows catalog i S (Given input) came stays ∙ full_knows catalog i S.knows input need left in
    let flight = then_flight catalog i S (Given input) came all state.up state.settled refl stays refl tt in
    record {
      state = record {
        up = stays_up catalog i S (Given input) came stays refl ∙ state.up;
        knows = subst (λ (K : Knowledge). Knows t K) (sym knows) state.knows;
        settled = flight;
      };
      told_all = then_told catalog i S (Given input) came all state.up state.settled refl stays refl tt;
      flight = flight;
      up = λ up. state.up;
      gone = λ client. stays_gone catalog i S (Given input) came stays client ∙ full_told input need left S.gone client;
    }
overflow_filled catalog i (Some t) S Stop (Apply plan) need left state is some all = absurd is
overflow_filled catalog i (Some t) S Restart (Apply plan) need left state is some all = absurd is
overflow_filled catalog i site S event Fall need left state is some all = absurd cc
overflow_filled catalog i None S event (Rise tables epoch) need left state is some all =
    subst (λ (e : Event). IsFilled catalog i None S (stands_after catalog i S e (overflow_of e need left))) (sym is.restart)
    (record {
      state = state;
      told_all = told_same catalog i S (stands_after catalog i S Restart (overflow_of Restart need left)) all refl refl tt
          all.booted all.rests;
      flight = refl;
      up = λ up. up;
      gone = λ client. refl;
    })
overflow_filled catalog i (Some t) S event (Rise tables epoch) need left state is some all = absurd (let no = is.down in cc)
