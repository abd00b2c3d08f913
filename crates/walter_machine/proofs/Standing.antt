-- How a machine stands behind a step, a fault, and what came to nothing.
use Rattle.std.proofs.Common.{◌≡◌, ◌∙◌, ◌<◌, ◌+◌, ◌∷◌, [], ℕ, Bool, true, false, List, length, Option, Some, None, refl, sym, ap, subst, arith, ◌⊎◌, inl, inr}
use Rattle.std.specs.Prelude.{IfSome, IsSome, is_some}
use Rattle.std.proofs.lemmas.List.{length-append}
use Rattle.walter_base.specs.declared.catalog.Catalog.{Catalog}
use Rattle.walter_base.specs.declared.format.Format.{Format}
use Rattle.walter_base.specs.declared.message.Record.{Record}
use Rattle.walter_base.specs.declared.names.SiteId.{SiteId}
use Rattle.walter_base.specs.declared.names.Tid.{Tid}
use Rattle.walter_base.specs.declared.message.Record.TheVariants.{Boot}
use Rattle.walter_base.specs.ByClient.{of_client}
use Rattle.walter_machine.specs.declared.machine.Machine.{Machine}
use Rattle.walter_machine.specs.declared.ready.Ready.{Ready}
use Rattle.walter_machine.specs.Steps.{Step, Answer, Apply, Fall, Rise, came_of, outcome_of, record_of, sends_of, IsIdle, IsStep, Steps, flight_behind, records_behind}
use Rattle.walter_machine.specs.Comings.{IsOutcomeAlone, IsRest}
use Rattle.walter_machine.specs.Debts.{IsDebtOf, owed_by, sessions_lost}
use Rattle.walter_machine.specs.Machines.{is_up, HasRoom, HasStanding, IsCounted, AreFound, Settles}
use Rattle.walter_machine.specs.Readiness.{step_in, IsReadyFor, rec_in, came_in}
use Rattle.walter_machine.specs.States.{AreTold, CanBeNext, IsOf, IsState}
use Rattle.walter_machine.proofs.Behind.{idle_steps, stays_gone}
use Rattle.walter_alone.proofs.Followed.{lost_recorded}
use Rattle.walter_machine.proofs.Owing.{told_so}
use Rattle.walter_machine.proofs.Records.{told_more, told_same, still_can}
use Rattle.walter_machine.proofs.Standings.{still_told, still_up, want_idle, want_told, none_open, no_up, IsFilled, step_told, step_flight, fault_of, failing_up, failing_told, failing_gone}
use Rattle.walter_rules.specs.declared.entry.Came.{Came}
use Rattle.walter_rules.specs.declared.event.Event.{Event}
use Rattle.walter_rules.specs.declared.event.Event.TheVariants.{Restart}
use Rattle.walter_rules.specs.declared.event.Input.{Input}
use Rattle.walter_rules.specs.declared.event.Input.TheVariants.{Call, Deliver, Advance, Tick, Upgrade}
use Rattle.walter_rules.specs.declared.outcome.Outcome.{Outcome}
use Rattle.walter_rules.specs.declared.outcome.Outcome.TheVariants.{Replied, Taken, Passed, Failed, Full, Memory, Down, Refused}
use Rattle.walter_rules.specs.Calls.{Expected}
use Rattle.walter_rules.specs.Knowledge.{Knowledge}
use Rattle.walter_rules.specs.Layouts.{Layout, FitsIn, header_of, need_in, left_behind}
use Rattle.walter_rules.specs.Learning.{after, lost, recorded}
use Rattle.walter_rules.specs.Sessions.{Sessions, session_in}
use Rattle.walter_rules.specs.Sending.{Send}
use Rattle.walter_rules.specs.Standing.{Standing, settled, stands_after, records_after, owed, told}
use Rattle.walter_session.specs.Sessions.{Table}
use Rattle.walter_site.specs.Members.{Knows}
use Rattle.walter_rules.specs.Trails.{Comes, IsFound, TakesMemory, IsPutOut, failure, fullness, want, only}
use Rattle.walter_rules.proofs.Staying.{put_all}
use Rattle.walter_tables.specs.declared.tables.Tables.{Tables}
use Rattle.walter_tables.specs.Sites.{site_of, catalog_of}
use Rattle.walter_rules.specs.Records.{IsRecordAmong}

-- ---- what a machine has room for

pub lost_none : (lost : Option Table) → is_some lost ≡ false → lost ≡ None
lost_none None none = refl
lost_none (Some table) none = absurd cc

by_up : {P : Type 0} (up : Bool) → (up ≡ true → P) → (up ≡ false → P) → P
by_up true raised down = raised refl
by_up false raised down = down refl

-- one that is up has room, and so has one that is down where it took it
pub room_of : (m : Machine) → (is_up m ≡ false → HasRoom m) → HasRoom m
room_of m taken = by_up (is_up m) m.roomy taken

-- it owes by its debts alone
pub debt_so : (m : Machine) (S : Standing) (input : Input) (debt : Option Tid) → HasStanding m S → HasRoom m
    → IsDebtOf (λ client. of_client client m.debts.entries) input debt → IsDebtOf S.gone input debt
debt_so m S (Call client call) debt has room owes =
    has.owed client ∙ (ap (λ (l : Option Table). owed_by m.debts.entries l client) (lost_none m.lost room.unlost) ∙ owes)
debt_so m S (Deliver from number packet) debt has room owes = tt
debt_so m S (Advance from) debt has room owes = tt
debt_so m S Tick debt has room owes = tt
debt_so m S Upgrade debt has room owes = tt

-- ---- what came to nothing

pub want_comes : (catalog : Catalog) (layout : Layout) (i : SiteId) (S : Standing) (event : Event) → TakesMemory S.up event
    → Comes catalog layout i S event (only (want event))
want_comes catalog layout i S event takes =
    Comes.no_memory takes (record { outcome_is = refl; wrote = refl; flight_is = refl; sends = refl; dropped = refl })

module _ (m : Machine) (S : Standing) (has : HasStanding m S) (event : Event) where
  pub still_standing : (outcome : Outcome) → IsIdle m.catalog m.id S event outcome
      → ((client : ℕ) → told event outcome S.gone client ≡ S.gone client)
      → HasStanding m (stands_after m.catalog m.id S event (only outcome))
  still_standing outcome idle untold = record {
    state = (idle_steps m.catalog m.id S event outcome m.site has.state idle).state;
    told = still_told m.catalog m.id S event outcome idle has.told;
    flight = has.flight ∙ sym idle.flies;
    count = λ which. has.count (known which);
    owed = λ client. stays_gone m.catalog m.id S event (only outcome) idle.stays client ∙ (untold client ∙ has.owed client);
  }
    where
      T : Standing
      T = stands_after m.catalog m.id S event (only outcome)

      known : (T.up ≡ true) ⊎ IsSome T.flight → (S.up ≡ true) ⊎ IsSome S.flight
      known (inl up) = inl (sym (still_up m.catalog m.id S event outcome idle) ∙ up)
      known (inr flies) = inr (subst (λ (f : Option Record). IsSome f) idle.flies flies)

  pub want_standing : HasStanding m (stands_after m.catalog m.id S event (only (want event)))
  want_standing = still_standing (want event) (want_idle m.catalog m.id S event) (want_told event S.gone)

module _ (m : Machine) (S : Standing) (has : HasStanding m S) (down : S.up ≡ false) where
  -- a restart that failed before it took an epoch
  failed_standing : HasStanding m (stands_after m.catalog m.id S Restart (only Failed))
  failed_standing = record {
    state = by m.site has.state;
    told = told_same m.catalog m.id S T has.told refl refl
        (still_can m.catalog m.id S T has.told S.flight refl (has.told.rests down) has.told.in_flight)
        (λ up. absurd cc) (λ d. refl);
    flight = has.flight;
    count = λ which. has.count (known which);
    owed = λ client. ap (λ (all : Sessions). owed (session_in client all) (S.gone client)) (none_open m.catalog m.id S has.told down)
        ∙ has.owed client;
  }
    where
      T : Standing
      T = stands_after m.catalog m.id S Restart (only Failed)

      by : (site : Option Tables) → IsState S site → IsState T site
      by None is = refl
      by (Some t) is = no_up S.up down is.up

      known : (T.up ≡ true) ⊎ IsSome T.flight → (S.up ≡ true) ⊎ IsSome S.flight
      known (inl up) = absurd cc
      known (inr flies) = inr flies

  pub rest_standing : (outcome : Outcome) → IsRest outcome
      → HasStanding m (stands_after m.catalog m.id S Restart (only outcome))
  rest_standing Failed is = failed_standing
  rest_standing Refused is = still_standing m S has Restart Refused
      (record { stays = refl; rests = refl; knows = refl; flies = refl }) (λ client. refl)
  rest_standing Memory is = still_standing m S has Restart Memory
      (record { stays = refl; rests = refl; knows = refl; flies = refl }) (λ client. refl)
  rest_standing (Replied reply) is = absurd is
  rest_standing Taken is = absurd is
  rest_standing Passed is = absurd is
  rest_standing (Full need left) is = absurd is
  rest_standing Down is = absurd is

-- ---- the record in flight is decided

some_at : (P : Record → Type 0) (o : Option Record) (rec : Record) → o ≡ Some rec → IfSome o P → P rec
some_at P o rec is holds = subst (λ (x : Option Record). IfSome x P) is holds

-- it was found
pub settled_told : (catalog : Catalog) (i : SiteId) (S : Standing) (rec : Record) → AreTold catalog i S → S.up ≡ false
    → S.flight ≡ Some rec → AreTold catalog i (settled catalog i (Some rec) S)
settled_told catalog i S rec all down flies =
    told_more catalog i S (settled catalog i (Some rec) S) all rec (some_at (CanBeNext catalog i S) S.flight rec flies all.in_flight) refl
    (lost_recorded catalog i S.knows rec) refl (no_up S.up down)
    (λ d. lost_recorded catalog i S.knows rec ∙ ap (recorded catalog i (Some rec)) (all.rests down))

-- where more are found than were known, the one in flight stands behind them
pub found_more : (S : Standing) (found records : ℕ) → records ≡ length S.records → records < found → AreFound S found
    → found ≡ length S.records + 1
found_more S found records known many (inl same) = absurd (omega (arith, known, many, same))
found_more S found records known many (inr more) = more.1

-- a site without tables is down
pub down_of : (site : Option Tables) (S : Standing) → IsState S site → is_some site ≡ false → S.up ≡ false
down_of None S state none = state
down_of (Some t) S state none = absurd cc

pub state_of : (site : Option Tables) (S T : Standing) → is_some site ≡ false → T.up ≡ false → IsState T site
state_of None S T none down = down
state_of (Some t) S T none down = absurd cc

pub known_flying : (m : Machine) (S : Standing) (rec : Record) → HasStanding m S → S.flight ≡ Some rec
    → m.records ≡ length S.records
known_flying m S rec has flies = has.count (inr (subst (λ (f : Option Record). IsSome f) (sym flies) refl))

pub none_known : {P : Type 0} (T : Standing) → T.up ≡ false → T.flight ≡ None → (T.up ≡ true) ⊎ IsSome T.flight → P
none_known T down none (inl up) = no_up T.up down up
none_known T down none (inr flies) =
    absurd (let gone = subst (λ (f : Option Record). IsSome f) none flies in cc)

pub settles_found : (m : Machine) (S : Standing) (found : ℕ) (kept : Option Record) (rec : Record) → kept ≡ Some rec
    → IsFound S Restart rec → HasStanding m (settled m.catalog m.id (Some rec) S) → found ≡ length S.records + 1
    → m.records ≡ found → Settles S found kept m
settles_found m S found kept rec is is_found stands count counted =
    subst (λ (k : Option Record). Settles S found k m) (sym is) (record {
      is_found = is_found;
      stands = stands;
      count = count ∙ sym (length-append S.records (rec ∷ []));
      counted = counted;
    })

-- ---- the record found no place

pub overflow_comes : (catalog : Catalog) (layout : Layout) (i : SiteId) (site : Option Tables) (S : Standing) (event : Event)
    (ready : Ready) (need left : ℕ) → IsReadyFor (header_of layout) catalog i site S event ready → IsSome (rec_in ready)
    → IfSome (rec_in ready) (λ rec. (need ≡ need_in layout S rec) × (left ≡ left_behind layout S) × (left < need))
    → Comes catalog layout i S event (only (fullness event need left))
overflow_comes catalog layout i site S event ready need left is some much = by (rec_in ready) refl some much
  where
    by : (o : Option Record) → rec_in ready ≡ o → IsSome o
        → IfSome o (λ rec. (need ≡ need_in layout S rec) × (left ≡ left_behind layout S) × (left < need))
        → Comes catalog layout i S event (only (fullness event need left))
    by None none some much = absurd cc
    by (Some rec) here some much =
        Comes.full rec (sym (ap (λ (x : Expected). x.wrote) is.rule) ∙ here)
        (subst (λ (n : ℕ). left_behind layout S < n) much.0 (subst (λ (n : ℕ). n < need) much.1 much.2))
        (record {
          outcome_is = λ j. fullness event (much.0 j) (much.1 j);
          wrote = refl;
          flight_is = refl;
          sends = refl;
          dropped = refl;
        })

pub filled_standing : (old new : Machine) (S : Standing) (event : Event) (came : Came) (need left : ℕ)
    → came ≡ only (fullness event need left) → HasStanding old S
    → IsFilled old.catalog old.id old.site S (stands_after old.catalog old.id S event (only (fullness event need left)))
    → new.catalog ≡ old.catalog → new.id ≡ old.id → new.site ≡ old.site → new.flight ≡ None → new.records ≡ old.records
    → new.debts ≡ old.debts → new.lost ≡ old.lost
    → HasStanding new (stands_after old.catalog old.id S event came)
filled_standing old new S event came need left is has filled catalog id site flight records debts lost =
    subst (λ (x : Came). HasStanding new (stands_after old.catalog old.id S event x)) (sym is) (record {
      state = subst (λ (t : Option Tables). IsState T t) (sym site) filled.state;
      told = subst (λ (c : Catalog). AreTold c new.id T) (sym catalog)
          (subst (λ (k : SiteId). AreTold old.catalog k T) (sym id) filled.told_all);
      flight = flight ∙ sym filled.flight;
      count = λ which. records ∙ has.count (inl (up_by which));
      owed = λ client. filled.gone client ∙ (has.owed client
          ∙ (λ j. owed_by (sym debts j).entries (sym lost j) client));
    })
  where
    T : Standing
    T = stands_after old.catalog old.id S event (only (fullness event need left))

    up_by : (T.up ≡ true) ⊎ IsSome T.flight → S.up ≡ true
    up_by (inl up) = filled.up up
    up_by (inr flies) = absurd (let gone = subst (λ (f : Option Record). IsSome f) filled.flight flies in cc)

-- ---- the record is kept

pub keep_comes : (catalog : Catalog) (layout : Layout) (i : SiteId) (site : Option Tables) (S : Standing) (event : Event)
    (ready : Ready) → IsReadyFor (header_of layout) catalog i site S event ready
    → IfSome (rec_in ready) (FitsIn layout S)
    → Comes catalog layout i S event (came_in ready)
keep_comes catalog layout i site S event ready is fits =
    Comes.ruled (subst (λ (x : Expected). IfSome x.wrote (FitsIn layout S)) is.rule fits) (record {
      outcome = ap (λ (x : Expected). x.outcome) is.rule;
      wrote = ap (λ (x : Expected). x.wrote) is.rule;
      flight = refl;
      sends = subst (λ (x : Expected). IsPutOut S.carried x.sends (sends_of (step_in ready)) 0) is.rule
          (put_all S.carried (sends_of (step_in ready)));
    })

pub came_made : (came : Came) (outcome : Outcome) (wrote : Option Record) (sends : List Send) (step : Step)
    → IsOutcomeAlone came → outcome ≡ outcome_of step → wrote ≡ record_of step → sends ≡ sends_of step
    → record came { outcome = outcome; wrote = wrote; sends = sends } ≡ came_of step
came_made came outcome wrote sends step alone outcome_is wrote_is sends_is =
    λ j. record (alone j) { outcome = outcome_is j; wrote = wrote_is j; sends = sends_is j }

-- an outcome in the place of another one
pub only_made : (came : Came) (outcome made : Outcome) → IsOutcomeAlone came → outcome ≡ made
    → record came { outcome = outcome } ≡ only made
only_made came outcome made alone is = λ j. record (alone j) { outcome = is j }

-- what is in flight behind a step can be recorded, where it could before
pub flight_sized : (P : Record → Type 0) (wrote flight : Option Record) → IfSome flight P → IfSome (flight_behind wrote flight) P
flight_sized P None flight is = is
flight_sized P (Some rec) flight is = tt

-- how many records there are behind a step
step_count : (catalog : Catalog) (i : SiteId) (site : Option Tables) (S : Standing) (event : Event) (step : Step)
    (records : ℕ) → IsState S site → IsStep catalog i site S event step
    → ((S.up ≡ true) ⊎ IsSome S.flight → records ≡ length S.records)
    → IfSome (record_of step) (λ rec. records ≡ length S.records)
    → ((stands_after catalog i S event (came_of step)).up ≡ true)
    ⊎ IsSome (stands_after catalog i S event (came_of step)).flight
    → records_behind (record_of step) records ≡ length (stands_after catalog i S event (came_of step)).records
step_count catalog i site S event (Answer outcome) records state is known counted which = known (by which)
  where
    by : ((stands_after catalog i S event (came_of (Answer outcome))).up ≡ true)
        ⊎ IsSome (stands_after catalog i S event (came_of (Answer outcome))).flight → (S.up ≡ true) ⊎ IsSome S.flight
    by (inl up) = inl (sym (still_up catalog i S event outcome is) ∙ up)
    by (inr flies) = inr (subst (λ (f : Option Record). IsSome f) is.flies flies)
step_count catalog i None S event (Apply plan) records state is known counted which = absurd is
step_count catalog i (Some t) S event (Apply plan) records state is known counted which =
    by plan.planned.rec
  where
    by : (o : Option Record) → records_behind o records ≡ length (records_after o S.records)
    by None = known (inl state.up)
    by (Some rec) = ap (λ (n : ℕ). n + 1) (known (inl state.up)) ∙ sym (length-append S.records (rec ∷ []))
step_count catalog i None S event Fall records state is known counted which = absurd is
step_count catalog i (Some t) S event Fall records state is known counted which = known (inl state.up)
step_count catalog i site S event (Rise tables epoch) records state is known counted which =
    ap (λ (n : ℕ). n + 1) counted ∙ sym (length-append S.records (Boot epoch ∷ []))

counted_if : (m : Machine) (S : Standing) (wrote : Option Record) → IsCounted m S wrote
    → IfSome wrote (λ rec. m.records ≡ length S.records)
counted_if m S None counted = tt
counted_if m S (Some rec) counted = counted

pub kept_standing : (header : Format) (old new : Machine) (S : Standing) (event : Event) (ready : Ready) (came : Came)
    (outcome : Outcome) → came ≡ came_in ready → HasStanding old S → IsCounted old S (rec_in ready)
    → IsReadyFor header old.catalog old.id old.site S event ready → is_some old.lost ≡ false
    → Steps old.catalog old.id S event (came_in ready) new.site new.lost
    → new.catalog ≡ old.catalog → new.id ≡ old.id
    → new.flight ≡ flight_behind (rec_in ready) old.flight → new.records ≡ records_behind (rec_in ready) old.records
    → outcome ≡ outcome_of (step_in ready)
    → ((client : ℕ) → of_client client new.debts.entries
    ≡ told event outcome (λ c. of_client c old.debts.entries) client)
    → HasStanding new (stands_after old.catalog old.id S event came)
kept_standing header old new S event ready came outcome is has counted ready_for unlost steps catalog id flight records outcome_is forgiven =
    subst (λ (x : Came). HasStanding new (stands_after old.catalog old.id S event x)) (sym is) (record {
      state = steps.state;
      told = subst (λ (c : Catalog). AreTold c new.id T) (sym catalog)
          (subst (λ (k : SiteId). AreTold old.catalog k T) (sym id)
          (step_told old.catalog old.id old.site S event (step_in ready) has.state ready_for.step ready_for.next has.told));
      flight = flight ∙ (ap (flight_behind (rec_in ready)) has.flight
          ∙ step_flight old.catalog old.id old.site S event (step_in ready) has.state ready_for.step);
      count = λ which. records ∙ step_count old.catalog old.id old.site S event (step_in ready) old.records has.state
          ready_for.step has.count (counted_if old S (rec_in ready) counted) which;
      owed = λ client. steps.gone client ∙ ap (owed (session_in client (sessions_lost new.lost))) (
          told_so event (outcome_of (step_in ready)) S.gone (λ c. of_client c old.debts.entries) client (λ c. has.owed c
          ∙ ap (λ (l : Option Table). owed_by old.debts.entries l c) (lost_none old.lost unlost))
          ∙ (ap (λ (o : Outcome). told event o (λ c. of_client c old.debts.entries) client) (sym outcome_is)
          ∙ sym (forgiven client)));
    })
  where
    T : Standing
    T = stands_after old.catalog old.id S event (came_in ready)

-- ---- the record met a fault

pub fail_comes : (catalog : Catalog) (layout : Layout) (i : SiteId) (site : Option Tables) (S : Standing) (event : Event)
    (ready : Ready) (rec : Record) (came : Came) → rec_in ready ≡ Some rec → came ≡ fault_of event rec
    → IsReadyFor (header_of layout) catalog i site S event ready → IfSome (rec_in ready) (FitsIn layout S)
    → Comes catalog layout i S event came
fail_comes catalog layout i site S event ready rec came here is ready_for fits =
    subst (λ (x : Came). Comes catalog layout i S event x) (sym is)
    (Comes.met_fault rec (sym (ap (λ (x : Expected). x.wrote) ready_for.rule) ∙ here)
    (some_at (FitsIn layout S) (rec_in ready) rec here fits)
    (record { outcome_is = refl; wrote = refl; flight_is = refl; sends = refl; dropped = refl }))

-- a record comes to a site that is down where it restarts
down_restarts : (catalog : Catalog) (i : SiteId) (site : Option Tables) (S : Standing) (event : Event) (step : Step)
    → site ≡ None → IsStep catalog i site S event step → IsSome (record_of step) → event ≡ Restart
down_restarts catalog i site S event (Answer outcome) none is some = absurd cc
down_restarts catalog i None S event (Apply plan) none is some = absurd is
down_restarts catalog i (Some t) S event (Apply plan) none is some = absurd cc
down_restarts catalog i site S event Fall none is some = absurd cc
down_restarts catalog i site S event (Rise tables epoch) none is some = is.restart

pub failed_standing_by : (header : Format) (old new : Machine) (S : Standing) (event : Event) (ready : Ready)
    (rec : Record) (came : Came) (outcome : Outcome) → rec_in ready ≡ Some rec → came ≡ fault_of event rec
    → HasStanding old S → IsCounted old S (rec_in ready)
    → IsReadyFor header old.catalog old.id old.site S event ready → is_some old.lost ≡ false
    → IfSome old.site (IsOf old.catalog old.id) → outcome ≡ failure event rec
    → ((K : Knowledge) → IfSome old.site (λ t. Knows t K → sessions_lost new.lost
    ≡ (after (catalog_of t) (site_of t) K event outcome None).sessions))
    → (old.site ≡ None → new.lost ≡ None)
    → new.catalog ≡ old.catalog → new.id ≡ old.id → new.site ≡ None → new.flight ≡ rec_in ready
    → new.records ≡ old.records → new.debts ≡ old.debts
    → HasStanding new (stands_after old.catalog old.id S event came)
failed_standing_by header old new S event ready rec came outcome here is has counted ready_for unlost of outcome_is loses none catalog id site flight records debts =
    subst (λ (x : Came). HasStanding new (stands_after old.catalog old.id S event x)) (sym is) (record {
      state = subst (λ (t : Option Tables). IsState T t) (sym site) (failing_up old.catalog old.id S event rec has.told next);
      told = subst (λ (c : Catalog). AreTold c new.id T) (sym catalog)
          (subst (λ (k : SiteId). AreTold old.catalog k T) (sym id) (failing_told old.catalog old.id S event rec has.told next));
      flight = flight ∙ here;
      count = λ which. records ∙ some_at (λ r. old.records ≡ length S.records) (rec_in ready) rec here
          (counted_if old S (rec_in ready) counted);
      owed = λ client. failing_gone old.catalog old.id S event rec has.told next client
          ∙ (ap (λ (all : Sessions). owed (session_in client all) (S.gone client)) (sym sessions)
          ∙ (ap (owed (session_in client (sessions_lost new.lost))) (has.owed client
          ∙ ap (λ (l : Option Table). owed_by old.debts.entries l client) (lost_none old.lost unlost))
          ∙ (λ j. owed (session_in client (sessions_lost new.lost)) (of_client client (sym debts j).entries))));
    })
  where
    T : Standing
    T = stands_after old.catalog old.id S event (fault_of event rec)

    next : CanBeNext old.catalog old.id S rec
    next = some_at (CanBeNext old.catalog old.id S) (rec_in ready) rec here ready_for.next

    closed : S.up ≡ false → event ≡ Restart → (after old.catalog old.id S.knows event (failure event rec) None).sessions ≡ []
    closed down restart =
        ap (λ (e : Event). (after old.catalog old.id S.knows e (failure e rec) None).sessions) restart
        ∙ none_open old.catalog old.id S has.told down

    by : (o : Option Tables) → old.site ≡ o → IsState S o → IfSome o (IsOf old.catalog old.id)
        → IfSome o (λ t. Knows t S.knows → sessions_lost new.lost
        ≡ (after (catalog_of t) (site_of t) S.knows event outcome None).sessions)
        → sessions_lost new.lost ≡ (after old.catalog old.id S.knows event (failure event rec) None).sessions
    by None at down of loses =
        ap sessions_lost (none at)
        ∙ sym (closed down (down_restarts old.catalog old.id old.site S event (step_in ready) at ready_for.step
        (subst (λ (o : Option Record). IsSome o) (sym here) refl)))
    by (Some t) at up of loses =
        loses up.knows ∙ (λ j. (after (of.1 j) (of.0 j) S.knows event (outcome_is j) None).sessions)

    sessions : sessions_lost new.lost ≡ (after old.catalog old.id S.knows event (failure event rec) None).sessions
    sessions = by old.site refl has.state of (loses S.knows)

pub fault_made : (came : Came) (outcome : Outcome) (flight : Option Record) (event : Event) (rec : Record)
    → IsOutcomeAlone came → outcome ≡ failure event rec → flight ≡ Some rec
    → record came { outcome = outcome; flight = flight } ≡ fault_of event rec
fault_made came outcome flight event rec alone outcome_is flight_is =
    λ j. record (alone j) { outcome = outcome_is j; flight = flight_is j }

-- what can be the next is of a site among so many
pub next_recorded : (catalog : Catalog) (i : SiteId) (S : Standing) (o : Option Record) → IfSome o (CanBeNext catalog i S)
    → IfSome o (IsRecordAmong catalog.sites)
next_recorded catalog i S None next = tt
next_recorded catalog i S (Some rec) next = next.sizes
