-- How a site stands behind a step, behind a fault, and behind what came to nothing.
use Rattle.std.specs.Global.{Box}
use Rattle.std.proofs.Common.{◌≡◌, ◌∙◌, ℕ, Bool, true, false, Option, Some, None, refl, sym, ap, subst, if◌then◌else◌}
use Rattle.std.specs.Prelude.{IfSome, is_some}
use Rattle.walter_base.specs.declared.catalog.Catalog.{Catalog}
use Rattle.walter_base.specs.declared.format.Format.{Format}
use Rattle.walter_base.specs.declared.message.Record.{Record}
use Rattle.walter_base.specs.declared.names.SiteId.{SiteId}
use Rattle.walter_machine.specs.Steps.{Answer, Apply, Fall, Rise, came_of, IsIdle, IsPlan, IsPlanOf, IsRise, IsStop, IsKnownBy, Steps}
use Rattle.walter_machine.specs.Debts.{sessions_lost}
use Rattle.walter_machine.specs.States.{IsOf, IsState}
use Rattle.walter_rules.specs.declared.entry.Came.{Came}
use Rattle.walter_rules.specs.declared.event.Event.{Event}
use Rattle.walter_rules.specs.declared.event.Event.TheVariants.{Given, Stop, Restart}
use Rattle.walter_rules.specs.declared.event.Input.{Input}
use Rattle.walter_rules.specs.declared.event.Input.TheVariants.{Tick}
use Rattle.walter_rules.specs.declared.outcome.Outcome.{Outcome}
use Rattle.walter_rules.specs.declared.outcome.Outcome.TheVariants.{Taken, Full}
use Rattle.walter_rules.specs.Calls.{Expected}
use Rattle.walter_rules.specs.Knowledge.{Knowledge}
use Rattle.walter_rules.specs.Learning.{after, lost}
use Rattle.walter_rules.specs.Sessions.{Sessions, session_in}
use Rattle.walter_rules.specs.Standing.{Standing, stands_after, up_after, goes_down, comes_up, flight_after, owed, told}
use Rattle.walter_rules.proofs.Staying.{rule_stays}
use Rattle.walter_session.specs.Sessions.{Table}
use Rattle.walter_site.specs.declared.plan.Plan.{Plan}
use Rattle.walter_site.specs.Members.{Knows, input_rule, up_with}
use Rattle.walter_site.proofs.Booted.{knows_booted}
use Rattle.walter_tables.specs.declared.tables.Tables.{Tables}
use Rattle.walter_tables.specs.Planning.{expected_of}
use Rattle.walter_tables.specs.Sites.{site_of, catalog_of}

-- where none was in flight, none is that wasn't put there
pub none_flies : (wrote : Option Record) (outcome : Outcome) → flight_after None wrote outcome None ≡ None
none_flies (Some rec) outcome = refl
none_flies None (Full need left) = refl
none_flies None outcome = refl

-- ---- by the outcome

module _ (catalog : Catalog) (i : SiteId) (S : Standing) (event : Event) (came : Came) where
  abbrev pub Behind : Standing
  Behind = stands_after catalog i S event came

  abbrev pub Knows_behind : Knowledge
  Knows_behind = after catalog i S.knows event came.outcome came.wrote

  -- what doesn't bring the site down leaves it what it knew, and tells who is to be told
  pub stays_knows : goes_down event came.outcome ≡ false → Behind.knows ≡ Knows_behind
  stays_knows stays = ap (λ (b : Bool). if b then lost Knows_behind else Knows_behind) stays

  pub stays_gone : goes_down event came.outcome ≡ false → (client : ℕ)
      → Behind.gone client ≡ told event came.outcome S.gone client
  stays_gone stays client =
      ap (λ (b : Bool). if b then owed (session_in client Knows_behind.sessions) (S.gone client)
      else told event came.outcome S.gone client) stays

  -- and where it doesn't bring it up either, it is as it was
  pub stays_up : goes_down event came.outcome ≡ false → comes_up event came.outcome ≡ false → Behind.up ≡ S.up
  stays_up stays rests =
      ap (λ (b : Bool). if b then false else if comes_up event came.outcome then true else S.up) stays
      ∙ ap (λ (b : Bool). if b then true else S.up) rests

  -- what brings it down leaves what its records tell, and each whose session it loses is owed the news
  pub falls_up : goes_down event came.outcome ≡ true → Behind.up ≡ false
  falls_up falls = ap (λ (b : Bool). if b then false else if comes_up event came.outcome then true else S.up) falls

  pub falls_knows : goes_down event came.outcome ≡ true → Behind.knows ≡ lost Knows_behind
  falls_knows falls = ap (λ (b : Bool). if b then lost Knows_behind else Knows_behind) falls

  pub falls_gone : goes_down event came.outcome ≡ true → (client : ℕ)
      → Behind.gone client ≡ owed (session_in client Knows_behind.sessions) (S.gone client)
  falls_gone falls client =
      ap (λ (b : Bool). if b then owed (session_in client Knows_behind.sessions) (S.gone client)
      else told event came.outcome S.gone client) falls

-- ---- by the step

-- the answer changes nothing
pub idle_steps : (catalog : Catalog) (i : SiteId) (S : Standing) (event : Event) (outcome : Outcome)
    (site : Option Tables) → IsState S site → IsIdle catalog i S event outcome
    → Steps catalog i S event (came_of (Answer outcome)) site None
idle_steps catalog i S event outcome site state idle = record {
  state = by site state;
  gone = λ client. stays_gone catalog i S event (came_of (Answer outcome)) idle.stays client;
}
  where
    came : Came
    came = came_of (Answer outcome)

    by : (t : Option Tables) → IsState S t → IsState (stands_after catalog i S event came) t
    by None down = stays_up catalog i S event came idle.stays idle.rests ∙ down
    by (Some t) up = record {
      up = stays_up catalog i S event came idle.stays idle.rests ∙ up.up;
      knows = subst (λ (K : Knowledge). Knows t K) (sym (stays_knows catalog i S event came idle.stays ∙ idle.knows)) up.knows;
      settled = idle.flies ∙ up.settled;
    }

-- the plan of the rule doesn't bring the site down
pub plan_stays : (tables : Tables) (K : Knowledge) (input : Input) (plan : Plan) → IsPlanOf tables K input plan
    → goes_down (Given input) plan.planned.outcome ≡ false
plan_stays tables K input plan is =
    subst (λ (x : Expected). goes_down (Given input) x.outcome ≡ false) (sym is.rule)
    (rule_stays (catalog_of tables) (site_of tables) (up_with K) is.header input)

-- a plan was applied
pub plan_steps : (catalog : Catalog) (i : SiteId) (S : Standing) (event : Event) (plan : Plan) (old new : Option Tables)
    → IfSome old (IsOf catalog i) → IsState S old → IsPlan old S event plan
    → IfSome old (λ t. IsKnownBy new (after (catalog_of t) (site_of t) S.knows event plan.planned.outcome plan.planned.rec))
    → Steps catalog i S event (came_of (Apply plan)) new None
plan_steps catalog i S event plan None new of state is knows = absurd is
plan_steps catalog i S (Given input) plan (Some t) None of state is knows = absurd knows
plan_steps catalog i S (Given input) plan (Some t) (Some n) of state is knows = record {
  state = record {
    up = stays_up catalog i S (Given input) came stays refl ∙ state.up;
    knows = subst (λ (K : Knowledge). Knows n K) (sym (stays_knows catalog i S (Given input) came stays)) here;
    settled = ap (flight_after None plan.planned.rec plan.planned.outcome) state.settled
        ∙ none_flies plan.planned.rec plan.planned.outcome;
  };
  gone = λ client. stays_gone catalog i S (Given input) came stays client;
}
  where
    came : Came
    came = came_of (Apply plan)

    stays : goes_down (Given input) plan.planned.outcome ≡ false
    stays = plan_stays t S.knows input plan is

    here : Knows n (after catalog i S.knows (Given input) plan.planned.outcome plan.planned.rec)
    here =
        subst (λ (k : SiteId). Knows n (after catalog k S.knows (Given input) plan.planned.outcome plan.planned.rec)) of.0
        (subst (λ (c : Catalog). Knows n (after c (site_of t) S.knows (Given input) plan.planned.outcome plan.planned.rec)) of.1
        knows)
plan_steps catalog i S Stop plan (Some t) new of state is knows = absurd is
plan_steps catalog i S Restart plan (Some t) new of state is knows = absurd is

-- a site was stopped
pub fall_steps : (catalog : Catalog) (i : SiteId) (S : Standing) (event : Event) (site : Option Tables) (lost : Option Table)
    → IsState S site → IsStop site event → IfSome site (λ t. Knows t S.knows → sessions_lost lost ≡ S.knows.sessions)
    → Steps catalog i S event (came_of Fall) None lost
fall_steps catalog i S event None lost state is same = absurd is
fall_steps catalog i S event (Some t) lost state is same =
    subst (λ (e : Event). Steps catalog i S e (came_of Fall) None lost) (sym is) (record {
      state = refl;
      gone = λ client. ap (λ (all : Sessions). owed (session_in client all) (S.gone client)) (sym (same state.knows));
    })

-- a site came up
pub rise_steps : (catalog : Catalog) (i : SiteId) (site : Option Tables) (S : Standing) (event : Event) (tables : Box Tables)
    (epoch : ℕ) → IsRise catalog i site S event tables.value epoch
    → Steps catalog i S event (came_of (Rise tables epoch)) (Some tables.value) None
rise_steps catalog i site S event tables epoch is =
    subst (λ (e : Event). Steps catalog i S e (came_of (Rise tables epoch)) (Some tables.value) None) (sym is.restart) (record {
      state = record {
        up = refl;
        knows = knows_booted catalog i tables.value S.knows epoch is.next is.stands;
        settled = refl;
      };
      gone = λ client. refl;
    })

-- what applying a plan leaves of the site that it is of
pub applied_knows : (old : Option Tables) (event : Event) (S : Standing) (plan : Plan) (t new : Tables) (input : Input)
    → old ≡ Some t → event ≡ Given input
    → ((header : Format) (K : Knowledge) → Knows t K
    → expected_of plan.planned ≡ input_rule header (catalog_of t) (site_of t) K input
    → Knows new (after (catalog_of t) (site_of t) K (Given input) plan.planned.outcome plan.planned.rec))
    → IsPlan old S event plan
    → IfSome old (λ t. IsKnownBy (Some new) (after (catalog_of t) (site_of t) S.knows event plan.planned.outcome plan.planned.rec))
applied_knows old event S plan t new input site_is event_is applies =
    let P : Option Tables → Event → Type 0 = λ o e. IsPlan o S e plan
    → IfSome o (λ t. IsKnownBy (Some new) (after (catalog_of t) (site_of t) S.knows e plan.planned.outcome plan.planned.rec)) in
    subst (λ (o : Option Tables). P o event) (sym site_is)
    (subst (λ (e : Event). P (Some t) e) (sym event_is) (λ is. applies is.header S.knows is.knows is.rule))

-- it is the same site
pub applied_of : (old : Option Tables) (t new : Tables) (catalog : Catalog) (i : SiteId) → old ≡ Some t
    → site_of new ≡ site_of t → catalog_of new ≡ catalog_of t → IfSome old (IsOf catalog i) → IsOf catalog i new
applied_of old t new catalog i site_is site catalog_is of =
    let here = subst (λ (o : Option Tables). IfSome o (IsOf catalog i)) site_is of in
    (site ∙ here.0, catalog_is ∙ here.1)

-- ---- whether it is up

pub idle_up : (catalog : Catalog) (i : SiteId) (S : Standing) (event : Event) (outcome : Outcome) (up : Bool)
    → IsIdle catalog i S event outcome → up ≡ up_after event outcome up
idle_up catalog i S event outcome up idle =
    sym (ap (λ (b : Bool). if b then false else if comes_up event outcome then true else up) idle.stays
    ∙ ap (λ (b : Bool). if b then true else up) idle.rests)

pub plan_up : (old new : Option Tables) (S : Standing) (event : Event) (plan : Plan) → IsPlan old S event plan
    → IfSome old (λ t. IsKnownBy new (after (catalog_of t) (site_of t) S.knows event plan.planned.outcome plan.planned.rec))
    → is_some new ≡ up_after event plan.planned.outcome (is_some old)
plan_up None new S event plan is knows = absurd is
plan_up (Some t) None S event plan is knows = absurd knows
plan_up (Some t) (Some n) S (Given input) plan is knows =
    sym (ap (λ (b : Bool). if b then false else true) (plan_stays t S.knows input plan is))
plan_up (Some t) (Some n) S Stop plan is knows = absurd is
plan_up (Some t) (Some n) S Restart plan is knows = absurd is

pub rise_up : (catalog : Catalog) (i : SiteId) (old : Option Tables) (S : Standing) (event : Event) (tables : Tables)
    (epoch : ℕ) → IsRise catalog i old S event tables epoch → true ≡ up_after event Taken (is_some old)
rise_up catalog i old S event tables epoch is = ap (λ (e : Event). up_after e Taken (is_some old)) (sym is.restart)

-- ---- a tick

pub no_stop_at_tick : (site : Option Tables) (event : Event) → IsStop site event → event ≡ Given Tick → ⊥
no_stop_at_tick None event is tick = is
no_stop_at_tick (Some t) event is tick = let e : Stop ≡ Given Tick = sym is ∙ tick in cc

pub no_rise_at_tick : (catalog : Catalog) (i : SiteId) (site : Option Tables) (S : Standing) (event : Event) (tables : Tables)
    (epoch : ℕ) → IsRise catalog i site S event tables epoch → event ≡ Given Tick → ⊥
no_rise_at_tick catalog i site S event tables epoch is tick = let e : Restart ≡ Given Tick = sym is.restart ∙ tick in cc
