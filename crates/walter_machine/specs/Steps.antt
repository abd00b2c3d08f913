-- What an event does to a site, and what it leaves of it.
use Rattle.std.specs.Prelude.{◌≡◌, ◌+◌, ℕ, false, List, [], Option, Some, None, IfSome}
use Rattle.std.specs.Global.{Box}
use Rattle.walter_base.specs.declared.catalog.Catalog.{Catalog}
use Rattle.walter_base.specs.declared.format.Format.{Format}
use Rattle.walter_base.specs.declared.message.Record.{Record}
use Rattle.walter_base.specs.declared.message.Record.TheVariants.{Boot}
use Rattle.walter_base.specs.declared.names.SiteId.{SiteId}
use Rattle.walter_machine.specs.declared.ready.Kind.{Kind}
use Rattle.walter_machine.specs.declared.ready.Kind.TheVariants as kind
use Rattle.walter_machine.specs.Debts.{sessions_lost}
use Rattle.walter_machine.specs.States.{IsOf, IsState}
use Rattle.walter_rules.specs.declared.entry.Came.{Came}
use Rattle.walter_rules.specs.declared.event.Event.{Event}
use Rattle.walter_rules.specs.declared.event.Event.TheVariants.{Given, Stop, Restart}
use Rattle.walter_rules.specs.declared.event.Input.{Input}
use Rattle.walter_rules.specs.declared.outcome.Outcome.{Outcome}
use Rattle.walter_rules.specs.declared.outcome.Outcome.TheVariants.{Taken}
use Rattle.walter_rules.specs.Calls.{Expected}
use Rattle.walter_rules.specs.Knowledge.{Knowledge}
use Rattle.walter_rules.specs.Learning.{after, recorded}
use Rattle.walter_rules.specs.Records.{IsRecordAmong}
use Rattle.walter_rules.specs.Sending.{Send}
use Rattle.walter_rules.specs.Sessions.{session_in}
use Rattle.walter_rules.specs.Standing.{Standing, goes_down, comes_up, flight_after, owed, told, stands_after}
use Rattle.walter_session.specs.Sessions.{Table}
use Rattle.walter_site.specs.declared.plan.Plan.{Plan}
use Rattle.walter_site.specs.Members.{Knows, input_rule}
use Rattle.walter_site.specs.Plans.{IsReady}
use Rattle.walter_tables.specs.declared.tables.Tables.{Tables}
use Rattle.walter_tables.specs.Planning.{expected_of}
use Rattle.walter_tables.specs.Sites.{site_of, catalog_of, Stands}

-- it is answered, and what the site knows stays; or the plan of an input is applied; or the site goes down; or it comes
-- up in this epoch, with these tables behind its Boot
pub data Step : Type 0 where
  Answer : Outcome → Step
  Apply : Plan → Step
  Fall : Step
  Rise : Box Tables → (epoch : ℕ) → Step

-- what is of this kind, by this plan
abbrev pub step_by : Kind → Plan → Step
step_by kind.Answer plan = Answer plan.planned.outcome
step_by kind.Apply plan = Apply plan
step_by kind.Fall plan = Fall
step_by (kind.Rise tables epoch) plan = Rise tables epoch

-- ---- what it comes to

-- the record that is to be stable first
abbrev pub record_of : Step → Option Record
record_of (Answer outcome) = None
record_of (Apply plan) = plan.planned.rec
record_of Fall = None
record_of (Rise tables epoch) = Some (Boot epoch)

abbrev pub outcome_of : Step → Outcome
outcome_of (Answer outcome) = outcome
outcome_of (Apply plan) = plan.planned.outcome
outcome_of Fall = Taken
outcome_of (Rise tables epoch) = Taken

abbrev pub sends_of : Step → List Send
sends_of (Answer outcome) = []
sends_of (Apply plan) = plan.planned.sends
sends_of Fall = []
sends_of (Rise tables epoch) = []

abbrev pub expected_by : Step → Expected
expected_by step = record { wrote = record_of step; outcome = outcome_of step; sends = sends_of step }

-- what it comes to where its record is kept
abbrev pub came_of : Step → Came
came_of step = record {
  outcome = outcome_of step;
  kept = None;
  wrote = record_of step;
  flight = None;
  sends = sends_of step;
  dropped = 0;
}

-- ---- what it does

-- the answer changes nothing that the site knows
pub record IsIdle (catalog : Catalog) (i : SiteId) (S : Standing) (event : Event) (outcome : Outcome) : Type 0 where
  pub stays : goes_down event outcome ≡ false
  pub rests : comes_up event outcome ≡ false
  pub knows : after catalog i S.knows event outcome None ≡ S.knows
  pub flies : flight_after None None outcome S.flight ≡ S.flight

-- the plan of the rule for an input, over a journal with some header, which the tables of a site that knows this have
-- made ready for
pub record IsPlanOf (tables : Tables) (K : Knowledge) (input : Input) (plan : Plan) : Type 0 where
  pub header : Format
  pub knows : Knows tables K
  pub rule : expected_of plan.planned ≡ input_rule header (catalog_of tables) (site_of tables) K input
  pub ready : IsReady tables input plan
  pub sizes : IfSome plan.planned.rec (IsRecordAmong (catalog_of tables).sites)

abbrev pub IsPlan : Option Tables → Standing → Event → Plan → Type 0
IsPlan None S event plan = ⊥
IsPlan (Some tables) S (Given input) plan = IsPlanOf tables S.knows input plan
IsPlan (Some tables) S Stop plan = ⊥
IsPlan (Some tables) S Restart plan = ⊥

-- a site that is up is stopped
abbrev pub IsStop : Option Tables → Event → Type 0
IsStop None event = ⊥
IsStop (Some tables) event = event ≡ Stop

-- a site that is down restarts, and these are its tables behind the Boot of its next epoch
pub record IsRise (catalog : Catalog) (i : SiteId) (site : Option Tables) (S : Standing) (event : Event)
    (tables : Tables) (epoch : ℕ) : Type 0 where
  pub down : site ≡ None
  pub restart : event ≡ Restart
  pub next : epoch ≡ S.knows.epoch + 1
  pub of : IsOf catalog i tables
  pub stands : Stands tables (recorded catalog i (Some (Boot epoch)) S.knows)

abbrev pub IsStep : Catalog → SiteId → Option Tables → Standing → Event → Step → Type 0
IsStep catalog i site S event (Answer outcome) = IsIdle catalog i S event outcome
IsStep catalog i site S event (Apply plan) = IsPlan site S event plan
IsStep catalog i site S event Fall = IsStop site event
IsStep catalog i site S event (Rise tables epoch) = IsRise catalog i site S event tables.value epoch

-- some site stood so that the step can follow
pub record CanStep (site : Option Tables) (event : Event) (step : Step) : Type 0 where
  pub catalog : Catalog
  pub i : SiteId
  pub S : Standing
  pub of : IfSome site (IsOf catalog i)
  pub is : IsStep catalog i site S event step

-- ---- what it leaves

-- The site is as it stands behind the step; and each whose session it lost is owed the news, where none had been lost
-- before.
pub record Steps (catalog : Catalog) (i : SiteId) (S : Standing) (event : Event) (came : Came) (site : Option Tables)
    (lost : Option Table) : Type 0 where
  pub state : IsState (stands_after catalog i S event came) site
  pub gone : (client : ℕ) → (stands_after catalog i S event came).gone client
      ≡ owed (session_in client (sessions_lost lost)) (told event came.outcome S.gone client)

-- how many records there are where this one was written, if any
abbrev pub records_behind : Option Record → ℕ → ℕ
records_behind None records = records
records_behind (Some rec) records = records + 1

-- and the one in flight: none where one was written
abbrev pub flight_behind : Option Record → Option Record → Option Record
flight_behind None flight = flight
flight_behind (Some rec) flight = None

-- the tables of a site that knows this
abbrev pub IsKnownBy : Option Tables → Knowledge → Type 0
IsKnownBy None K = ⊥
IsKnownBy (Some tables) K = Knows tables K
