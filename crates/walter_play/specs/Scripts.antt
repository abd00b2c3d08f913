-- How a scenario is played: by its steps, in order (docs/FORMATS.md, "Scenarios").
use Rattle.std.specs.Prelude.{◌≡◌, ℕ, nat_eq, length, List, [], ◌∷◌, ◌++◌, map, set, slice_get, filter_map, flat_map, Option, Some, None, option_map, if◌then◌else◌}
use Rattle.walter_base.specs.declared.names.SiteId.{SiteId}
use Rattle.walter_cell.specs.declared.answers.Acted.{Acted}
use Rattle.walter_cell.specs.declared.answers.Moved.{Moved}
use Rattle.walter_cell.specs.declared.answers.Pumped.{Pumped}
use Rattle.walter_cell.specs.declared.answers.Serve.{Serve}
use Rattle.walter_cell.specs.Cells.{CellValue}
use Rattle.walter_cluster.specs.Moments.{Moment, moment_of, IsFirst, CallsAt, DropsAt, TurnsAt, ActsAt, MovesAt, ArmsAt}
use Rattle.walter_cluster.specs.Pumps.{PumpsAt, new_pumps}
use Rattle.walter_link.specs.Pumps.{PumpValue}
use Rattle.walter_rules.specs.declared.entry.Entry.{Entry}
use Rattle.walter_rules.specs.declared.event.Event.{Event}
use Rattle.walter_rules.specs.declared.event.Event.TheVariants as event
use Rattle.walter_rules.specs.declared.event.Input.TheVariants as input
use Rattle.walter_disk.specs.Disks.{Arming, asked}
use Rattle.walter_disk.specs.declared.disk.Disk.{Ghosts}
use Rattle.walter_scenario.specs.declared.scenario.Arm.{Arm}
use Rattle.walter_scenario.specs.declared.scenario.Client.{Client}
use Rattle.walter_scenario.specs.declared.scenario.Scenario.{Scenario}
use Rattle.walter_scenario.specs.declared.scenario.Step.{Step}
use Rattle.walter_scenario.specs.declared.scenario.Step.TheVariants as step

-- what the trails are at a moment, and what waits at each site that is pumped
pub record Scene : Type 0 where
  pub moment : Moment
  pub pumps : List PumpValue

abbrev pub scene_of : {D : Type 0} → Ghosts D → List (CellValue D) → List PumpValue → Scene
scene_of g cells pumps = record { moment = moment_of g cells; pumps = pumps }

-- before the first step: the sites have their openings, and nothing waits
pub record IsFirstScene (t : Scenario) (scene : Scene) : Type 0 where
  pub moment : IsFirst t.catalog.sites scene.moment
  pub pumps : scene.pumps ≡ new_pumps t

-- ---- steps. Of a site that is told, that is whose disk tells what it holds, it is said what it drops, and how many calls it
-- makes of its disk.

-- an event that brings nothing comes to a site
pub record IsEventAt (told : ℕ → Type 0) (t : Scenario) (i : SiteId) (happens : Event) (old new : Moment) : Type 0 where
  pub answer : Acted
  pub acts : ActsAt i happens old new answer
  pub calls : told i.0 → CallsAt t.capacity t.catalog i old new
  pub drops : told i.0 → DropsAt t.catalog i old new

-- the turn of a client, whose connection doesn't fail
pub record IsTurn (told : ℕ → Type 0) (t : Scenario) (number : ℕ) (old new : Moment) : Type 0 where
  pub client : Client
  pub there : slice_get t.clients number ≡ Some client
  pub answer : Serve
  pub turns : TurnsAt client.site number client.bytes ⊥ old new answer
  pub calls : told client.site.0 → CallsAt t.capacity t.catalog client.site old new
  pub drops : told client.site.0 → DropsAt t.catalog client.site old new

-- the packet of a number comes to a site from another
pub record IsDelivery (told : ℕ → Type 0) (t : Scenario) (to from : SiteId) (number : ℕ)
    (old new : Moment) : Type 0 where
  pub answer : Moved
  pub moves : MovesAt to from number old new answer
  pub calls : told to.0 → CallsAt t.capacity t.catalog to old new
  pub drops : told to.0 → DropsAt t.catalog to old new

-- a site does what is next there, by what waits there and what has arrived
pub record IsPumping (told : ℕ → Type 0) (t : Scenario) (i : SiteId) (old new : Scene) : Type 0 where
  pub before : PumpValue
  pub after : PumpValue
  pub was : slice_get old.pumps i.0 ≡ Some before
  pub now : new.pumps ≡ set old.pumps i.0 after
  pub answer : Pumped
  pub pumps : PumpsAt (told i.0) t.catalog i old.moment new.moment before after answer
  pub calls : told i.0 → CallsAt t.capacity t.catalog i old.moment new.moment
  pub drops : told i.0 → DropsAt t.catalog i old.moment new.moment

-- what a step is but for a pump
abbrev pub TakesPlain : (told : ℕ → Type 0) → Scenario → Step → (old new : Moment) → Type 0
TakesPlain told t (step.Call number) old new = IsTurn told t number old new
TakesPlain told t (step.Deliver to from number) old new = IsDelivery told t to from number old new
TakesPlain told t (step.Advance at from) old new = IsEventAt told t at (event.Given (input.Advance from)) old new
TakesPlain told t (step.Tick site) old new = IsEventAt told t site (event.Given input.Tick) old new
TakesPlain told t (step.Upgrade site) old new = IsEventAt told t site (event.Given input.Upgrade) old new
TakesPlain told t (step.Stop site) old new = IsEventAt told t site event.Stop old new
TakesPlain told t (step.Restart site) old new = IsEventAt told t site event.Restart old new
TakesPlain told t (step.Pump site) old new = ⊥
TakesPlain told t (step.Arm arm) old new = ArmsAt arm.site arm.nth arm.choice old new

abbrev pub site_pumped : Step → Option SiteId
site_pumped (step.Call number) = None
site_pumped (step.Deliver to from number) = None
site_pumped (step.Advance at from) = None
site_pumped (step.Tick site) = None
site_pumped (step.Upgrade site) = None
site_pumped (step.Stop site) = None
site_pumped (step.Restart site) = None
site_pumped (step.Pump site) = Some site
site_pumped (step.Arm arm) = None

-- what a step is: a pump, or another, which leaves what waits
abbrev pub TakesAs : (told : ℕ → Type 0) → Scenario → Step → Option SiteId → (old new : Scene) → Type 0
TakesAs told t one (Some site) old new = IsPumping told t site old new
TakesAs told t one None old new = TakesPlain told t one old.moment new.moment × (new.pumps ≡ old.pumps)

abbrev pub Takes : (told : ℕ → Type 0) → Scenario → Step → (old new : Scene) → Type 0
Takes told t one old new = TakesAs told t one (site_pumped one) old new

-- the steps are taken in order
abbrev pub Plays : (told : ℕ → Type 0) → Scenario → List Step → (old new : Scene) → Type 0
Plays told t [] old new = new ≡ old
Plays told t (step ∷ steps) old new = (next : Scene) × Takes told t step old next × Plays told t steps next new

-- all steps of a scenario: those that arm what it arms before the first, and then its own
abbrev pub all_steps : Scenario → List Step
all_steps t = map (λ (arm : Arm). step.Arm arm) t.arms ++ t.steps

-- from this moment on all steps are taken
abbrev pub EndsPlay : (told : ℕ → Type 0) → Scenario → (old new : Moment) → Type 0
EndsPlay told t old new = (pumps : List PumpValue) × Plays told t (all_steps t)
    (record { moment = old; pumps = new_pumps t }) (record { moment = new; pumps = pumps })

-- so the trails of a run come of the openings, and the arms of the disks of none, of which so many calls had been made
pub record IsPlayed (told : ℕ → Type 0) (t : Scenario) (calls : ℕ → ℕ) (trails : List (List Entry))
    (arms : ℕ → Option (List Arming)) : Type 0 where
  pub first : Scene
  pub last : Scene
  pub begins : IsFirstScene t first
  pub calls_are : (i : ℕ) → first.moment.calls i ≡ calls i
  pub plays : Plays told t (all_steps t) first last
  pub ends : last.moment.trails ≡ trails
  pub arms_are : (i : ℕ) → last.moment.arms i ≡ arms i

-- ---- arms

-- how the disk of a site is armed by these
abbrev pub arms_for : ℕ → List Arm → List (ℕ × ℕ)
arms_for i arms = filter_map (λ (arm : Arm). if nat_eq arm.site.0 i then Some (arm.nth, arm.choice) else None) arms

-- what the steps arm
abbrev pub arms_by : Step → List Arm
arms_by (step.Call number) = []
arms_by (step.Deliver to from number) = []
arms_by (step.Advance at from) = []
arms_by (step.Tick site) = []
arms_by (step.Upgrade site) = []
arms_by (step.Stop site) = []
arms_by (step.Restart site) = []
arms_by (step.Pump site) = []
arms_by (step.Arm arm) = arm ∷ []

abbrev pub arms_of : List Step → List Arm
arms_of steps = flat_map arms_by steps

-- what a scenario arms at a site: before the first step, and by its steps
abbrev pub all_arms : Scenario → ℕ → List (ℕ × ℕ)
all_arms t i = arms_for i (t.arms ++ arms_of t.steps)

-- the arms of each disk are those from before and behind them what these ask for, where it tells them
abbrev pub AreArmed : (old new : Moment) → List Arm → Type 0
AreArmed old new arms = (i : ℕ) → (laid : List Arming) × (map asked laid ≡ arms_for i arms)
    × (new.arms i ≡ option_map (λ told. told ++ laid) (old.arms i))

-- what is asked for, laid after so many calls of the disk
abbrev pub laid_after : ℕ → ℕ × ℕ → Arming
laid_after calls arm = record { at = calls; nth = arm.0; choice = arm.1 }

-- so they are, and no call of the disks came before any of them
abbrev pub AreArmedFirst : (old new : Moment) → List Arm → Type 0
AreArmedFirst old new arms = (i : ℕ)
    → new.arms i ≡ option_map (λ told. told ++ map (laid_after (old.calls i)) (arms_for i arms)) (old.arms i)

-- they are the first ones of these
abbrev pub ArmsMore : (old new : Moment) → List Arm → Type 0
ArmsMore old new arms = (some more : List Arm) × (arms ≡ some ++ more) × AreArmed old new some
