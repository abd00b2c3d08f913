-- What an event comes to: the sizes of what is written and put out, and faults.
use Rattle.std.specs.Prelude.{◌≡◌, ◌<◌, ℕ, Bool, true, false, All, IfSome}
use Rattle.walter_base.specs.declared.message.Reply.TheVariants.{Unsure}
use Rattle.walter_packet.specs.Spelling.{HasPacketSpelling}
use Rattle.walter_rules.specs.declared.entry.Came.{Came}
use Rattle.walter_rules.specs.declared.event.Event.{Event}
use Rattle.walter_rules.specs.declared.event.Event.TheVariants.{Given}
use Rattle.walter_rules.specs.declared.event.Input.TheVariants.{Call}
use Rattle.walter_rules.specs.Trails.{only}
use Rattle.walter_rules.specs.declared.outcome.Outcome.{Outcome}
use Rattle.walter_rules.specs.declared.outcome.Outcome.TheVariants.{Replied, Taken, Failed, Memory, Refused}
use Rattle.walter_rules.specs.declared.event.Event.TheVariants.{Stop}
use Rattle.walter_rules.specs.Records.{IsRecordAmong}
use Rattle.walter_site.specs.Members.{IsShortOutcome}

-- a reply has a frame, and each record, of a site among so many, and each packet a spelling
pub record IsSized (sites : ℕ) (came : Came) : Type 0 where
  pub outcome : IsShortOutcome came.outcome
  pub kept : IfSome came.kept (IsRecordAmong sites)
  pub wrote : IfSome came.wrote (IsRecordAmong sites)
  pub flight : IfSome came.flight (IsRecordAmong sites)
  pub sends : All (λ s. HasPacketSpelling sites s.1) came.sends

-- an outcome alone: no record, and nothing put out
abbrev pub IsOutcomeAlone : Came → Type 0
IsOutcomeAlone came = came ≡ only came.outcome

-- a fault of the disk was met
abbrev pub is_faulty : Outcome → Bool
is_faulty (Replied (Unsure tid)) = true
is_faulty Failed = true
is_faulty outcome = false

-- the disk's faults rise exactly where one was met
abbrev pub RisesIf : Bool → ℕ → ℕ → Type 0
RisesIf true old new = old < new
RisesIf false old new = new ≡ old

abbrev pub IsFaulty : Came → ℕ → ℕ → Type 0
IsFaulty came old new = RisesIf (is_faulty came.outcome) old new

-- a site goes down by this: where a client isn't told that its commit is unsure, it failed, or it was stopped
abbrev pub IsFall : Event → Outcome → Type 0
IsFall (Given (Call client call)) (Replied (Unsure tid)) = Unit {0}
IsFall Stop Taken = Unit {0}
IsFall event Failed = Unit {0}
IsFall event outcome = ⊥

-- what a restart comes to that takes no epoch: the journal can't be read, or is none of such a site, or memory ran out
abbrev pub IsRest : Outcome → Type 0
IsRest Failed = Unit {0}
IsRest Refused = Unit {0}
IsRest Memory = Unit {0}
IsRest outcome = ⊥
