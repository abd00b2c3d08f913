-- How a site stands, and how it stands after an event.
use Rattle.std.specs.Prelude.{ℕ, ◌+◌, nat_eq, Bool, true, false, List, [], ◌∷◌, ◌++◌, count_by, Option, Some, None, if◌then◌else◌}
use Rattle.walter_base.specs.declared.catalog.Catalog.{Catalog}
use Rattle.walter_base.specs.declared.message.Record.{Record}
use Rattle.walter_base.specs.declared.message.Refusal.TheVariants.{Gone}
use Rattle.walter_base.specs.declared.message.Reply.TheVariants.{Unsure, Refused}
use Rattle.walter_base.specs.declared.names.SiteId.{SiteId}
use Rattle.walter_base.specs.declared.names.Tid.{Tid}
use Rattle.walter_base.specs.Names.{same_site}
use Rattle.walter_rules.specs.declared.entry.Came.{Came}
use Rattle.walter_rules.specs.declared.event.Event.{Event}
use Rattle.walter_rules.specs.declared.event.Event.TheVariants.{Given, Stop, Restart}
use Rattle.walter_rules.specs.declared.event.Input.TheVariants.{Call}
use Rattle.walter_rules.specs.declared.outcome.Outcome.{Outcome}
use Rattle.walter_rules.specs.declared.outcome.Outcome.TheVariants.{Replied, Taken, Failed, Full}
use Rattle.walter_rules.specs.Knowledge.{Knowledge, fresh}
use Rattle.walter_rules.specs.Learning.{recorded, after, lost}
use Rattle.walter_rules.specs.Sending.{Send}
use Rattle.walter_rules.specs.Sessions.{Session, Sessions, session_in}

-- whether a site is up; what it knows, or what its records tell where it is down; its records in order; the record in
-- flight, which its journal has or hasn't; for each client the transaction that a stop ended, of which the client
-- wasn't told; and how many packets were put out to each site
pub record Standing : Type 0 where
  pub up : Bool
  pub knows : Knowledge
  pub records : List Record
  pub flight : Option Record
  pub gone : ℕ → Option Tid
  pub carried : SiteId → ℕ

-- before the first event
abbrev pub unmade : Standing
unmade = record { up = false; knows = fresh; records = []; flight = None; gone = λ client. None; carried = λ k. 0 }

abbrev pub records_after : Option Record → List Record → List Record
records_after None records = records
records_after (Some rec) records = records ++ rec ∷ []

-- a restart found the record in flight in the journal
abbrev pub settled : Catalog → SiteId → Option Record → Standing → Standing
settled catalog i None S = S
settled catalog i (Some rec) S = record S {
  knows = recorded catalog i (Some rec) S.knows;
  records =
      S.records ++ rec ∷ [];
  flight = None;
}

-- whether the site goes down
abbrev pub goes_down : Event → Outcome → Bool
goes_down event (Replied (Unsure tid)) = true
goes_down event Failed = true
goes_down Stop Taken = true
goes_down event outcome = false

abbrev pub comes_up : Event → Outcome → Bool
comes_up Restart Taken = true
comes_up event outcome = false

abbrev pub up_after : Event → Outcome → Bool → Bool
up_after event outcome up = if goes_down event outcome then false else if comes_up event outcome then true else up

abbrev pub knows_after : Event → Outcome → Knowledge → Knowledge
knows_after event outcome K = if goes_down event outcome then lost K else K

-- the record that was in flight is decided by one that is behind it, or would have been
abbrev pub flight_after : Option Record → Option Record → Outcome → Option Record → Option Record
flight_after (Some rec) wrote outcome old = Some rec
flight_after None (Some rec) outcome old = None
flight_after None None (Full need left) old = None
flight_after None None outcome old = old

-- a transaction that is lost is owed to its client
abbrev pub owed : Option Session → Option Tid → Option Tid
owed None old = old
owed (Some s) old = Some s.tid

-- the client is told of its own
abbrev pub told : Event → Outcome → (ℕ → Option Tid) → ℕ → Option Tid
told (Given (Call client call)) (Replied (Refused (Gone tid))) gone c = if nat_eq client c then None else gone c
told event outcome gone c = gone c

-- of these sessions, where the site goes down
abbrev pub gone_after : Event → Outcome → Sessions → (ℕ → Option Tid) → ℕ → Option Tid
gone_after event outcome sessions gone client =
    if goes_down event outcome then owed (session_in client sessions) (gone client) else told event outcome gone client

abbrev pub carried_after : List Send → (SiteId → ℕ) → SiteId → ℕ
carried_after sends carried k = carried k + count_by (λ s. same_site s.0 k) sends

-- after what was kept, and all that came of the event
abbrev pub stands_after : Catalog → SiteId → Standing → Event → Came → Standing
stands_after catalog i S event came = record {
  up = up_after event came.outcome S.up;
  knows = knows_after event came.outcome (after catalog i S.knows event came.outcome came.wrote);
  records = records_after came.wrote S.records;
  flight = flight_after came.flight came.wrote came.outcome S.flight;
  gone = gone_after event came.outcome (after catalog i S.knows event came.outcome came.wrote).sessions S.gone;
  carried = carried_after came.sends S.carried;
}
