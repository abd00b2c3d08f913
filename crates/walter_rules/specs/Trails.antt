-- How a site stands by its trail, and which trails are right by themselves.
use Rattle.std.specs.Prelude.{◌≡◌, ◌+◌, ◌<◌, ◌≤◌, ℕ, Bool, true, false, List, [], ◌∷◌, reverse, slice_get, Option, Some, None, IfSome, if◌then◌else◌}
use Rattle.walter_base.specs.declared.catalog.Catalog.{Catalog}
use Rattle.walter_base.specs.declared.message.Record.{Record}
use Rattle.walter_base.specs.declared.message.Record.TheVariants.{Boot, Own, SlowBegin}
use Rattle.walter_base.specs.declared.message.Refusal.TheVariants.{JournalFull, Memory as NoMemory}
use Rattle.walter_base.specs.declared.message.Reply.TheVariants.{Unsure, Refused}
use Rattle.walter_base.specs.declared.names.SiteId.{SiteId}
use Rattle.walter_base.specs.Names.{same_site}
use Rattle.walter_rules.specs.declared.entry.Came.{Came}
use Rattle.walter_rules.specs.declared.entry.Entry.{Entry}
use Rattle.walter_rules.specs.declared.event.Event.{Event}
use Rattle.walter_rules.specs.declared.event.Event.TheVariants.{Given, Restart}
use Rattle.walter_rules.specs.declared.event.Input.TheVariants.{Call, Deliver, Advance, Tick, Upgrade}
use Rattle.walter_rules.specs.declared.outcome.Outcome.{Outcome}
use Rattle.walter_rules.specs.declared.outcome.Outcome.TheVariants.{Replied, Taken, Failed, Full, Memory}
use Rattle.walter_rules.specs.Calls.{Expected}
use Rattle.walter_rules.specs.Layouts.{Layout, header_of, need_in, left_behind, FitsIn}
use Rattle.walter_rules.specs.Rule.{rule, MayWant}
use Rattle.walter_rules.specs.Sending.{Send}
use Rattle.walter_rules.specs.Standing.{Standing, unmade, settled, stands_after}

-- how a site stands by these entries, the newest of which comes first
abbrev pub standing : Catalog → SiteId → List Entry → Standing
standing catalog i [] = unmade
standing catalog i (e ∷ older) =
    stands_after catalog i (settled catalog i e.came.kept (standing catalog i older)) e.event e.came

-- the stamp of the newest entry
abbrev pub clock : List Entry → ℕ
clock [] = 0
clock (e ∷ older) = e.stamp

-- how many packets a lane has a place for
abbrev pub lane_places : ℕ
lane_places = 1024

abbrev pub carried_one : SiteId → (SiteId → ℕ) → SiteId → ℕ
carried_one to carried k = if same_site to k then carried k + 1 else carried k

-- Of what is to be put out, all is, in order; but what goes to a lane that has carried 1,024 packets may be lost
-- there, and is counted.
pub data IsPutOut : (SiteId → ℕ) → List Send → List Send → ℕ → Type 0 where
  all_out : (carried : SiteId → ℕ) → IsPutOut carried [] [] 0
  put_out : (carried : SiteId → ℕ) (send : Send) (planned sends : List Send) (dropped : ℕ)
      → IsPutOut (carried_one send.0 carried) planned sends dropped
      → IsPutOut carried (send ∷ planned) (send ∷ sends) dropped
  drops : (carried : SiteId → ℕ) (send : Send) (planned sends : List Send) (dropped : ℕ)
      → lane_places ≤ carried send.0 → IsPutOut carried planned sends dropped
      → IsPutOut carried (send ∷ planned) sends (dropped + 1)

-- it comes to what the rule says
pub record IsAsRuled (S : Standing) (expected : Expected) (came : Came) : Type 0 where
  pub outcome : came.outcome ≡ expected.outcome
  pub wrote : came.wrote ≡ expected.wrote
  pub flight : came.flight ≡ None
  pub sends : IsPutOut S.carried expected.sends came.sends came.dropped

-- an outcome alone: no record, and nothing put out
abbrev pub only : Outcome → Came
only outcome = record { outcome = outcome; kept = None; wrote = None; flight = None; sends = []; dropped = 0 }

-- no record is stable, and nothing is put out
pub record IsOnly (came : Came) (outcome : Outcome) (flight : Option Record) : Type 0 where
  pub outcome_is : came.outcome ≡ outcome
  pub wrote : came.wrote ≡ None
  pub flight_is : came.flight ≡ flight
  pub sends : came.sends ≡ []
  pub dropped : came.dropped ≡ 0

-- the outcome where the record meets a fault of the disk: a client is told the transaction's name
abbrev pub failure : Event → Record → Outcome
failure (Given (Call client call)) (Own seq tx) = Replied (Unsure tx.tid)
failure (Given (Call client call)) (SlowBegin n tx) = Replied (Unsure tx.tid)
failure event rec = Failed

-- where memory runs out, and where the record finds no place
abbrev pub want : Event → Outcome
want (Given (Call client call)) = Replied (Refused NoMemory)
want event = Memory

abbrev pub fullness : Event → ℕ → ℕ → Outcome
fullness (Given (Call client call)) need left = Replied (Refused (JournalFull need left))
fullness event need left = Full need left

-- an event that may want memory: some calls, what comes from other sites, an Advance, a Tick and an Upgrade at a site
-- that is up;
-- and a restart of one that is down
abbrev pub TakesMemory : Bool → Event → Type 0
TakesMemory true (Given (Call client call)) = MayWant call
TakesMemory true (Given (Deliver from number packet)) = Unit {0}
TakesMemory true (Given (Advance from)) = Unit {0}
TakesMemory true (Given Tick) = Unit {0}
TakesMemory true (Given Upgrade) = Unit {0}
TakesMemory false Restart = Unit {0}
TakesMemory up event = ⊥

-- what an event may come to: what the rule says; or its record met a fault of the disk; or the journal could not be
-- read; or memory ran out; or the record needs more than is left
pub data Comes (catalog : Catalog) (layout : Layout) (i : SiteId) (S : Standing) (event : Event)
    (came : Came) : Type 0 where
  ruled : IfSome (rule (header_of layout) catalog i S event).wrote (FitsIn layout S) → IsAsRuled S (rule (header_of layout) catalog i S event) came
      → Comes catalog layout i S event came
  met_fault : (rec : Record) → (rule (header_of layout) catalog i S event).wrote ≡ Some rec → FitsIn layout S rec
      → IsOnly came (failure event rec) (Some rec) → Comes catalog layout i S event came
  unread : event ≡ Restart → S.up ≡ false → IsOnly came Failed None → Comes catalog layout i S event came
  no_memory : TakesMemory S.up event → IsOnly came (want event) None → Comes catalog layout i S event came
  full : (rec : Record) → (rule (header_of layout) catalog i S event).wrote ≡ Some rec → left_behind layout S < need_in layout S rec
      → IsOnly came (fullness event (need_in layout S rec) (left_behind layout S)) None
      → Comes catalog layout i S event came

-- a restart of a site that is down may find the record in flight
pub record IsFound (S : Standing) (event : Event) (rec : Record) : Type 0 where
  pub restart : event ≡ Restart
  pub down : S.up ≡ false
  pub in_flight : S.flight ≡ Some rec

-- the next stamp: one more than the last, and more than that for a packet that was put out later
abbrev pub IsNextStamp : Event → ℕ → ℕ → Type 0
IsNextStamp (Given (Deliver from number packet)) last stamp = last < stamp
IsNextStamp event last stamp = stamp ≡ last + 1

-- an entry is right after those before it
pub record IsRightEntry (catalog : Catalog) (layout : Layout) (i : SiteId) (older : List Entry) (e : Entry) : Type 0 where
  pub stamp : IsNextStamp e.event (clock older) e.stamp
  pub kept : IfSome e.came.kept (IsFound (standing catalog i older) e.event)
  pub comes : Comes catalog layout i (settled catalog i e.came.kept (standing catalog i older)) e.event e.came

-- each entry is right after those before it; the newest comes first
abbrev pub AreRight : Catalog → Layout → SiteId → List Entry → Type 0
AreRight catalog layout i [] = Unit {0}
AreRight catalog layout i (e ∷ older) = AreRight catalog layout i older × IsRightEntry catalog layout i older e

-- the first entry of a trail: the site comes up, in its first epoch
abbrev pub opening : Entry
opening = record { stamp = 1; event = Restart; came = record (only Taken) { wrote = Some (Boot 1) } }

-- so does one that begins a right trail
pub record IsOpening (e : Entry) : Type 0 where
  pub stamp : e.stamp ≡ 1
  pub event : e.event ≡ Restart
  pub wrote : e.came.wrote ≡ Some (Boot 1)

-- a right trail begins with the opening, and each entry is right after those before it
pub record IsRightTrail (catalog : Catalog) (layout : Layout) (i : SiteId) (trail : List Entry) : Type 0 where
  pub opening : Entry
  pub begins : slice_get trail 0 ≡ Some opening
  pub opens : IsOpening opening
  pub right : AreRight catalog layout i (reverse trail)
