-- What comes to a site of what is said to happen, by what the trails of all sites have put out.
use Rattle.std.specs.Prelude.{◌≡◌, ◌<◌, ◌≤◌, ℕ, Bool, false, List, length, Option, Some, None, Result}
use Rattle.walter_base.specs.declared.message.BadFrame.{BadFrame}
use Rattle.walter_base.specs.declared.message.Request.{Request}
use Rattle.walter_base.specs.declared.names.SiteId.{SiteId}
use Rattle.walter_base.specs.declared.packet.Packet.{Packet}
use Rattle.walter_conn.specs.Frames.{CallsFor}
use Rattle.walter_machine.specs.Posts.{of_number}
use Rattle.walter_rules.specs.declared.entry.Entry.{Entry}
use Rattle.walter_rules.specs.declared.event.Event.{Event}
use Rattle.walter_rules.specs.declared.event.Event.TheVariants as event
use Rattle.walter_rules.specs.declared.event.Input.TheVariants as input
use Rattle.walter_rules.specs.Merges.{Stamped, put_out_to, trail_of}
use Rattle.walter_world.specs.declared.events.What.{What}
use Rattle.walter_world.specs.declared.events.What.TheVariants.{Call, Deliver, Advance, Tick, Upgrade, Stop, Restart}

-- the packet of a number that a site has put out to another
abbrev pub put_by : List (List Entry) → SiteId → SiteId → ℕ → Option Stamped
put_by trails from to number = of_number number (put_out_to to (trail_of trails from))

-- what comes to the site, and the stamp of the packet that it brings, 0 where it brings none: a call is what its bytes
-- call for, and a packet the one of its number that was put out
pub data Brings (trails : List (List Entry)) (i : SiteId) : What → Event → ℕ → Type 0 where
  a_call : (client : ℕ) (body : List ℕ) (call : Result Request BadFrame) → CallsFor body call
      → Brings trails i (Call client body) (event.Given (input.Call client call)) 0
  a_packet : (from : SiteId) (number put : ℕ) (packet : Packet) → put_by trails from i number ≡ Some (put, packet)
      → Brings trails i (Deliver from number) (event.Given (input.Deliver from number packet)) put
  an_advance : (from : SiteId) → Brings trails i (Advance from) (event.Given (input.Advance from)) 0
  a_tick : Brings trails i Tick (event.Given input.Tick) 0
  an_upgrade : Brings trails i Upgrade (event.Given input.Upgrade) 0
  a_stop : Brings trails i Stop event.Stop 0
  a_restart : (kept : Bool) → Brings trails i (Restart kept) event.Restart 0

-- a packet is to be delivered that was never put out
abbrev pub IsMissing : List (List Entry) → SiteId → What → Type 0
IsMissing trails i (Deliver from number) = put_by trails from i number ≡ None
IsMissing trails i what = ⊥

-- whether the record in flight is to be found
abbrev pub keeps : What → Bool
keeps (Restart kept) = kept
keeps what = false

-- a body fits its frame, and another site is one of so many
abbrev pub IsWithin : ℕ → What → Type 0
IsWithin sites (Call client body) = length body ≤ 65536
IsWithin sites (Deliver from number) = from.0 < sites
IsWithin sites (Advance from) = from.0 < sites
IsWithin sites what = Unit {0}
