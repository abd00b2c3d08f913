-- What a site does that is pumped (docs/FORMATS.md, "The link").
use Rattle.std.specs.Prelude.{◌≡◌, ◌<◌, ◌-◌, ℕ, true, List, [], ◌∷◌, length, Option, Some, None, IsSome}
use Rattle.walter_base.specs.declared.names.SiteId.{SiteId}
use Rattle.walter_disk.specs.declared.disk.Disk.{Ghosts}
use Rattle.walter_lane.specs.Lanes.{Receiving}
use Rattle.walter_link.specs.Pumps.{PumpValue, HasTaken, take_arrived, take_below}
use Rattle.walter_link.specs.declared.pump.Waiting.{Waiting}
use Rattle.walter_outbox.specs.Lanes.{arrived_from}
use Rattle.walter_rules.specs.Deliveries.{IsLeastEnabled}
use Rattle.walter_rules.specs.declared.event.Event.{Event}
use Rattle.walter_rules.specs.declared.event.Event.TheVariants as event
use Rattle.walter_rules.specs.declared.event.Input.TheVariants as input
use Rattle.walter_cell.specs.declared.answers.Acted.{Acted}
use Rattle.walter_cell.specs.declared.answers.Acted.TheVariants as acted
use Rattle.walter_cell.specs.declared.answers.Moved.{Moved}
use Rattle.walter_cell.specs.declared.answers.Moved.TheVariants as moved
use Rattle.walter_cell.specs.declared.answers.Pumped.{Pumped}
use Rattle.walter_cell.specs.declared.answers.Pumped.TheVariants as pumped
use Rattle.walter_cell.specs.Cells.{CellValue, MovesTo, Acts, arrival}
use Rattle.walter_cell.specs.Nodes.{clock_in, is_told, standing_of}

-- how many packets have arrived of each site
abbrev pub counts_in : List Receiving → ℕ → ℕ
counts_in ins from = length (arrived_from ins from)

-- all that has arrived of the first so many sites is taken
abbrev pub TakesSome : SiteId → (ℕ → ℕ) → (old new : PumpValue) → Type 0
TakesSome i arrived old new = (n : ℕ) × (new ≡ take_below i arrived n old)

-- what a pump says of a delivery, or of another event
abbrev pub moved_so : Moved → Pumped
moved_so moved.Did = pumped.Did
moved_so moved.Nothing = pumped.Idle
moved_so moved.Spent = pumped.Spent

abbrev pub acted_so : Acted → Pumped
acted_so acted.Did = pumped.Did
acted_so acted.Spent = pumped.Spent

-- the packet in front leaves where it was delivered
abbrev pub left_by : Moved → List Waiting → PumpValue → PumpValue
left_by moved.Did rest pump = record pump { waiting = rest }
left_by moved.Nothing rest pump = pump
left_by moved.Spent rest pump = pump

-- a tick is one less where it came
abbrev pub ticked_by : Acted → PumpValue → PumpValue
ticked_by acted.Did pump = record pump { ticks = pump.ticks - 1 }
ticked_by acted.Spent pump = pump

-- What a site does at which so much waits, the first of these that can be done: the packet in front is delivered; the next
-- commit of the least peer is committed; a tick is made, while any are left. It is idle where none can be done. What a
-- delivery of a packet comes to, and what another event, and that nothing comes, is said by the others.
pub data Works (Delivers : SiteId → ℕ → Moved → Type 0) (Happens : Event → Acted → Type 0) (rests : Type 0)
    (IsLeast : Option SiteId → Type 0) (pump after : PumpValue) (answer : Pumped) : Type 0 where
  hands : (first : Waiting) (rest : List Waiting) (moved : Moved) → pump.waiting ≡ first ∷ rest → HasTaken pump first
      → Delivers first.from first.number moved → after ≡ left_by moved rest pump → answer ≡ moved_so moved
      → Works Delivers Happens rests IsLeast pump after answer
  advances : (from : SiteId) (acted : Acted) → pump.waiting ≡ [] → IsLeast (Some from)
      → Happens (event.Given (input.Advance from)) acted → after ≡ pump → answer ≡ acted_so acted
      → Works Delivers Happens rests IsLeast pump after answer
  ticks : (acted : Acted) → pump.waiting ≡ [] → IsLeast None → 0 < pump.ticks → Happens (event.Given input.Tick) acted
      → after ≡ ticked_by acted pump → answer ≡ acted_so acted
      → Works Delivers Happens rests IsLeast pump after answer
  idle : pump.waiting ≡ [] → IsLeast None → pump.ticks ≡ 0 → rests → after ≡ pump → answer ≡ pumped.Idle
      → Works Delivers Happens rests IsLeast pump after answer

-- a packet that has arrived is delivered, and comes to this
pub record HandsAt {D : Type 0} (old new : CellValue D) (from : SiteId) (number : ℕ) (moved : Moved) : Type 0 where
  pub there : IsSome (arrival old.ins from number)
  pub moves : MovesTo from number (arrival old.ins from number) (length old.ins) (clock_in old.node)
      old.node.trail new.node.trail moved

module _ {D : Type 0} (g : Ghosts D) where
  -- of a site whose disk tells what it holds, and that is up, this is the least peer whose next commit can be committed
  abbrev pub IsLeastAt : CellValue D → Option SiteId → Type 0
  IsLeastAt cell least = is_told g cell.node.disk ≡ true → (standing_of cell.node).up ≡ true
      → IsLeastEnabled cell.node.catalog cell.node.site (standing_of cell.node).knows least

  -- what is done at a cell behind which all is taken that has arrived
  abbrev pub WorksAt : (old new : CellValue D) → (pump after : PumpValue) → Pumped → Type 0
  WorksAt old new pump after answer =
      Works (HandsAt old new)
      (λ happens acted. Acts happens (clock_in old.node) old.node.trail new.node.trail acted)
      (new.node.trail ≡ old.node.trail) (IsLeastAt old) pump after answer

  -- first all is taken that has arrived
  abbrev pub Pumps : (old new : CellValue D) → (before after : PumpValue) → Pumped → Type 0
  Pumps old new before after answer =
      WorksAt old new (take_arrived old.node.site (counts_in old.ins) before) after answer
