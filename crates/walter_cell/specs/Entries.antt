-- How long a trail may be, and what stands in it.
use Rattle.std.specs.Prelude.{◌≡◌, ◌<◌, ◌≤◌, ◌⊎◌, ◌^◌, ℕ, List, [], ◌∷◌, ◌++◌, length}
use Rattle.walter_rules.specs.declared.entry.Entry.{Entry}
use Rattle.walter_rules.specs.declared.event.Event.{Event}
use Rattle.walter_rules.specs.Kinds.{IfCall, IfDelivery}
use Rattle.walter_rules.specs.Trails.{clock}

-- a trail has no place for another entry with this stamp
abbrev pub IsSpent : ℕ → List Entry → Type 0
IsSpent stamp trail = (100000 ≤ length trail) ⊎ (2 ^ 62 ≤ stamp)

-- a trail has place for an entry with this stamp
abbrev pub HasPlace : ℕ → List Entry → Type 0
HasPlace stamp trail = (length trail < 100000) × (stamp < 2 ^ 62)

-- each entry has a greater stamp than those before it; the newest comes first
abbrev pub HaveRisingStamps : List Entry → Type 0
HaveRisingStamps [] = Unit {0}
HaveRisingStamps (e ∷ older) = (clock older < e.stamp) × HaveRisingStamps older

-- the trail has one more entry, of this event
abbrev pub Grows : Event → List Entry → List Entry → Type 0
Grows event old new = (e : Entry) × (new ≡ old ++ e ∷ []) × (e.event ≡ event)

-- an event that brings nothing: no call, and no packet
abbrev pub IsPlain : Event → Type 0
IsPlain event = IfCall (λ client call. ⊥) event × IfDelivery (λ from number packet. ⊥) event
