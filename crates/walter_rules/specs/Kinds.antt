-- What is asked of events of one kind alone.
use Rattle.std.specs.Prelude.{ℕ, Result}
use Rattle.walter_base.specs.declared.message.BadFrame.{BadFrame}
use Rattle.walter_base.specs.declared.message.Request.{Request}
use Rattle.walter_base.specs.declared.names.SiteId.{SiteId}
use Rattle.walter_base.specs.declared.packet.Packet.{Packet}
use Rattle.walter_rules.specs.declared.event.Event.{Event}
use Rattle.walter_rules.specs.declared.event.Event.TheVariants.{Given}
use Rattle.walter_rules.specs.declared.event.Input.TheVariants.{Call, Deliver}

-- of the client that calls, and of its call, P holds
abbrev pub IfCall : (ℕ → Result Request BadFrame → Type 0) → Event → Type 0
IfCall P (Given (Call client call)) = P client call
IfCall P event = Unit {0}

-- of the packet that comes from a site under a number, P holds
abbrev pub IfDelivery : (SiteId → ℕ → Packet → Type 0) → Event → Type 0
IfDelivery P (Given (Deliver from number packet)) = P from number packet
IfDelivery P event = Unit {0}
