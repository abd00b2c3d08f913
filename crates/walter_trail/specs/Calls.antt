-- The calls of a client that a trail has.
use Rattle.std.specs.Prelude.{ℕ, nat_eq, List, [], ◌∷◌, flat_map, Result, if◌then◌else◌}
use Rattle.walter_base.specs.declared.message.BadFrame.{BadFrame}
use Rattle.walter_base.specs.declared.message.Request.{Request}
use Rattle.walter_rules.specs.declared.entry.Entry.{Entry}
use Rattle.walter_rules.specs.declared.event.Event.{Event}
use Rattle.walter_rules.specs.declared.event.Event.TheVariants.{Given}
use Rattle.walter_rules.specs.declared.event.Input.TheVariants.{Call}

-- the call of a client that an event is
abbrev pub call_by : ℕ → Event → List (Result Request BadFrame)
call_by client (Given (Call c call)) = if nat_eq c client then call ∷ [] else []
call_by client event = []

-- the calls of a client, in order
abbrev pub calls_of : ℕ → List Entry → List (Result Request BadFrame)
calls_of client trail = flat_map (λ e. call_by client e.event) trail
