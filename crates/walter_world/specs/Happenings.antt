-- What comes to a site of what is said to happen, as it is found.
use Rattle.std.specs.Prelude.{◌≡◌, ℕ, List, Option, Some, None}
use Rattle.walter_base.specs.declared.names.SiteId.{SiteId}
use Rattle.walter_rules.specs.declared.entry.Entry.{Entry}
use Rattle.walter_world.specs.declared.events.What.{What}
use Rattle.walter_world.specs.declared.events.What.TheVariants.{Deliver}
use Rattle.walter_world.specs.declared.happening.Happening.{Happening}
use Rattle.walter_world.specs.Events.{Brings, IsMissing, keeps}

-- it comes to the site; or the packet that is to be delivered was never put out
abbrev pub IsHappening : List (List Entry) → SiteId → What → Option Happening → Type 0
IsHappening trails i what None = IsMissing trails i what
IsHappening trails i what (Some h) = Brings trails i what h.event h.put × (h.keeps ≡ keeps what)

-- so it is with the packet of a number
abbrev pub IsPost : List (List Entry) → SiteId → SiteId → ℕ → Option Happening → Type 0
IsPost trails to from number found = IsHappening trails to (Deliver from number) found
