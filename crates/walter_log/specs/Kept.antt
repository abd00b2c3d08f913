-- What the code keeps of the transactions.
use Rattle.std.specs.Prelude.{◌≡◌, ℕ, List, length, map, slice_get, Some}
use Rattle.std.specs.Global.{Vec}
use Rattle.std.specs.Map.{lookup}
use Rattle.walter_base.specs.declared.names.SiteId.{SiteId}
use Rattle.walter_base.specs.declared.names.Tid.{Tid}
use Rattle.walter_base.specs.Names.{same_tid}
use Rattle.walter_rules.specs.declared.held.Held.{Held}
use Rattle.walter_rules.specs.Log.{of_site, seq_in}
use Rattle.walter_log.specs.Logged.{AreWithin}
use Rattle.walter_log.specs.Places.{places_of}

-- at its places stand the transactions of each site, in their order
abbrev pub ArePlaced : List Held → List (Vec ℕ) → Type 0
ArePlaced log places = (j : SiteId) → map (slice_get log) (places_of places j) ≡ map (λ h. Some h) (of_site j log)

-- the names of transactions have the first of their numbers
pub record AreKept (log : List Held) (places : List (Vec ℕ)) (numbers : List (Tid × ℕ)) : Type 0 where
  pub within : AreWithin (length places) log
  pub placed : ArePlaced log places
  pub numbered : (tid : Tid) → lookup (same_tid tid) numbers ≡ seq_in tid.site log tid
