-- The values of arrays, as what was read spells them.
use Rattle.std.proofs.Common.{◌≡◌, List, length, sym}
use Rattle.serde_json.proofs.Views.{items_len-items_view}
use Rattle.serde_json.specs.Events.{items_len}
use Rattle.serde_json.specs.View.{items_view}
use Rattle.serde_json.specs.declared.value.Value.{Value}

-- an array has as many items as there are values
pub same_length : (vs : List Value) → length vs ≡ items_len (items_view vs)
same_length vs = sym (items_len-items_view vs)
