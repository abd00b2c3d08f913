use Rattle.std.proofs.Common.{◌≡◌, drop}
use Rattle.std.specs.Option.{option_copied}
use Rattle.walter_base.specs.Values.{value_from}
use Rattle.walter_overlay.proofs.reading.value.Given as goal

abbrev pub invariant-loop-update : goal.invariant-loop-update
invariant-loop-update l = value_from (option_copied l.value) l.oid (drop l.update-index l.updates) ≡ value_from (option_copied l.base) l.oid l.updates
