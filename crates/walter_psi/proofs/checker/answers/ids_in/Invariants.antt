use Rattle.std.proofs.Common.{◌≡◌, take}
use Rattle.std.specs.Prelude.{flat_map}
use Rattle.walter_base.specs.Values.{ids_named}
use Rattle.walter_psi.proofs.checker.answers.ids_in.Given as goal

-- the ids so far are those that the updates so far name
abbrev pub invariant-loop-update : goal.invariant-loop-update
invariant-loop-update l = l.ids.items ≡ flat_map (ids_named l.oid) (take l.update-index l.updates)
