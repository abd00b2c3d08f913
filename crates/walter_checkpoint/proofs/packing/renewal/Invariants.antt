use Rattle.std.proofs.Common.{◌≡◌, map, take}
use Rattle.walter_checkpoint.specs.Packs.{entries}
use Rattle.walter_checkpoint.proofs.packing.renewal.Given as goal

abbrev pub invariant-loop-body : goal.invariant-loop-body
invariant-loop-body l = l.entries.items ≡ entries l.sites (map (λ body. body.items) (take l.body-index l.bodies))
