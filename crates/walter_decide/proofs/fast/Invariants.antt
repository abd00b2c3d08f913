use Rattle.std.proofs.Common.{◌≡◌, drop}
use Rattle.walter_decide.specs.Firsts.{first_conflict}
use Rattle.walter_decide.proofs.fast.Given as goal

-- the first conflict is that of the objects that are left
abbrev pub invariant-loop-oid : goal.invariant-loop-oid
invariant-loop-oid g l =
    let first = first_conflict (g.R.Rows.versions l.rows) (g.R.Rows.lock l.rows) l.snapshot in
    first l.objects ≡ first (drop l.oid-index l.objects)
