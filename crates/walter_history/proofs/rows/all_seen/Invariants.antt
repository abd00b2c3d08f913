use Rattle.std.proofs.Common.{◌≡◌, drop}
use Rattle.walter_base.specs.Conflicts.{first_outside}
use Rattle.walter_history.proofs.rows.all_seen.Given as goal

abbrev pub invariant-loop-version : goal.invariant-loop-version
invariant-loop-version l = first_outside l.by (drop l.version-index l.versions) ≡ first_outside l.by l.versions
