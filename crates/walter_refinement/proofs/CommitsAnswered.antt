-- A commit whose objects are all preferred here, and that meets no conflict, is answered so in each right trail.
use Rattle.std.proofs.Common.{List, [], ◌∷◌, reverse}
use Rattle.walter_alone.proofs.Promised.{entry_answered}
use Rattle.walter_base.specs.declared.catalog.Catalog.{Catalog}
use Rattle.walter_rules.specs.declared.entry.Entry.{Entry}
use Rattle.walter_base.specs.declared.names.SiteId.{SiteId}
use Rattle.walter_rules.specs.Layouts.{Layout}
use Rattle.walter_rules.specs.Merges.{trail_of}
use Rattle.walter_rules.specs.Trails.{AreRight}
use Rattle.walter_runs.specs.Runs.{AreRightTrails}
use Rattle.walter_refinement.specs.Answered.{AreAnswered, AnswerCommits}

right_answered : (catalog : Catalog) (layout : Layout) (i : SiteId) (newest_first : List Entry)
    → AreRight catalog layout i newest_first → AreAnswered catalog layout i newest_first
right_answered catalog layout i [] right = tt
right_answered catalog layout i (e ∷ older) right = (
  right_answered catalog layout i older right.0,
  λ s free. entry_answered catalog layout i older e s right.1 free,
)

pub trails_answered : (catalog : Catalog) (layouts : SiteId → Layout) (trails : List (List Entry))
    → AreRightTrails catalog layouts trails → AnswerCommits catalog layouts trails
trails_answered catalog layouts trails are i below =
    right_answered catalog (layouts i) i (reverse (trail_of trails i)) (are.right i below).right
