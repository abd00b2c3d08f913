use Rattle.std.proofs.Common.{◌≡◌}
use Rattle.walter_tables.specs.Sites.{catalog_of}
use Rattle.walter_tests_tables.proofs.replays.wrong_place.Given as goal

-- the tables are still of two sites
abbrev pub invariant-loop-place : goal.invariant-loop-place
invariant-loop-place l = (catalog_of l.tables).sites ≡ 2
