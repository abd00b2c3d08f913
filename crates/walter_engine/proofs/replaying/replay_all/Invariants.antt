use Rattle.std.proofs.Common.{◌≡◌, map, take}
use Rattle.walter_tables.specs.Sites.{site_of, catalog_of}
use Rattle.walter_engine.specs.Replays.{Tells}
use Rattle.walter_engine.proofs.replaying.replay_all.Given as goal

abbrev pub invariant-loop-index : goal.invariant-loop-index
invariant-loop-index l = record {
  site_is : site_of l.tables ≡ l.fn.id;
  catalog_is : catalog_of l.tables ≡ l.catalog;
  tells : Tells l.fn.header l.catalog l.fn.id (map (λ body. body.items) (take l.index l.bodies)) l.tables;
}
