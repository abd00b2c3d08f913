use Rattle.std.proofs.Common.{◌≡◌, take}
use Rattle.walter_base.specs.Catalogs.{containers_of}
use Rattle.walter_base.proofs.Rising.{Keeps}
use Rattle.walter_base.proofs.catalog.Catalog.build.Given as goal

abbrev pub invariant-loop-index : goal.invariant-loop-index
invariant-loop-index l = record {
  made : l.containers ≡ containers_of (take l.index l.items);
  keeps : Keeps l.sites l.items l.index l.least;
}
