-- Which catalogs are whole.
use Rattle.std.specs.Prelude.{◌≡◌, ◌<◌, ℕ, Some}
use Rattle.std.specs.FinMap.{get}
use Rattle.walter_base.specs.declared.catalog.Catalog.{Catalog}
use Rattle.walter_base.specs.declared.containers.Container.{Container}

-- the preferred site of each container is one of the catalog's
abbrev pub IsWhole : Catalog → Type 0
IsWhole catalog = (id : ℕ) (container : Container) → get catalog.containers id ≡ Some container
    → container.preferred.0 < catalog.sites
