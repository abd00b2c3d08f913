-- How sites come to stand in a list.
use Rattle.std.specs.Prelude.{[], ◌∷◌, ◌++◌}
use Rattle.walter_durable.specs.declared.ghost_sites.GhostSites.{GhostSites}
use Rattle.walter_durable.specs.declared.ghost_sites.Listing.{Listing}
use Rattle.walter_durable.specs.declared.ghost_sites.Listing.TheVariants.{Begin, Add}

-- with one more than before
abbrev pub listed_after : Listing → GhostSites
listed_after Begin = record { sites = [] }
listed_after (Add sites site) = record sites.now { sites = sites.now.sites ++ site ∷ [] }
