-- Sites in some order as the bits of a number: one for each site that there may be, and one for all others.
use Rattle.std.specs.Prelude.{◌≡◌, ℕ, nat_eq, min, Bool, List, if◌then◌else◌}
use Rattle.std.specs.Int.{bit_at}
use Rattle.std.specs.List.{list_any}
use Rattle.walter_base.specs.declared.names.SiteId.{SiteId}
use Rattle.walter_base.specs.Vectors.{most_sites}

-- the bit that tells of a site
abbrev pub place_of : SiteId → ℕ
place_of site = min site.0 most_sites

-- whether some site has the place
abbrev pub has_place : List SiteId → ℕ → Bool
has_place sites place = list_any (λ site. nat_eq (place_of site) place) sites

-- the number has the bits of the places that the sites have
abbrev pub AreBitsOf : ℕ → List SiteId → Type 0
AreBitsOf bits sites = (place : ℕ) → bit_at bits place ≡ (if has_place sites place then 1 else 0)
