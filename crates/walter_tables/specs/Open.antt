-- The sessions of a site, and what holds of each.
use Rattle.std.specs.Prelude.{◌≡◌, length, All, IsTrue}
use Rattle.walter_base.specs.declared.catalog.Catalog.{Catalog}
use Rattle.walter_base.specs.declared.names.SiteId.{SiteId}
use Rattle.walter_base.specs.ByClient.{AreApart}
use Rattle.walter_base.specs.Sizes.{AreSmall}
use Rattle.walter_rules.specs.Declarations.{are_declared}
use Rattle.walter_rules.specs.Sessions.{Session, Sessions}

-- a transaction that was started here: its snapshot has a number for each site, and its updates could be committed
pub record IsOpenAt (catalog : Catalog) (i : SiteId) (s : Session) : Type 0 where
  pub here : s.tid.site ≡ i
  pub sites : length s.snapshot ≡ catalog.sites
  pub declared : IsTrue (are_declared catalog s.updates)
  pub small : AreSmall s.updates

pub record AreOpenAt (catalog : Catalog) (i : SiteId) (sessions : Sessions) : Type 0 where
  pub each : All (λ s. IsOpenAt catalog i s.1) sessions
  pub apart : AreApart sessions
