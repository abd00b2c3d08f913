-- What a commit is that comes from another site.
use Rattle.std.specs.Prelude.{◌≡◌, IsTrue}
use Rattle.walter_base.specs.declared.catalog.Catalog.{Catalog}
use Rattle.walter_base.specs.declared.names.SiteId.{SiteId}
use Rattle.walter_base.specs.declared.transaction.Tx.{Tx}
use Rattle.walter_rules.specs.Declarations.{are_declared}

-- a transaction of this site, which changes what the catalog has
pub record IsCommitOf (catalog : Catalog) (j : SiteId) (tx : Tx) : Type 0 where
  pub site : tx.tid.site ≡ j
  pub declared : IsTrue (are_declared catalog tx.updates)
