-- No transaction commits twice, by the records of all sites.
use Rattle.std.specs.Prelude.{◌≡◌, ℕ, List, slice_get, Some}
use Rattle.walter_base.specs.declared.catalog.Catalog.{Catalog}
use Rattle.walter_base.specs.declared.message.Record.TheVariants.{Own}
use Rattle.walter_base.specs.declared.names.SiteId.{SiteId}
use Rattle.walter_base.specs.declared.transaction.Tx.{Tx}
use Rattle.walter_rules.specs.Merges.{Named}
use Rattle.walter_runs.specs.Runs.{stands}

-- two records of own commits, of whatever sites, that are of one transaction are one record: at one place of one site's
pub record StandsOnce (catalog : Catalog) (run : List Named) : Type 0 where
  pub once : (i j : SiteId) (place other seq number : ℕ) (tx same : Tx)
      → slice_get (stands catalog run i).records place ≡ Some (Own seq tx)
      → slice_get (stands catalog run j).records other ≡ Some (Own number same) → tx.tid ≡ same.tid → (i ≡ j)
      × (place ≡ other)
