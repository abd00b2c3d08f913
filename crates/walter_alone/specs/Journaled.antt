-- What the records of a site tell, which is all that it has behind a stop.
use Rattle.std.specs.Prelude.{◌≡◌, IfSome}
use Rattle.walter_base.specs.declared.catalog.Catalog.{Catalog}
use Rattle.walter_base.specs.declared.names.SiteId.{SiteId}
use Rattle.walter_rules.specs.Knowledge.{fresh}
use Rattle.walter_rules.specs.Learning.{lost}
use Rattle.walter_rules.specs.Records.{CanFollow, CanAllFollow, replayed}
use Rattle.walter_rules.specs.Standing.{Standing}

-- each record can follow those before it, and the one in flight can follow them all; and what the site knows, without
-- its clients' transactions and without what its peers have said, is what they tell
pub record IsJournaled (catalog : Catalog) (i : SiteId) (S : Standing) : Type 0 where
  pub follow : CanAllFollow catalog i fresh S.records
  pub flight : IfSome S.flight (CanFollow catalog i S.knows)
  pub told : lost S.knows ≡ replayed catalog i fresh S.records
