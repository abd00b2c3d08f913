use Rattle.std.proofs.Common.{Some, subst}
use Rattle.walter_base.specs.declared.catalog.Catalog.{Catalog}
use Rattle.walter_base.specs.declared.names.SiteId.{SiteId}
use Rattle.walter_rules.specs.Learning.{recorded}
use Rattle.walter_rules.specs.Records.{CanFollow, IsRecordAmong}
use Rattle.walter_tables.specs.Sites.{site_of, catalog_of, Stands}
use Rattle.walter_tables.proofs.tables.Tables.replay.Goals as goal

pub returns-clause-stands : goal.returns-clause-stands
returns-clause-stands c = λ K S f sizes.
    let rec = c.args.rec in
    let new = c.keep.new.self in
    let StandsThen : Catalog → SiteId → Type 0 = λ catalog i.
    CanFollow catalog i K rec → IsRecordAmong catalog.sites rec → Stands new (recorded catalog i (Some rec) K) in
    let there : StandsThen (catalog_of c.reserve.new.self) (site_of c.reserve.new.self) =
    c.keep.ensures.stands K (c.reserve.ensures.stands K S) in
    subst (λ catalog. StandsThen catalog (site_of c.args.self.now)) c.reserve.ensures.catalog
    (subst (λ i. StandsThen (catalog_of c.reserve.new.self) i) c.reserve.ensures.site there) f sizes
