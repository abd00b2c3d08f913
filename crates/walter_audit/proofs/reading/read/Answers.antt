use Rattle.std.proofs.Common.{map, sym, subst}
use Rattle.walter_tables.specs.Sites.{site_of, catalog_of}
use Rattle.walter_audit.specs.Contents.{content_of, AreRead, IsUnreadable}
use Rattle.walter_audit.specs.Reading.{held}
use Rattle.walter_audit.proofs.Readers.{read_too, unreadable_too, of_catalog, of_ok, of_err}
use Rattle.walter_audit.proofs.reading.read.Goals as goal

pub returns-in_ok-of-in-Ok-clause-read : goal.returns-in_ok-of-in-Ok-clause-read
returns-in_ok-of-in-Ok-clause-read c =
    let catalog = c.args.catalog.now in
    let content = held c.args.content.now in
    let tables = c.in_ok-tables.tables in
    let records = c.in-Ok.records.items in
    let all = subst (λ bs. AreRead (catalog_of tables) (site_of tables) (content_of c.args.content.now.header (map (λ body. body.items) bs)) records)
    c.deref.ensures.value
    (of_ok (λ rs. AreRead (catalog_of tables) (site_of tables) (content_of c.args.content.now.header
    (map (λ body. body.items) c.deref.result.now)) rs.items) c.in_ok-found.found c.in-Ok.records c.in-Ok.is c.in_ok-found.ensures.read) in
    subst (λ rs. AreRead catalog c.args.site content rs) (sym c.in_ok-of-in-Ok.ensures)
    (read_too catalog 0 catalog.tolerated c.args.site content records
    (of_catalog (λ k i. AreRead k i content records) catalog c.in_ok-tolerating_none.field-0 c.args.site tables
    c.in_ok-tables.ensures.catalog c.in_ok-tolerating_none.ensures c.in_ok-tables.ensures.site all))

pub returns-in-Err-clause-unreadable : goal.returns-in-Err-clause-unreadable
returns-in-Err-clause-unreadable c =
    let catalog = c.args.catalog.now in
    let content = held c.args.content.now in
    let tables = c.in_ok-tables.tables in
    let none = subst (λ bs. IsUnreadable (catalog_of tables) (site_of tables) (content_of c.args.content.now.header
    (map (λ body. body.items) bs)) c.in-Err.index) c.deref.ensures.value
    (of_err (λ index. IsUnreadable (catalog_of tables) (site_of tables) (content_of c.args.content.now.header
    (map (λ body. body.items) c.deref.result.now)) index) c.in_ok-found.found c.in-Err.index c.in-Err.is c.in_ok-found.ensures.unreadable) in
    unreadable_too catalog 0 catalog.tolerated c.args.site content c.in-Err.index
    (of_catalog (λ k i. IsUnreadable k i content c.in-Err.index) catalog c.in_ok-tolerating_none.field-0 c.args.site tables
    c.in_ok-tables.ensures.catalog c.in_ok-tolerating_none.ensures c.in_ok-tables.ensures.site none)
