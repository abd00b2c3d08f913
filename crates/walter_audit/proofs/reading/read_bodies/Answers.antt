use Rattle.std.proofs.Common.{◌+◌, map, ap, sym, ◌∙◌, subst, arith}
use Rattle.std.proofs.lemmas.List.{length-map}
use Rattle.walter_base.specs.declared.catalog.Catalog.{Catalog}
use Rattle.walter_tables.specs.Sites.{site_of, catalog_of}
use Rattle.walter_audit.specs.Reading.{IsUnfit}
use Rattle.walter_audit.proofs.Readers.{IsReadTo, reads_begun, reads_more, reads_none, reads_all, body_at}
use Rattle.walter_audit.proofs.reading.read_bodies.Goals as goal

pub loop-index-init : goal.loop-index-init
loop-index-init c =
    subst (λ rs. IsReadTo (catalog_of c.args.tables) (site_of c.args.tables) c.args.header (map (λ body. body.items) c.args.bodies.now) 0
    c.args.tables c.args.header rs) (sym c.new-records.ensures.items)
    (reads_begun c.args.tables c.args.header (map (λ body. body.items) c.args.bodies.now) c.requires.fresh)

pub take_body-requires-clause-sites : goal.take_body-requires-clause-sites
take_body-requires-clause-sites c = ap (λ (z : Catalog). z.sites) c.loop-index.invariant.whose ∙ c.requires.sites

pub returns-in-Err-Unfit-clause-unreadable : goal.returns-in-Err-Unfit-clause-unreadable
returns-in-Err-Unfit-clause-unreadable c =
    let l = c.loop-index in
    reads_none (catalog_of c.args.tables) (site_of c.args.tables) c.args.header (map (λ body. body.items) c.args.bodies.now) l.index
    c.deref.result.now
    (body_at (λ body. body.items) c.args.bodies.now l.index c.index-bodies-index.result c.deref.result.now c.loop-index-test.true
    c.index-bodies-index.is c.deref.ensures.value) l.tables l.format l.records.items l.invariant
    (subst (λ fault. IsUnfit l.tables l.format c.deref.result.now fault) c.in-Err-Unfit.field-0-is c.in-Err-Unfit.ensures.unfit)

pub loop-index-preserved : goal.loop-index-preserved
loop-index-preserved c =
    let l = c.loop-index in
    subst (λ rs. IsReadTo (catalog_of c.args.tables) (site_of c.args.tables) c.args.header (map (λ body. body.items) c.args.bodies.now)
    (l.index + 1) c.take_body.new.tables c.behind-format.result rs) (sym c.in_ok-push-in-Ok.ensures.items)
    (reads_more (catalog_of c.args.tables) (site_of c.args.tables) c.args.header (map (λ body. body.items) c.args.bodies.now) l.index
    c.deref.result.now
    (body_at (λ body. body.items) c.args.bodies.now l.index c.index-bodies-index.result c.deref.result.now c.loop-index-test.true
    c.index-bodies-index.is c.deref.ensures.value) l.tables l.format l.records.items l.invariant c.in-Ok.journaled
    c.take_body.new.tables c.behind-format.result c.in-Ok.ensures.taken c.behind-format.ensures c.take_body.ensures.catalog
    c.take_body.ensures.site)

pub returns-clause-read : goal.returns-clause-read
returns-clause-read c =
    let l = c.loop-index in
    reads_all (catalog_of c.args.tables) (site_of c.args.tables) c.args.header (map (λ body. body.items) c.args.bodies.now) l.index
    l.tables l.format l.records.items (let long = length-map c.args.bodies.now (λ body. body.items) in omega (arith, long)) l.invariant
