use Rattle.std.proofs.Common.{◌≡◌, IfSome, Some, subst}
use Rattle.walter_tables.specs.Keeping.{GoesOn}
use Rattle.walter_site.proofs.Readied.{known_site}
use Rattle.walter_site.proofs.readying.make_ready.Goals as goal

pub reserve-requires-clause-site : goal.reserve-requires-clause-site
reserve-requires-clause-site c =
    let is = subst (λ found. IfSome found (λ rec. c.args.rec.now ≡ Some rec.now)) c.in-Some.is c.as_ref.ensures.some in
    known_site c.args.tables.now c.in-Some.rec.now (subst (λ rec. IfSome rec (GoesOn c.args.tables.now)) is c.requires.on)
