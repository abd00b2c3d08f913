use Rattle.std.proofs.Common.{◌≡◌, IfSome, Some, sym, subst, ◌∙◌}
use Rattle.walter_rules.specs.Learning.{recorded}
use Rattle.walter_rules.specs.Records.{CanFollow, IsRecordAmong}
use Rattle.walter_tables.specs.Sites.{site_of, catalog_of, Stands}
use Rattle.walter_site.proofs.applying.keep_any.Goals as goal

pub returns-clause-stands : goal.returns-clause-stands
returns-clause-stands c = λ K S follows sizes.
    let t = c.args.tables.now in
    let is : c.args.rec ≡ Some c.in-Some.rec = sym c.into_option.ensures ∙ c.in-Some.is in
    subst (λ rec. Stands c.keep.new.self (recorded (catalog_of t) (site_of t) rec K)) (sym is)
    (c.keep.ensures.stands K S (subst (λ rec. IfSome rec (CanFollow (catalog_of t) (site_of t) K)) is follows)
    (subst (λ rec. IfSome rec (IsRecordAmong (catalog_of t).sites)) is sizes))
