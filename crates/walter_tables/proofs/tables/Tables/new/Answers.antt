use Rattle.std.proofs.Common.{refl, ap, sym, subst}
use Rattle.walter_tables.specs.Open.{AreOpenAt}
use Rattle.walter_tables.specs.Parts.{is_free}
use Rattle.walter_tables.specs.Sites.{values_of, site_of, catalog_of}
use Rattle.walter_tables.proofs.Fresh.{none_open, fresh_stands}
use Rattle.walter_tables.proofs.tables.Tables.new.Goals as goal

pub invariant_of-result-clause-ahead : goal.invariant_of-result-clause-ahead
invariant_of-result-clause-ahead c = λ n above. ap is_free (c.in_ok-locks.ensures.parts c.args.site n)

pub invariant_of-result-clause-open : goal.invariant_of-result-clause-open
invariant_of-result-clause-open c =
    subst (AreOpenAt c.args.catalog c.args.site) (sym c.new-7.ensures) (none_open c.args.catalog c.args.site)

pub returns-clause-stands : goal.returns-clause-stands
unfolding values_of site_of catalog_of
returns-clause-stands c = fresh_stands _ c.in_ok-log.ensures.log c.new-3.ensures c.new-4.ensures c.new-5.ensures c.new-durable.ensures
    c.in_ok-locks.ensures.parts c.in_ok-locks.ensures.owners c.new-6.ensures.last c.new-6.ensures.none c.new-7.ensures
    refl refl refl
