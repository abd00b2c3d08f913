use Rattle.std.proofs.Common.{sym, subst}
use Rattle.walter_base.specs.declared.message.Record.TheVariants.{Prepared}
use Rattle.walter_tables.specs.Keeping.{GoesOn}
use Rattle.walter_tables.specs.Sites.{values_of, site_of, catalog_of, Fits}
use Rattle.walter_tables.proofs.tables.Tables.fits.Goals as goal

pub returns-in-Prepared-clause-fits : goal.returns-in-Prepared-clause-fits
unfolding values_of site_of catalog_of
returns-in-Prepared-clause-fits c =
    let self = c.args.self.now in
    let is = c.in-Prepared in
    subst (λ rec. Fits self rec c.fits_prepared.result) (sym is.is)
    (subst (λ os. Fits self (Prepared is.from is.slow is.field-2 os) c.fits_prepared.result) c.as_slice.ensures
    (c.fits_prepared.ensures.fits is.field-2))

pub returns-in-Prepared-clause-on : goal.returns-in-Prepared-clause-on
unfolding values_of site_of catalog_of
returns-in-Prepared-clause-on c = λ told.
    let self = c.args.self.now in
    let is = c.in-Prepared in
    subst (GoesOn self) (sym is.is)
    (subst (λ os. GoesOn self (Prepared is.from is.slow is.field-2 os)) c.as_slice.ensures
    (c.fits_prepared.ensures.on is.field-2 told))
