use Rattle.std.proofs.Common.{◌≡◌, true, sym, ◌∙◌, rules}
use Rattle.walter_tables.specs.Sites.{values_of, site_of, catalog_of}
use Rattle.walter_tables.proofs.FitsTold.{got_follows, got_back}
use Rattle.walter_tables.proofs.tables.Tables.fits_got.Goals as goal

pub returns-then-not-hears-clause-fits : goal.returns-then-not-hears-clause-fits
unfolding values_of site_of catalog_of
returns-then-not-hears-clause-fits c = λ K S sizes.
    let old = c.args.self.now in (
      λ never. absurd cc,
      λ f. absurd (let is = c.hears.ensures ∙ (got_back (values_of old) K S c.args.from c.args.seq c.args.tx.now f).0 in let none = c.if-not-hears.true in search rules),
    )

pub returns-clause-fits : goal.returns-clause-fits
unfolding values_of site_of catalog_of
returns-clause-fits c = λ K S sizes.
    let old = c.args.self.now in
    let hears : c.hears.result ≡ true = search rules in (
      λ is. got_follows (values_of old) K S c.args.from c.args.seq c.args.tx.now (sym c.hears.ensures ∙ hears) (sym (c.accepts.ensures.accepts K S) ∙ is),
      λ f. c.accepts.ensures.accepts K S ∙ (got_back (values_of old) K S c.args.from c.args.seq c.args.tx.now f).1,
    )
