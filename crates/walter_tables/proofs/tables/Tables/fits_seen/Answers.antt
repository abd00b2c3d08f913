use Rattle.std.proofs.Common.{◌≡◌, true, sym, ◌∙◌, rules}
use Rattle.walter_tables.specs.Sites.{values_of, site_of, catalog_of}
use Rattle.walter_tables.proofs.FitsTold.{seen_follows, seen_back}
use Rattle.walter_tables.proofs.tables.Tables.fits_seen.Goals as goal

pub returns-then-not-hears-clause-fits : goal.returns-then-not-hears-clause-fits
unfolding values_of site_of catalog_of
returns-then-not-hears-clause-fits c = λ K S sizes.
    let old = c.args.self.now in (
      λ never. absurd cc,
      λ f. absurd (let is = c.hears.ensures ∙ (seen_back (values_of old) K S c.args.from c.args.seq f).0 in let none = c.if-not-hears.true in search rules),
    )

pub returns-then-is_next_here-clause-fits : goal.returns-then-is_next_here-clause-fits
unfolding values_of site_of catalog_of
returns-then-is_next_here-clause-fits c = λ K S sizes.
    let old = c.args.self.now in
    let hears : c.hears.result ≡ true = search rules in
    let next = c.is_next_here.ensures.0 c.if-is_next_here.true in (
      λ is. seen_follows (values_of old) K S c.args.from c.args.seq (sym c.hears.ensures ∙ hears) next.0 next.1 (c.covers_commit.ensures.0 is),
      λ f. c.covers_commit.ensures.1 (seen_back (values_of old) K S c.args.from c.args.seq f).3,
    )

pub returns-else-is_next_here-clause-fits : goal.returns-else-is_next_here-clause-fits
unfolding values_of site_of catalog_of
returns-else-is_next_here-clause-fits c = λ K S sizes.
    let old = c.args.self.now in (
      λ never. absurd cc,
      λ f. absurd (let back = seen_back (values_of old) K S c.args.from c.args.seq f in let is = c.is_next_here.ensures.1 (back.1, back.2) in let none = c.if-is_next_here.false in cc),
    )
