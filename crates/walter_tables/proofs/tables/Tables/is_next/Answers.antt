use Rattle.std.proofs.Common.{◌+◌, ℕ, ap, sym, ◌∙◌}
use Rattle.std.proofs.lemmas.Bool.{eqb-true, eq-eqb}
use Rattle.walter_tables.specs.Sites.{values_of, site_of, catalog_of}
use Rattle.walter_base.proofs.NameTests.{both}
use Rattle.walter_tables.proofs.FitsTold.{one_test, both_true, covers_there, covers_back}
use Rattle.walter_tables.proofs.tables.Tables.is_next.Goals as goal

pub returns-clause-next : goal.returns-clause-next
unfolding values_of site_of catalog_of
returns-clause-next c = λ K S.
    let old = c.args.self.now in
    one_test _ _
    (λ is. let told = c.accepts.ensures.0 is in
    both_true _ _ (eq-eqb c.args.seq (K.got c.args.from + 1) (told.0 ∙ ap (λ (n : ℕ). n + 1) (S.spread.received c.args.from)))
    (covers_there old.spread.got K.got S.spread.received c.args.start.now told.1))
    (λ is. let parts = both _ _ is in c.accepts.ensures.1 (
      eqb-true c.args.seq (K.got c.args.from + 1) parts.0 ∙ ap (λ (n : ℕ). n + 1) (sym (S.spread.received c.args.from)),
      covers_back old.spread.got K.got S.spread.received c.args.start.now parts.1,
    ))
