use Rattle.std.proofs.Common.{inl, inr, sym, subst}
use Rattle.walter_tables.specs.Sites.{catalog_of, Stands}
use Rattle.walter_site.proofs.Left.{IsIdle, all_left}
use Rattle.walter_site.proofs.applying.take_in.Goals as goal

pub returns-in-Advance-clause-stands : goal.returns-in-Advance-clause-stands
returns-in-Advance-clause-stands c = λ K wrote S begun news.
    let t = c.args.tables.now in
    let input = c.args.input.now in
    let outcome = c.args.outcome.now in
    let idle : IsIdle input outcome = elim c.in-Advance.is [
      | inl advance ↦ subst (λ x. IsIdle x outcome) (sym advance.1) tt
      | inr other ↦ elim other [
        | inl tick ↦ subst (λ x. IsIdle x outcome) (sym tick) tt
        | inr upgrade ↦ subst (λ x. IsIdle x outcome) (sym upgrade) tt
      ]
    ] in
    subst (Stands t) (sym (all_left (catalog_of t) wrote K input outcome c.requires.of_input idle)) S
