use Rattle.std.proofs.Common.{◌≡◌, Some, None, option_map, refl, ap, sym, ◌∙◌}
use Rattle.std.specs.Option.{option_copied}
use Rattle.walter_cset.specs.Totals.{tally_of}
use Rattle.walter_cset.proofs.Sets.{entries_of, tally_found}
use Rattle.walter_cset.proofs.totals.Totals.tally.Goals as goal

pub returns-clause-tally : goal.returns-clause-tally
returns-clause-tally c =
    (elim c.get.result as (λ r. option_map (λ tally. tally.now.entries) r ≡ option_map entries_of (option_copied r)) [ Some t ↦ refl | None ↦ refl ])
    ∙ ap (option_map entries_of) c.get.ensures.value ∙ sym (tally_found c.self.inside.sets.entries c.args.oid) ∙ ap (λ t. tally_of t.sets c.args.oid) c.self.view_is
