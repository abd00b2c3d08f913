use Rattle.std.proofs.Common.{length, ap, ◌∙◌}
use Rattle.walter_base.specs.declared.catalog.Catalog.{Catalog}
use Rattle.walter_make.specs.Calls.{drawing_of}
use Rattle.walter_make.specs.Made.{steps_of}
use Rattle.walter_make.proofs.Playable.{made_steps_right}
use Rattle.walter_make.proofs.making.make.Goals as goal

pub returns-clause-steps : goal.returns-clause-steps
returns-clause-steps c =
    let calls = c.in_ok-client_calls.ensures.calls in
    made_steps_right c.in_ok-made_catalog.field-0.sites (length c.from.result) c.from-3.result c.args.calls
    (drawing_of c.args.number)
    (ap (λ (x : Catalog). x.sites) c.in_ok-made_catalog.ensures)
    (ap length (c.from.ensures ∙ c.in_ok-clients.ensures))
    (c.from-3.ensures ∙ c.in_ok-steps.ensures ∙ ap steps_of (c.deref-2.ensures.value ∙ calls))
