use Rattle.std.proofs.Common.{ap, sym, ◌∙◌}
use Rattle.std.specs.FinMap as map
use Rattle.walter_base.proofs.Maps.{get_entry}
use Rattle.walter_base.proofs.containers.Containers.get.Goals as goal

pub returns : goal.returns
returns c = c.copied.ensures ∙ c.get.ensures.value ∙ sym (get_entry c.self.inside.entries.entries c.args.number) ∙ ap (λ m. map.get m c.args.number) c.self.view_is
