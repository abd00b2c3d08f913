use Rattle.std.proofs.Common.{ap, ◌∙◌}
use Rattle.std.specs.Prelude.{pos}
use Rattle.std.specs.Option.{option_map_or}
use Rattle.walter_cset.specs.Tallies.{number_in}
use Rattle.walter_rows.proofs.reading.base_of.Goals as goal

pub returns-in-Some-clause-numbers : goal.returns-in-Some-clause-numbers
returns-in-Some-clause-numbers c = λ id. ap (λ o. option_map_or (λ t. number_in t id) o (pos 0)) c.in-Some.ensures.tally

pub returns-in-None-clause-numbers : goal.returns-in-None-clause-numbers
returns-in-None-clause-numbers c = λ id. ap (λ es. number_in es id) c.requires ∙ ap (λ o. option_map_or (λ t. number_in t id) o (pos 0)) c.in-None.ensures.tally
