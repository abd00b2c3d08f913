use Rattle.std.proofs.Common.{sym, ◌∙◌}
use Rattle.walter_engine.proofs.writing.spell_any.Goals as goal

pub returns-in_ok-spell-in-Some-clause-untouched : goal.returns-in_ok-spell-in-Some-clause-untouched
returns-in_ok-spell-in-Some-clause-untouched g c none =
    absurd (let e = sym none ∙ c.in-Some.ensures.some in cc)

pub returns-in_err-spell-in-Some-clause-untouched : goal.returns-in_err-spell-in-Some-clause-untouched
returns-in_err-spell-in-Some-clause-untouched g c none =
    absurd (let e = sym none ∙ c.in-Some.ensures.some in cc)
