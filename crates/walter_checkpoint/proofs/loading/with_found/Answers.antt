use Rattle.std.proofs.Common.{◌∙◌, arith, rules}
use Rattle.walter_checkpoint.proofs.Openings.{read_end, read_within, whole_packed}
use Rattle.walter_checkpoint.proofs.loading.with_found.Goals as goal

pub new-requires-clause-within : goal.new-requires-clause-within
new-requires-clause-within g c = omega (arith, read_within _ _ _ _ _ c.requires.opened.read, c.requires.opened.size)

pub returns-clause-goes_on : goal.returns-clause-goes_on
returns-clause-goes_on g c =
    let read = c.requires.opened.read in
    record { packed = read.packed; behind = read.behind; are = read.are; whole = whole_packed _ _ _ _ read.is_front; with = record { end = c.new.ensures.end ∙ read_end _ _ _ _ _ read; limit = search rules } }
