use Rattle.walter_tables.specs.Sites.{values_of}
use Rattle.walter_tables.proofs.BeingDecided.{undecided_is}
use Rattle.walter_tables.proofs.tables.Tables.is_undecided.Goals as goal

pub returns : goal.returns
unfolding values_of
returns c = λ K S.
    let self = c.args.self.now in
    undecided_is self.catalog self.site K S.sound c.args.tid self.slow c.has_undecided.result S.slow
    c.has_undecided.ensures
