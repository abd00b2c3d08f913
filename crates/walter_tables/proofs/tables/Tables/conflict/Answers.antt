use Rattle.std.proofs.Common.{sym, ◌∙◌}
use Rattle.walter_locks.specs.Parts.{owner_of}
use Rattle.walter_tables.specs.Sites.{values_of, site_of, catalog_of}
use Rattle.walter_tables.specs.Versions.{versions_of}
use Rattle.walter_tables.proofs.ConflictsTold.{conflict_told, not_locked}
use Rattle.walter_tables.proofs.tables.Tables.conflict.Goals as goal

pub returns-clause-rule : goal.returns-clause-rule
unfolding values_of site_of catalog_of
returns-clause-rule c = λ K S.
    c.err.ensures.value ∙ c.fast.ensures
    ∙ conflict_told (values_of c.args.self.now) K S c.args.start.now c.args.objects.now

pub returns-clause-clear : goal.returns-clause-clear
returns-clause-clear c = λ none.
    let now = c.args.self.now in
    not_locked (versions_of now.history) (owner_of now.locks) c.args.start.now c.args.objects.now
    (sym (c.err.ensures.value ∙ c.fast.ensures) ∙ none)
