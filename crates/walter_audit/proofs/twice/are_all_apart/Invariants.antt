use Rattle.std.proofs.Common.{◌<◌}
use Rattle.walter_base.specs.declared.names.SiteId.{SiteId}
use Rattle.walter_audit.specs.Journals.{journals_of}
use Rattle.walter_audit.specs.Questions.{AreApart}
use Rattle.walter_audit.proofs.twice.are_all_apart.Given as goal

-- those of the sites so far are
abbrev pub invariant-loop-told : goal.invariant-loop-told
invariant-loop-told l = (k : SiteId) → k.0 < l.told-index → AreApart (journals_of l.journals k)
