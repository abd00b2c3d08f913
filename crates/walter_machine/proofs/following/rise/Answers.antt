use Rattle.std.proofs.Common.{sym, subst}
use Rattle.walter_machine.proofs.following.rise.Goals as goal
use Rattle.walter_site.specs.Members.{IsStanding}
use Rattle.walter_tables.specs.declared.tables.Tables.{Tables}

pub new-requires : goal.new-requires
new-requires c = subst (λ (t : Tables). IsStanding t) (sym c.into_inner.ensures) c.requires
