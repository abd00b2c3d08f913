use Rattle.std.proofs.Common.{refl}
use Rattle.walter_engine.proofs.engine.Engine.new.Goals as goal
use Rattle.walter_machine.proofs.Records.{told_unmade}
use Rattle.walter_rules.specs.Standing.{unmade}

pub returns-clause-fresh : goal.returns-clause-fresh
returns-clause-fresh g c =
    c.new.ensures.stands unmade refl refl (λ client. refl) (told_unmade c.in-Ok.copy c.args.site)
