use Rattle.walter_work.proofs.Working.{first_works, worked_so}
use Rattle.walter_work.proofs.laws.new_sites_work.Goals as goal

pub returns : goal.returns
returns g c = record { new = first_works _; worked = worked_so _ }
