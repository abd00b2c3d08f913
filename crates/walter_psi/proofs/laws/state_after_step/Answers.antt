-- What a started transaction sees after one more step, from Seen.
use Rattle.walter_psi.proofs.Seen.{seen_updates_snoc}
use Rattle.walter_psi.proofs.laws.state_after_step.Goals as goal

pub returns : goal.returns
returns c = seen_updates_snoc
