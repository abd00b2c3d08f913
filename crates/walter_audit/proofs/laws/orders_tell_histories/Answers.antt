use Rattle.walter_audit.proofs.Found.{tells}
use Rattle.walter_audit.proofs.laws.orders_tell_histories.Goals as goal

pub returns : goal.returns
returns c catalog contents journals read none order is = tells catalog contents journals read none order is
