use Rattle.walter_alone.proofs.Owed.{right_alone}
use Rattle.walter_alone.proofs.laws.a_client_with_a_transaction_is_owed_nothing.Goals as goal

pub returns : goal.returns
returns c = right_alone
