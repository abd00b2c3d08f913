use Rattle.walter_linked.proofs.Senders.{trails_propagated}
use Rattle.walter_linked.proofs.laws.sites_propagate_their_own.Goals as goal

pub returns : goal.returns
returns c catalog layouts trails whole = trails_propagated catalog layouts whole trails
