use Rattle.walter_world.proofs.Growing.{events_promise}
use Rattle.walter_world.proofs.laws.events_keep_promises.Goals as goal

pub returns : goal.returns
returns c format catalog first last events whole are happened =
    events_promise format catalog first last events whole are happened
