use Rattle.walter_world.proofs.Growing.{step_right, promises}
use Rattle.walter_world.proofs.laws.steps_keep_promises.Goals as goal

pub returns-clause-right : goal.returns-clause-right
returns-clause-right c format catalog old new e below right steps =
    step_right format catalog old new e below right steps

pub returns-clause-promises : goal.returns-clause-promises
returns-clause-promises c format catalog trails whole right = promises format catalog trails whole right
