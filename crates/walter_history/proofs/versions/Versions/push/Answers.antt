use Rattle.std.proofs.Common.{All, sym, subst}
use Rattle.walter_history.specs.Reaches.{Reaches}
use Rattle.walter_history.proofs.Covered.{reaches_push}
use Rattle.walter_history.proofs.versions.Versions.push.Goals as goal

pub invariant_of-self : goal.invariant_of-self
invariant_of-self c =
    let reach = c.with_version-self-inside in
    subst (All (Reaches reach.result)) (sym c.push_reserved.ensures.items)
    (reaches_push c.self.inside.reach reach.result c.self.inside.items.items c.args.version reach.ensures.keeps c.self.invariant reach.ensures.sees)
