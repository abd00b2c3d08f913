use Rattle.std.proofs.Common.{◌++◌, ◌∷◌, [], Option, None, List, ap, ◌∙◌}
use Rattle.std.proofs.lemmas.List.{replicate_more}
use Rattle.walter_cluster.proofs.seating.make_list.Goals as goal

pub loop-preserved : goal.loop-preserved
loop-preserved g c =
    c.in_ok-push.ensures.items
    ∙ (ap (λ (l : List (Option g.row.C.Denot)). l ++ None ∷ []) c.loop.invariant ∙ replicate_more c.loop.counter None)
