use Rattle.std.proofs.Common.{◌∙◌, ◌++◌, ◌∷◌, [], sym, ap, subst, arith, vec_capacity}
use Rattle.walter_slow.specs.Kept.{Kept}
use Rattle.walter_slow.specs.Sites.{HasRoom, is_missing}
use Rattle.walter_slow.proofs.Heard.{has_place, room_heard}
use Rattle.walter_slow.proofs.slow_commit.SlowCommit.hear.Goals as goal

pub push_reserved-requires : goal.push_reserved-requires
push_reserved-requires c =
    let s = c.self.inside in
    let from = c.args.from in
    let misses = ap (λ (s : Kept). is_missing from s.asked s.heard) c.self.view_is ∙ sym c.misses.ensures ∙ c.if-misses.true in
    omega (arith, has_place from s.asked s.heard.items (vec_capacity s.heard) c.self.invariant misses, s.heard.ok.0)

pub invariant_of-self : goal.invariant_of-self
invariant_of-self c =
    let s = c.self.inside in
    let from = c.args.from in
    let misses = ap (λ (s : Kept). is_missing from s.asked s.heard) c.self.view_is ∙ sym c.misses.ensures ∙ c.if-misses.true in
    subst (λ items. HasRoom s.asked items (vec_capacity c.push_reserved.new.self)) (sym c.push_reserved.ensures.items)
    (subst (HasRoom s.asked (s.heard.items ++ from ∷ [])) (sym c.push_reserved.ensures.capacity) (room_heard from s.asked s.heard.items (vec_capacity s.heard) c.self.invariant misses))
