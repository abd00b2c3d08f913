use Rattle.std.proofs.Common.{◌≡◌, ◌<◌, ◌≤◌, ◌-◌, ◌++◌, ◌∷◌, List, Some, length, take, drop, get_or, vec_len, ap, sym, ◌∙◌, subst, arith}
use Rattle.std.specs.Prelude.{slice_get}
use Rattle.std.specs.Option.{unwrap_or}
use Rattle.walter_base.specs.declared.update.Row.{Row}
use Rattle.walter_history.specs.Folded.{last_seen}
use Rattle.walter_history.specs.Rows.{bytes_of}
use Rattle.walter_history.proofs.Fronts.{in_three, last_turned, first_turned}
use Rattle.walter_history.proofs.folding.fold_writes.Goals as goal

pub returns-clause-folds : goal.returns-clause-folds
returns-clause-folds c =
    let rows = c.args.writes.now.items in
    let f = c.seen_front-front.result in
    let same = c.deref.ensures.value in
    let some : 0 < f = omega (arith, c.if-front-eq0.false) in
    let within : f ≤ length rows = subst (λ (rs : List Row). f ≤ length rs) same c.seen_front-front.ensures.within in
    let at = c.seen_front-front.ensures.front some in
    let row = at.0 in
    let is : slice_get rows (f - 1) ≡ Some row = ap (λ (rs : List Row). slice_get rs (f - 1)) (sym same) ∙ at.1 in
    let long : vec_len c.rotate_left.new.self ≡ length rows = omega (arith, c.rotate_left.ensures.len, c.deref.ensures.len, ap length same) in
    let popped = c.pop.ensures.value row (omega (arith, long, some, within)) in
    let last : c.in-Some.last ≡ row =
    ap (λ o. unwrap_or o row) (sym c.in-Some.is ∙ popped)
    ∙ ap (λ (rs : List Row). get_or rs (vec_len c.rotate_left.new.self - 1) row) c.rotate_left.ensures.items
    ∙ last_turned rows f row some within is (vec_len c.rotate_left.new.self - 1) (omega (arith, long))
    in
    let left : c.truncate.new.self.items ≡ drop f rows =
    c.truncate.ensures.items
    ∙ ap (take (c.len.result - f)) (c.pop.ensures.rest ∙ ap (take (vec_len c.rotate_left.new.self - 1)) c.rotate_left.ensures.items)
    ∙ first_turned rows f (c.len.result - f) (vec_len c.rotate_left.new.self - 1) some within (omega (arith, c.len.ensures, c.deref.ensures.len, ap length same)) (omega (arith, long))
    in
    last_seen (take (f - 1) rows) row
    (in_three rows f row some within is ∙ ap (λ (rs : List Row). take (f - 1) rows ++ row ∷ rs) (sym {A = List Row} left))
    at.2
    (c.written.ensures ∙ ap (λ (r : Row). bytes_of r.update) last)
