use Rattle.std.proofs.Common.{◌≤◌, sym, subst}
use Rattle.walter_base.specs.Vectors.{Covers}
use Rattle.walter_history.specs.Kept.{StandsForRows}
use Rattle.walter_history.specs.Lines.{lines_in, kept_of, room_in, room_of, IsOpen}
use Rattle.walter_history.proofs.LinesStand.{stands_over}
use Rattle.walter_history.proofs.history.History.fold.Goals as goal

pub invariant_of-self : goal.invariant_of-self
invariant_of-self c = (c.fold_lines-self-inside.ensures.own, c.fold_lines-self-inside.ensures.clean)

pub returns-clause-stands : goal.returns-clause-stands
returns-clause-stands c = λ oid rows stands.
    let floor = c.args.floor.now in
    let before = subst (λ t. StandsForRows oid t.floor (kept_of t oid) rows) (sym c.self.view_is) stands in
    let covers = subst (λ t. Covers floor t.floor) (sym c.self.view_is) c.requires in
    c.fold_lines-self-inside.ensures.stand.stands oid rows (stands_over oid c.self.inside.floor floor _ rows covers before)

pub returns-clause-folded : goal.returns-clause-folded
returns-clause-folded c = c.fold_lines-self-inside.ensures.folded

pub returns-clause-still : goal.returns-clause-still
returns-clause-still c = λ oid was. c.fold_lines-self-inside.ensures.stand.still oid (subst (λ t. IsOpen t oid) (sym c.self.view_is) was)

pub returns-clause-room : goal.returns-clause-room
returns-clause-room c = λ oid.
    subst (λ t. room_of t oid ≤ room_in (lines_in c.fold_lines-self-inside.new.lines.entries) oid) c.self.view_is (c.fold_lines-self-inside.ensures.stand.room oid)
