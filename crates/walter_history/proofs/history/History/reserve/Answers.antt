use Rattle.std.proofs.Common.{rules, ◌≡◌, ◌≤◌, sym, ap, ◌∙◌, subst, OnOk, Ok, Err}
use Rattle.walter_base.specs.Names.{same_object}
use Rattle.walter_history.specs.Kept.{Kept, IsKeptOf, IsClean}
use Rattle.walter_history.proofs.LinesFirst.{set_same}
use Rattle.walter_history.specs.Lines.{AreFirst, lines_in, line_in, kept_of, room_in, room_of, IsOpen}
use Rattle.walter_history.proofs.LinesSet.{unchanged, line_is, no_line, closed, kept_at, room_at, sets_lent, line_now, opened, still, kept_kept, room_more, own_set}
use Rattle.walter_history.proofs.history.History.reserve.Goals as goal

pub returns-in_default-clause-enough : goal.returns-in_default-clause-enough
returns-in_default-clause-enough c =
    let none = no_line c.self.inside.lines.entries c.args.oid c.in_default.ensures.value in
    absurd (closed _ c.args.oid none (subst (λ t. IsOpen t c.args.oid) (sym c.self.view_is) c.in_ok-open_row.ensures.opened))

pub invariant_of-self-2 : goal.invariant_of-self-2
invariant_of-self-2 c =
    let entries = c.self.inside.lines.entries in
    let oid = c.args.oid in
    let here = line_is entries oid c.in-Some.line.now c.in-Some.ensures.value in
    let was = c.in-Some.line.now in
    let v = c.make_room.new.line in
    let writes = c.get_mut.follows.holds v in
    let sets = sets_lent c.self.inside.lines _ oid was v c.in-Some.ensures.value writes in
    let own = subst (IsKeptOf oid) (kept_at (lines_in entries) oid _ here ∙ sym {A = Kept} c.make_room.ensures.kept) (c.self.invariant.0 oid) in (
      own_set (lines_in entries) _ oid _ sets c.self.invariant.0 own,
      subst (AreFirst IsClean c.self.inside.clean) (sym writes.0)
          (set_same IsClean c.self.inside.clean entries c.self.invariant.1 (same_object oid) was v (sym c.in-Some.ensures.value) c.make_room.ensures.kept),
    )

pub returns : goal.returns
returns c =
    let lines = lines_in c.self.inside.lines.entries in
    let oid = c.args.oid in
    let v = c.make_room.new.line in
    let here = line_is c.self.inside.lines.entries oid c.in-Some.line.now c.in-Some.ensures.value in
    let sets = sets_lent c.self.inside.lines _ oid c.in-Some.line.now v c.in-Some.ensures.value (c.get_mut.follows.holds v) in
    let same = c.make_room.ensures.kept ∙ sym {A = Kept} (kept_at lines oid _ here) in
    let more = subst (λ n. n ≤ (line_in v).room) (sym (room_at lines oid _ here)) c.make_room.ensures.more in
    let now = opened lines _ oid _ sets in
    record {
      enough = subst (λ n. OnOk c.make_room.result (c.args.k ≤ n)) (sym (room_at _ oid _ (line_now lines _ oid _ sets))) c.make_room.ensures.enough;
      opened = elim c.make_room.result as (λ r. OnOk r (IsOpen (record { floor = c.self.inside.floor; lines = lines_in (c.get_mut.follows.lender v).entries }) oid)) [ Ok _ ↦ now | Err _ ↦ tt ];
      still = λ other was. still lines _ oid _ sets other (subst (λ t. IsOpen t other) (sym c.self.view_is) (c.in_ok-open_row.ensures.still other was));
      kept = λ other. kept_kept lines _ oid _ sets same other ∙ ap (λ t. kept_of t other) c.self.view_is ∙ c.in_ok-open_row.ensures.kept other;
      room = λ other.
          let before : room_in lines other ≡ room_of c.args.self.now other = ap (λ t. room_of t other) c.self.view_is ∙ c.in_ok-open_row.ensures.room other in
          subst (λ n. n ≤ room_in (lines_in (c.get_mut.follows.lender v).entries) other) before (room_more lines _ oid _ sets more other);
      floor = ap (λ t. t.floor) c.self.view_is ∙ c.in_ok-open_row.ensures.floor;
    }

pub invariant_of-self : goal.invariant_of-self
invariant_of-self c =
    let same : c.get_mut.follows.lender-at-none.entries ≡ c.self.inside.lines.entries = search rules in
    unchanged c.self.inside.clean _ _ same c.self.invariant
