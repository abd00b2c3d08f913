use Rattle.std.proofs.Common.{◌≡◌, ◌<◌, ◌≤◌, ◌+◌, true≢false, ap, sym, ◌∙◌, subst, arith, if◌then◌else◌}
use Rattle.indexmap.specs.IndexMap.{set_value_at}
use Rattle.walter_base.specs.Names.{same_object}
use Rattle.walter_history.specs.Folded.{appended}
use Rattle.walter_history.specs.Kept.{Kept, IsKeptOf, IsClean}
use Rattle.walter_history.specs.Lines.{lines_in, line_in, kept_in, kept_of, room_in, room_of, IsOpen, AreFirst}
use Rattle.walter_history.proofs.LinesFirst.{set_behind}
use Rattle.walter_history.proofs.LinesSet.{entry_found, sets_at, line_at, none_found, kept_at, room_at, no_room, still, kept_set, room_less, own_set}
use Rattle.walter_history.proofs.LinesStand.{own_same, same_kept, same_room, same_open}
use Rattle.walter_history.proofs.Owned.{appended_own}
use Rattle.walter_history.proofs.history.History.append.Goals as goal

pub returns-in_default : goal.returns-in_default
returns-in_default c =
    let none = none_found c.self.inside.lines.entries c.args.oid (sym c.in_default.ensures.found) in
    let room = subst (λ t. 0 < room_of t c.args.oid) (sym c.self.view_is) c.requires.room in
    absurd (omega (arith, no_room _ c.args.oid none, room))

pub returns-in_default-get_index_mut : goal.returns-in_default-get_index_mut
returns-in_default-get_index_mut c = absurd (true≢false (sym (c.in_default-get_index_mut.ensures.found.1 c.leave_clean-place.ensures.within)))

pub invariant_of-self : goal.invariant_of-self
invariant_of-self c = (
  own_same (lines_in c.self.inside.lines.entries) (lines_in c.leave_clean-place.new.lines.entries) c.leave_clean-place.ensures.same c.self.invariant.0,
  subst (λ n. AreFirst IsClean n c.leave_clean-place.new.lines.entries) (sym c.min-self-inside.ensures) c.leave_clean-place.ensures.clean,
)

pub append-requires : goal.append-requires
append-requires c =
    let old = c.self.inside.lines.entries in
    let lines = c.leave_clean-place.new.lines in
    let place = c.leave_clean-place.result in
    let oid = c.args.oid in
    let was = c.in-Some-get_index_mut.line.now in
    let same = c.leave_clean-place.ensures.same in
    let unique = c.in-Some-get_index_mut.ensures.unique in
    let at = entry_found old lines.entries oid c.in-Some.found place was (sym c.in-Some.ensures.index) c.leave_clean-place.ensures.moved c.in-Some-get_index_mut.ensures.value in
    let here = line_at lines place oid was unique at in
    let room = subst (λ t. 0 < room_of t oid) (sym c.self.view_is) c.requires.room in
    subst (λ n. 0 < n) (sym (same_room (lines_in old) (lines_in lines.entries) same oid) ∙ room_at (lines_in lines.entries) oid (line_in was) here) room

pub invariant_of-self-2 : goal.invariant_of-self-2
invariant_of-self-2 c =
    let old = c.self.inside.lines.entries in
    let lines = c.leave_clean-place.new.lines in
    let place = c.leave_clean-place.result in
    let oid = c.args.oid in
    let was = c.in-Some-get_index_mut.line.now in
    let same = c.leave_clean-place.ensures.same in
    let unique = c.in-Some-get_index_mut.ensures.unique in
    let at = entry_found old lines.entries oid c.in-Some.found place was (sym c.in-Some.ensures.index) c.leave_clean-place.ensures.moved c.in-Some-get_index_mut.ensures.value in
    let here = line_at lines place oid was unique at in
    let v = c.append.new.line in
    let first = subst (λ n. AreFirst IsClean n lines.entries) (sym c.min-self-inside.ensures) c.leave_clean-place.ensures.clean in
    let own = own_same (lines_in old) (lines_in lines.entries) same c.self.invariant.0 in
    let own_it = appended_own oid _ c.args.row (subst (IsKeptOf oid) (kept_at (lines_in lines.entries) oid (line_in was) here) (own oid)) c.requires.own in (
      own_set (lines_in lines.entries) (lines_in (set_value_at lines.entries place v)) oid (line_in v) (sets_at lines place oid was unique at v) own (subst (IsKeptOf oid) (sym {A = Kept} c.append.ensures.kept) own_it),
      set_behind IsClean c.min-self-inside.result lines.entries first place v (omega (arith, c.min-self-inside.ensures)),
    )

pub returns : goal.returns
returns c =
    let old = c.self.inside.lines.entries in
    let lines = c.leave_clean-place.new.lines in
    let place = c.leave_clean-place.result in
    let oid = c.args.oid in
    let was = c.in-Some-get_index_mut.line.now in
    let same = c.leave_clean-place.ensures.same in
    let unique = c.in-Some-get_index_mut.ensures.unique in
    let at = entry_found old lines.entries oid c.in-Some.found place was (sym c.in-Some.ensures.index) c.leave_clean-place.ensures.moved c.in-Some-get_index_mut.ensures.value in
    let here = line_at lines place oid was unique at in
    let v = c.append.new.line in
    let before = lines_in old in
    let mid = lines_in lines.entries in
    let after = lines_in (set_value_at lines.entries place v) in
    let sets = sets_at lines place oid was unique at v in
    let keeps : (line_in v).kept ≡ appended c.args.row (kept_in before oid) =
    c.append.ensures.kept ∙ ap (appended c.args.row) (sym {A = Kept} (kept_at mid oid (line_in was) here) ∙ same_kept before mid same oid) in
    let less = subst (λ n. n ≤ (line_in v).room + 1) (sym (room_at mid oid (line_in was) here)) c.append.ensures.room in
    let rooms : room_in mid ≡ room_in before = (λ i o. same_room before mid same o i) in
    record {
      still = λ other was. still mid after oid (line_in v) sets other (same_open before mid same other (subst (λ t. IsOpen t other) (sym c.self.view_is) was));
      kept = λ other.
          kept_set mid after oid (line_in v) sets other
          ∙ ap (λ kept. if same_object oid other then kept else kept_in mid other) keeps
          ∙ ap (λ kept. if same_object oid other then appended c.args.row (kept_in before oid) else kept) (same_kept before mid same other)
          ∙ ap (λ t. if same_object oid other then appended c.args.row (kept_of t oid) else kept_of t other) c.self.view_is;
      room = λ other.
          subst (λ t. (if same_object oid other then room_of t oid else room_of t other + 1) ≤ room_in after other + 1) c.self.view_is
          (subst (λ rooms. (if same_object oid other then rooms oid else rooms other + 1) ≤ room_in after other + 1) rooms (room_less mid after oid (line_in v) sets less other));
      floor = ap (λ t. t.floor) c.self.view_is;
    }
