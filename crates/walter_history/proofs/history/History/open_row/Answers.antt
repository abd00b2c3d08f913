use Rattle.std.proofs.Common.{rules, ◌≡◌, ◌∷◌, [], ap, sym, ◌∙◌, subst}
use Rattle.std.specs.Map.{lookup}
use Rattle.indexmap.proofs.CallerLemmas.{insert_entry-new}
use Rattle.walter_base.specs.Names.{same_object}
use Rattle.walter_history.specs.Kept.{Kept, IsClean}
use Rattle.walter_history.proofs.LinesFirst.{append_behind}
use Rattle.walter_history.specs.Lines.{AreFirst, lines_in, kept_of, room_of, IsOpen}
use Rattle.walter_history.proofs.LinesSet.{no_value, unchanged, found_some, none_found, no_kept, no_room, sets_line, opened, still, kept_kept, room_kept, own_set}
use Rattle.walter_history.proofs.Owned.{none_own}
use Rattle.walter_history.proofs.history.History.open_row.Goals as goal

pub returns-then-contains_key-clause-opened : goal.returns-then-contains_key-clause-opened
returns-then-contains_key-clause-opened c =
    subst (λ t. IsOpen t c.args.oid) c.self.view_is (found_some c.self.inside.lines.entries c.args.oid (sym c.contains_key.ensures ∙ c.if-contains_key.true))

pub invariant_of-self-2 : goal.invariant_of-self-2
invariant_of-self-2 c =
    let entries = c.self.inside.lines.entries in
    let oid = c.args.oid in
    let sets = sets_line entries c.insert.new.self.entries oid c.no_line.result c.in_ok-insert.ensures.updates.0 in
    let none = no_value (lookup (same_object oid) entries) (sym c.contains_key.ensures ∙ c.if-contains_key.false) in
    let last = c.in_ok-insert.ensures.entries ∙ insert_entry-new same_object c.self.inside.lines oid c.no_line.result none in (
      own_set (lines_in entries) _ oid _ sets c.self.invariant.0 (none_own oid _ c.no_line.ensures.kept),
      subst (AreFirst IsClean c.self.inside.clean) (sym last) (append_behind IsClean c.self.inside.clean entries ((oid, c.no_line.result) ∷ []) c.self.invariant.1),
    )

pub returns : goal.returns
returns c =
    let lines = lines_in c.self.inside.lines.entries in
    let oid = c.args.oid in
    let sets = sets_line c.self.inside.lines.entries c.insert.new.self.entries oid c.no_line.result c.in_ok-insert.ensures.updates.0 in
    let none = none_found c.self.inside.lines.entries oid (sym c.contains_key.ensures ∙ c.if-contains_key.false) in
    record {
      opened = opened _ _ oid _ sets;
      still = λ other was. still _ _ oid _ sets other (subst (λ t. IsOpen t other) (sym c.self.view_is) was);
      kept = λ other. kept_kept _ _ oid _ sets (c.no_line.ensures.kept ∙ sym {A = Kept} (no_kept lines oid none)) other ∙ ap (λ t. kept_of t other) c.self.view_is;
      room = λ other. room_kept _ _ oid _ sets (c.no_line.ensures.room ∙ sym (no_room lines oid none)) other ∙ ap (λ t. room_of t other) c.self.view_is;
      floor = ap (λ t. t.floor) c.self.view_is;
    }

pub invariant_of-self : goal.invariant_of-self
invariant_of-self c =
    let same : c.insert.new.self.entries ≡ c.self.inside.lines.entries = search rules in
    unchanged c.self.inside.clean _ _ same c.self.invariant
