-- At a floor lines stand for what others stood for.
use Rattle.std.proofs.Common.{◌≡◌, ℕ, ◌≤◌, true, false, List, Option, Some, None, IsSome, IfSome, All, length, slice_get, option_map, refl, ap, sym, ◌∙◌, subst, arith, if◌then◌else◌}
use Rattle.std.specs.Option.{option_map_or}
use Rattle.std.specs.Map.{lookup, values_of}
use Rattle.std.proofs.lemmas.List.{take_all}
use Rattle.std.proofs.lemmas.Map.Entries.{All-lookup}
use Rattle.indexmap.specs.IndexMap.{IndexMap, IsUnique, set_value_at}
use Rattle.walter_base.specs.declared.names.ObjId.{ObjId}
use Rattle.walter_base.specs.declared.update.Row.{Row}
use Rattle.walter_base.specs.Names.{same_object}
use Rattle.walter_base.specs.Vectors.{Covers}
use Rattle.walter_base.proofs.NameTests.{same_object-true}
use Rattle.walter_history.specs.declared.line.Line.{Line as Held}
use Rattle.walter_history.specs.Folded.{Folds}
use Rattle.walter_history.specs.Kept.{Kept, none_kept, IsFoldedAt, IsKeptOf, StandsForRows}
use Rattle.walter_history.specs.Lines.{Line, line_of, lines_in, line_in, kept_in, room_in, kept_by, AreFirst, AreOwn, StandAs}
use Rattle.walter_history.proofs.LinesFold.{kept_own}
use Rattle.walter_history.proofs.LinesSet.{Sets, line_found, kept_at, room_at, kept_set, room_more, still, own_set, entry_of, sets_at, line_at}
use Rattle.walter_history.proofs.Standing.{stands_folded}

-- what stands at a vector stands at each that covers it
pub stands_over : (oid : ObjId) (floor higher : List ℕ) (kept : Kept) (rows : List Row) → Covers higher floor → StandsForRows oid floor kept rows → StandsForRows oid higher kept rows
stands_over oid floor higher kept rows covers stands =
    let over : (v : List ℕ) → Covers v higher → Covers v floor = λ v above k. omega (arith, above k, covers k) in
    record {
      value = λ v above. stands.value v (over v above);
      counts = λ v w above_v above_w id. stands.counts v w (over v above_v) (over w above_w) id;
      versions = stands.versions;
    }

-- lines at which each look-up finds the same
pub same_lines : (before after : List (ObjId × Held)) → ((oid : ObjId) → lookup (same_object oid) after ≡ lookup (same_object oid) before) → (oid : ObjId) → line_of (lines_in after) oid ≡ line_of (lines_in before) oid
same_lines before after same oid = line_found after oid ∙ ap (option_map line_in) (same oid) ∙ sym (line_found before oid)

module _ (old new : List (ObjId × Line)) (same : (oid : ObjId) → line_of new oid ≡ line_of old oid) where
  pub same_kept : (oid : ObjId) → kept_in new oid ≡ kept_in old oid
  same_kept oid = ap (λ o. option_map_or (λ l. l.kept) o none_kept) (same oid)

  pub same_room : (oid : ObjId) → room_in new oid ≡ room_in old oid
  same_room oid = ap (λ o. option_map_or (λ l. l.room) o 0) (same oid)

  pub same_open : (oid : ObjId) → IsSome (line_of old oid) → IsSome (line_of new oid)
  same_open oid was = subst (λ o. IsSome o) (sym (same oid)) was

  pub stand_same : (floor : List ℕ) → StandAs floor old new
  stand_same floor = record {
    stands = λ oid rows. subst (λ (k : Kept). StandsForRows oid floor k rows) (sym {A = Kept} (same_kept oid));
    still = same_open;
    room = λ oid. omega (arith, same_room oid);
  }

  pub own_same : AreOwn old → AreOwn new
  own_same own oid = subst (IsKeptOf oid) (sym {A = Kept} (same_kept oid)) (own oid)

-- one step behind another
pub stand_both : (floor : List ℕ) (a b c : List (ObjId × Line)) → StandAs floor a b → StandAs floor b c → StandAs floor a c
stand_both floor a b c first second = record {
  stands = λ oid rows stands. second.stands oid rows (first.stands oid rows stands);
  still = λ oid was. second.still oid (first.still oid was);
  room = λ oid. omega (arith, first.room oid, second.room oid);
}

-- the line of one object is folded
module _ (floor : List ℕ) (old new : List (ObjId × Line)) (oid : ObjId) (was line : Line) (sets : Sets old new oid line) (at : line_of old oid ≡ Some was)
    (folds : Folds floor was.kept line.kept) (own : AreOwn old) where
  folds_it : Folds floor (kept_in old oid) line.kept
  folds_it = subst (λ (k : Kept). Folds floor k line.kept) (sym {A = Kept} (kept_at old oid was at)) folds

  pub own_folded : AreOwn new
  own_folded = own_set old new oid line sets own (kept_own oid floor (kept_in old oid) line.kept folds_it (own oid))

  pub stand_folded : was.room ≤ line.room → StandAs floor old new
  stand_folded more = record {
    stands = λ o rows stands.
        subst (λ (k : Kept). StandsForRows o floor k rows) (sym {A = Kept} (kept_set old new oid line sets o))
        (elim (same_object oid o) as (λ b. same_object oid o ≡ b → StandsForRows o floor (if b then line.kept else kept_in old o) rows) [
          | true ↦ λ is.
              let here = same_object-true oid o is in
              subst (λ p. StandsForRows p floor line.kept rows) here
              (stands_folded oid floor floor (kept_in old oid) line.kept rows (λ k. omega arith) (own oid) folds_it
              (subst (λ p. StandsForRows p floor (kept_in old p) rows) (sym here) stands))
          | false ↦ λ is. stands
        ] refl);
    still = still old new oid line sets;
    room = room_more old new oid line sets (subst (λ n. n ≤ line.room) (sym (room_at old oid was at)) more);
  }

-- the line at a place of the map is folded
module _ {S : Type 0} (floor : List ℕ) (map : IndexMap ObjId Held S) (place : ℕ) (was line : Held) (unique : IsUnique same_object map) (value : Some was ≡ slice_get (values_of map.entries) place)
    (folds : Folds floor (kept_by was) (kept_by line)) (own : AreOwn (lines_in map.entries)) where
  pub own_at : AreOwn (lines_in (set_value_at map.entries place line))
  own_at =
      let entry = entry_of map.entries place was value in
      own_folded floor (lines_in map.entries) (lines_in (set_value_at map.entries place line)) entry.0 (line_in was) (line_in line)
      (sets_at map place entry.0 was unique entry.1 line) (line_at map place entry.0 was unique entry.1) folds own

  pub stand_at : (line_in was).room ≤ (line_in line).room → StandAs floor (lines_in map.entries) (lines_in (set_value_at map.entries place line))
  stand_at more =
      let entry = entry_of map.entries place was value in
      stand_folded floor (lines_in map.entries) (lines_in (set_value_at map.entries place line)) entry.0 (line_in was) (line_in line)
      (sets_at map place entry.0 was unique entry.1 line) (line_at map place entry.0 was unique entry.1) folds own more

-- where all lines are folded, a look-up finds one that is
pub all_folded : (floor : List ℕ) (es : List (ObjId × Held)) → AreFirst (IsFoldedAt floor) (length es) es → (oid : ObjId) → IsFoldedAt floor (kept_in (lines_in es) oid)
all_folded floor es first oid =
    let all = subst (All (λ (e : ObjId × Held). IsFoldedAt floor (kept_by e.1))) (take_all (length es) es (omega arith)) first.each in
    subst (λ o. IsFoldedAt floor (option_map_or (λ l. l.kept) o none_kept)) (sym (line_found es oid))
    (by (lookup (same_object oid) es) (All-lookup (λ (h : Held). IsFoldedAt floor (kept_by h)) (same_object oid) es all))
  where
    by : (o : Option Held) → IfSome o (λ h. IsFoldedAt floor (kept_by h)) → IsFoldedAt floor (option_map_or (λ l. l.kept) (option_map line_in o) none_kept)
    by None h = record { writes = refl; steps = refl }
    by (Some v) h = h
