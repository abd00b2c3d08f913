-- What follows where one object gets a line, and each other keeps its own.
use Rattle.std.proofs.Common.{◌≡◌, ℕ, ◌≤◌, ◌+◌, Bool, true, false, ◌&&◌, List, slice_get, get_or, position, true≢false, inl, inr, Option, Some, None, IsSome, is_some, cond, refl, ap, sym, ◌∙◌, subst, option_map, if◌then◌else◌, arith}
use Rattle.std.specs.Option.{option_map_or}
use Rattle.std.specs.Map.{lookup, keys_of, values_of}
use Rattle.std.proofs.lemmas.Map.Made.{lookup-map_values}
use Rattle.std.specs.Cmp.{IsEquivalence}
use Rattle.std.proofs.lemmas.List.Quantifiers.{position-Some}
use Rattle.std.proofs.lemmas.Option.{slice_get-map, slice_get_cases, get_or_from_slice_get}
use Rattle.std.proofs.lemmas.Cmp.{nat_eq_equiv}
use Rattle.std.proofs.lemmas.Map.Entries.{lookup_from_place}
use Rattle.indexmap.specs.IndexMap.{IndexMap, IsUnique, WritesThrough, set_value_at}
use Rattle.indexmap.proofs.CallerLemmas.{updates-with_value_at}
use Rattle.walter_base.specs.declared.names.ObjId.{ObjId}
use Rattle.walter_base.specs.Names.{same_object}
use Rattle.walter_base.proofs.NameTests.{same_object-true, same_object_refl}
use Rattle.walter_history.specs.declared.line.Line.{Line as Held}
use Rattle.walter_history.specs.Kept.{none_kept, IsKeptOf, IsClean}
use Rattle.walter_history.specs.Lines.{Line, line_of, line_in, lines_in, kept_in, room_in, AreFirst, AreOwn}

-- what a look-up finds, as a line
pub line_found : (entries : List (ObjId × Held)) (oid : ObjId) → line_of (lines_in entries) oid ≡ option_map line_in (lookup (same_object oid) entries)
line_found entries oid = lookup-map_values line_in (same_object oid) entries

-- the row that a look-up finds, and that none is found
pub line_is : (entries : List (ObjId × Held)) (oid : ObjId) (v : Held) → Some v ≡ lookup (same_object oid) entries → line_of (lines_in entries) oid ≡ Some (line_in v)
line_is entries oid v is = line_found entries oid ∙ ap (option_map line_in) (sym is)

pub no_line : (entries : List (ObjId × Held)) (oid : ObjId) → None ≡ lookup (same_object oid) entries → line_of (lines_in entries) oid ≡ None
no_line entries oid is = line_found entries oid ∙ ap (option_map line_in) (sym is)

-- the same by whether a key is there
pub found_some : (entries : List (ObjId × Held)) (oid : ObjId) → is_some (lookup (same_object oid) entries) ≡ true → IsSome (line_of (lines_in entries) oid)
found_some entries oid is = subst (λ o. IsSome o) (sym (line_found entries oid)) (by (lookup (same_object oid) entries) is)
  where
    by : (o : Option (Held)) → is_some o ≡ true → IsSome (option_map line_in o)
    by None h = absurd cc
    by (Some v) h = refl

pub no_value : (o : Option Held) → is_some o ≡ false → o ≡ None
no_value None is = refl
no_value (Some v) is = absurd cc

pub none_found : (entries : List (ObjId × Held)) (oid : ObjId) → is_some (lookup (same_object oid) entries) ≡ false → line_of (lines_in entries) oid ≡ None
none_found entries oid is = line_found entries oid ∙ ap (option_map line_in) (no_value (lookup (same_object oid) entries) is)

-- entries that didn't change are as good as before
pub unchanged : (n : ℕ) (old new : List (ObjId × Held)) → new ≡ old → AreOwn (lines_in old) × AreFirst IsClean n old → AreOwn (lines_in new) × AreFirst IsClean n new
unchanged n old new same = subst (λ es. AreOwn (lines_in es) × AreFirst IsClean n es) (sym {A = List (ObjId × Held)} same)

pub closed : (lines : List (ObjId × Line)) (oid : ObjId) → line_of lines oid ≡ None → IsSome (line_of lines oid) → ⊥
closed lines oid none is = let there : is_some (line_of lines oid) ≡ true = is in absurd (cc (ap is_some none))

-- what is known of an object's rows and room by its line
pub kept_at : (lines : List (ObjId × Line)) (oid : ObjId) (line : Line) → line_of lines oid ≡ Some line → kept_in lines oid ≡ line.kept
kept_at lines oid line is = ap (λ o. option_map_or (λ l. l.kept) o none_kept) is

pub room_at : (lines : List (ObjId × Line)) (oid : ObjId) (line : Line) → line_of lines oid ≡ Some line → room_in lines oid ≡ line.room
room_at lines oid line is = ap (λ o. option_map_or (λ l. l.room) o 0) is

pub no_kept : (lines : List (ObjId × Line)) (oid : ObjId) → line_of lines oid ≡ None → kept_in lines oid ≡ none_kept
no_kept lines oid none = ap (λ o. option_map_or (λ l. l.kept) o none_kept) none

pub no_room : (lines : List (ObjId × Line)) (oid : ObjId) → line_of lines oid ≡ None → room_in lines oid ≡ 0
no_room lines oid none = ap (λ o. option_map_or (λ l. l.room) o 0) none

pub record Sets (old new : List (ObjId × Line)) (oid : ObjId) (line : Line) : Type 0 where
  pub at : (other : ObjId) → line_of new other ≡ (if same_object oid other then Some line else line_of old other)

chosen : (b : Bool) (v : Held) (o : Option (Held)) → option_map line_in (cond b (Some v) o) ≡ (if b then Some (line_in v) else option_map line_in o)
chosen true v o = refl
chosen false v o = refl

-- a value under a key of the map sets a line
pub sets_line : (before after : List (ObjId × Held)) (oid : ObjId) (v : Held)
    → ((q : ObjId) → lookup (same_object q) after ≡ cond (same_object oid q) (Some v) (lookup (same_object q) before))
    → Sets (lines_in before) (lines_in after) oid (line_in v)
sets_line before after oid v given = record {
  at = λ other.
      line_found after other ∙ ap (option_map line_in) (given other)
      ∙ chosen (same_object oid other) v (lookup (same_object other) before)
      ∙ ap (λ o. if same_object oid other then Some (line_in v) else o) (sym (line_found before other));
}

-- the entry at a place whose value is known
pub entry_of : (entries : List (ObjId × Held)) (place : ℕ) (v : Held) → Some v ≡ slice_get (values_of entries) place → (oid : ObjId) × (slice_get entries place ≡ Some (oid, v))
entry_of entries place v is = elim (slice_get_cases entries place).1 [
  | inl at ↦
      let value : Some v ≡ Some at.0.1 = is ∙ slice_get-map (λ e. e.1) entries place ∙ ap (option_map (λ e. e.1)) at.2 in
      let same : v ≡ at.0.1 = cc in
      (at.0.0, at.2 ∙ ap (λ w. Some (at.0.0, w)) (sym {A = Held} same))
  | inr past ↦
      let value : Some v ≡ None = is ∙ slice_get-map (λ e. e.1) entries place ∙ ap (option_map (λ e. e.1)) past.1 in
      absurd (true≢false (ap is_some value))
]

-- and its key, where the object was found there before it moved
pub entry_found : (before after : List (ObjId × Held)) (oid : ObjId) (found place : ℕ) (v : Held) → position (same_object oid) (keys_of before) ≡ Some found
    → slice_get after place ≡ slice_get before found → Some v ≡ slice_get (values_of after) place → slice_get after place ≡ Some (oid, v)
entry_found before after oid found place v is moved value =
    let entry = entry_of after place v value in
    let key : slice_get (keys_of before) found ≡ Some entry.0 = slice_get-map (λ e. e.0) before found ∙ ap (option_map (λ e. e.0)) (sym moved ∙ entry.1) in
    let same = same_object-true oid (get_or (keys_of before) found oid) (position-Some (same_object oid) (keys_of before) found oid is).1 in
    entry.1 ∙ ap (λ o. Some (o, v)) (sym (same ∙ get_or_from_slice_get (keys_of before) found entry.0 oid key))

same_object_laws : IsEquivalence same_object
same_object_laws = record {
  refl = same_object_refl;
  symm = λ x y. (λ j. nat_eq_equiv.symm x.container y.container j && nat_eq_equiv.symm x.local y.local j);
  congr = λ x y z is. ap (λ o. same_object o z) (same_object-true x y is);
}

-- and so does a value at a place of the map, under the key there
module _ {S : Type 0} (before : IndexMap ObjId Held S) (place : ℕ) (oid : ObjId) (was : Held) (unique : IsUnique same_object before)
    (at : slice_get before.entries place ≡ Some (oid, was)) where
  pub sets_at : (v : Held) → Sets (lines_in before.entries) (lines_in (set_value_at before.entries place v)) oid (line_in v)
  sets_at v = sets_line before.entries (set_value_at before.entries place v) oid v (updates-with_value_at before place v same_object_laws unique oid was at).0

  pub line_at : line_of (lines_in before.entries) oid ≡ Some (line_in was)
  line_at = line_is before.entries oid was (sym (lookup_from_place same_object_laws before.entries place oid was unique at))

-- and so does a write through the row that a look-up lends
pub sets_lent : {S : Type 0} (before after : IndexMap ObjId (Held) S) (oid : ObjId) (was v : Held)
    → Some was ≡ lookup (same_object oid) before.entries → WritesThrough same_object (same_object oid) before v after
    → Sets (lines_in before.entries) (lines_in after.entries) oid (line_in v)
sets_lent before after oid was v is writes = sets_line before.entries after.entries oid v (writes.3 (ap is_some (sym is))).0

module _ (old new : List (ObjId × Line)) (oid : ObjId) (line : Line) (sets : Sets old new oid line) where
  pub line_now : line_of new oid ≡ Some line
  line_now = sets.at oid ∙ rw (same_object_refl oid) refl

  pub opened : IsSome (line_of new oid)
  opened = subst (λ o. IsSome o) (sym line_now) refl

  pub still : (other : ObjId) → IsSome (line_of old other) → IsSome (line_of new other)
  still other was = subst (λ o. IsSome o) (sym (sets.at other)) (by (same_object oid other))
    where
      by : (b : Bool) → IsSome (if b then Some line else line_of old other)
      by true = refl
      by false = was

  -- a part of the line, with the value of no line
  part : {X : Type 0} (f : Line → X) (none : X) (other : ObjId)
      → option_map_or f (line_of new other) none ≡ (if same_object oid other then f line else option_map_or f (line_of old other) none)
  part f none other = ap (λ o. option_map_or f o none) (sets.at other) ∙ by (same_object oid other)
    where
      by : (b : Bool) → option_map_or f (if b then Some line else line_of old other) none ≡ (if b then f line else option_map_or f (line_of old other) none)
      by true = refl
      by false = refl

  pub kept_set : (other : ObjId) → kept_in new other ≡ (if same_object oid other then line.kept else kept_in old other)
  kept_set other = part (λ l. l.kept) none_kept other

  pub room_set : (other : ObjId) → room_in new other ≡ (if same_object oid other then line.room else room_in old other)
  room_set other = part (λ l. l.room) 0 other

  pub kept_kept : line.kept ≡ kept_in old oid → (other : ObjId) → kept_in new other ≡ kept_in old other
  kept_kept same other = kept_set other ∙ (elim (same_object oid other) as (λ b. same_object oid other ≡ b → (if b then line.kept else kept_in old other) ≡ kept_in old other) [
    | true ↦ λ is. same ∙ ap (kept_in old) (same_object-true oid other is)
    | false ↦ λ is. refl
  ] refl)

  pub room_kept : line.room ≡ room_in old oid → (other : ObjId) → room_in new other ≡ room_in old other
  room_kept same other = room_set other ∙ (elim (same_object oid other) as (λ b. same_object oid other ≡ b → (if b then line.room else room_in old other) ≡ room_in old other) [
    | true ↦ λ is. same ∙ ap (room_in old) (same_object-true oid other is)
    | false ↦ λ is. refl
  ] refl)

  pub room_more : room_in old oid ≤ line.room → (other : ObjId) → room_in old other ≤ room_in new other
  room_more more other = subst (λ n. room_in old other ≤ n) (sym (room_set other)) (elim (same_object oid other) as (λ b. same_object oid other ≡ b → room_in old other ≤ (if b then line.room else room_in old other)) [
    | true ↦ λ is. subst (λ o. room_in old o ≤ line.room) (same_object-true oid other is) more
    | false ↦ λ is. omega arith
  ] refl)

  pub own_set : ((o : ObjId) → IsKeptOf o (kept_in old o)) → IsKeptOf oid line.kept → (o : ObjId) → IsKeptOf o (kept_in new o)
  own_set own here o = subst (IsKeptOf o) (sym (kept_set o)) (elim (same_object oid o) as (λ b. same_object oid o ≡ b → IsKeptOf o (if b then line.kept else kept_in old o)) [
    | true ↦ λ is. subst (λ p. IsKeptOf p line.kept) (same_object-true oid o is) here
    | false ↦ λ is. own o
  ] refl)

  pub room_less : room_in old oid ≤ line.room + 1 → (other : ObjId) → (if same_object oid other then room_in old oid else room_in old other + 1) ≤ room_in new other + 1
  room_less less other = subst (λ n. (if same_object oid other then room_in old oid else room_in old other + 1) ≤ n + 1) (sym (room_set other)) (by (same_object oid other))
    where
      by : (b : Bool) → (if b then room_in old oid else room_in old other + 1) ≤ (if b then line.room else room_in old other) + 1
      by true = less
      by false = omega arith
