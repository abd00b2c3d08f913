-- Objects that rise: how long their spelling is, that it begins no other, and where none are read.
use Rattle.std.proofs.Common.{◌≡◌, ◌↔◌, ℕ, zero, suc, ◌+◌, ◌*◌, ◌-◌, ◌<◌, ◌≤◌, List, [], ◌∷◌, ◌++◌, length, get_or, Some, slice_get, refl, sym, ap, subst, ◌∙◌, inl, inr, append_assoc, arith}
use Rattle.std.specs.Prelude.{All, flat_map}
use Rattle.std.specs.List.{AllByRecursion}
use Rattle.std.proofs.lemmas.Bool.{cases_lt}
use Rattle.std.proofs.lemmas.List.{append-nil, length-append, nil_from_length, flat_map_more}
use Rattle.std.proofs.lemmas.List.Concat.{flat_map-cons}
use Rattle.std.proofs.lemmas.List.Elements.{recursion_from_All, All-push, All-contains, Contains-append_right}
use Rattle.std.proofs.lemmas.List.Quantifiers.{all_pairs_push}
use Rattle.std.proofs.lemmas.Option.{slice_get-get_or}
use Rattle.walter_base.specs.Names.{IsBefore, AreRising}
use Rattle.walter_base.specs.declared.names.ObjId.{ObjId}
use Rattle.walter_fields.specs.Cursors.{Remainder, Takes}
use Rattle.walter_fields.specs.Spellings.{number_spelled}
use Rattle.walter_fields.proofs.Numbers.{length-number_spelled, same_number}
use Rattle.walter_fields.proofs.Readings.{Takes-then}
use Rattle.walter_names.specs.Names.{object_spelled, IsObject}
use Rattle.walter_names.proofs.Lengths.{length-object_spelled}
use Rattle.walter_names.proofs.Prefixes.{regrouped, same_object}
use Rattle.walter_txcode.specs.Faults.{NoneBegins}
use Rattle.walter_txcode.specs.Spelling.{objects_spelled, AreSpelledObjects, AreSoMany}

abbrev pub each_object : List ObjId → List ℕ
each_object objects = flat_map object_spelled objects

-- ---- how many bytes

pub length-each_object : (objects : List ObjId) → length (each_object objects) ≡ 12 * length objects
length-each_object [] = refl
length-each_object (o ∷ os) =
    let others = length-each_object os in
    rw flat_map-cons (omega (arith, length-append (object_spelled o) (flat_map object_spelled os), length-object_spelled o))

pub length-objects_spelled : (objects : List ObjId) → length (objects_spelled objects) ≡ 2 + 12 * length objects
length-objects_spelled objects = omega (arith, length-append (number_spelled 2 (length objects)) (each_object objects), length-number_spelled 2 (length objects), length-each_object objects)

-- ---- no spelling begins another

in_front : (o : ObjId) (os : List ObjId) (x : List ℕ) → each_object (o ∷ os) ++ x ≡ object_spelled o ++ (each_object os ++ x)
in_front o os x = ap (λ t. t ++ x) (flat_map-cons object_spelled o os) ∙ append_assoc (object_spelled o) (each_object os) x

-- where some objects begin what others are spelled as, the others begin with them
record BeginsWith (front objects : List ObjId) (x y : List ℕ) : Type 0 where
  after : List ObjId
  is : objects ≡ front ++ after
  rest : x ≡ each_object after ++ y

each_front : (os ps : List ObjId) (x y : List ℕ) → length os ≤ length ps → AllByRecursion IsObject os → AllByRecursion IsObject ps → each_object os ++ x ≡ each_object ps ++ y → BeginsWith os ps x y
each_front [] ps x y le fits_o fits_p e = record { after = ps; is = refl; rest = e }
each_front (o ∷ os) [] x y le fits_o fits_p e = absurd (omega (arith, le))
each_front (o ∷ os) (p ∷ ps) x y le fits_o fits_p e =
    let one = same_object o p (each_object os ++ x) (each_object ps ++ y) fits_o.0 fits_p.0 (sym (in_front o os x) ∙ e ∙ in_front p ps y) in
    let others = each_front os ps x y (omega (arith, le)) fits_o.1 fits_p.1 one.1 in
    record { after = others.after; is = (λ i. sym one.0 i ∷ others.is i); rest = others.rest }

begins_with : (os ps : List ObjId) (x y : List ℕ) → length os ≤ length ps → All IsObject os → All IsObject ps → each_object os ++ x ≡ each_object ps ++ y → BeginsWith os ps x y
begins_with os ps x y le fits_o fits_p e = each_front os ps x y le (recursion_from_All IsObject os fits_o) (recursion_from_All IsObject ps fits_p) e

same_each : (os ps : List ObjId) (x y : List ℕ) → length os ≡ length ps → All IsObject os → All IsObject ps → each_object os ++ x ≡ each_object ps ++ y → (os ≡ ps) × (x ≡ y)
same_each os ps x y long fits_o fits_p e =
    let with = begins_with os ps x y (omega (arith, long)) fits_o fits_p e in
    let none : with.after ≡ [] = nil_from_length with.after (omega (arith, ap length with.is, length-append os with.after, long)) in
    (sym (with.is ∙ ap (λ t. os ++ t) none ∙ append-nil os), with.rest ∙ ap (λ t. each_object t ++ y) none)

pub same_objects : (a b : List ObjId) (x y : List ℕ) → AreSpelledObjects a → AreSpelledObjects b → objects_spelled a ++ x ≡ objects_spelled b ++ y → (a ≡ b) × (x ≡ y)
same_objects a b x y are_a are_b e =
    let counts = same_number 2 (length a) (length b) (each_object a ++ x) (each_object b ++ y) (omega (arith, are_a.listed.few)) (omega (arith, are_b.listed.few))
    (regrouped (number_spelled 2 (length a)) (each_object a) x (number_spelled 2 (length b)) (each_object b) y e) in
    same_each a b x y counts.0 are_a.ranges are_b.ranges counts.1

-- ---- objects that rise

pub before_trans : (a b c : ObjId) → IsBefore a b → IsBefore b c → IsBefore a c
before_trans a b c (inl low) (inl high) = inl (omega (arith, low, high))
before_trans a b c (inl low) (inr high) = inl (omega (arith, low, high.0))
before_trans a b c (inr low) (inl high) = inl (omega (arith, low.0, high))
before_trans a b c (inr low) (inr high) = inr (low.0 ∙ high.0, omega (arith, low.1, high.1))

some_objects : (objects : List ObjId) (last : ObjId) → Some last ≡ slice_get objects (length objects - 1) → 0 < length objects
some_objects [] last is = absurd (cc)
some_objects (o ∷ os) last is = omega arith

last_is : (objects : List ObjId) (last d : ObjId) → 0 < length objects → Some last ≡ slice_get objects (length objects - 1) → get_or objects (length objects - 1) d ≡ last
last_is objects last d some is =
    let e : Some last ≡ Some (get_or objects (length objects - 1) d) = is ∙ slice_get-get_or objects (length objects - 1) d (omega (arith, some)) in
    cc

-- behind the last is behind all
pub last_tells : (objects : List ObjId) (last oid : ObjId) → AreRising objects → Some last ≡ slice_get objects (length objects - 1) → IsBefore last oid ↔ All (λ other. IsBefore other oid) objects
last_tells objects last oid rising is = (above, below)
  where
    some : 0 < length objects
    some = some_objects objects last is

    above : IsBefore last oid → All (λ other. IsBefore other oid) objects
    above before k d within = elim (cases_lt k (length objects - 1)) [
      | inl less ↦ before_trans (get_or objects k d) last oid (subst (λ o. IsBefore (get_or objects k d) o) (last_is objects last d some is) (rising k (length objects - 1) d less (omega (arith, some)))) before
      | inr le ↦
          let here : k ≡ length objects - 1 = omega (arith, le, within) in
          subst (λ o. IsBefore o oid) (sym (ap (λ (i : ℕ). get_or objects i d) here ∙ last_is objects last d some is)) before
    ]

    below : All (λ other. IsBefore other oid) objects → IsBefore last oid
    below all = subst (λ o. IsBefore o oid) (last_is objects last last some is) (all (length objects - 1) last (omega (arith, some)))

-- what is known of the next of some objects
of_next : (P : ObjId → Type 0) (front after : List ObjId) (next : ObjId) → All P (front ++ (next ∷ after)) → P next
of_next P front after next all = All-contains P (front ++ (next ∷ after)) next all (Contains-append_right front (next ∷ after) next (0, omega arith, refl))

rising_behind : (first : ObjId) (others : List ObjId) → AreRising (first ∷ others) → AreRising others
rising_behind first others rising i k d below high = rising (suc i) (suc k) d (omega (arith, below)) (omega (arith, high))

behind_first : (first : ObjId) (others : List ObjId) → AreRising (first ∷ others) → All (λ other. IsBefore first other) others
behind_first first others rising k d within = rising 0 (suc k) d (omega arith) (omega (arith, within))

-- the next of objects that rise is behind those in front of it
next_behind : (front after : List ObjId) (next : ObjId) → AreRising (front ++ (next ∷ after)) → All (λ other. IsBefore other next) front
next_behind [] after next rising k d within = absurd (omega (arith, within))
next_behind (o ∷ os) after next rising zero d within = of_next (λ other. IsBefore o other) os after next (behind_first o (os ++ (next ∷ after)) rising)
next_behind (o ∷ os) after next rising (suc k) d within = next_behind os after next (rising_behind o (os ++ (next ∷ after)) rising) k d (omega (arith, within))

-- ---- objects that are read

-- objects that were read, and rise
pub record AreRead (objects : List ObjId) : Type 0 where
  pub rising : AreRising objects
  pub ranges : All IsObject objects

pub read_more : (objects : List ObjId) (next : ObjId) → AreRead objects → IsObject next → All (λ other. IsBefore other next) objects → AreRead (objects ++ next ∷ [])
read_more objects next are fits behind = record { rising = all_pairs_push IsBefore objects next are.rising behind; ranges = All-push IsObject objects next are.ranges fits }

pub takes_more : (old mid new : Remainder) (objects : List ObjId) (next : ObjId) → Takes old mid (each_object objects) → Takes mid new (object_spelled next) → Takes old new (each_object (objects ++ next ∷ []))
takes_more old mid new objects next first second = subst (Takes old new) (flat_map_more object_spelled [] objects next) (Takes-then old mid new (each_object objects) (object_spelled next) first second)

-- with too few bytes behind those that were read, there aren't so many
pub no_more_objects : (count : ℕ) (found : List ObjId) (left mid : List ℕ) → left ≡ each_object found ++ mid → length found < count → length mid < 12 → NoneBegins (AreSoMany count) each_object left
no_more_objects count found left mid front more few = record {
  none = λ os rest are e.
      omega (arith, ap length (sym front ∙ e), length-append (each_object found) mid, length-append (each_object os) rest, length-each_object found, length-each_object os, are.counted, more, few);
}

-- nor with an object that isn't behind them
pub no_rising : (count : ℕ) (found : List ObjId) (next : ObjId) (left mid after : List ℕ) → left ≡ each_object found ++ mid → mid ≡ object_spelled next ++ after → AreRead found → IsObject next → length found < count
    → ¬ All (λ other. IsBefore other next) found → NoneBegins (AreSoMany count) each_object left
no_rising count found next left mid after front is_next are fits more falls = record {
  none = λ os rest so_many e.
      let with = begins_with found os mid rest (omega (arith, more, so_many.counted)) are.ranges so_many.ranges (sym front ∙ e) in
      stops os rest so_many with.after with.is (sym is_next ∙ with.rest);
}
  where
    stops : (os : List ObjId) (rest : List ℕ) → AreSoMany count os → (behind : List ObjId) → os ≡ found ++ behind → object_spelled next ++ after ≡ each_object behind ++ rest → ⊥
    stops os rest so_many [] is e = omega (arith, ap length is, length-append found [], more, so_many.counted)
    stops os rest so_many (o ∷ behind) is e =
        let ranges : All IsObject (found ++ (o ∷ behind)) = subst (λ t. All IsObject t) is so_many.ranges in
        let rising : AreRising (found ++ (o ∷ behind)) = subst (λ t. AreRising t) is so_many.rising in
        let same = same_object next o after (each_object behind ++ rest) fits (of_next IsObject found behind o ranges) (e ∙ in_front o behind rest) in
        falls (subst (λ n. All (λ other. IsBefore other n) found) (sym same.0) (next_behind found behind o rising))

-- ---- their count

behind_count : (k : ℕ) (left mid : List ℕ) (os : List ObjId) (rest : List ℕ) → k < 65536 → left ≡ number_spelled 2 k ++ mid → AreSpelledObjects os → left ≡ objects_spelled os ++ rest
    → (k ≡ length os) × (mid ≡ each_object os ++ rest)
behind_count k left mid os rest low front are e =
    same_number 2 k (length os) mid (each_object os ++ rest) (omega (arith, low)) (omega (arith, are.listed.few)) (sym front ∙ e ∙ append_assoc (number_spelled 2 (length os)) (each_object os) rest)

pub no_object_count : (left : List ℕ) → length left < 2 → NoneBegins AreSpelledObjects objects_spelled left
no_object_count left few = record { none = λ os rest are e. omega (arith, ap length e, length-append (objects_spelled os) rest, length-objects_spelled os, few) }

pub no_such_object_count : (k : ℕ) (left mid : List ℕ) → k < 65536 → left ≡ number_spelled 2 k ++ mid → (1 ≤ k → k ≤ 256 → ⊥) → NoneBegins AreSpelledObjects objects_spelled left
no_such_object_count k left mid low front out = record {
  none = λ os rest are e. let count = (behind_count k left mid os rest low front are e).0 in out (omega (arith, are.listed.some, count)) (omega (arith, are.listed.few, count));
}

pub no_objects : (k : ℕ) (left mid : List ℕ) → k < 65536 → left ≡ number_spelled 2 k ++ mid → NoneBegins (AreSoMany k) each_object mid → NoneBegins AreSpelledObjects objects_spelled left
no_objects k left mid low front none = record {
  none = λ os rest are e.
      let behind = behind_count k left mid os rest low front are e in
      none.none os rest (record { counted = sym behind.0; rising = are.listed.rising; ranges = are.ranges }) behind.1;
}
