-- What reads, and what a settle finds, is always one of the images that a crash may leave.
use Rattle.std.specs.Prelude.{◌≡◌, ◌≤◌, ◌+◌, ◌%◌, ◌==◌, ℕ, nat_le, List, [], ◌∷◌, ◌++◌, length, take, drop, replicate, refl, if◌then◌else◌}
use Rattle.std.proofs.Common.{inl, inr, sym, ap, subst, ◌∙◌, arith, append_assoc, length-append, length-drop}
use Rattle.std.proofs.lemmas.Bool.{cond_both, leb-true}
use Rattle.std.proofs.lemmas.List.{take_at, drop_at, take_all, length-take-le, length-replicate}
use Rattle.walter_disk.specs.Disks.{laid}
use Rattle.walter_disk.specs.Images.{Torn}
use Rattle.walter_disk_memory.specs.declared.place.Place.{Place}
use Rattle.walter_disk_memory.specs.Contents.{Call, Write, FailedWrite, Sync, Settle, Content, put, filled, at_rest, settled, after, replayed, Leaves, MayLeave, MightHaveLeft}

-- a write that a crash has cut off altogether
torn_away : (at count : ℕ) (bytes : List ℕ) → Torn at count bytes bytes
torn_away at count bytes = record { size = inl refl; before = refl; behind = refl }

-- a write that a crash has left whole
laid_torn : (at : ℕ) (from bytes : List ℕ) → at ≤ length bytes → Torn at (length from) bytes (laid at from bytes)
laid_torn at from bytes begins =
    let rest = drop (at + length from) bytes in
    let front : length (take at bytes) ≡ at = length-take-le at bytes begins in
    let both : length (take at bytes ++ from) ≡ at + length from = omega (arith, length-append (take at bytes) from) in
    record {
      size = inr (omega (arith, length-append (take at bytes ++ from) rest, length-drop (at + length from) bytes));
      before = ap (λ (l : List ℕ). take at l) (append_assoc (take at bytes) from rest) ∙ take_at (take at bytes) (from ++ rest) at front;
      behind = drop_at (take at bytes ++ from) rest (at + length from) both;
    }

put_torn : (at : ℕ) (from bytes : List ℕ) → Torn at (length from) bytes (put at from bytes)
put_torn at from bytes =
    cond_both (nat_le at (length bytes)) (laid at from bytes) bytes (λ (l : List ℕ). Torn at (length from) bytes l)
    (λ within. laid_torn at from bytes (leb-true at (length bytes) within)) (λ beyond. torn_away at (length from) bytes)

-- one more write may be cut short too
pub leaves_more : (bytes : List ℕ) (places : List Place) (place : Place) (from image : List ℕ)
    → Leaves bytes places from → Torn place.at place.count from image → Leaves bytes (places ++ place ∷ []) image
leaves_more bytes [] place from image is torn = (image, subst (λ (l : List ℕ). Torn place.at place.count l image) is torn, refl)
leaves_more bytes (p ∷ places) place from image left torn = (left.0, left.1, leaves_more left.0 places place from image left.2 torn)

-- and only that
pub leaves_back : (bytes : List ℕ) (places : List Place) (place : Place) (image : List ℕ)
    → Leaves bytes (places ++ place ∷ []) image → (from : List ℕ) × Leaves bytes places from × Torn place.at place.count from image
leaves_back bytes [] place image left = (bytes, refl, subst (λ (l : List ℕ). Torn place.at place.count bytes l) (sym left.2) left.1)
leaves_back bytes (p ∷ places) place image left =
    let back = leaves_back left.0 places place image left.2 in
    (back.0, (left.0, left.1, back.1), back.2)

filled_left : (byte : ℕ) (places : List Place) (bytes : List ℕ) → Leaves bytes places (filled byte places bytes)
filled_left byte [] bytes = refl
filled_left byte (place ∷ places) bytes =
    let next = put place.at (replicate place.count byte) bytes in (
      next,
      subst (λ (n : ℕ). Torn place.at n bytes next) (length-replicate place.count byte) (put_torn place.at (replicate place.count byte) bytes),
      filled_left byte places next,
    )

-- all writes may be cut off altogether
untouched_left : (bytes : List ℕ) (places : List Place) → Leaves bytes places bytes
untouched_left bytes [] = refl
untouched_left bytes (place ∷ places) = (bytes, torn_away place.at place.count bytes, untouched_left bytes places)

-- what reads, and the whole writes, are images
pub record IsSound (content : Content) : Type 0 where
  pub reads : MayLeave content content.reads
  pub whole : MayLeave content content.whole

pub settled_left : (choice : ℕ) (content : Content) → IsSound content → MayLeave content (settled choice content)
settled_left choice content sound =
    let others = filled (choice % 256) content.pending content.synced in
    cond_both (choice == 0) content.synced (if choice == 1 then content.whole else others) (MayLeave content)
    (λ none. untouched_left content.synced content.pending)
    (λ some. cond_both (choice == 1) content.whole others (MayLeave content)
    (λ all. sound.whole) (λ other. filled_left (choice % 256) content.pending content.synced))

after_sound : (call : Call) (content : Content) → IsSound content → IsSound (after call content)
after_sound (Write at from) content sound = record {
  reads = leaves_more content.synced content.pending (record { at = at; count = length from }) content.reads _ sound.reads (put_torn at from content.reads);
  whole = leaves_more content.synced content.pending (record { at = at; count = length from }) content.whole _ sound.whole (put_torn at from content.whole);
}
after_sound (FailedWrite at from) content sound = record {
  reads = leaves_more content.synced content.pending (record { at = at; count = length from }) content.reads _ sound.reads (torn_away at (length from) content.reads);
  whole = leaves_more content.synced content.pending (record { at = at; count = length from }) content.whole _ sound.whole (put_torn at from content.whole);
}
after_sound Sync content sound = record { reads = refl; whole = refl }
after_sound (Settle choice) content sound = record { reads = refl; whole = refl }

replayed_sound : (calls : List Call) (content : Content) → IsSound content → IsSound (replayed calls content)
replayed_sound [] content sound = sound
replayed_sound (call ∷ calls) content sound = replayed_sound calls (after call content) (after_sound call content sound)

-- at each moment of a disk that began with these bytes
pub always_sound : (first : List ℕ) (calls : List Call) → IsSound (replayed calls (at_rest first))
always_sound first calls = replayed_sound calls (at_rest first) (record { reads = refl; whole = refl })

-- this moment is one of those since an earlier one
pub left_now : (first : List ℕ) (calls : List Call) (t : ℕ) (image : List ℕ) → t ≤ length calls
    → MayLeave (replayed calls (at_rest first)) image → MightHaveLeft first calls t image
left_now first calls t image le now = (
  length calls,
  le,
  omega arith,
  subst (λ (cs : List Call). MayLeave (replayed cs (at_rest first)) image) (sym (take_all (length calls) calls (omega arith))) now,
)

-- since this moment there is no other
pub left_only_now : (first : List ℕ) (calls : List Call) (image : List ℕ) → MightHaveLeft first calls (length calls) image
    → MayLeave (replayed calls (at_rest first)) image
left_only_now first calls image left =
    subst (λ (cs : List Call). MayLeave (replayed cs (at_rest first)) image) (take_all left.0 calls left.1) left.3
