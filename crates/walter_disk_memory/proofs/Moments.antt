-- One more call of a disk, and what a crash might have left since.
use Rattle.std.proofs.Common.{◌≡◌, ◌≤◌, ◌+◌, ℕ, max, List, [], ◌∷◌, ◌++◌, length, take, drop, Result, Ok, Err, OnOk, OnErr, refl, sym, subst, arith, length-append, length-drop}
use Rattle.std.proofs.lemmas.Bool.{cond-true, le-leb}
use Rattle.std.proofs.lemmas.List.{length-take-le}
use Rattle.std.specs.Prelude.{nat_le}
use Rattle.walter_disk.specs.Disks.{laid}
use Rattle.walter_disk.specs.Images.{Torn, Follows, Narrows}
use Rattle.walter_disk_memory.specs.Contents.{Call, Write, FailedWrite, Sync, Settle, Content, put, after, replayed, settled, MayLeave}
use Rattle.walter_disk_memory.specs.ImageLaws.{IsSound, settled_left, leaves_back}

pub replayed_more : (calls : List Call) (call : Call) (content : Content) → replayed (calls ++ call ∷ []) content ≡ after call (replayed calls content)
replayed_more [] call content = refl
replayed_more (c ∷ calls) call content = replayed_more calls call (after c content)

pub put_within : (at : ℕ) (from bytes : List ℕ) → at ≤ length bytes → put at from bytes ≡ laid at from bytes
put_within at from bytes begins = cond-true (nat_le at (length bytes)) (laid at from bytes) bytes (le-leb at (length bytes) begins)

pub length_laid : (at : ℕ) (from bytes : List ℕ) → at ≤ length bytes → length (laid at from bytes) ≡ max (length bytes) (at + length from)
length_laid at from bytes begins =
    let rest = drop (at + length from) bytes in
    omega (arith, length-take-le at bytes begins, length-append (take at bytes ++ from) rest, length-append (take at bytes) from, length-drop (at + length from) bytes)

-- what a write leaves to read
pub ruleset writes = (replayed_more, put_within, length_laid)

-- a write may be cut short, also one that failed
pub write_follows : (content : Content) (at : ℕ) (from : List ℕ) → Follows (Torn at (length from)) (MayLeave content) (MayLeave (after (Write at from) content))
write_follows content at from = λ image left. leaves_back content.synced content.pending (record { at = at; count = length from }) image left

pub failed_write_follows : (content : Content) (at : ℕ) (from : List ℕ) → Follows (Torn at (length from)) (MayLeave content) (MayLeave (after (FailedWrite at from) content))
failed_write_follows content at from = λ image left. leaves_back content.synced content.pending (record { at = at; count = length from }) image left

-- what a sync or a settle leaves was left before
pub sync_narrows : (content : Content) → IsSound content → Narrows (MayLeave content) (MayLeave (after Sync content))
sync_narrows content sound = λ image is. subst (MayLeave content) (sym is) sound.reads

pub settle_narrows : (choice : ℕ) (content : Content) → IsSound content → Narrows (MayLeave content) (MayLeave (after (Settle choice) content))
settle_narrows choice content sound = λ image is. subst (MayLeave content) (sym is) (settled_left choice content sound)

-- a settle's choice keeps what reads an image
pub settled_sound : (choice : ℕ) (content : Content) → IsSound content → IsSound (record content { reads = settled choice content })
settled_sound choice content sound = record { reads = settled_left choice content sound; whole = sound.whole }

-- by what a call answered
pub either : {T E A B P : Type 0} (r : Result T E) → OnOk r A → OnErr r B → (A → P) → (B → P) → P
either (Ok x) a b at_ok at_err = at_ok a
either (Err e) a b at_ok at_err = at_err b

pub on_ok : {T E A B : Type 0} (r : Result T E) → OnOk r A → (A → B) → OnOk r B
on_ok (Ok x) a at_ok = at_ok a
on_ok (Err e) a at_ok = tt
