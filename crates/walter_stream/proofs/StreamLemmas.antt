-- Bytes that are taken or put in several pieces.
use Rattle.std.proofs.Common.{◌≡◌, ℕ, ◌+◌, ◌-◌, List, [], ◌++◌, length, take, drop, Option, Some, None, Result, Ok, Err, OnErr, refl, sym, ap, ◌∙◌, append_assoc, append-nil}
use Rattle.std.proofs.Math.Seq.{take-add}
use Rattle.std.proofs.lemmas.List.{take-append-drop, drop-drop, take_rest}
use Rattle.walter_stream.specs.Streams.{TakesFront, Appends}

-- what is taken by one call after another is taken by both
pub TakesFront-trans : (a b c : Option (List ℕ)) (xs ys : List ℕ) → TakesFront a b xs → TakesFront b c ys → TakesFront a c (xs ++ ys)
TakesFront-trans a b None xs ys p q = rw (p, q) refl
TakesFront-trans a b (Some rest) xs ys p q = rw (p, q) (ap Some (sym (append_assoc xs ys rest)))

-- nothing was put yet
pub Appends-nil : (a : Option (List ℕ)) → Appends a a []
Appends-nil None = refl
Appends-nil (Some xs) = ap Some (sym (append-nil xs))

-- what is put by one call after another is put by both
pub Appends-trans : (a b c : Option (List ℕ)) (xs ys : List ℕ) → Appends a b xs → Appends b c ys → Appends a c (xs ++ ys)
Appends-trans None b c xs ys p q = rw (q, p) refl
Appends-trans (Some held) b c xs ys p q = rw (q, p) (ap Some (append_assoc held xs ys))

-- a piece of the bytes is put behind those before it
pub Appends_more : (a b c : Option (List ℕ)) (bytes : List ℕ) (at n : ℕ) → Appends a b (take at bytes)
    → Appends b c (take n (take (length bytes - at) (drop at bytes))) → Appends a c (take (at + n) bytes)
Appends_more a b c bytes at n p q = rw (take-add at n bytes) (Appends-trans a b c _ _ p (rw (take_rest bytes at) at q))

-- a copy of the next piece stands in front of the rest
pub drop_piece : (bytes front : List ℕ) (at n : ℕ) → front ≡ take n (take (length bytes - at) (drop at bytes))
    → drop at bytes ≡ front ++ drop (at + n) bytes
drop_piece bytes front at n e =
    rw (e, take_rest bytes at) (sym (ap (λ rest. take n (drop at bytes) ++ rest) (sym (drop-drop n at bytes)) ∙ take-append-drop n (drop at bytes)))

-- what holds at any answer holds at an error
pub OnErr-from : {T E P : Type 0} (r : Result T E) → P → OnErr r P
OnErr-from (Ok x) p = tt
OnErr-from (Err e) p = p
