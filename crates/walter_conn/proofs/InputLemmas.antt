-- Bytes that are read behind those that are held.
use Rattle.std.proofs.Common.{◌≡◌, ℕ, ◌+◌, ◌-◌, ◌<◌, ◌≤◌, List, [], ◌++◌, length, take, drop, replicate, Option, Some, None, option_map, refl, sym, ap, subst, ◌∙◌, inr, append_assoc, append-nil, arith}
use Rattle.std.proofs.Math.Seq.{take-add}
use Rattle.std.proofs.lemmas.List.{length-append, length-take-le, length-drop, length-replicate, take-take, take-append-le, take_all, take_at, drop_at}
use Rattle.walter_fields.specs.Spellings.{number_spelled}
use Rattle.walter_fields.proofs.Numbers.{length-number_spelled}
use Rattle.walter_stream.specs.Streams.{AtEnd, TakesFront}
use Rattle.walter_conn.specs.Frames.{frame, IsBegun, EndsInFrame}

-- a front of two lists, past the first
take_past : (xs ys : List ℕ) (h n : ℕ) → length xs ≡ h → take (h + n) (xs ++ ys) ≡ xs ++ take n ys
take_past xs ys h n long = rw (take-add h n (xs ++ ys), take_at xs ys h long, drop_at xs ys h long) refl

-- what is held behind a read: what was held, and what was read
pub take-filled : (len h n : ℕ) (held piece back rest : List ℕ) → h ≤ length held → n ≤ length piece → h + n ≤ len
    → take (h + n) (take len ((take h held ++ (piece ++ back)) ++ rest)) ≡ take h held ++ take n piece
take-filled len h n held piece back rest long_held long_piece fits =
    rw (
      take-take (h + n) len ((take h held ++ (piece ++ back)) ++ rest) fits,
      append_assoc (take h held) (piece ++ back) rest,
      take_past (take h held) ((piece ++ back) ++ rest) h n (length-take-le h held long_held),
      append_assoc piece back rest,
      take-append-le n piece (back ++ rest) long_piece,
    ) refl

-- of what was held nothing is changed
pub take-kept : (m h n : ℕ) (new held piece : List ℕ) → m ≤ h → h ≤ length held → take (h + n) new ≡ take h held ++ piece → take m new ≡ take m held
take-kept m h n new held piece below long filled =
    let less : m ≤ h + n = omega arith in
    sym (take-take m (h + n) new less) ∙ ap (take m) filled
    ∙ take-append-le m (take h held) piece (omega (arith, length-take-le h held long)) ∙ take-take m h held below

-- what moves from the source to what is held is still to come
pub unread_more : (old new : Option (List ℕ)) (held piece : List ℕ) → TakesFront old new piece
    → option_map (λ rest. (held ++ piece) ++ rest) new ≡ option_map (λ rest. held ++ rest) old
unread_more old None held piece taken = rw taken refl
unread_more old (Some left) held piece taken = rw taken (ap Some (append_assoc held piece left))

-- where nothing is held, what the source has left is to come
pub unread_none : (left : Option (List ℕ)) (bytes : List ℕ) → option_map (λ rest. take 0 bytes ++ rest) left ≡ left
unread_none None bytes = refl
unread_none (Some left) bytes = refl

-- what is held is all that is to come where the source is at its end
pub EndsInFrame-unread : (left : Option (List ℕ)) (held : List ℕ) → IsBegun held → AtEnd left → EndsInFrame (option_map (λ rest. held ++ rest) left)
EndsInFrame-unread None held begun end = tt
EndsInFrame-unread (Some left) held begun end = subst IsBegun (sym (ap (λ rest. held ++ rest) end ∙ append-nil held)) begun

-- the length, and what stands behind it
split_frame : (k : ℕ) (bytes front : List ℕ) → take 4 bytes ≡ front → take (4 + k) bytes ≡ front ++ take k (drop 4 bytes)
split_frame k bytes front first = take-add 4 k bytes ∙ ap (λ t. t ++ take k (drop 4 bytes)) first

-- fewer bytes than the length says are the front of a frame
pub IsBegun-cut : (h n : ℕ) (bytes : List ℕ) → 4 ≤ h → h < 4 + n → n ≤ 65536 → h ≤ length bytes → take 4 bytes ≡ number_spelled 4 n → IsBegun (take h bytes)
IsBegun-cut h n bytes begun less fits long first =
    let k : ℕ = h - 4 in
    let body : List ℕ = take k (drop 4 bytes) in
    let more : List ℕ = replicate (n - k) 0 in
    let count_more : length more ≡ n - k = length-replicate (n - k) 0 in
    let count_body : length body ≡ k = length-take-le k (drop 4 bytes) (omega (arith, length-drop 4 bytes)) in
    let whole : length (body ++ more) ≡ n = omega (arith, length-append body more) in
    let there : take h bytes ≡ number_spelled 4 n ++ body = ap (λ (m : ℕ). take m bytes) (omega arith) ∙ split_frame k bytes (number_spelled 4 n) first in
    let count : length (take h bytes) ≡ h = length-take-le h bytes long in
    record {
      some = λ none. absurd (omega (arith, ap length none));
      wanting = inr record {
        more = more;
        body = body ++ more;
        some = λ none. absurd (omega (arith, ap length none));
        short = omega arith;
        is = ap (λ t. t ++ more) there ∙ append_assoc (number_spelled 4 n) body more ∙ ap (λ (m : ℕ). number_spelled 4 m ++ (body ++ more)) (sym whole);
      };
    }

-- as many bytes as the length says are a frame
pub frame_held : (h n : ℕ) (bytes : List ℕ) → h ≡ 4 + n → h ≤ length bytes → take 4 bytes ≡ number_spelled 4 n → take h bytes ≡ frame (take (h - 4) (drop 4 bytes))
frame_held h n bytes is long first =
    let k : ℕ = h - 4 in
    let body : List ℕ = take k (drop 4 bytes) in
    let count : n ≡ length body = sym (length-take-le k (drop 4 bytes) (omega (arith, length-drop 4 bytes)) ∙ omega arith) in
    ap (λ (m : ℕ). take m bytes) (omega arith) ∙ split_frame k bytes (number_spelled 4 n) first ∙ ap (λ (m : ℕ). number_spelled 4 m ++ body) count

-- four bytes that begin with a number of four bytes are its spelling
pub number_whole : (n : ℕ) (bytes rest : List ℕ) → length bytes ≡ 4 → bytes ≡ number_spelled 4 n ++ rest → bytes ≡ number_spelled 4 n
number_whole n bytes rest four is = sym (take_all 4 bytes (omega (arith, four))) ∙ ap (take 4) is ∙ take_at (number_spelled 4 n) rest 4 (length-number_spelled 4 n)

-- what begins the bytes that are held still begins them where these are kept
pub first_kept : (h : ℕ) (old new front : List ℕ) → h ≡ 4 → take h new ≡ take h old → take 4 old ≡ front → take 4 new ≡ front
first_kept h old new front four kept first = ap (λ (m : ℕ). take m new) (sym four) ∙ kept ∙ ap (λ (m : ℕ). take m old) four ∙ first
