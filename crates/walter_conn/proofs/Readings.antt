-- What stands at the front of bytes: one frame, or a length that no frame has, or the begin of a frame, or nothing.
use Rattle.std.proofs.Common.{◌≡◌, ℕ, ◌≤◌, List, [], ◌++◌, length, Ok, Err, sym, ap, subst, ◌∙◌, inl, inr, append_assoc, append-nil, arith}
use Rattle.std.proofs.lemmas.List.{length-append, nil_from_length}
use Rattle.walter_fields.specs.Spellings.{number_spelled}
use Rattle.walter_fields.proofs.Numbers.{length-number_spelled, same_number}
use Rattle.walter_fields.proofs.Readings.{same_block}
use Rattle.walter_request.proofs.Places.{no_bad_frame, one_place}
use Rattle.walter_request.proofs.Prefixes.{one_request}
use Rattle.walter_conn.specs.Frames.{frame, Call, CallsFor, IsFrontOfFrame, IsBegun}
use Rattle.walter_conn.specs.Sequences.{BeginsWith, BeginsTooLong}

-- a body calls for one thing
one_call : (body : List ℕ) (a b : Call) → CallsFor body a → CallsFor body b → a ≡ b
one_call body (Ok a) (Ok b) is_a is_b = let same = one_request body a b is_a is_b in λ i. Ok (same i)
one_call body (Ok a) (Err b) is_a is_b = absurd (no_bad_frame body a b.at is_a is_b)
one_call body (Err a) (Ok b) is_a is_b = absurd (no_bad_frame body b a.at is_b is_a)
one_call body (Err a) (Err b) is_a is_b = let place = one_place body a.at b.at is_a is_b in λ i. Err (record { at = place i })

same_frame : (a b x y : List ℕ) → length a ≤ 65536 → length b ≤ 65536 → frame a ++ x ≡ frame b ++ y → (a ≡ b) × (x ≡ y)
same_frame a b x y short_a short_b e = same_block a b x y (omega (arith, short_a)) (omega (arith, short_b)) e

-- one frame begins the bytes
pub one_begin : (bytes : List ℕ) (a b : Call) (x y : List ℕ) → BeginsWith bytes a x → BeginsWith bytes b y → (a ≡ b) × (x ≡ y)
one_begin bytes a b x y one other =
    let same = same_frame one.body other.body x y one.short other.short (sym one.is ∙ other.is) in
    (one_call other.body a b (subst (λ t. CallsFor t a) same.0 one.is_call) other.is_call, same.1)

-- a length that no frame has begins no frame
pub too_long_stops : (bytes : List ℕ) (a b : Call) (x y : List ℕ) → BeginsTooLong bytes b y → ¬ BeginsWith bytes a x
too_long_stops bytes a b x y other one =
    let long = other.too_long in
    let same = same_number 4 (length one.body) long.count (one.body ++ x) y (omega (arith, one.short)) (omega (arith, long.fits))
    (sym (append_assoc (number_spelled 4 (length one.body)) one.body x) ∙ sym one.is ∙ other.is ∙ ap (λ t. t ++ y) long.is) in
    omega (arith, same.0, one.short, long.above)

frame_long : (bytes : List ℕ) (call : Call) (rest : List ℕ) → BeginsWith bytes call rest → 4 ≤ length bytes
frame_long bytes call rest whole =
    omega (
      arith,
      ap length whole.is,
      length-append (frame whole.body) rest,
      length-append (number_spelled 4 (length whole.body)) whole.body,
      length-number_spelled 4 (length whole.body),
    )

too_long_long : (bytes : List ℕ) (call : Call) (rest : List ℕ) → BeginsTooLong bytes call rest → 4 ≤ length bytes
too_long_long bytes call rest long =
    omega (arith, ap length long.is, length-append long.front rest, ap length long.too_long.is, length-number_spelled 4 long.too_long.count)

-- nothing begins no frame, and no length
pub nothing_stops : (call : Call) (rest : List ℕ) → ¬ BeginsWith [] call rest
nothing_stops call rest whole = omega (arith, frame_long [] call rest whole)

pub nothing_short : (call : Call) (rest : List ℕ) → ¬ BeginsTooLong [] call rest
nothing_short call rest long = omega (arith, too_long_long [] call rest long)

-- the begin of a frame begins with no frame, nor with a length that no frame has
pub begun_stops : (bytes : List ℕ) (call : Call) (rest : List ℕ) → IsBegun bytes → ¬ BeginsWith bytes call rest
begun_stops bytes call rest begun whole = elim begun.wanting [
  | inl few ↦ omega (arith, few, frame_long bytes call rest whole)
  | inr front ↦ front.some (nothing_more front)
]
  where
    nothing_more : (front : IsFrontOfFrame bytes) → front.more ≡ []
    nothing_more front =
        let same = same_frame whole.body front.body (rest ++ front.more) [] whole.short front.short
        (sym (append_assoc (frame whole.body) rest front.more) ∙ ap (λ t. t ++ front.more) (sym whole.is) ∙ front.is ∙ sym (append-nil (frame front.body))) in
        nil_from_length front.more (omega (arith, ap length same.1, length-append rest front.more))

pub begun_short : (bytes : List ℕ) (call : Call) (rest : List ℕ) → IsBegun bytes → ¬ BeginsTooLong bytes call rest
begun_short bytes call rest begun long = elim begun.wanting [
  | inl few ↦ omega (arith, few, too_long_long bytes call rest long)
  | inr front ↦ other_length front
]
  where
    count : ℕ
    count = long.too_long.count

    other_length : IsFrontOfFrame bytes → ⊥
    other_length front =
        let is : bytes ≡ number_spelled 4 count ++ rest = long.is ∙ ap (λ t. t ++ rest) long.too_long.is in
        let same = same_number 4 count (length front.body) (rest ++ front.more) front.body (omega (arith, long.too_long.fits)) (omega (arith, front.short))
        (sym (append_assoc (number_spelled 4 count) rest front.more) ∙ ap (λ t. t ++ front.more) (sym is) ∙ front.is) in
        omega (arith, same.0, front.short, long.too_long.above)
