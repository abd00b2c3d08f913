-- Bytes call for one list of calls at most, in one order.
use Rattle.std.proofs.Common.{◌≡◌, ◌⊎◌, ℕ, List, [], ◌∷◌, ◌++◌, refl, sym, ap, subst, ◌∙◌, inl, inr, append_assoc, append-nil}
use Rattle.walter_conn.specs.Frames.{Call}
use Rattle.walter_conn.specs.Sequences.{BeginsWith, BeginsTooLong, AreFrames, EndTooLong, AreCalls, AreAllCalls, IsFrontOf, ended, too_long}
use Rattle.walter_conn.proofs.Readings.{one_begin, too_long_stops, nothing_stops, nothing_short, begun_stops, begun_short}

-- the frames go on, from some calls and what is behind them to others
abbrev pub GoesOn : List Call → List Call → List ℕ → List ℕ → Type 0
GoesOn some all rest left = (more : List Call) × (all ≡ some ++ more) × AreFrames rest more left

-- no frame begins the bytes
abbrev pub IsStop : List ℕ → Type 0
IsStop bytes = (call : Call) (rest : List ℕ) → ¬ BeginsWith bytes call rest

compared : (bytes : List ℕ) (xs ys : List Call) (rest left : List ℕ) → AreFrames bytes xs rest → AreFrames bytes ys left → GoesOn xs ys rest left ⊎ GoesOn ys xs left rest
compared bytes [] ys rest left one other = inl (ys, refl, subst (λ t. AreFrames t ys left) (sym one) other)
compared bytes (x ∷ xs) [] rest left one other = inr (x ∷ xs, refl, subst (λ t. AreFrames t (x ∷ xs) rest) (sym other) one)
compared bytes (x ∷ xs) (y ∷ ys) rest left one other =
    let same = one_begin bytes x y one.0 other.0 one.1 other.1 in
    next same.0 (compared one.0 xs ys rest left one.2 (subst (λ t. AreFrames t ys left) (sym same.1) other.2))
  where
    next : x ≡ y → GoesOn xs ys rest left ⊎ GoesOn ys xs left rest → GoesOn (x ∷ xs) (y ∷ ys) rest left ⊎ GoesOn (y ∷ ys) (x ∷ xs) left rest
    next e (inl on) = inl (on.0, (λ i. sym e i ∷ on.1 i), on.2)
    next e (inr on) = inr (on.0, (λ i. e i ∷ on.1 i), on.2)

-- frames behind which none begins are the longest
past : (bytes : List ℕ) (xs ys : List Call) (rest left : List ℕ) → AreFrames bytes xs rest → AreFrames bytes ys left → IsStop left → GoesOn xs ys rest left
past bytes xs ys rest left one other stop = elim (compared bytes xs ys rest left one other) [ inl on ↦ on | inr on ↦ no_more on.0 on.1 on.2 ]
  where
    no_more : (more : List Call) → xs ≡ ys ++ more → AreFrames left more rest → GoesOn xs ys rest left
    no_more [] is frames = ([], sym (is ∙ append-nil ys) ∙ sym (append-nil xs), sym frames)
    no_more (m ∷ more) is frames = absurd (stop m frames.0 frames.1)

same_end : (bytes : List ℕ) (xs ys : List Call) (rest left : List ℕ) → AreFrames bytes xs rest → IsStop rest → AreFrames bytes ys left → IsStop left → (xs ≡ ys) × (rest ≡ left)
same_end bytes xs ys rest left one stop other last = let on = past bytes xs ys rest left one other last in no_more on.0 on.1 on.2
  where
    no_more : (more : List Call) → ys ≡ xs ++ more → AreFrames rest more left → (xs ≡ ys) × (rest ≡ left)
    no_more [] is frames = (sym (is ∙ append-nil xs), sym frames)
    no_more (m ∷ more) is frames = absurd (stop m frames.0 frames.1)

stops : {bytes : List ℕ} {calls : List Call} {rest : List ℕ} (end : EndTooLong bytes calls rest) → IsStop end.left
stops {rest = rest} end call after = too_long_stops end.left call end.last after rest end.too_long

front_of_end : (bytes : List ℕ) (some all : List Call) (rest left : List ℕ) → AreFrames bytes some rest → EndTooLong bytes all left → IsFrontOf some all
front_of_end bytes some all rest left frames end =
    let on = past bytes some end.others rest end.left frames end.frames (stops end) in
    (on.0 ++ (end.last ∷ []), end.is ∙ ap (λ t. t ++ (end.last ∷ [])) on.1 ∙ append_assoc some on.0 (end.last ∷ []))

one_end : (bytes : List ℕ) (xs ys : List Call) (rest left : List ℕ) → EndTooLong bytes xs rest → EndTooLong bytes ys left → xs ≡ ys
one_end bytes xs ys rest left one other =
    let same = (same_end bytes one.others other.others one.left other.left one.frames (stops one) other.frames (stops other)).0 in
    let last = one.too_long.bad ∙ sym other.too_long.bad in
    one.is ∙ (λ i. same i ++ (last i ∷ [])) ∙ sym other.is

-- the frames behind which no call begins
record EndShort (bytes : List ℕ) (calls : List Call) : Type 0 where
  rest : List ℕ
  frames : AreFrames bytes calls rest
  stop : IsStop rest
  short : (call : Call) (after : List ℕ) → ¬ BeginsTooLong rest call after

-- the last call is of a length that no frame has, or no call begins behind them
ends : (bytes : List ℕ) (calls : List Call) → AreAllCalls bytes calls → ((rest : List ℕ) × EndTooLong bytes calls rest) ⊎ EndShort bytes calls
ends bytes calls (inl (ended frames)) = inr (record { rest = []; frames = frames; stop = nothing_stops; short = nothing_short })
ends bytes calls (inl (too_long rest end)) = inl (rest, end)
ends bytes calls (inr cut) = inr (record {
  rest = cut.rest;
  frames = cut.frames;
  stop = λ call after. begun_stops cut.rest call after cut.begun;
  short = λ call after. begun_short cut.rest call after cut.begun;
})

-- where no call begins behind the frames, no length that no frame has is there
other_end : (bytes : List ℕ) (xs ys : List Call) (left : List ℕ) → EndShort bytes xs → ¬ EndTooLong bytes ys left
other_end bytes xs ys left one end =
    let same = (same_end bytes xs end.others one.rest end.left one.frames one.stop end.frames (stops end)).1 in
    one.short end.last left (subst (λ t. BeginsTooLong t end.last left) (sym same) end.too_long)

pub one_order : (bytes : List ℕ) (some others : List Call) (rest left : List ℕ) → AreCalls bytes some rest → AreCalls bytes others left → IsFrontOf some others ⊎ IsFrontOf others some
one_order bytes some others rest left (inl one) (inl other) = elim (compared bytes some others rest left one other) [ inl on ↦ inl (on.0, on.1) | inr on ↦ inr (on.0, on.1) ]
one_order bytes some others rest left (inl one) (inr end) = inl (front_of_end bytes some others rest left one end)
one_order bytes some others rest left (inr end) (inl other) = inr (front_of_end bytes others some left rest other end)
one_order bytes some others rest left (inr one) (inr other) = inl ([], sym (one_end bytes some others rest left one other) ∙ sym (append-nil some))

pub one_list : (bytes : List ℕ) (xs ys : List Call) → AreAllCalls bytes xs → AreAllCalls bytes ys → xs ≡ ys
one_list bytes xs ys one other = by (ends bytes xs one) (ends bytes ys other)
  where
    by : ((rest : List ℕ) × EndTooLong bytes xs rest) ⊎ EndShort bytes xs → ((rest : List ℕ) × EndTooLong bytes ys rest) ⊎ EndShort bytes ys → xs ≡ ys
    by (inl a) (inl b) = one_end bytes xs ys a.0 b.0 a.1 b.1
    by (inl a) (inr b) = absurd (other_end bytes ys xs a.0 b a.1)
    by (inr a) (inl b) = absurd (other_end bytes xs ys b.0 a b.1)
    by (inr a) (inr b) = (same_end bytes xs ys a.rest b.rest a.frames a.stop b.frames b.stop).0

pub front_of_all : (bytes : List ℕ) (some all : List Call) (rest : List ℕ) → AreCalls bytes some rest → AreAllCalls bytes all → IsFrontOf some all
front_of_all bytes some all rest some_are all_are = by some_are (ends bytes all all_are)
  where
    by : AreCalls bytes some rest → ((left : List ℕ) × EndTooLong bytes all left) ⊎ EndShort bytes all → IsFrontOf some all
    by (inl one) (inl b) = front_of_end bytes some all rest b.0 one b.1
    by (inl one) (inr b) = let on = past bytes some all rest b.rest one b.frames b.stop in (on.0, on.1)
    by (inr end) (inl b) = ([], sym (one_end bytes some all rest b.0 end b.1) ∙ sym (append-nil some))
    by (inr end) (inr b) = absurd (other_end bytes all some rest b end)
