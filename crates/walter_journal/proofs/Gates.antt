-- What writes leave of bytes with a gate in them, be they done or cut short: behind the gate nothing in front of it
-- changes, nor does the gate; at the gate only the gate changes.
use Rattle.std.proofs.Common.{◌≡◌, ℕ, ◌+◌, ◌<◌, List, [], ◌∷◌, ◌++◌, length, get_or, take, drop, sym, ap, ◌∙◌, ⊎_elim, arith, append_assoc, length-append, take-append-drop}
use Rattle.std.proofs.lemmas.List.{take_at, drop_at, drop_more}
use Rattle.std.proofs.Math.Seq.{drop-append-add}
use Rattle.walter_disk.specs.Disks.{laid}
use Rattle.walter_disk.specs.Images.{Torn}

module _ (front rest : List ℕ) (gate : ℕ) where
  -- the bytes, and the place behind the gate
  abbrev bytes : List ℕ
  bytes = front ++ gate ∷ rest

  split : bytes ≡ (front ++ gate ∷ []) ++ rest
  split = sym (append_assoc front (gate ∷ []) rest)

  size : length (front ++ gate ∷ []) ≡ length front + 1
  size = length-append front (gate ∷ [])

  whole_front : (at : ℕ) → at ≡ length front + 1 → take at bytes ≡ front ++ gate ∷ []
  whole_front at behind = ap (take at) split ∙ take_at (front ++ gate ∷ []) rest at (omega (arith, size))

  pub laid_behind : (over : List ℕ) (at : ℕ) → at ≡ length front + 1 → laid at over bytes ≡ front ++ gate ∷ (over ++ drop (length over) rest)
  laid_behind over at behind =
      let same : at + length over ≡ length (front ++ gate ∷ []) + length over = omega (arith, size) in
      let tail : drop (at + length over) bytes ≡ drop (length over) rest = ap (λ n. drop n bytes) same ∙ ap (drop _) split ∙ drop-append-add (front ++ gate ∷ []) rest (length over) in
      ap (λ l. l ++ over ++ drop (at + length over) bytes) (whole_front at behind)
      ∙ ap (λ l. front ++ gate ∷ [] ++ over ++ l) tail
      ∙ append_assoc (front ++ gate ∷ []) over (drop (length over) rest)
      ∙ append_assoc front (gate ∷ []) (over ++ drop (length over) rest)

  before_gate : (at : ℕ) → at ≡ length front → take at bytes ≡ front
  before_gate at here = take_at front (gate ∷ rest) at (sym here)

  behind_gate : (at : ℕ) → at ≡ length front → drop (at + 1) bytes ≡ rest
  behind_gate at here = ap (drop (at + 1)) split ∙ drop_at (front ++ gate ∷ []) rest (at + 1) (omega (arith, size))

  pub laid_gate : (to at : ℕ) → at ≡ length front → laid at (to ∷ []) bytes ≡ front ++ to ∷ rest
  laid_gate to at here =
      ap (λ l. l ++ to ∷ [] ++ drop (at + 1) bytes) (before_gate at here)
      ∙ ap (λ l. front ++ to ∷ [] ++ l) (behind_gate at here)
      ∙ append_assoc front (to ∷ []) rest

  pub torn_behind : (image : List ℕ) (at count : ℕ) → at ≡ length front + 1 → Torn at count bytes image → (tail : List ℕ) × (image ≡ front ++ gate ∷ tail)
  torn_behind image at count behind torn = (
    drop at image,
    sym (take-append-drop at image) ∙ ap (λ l. l ++ drop at image) (torn.before ∙ whole_front at behind) ∙ append_assoc front (gate ∷ []) (drop at image),
  )

  pub torn_gate : (image : List ℕ) (at : ℕ) → at ≡ length front → Torn at 1 bytes image → (to : ℕ) × (image ≡ front ++ to ∷ rest)
  torn_gate image at here torn =
      let long : at < length image = ⊎_elim (λ old. omega (arith, old, length-append front (gate ∷ rest))) (λ new. omega (arith, new, length-append front (gate ∷ rest))) torn.size in
      let tail : drop at image ≡ get_or image at 0 ∷ rest = drop_more image at 0 long ∙ ap (λ l. get_or image at 0 ∷ l) (torn.behind ∙ behind_gate at here) in (
        get_or image at 0,
        sym (take-append-drop at image) ∙ ap (λ l. l ++ drop at image) (torn.before ∙ before_gate at here) ∙ ap (λ l. front ++ l) tail,
      )
