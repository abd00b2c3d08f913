-- A journal while a body is appended: staged behind the closed gate, and then let in by it.
use Rattle.std.proofs.Common.{◌≡◌, ◌≢◌, inl, inr, ℕ, ◌+◌, List, [], ◌∷◌, ◌++◌, length, drop, All, Option, Some, option_map, sym, ap, subst, ◌∙◌, arith, append_assoc}
use Rattle.std.proofs.lemmas.Bool.{cases_eq}
use Rattle.std.proofs.lemmas.List.Elements.{All-push}
use Rattle.std.proofs.lemmas.List.Sums.{sum_by-append}
use Rattle.walter_disk.specs.Disks.{DiskState, laid, written}
use Rattle.walter_disk.specs.Images.{Torn, Only, IsDurable, LeavesOnly}
use Rattle.walter_journal.specs.Layout.{record_of, records, span_of, IsShort, HasBehind, IsBehindOrOneMore}
use Rattle.walter_journal.proofs.Gates.{laid_behind, laid_gate, torn_behind, torn_gate}
use Rattle.walter_journal.proofs.Layouts.{records-push, span_is}
use Rattle.walter_disk.proofs.Moments.{weaker, joined}

-- a write behind the gate takes no body away, wherever it is cut short
pub torn_content : (front : List ℕ) (bodies : List (List ℕ)) (bytes image : List ℕ) (at count : ℕ) → HasBehind front bytes bodies → at ≡ length front + span_of bodies → Torn at count bytes image → HasBehind front image bodies
torn_content front bodies bytes image at count content end torn =
    let left = torn_behind (front ++ records bodies) content.rest content.gate image at count (omega (arith, end, span_is front bodies)) (subst (λ l. Torn at count l image) content.is torn) in
    record { gate = content.gate; rest = left.0; is = left.1; closed = content.closed; fit = content.fit }

module _ (head : List ℕ) (bodies : List (List ℕ)) (body : List ℕ) where
  -- what stands in front of the gate that ends the bodies
  abbrev front : List ℕ
  front = head ++ records bodies

  -- the body's record and a closed gate stand behind the gate that ends the bodies
  pub record IsStaged (bytes : List ℕ) : Type 0 where
    pub gate : ℕ
    pub tail : List ℕ
    pub is : bytes ≡ front ++ gate ∷ (record_of body ++ 0 ∷ tail)
    pub closed : gate ≢ 1

  one_more : (tail : List ℕ) → front ++ 1 ∷ (record_of body ++ 0 ∷ tail) ≡ head ++ records (bodies ++ body ∷ []) ++ 0 ∷ tail
  one_more tail =
      append_assoc head (records bodies) (1 ∷ (record_of body ++ 0 ∷ tail)) ∙ ap (λ l. head ++ l) (sym (records-push bodies body (0 ∷ tail)))
      ∙ sym (append_assoc head (records (bodies ++ body ∷ [])) (0 ∷ tail))

  pub staged : (bytes : List ℕ) (at : ℕ) → HasBehind head bytes bodies → at ≡ length head + span_of bodies → IsStaged (laid at (record_of body ++ 0 ∷ []) bytes)
  staged bytes at content end =
      let over = record_of body ++ 0 ∷ [] in
      let tail = drop (length over) content.rest in
      record {
        gate = content.gate;
        tail = tail;
        is = ap (laid at over) content.is ∙ laid_behind front content.rest content.gate over at (omega (arith, end, span_is head bodies)) ∙ ap (λ l. front ++ content.gate ∷ l) (append_assoc (record_of body) (0 ∷ []) tail);
        closed = content.closed;
      }

  -- the gate lets it in or doesn't
  gate_content : (image tail : List ℕ) (gate : ℕ) (fit : All IsShort bodies) → IsShort body → image ≡ front ++ gate ∷ (record_of body ++ 0 ∷ tail) → IsBehindOrOneMore head bodies body image
  gate_content image tail gate fit short is = elim (cases_eq gate 1) [
    | inl is_open ↦ inr (record { gate = 0; rest = tail; is = is ∙ ap (λ g. front ++ g ∷ (record_of body ++ 0 ∷ tail)) is_open ∙ one_more tail; closed = omega arith; fit = All-push IsShort bodies body fit short })
    | inr shut ↦ inl (record { gate = gate; rest = record_of body ++ 0 ∷ tail; is = is; closed = shut; fit = fit })
  ]

  pub torn_opening : (bytes image : List ℕ) (at : ℕ) → All IsShort bodies → IsShort body → IsStaged bytes → at + 1 ≡ length head + span_of bodies → Torn at 1 bytes image → IsBehindOrOneMore head bodies body image
  torn_opening bytes image at fit short stage end torn =
      let left = torn_gate front (record_of body ++ 0 ∷ stage.tail) stage.gate image at (omega (arith, end, span_is head bodies)) (subst (λ l. Torn at 1 l image) stage.is torn) in
      gate_content image stage.tail left.0 fit short left.1

  pub opened : (bytes : List ℕ) (at : ℕ) → All IsShort bodies → IsShort body → IsStaged bytes → at + 1 ≡ length head + span_of bodies → HasBehind head (laid at (1 ∷ []) bytes) (bodies ++ body ∷ [])
  opened bytes at fit short stage end = record {
    gate = 0;
    rest = stage.tail;
    is = ap (laid at (1 ∷ [])) stage.is ∙ laid_gate front (record_of body ++ 0 ∷ stage.tail) stage.gate 1 at (omega (arith, end, span_is head bodies)) ∙ one_more stage.tail;
    closed = omega arith;
    fit = All-push IsShort bodies body fit short;
  }

  pub span_of-push : span_of (bodies ++ body ∷ []) ≡ span_of bodies + (length body + 5)
  span_of-push = omega (arith, sum_by-append (λ body. 5 + length body) bodies (body ∷ []))

-- what reads behind a write
pub told_behind : (old new : DiskState) (at : ℕ) (over bytes : List ℕ) → new ≡ written at over old → old.reads ≡ Some bytes → new.reads ≡ Some (laid at over bytes)
told_behind old new at over bytes done told = ap (λ (disk : DiskState). disk.reads) done ∙ ap (option_map (laid at over)) told

-- where that is safe, a crash leaves it
pub only_behind : (reads : Option (List ℕ)) (bytes : List ℕ) (images : List ℕ → Type 0) → reads ≡ Some bytes → IsDurable reads images → Only bytes images
only_behind reads bytes images told safe = subst (λ o. IsDurable o images) told safe

module _ {D : Type 0} (moment : D → ℕ) (left_since : D → ℕ → List ℕ → Type 0) (front : List ℕ) (bodies : List (List ℕ)) (body bytes : List ℕ) (end count : ℕ) (content : HasBehind front bytes bodies) (is_end : end ≡ length front + span_of bodies) where
  -- after the first step of an append a crash leaves the bodies from before it
  pub staging : (old mid : D) → LeavesOnly moment left_since old mid (Torn end count bytes) → LeavesOnly moment left_since old mid (IsBehindOrOneMore front bodies body)
  staging old mid = weaker moment left_since old mid _ _ (λ image torn. inl (torn_content front bodies bytes image end count content is_end torn))

  -- and after the second these, or these and the new one
  pub opening : (old mid new : D) (at : ℕ) → IsShort body → at + 1 ≡ end → LeavesOnly moment left_since old mid (Torn end count bytes)
      → LeavesOnly moment left_since mid new (Torn at 1 (laid end (record_of body ++ 0 ∷ []) bytes)) → LeavesOnly moment left_since old new (IsBehindOrOneMore front bodies body)
  opening old mid new at short before first second =
      let stage = staged front bodies body bytes end content is_end in
      joined moment left_since old mid new _ (staging old mid first) (weaker moment left_since mid new _ _ (λ image torn. torn_opening front bodies body _ image at content.fit short stage (before ∙ is_end) torn) second)
