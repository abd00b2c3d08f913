-- Bytes are a journal of one list of bodies, or foreign, or damaged at one place.
use Rattle.std.proofs.Common.{◌≡◌, ◌≢◌, ℕ, ◌+◌, ◌-◌, ◌<◌, get_or, ◌≤◌, List, [], ◌∷◌, ◌++◌, length, take, drop, All, refl, sym, ap, subst, ◌∙◌, inl, inr, ⊎_elim, arith, append_assoc, length-append}
use Rattle.std.proofs.lemmas.Grind.{flat_map-append}
use Rattle.std.proofs.lemmas.List.{take_at, drop_at}
use Rattle.std.proofs.lemmas.List.Elements.{recursion_from_All}
use Rattle.std.proofs.lemmas.List.Sums.{sum_by-cons}
use Rattle.std.specs.List.{AllByRecursion}
use Rattle.std.specs.Prelude.{sum_by}
use Rattle.byteorder.specs.Numbers.{big_number-reads_back}
use Rattle.byteorder.specs.Endian.{big_bytes, big_number}
use Rattle.walter_base.specs.declared.format.Format.{Format}
use Rattle.walter_base.specs.declared.format.Format.TheVariants.{First, Second}
use Rattle.walter_journal.specs.Layout.{digit_of, header_in, record_of, records, end_behind, span_of, IsShort, HasBehind, HasContent, IsForeign, ClaimsTooMuch, IsDamagedBehind, IsDamaged}

-- the length at the front of a record
pub record_length : (body next : List ℕ) → IsShort body → big_number 4 (record_of body ++ next) ≡ length body
record_length body next short = big_number-reads_back 4 (length body) (body ++ next) (omega arith)

-- no record begins another
pub same_record : (a b x y : List ℕ) → IsShort a → IsShort b → record_of a ++ x ≡ record_of b ++ y → (a ≡ b) × (x ≡ y)
same_record a b x y short_a short_b e =
    let len : length a ≡ length b = sym (record_length a x short_a) ∙ ap (big_number 4) e ∙ record_length b y short_b in
    let rest : a ++ x ≡ b ++ y = ap (drop 4) e in
    (sym (take_at a x (length b) len) ∙ ap (take (length b)) rest ∙ take_at b y (length b) refl, sym (drop_at a x (length b) len) ∙ ap (drop (length b)) rest ∙ drop_at b y (length b) refl)

-- the first record, and what stands behind it
pub records-cons : (body : List ℕ) (bodies : List (List ℕ)) (tail : List ℕ) → records (body ∷ bodies) ++ tail ≡ 1 ∷ (record_of body ++ (records bodies ++ tail))
records-cons body bodies tail = ap (λ (l : List ℕ). 1 ∷ (big_bytes 4 (length body) ++ l)) (append_assoc body (records bodies) tail)

-- and one more behind the others
pub records-push : (bodies : List (List ℕ)) (body tail : List ℕ) → records (bodies ++ body ∷ []) ++ tail ≡ records bodies ++ 1 ∷ (record_of body ++ tail)
records-push bodies body tail =
    ap (λ l. l ++ tail) (flat_map-append (λ body. 1 ∷ record_of body) bodies (body ∷ [])) ∙ append_assoc (records bodies) (records (body ∷ [])) tail ∙ ap (λ l. records bodies ++ l) (records-cons body [] tail)

-- what stands here is no open gate with a record and one more gate behind it
abbrev pub EndsRecords : List ℕ → Type 0
EndsRecords tail = (0 < length tail) × ((body next : List ℕ) → IsShort body → 0 < length next → tail ≢ 1 ∷ (record_of body ++ next))

-- the records up to there are the same
same_records : (a b : List (List ℕ)) (s t : List ℕ) → AllByRecursion IsShort a → AllByRecursion IsShort b → EndsRecords s → EndsRecords t → records a ++ s ≡ records b ++ t → (a ≡ b) × (s ≡ t)
same_records [] [] s t short_a short_b ends_s ends_t e = (refl, e)
same_records [] (y ∷ b) s t short_a short_b ends_s ends_t e =
    absurd (ends_s.1 y (records b ++ t) short_b.0 (omega (arith, ends_t.0, length-append (records b) t)) (e ∙ records-cons y b t))
same_records (x ∷ a) [] s t short_a short_b ends_s ends_t e =
    absurd (ends_t.1 x (records a ++ s) short_a.0 (omega (arith, ends_s.0, length-append (records a) s)) (sym e ∙ records-cons x a s))
same_records (x ∷ a) (y ∷ b) s t short_a short_b ends_s ends_t e =
    let one : 1 ∷ (record_of x ++ (records a ++ s)) ≡ 1 ∷ (record_of y ++ (records b ++ t)) = sym (records-cons x a s) ∙ e ∙ records-cons y b t in
    let first = same_record x y (records a ++ s) (records b ++ t) short_a.0 short_b.0 (ap (drop 1) one) in
    let others = same_records a b s t short_a.1 short_b.1 ends_s ends_t first.1 in
    (λ i. first.0 i ∷ others.0 i, others.1)

-- so they are behind the same bytes in front
pub same_layout : (front : List ℕ) (a b : List (List ℕ)) (s t : List ℕ) → All IsShort a → All IsShort b → EndsRecords s → EndsRecords t → front ++ records a ++ s ≡ front ++ records b ++ t → (a ≡ b) × (s ≡ t)
same_layout front a b s t short_a short_b ends_s ends_t e =
    let whole : front ++ (records a ++ s) ≡ front ++ (records b ++ t) = sym (append_assoc front (records a) s) ∙ e ∙ append_assoc front (records b) t in
    let behind : records a ++ s ≡ records b ++ t = sym (drop_at front (records a ++ s) (length front) refl) ∙ ap (drop (length front)) whole ∙ drop_at front (records b ++ t) (length front) refl in
    same_records a b s t (recursion_from_All IsShort a short_a) (recursion_from_All IsShort b short_b) ends_s ends_t behind

-- the last byte of a header tells the format
pub same_digit : (format other : Format) → digit_of format ≡ digit_of other → format ≡ other
same_digit First First e = refl
same_digit First Second e = absurd (omega (arith, e))
same_digit Second First e = absurd (omega (arith, e))
same_digit Second Second e = refl

-- and so bytes behind a header do
pub one_format : (bytes : List ℕ) (format other : Format) (bodies bodies' : List (List ℕ)) (s t : List ℕ) → bytes ≡ header_in format ++ records bodies ++ s → bytes ≡ header_in other ++ records bodies' ++ t → format ≡ other
one_format bytes format other bodies bodies' s t is is' = same_digit format other (ap (λ l. get_or l 7 0) (sym is ∙ is'))

-- bytes that go on behind a header aren't foreign
pub not_foreign : (bytes : List ℕ) (format : Format) (bodies : List (List ℕ)) (s : List ℕ) → bytes ≡ header_in format ++ records bodies ++ s → 0 < length s → IsForeign bytes → ⊥
not_foreign bytes format bodies s is more (inl few) = omega (arith, few, more, ap length is, length-append (header_in format ++ records bodies) s)
not_foreign bytes format bodies s is more (inr none) = none format (ap (take 8) is)

pub closed_ends : (gate : ℕ) (rest : List ℕ) → gate ≢ 1 → EndsRecords (gate ∷ rest)
closed_ends gate rest closed = (omega arith, λ body next short more e. closed (cc))

pub damage_ends : (behind : List ℕ) (claimed : ℕ) → ClaimsTooMuch behind claimed → EndsRecords (1 ∷ behind)
damage_ends behind claimed wrong = (omega arith, λ body next short more e. no_record body next short more (ap (drop 1) e))
  where
    no_record : (body next : List ℕ) → IsShort body → 0 < length next → behind ≢ record_of body ++ next
    no_record body next short more e =
        let size : length behind ≡ 4 + length body + length next = ap length e ∙ omega (arith, length-append body next) in
        let number : big_number 4 behind ≡ length body = ap (big_number 4) e ∙ record_length body next short in
        ⊎_elim (λ few. omega (arith, few.0, size)) (λ many. ⊎_elim (λ great. omega (arith, great, many.1, number, short)) (λ less. omega (arith, less, many.1, number, size, more)) many.2) wrong

-- one length is told
same_claim : (behind : List ℕ) (a b : ℕ) → ClaimsTooMuch behind a → ClaimsTooMuch behind b → a ≡ b
same_claim behind a b (inl few_a) (inl few_b) = omega (arith, few_a.1, few_b.1)
same_claim behind a b (inl few) (inr many) = absurd (omega (arith, few.0, many.0))
same_claim behind a b (inr many) (inl few) = absurd (omega (arith, few.0, many.0))
same_claim behind a b (inr many_a) (inr many_b) = many_a.1 ∙ sym many_b.1

pub one_content : (bytes : List ℕ) (format other : Format) (a b : List (List ℕ)) → HasContent format bytes a → HasContent other bytes b → (format ≡ other) × (a ≡ b)
one_content bytes format other a b content content' =
    let format_is = one_format bytes format other a b (content.gate ∷ content.rest) (content'.gate ∷ content'.rest) content.is content'.is in
    let front = header_in other in (
      format_is,
      (same_layout front a b (content.gate ∷ content.rest) (content'.gate ∷ content'.rest) content.fit content'.fit (closed_ends _ _ content.closed) (closed_ends _ _ content'.closed)
          (sym (subst (λ f. bytes ≡ header_in f ++ records a ++ content.gate ∷ content.rest) format_is content.is) ∙ content'.is)).0,
    )

pub not_damaged : (bytes : List ℕ) (format other : Format) (bodies : List (List ℕ)) (at claimed : ℕ) → HasContent format bytes bodies → IsDamaged other bytes at claimed → ⊥
not_damaged bytes format other bodies at claimed content damage =
    let format_is = one_format bytes format other bodies damage.bodies (content.gate ∷ content.rest) (1 ∷ damage.behind) content.is damage.is in
    let content_is = subst (λ f. bytes ≡ header_in f ++ records bodies ++ content.gate ∷ content.rest) format_is content.is in
    let same = same_layout (header_in other) bodies damage.bodies (content.gate ∷ content.rest) (1 ∷ damage.behind) content.fit damage.fit (closed_ends _ _ content.closed) (damage_ends _ _ damage.wrong) (sym content_is ∙ damage.is) in
    let gates = same.1 in
    content.closed cc

-- behind the same bytes in front one place is damaged
pub one_damage_behind : (front bytes : List ℕ) (at claimed at' claimed' : ℕ) → IsDamagedBehind front bytes at claimed → IsDamagedBehind front bytes at' claimed' → (at ≡ at') × (claimed ≡ claimed')
one_damage_behind front bytes at claimed at' claimed' damage other =
    let same = same_layout front damage.bodies other.bodies (1 ∷ damage.behind) (1 ∷ other.behind) damage.fit other.fit (damage_ends _ _ damage.wrong) (damage_ends _ _ other.wrong) (sym damage.is ∙ other.is) in
    let behind : damage.behind ≡ other.behind = ap (drop 1) same.1 in
    (damage.place ∙ ap (λ bodies. length (front ++ records bodies)) same.0 ∙ sym other.place, same_claim other.behind claimed claimed' (subst (λ l. ClaimsTooMuch l claimed) behind damage.wrong) other.wrong)

pub one_damage : (bytes : List ℕ) (format other : Format) (at claimed at' claimed' : ℕ) → IsDamaged format bytes at claimed → IsDamaged other bytes at' claimed' → (at ≡ at') × (claimed ≡ claimed')
one_damage bytes format other at claimed at' claimed' damage damage' =
    let format_is = one_format bytes format other damage.bodies damage'.bodies (1 ∷ damage.behind) (1 ∷ damage'.behind) damage.is damage'.is in
    one_damage_behind (header_in other) bytes at claimed at' claimed' (subst (λ f. IsDamaged f bytes at claimed) format_is damage) damage'

pub content_or_foreign : (bytes : List ℕ) (format : Format) (bodies : List (List ℕ)) → HasContent format bytes bodies → IsForeign bytes → ⊥
content_or_foreign bytes format bodies content = not_foreign bytes format bodies (content.gate ∷ content.rest) content.is (omega arith)

pub foreign_or_damaged : (bytes : List ℕ) (format : Format) (at claimed : ℕ) → IsForeign bytes → IsDamaged format bytes at claimed → ⊥
foreign_or_damaged bytes format at claimed foreign damage = not_foreign bytes format damage.bodies (1 ∷ damage.behind) damage.is (omega arith) foreign

-- where the gate that ends them stands
pub length-records : (bodies : List (List ℕ)) → length (records bodies) ≡ sum_by (λ body. 5 + length body) bodies
length-records [] = refl
length-records (x ∷ bodies) = omega (arith, length-append (1 ∷ record_of x) (records bodies), length-records bodies, sum_by-cons (λ body. 5 + length body) x bodies)

pub span_is : (front : List ℕ) (bodies : List (List ℕ)) → length (front ++ records bodies) + 1 ≡ length front + span_of bodies
span_is front bodies = omega (arith, length-append front (records bodies), length-records bodies)

pub end_is : (format : Format) (bodies : List (List ℕ)) → length (header_in format ++ records bodies) + 1 ≡ end_behind bodies
end_is format bodies = omega (arith, length-append (header_in format) (records bodies), length-records bodies)

-- a journal ends within its bytes
pub end_within : (format : Format) (bytes : List ℕ) (bodies : List (List ℕ)) → HasContent format bytes bodies → end_behind bodies ≤ length bytes
end_within format bytes bodies content =
    omega (arith, ap length content.is, length-append (header_in format ++ records bodies) (content.gate ∷ content.rest), end_is format bodies)

pub behind_to : (front bytes rest : List ℕ) (bodies : List (List ℕ)) → bytes ≡ front ++ records bodies ++ rest → All IsShort bodies → 0 < length rest → get_or rest 0 0 ≢ 1
    → HasBehind front bytes bodies × (length bytes - length rest + 1 ≡ length front + span_of bodies)
behind_to front bytes [] bodies is fit more closed = absurd (omega arith)
behind_to front bytes (gate ∷ rest) bodies is fit more closed = (
  record { gate = gate; rest = rest; is = is; closed = closed; fit = fit },
  omega (arith, ap length is, length-append (front ++ records bodies) (gate ∷ rest), span_is front bodies),
)
