-- Bytes are a book of one list of bodies. With the header of one area it is a journal's.
use Rattle.std.proofs.Common.{◌≡◌, ◌⊎◌, inl, inr, ⊎_elim, ◌+◌, ◌-◌, ◌<◌, ◌≤◌, ◌^◌, ℕ, Bool, true, false, List, [], ◌∷◌, ◌++◌, length, take, drop, get_or, if◌then◌else◌, All, refl, sym, ap, subst, ◌∙◌, arith, append_assoc, length-append, take-append-drop}
use Rattle.std.proofs.lemmas.Bool.{true≢false, eq-eqb, ltb-true, ltb-false}
use Rattle.std.proofs.lemmas.Bool.Decides.{eqb_tells}
use Rattle.std.specs.Prelude.{◌==◌, ◌&&◌, nat_lt}
use Rattle.std.proofs.lemmas.List.{take_at, drop_at, length-take, length-drop, drop-drop, get_or-take, get_or_append_left}
use Rattle.std.proofs.lemmas.List.Elements.{recursion_from_All}
use Rattle.std.specs.List.{AllByRecursion}
use Rattle.byteorder.specs.Numbers.{big_number-reads_back}
use Rattle.byteorder.specs.Endian.{big_bytes, big_number}
use Rattle.walter_base.specs.declared.format.Format.{Format}
use Rattle.walter_journal.specs.Layout.{header_in, records, record_of, IsShort, HasBehind}
use Rattle.walter_journal.proofs.Layouts.{same_record, same_layout, same_digit, closed_ends, one_content}
use Rattle.walter_checkpoint.specs.Packs.{are_zeros, start_end, spare_of, kept_in, cut, is_cut, entry_of, entries, pack_of}
use Rattle.walter_checkpoint.specs.Areas.{Shape, shape_by, area_size, header_of_two, HasArea, IsLive, HasTwo, HasContent}
use Rattle.walter_checkpoint.proofs.Packs.{length-pack, length-cut}

-- the headers of one area and of two differ
pub headers_differ : (bytes one two : List ℕ) (format other : Format) → bytes ≡ header_in format ++ one → bytes ≡ header_of_two other ++ two → ⊥
headers_differ bytes one two format other is_one is_two = omega (arith, ap (λ l. get_or l 6 0) (sym is_one ∙ is_two))

-- and those of two formats
pub one_header : (bytes one two : List ℕ) (format other : Format) → bytes ≡ header_of_two format ++ one → bytes ≡ header_of_two other ++ two → format ≡ other
one_header bytes one two format other is_one is_two = same_digit format other (ap (λ l. get_or l 7 0) (sym is_one ∙ is_two))

-- what the first bytes are stands in front
front_is : (bytes front : List ℕ) → take 8 bytes ≡ front → bytes ≡ front ++ drop 8 bytes
front_is bytes front is = sym (take-append-drop 8 bytes) ∙ ap (λ l. l ++ drop 8 bytes) is

pub one_area : (shape : Shape) (format : Format) (bytes : List ℕ) (bodies : List (List ℕ)) → take 8 bytes ≡ header_in format → HasContent shape bytes bodies → (shape.header ≡ format) × HasBehind (header_in format) bytes bodies
one_area shape format bytes bodies is (inl one) =
    let same : shape.header ≡ format = same_digit shape.header format (ap (λ l. get_or l 7 0) (sym one.is ∙ front_is bytes (header_in format) is)) in
    (same, subst (λ f. HasBehind (header_in f) bytes bodies) same one)
one_area shape format bytes bodies is (inr two) = absurd (headers_differ bytes (drop 8 bytes) (two.switch ∷ two.areas) format shape.header (front_is bytes (header_in format) is) two.is)

pub two_areas : (shape : Shape) (format : Format) (bytes : List ℕ) (bodies : List (List ℕ)) → take 8 bytes ≡ header_of_two format → HasContent shape bytes bodies → (shape.header ≡ format) × HasTwo shape bytes bodies
two_areas shape format bytes bodies is (inl one) = absurd (headers_differ bytes (records bodies ++ one.gate ∷ one.rest) (drop 8 bytes) shape.header format one.is (front_is bytes (header_of_two format) is))
two_areas shape format bytes bodies is (inr two) = (one_header bytes (two.switch ∷ two.areas) (drop 8 bytes) shape.header format two.is (front_is bytes (header_of_two format) is), two)

-- zeros of one number are the same
zero_head : (x : ℕ) (xs : List ℕ) → are_zeros (x ∷ xs) ≡ true → (x ≡ 0) × (are_zeros xs ≡ true)
zero_head x xs z = elim (eqb_tells x 0) [
  | inl is ↦ (is.1, sym (ap (λ b. b && are_zeros xs) is.0) ∙ z)
  | inr other ↦ absurd (true≢false (sym z ∙ ap (λ b. b && are_zeros xs) other.0))
]

same_zeros : (a b : List ℕ) → are_zeros a ≡ true → are_zeros b ≡ true → length a ≡ length b → a ≡ b
same_zeros [] [] za zb e = refl
same_zeros [] (y ∷ b) za zb e = absurd (omega (arith, e))
same_zeros (x ∷ a) [] za zb e = absurd (omega (arith, e))
same_zeros (x ∷ a) (y ∷ b) za zb e =
    let x_is = zero_head x a za in
    let y_is = zero_head y b zb in
    let head : x ≡ y = x_is.0 ∙ sym y_is.0 in
    let tail = same_zeros a b x_is.1 y_is.1 (omega (arith, e)) in
    λ i. head i ∷ tail i

-- what it says of a body that its zeros are left out
pub record IsCut (sites : ℕ) (body : List ℕ) : Type 0 where
  pub few : sites < 8
  pub start : (start_end (get_or body 0 0) ≡ 94) ⊎ (start_end (get_or body 0 0) ≡ 95)
  pub there : start_end (get_or body 0 0) ≤ length body
  pub zeros : are_zeros (take (spare_of sites) (drop (kept_in sites body) body)) ≡ true

pub kinds : (kind : ℕ) → (start_end kind ≡ 0) ⊎ ((start_end kind ≡ 94) ⊎ (start_end kind ≡ 95))
kinds kind = two (kind == 2) (kind == 3) (kind == 7)
  where
    by : Bool → Bool → Bool → ℕ
    by a b c = if a then 94 else if b then 95 else if c then 94 else 0

    two : (a b c : Bool) → (by a b c ≡ 0) ⊎ ((by a b c ≡ 94) ⊎ (by a b c ≡ 95))
    two true b c = inr (inl refl)
    two false true c = inr (inr refl)
    two false false true = inr (inl refl)
    two false false false = inl refl

pub cut_is : (sites : ℕ) (body : List ℕ) → is_cut sites body ≡ true → IsCut sites body
cut_is sites body is = first (nat_lt sites 8) (start_end (get_or body 0 0) == 0) (nat_lt (length body) (start_end (get_or body 0 0))) refl refl refl is
  where
    first : (a b c : Bool) → (start_end (get_or body 0 0) == 0) ≡ b → nat_lt (length body) (start_end (get_or body 0 0)) ≡ c → nat_lt sites 8 ≡ a
        → (if a then (if b then false else (if c then false else are_zeros (take (spare_of sites) (drop (kept_in sites body) body)))) else false) ≡ true → IsCut sites body
    first false b c eb ec ea z = absurd (true≢false (sym z))
    first true true c eb ec ea z = absurd (true≢false (sym z))
    first true false true eb ec ea z = absurd (true≢false (sym z))
    first true false false eb ec ea z = record {
      few = ltb-true sites 8 ea;
      start = ⊎_elim (λ none. absurd (true≢false (sym (eq-eqb (start_end (get_or body 0 0)) 0 none) ∙ eb))) (λ some. some) (kinds (get_or body 0 0));
      there = ltb-false (length body) (start_end (get_or body 0 0)) ec;
      zeros = z;
    }

pub kept_head : (sites : ℕ) (body : List ℕ) → IsCut sites body → (30 ≤ kept_in sites body) × (kept_in sites body + spare_of sites ≡ start_end (get_or body 0 0))
kept_head sites body is = ⊎_elim (λ a. (omega (arith, a), omega (arith, a))) (λ b. (omega (arith, b), omega (arith, b))) is.start

pub length-kept : (sites : ℕ) (body : List ℕ) → IsCut sites body → length (take (kept_in sites body) body) ≡ kept_in sites body
length-kept sites body is = omega (arith, length-take (kept_in sites body) body, is.there, (kept_head sites body is).1)

pub first_kept : (sites : ℕ) (body : List ℕ) → IsCut sites body → get_or (cut sites body) 0 0 ≡ get_or body 0 0
first_kept sites body is =
    get_or_append_left (take (kept_in sites body) body) (drop (start_end (get_or body 0 0)) body) 0 0 (omega (arith, length-kept sites body is, (kept_head sites body is).0))
    ∙ get_or-take (kept_in sites body) body 0 0 (omega (arith, (kept_head sites body is).0))

pub parts : (sites : ℕ) (body : List ℕ) → IsCut sites body → body ≡ take (kept_in sites body) body ++ (take (spare_of sites) (drop (kept_in sites body) body) ++ drop (start_end (get_or body 0 0)) body)
parts sites body is =
    let k = kept_in sites body in
    let rest : drop (spare_of sites) (drop k body) ≡ drop (start_end (get_or body 0 0)) body = drop-drop (spare_of sites) k body ∙ ap (λ n. drop n body) (kept_head sites body is).1 in
    sym (take-append-drop k body) ∙ ap (λ l. take k body ++ l) (sym (take-append-drop (spare_of sites) (drop k body)) ∙ ap (λ l. take (spare_of sites) (drop k body) ++ l) rest)

pub length-window : (sites : ℕ) (body : List ℕ) → IsCut sites body → length (take (spare_of sites) (drop (kept_in sites body) body)) ≡ spare_of sites
length-window sites body is = omega (arith, length-take (spare_of sites) (drop (kept_in sites body) body), length-drop (kept_in sites body) body, is.there, (kept_head sites body is).1)

pub same_cut : (sites : ℕ) (a b : List ℕ) → IsCut sites a → IsCut sites b → cut sites a ≡ cut sites b → a ≡ b
same_cut sites a b is_a is_b e =
    let kind : get_or a 0 0 ≡ get_or b 0 0 = sym (first_kept sites a is_a) ∙ ap (λ l. get_or l 0 0) e ∙ first_kept sites b is_b in
    let kept : kept_in sites a ≡ kept_in sites b = ap (λ k. start_end k - spare_of sites) kind in
    let size_b = length-kept sites b is_b in
    let front : take (kept_in sites a) a ≡ take (kept_in sites b) b =
    sym (take_at (take (kept_in sites a) a) (drop (start_end (get_or a 0 0)) a) (kept_in sites b) (length-kept sites a is_a ∙ kept))
    ∙ ap (take (kept_in sites b)) e ∙ take_at (take (kept_in sites b) b) (drop (start_end (get_or b 0 0)) b) (kept_in sites b) size_b in
    let back : drop (start_end (get_or a 0 0)) a ≡ drop (start_end (get_or b 0 0)) b =
    sym (drop_at (take (kept_in sites a) a) (drop (start_end (get_or a 0 0)) a) (kept_in sites b) (length-kept sites a is_a ∙ kept))
    ∙ ap (drop (kept_in sites b)) e ∙ drop_at (take (kept_in sites b) b) (drop (start_end (get_or b 0 0)) b) (kept_in sites b) size_b in
    let middle = same_zeros (take (spare_of sites) (drop (kept_in sites a) a)) (take (spare_of sites) (drop (kept_in sites b) b)) is_a.zeros is_b.zeros (length-window sites a is_a ∙ sym (length-window sites b is_b)) in
    parts sites a is_a ∙ (λ i. front i ++ (middle i ++ back i)) ∙ sym (parts sites b is_b)

pub short_cut : (sites : ℕ) (body : List ℕ) → IsShort body → IsShort (cut sites body)
short_cut sites body short = omega (arith, length-cut sites body, short)

-- no entry begins another
pub same_entry : (sites : ℕ) (a b x y : List ℕ) → IsShort a → IsShort b → entry_of sites a ++ x ≡ entry_of sites b ++ y → (a ≡ b) × (x ≡ y)
same_entry sites a b x y short_a short_b = by (is_cut sites a) (is_cut sites b) refl refl
  where
    by : (p q : Bool) → is_cut sites a ≡ p → is_cut sites b ≡ q
        → (if p then 1 ∷ record_of (cut sites a) else 0 ∷ record_of a) ++ x ≡ (if q then 1 ∷ record_of (cut sites b) else 0 ∷ record_of b) ++ y → (a ≡ b) × (x ≡ y)
    by true true p q e =
        let same = same_record (cut sites a) (cut sites b) x y (short_cut sites a short_a) (short_cut sites b short_b) (ap (drop 1) e) in
        (same_cut sites a b (cut_is sites a p) (cut_is sites b q) same.0, same.1)
    by true false p q e = absurd (omega (arith, ap (λ l. get_or l 0 0) e))
    by false true p q e = absurd (omega (arith, ap (λ l. get_or l 0 0) e))
    by false false p q e = same_record a b x y short_a short_b (ap (drop 1) e)

pub entry_some : (sites : ℕ) (body : List ℕ) → 1 ≤ length (entry_of sites body)
entry_some sites body = some (is_cut sites body)
  where
    some : (p : Bool) → 1 ≤ length (if p then 1 ∷ record_of (cut sites body) else 0 ∷ record_of body)
    some true = omega arith
    some false = omega arith

same_entries : (sites : ℕ) (a b : List (List ℕ)) → AllByRecursion IsShort a → AllByRecursion IsShort b → entries sites a ≡ entries sites b → a ≡ b
same_entries sites [] [] short_a short_b e = refl
same_entries sites [] (y ∷ b) short_a short_b e = absurd (omega (arith, ap length e, length-append (entry_of sites y) (entries sites b), entry_some sites y))
same_entries sites (x ∷ a) [] short_a short_b e = absurd (omega (arith, ap length e, length-append (entry_of sites x) (entries sites a), entry_some sites x))
same_entries sites (x ∷ a) (y ∷ b) short_a short_b e =
    let first = same_entry sites x y (entries sites a) (entries sites b) short_a.0 short_b.0 e in
    let others = same_entries sites a b short_a.1 short_b.1 first.1 in
    λ i. first.0 i ∷ others i

-- no pack begins another
pub same_pack : (sites : ℕ) (a b : List (List ℕ)) (s t : List ℕ) → All IsShort a → All IsShort b → length (pack_of sites a) < 2 ^ 64 → length (pack_of sites b) < 2 ^ 64 → pack_of sites a ++ s ≡ pack_of sites b ++ t → (a ≡ b) × (s ≡ t)
same_pack sites a b s t short_a short_b small_a small_b e =
    let ea = entries sites a in
    let eb = entries sites b in
    let whole : big_bytes 8 (length ea) ++ (ea ++ s) ≡ big_bytes 8 (length eb) ++ (eb ++ t) = sym (append_assoc (big_bytes 8 (length ea)) ea s) ∙ e ∙ append_assoc (big_bytes 8 (length eb)) eb t in
    let size : length ea ≡ length eb =
    sym (big_number-reads_back 8 (length ea) (ea ++ s) (omega (arith, length-pack sites a, small_a))) ∙ ap (big_number 8) whole ∙ big_number-reads_back 8 (length eb) (eb ++ t) (omega (arith, length-pack sites b, small_b)) in
    let rest : ea ++ s ≡ eb ++ t = ap (drop 8) whole in
    let same : ea ≡ eb = sym (take_at ea s (length eb) size) ∙ ap (take (length eb)) rest ∙ take_at eb t (length eb) refl in
    (same_entries sites a b (recursion_from_All IsShort a short_a) (recursion_from_All IsShort b short_b) same, sym (drop_at ea s (length eb) size) ∙ ap (drop (length eb)) rest ∙ drop_at eb t (length eb) refl)

-- an area has one list of bodies
pub one_area_content : (shape : Shape) (bytes : List ℕ) (a b : List (List ℕ)) → shape.capacity < 2 ^ 64 → HasArea shape bytes a → HasArea shape bytes b → a ≡ b
one_area_content shape bytes a b small area other =
    let less : area_size shape < 2 ^ 64 = omega (arith, small) in
    let e : pack_of shape.sites area.packed ++ (records area.behind ++ area.content.gate ∷ area.content.rest) ≡ pack_of shape.sites other.packed ++ (records other.behind ++ other.content.gate ∷ other.content.rest) =
    sym (append_assoc (pack_of shape.sites area.packed) (records area.behind) (area.content.gate ∷ area.content.rest)) ∙ sym area.content.is ∙ other.content.is ∙ append_assoc (pack_of shape.sites other.packed) (records other.behind) (other.content.gate ∷ other.content.rest) in
    let packs = same_pack shape.sites area.packed other.packed _ _ area.short other.short (omega (arith, less, area.within)) (omega (arith, less, other.within)) e in
    let behind = same_layout [] area.behind other.behind (area.content.gate ∷ area.content.rest) (other.content.gate ∷ other.content.rest) area.content.fit other.content.fit (closed_ends _ _ area.content.closed) (closed_ends _ _ other.content.closed) packs.1 in
    area.are ∙ (λ i. packs.0 i ++ behind.0 i) ∙ sym other.are

-- and so have two areas
one_two : (shape : Shape) (bytes : List ℕ) (a b : List (List ℕ)) → shape.capacity < 2 ^ 64 → HasTwo shape bytes a → HasTwo shape bytes b → a ≡ b
one_two shape bytes a b small two other =
    let whole : header_of_two shape.header ++ two.switch ∷ two.areas ≡ header_of_two shape.header ++ other.switch ∷ other.areas = sym two.is ∙ other.is in
    let switch : two.switch ≡ other.switch = ap (λ l. get_or l 8 0) whole in
    let areas : two.areas ≡ other.areas = ap (drop 9) whole in
    same two.live (subst (λ s. IsLive shape s two.areas b) (sym switch) (subst (λ l. IsLive shape other.switch l b) (sym areas) other.live))
  where
    same : IsLive shape two.switch two.areas a → IsLive shape two.switch two.areas b → a ≡ b
    same (inl x) (inl y) = one_area_content shape two.areas a b small x.1 y.1
    same (inl x) (inr y) = absurd (x.0 y.0)
    same (inr x) (inl y) = absurd (y.0 x.0)
    same (inr x) (inr y) = one_area_content shape (drop (area_size shape) two.areas) a b small x.1 y.1

-- and a book, whose header tells the format
pub one_book : (capacity sites : ℕ) (header other : Format) (bytes : List ℕ) (a b : List (List ℕ)) → capacity < 2 ^ 64
    → HasContent (shape_by capacity sites header) bytes a → HasContent (shape_by capacity sites other) bytes b → (header ≡ other) × (a ≡ b)
one_book capacity sites header other bytes a b small (inl x) (inl y) = one_content bytes header other a b x y
one_book capacity sites header other bytes a b small (inl x) (inr y) = absurd (headers_differ bytes (records a ++ x.gate ∷ x.rest) (y.switch ∷ y.areas) header other x.is y.is)
one_book capacity sites header other bytes a b small (inr x) (inl y) = absurd (headers_differ bytes (records b ++ y.gate ∷ y.rest) (x.switch ∷ x.areas) other header y.is x.is)
one_book capacity sites header other bytes a b small (inr x) (inr y) =
    let same = one_header bytes (x.switch ∷ x.areas) (y.switch ∷ y.areas) header other x.is y.is in
    (same, one_two (shape_by capacity sites other) bytes a b small (subst (λ h. HasTwo (shape_by capacity sites h) bytes a) same x) y)
