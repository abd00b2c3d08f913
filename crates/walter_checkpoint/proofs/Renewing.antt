-- A book that begins anew: what it had, and what it has once the switch byte is written.
use Rattle.std.proofs.Common.{◌≡◌, ◌≢◌, inl, inr, ◌+◌, ◌≤◌, ℕ, List, [], ◌∷◌, ◌++◌, length, take, drop, All, refl, sym, ap, subst, ◌∙◌, arith, append_assoc, length-append, take-append-drop}
use Rattle.std.proofs.lemmas.List.{drop_at, length-take, length-drop, drop-drop, append-nil}
use Rattle.std.proofs.lemmas.List.Elements.{All-nil}
use Rattle.walter_disk.specs.Disks.{laid}
use Rattle.walter_journal.specs.Layout.{records, span_of, IsShort, HasBehind}
use Rattle.walter_journal.proofs.Gates.{laid_gate}
use Rattle.walter_checkpoint.specs.Packs.{pack_of, renewed_by}
use Rattle.walter_checkpoint.specs.Areas.{Shape, area_size, header_of_two, HasArea, HasTwo, HasBoth, IsAside}
use Rattle.walter_checkpoint.specs.Books.{IsFront, IsWithin, IsOther}
use Rattle.walter_checkpoint.specs.declared.book.Live.{Live}
use Rattle.walter_checkpoint.specs.declared.book.Live.TheVariants.{Whole, A, B}
use Rattle.walter_checkpoint.specs.declared.book.Other.{Other}
use Rattle.walter_checkpoint.proofs.Switching.{laid_from}

-- the switch byte is the live area's
abbrev pub IsSide : Live → ℕ → Type 0
IsSide Whole switch = ⊥
IsSide A switch = switch ≢ 1
IsSide B switch = switch ≡ 1

-- a book of two areas has what stands behind the front of the live one
pub content_two : (shape : Shape) (live : Live) (packed behind : List (List ℕ)) (front bytes : List ℕ) → live ≢ Whole → IsFront shape live packed front → All IsShort packed → IsWithin shape live packed behind → HasBehind front bytes behind
    → (two : HasTwo shape bytes (packed ++ behind)) × IsSide live two.switch
content_two shape Whole packed behind front bytes not_whole is short within content = absurd (not_whole refl)
content_two shape A packed behind front bytes not_whole is short within content =
    let pack = pack_of shape.sites packed in
    let areas = pack ++ records behind ++ content.gate ∷ content.rest in
    let whole : bytes ≡ header_of_two shape.header ++ is.0 ∷ areas = content.is ∙ ap (λ f. f ++ records behind ++ content.gate ∷ content.rest) is.2 in
    let area : HasArea shape areas (packed ++ behind) = record {
      packed = packed;
      behind = behind;
      are = refl;
      short = short;
      content = record { gate = content.gate; rest = content.rest; is = refl; closed = content.closed; fit = content.fit };
      within = within.1;
    } in
    (record { least = within.0; switch = is.0; areas = areas; is = whole; live = inl (is.1, area) }, is.1)
content_two shape B packed behind front bytes not_whole is short within content =
    let pack = pack_of shape.sites packed in
    let tail = pack ++ records behind ++ content.gate ∷ content.rest in
    let areas = (is.0 ++ pack) ++ records behind ++ content.gate ∷ content.rest in
    let whole : bytes ≡ header_of_two shape.header ++ 1 ∷ areas = content.is ∙ ap (λ f. f ++ records behind ++ content.gate ∷ content.rest) is.2 in
    let split : areas ≡ is.0 ++ tail =
    ap (λ l. l ++ content.gate ∷ content.rest) (append_assoc is.0 pack (records behind)) ∙ append_assoc is.0 (pack ++ records behind) (content.gate ∷ content.rest) in
    let second : drop (area_size shape) areas ≡ tail = ap (drop (area_size shape)) split ∙ drop_at is.0 tail (area_size shape) is.1 in
    let area : HasArea shape tail (packed ++ behind) = record {
      packed = packed;
      behind = behind;
      are = refl;
      short = short;
      content = record { gate = content.gate; rest = content.rest; is = refl; closed = content.closed; fit = content.fit };
      within = within.1;
    } in
    (record { least = within.0; switch = 1; areas = areas; is = whole; live = inr (refl, subst (λ l. HasArea shape l (packed ++ behind)) (sym second) area) }, refl)

-- the other area's place is aside
pub other_aside : (shape : Shape) (live : Live) (switch count : ℕ) (other : Other) → IsSide live switch → IsOther live (area_size shape) other → count ≤ area_size shape → IsAside shape switch other.at count
other_aside shape Whole switch count other side is le = absurd side
other_aside shape A switch count other side (inl a) le = inl (side, a.1)
other_aside shape A switch count other side (inr b) le = absurd (differ b.0)
  where
    differ : A ≡ B → ⊥
    differ e = cc
other_aside shape B switch count other side (inl a) le = absurd (differ a.0)
  where
    differ : B ≡ A → ⊥
    differ e = cc
other_aside shape B switch count other side (inr b) le = inr (side, b.1, le)

-- what stands in front of the closed gate once the switch byte is written
pub record IsRenewed (shape : Shape) (live : Live) (bytes : List ℕ) (bodies : List (List ℕ)) (end : ℕ) : Type 0 where
  pub front : List ℕ
  pub is_front : IsFront shape live bodies front
  pub content : HasBehind front bytes []
  pub place : end ≡ length front + span_of []

pub renewed_at : (shape : Shape) (bytes : List ℕ) (bodies : List (List ℕ)) (live : Live) (other : Other) → IsOther live (area_size shape) other → other.at ≤ length bytes
    → HasBoth shape (laid other.at (renewed_by shape.sites bodies) bytes) bodies
    → IsRenewed shape other.live (laid 8 (other.switch ∷ []) (laid other.at (renewed_by shape.sites bodies) bytes)) bodies (other.at + length (renewed_by shape.sites bodies))
renewed_at shape bytes bodies live other is within both = by is
  where
    pack : List ℕ
    pack = pack_of shape.sites bodies

    over : List ℕ
    over = renewed_by shape.sites bodies

    image : List ℕ
    image = laid other.at over bytes

    rest : List ℕ
    rest = drop (other.at + length over) bytes

    switched : (s : ℕ) → laid 8 (s ∷ []) image ≡ header_of_two shape.header ++ s ∷ both.areas
    switched s = ap (laid 8 (s ∷ [])) both.is ∙ laid_gate (header_of_two shape.header) both.areas both.switch s 8 refl

    areas_are : drop 9 image ≡ both.areas
    areas_are = ap (drop 9) both.is

    from : drop other.at image ≡ pack ++ 0 ∷ rest
    from = laid_from other.at over bytes within ∙ append_assoc pack (0 ∷ []) rest

    size : length over ≡ length pack + 1
    size = length-append pack (0 ∷ [])

    by : IsOther live (area_size shape) other → IsRenewed shape other.live (laid 8 (other.switch ∷ []) image) bodies (other.at + length over)
    by (inl a) =
        let second : drop (area_size shape) both.areas ≡ pack ++ 0 ∷ rest =
        ap (drop (area_size shape)) (sym areas_are) ∙ drop-drop (area_size shape) 9 image ∙ ap (λ n. drop n image) (sym a.1) ∙ from in
        let first = take (area_size shape) both.areas in
        let long_areas : area_size shape ≤ length both.areas = omega (arith, ap length second, length-drop (area_size shape) both.areas, length-append pack (0 ∷ rest)) in
        let size_first : length first ≡ area_size shape = omega (arith, length-take (area_size shape) both.areas, long_areas) in
        let front = header_of_two shape.header ++ 1 ∷ (first ++ pack) in
        let areas_split : both.areas ≡ (first ++ pack) ++ 0 ∷ rest =
        sym (take-append-drop (area_size shape) both.areas) ∙ ap (λ l. first ++ l) second ∙ sym (append_assoc first pack (0 ∷ rest)) in
        record {
          front = front;
          is_front = subst (λ l. IsFront shape l bodies front) (sym a.3) (first, size_first, refl);
          content = record {
            gate = 0;
            rest = rest;
            is = ap (λ s. laid 8 (s ∷ []) image) a.2 ∙ switched 1 ∙ ap (λ l. header_of_two shape.header ++ 1 ∷ l) areas_split ∙ ap (λ l. l ++ 0 ∷ rest) (sym (append-nil front));
            closed = omega arith;
            fit = All-nil IsShort;
          };
          place = omega (arith, a.1, size, size_first, length-append first pack);
        }
    by (inr b) =
        let second : both.areas ≡ pack ++ 0 ∷ rest = sym areas_are ∙ ap (λ n. drop n image) (sym b.1) ∙ from in
        let front = header_of_two shape.header ++ 0 ∷ pack in
        record {
          front = front;
          is_front = subst (λ l. IsFront shape l bodies front) (sym b.3) (0, zero_not_one, refl);
          content = record {
            gate = 0;
            rest = rest;
            is = ap (λ s. laid 8 (s ∷ []) image) b.2 ∙ switched 0 ∙ ap (λ l. header_of_two shape.header ++ 0 ∷ l) second ∙ ap (λ l. l ++ 0 ∷ rest) (sym (append-nil front));
            closed = zero_not_one;
            fit = All-nil IsShort;
          };
          place = omega (arith, b.1, size);
        }
      where
        zero_not_one : ◌≢◌ {A = ℕ} 0 1
        zero_not_one e = omega (arith, e)
