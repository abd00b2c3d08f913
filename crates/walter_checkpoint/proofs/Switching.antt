-- A book of two areas while it begins anew: a pack goes into the other area, and then the switch byte changes. Whatever a
-- crash leaves of these writes, the live area has the same bodies.
use Rattle.std.proofs.Common.{◌≡◌, ◌≢◌, inl, inr, ⊎_elim, ◌+◌, ◌-◌, ◌≤◌, max, ℕ, List, [], ◌∷◌, ◌++◌, length, take, drop, All, refl, sym, ap, subst, ◌∙◌, arith, append_assoc, length-append, take-append-drop}
use Rattle.std.proofs.lemmas.Bool.{cases_eq}
use Rattle.std.proofs.lemmas.List.{take_at, take_all, drop_at, drop_all, length-replicate, length-take, length-drop, take-take, drop-drop, drop-take, append-nil}
use Rattle.std.proofs.lemmas.List.Elements.{All-append, All-nil}
use Rattle.walter_base.specs.declared.format.Format.{Format}
use Rattle.walter_disk.specs.Disks.{laid}
use Rattle.walter_disk.specs.Images.{Torn}
use Rattle.walter_journal.specs.Layout.{records, span_of, IsShort}
use Rattle.walter_journal.specs.Zeros.{zeros, filled, Grows}
use Rattle.walter_journal.proofs.Gates.{torn_gate}
use Rattle.walter_journal.proofs.Layouts.{span_is}
use Rattle.walter_checkpoint.specs.Packs.{pack_of}
use Rattle.walter_checkpoint.specs.Areas.{Shape, area_size, header_of_two, HasArea, IsLive, HasTwo, IsAside, HasBoth}
use Rattle.walter_checkpoint.proofs.Packs.{pack_within}

-- how many bytes the bodies of an area stand in
abbrev pub used : (shape : Shape) (bytes : List ℕ) (bodies : List (List ℕ)) → HasArea shape bytes bodies → ℕ
used shape bytes bodies area = length (pack_of shape.sites area.packed) + span_of area.behind

-- other bytes that begin as these do have the same bodies
pub only_front : (shape : Shape) (bytes others : List ℕ) (bodies : List (List ℕ)) (n : ℕ) (area : HasArea shape bytes bodies)
    → used shape bytes bodies area ≤ n → take n others ≡ take n bytes → HasArea shape others bodies
only_front shape bytes others bodies n area le same =
    let pack = pack_of shape.sites area.packed in
    let front = pack ++ records area.behind ++ area.content.gate ∷ [] in
    let place = used shape bytes bodies area in
    let size : length front ≡ place = omega (arith, length-append (pack ++ records area.behind) (area.content.gate ∷ []), span_is pack area.behind) in
    let whole : bytes ≡ front ++ area.content.rest = area.content.is ∙ sym (append_assoc (pack ++ records area.behind) (area.content.gate ∷ []) area.content.rest) in
    let first : take place others ≡ front =
    sym (take-take place n others le) ∙ ap (take place) same ∙ take-take place n bytes le
    ∙ ap (take place) whole ∙ take_at front area.content.rest place size in
    record {
      packed = area.packed;
      behind = area.behind;
      are = area.are;
      short = area.short;
      content = record {
        gate = area.content.gate;
        rest = drop place others;
        is = sym (take-append-drop place others) ∙ ap (λ l. l ++ drop place others) first ∙ append_assoc (pack ++ records area.behind) (area.content.gate ∷ []) (drop place others);
        closed = area.content.closed;
        fit = area.content.fit;
      };
      within = area.within;
    }

-- and in as many
pub only_front_used : (shape : Shape) (bytes others : List ℕ) (bodies : List (List ℕ)) (n : ℕ) (area : HasArea shape bytes bodies)
    (le : used shape bytes bodies area ≤ n) (same : take n others ≡ take n bytes) → used shape others bodies (only_front shape bytes others bodies n area le same) ≡ used shape bytes bodies area
unfolding only_front
only_front_used shape bytes others bodies n area le same = refl

-- what a write behind the switch byte leaves of the areas
pub record LeavesAreas (header : Format) (switch k count : ℕ) (areas image : List ℕ) : Type 0 where
  pub is : image ≡ header_of_two header ++ switch ∷ drop 9 image
  pub before : take k (drop 9 image) ≡ take k areas
  pub behind : drop (k + count) (drop 9 image) ≡ drop (k + count) areas

pub torn_areas : (header : Format) (switch k count at : ℕ) (areas bytes image : List ℕ) → bytes ≡ header_of_two header ++ switch ∷ areas → at ≡ 9 + k → Torn at count bytes image → LeavesAreas header switch k count areas image
torn_areas header switch k count at areas bytes image is place torn =
    let front = header_of_two header ++ switch ∷ [] in
    let start : take (9 + k) image ≡ take (9 + k) bytes = subst (λ n. take n image ≡ take n bytes) place torn.before in
    let nine : take 9 image ≡ front =
    sym (take-take 9 (9 + k) image (omega arith)) ∙ ap (take 9) start ∙ take-take 9 (9 + k) bytes (omega arith) ∙ ap (take 9) is in
    let same : (9 + (k + count)) ≡ at + count = omega (arith, place) in
    record {
      is = sym (take-append-drop 9 image) ∙ ap (λ l. l ++ drop 9 image) nine;
      before = sym (drop-take 9 k image) ∙ ap (drop 9) start ∙ drop-take 9 k bytes ∙ ap (λ l. take k (drop 9 l)) is;
      behind = drop-drop (k + count) 9 image ∙ ap (λ n. drop n image) same ∙ torn.behind ∙ ap (λ n. drop n bytes) (sym same) ∙ sym (drop-drop (k + count) 9 bytes) ∙ ap (λ l. drop (k + count) (drop 9 l)) is;
    }

drop_farther : (m n : ℕ) (xs ys : List ℕ) → m ≤ n → drop m xs ≡ drop m ys → drop n xs ≡ drop n ys
drop_farther m n xs ys le same =
    let on : m + (n - m) ≡ n = omega (arith, le) in
    ap (λ k. drop k xs) (sym on) ∙ sym (drop-drop (n - m) m xs) ∙ ap (drop (n - m)) same ∙ drop-drop (n - m) m ys ∙ ap (λ k. drop k ys) on

-- a write into the other area changes nothing, wherever it is cut short
pub torn_aside : (shape : Shape) (bytes image : List ℕ) (bodies : List (List ℕ)) (at count : ℕ) (two : HasTwo shape bytes bodies) → IsAside shape two.switch at count → Torn at count bytes image → HasTwo shape image bodies
torn_aside shape bytes image bodies at count two aside torn =
    record { least = two.least; switch = two.switch; areas = drop 9 image; is = left.is; live = live two.live aside }
  where
    left : LeavesAreas shape.header two.switch (at - 9) count two.areas image
    left = torn_areas shape.header two.switch (at - 9) count at two.areas bytes image two.is (⊎_elim (λ a. omega (arith, a.1)) (λ b. omega (arith, b.1)) aside) torn

    live : IsLive shape two.switch two.areas bodies → IsAside shape two.switch at count → IsLive shape two.switch (drop 9 image) bodies
    live (inl a) (inl here) =
        inl (a.0, only_front shape two.areas (drop 9 image) bodies (area_size shape) a.1 a.1.within (subst (λ n. take n (drop 9 image) ≡ take n two.areas) (omega (arith, here.1)) left.before))
    live (inl a) (inr here) = absurd (a.0 here.0)
    live (inr b) (inl here) = absurd (here.0 b.0)
    live (inr b) (inr here) =
        inr (b.0, subst (λ l. HasArea shape l bodies) (sym (drop_farther (at - 9 + count) (area_size shape) (drop 9 image) two.areas (omega (arith, here.1, here.2)) left.behind)) b.1)

-- nor does one behind the last byte, where area A is live
torn_past : (shape : Shape) (bytes image : List ℕ) (bodies : List (List ℕ)) (count : ℕ) (two : HasTwo shape bytes bodies) → two.switch ≢ 1 → Torn (length bytes) count bytes image
    → (now : HasTwo shape image bodies) × (now.switch ≢ 1)
torn_past shape bytes image bodies count two not_b torn =
    (record { least = two.least; switch = two.switch; areas = drop 9 image; is = left.is; live = live two.live }, not_b)
  where
    size : length bytes ≡ 9 + length two.areas
    size = omega (arith, ap length two.is)

    left : LeavesAreas shape.header two.switch (length two.areas) count two.areas image
    left = torn_areas shape.header two.switch (length two.areas) count (length bytes) two.areas bytes image two.is size torn

    live : IsLive shape two.switch two.areas bodies → IsLive shape two.switch (drop 9 image) bodies
    live (inl a) =
        let long : used shape two.areas bodies a.1 ≤ length two.areas =
        omega (arith, ap length a.1.content.is, length-append (pack_of shape.sites a.1.packed ++ records a.1.behind) (a.1.content.gate ∷ a.1.content.rest), span_is (pack_of shape.sites a.1.packed) a.1.behind) in
        inl (a.0, only_front shape two.areas (drop 9 image) bodies (length two.areas) a.1 long left.before)
    live (inr b) = absurd (not_b b.0)

-- what has grown from bytes has them in front
grown_front : (end : ℕ) (bytes image : List ℕ) → Grows (length bytes) end bytes image → take (length bytes) image ≡ bytes
grown_front end bytes image grown = grown.front ∙ take_all (length bytes) bytes (omega arith)

-- and the same bodies, where area A is live
pub grown_past : (shape : Shape) (end : ℕ) (bytes image : List ℕ) (bodies : List (List ℕ)) (two : HasTwo shape bytes bodies) → two.switch ≢ 1 → Grows (length bytes) end bytes image
    → (now : HasTwo shape image bodies) × (now.switch ≢ 1)
grown_past shape end bytes image bodies two not_b grown =
    let front = grown_front end bytes image grown in
    let longer : length bytes ≤ length image = omega (arith, ap length front, length-take (length bytes) image) in
    torn_past shape bytes image bodies (length image - length bytes) two not_b record {
      size = inr (omega (arith, longer));
      before = grown.front;
      behind = drop_all (length bytes + (length image - length bytes)) image (omega (arith, longer)) ∙ sym (drop_all (length bytes + (length image - length bytes)) bytes (omega arith));
    }

-- it is the same where it can't be longer
pub grown_none : (end : ℕ) (bytes image : List ℕ) → end ≤ length bytes → Grows (length bytes) end bytes image → image ≡ bytes
grown_none end bytes image le grown = sym (take_all (length bytes) image (omega (arith, grown.size, le))) ∙ grown_front end bytes image grown

-- zeros behind bytes are such a growth
pub filled_grows : (end : ℕ) (bytes : List ℕ) → Grows (length bytes) end bytes (filled end bytes)
filled_grows end bytes = record {
  front = take_at bytes (zeros (end - length bytes)) (length bytes) refl ∙ sym (take_all (length bytes) bytes (omega arith));
  size = omega (arith, length-append bytes (zeros (end - length bytes)), length-replicate {A = ℕ} (end - length bytes) 0);
}

pub length-filled : (end : ℕ) (bytes : List ℕ) → length (filled end bytes) ≡ max (length bytes) end
length-filled end bytes = omega (arith, length-append bytes (zeros (end - length bytes)), length-replicate {A = ℕ} (end - length bytes) 0)

-- bytes laid at a place are a write that was not cut short
pub laid_torn : (at : ℕ) (over bytes : List ℕ) → at ≤ length bytes → Torn at (length over) bytes (laid at over bytes)
laid_torn at over bytes within =
    let head : length (take at bytes) ≡ at = omega (arith, length-take at bytes, within) in
    record {
      size = inr (omega (arith, length-append (take at bytes ++ over) (drop (at + length over) bytes), length-append (take at bytes) over, head, length-drop (at + length over) bytes));
      before = ap (take at) (append_assoc (take at bytes) over (drop (at + length over) bytes)) ∙ take_at (take at bytes) (over ++ drop (at + length over) bytes) at head;
      behind = drop_at (take at bytes ++ over) (drop (at + length over) bytes) (at + length over) (omega (arith, length-append (take at bytes) over, head));
    }

pub laid_from : (at : ℕ) (over bytes : List ℕ) → at ≤ length bytes → drop at (laid at over bytes) ≡ over ++ drop (at + length over) bytes
laid_from at over bytes within =
    let head : length (take at bytes) ≡ at = omega (arith, length-take at bytes, within) in
    ap (drop at) (append_assoc (take at bytes) over (drop (at + length over) bytes)) ∙ drop_at (take at bytes) (over ++ drop (at + length over) bytes) at head

pub short_all : (shape : Shape) (bytes : List ℕ) (bodies : List (List ℕ)) → HasArea shape bytes bodies → All IsShort bodies
short_all shape bytes bodies area = subst (λ l. All IsShort l) (sym area.are) (All-append IsShort area.packed area.behind area.short area.content.fit)

-- a pack of bodies and a closed gate are an area that has these bodies
fresh_area : (shape : Shape) (bodies : List (List ℕ)) (rest : List ℕ) → All IsShort bodies → length (pack_of shape.sites bodies) + 1 ≤ area_size shape
    → HasArea shape (pack_of shape.sites bodies ++ 0 ∷ [] ++ rest) bodies
fresh_area shape bodies rest short within = record {
  packed = bodies;
  behind = [];
  are = sym (append-nil bodies);
  short = short;
  content = record {
    gate = 0;
    rest = rest;
    is = append_assoc (pack_of shape.sites bodies) (0 ∷ []) rest ∙ ap (λ l. l ++ 0 ∷ rest) (sym (append-nil (pack_of shape.sites bodies)));
    closed = omega arith;
    fit = All-nil IsShort;
  };
  within = omega (arith, within);
}

-- the bytes that are written into the other area
abbrev pub renewed : Shape → List (List ℕ) → List ℕ
renewed shape bodies = pack_of shape.sites bodies ++ 0 ∷ []

-- once they stand there whole, both areas have the bodies
pub laid_both : (shape : Shape) (bytes : List ℕ) (bodies : List (List ℕ)) (at : ℕ) (two : HasTwo shape bytes bodies) → IsAside shape two.switch at (length (renewed shape bodies)) → at ≤ length bytes
    → HasBoth shape (laid at (renewed shape bodies) bytes) bodies
laid_both shape bytes bodies at two aside within = both two.live aside
  where
    over : List ℕ
    over = renewed shape bodies

    image : List ℕ
    image = laid at over bytes

    left : LeavesAreas shape.header two.switch (at - 9) (length over) two.areas image
    left = torn_areas shape.header two.switch (at - 9) (length over) at two.areas bytes image two.is (⊎_elim (λ a. omega (arith, a.1)) (λ b. omega (arith, b.1)) aside) (laid_torn at over bytes within)

    new : (old : List ℕ) → HasArea shape old bodies → HasArea shape (drop at image) bodies
    new old area =
        subst (λ l. HasArea shape l bodies) (sym (laid_from at over bytes within)) (fresh_area shape bodies (drop (at + length over) bytes) (short_all shape old bodies area) (pack_within shape old bodies area))

    both : IsLive shape two.switch two.areas bodies → IsAside shape two.switch at (length over) → HasBoth shape image bodies
    both (inl a) (inl here) =
        let on : 9 + area_size shape ≡ at = sym here.1 in
        record {
          least = two.least;
          switch = two.switch;
          areas = drop 9 image;
          is = left.is;
          first = only_front shape two.areas (drop 9 image) bodies (area_size shape) a.1 a.1.within (subst (λ n. take n (drop 9 image) ≡ take n two.areas) (omega (arith, here.1)) left.before);
          second = subst (λ l. HasArea shape l bodies) (sym (drop-drop (area_size shape) 9 image ∙ ap (λ n. drop n image) on)) (new two.areas a.1);
        }
    both (inl a) (inr here) = absurd (a.0 here.0)
    both (inr b) (inl here) = absurd (here.0 b.0)
    both (inr b) (inr here) = record {
      least = two.least;
      switch = two.switch;
      areas = drop 9 image;
      is = left.is;
      first = subst (λ n. HasArea shape (drop n image) bodies) here.1 (new (drop (area_size shape) two.areas) b.1);
      second = subst (λ l. HasArea shape l bodies) (sym (drop_farther (at - 9 + length over) (area_size shape) (drop 9 image) two.areas (omega (arith, here.1, here.2)) left.behind)) b.1;
    }

-- the switch byte may then be any
pub both_two : (shape : Shape) (bytes : List ℕ) (bodies : List (List ℕ)) → HasBoth shape bytes bodies → HasTwo shape bytes bodies
both_two shape bytes bodies both = record {
  least = both.least;
  switch = both.switch;
  areas = both.areas;
  is = both.is;
  live = elim (cases_eq both.switch 1) [ inl is_one ↦ inr (is_one, both.second) | inr other ↦ inl (other, both.first) ];
}

pub torn_switch : (shape : Shape) (bytes image : List ℕ) (bodies : List (List ℕ)) → HasBoth shape bytes bodies → Torn 8 1 bytes image → HasBoth shape image bodies
torn_switch shape bytes image bodies both torn =
    let left = torn_gate (header_of_two shape.header) both.areas both.switch image 8 refl (subst (λ l. Torn 8 1 l image) both.is torn) in
    record { least = both.least; switch = left.0; areas = both.areas; is = left.1; first = both.first; second = both.second }
