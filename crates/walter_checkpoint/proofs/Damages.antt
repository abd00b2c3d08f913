-- No bytes are a book and foreign or damaged, and damaged bytes are so at one place with one length.
use Rattle.std.proofs.Common.{◌≡◌, ◌≢◌, ◌⊎◌, inl, inr, ⊎_elim, ◌+◌, ◌-◌, ◌<◌, ◌≤◌, ◌^◌, ℕ, List, [], ◌∷◌, ◌++◌, length, take, drop, get_or, All, refl, sym, ap, subst, ◌∙◌, arith, append_assoc, length-append}
use Rattle.std.proofs.lemmas.List.{length-take}
use Rattle.walter_base.specs.declared.format.Format.{Format}
use Rattle.walter_base.specs.Sizes.{most_in}
use Rattle.walter_journal.specs.Layout.{header_in, records, IsShort, HasBehind, IsDamagedBehind}
use Rattle.walter_journal.proofs.Layouts.{same_layout, closed_ends, damage_ends, not_damaged, one_damage, one_damage_behind, span_is}
use Rattle.walter_checkpoint.specs.Packs.{pack_of}
use Rattle.walter_checkpoint.specs.Areas.{Shape, shape_by, area_size, header_of_two, HasArea, IsLive, HasTwo, HasContent, IsForeign, HasNoPack, IsToldLength, IsAreaDamaged, IsTwoDamaged, IsDamaged}
use Rattle.walter_checkpoint.specs.Faults.{IsDamagedBook}
use Rattle.walter_checkpoint.proofs.Contents.{same_pack, headers_differ, one_header}
use Rattle.walter_checkpoint.proofs.Spelled.{take_both}

-- bytes with a header of either kind and a byte behind it
not_foreign_one : (capacity sites : ℕ) (header : Format) (bytes rest : List ℕ) → sites ≤ most_in header → bytes ≡ header_in header ++ rest → 0 < length rest → IsForeign capacity sites bytes → ⊥
not_foreign_one capacity sites header bytes rest places is more (inl few) = omega (arith, ap length is, more, few)
not_foreign_one capacity sites header bytes rest places is more (inr other) = (other header places).0 (ap (take 8) is)

not_foreign_two : (capacity sites : ℕ) (header : Format) (bytes rest : List ℕ) → sites ≤ most_in header → bytes ≡ header_of_two header ++ rest → 0 < length rest → 47 ≤ capacity → IsForeign capacity sites bytes → ⊥
not_foreign_two capacity sites header bytes rest places is more least (inl few) = omega (arith, ap length is, more, few)
not_foreign_two capacity sites header bytes rest places is more least (inr other) = ⊎_elim (λ differ. differ (ap (take 8) is)) (λ less. omega (arith, less, least)) (other header places).1

some_behind : (xs ys : List ℕ) (x : ℕ) → 0 < length (xs ++ x ∷ ys)
some_behind xs ys x = omega (arith, length-append xs (x ∷ ys))

pub content_or_foreign : (shape : Shape) (bytes : List ℕ) (bodies : List (List ℕ)) → shape.sites ≤ most_in shape.header → HasContent shape bytes bodies → IsForeign shape.capacity shape.sites bytes → ⊥
content_or_foreign shape bytes bodies places (inl one) foreign =
    not_foreign_one shape.capacity shape.sites shape.header bytes (records bodies ++ one.gate ∷ one.rest) places one.is (some_behind (records bodies) one.rest one.gate) foreign
content_or_foreign shape bytes bodies places (inr two) foreign =
    not_foreign_two shape.capacity shape.sites shape.header bytes (two.switch ∷ two.areas) places two.is (omega arith) two.least foreign

pub foreign_or_damaged : (capacity sites : ℕ) (bytes : List ℕ) (at claimed : ℕ) → IsForeign capacity sites bytes → IsDamagedBook capacity sites bytes at claimed → ⊥
foreign_or_damaged capacity sites bytes at claimed foreign book = by book.damaged
  where
    by : IsDamaged (shape_by capacity sites book.header) bytes at claimed → ⊥
    by (inl one) = not_foreign_one capacity sites book.header bytes (records one.bodies ++ 1 ∷ one.behind) book.places one.is (some_behind (records one.bodies) one.behind 1) foreign
    by (inr two) = not_foreign_two capacity sites book.header bytes (two.switch ∷ two.areas) book.places two.is (omega arith) two.least foreign

-- an area with bodies has them within its size
within_size : (shape : Shape) (bytes : List ℕ) (bodies : List (List ℕ)) (area : HasArea shape bytes bodies) → HasBehind (pack_of shape.sites area.packed) (take (area_size shape) bytes) area.behind
within_size shape bytes bodies area =
    let content = area.content in
    let front = pack_of shape.sites area.packed ++ records area.behind in
    let first = front ++ content.gate ∷ [] in
    let size : length first ≡ length front + 1 = length-append front (content.gate ∷ []) in
    let le : length first ≤ area_size shape = omega (arith, size, span_is (pack_of shape.sites area.packed) area.behind, area.within) in
    let split : bytes ≡ first ++ content.rest = content.is ∙ sym (append_assoc front (content.gate ∷ []) content.rest) in
    let left = area_size shape - length first in
    let parts : area_size shape ≡ length first + left = omega (arith, le) in
    record {
      gate = content.gate;
      rest = take left content.rest;
      is =
          ap (λ n. take n bytes) parts
          ∙ ap (take (length first + left)) split ∙ take_both (length first) left first content.rest refl
          ∙ append_assoc front (content.gate ∷ []) (take left content.rest);
      closed = content.closed;
      fit = content.fit;
    }

-- an area isn't damaged where it has bodies
not_wrong : (sites : ℕ) (area : List ℕ) (packed behind : List (List ℕ)) (at claimed : ℕ) → length area < 2 ^ 64 → All IsShort packed → HasBehind (pack_of sites packed) area behind → IsAreaDamaged sites area at claimed → ⊥
not_wrong sites area packed behind at claimed small short content (inl none) =
    none.0 packed (records behind ++ content.gate ∷ content.rest) short (some_behind (records behind) content.rest content.gate) (content.is ∙ append_assoc (pack_of sites packed) (records behind) (content.gate ∷ content.rest))
not_wrong sites area packed behind at claimed small short content (inr wrong) =
    let damage = wrong.wrong in
    let first = content.is ∙ append_assoc (pack_of sites packed) (records behind) (content.gate ∷ content.rest) in
    let second = damage.is ∙ append_assoc (pack_of sites wrong.packed) (records damage.bodies) (1 ∷ damage.behind) in
    let packs = same_pack sites packed wrong.packed (records behind ++ content.gate ∷ content.rest) (records damage.bodies ++ 1 ∷ damage.behind) short wrong.short
    (omega (arith, small, ap length first, length-append (pack_of sites packed) (records behind ++ content.gate ∷ content.rest)))
    (omega (arith, small, ap length second, length-append (pack_of sites wrong.packed) (records damage.bodies ++ 1 ∷ damage.behind))) (sym first ∙ second) in
    let gates = same_layout [] behind damage.bodies (content.gate ∷ content.rest) (1 ∷ damage.behind) content.fit damage.fit (closed_ends _ _ content.closed) (damage_ends _ _ damage.wrong) packs.1 in
    content.closed (ap (λ l. get_or l 0 0) gates.1)

length-taken : (shape : Shape) (bytes : List ℕ) → shape.capacity < 2 ^ 64 → length (take (area_size shape) bytes) < 2 ^ 64
length-taken shape bytes small = omega (arith, small, length-take (area_size shape) bytes)

area_or_damaged : (shape : Shape) (bytes : List ℕ) (bodies : List (List ℕ)) (at claimed : ℕ) → shape.capacity < 2 ^ 64 → HasArea shape bytes bodies → IsAreaDamaged shape.sites (take (area_size shape) bytes) at claimed → ⊥
area_or_damaged shape bytes bodies at claimed small area damaged =
    not_wrong shape.sites (take (area_size shape) bytes) area.packed area.behind at claimed (length-taken shape bytes small) area.short (within_size shape bytes bodies area) damaged

-- two areas aren't damaged where they have bodies
two_or_damaged : (shape : Shape) (bytes : List ℕ) (bodies : List (List ℕ)) (at claimed : ℕ) → shape.capacity < 2 ^ 64 → HasTwo shape bytes bodies → IsTwoDamaged shape bytes at claimed → ⊥
two_or_damaged shape bytes bodies at claimed small two damaged =
    let whole : header_of_two shape.header ++ two.switch ∷ two.areas ≡ header_of_two shape.header ++ damaged.switch ∷ damaged.areas = sym two.is ∙ damaged.is in
    let switch : two.switch ≡ damaged.switch = ap (λ l. get_or l 8 0) whole in
    let areas : two.areas ≡ damaged.areas = ap (drop 9) whole in
    differ (subst (λ s. IsLive shape s damaged.areas bodies) switch (subst (λ l. IsLive shape two.switch l bodies) areas two.live)) damaged.live
  where
    differ : IsLive shape damaged.switch damaged.areas bodies
        → ((damaged.switch ≢ 1) × (at ≡ 9 + damaged.place) × IsAreaDamaged shape.sites (take (area_size shape) damaged.areas) damaged.place claimed)
        ⊎ ((damaged.switch ≡ 1) × (at ≡ 9 + area_size shape + damaged.place) × IsAreaDamaged shape.sites (take (area_size shape) (drop (area_size shape) damaged.areas)) damaged.place claimed) → ⊥
    differ (inl x) (inl y) = area_or_damaged shape damaged.areas bodies damaged.place claimed small x.1 y.2
    differ (inl x) (inr y) = x.0 y.0
    differ (inr x) (inl y) = y.0 x.0
    differ (inr x) (inr y) = area_or_damaged shape (drop (area_size shape) damaged.areas) bodies damaged.place claimed small x.1 y.2

-- and so no book is
pub content_or_damaged : (capacity sites : ℕ) (header : Format) (bytes : List ℕ) (bodies : List (List ℕ)) (at claimed : ℕ) → capacity < 2 ^ 64 → HasContent (shape_by capacity sites header) bytes bodies
    → IsDamagedBook capacity sites bytes at claimed → ⊥
content_or_damaged capacity sites header bytes bodies at claimed small content book = by content book.damaged
  where
    by : HasContent (shape_by capacity sites header) bytes bodies → IsDamaged (shape_by capacity sites book.header) bytes at claimed → ⊥
    by (inl one) (inl damaged) = not_damaged bytes header book.header bodies at claimed one damaged
    by (inl one) (inr two) = headers_differ bytes (records bodies ++ one.gate ∷ one.rest) (two.switch ∷ two.areas) header book.header one.is two.is
    by (inr two) (inl one) = headers_differ bytes (records one.bodies ++ 1 ∷ one.behind) (two.switch ∷ two.areas) book.header header one.is two.is
    by (inr two) (inr damaged) =
        let same = one_header bytes (two.switch ∷ two.areas) (damaged.switch ∷ damaged.areas) header book.header two.is damaged.is in
        two_or_damaged (shape_by capacity sites book.header) bytes bodies at claimed small (subst (λ h. HasTwo (shape_by capacity sites h) bytes bodies) same two) damaged

-- the area that the switch byte makes live is damaged at this place in it
abbrev Wrong : Shape → ℕ → List ℕ → ℕ → ℕ → ℕ → Type 0
Wrong shape switch areas place at claimed =
    ((switch ≢ 1) × (at ≡ 9 + place) × IsAreaDamaged shape.sites (take (area_size shape) areas) place claimed)
    ⊎ ((switch ≡ 1) × (at ≡ 9 + area_size shape + place) × IsAreaDamaged shape.sites (take (area_size shape) (drop (area_size shape) areas)) place claimed)

one_told : (area : List ℕ) (a b : ℕ) → IsToldLength area a → IsToldLength area b → a ≡ b
one_told area a b (inl x) (inl y) = x.1 ∙ sym y.1
one_told area a b (inl x) (inr y) = absurd (omega (arith, x.0, y.0))
one_told area a b (inr x) (inl y) = absurd (omega (arith, x.0, y.0))
one_told area a b (inr x) (inr y) = x.1 ∙ sym y.1

-- a pack stands there, and behind it something
no_pack_or : (sites : ℕ) (area : List ℕ) (packed bodies : List (List ℕ)) (behind : List ℕ) → HasNoPack sites area → All IsShort packed → area ≡ pack_of sites packed ++ records bodies ++ 1 ∷ behind → ⊥
no_pack_or sites area packed bodies behind none short is =
    none packed (records bodies ++ 1 ∷ behind) short (some_behind (records bodies) behind 1) (is ∙ append_assoc (pack_of sites packed) (records bodies) (1 ∷ behind))

one_wrong : (sites : ℕ) (area : List ℕ) (at claimed at' claimed' : ℕ) → length area < 2 ^ 64 → IsAreaDamaged sites area at claimed → IsAreaDamaged sites area at' claimed' → (at ≡ at') × (claimed ≡ claimed')
one_wrong sites area at claimed at' claimed' small (inl x) (inl y) = (x.1 ∙ sym y.1, one_told area claimed claimed' x.2 y.2)
one_wrong sites area at claimed at' claimed' small (inl x) (inr y) = absurd (no_pack_or sites area y.packed y.wrong.bodies y.wrong.behind x.0 y.short y.wrong.is)
one_wrong sites area at claimed at' claimed' small (inr x) (inl y) = absurd (no_pack_or sites area x.packed x.wrong.bodies x.wrong.behind y.0 x.short x.wrong.is)
one_wrong sites area at claimed at' claimed' small (inr x) (inr y) =
    let tail = records x.wrong.bodies ++ 1 ∷ x.wrong.behind in
    let other = records y.wrong.bodies ++ 1 ∷ y.wrong.behind in
    let first : area ≡ pack_of sites x.packed ++ tail = x.wrong.is ∙ append_assoc (pack_of sites x.packed) (records x.wrong.bodies) (1 ∷ x.wrong.behind) in
    let second : area ≡ pack_of sites y.packed ++ other = y.wrong.is ∙ append_assoc (pack_of sites y.packed) (records y.wrong.bodies) (1 ∷ y.wrong.behind) in
    let packs = same_pack sites x.packed y.packed tail other x.short y.short (omega (arith, small, ap length first, length-append (pack_of sites x.packed) tail)) (omega (arith, small, ap length second, length-append (pack_of sites y.packed) other)) (sym first ∙ second) in
    let damage : IsDamagedBehind [] tail (length (records x.wrong.bodies)) claimed = record { bodies = x.wrong.bodies; behind = x.wrong.behind; is = refl; fit = x.wrong.fit; place = refl; wrong = x.wrong.wrong } in
    let damage' : IsDamagedBehind [] other (length (records y.wrong.bodies)) claimed' = record { bodies = y.wrong.bodies; behind = y.wrong.behind; is = refl; fit = y.wrong.fit; place = refl; wrong = y.wrong.wrong } in
    let same = one_damage_behind [] other (length (records x.wrong.bodies)) claimed (length (records y.wrong.bodies)) claimed' (subst (λ l. IsDamagedBehind [] l (length (records x.wrong.bodies)) claimed) packs.1 damage) damage' in
    let counts : length (records x.wrong.bodies) ≡ length (records y.wrong.bodies) = same.0 in
    let sizes : length (pack_of sites x.packed) ≡ length (pack_of sites y.packed) = ap (λ l. length (pack_of sites l)) packs.0 in (
      omega (arith, x.wrong.place, y.wrong.place, length-append (pack_of sites x.packed) (records x.wrong.bodies), length-append (pack_of sites y.packed) (records y.wrong.bodies), counts, sizes),
      same.1,
    )

one_two_damaged : (shape : Shape) (bytes : List ℕ) (at claimed at' claimed' : ℕ) → shape.capacity < 2 ^ 64 → IsTwoDamaged shape bytes at claimed → IsTwoDamaged shape bytes at' claimed' → (at ≡ at') × (claimed ≡ claimed')
one_two_damaged shape bytes at claimed at' claimed' small two other =
    let whole : header_of_two shape.header ++ two.switch ∷ two.areas ≡ header_of_two shape.header ++ other.switch ∷ other.areas = sym two.is ∙ other.is in
    let switch : two.switch ≡ other.switch = ap (λ l. get_or l 8 0) whole in
    let areas : two.areas ≡ other.areas = ap (drop 9) whole in
    same (subst (λ s. Wrong shape s other.areas two.place at claimed) switch (subst (λ l. Wrong shape two.switch l two.place at claimed) areas two.live)) other.live
  where
    same : Wrong shape other.switch other.areas two.place at claimed → Wrong shape other.switch other.areas other.place at' claimed' → (at ≡ at') × (claimed ≡ claimed')
    same (inl x) (inl y) =
        let one = one_wrong shape.sites (take (area_size shape) other.areas) two.place claimed other.place claimed' (length-taken shape other.areas small) x.2 y.2 in
        (omega (arith, x.1, y.1, one.0), one.1)
    same (inl x) (inr y) = absurd (x.0 y.0)
    same (inr x) (inl y) = absurd (y.0 x.0)
    same (inr x) (inr y) =
        let one = one_wrong shape.sites (take (area_size shape) (drop (area_size shape) other.areas)) two.place claimed other.place claimed' (length-taken shape (drop (area_size shape) other.areas) small) x.2 y.2 in
        (omega (arith, x.1, y.1, one.0), one.1)

pub one_damaged : (capacity sites : ℕ) (bytes : List ℕ) (at claimed at' claimed' : ℕ) → capacity < 2 ^ 64 → IsDamagedBook capacity sites bytes at claimed → IsDamagedBook capacity sites bytes at' claimed' → (at ≡ at') × (claimed ≡ claimed')
one_damaged capacity sites bytes at claimed at' claimed' small book book' = by book.damaged book'.damaged
  where
    by : IsDamaged (shape_by capacity sites book.header) bytes at claimed → IsDamaged (shape_by capacity sites book'.header) bytes at' claimed' → (at ≡ at') × (claimed ≡ claimed')
    by (inl one) (inl other) = one_damage bytes book.header book'.header at claimed at' claimed' one other
    by (inl one) (inr two) = absurd (headers_differ bytes (records one.bodies ++ 1 ∷ one.behind) (two.switch ∷ two.areas) book.header book'.header one.is two.is)
    by (inr two) (inl one) = absurd (headers_differ bytes (records one.bodies ++ 1 ∷ one.behind) (two.switch ∷ two.areas) book'.header book.header one.is two.is)
    by (inr two) (inr other) =
        let same = one_header bytes (two.switch ∷ two.areas) (other.switch ∷ other.areas) book.header book'.header two.is other.is in
        one_two_damaged (shape_by capacity sites book'.header) bytes at claimed at' claimed' small (subst (λ h. IsTwoDamaged (shape_by capacity sites h) bytes at claimed) same two) other
