-- What is known of a book that was read, or begun.
use Rattle.std.proofs.Common.{◌≡◌, ◌≢◌, ⊎_elim, ◌+◌, ◌-◌, ◌≤◌, ℕ, List, [], ◌∷◌, ◌++◌, length, take, drop, All, map, Option, Some, None, refl, sym, ap, subst, ◌∙◌, arith, length-append}
use Rattle.std.specs.Prelude.{IfSome, option_map}
use Rattle.std.proofs.lemmas.List.{append-nil, length-map, get_or-map, drop_all, take_all, drop-replicate, length-replicate, replicate-append-replicate}
use Rattle.std.proofs.lemmas.List.Elements.{All-append, All-nil}
use Rattle.walter_base.specs.declared.format.Format.{Format}
use Rattle.walter_disk.specs.Disks.{DiskState, laid, written}
use Rattle.walter_journal.specs.Layout.{header_in, span_of, IsShort}
use Rattle.walter_journal.specs.Zeros.{zeros, filled, filled_disk}
use Rattle.walter_checkpoint.specs.Areas.{Shape, area_size, header_of_two}
use Rattle.walter_checkpoint.specs.Books.{front_length, IsFront, IsRead}
use Rattle.walter_checkpoint.specs.Packs.{pack_of, renewed_by}
use Rattle.walter_checkpoint.specs.declared.book.Live.{Live}
use Rattle.walter_checkpoint.specs.declared.book.Live.TheVariants.{Whole, A, B}
use Rattle.walter_checkpoint.proofs.Packs.{pack_within}
use Rattle.walter_checkpoint.proofs.Parts.{behind_within}
use Rattle.walter_checkpoint.proofs.Renewing.{content_two}

length-front : (shape : Shape) (live : Live) (packed : List (List ℕ)) (front : List ℕ) → IsFront shape live packed front → length front ≡ front_length shape live packed
length-front shape Whole packed front is = ap length is.0
length-front shape A packed front is = ap length is.2 ∙ omega arith
length-front shape B packed front is = ap length is.2 ∙ omega (arith, length-append is.0 (pack_of shape.sites packed), is.1)

some_front : (shape : Shape) (live : Live) (packed : List (List ℕ)) → 8 ≤ front_length shape live packed
some_front shape Whole packed = omega arith
some_front shape A packed = omega arith
some_front shape B packed = omega arith

module _ (shape : Shape) (live : Live) (bytes : List ℕ) (bodies : List (List ℕ)) (end : ℕ) (read : IsRead shape live bytes bodies end) where
  pub read_short : All IsShort bodies
  read_short = subst (λ l. All IsShort l) (sym read.are) (All-append IsShort read.packed read.behind read.short read.content.fit)

  pub read_end : end ≡ front_length shape live read.packed + span_of read.behind
  read_end = read.place ∙ ap (λ n. n + span_of read.behind) (length-front shape live read.packed read.front read.is_front)

  pub read_begun : 9 ≤ end
  read_begun = omega (arith, read_end, some_front shape live read.packed)

  pub read_within : end ≤ length bytes
  read_within = omega (arith, read.place, behind_within read.front bytes read.behind read.content)

  -- a pack of all of it fits the other area
  pub read_fits : live ≢ Whole → (47 ≤ shape.capacity) × (length (renewed_by shape.sites bodies) ≤ area_size shape)
  read_fits not_whole =
      let two = (content_two shape live read.packed read.behind read.front bytes not_whole read.is_front read.short read.within read.content).0 in
      let all = read.packed ++ read.behind in
      let fits : length (pack_of shape.sites all) + 1 ≤ area_size shape = ⊎_elim (λ a. pack_within shape two.areas all a.1) (λ b. pack_within shape (drop (area_size shape) two.areas) all b.1) two.live in
      (two.least, omega (arith, length-append (pack_of shape.sites bodies) (0 ∷ []), ap (λ l. length (pack_of shape.sites l)) read.are, fits))

-- what was read is what the disk tells
pub if_told : (reads : Option (List ℕ)) (bytes : List ℕ) → IfSome reads (λ told. told ≡ bytes) → IfSome reads (λ told. bytes ≡ told)
if_told None bytes is = tt
if_told (Some told) bytes is = sym is

-- the bytes of a new book of two areas
pub two_begun : (format : Format) (old new : DiskState) (front head rest : List ℕ) (n to : ℕ) → IfSome old.reads (λ bytes. old.size ≡ length bytes) → old.size ≡ 0 → new ≡ filled_disk to (written 0 front old)
    → rest ≡ zeros n → head ≡ header_of_two format → front ≡ head ++ take (length rest - 8) (drop 8 rest) → 8 ≤ n → n ≤ to → IfSome new.reads (λ bytes. bytes ≡ header_of_two format ++ zeros (to - 8))
two_begun format old new front head rest n to size none is rest_is head_is front_is least most =
    subst (λ (disk : DiskState). IfSome disk.reads (λ bytes. bytes ≡ header_of_two format ++ zeros (to - 8))) (sym is) (by old.reads size)
  where
    count : length rest ≡ n
    count = ap length rest_is ∙ length-replicate {A = ℕ} n 0

    first : front ≡ header_of_two format ++ zeros (n - 8)
    first =
        front_is ∙ ap (λ l. l ++ take (length rest - 8) (drop 8 rest)) head_is ∙ ap (λ l. header_of_two format ++ l)
        (ap (λ l. take (length rest - 8) (drop 8 l)) rest_is ∙ ap (take (length rest - 8)) (drop-replicate 8 n 0) ∙ take_all (length rest - 8) (zeros (n - 8)) (omega (arith, count, length-replicate {A = ℕ} (n - 8) 0)))

    front_size : length front ≡ n
    front_size = ap length first ∙ omega (arith, length-replicate {A = ℕ} (n - 8) 0, least)

    all : filled to front ≡ header_of_two format ++ zeros (to - 8)
    all =
        ap (λ m. front ++ zeros (to - m)) front_size ∙ ap (λ l. l ++ zeros (to - n)) first
        ∙ ap (λ l. header_of_two format ++ l) (replicate-append-replicate (n - 8) (to - n) 0 ∙ ap zeros (omega (arith, least, most)))

    by : (reads : Option (List ℕ)) → IfSome reads (λ bytes. old.size ≡ length bytes) → IfSome (option_map (filled to) (option_map (laid 0 front) reads)) (λ bytes. bytes ≡ header_of_two format ++ zeros (to - 8))
    by None told = tt
    by (Some []) told = ap (filled to) (ap (λ l. front ++ l) (drop_all (0 + length front) [] (omega arith)) ∙ append-nil front) ∙ all
    by (Some (x ∷ bytes)) told = absurd (omega (arith, told, none))

pub new_two : (shape : Shape) → 47 ≤ shape.capacity → IsRead shape A (header_of_two shape.header ++ zeros (1 + area_size shape)) [] 18
new_two shape least = record {
  packed = [];
  behind = [];
  are = refl;
  front = header_of_two shape.header ++ 0 ∷ zeros 8;
  is_front = (0, zero_not_one, refl);
  short = All-nil IsShort;
  within = (least, omega (arith, least));
  content = record {
    gate = 0;
    rest = zeros (area_size shape - 9);
    is = ap (λ l. header_of_two shape.header ++ l) (ap zeros (omega (arith, least)) ∙ sym (replicate-append-replicate 10 (area_size shape - 9) 0));
    closed = zero_not_one;
    fit = All-nil IsShort;
  };
  place = refl;
}
  where
    zero_not_one : ◌≢◌ {A = ℕ} 0 1
    zero_not_one e = omega (arith, e)

pub new_one : (shape : Shape) → IsRead shape Whole (header_in shape.header ++ 0 ∷ []) [] 9
new_one shape = record {
  packed = [];
  behind = [];
  are = refl;
  front = header_in shape.header;
  is_front = (refl, refl);
  short = All-nil IsShort;
  within = tt;
  content = record { gate = 0; rest = []; is = refl; closed = zero_not_one; fit = All-nil IsShort };
  place = refl;
}
  where
    zero_not_one : ◌≢◌ {A = ℕ} 0 1
    zero_not_one e = omega (arith, e)

-- zeros by their number
pub zeros_by_length : (list : List ℕ) (n : ℕ) → list ≡ zeros n → list ≡ zeros (length list)
zeros_by_length list n is = is ∙ ap zeros (sym (ap length is ∙ length-replicate {A = ℕ} n 0))

-- short bodies, by what holds their bytes
pub short_items : {X : Type 0} (items : X → List ℕ) (bodies : List X) → All IsShort (map items bodies) → All (λ body. length (items body) ≤ 65536) bodies
short_items items bodies short k d within = subst (λ l. IsShort l) (get_or-map items bodies k d (items d) within) (short k (items d) (omega (arith, within, length-map bodies items)))

-- of one area nothing is packed
pub whole_packed : (shape : Shape) (live : Live) (packed : List (List ℕ)) (front : List ℕ)
    → IsFront shape live packed front → live ≡ Whole → packed ≡ []
whole_packed shape Whole packed front is whole = is.1
whole_packed shape A packed front is whole = absurd (cc)
whole_packed shape B packed front is whole = absurd (cc)
