-- How a journal is laid out, by its bytes.
use Rattle.std.proofs.Common.{◌≡◌, ◌==◌, ℕ, Bool, true, false, if◌then◌else◌, List, ◌∷◌, ◌++◌, get_or, refl, ap, sym, ◌∙◌, subst, inl, inr, arith}
use Rattle.walter_base.specs.declared.format.Format.{Format}
use Rattle.walter_base.specs.declared.format.Format.TheVariants.{First, Second}
use Rattle.walter_checkpoint.specs.Areas.{Shape, shape_by, header_of_two, HasTwo, HasContent}
use Rattle.walter_checkpoint.specs.Books.{areas_of, shape_of}
use Rattle.walter_checkpoint.specs.declared.book.Book.{Book}
use Rattle.walter_checkpoint.specs.declared.book.Live.{Live}
use Rattle.walter_checkpoint.specs.declared.book.Live.TheVariants.{Whole, A, B}
use Rattle.walter_disk.specs.declared.disk.Disk.{Ghosts}
use Rattle.walter_engine.specs.Contents.{HasBodies}
use Rattle.walter_engine.specs.Engines.{layout_for}
use Rattle.walter_engine.specs.Stores.{layout_by, layout_of}
use Rattle.walter_journal.specs.Layout.{header_in, records}
use Rattle.walter_journal.specs.Layout as journal
use Rattle.walter_rules.specs.Layouts.{Layout, one_area, two_areas, header_of}

-- a layout is for disks of this shape
abbrev pub IsLayoutOf : Shape → Layout → Type 0
IsLayoutOf shape (one_area capacity header) = (capacity ≡ shape.capacity) × (header ≡ shape.header)
IsLayoutOf shape (two_areas capacity sites header) =
    (capacity ≡ shape.capacity) × (sites ≡ shape.sites) × (header ≡ shape.header)

pub for_is : (areas capacity sites : ℕ) (header : Format)
    → IsLayoutOf (shape_by capacity sites header) (layout_for areas capacity sites header)
for_is areas capacity sites header = by (areas == 2)
  where
    by : (two : Bool)
        → IsLayoutOf (shape_by capacity sites header) (if two then two_areas capacity sites header else one_area capacity header)
    by true = (refl, refl, refl)
    by false = (refl, refl)

pub laid_is : (shape : Shape) (live : Live) → IsLayoutOf shape (layout_by shape live)
laid_is shape Whole = (refl, refl)
laid_is shape A = (refl, refl, refl)
laid_is shape B = (refl, refl, refl)

-- the layout of so many areas that was found
pub found_is : (shape : Shape) (live : Live)
    → layout_for (areas_of live) shape.capacity shape.sites shape.header ≡ layout_by shape live
found_is shape Whole = refl
found_is shape A = refl
found_is shape B = refl

-- what lies in one is a book's content
pub bodies_content : (shape : Shape) (layout : Layout) (bytes : List ℕ) (bodies : List (List ℕ)) → IsLayoutOf shape layout
    → HasBodies layout bytes bodies → HasContent shape bytes bodies
bodies_content shape (one_area capacity header) bytes bodies is has =
    inl (subst (λ (h : Format). journal.HasContent h bytes bodies) is.1 has)
bodies_content shape (two_areas capacity sites header) bytes bodies is has =
    let same : shape_by capacity sites header ≡ shape = λ j. record { capacity = is.0 j; sites = is.1 j; header = is.2 j } in
    inr (subst (λ (s : Shape). HasTwo s bytes bodies) same has)

-- the headers differ
seventh : (format : Format) (rest : List ℕ) → get_or (header_in format ++ rest) 6 0 ≡ 0x4A
seventh First rest = refl
seventh Second rest = refl

seventh_of_two : (format : Format) (rest : List ℕ) → get_or (header_of_two format ++ rest) 6 0 ≡ 0x4B
seventh_of_two First rest = refl
seventh_of_two Second rest = refl

apart : (first : Format) (shape : Shape) (bytes : List ℕ) (a b : List (List ℕ)) → journal.HasContent first bytes a
    → HasTwo shape bytes b → ⊥
apart first shape bytes a b one two =
    omega (arith, seventh first (records a ++ one.gate ∷ one.rest), seventh_of_two shape.header (two.switch ∷ two.areas), ap (λ l. get_or l 6 0) (sym one.is ∙ two.is))

-- the header of a book is its shape's
pub laid_header : (shape : Shape) (live : Live) → header_of (layout_by shape live) ≡ shape.header
laid_header shape Whole = refl
laid_header shape A = refl
laid_header shape B = refl

pub laid_as : {D : Type 0} {g : Ghosts D} (book : Book D g) (layout : Layout) → layout_of book ≡ layout
    → header_of layout ≡ (shape_of book).header
laid_as book layout laid = ap header_of (sym laid) ∙ laid_header (shape_of book) book.live

pub for_header : (areas capacity sites : ℕ) (header : Format) → header_of (layout_for areas capacity sites header) ≡ header
for_header areas capacity sites header = by (areas == 2)
  where
    by : (two : Bool) → header_of (if two then two_areas capacity sites header else one_area capacity header) ≡ header
    by true = refl
    by false = refl

-- so bytes have one layout
pub one_layout : (shape : Shape) (layout : Layout) (live : Live) (bytes : List ℕ) (a b : List (List ℕ))
    → IsLayoutOf shape layout → HasBodies layout bytes a
    → HasBodies (layout_by shape live) bytes b → layout_by shape live ≡ layout
one_layout shape (one_area capacity header) Whole bytes a b is x y = λ j. one_area (sym is.0 j) (sym is.1 j)
one_layout shape (one_area capacity header) A bytes a b is x y = absurd (apart header shape bytes a b x y)
one_layout shape (one_area capacity header) B bytes a b is x y = absurd (apart header shape bytes a b x y)
one_layout shape (two_areas capacity sites header) Whole bytes a b is x y =
    absurd (apart shape.header (shape_by capacity sites header) bytes b a y x)
one_layout shape (two_areas capacity sites header) A bytes a b is x y =
    λ j. two_areas (sym is.0 j) (sym is.1 j) (sym is.2 j)
one_layout shape (two_areas capacity sites header) B bytes a b is x y =
    λ j. two_areas (sym is.0 j) (sym is.1 j) (sym is.2 j)
