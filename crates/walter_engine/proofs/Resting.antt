-- A disk that rests: what each crash leaves of it, with the records of its site.
use Rattle.std.proofs.Common.{◌≡◌, ℕ, ◌<◌, ◌≤◌, List, [], ◌∷◌, ◌++◌, ◌⊎◌, length, Bool, true, false, Option, Some, None, refl, ap, sym, ◌∙◌, subst, inl, inr, ⊎_elim, arith}
use Rattle.std.specs.Prelude.{IfSome, IsSome, is_some, not}
use Rattle.walter_base.specs.declared.message.Record.{Record}
use Rattle.walter_disk.specs.declared.disk.Disk.{Ghosts}
use Rattle.walter_disk.specs.Images.{IsImage, LeavesOnly}
use Rattle.walter_checkpoint.specs.Areas.{Shape}
use Rattle.walter_checkpoint.specs.Books.{disk_of, shape_of, left_of, HasLaid, IsLaidBeforeOrBehind, StandsFor}
use Rattle.walter_checkpoint.specs.declared.book.Book.{Book}
use Rattle.walter_checkpoint.specs.declared.book.Live.{Live}
use Rattle.walter_checkpoint.specs.declared.book.Live.TheVariants.{Whole, A, B}
use Rattle.walter_checkpoint.proofs.Adding.{leaves_laid, reads_laid}
use Rattle.walter_disk.specs.Disks.{Fails}
use Rattle.walter_journal.specs.Steps.{IsLeft}
use Rattle.walter_record.specs.Spelling.{record_spelled}
use Rattle.walter_rules.specs.Layouts.{Layout, one_area, two_areas, header_of, format_at, left_behind}
use Rattle.walter_rules.specs.Standing.{Standing}
use Rattle.walter_engine.proofs.Spelled.{spelled-push}
use Rattle.walter_engine.specs.Contents.{HasBodies, HasRecords, MayHaveRecords, spelled}
use Rattle.walter_engine.specs.Stores.{book_if, disk_if, disk_under, layout_by, layout_of, IsOnDisk, IsStored}

-- whatever is in flight, the records alone may be there
pub may_have : (layout : Layout) (records : List Record) (flight : Option Record) (image : List ℕ)
    → HasRecords layout image records → MayHaveRecords layout records flight image
may_have layout records None image has = has
may_have layout records (Some rec) image has = inl has

-- what lies in a book is laid out as it is
pub laid_bodies : (shape : Shape) (live : Live) (bytes : List ℕ) (bodies : List (List ℕ)) → HasLaid live shape bytes bodies
    → HasBodies (layout_by shape live) bytes bodies
laid_bodies shape Whole bytes bodies has = has
laid_bodies shape A bytes bodies has = has
laid_bodies shape B bytes bodies has = has

pub before_laid : (shape : Shape) (live : Live) (bodies : List (List ℕ)) (body image : List ℕ)
    → IsLaidBeforeOrBehind live shape bodies body image
    → HasBodies (layout_by shape live) image bodies ⊎ HasBodies (layout_by shape live) image (bodies ++ body ∷ [])
before_laid shape live bodies body image (inl before) = inl (laid_bodies shape live image bodies before)
before_laid shape live bodies body image (inr behind) = inr (laid_bodies shape live image (bodies ++ body ∷ []) behind)

-- the bodies before one was appended, or with it
pub before_or_behind : (layout : Layout) (records : List Record) (rec : Record) (image : List ℕ)
    → HasBodies layout image (spelled (header_of layout) records)
    ⊎ HasBodies layout image
    (spelled (header_of layout) records ++ record_spelled (format_at (header_of layout) records) rec ∷ [])
    → MayHaveRecords layout records (Some rec) image
before_or_behind layout records rec image (inl before) = inl before
before_or_behind layout records rec image (inr behind) =
    inr (subst (λ bodies. HasBodies layout image bodies) (sym (spelled-push (header_of layout) records rec)) behind)

-- a book has bytes
content_begun : (layout : Layout) (bytes : List ℕ) (bodies : List (List ℕ)) → HasBodies layout bytes bodies
    → 0 < length bytes
content_begun (one_area capacity header) bytes bodies content = omega (arith, ap length content.is)
content_begun (two_areas capacity sites header) bytes bodies content = omega (arith, ap length content.is)

pub may_have_begun : (layout : Layout) (records : List Record) (flight : Option Record) (image : List ℕ)
    → MayHaveRecords layout records flight image → 0 < length image
may_have_begun layout records None image has = content_begun layout image _ has
may_have_begun layout records (Some rec) image (inl has) = content_begun layout image _ has
may_have_begun layout records (Some rec) image (inr has) = content_begun layout image _ has

-- the size is above 0 where what reads may be a book
begun_by : (layout : Layout) (reads : Option (List ℕ)) (size : ℕ) (images : List ℕ → Type 0) (records : List Record)
    (flight : Option Record) → IsSome reads → IfSome reads (λ bytes. size ≡ length bytes)
    → ((image : List ℕ) → images image → MayHaveRecords layout records flight image) → IsImage reads images → 0 < size
begun_by layout None size images records flight told is_size are image = cc
begun_by layout (Some bytes) size images records flight told is_size are image =
    omega (arith, is_size, may_have_begun layout records flight bytes (are bytes image))

module _ {D : Type 0} (g : Ghosts D) where
  -- a book that stands for these bodies leaves them
  pub leaves_bodies : (book : Book D g) (bodies : List (List ℕ)) → StandsFor book bodies → (image : List ℕ)
      → g.may_leave (disk_of book) image → HasBodies (layout_of book) image bodies
  leaves_bodies book bodies stands image left =
      laid_bodies (shape_of book) book.live image bodies (leaves_laid book bodies stands image left)

  -- the laws of a disk that are used here
  abbrev pub SizeIs : Type 0
  SizeIs = (disk : D) → IfSome (g.known disk).reads (λ bytes. (g.known disk).size ≡ length bytes)

  abbrev pub CountsNow : Type 0
  CountsNow = (disk : D) (t : ℕ) (image : List ℕ) → t ≤ g.moment disk → g.may_leave disk image → g.left_since disk t image

  abbrev pub OnlyNow : Type 0
  OnlyNow = (disk : D) (image : List ℕ) → g.left_since disk (g.moment disk) image → g.may_leave disk image

  pub size_told : SizeIs → (disk : D) (bytes : List ℕ) → (g.known disk).reads ≡ Some bytes → (g.known disk).size ≡ length bytes
  size_told size_is disk bytes told = subst (λ o. IfSome o (λ bytes. (g.known disk).size ≡ length bytes)) told (size_is disk)

  -- what a crash may leave now, after a run that leaves only this
  pub left_now : CountsNow → (old new : D) (P : List ℕ → Type 0) → LeavesOnly g.moment g.left_since old new P → (image : List ℕ) → g.may_leave new image → P image
  left_now counts_now old new P run image left = run.each image (counts_now new (g.moment old) image run.later left)

  -- the bytes that a book has are among these
  pub reads_bodies : (book : Book D g) (bodies : List (List ℕ)) (stands : StandsFor book bodies)
      → HasBodies (layout_of book) stands.with.stands.bytes bodies
  reads_bodies book bodies stands = laid_bodies (shape_of book) book.live _ bodies (reads_laid book bodies stands)

  -- the disk under a book that stands for the records
  on_disk : SizeIs → (layout : Layout) (S : Standing) (book : Book D g) → layout_of book ≡ layout
      → StandsFor book (spelled (header_of layout) S.records) → IsOnDisk g layout S (disk_of book)
  on_disk size_is layout S book laid are_there =
      let stands = subst (λ (l : Layout). StandsFor book (spelled (header_of l) S.records)) (sym laid) are_there in
      subst (λ (l : Layout). IsOnDisk g l S (disk_of book)) laid (record {
        told = ap is_some stands.with.stands.told;
        begun = omega (
          arith,
          size_told size_is (disk_of book) stands.with.stands.bytes stands.with.stands.told,
          content_begun (layout_of book) stands.with.stands.bytes _ (reads_bodies book _ stands),
        );
        images = λ image left.
            may_have (layout_of book) S.records S.flight image
            (leaves_bodies book (spelled (header_of (layout_of book)) S.records) stands image left);
      })

  -- the records lie in the book of a site that is up, or on the disk under it of one that is down
  pub stored : SizeIs → (layout : Layout) (S : Standing) (book : Book D g) (up : Bool) → layout_of book ≡ layout
      → StandsFor book (spelled (header_of layout) S.records) → (up ≡ true → left_of book ≡ left_behind layout S)
      → IsStored {g = g} layout S (book_if up book) (disk_if up book)
  stored size_is layout S book true laid stands left = record { laid = laid; stands = stands; left = left refl }
  stored size_is layout S book false laid stands left = on_disk size_is layout S book laid stands

  -- a record whose append failed is in flight
  pub stored_failed : SizeIs → CountsNow → (records : List Record) (rec : Record) (T : Standing) (old new : Book D g)
      → StandsFor old (spelled (header_of (layout_of old)) records) → Fails (g.known (disk_of old)) (g.known (disk_of new))
      → LeavesOnly g.moment g.left_since (disk_of old) (disk_of new)
      (IsLaidBeforeOrBehind old.live (shape_of old) (spelled (header_of (layout_of old)) records)
      (record_spelled (format_at (header_of (layout_of old)) records) rec))
      → T.records ≡ records → T.flight ≡ Some rec → IsOnDisk g (layout_of old) T (disk_of new)
  stored_failed size_is counts_now records rec T old new stands fails run same flight = record {
    told = fails.tells ∙ ap is_some stands.with.stands.told;
    begun = omega (
      arith,
      fails.no_smaller,
      size_told size_is (disk_of old) stands.with.stands.bytes stands.with.stands.told,
      content_begun (layout_of old) stands.with.stands.bytes _ (reads_bodies old _ stands),
    );
    images = λ image left.
        let has = before_or_behind (layout_of old) records rec image
        (before_laid (shape_of old) old.live (spelled (header_of (layout_of old)) records)
        (record_spelled (format_at (header_of (layout_of old)) records) rec) image
        (left_now counts_now (disk_of old) (disk_of new) _ run image left)) in
        subst (λ rs. MayHaveRecords (layout_of old) rs T.flight image) (sym same)
        (subst (λ flight. MayHaveRecords (layout_of old) records flight image) (sym flight) has);
  }

  -- a pack that failed leaves what was there
  pub stored_unpacked : SizeIs → CountsNow → (T : Standing) (old new : Book D g)
      → StandsFor old (spelled (header_of (layout_of old)) T.records) → Fails (g.known (disk_of old)) (g.known (disk_of new))
      → LeavesOnly g.moment g.left_since (disk_of old) (disk_of new)
      (λ image. HasBodies (layout_of old) image (spelled (header_of (layout_of old)) T.records))
      → IsOnDisk g (layout_of old) T (disk_of new)
  stored_unpacked size_is counts_now T old new stands fails run = record {
    told = fails.tells ∙ ap is_some stands.with.stands.told;
    begun = omega (
      arith,
      fails.no_smaller,
      size_told size_is (disk_of old) stands.with.stands.bytes stands.with.stands.told,
      content_begun (layout_of old) stands.with.stands.bytes _ (reads_bodies old _ stands),
    );
    images = λ image left.
        may_have (layout_of old) T.records T.flight image
        (left_now counts_now (disk_of old) (disk_of new) _ run image left);
  }

  -- where there is no book, there is a disk
  pub on_bare : (layout : Layout) (S : Standing) (book : Option (Book D g)) (disk : D) → is_some book ≡ false
      → IsStored layout S book (Some disk) → IsOnDisk g layout S disk
  on_bare layout S None disk closed is = is
  on_bare layout S (Some book) disk closed is = absurd (cc)

  pub stored_bare : (layout : Layout) (S : Standing) (book : Option (Book D g)) (disk : D) → is_some book ≡ false
      → IsOnDisk g layout S disk → IsStored layout S book (Some disk)
  stored_bare layout S None disk closed is = is
  stored_bare layout S (Some book) disk closed is = absurd (cc)

  -- there is one or the other
  pub has_either : (book : Option (Book D g)) (bare : Option D) (up : Bool) → is_some book ≡ up → is_some bare ≡ not up
      → is_some (disk_under book bare) ≡ true
  has_either (Some book) bare up booked bared = refl
  has_either None (Some disk) up booked bared = refl
  has_either None None up booked bared = absurd (let e = bared ∙ ap not (sym booked) in cc)

  pub disk_bare : (book : Option (Book D g)) (bare : Option D) → is_some book ≡ false → disk_under book bare ≡ bare
  disk_bare None bare closed = refl
  disk_bare (Some book) bare closed = absurd (cc)

  -- a disk rests on, where it leaves only what it left before
  pub rests_on : SizeIs → CountsNow → (layout : Layout) (S : Standing) (old new : D) → IsOnDisk g layout S old
      → is_some (g.known new).reads ≡ is_some (g.known old).reads
      → IsLeft (g.may_leave old) (g.known old) (g.known new)
      → LeavesOnly g.moment g.left_since old new (g.may_leave old) → IsOnDisk g layout S new
  rests_on size_is counts_now layout S old new resting tells left run =
      let told : IsSome (g.known new).reads = tells ∙ resting.told in
      record {
        told = told;
        begun = ⊎_elim (λ same. omega (arith, same, resting.begun))
            (λ image. begun_by layout (g.known new).reads _ (g.may_leave old) S.records S.flight told (size_is new) resting.images image) left;
        images = λ image now. resting.images image (left_now counts_now old new _ run image now);
      }
