-- What a disk that was only read is, by what a load of its book says.
use Rattle.std.proofs.Common.{◌≡◌, ◌≤◌, ℕ, List, length, false, Option, Some, None, is_some, refl, sym, ap, ◌∙◌, subst, inl, inr, arith}
use Rattle.std.specs.Prelude.{IfSome, IsSome}
use Rattle.walter_base.specs.declared.format.Format.{Format}
use Rattle.walter_base.specs.Sizes.{most_in}
use Rattle.walter_disk.specs.declared.disk.Disk.{Ghosts}
use Rattle.walter_disk.specs.Images.{IsDurable, IsImage, LeavesOnly, Narrows}
use Rattle.walter_disk.specs.Racks.{IsFresh}
use Rattle.walter_journal.specs.Faults.{Finds as Found}
use Rattle.walter_journal.specs.declared.fault.JournalFault.{JournalFault}
use Rattle.walter_journal.specs.declared.fault.JournalFault.TheVariants.{Failed, Foreign, Damaged, NoMemory}
use Rattle.walter_checkpoint.specs.Areas.{Shape, shape_by, HasContent, IsForeign}
use Rattle.walter_checkpoint.specs.Books.{HasLaid, StandsFor, disk_of, shape_of}
use Rattle.walter_checkpoint.specs.Faults.{HasCause, IsDamagedBook}
use Rattle.walter_checkpoint.specs.declared.book.Book.{Book}
use Rattle.walter_checkpoint.specs.declared.book.Live.{Live}
use Rattle.walter_checkpoint.specs.declared.book.Live.TheVariants.{Whole, A, B}
use Rattle.walter_checkpoint.proofs.Adding.{reads_laid}
use Rattle.walter_audit.specs.Contents.{content_of}
use Rattle.walter_inspect.specs.Inspections.{Finds, IsContentOf, IsOnlyRead, IsReadAs, IsUnread}

-- what lies in a book is its content
laid_content : (shape : Shape) (live : Live) (bytes : List ℕ) (bodies : List (List ℕ)) → HasLaid live shape bytes bodies
    → HasContent shape bytes bodies
laid_content shape Whole bytes bodies has = inl has
laid_content shape A bytes bodies has = inr has
laid_content shape B bytes bodies has = inr has

-- where a crash leaves nothing else, what a read gives behind it is the same
same_told : (old new : Option (List ℕ)) (images : List ℕ → Type 0) → is_some new ≡ is_some old → IsDurable old images
    → IsImage new images → new ≡ old
same_told None None images tells durable image = refl
same_told None (Some b) images tells durable image = absurd cc
same_told (Some a) None images tells durable image = absurd cc
same_told (Some a) (Some b) images tells durable image = ap (λ (x : List ℕ). Some x) (durable b image)

-- what is so of what a read gives is so of what it gave
told_before : (old new : Option (List ℕ)) (P : List ℕ → Type 0) → new ≡ old → IfSome new P → IfSome old P
told_before old new P same holds = subst (λ o. IfSome o P) same holds

image_narrows : (reads : Option (List ℕ)) (old new : List ℕ → Type 0) → Narrows old new → IsImage reads new → IsImage reads old
image_narrows None old new narrows image = tt
image_narrows (Some bytes) old new narrows image = narrows bytes image

module _ {D : Type 0} (g : Ghosts D) where
  -- the laws of a disk
  abbrev pub LeavesWhatReads : Type 0
  LeavesWhatReads = (disk : D) → (g.known disk).broken ≡ false → IsImage (g.known disk).reads (g.may_leave disk)

  abbrev pub CountsNow : Type 0
  CountsNow = (disk : D) (t : ℕ) (image : List ℕ) → t ≤ g.moment disk → g.may_leave disk image → g.left_since disk t image

  abbrev pub SizeIs : Type 0
  SizeIs = (disk : D) → IfSome (g.known disk).reads (λ bytes. (g.known disk).size ≡ length bytes)

  pub untouched : (disk : D) → IsOnlyRead g disk disk
  untouched disk = record { arms = refl; tells = refl; crash = λ image left. left; reads = λ whole. refl }

  -- it was loaded, or its load failed
  pub only_loaded : LeavesWhatReads → CountsNow → (old new : D) → IsFresh (g.known old) (g.may_leave old)
      → (g.known new).arms ≡ (g.known old).arms → is_some (g.known new).reads ≡ is_some (g.known old).reads
      → LeavesOnly g.moment g.left_since old new (g.may_leave old) → IsOnlyRead g old new
  only_loaded leaves counts old new fresh arms tells run =
      let narrows : Narrows (g.may_leave old) (g.may_leave new) =
      λ image left. run.each image (counts new (g.moment old) image run.later left) in record {
        arms = arms;
        tells = tells;
        crash = narrows;
        reads = λ whole. same_told (g.known old).reads (g.known new).reads (g.may_leave old) tells fresh.durable
            (image_narrows (g.known new).reads (g.may_leave old) (g.may_leave new) narrows (leaves new whole));
      }

  -- the book that was loaded
  pub read_as : (capacity sites : ℕ) (old : D) (book : Book D g) (bodies : List (List ℕ)) (header : Format)
      (found : List (List ℕ)) → IsOnlyRead g old (disk_of book)
      → (IsSome (g.known old).reads → StandsFor book bodies)
      → shape_of book ≡ shape_by capacity sites (shape_of book).header → sites ≤ most_in (shape_of book).header
      → (g.known (disk_of book)).broken ≡ false → (g.known (disk_of book)).faults ≡ (g.known old).faults
      → header ≡ (shape_of book).header → found ≡ bodies
      → IsReadAs g capacity sites old (disk_of book) (content_of header found)
  read_as capacity sites old book bodies header found only loaded shape places whole faultless named same = record {
    whole = whole;
    faultless = faultless;
    holds = at (g.known old).reads refl;
  }
    where
      at : (reads : Option (List ℕ)) → (g.known old).reads ≡ reads
          → IfSome reads (λ bytes. IsContentOf capacity sites bytes (content_of header found))
      at None told = tt
      at (Some bytes) told =
          let stands = loaded (ap is_some told) in
          let is : Some stands.with.stands.bytes ≡ Some bytes = sym stands.with.stands.told ∙ only.reads whole ∙ told in
          let bytes_are : stands.with.stands.bytes ≡ bytes = cc in
          let laid = laid_content (shape_of book) book.live stands.with.stands.bytes bodies (reads_laid book bodies stands) in
          record {
            places = subst (λ (h : Format). sites ≤ most_in h) (sym named) places;
            book = subst (λ (b : List ℕ). HasContent (shape_by capacity sites header) b found) bytes_are
                (subst (λ (bs : List (List ℕ)). HasContent (shape_by capacity sites header) stands.with.stands.bytes bs) (sym same)
                (subst (λ (h : Format). HasContent (shape_by capacity sites h) stands.with.stands.bytes bodies) (sym named)
                (subst (λ (s : Shape). HasContent s stands.with.stands.bytes bodies) shape laid)));
          }

  -- what was found on a disk by a read
  found_so : (old new : D) (P : List ℕ → Type 0) → is_some (g.known new).reads ≡ is_some (g.known old).reads
      → IsFresh (g.known old) (g.may_leave old) → Found P (g.may_leave old) (g.known old) (g.known new) → Finds g old new P
  found_so old new P tells fresh found = record {
    faultless = found.faultless;
    are = told_before (g.known old).reads (g.known new).reads P
        (same_told (g.known old).reads (g.known new).reads (g.may_leave old) tells fresh.durable found.image) found.are;
  }

  -- why its load failed
  pub unread_as : (capacity sites : ℕ) (old new : D) (why : JournalFault) → is_some (g.known new).reads ≡ is_some (g.known old).reads
      → IsFresh (g.known old) (g.may_leave old)
      → HasCause capacity sites why (g.may_leave old) (g.known old) (g.known new) → IsUnread g capacity sites old new why
  unread_as capacity sites old new Failed tells fresh cause = cause
  unread_as capacity sites old new Foreign tells fresh cause = found_so old new (IsForeign capacity sites) tells fresh cause
  unread_as capacity sites old new (Damaged at claimed) tells fresh cause =
      found_so old new (λ bytes. IsDamagedBook capacity sites bytes at claimed) tells fresh cause
  unread_as capacity sites old new NoMemory tells fresh cause = cause

  -- a disk of no bytes is foreign
  pub unread_none : SizeIs → (capacity sites : ℕ) (disk : D) → (g.known disk).size ≡ 0 → IsUnread g capacity sites disk disk Foreign
  unread_none size_is capacity sites disk none = record { faultless = refl; are = at (g.known disk).reads (size_is disk) }
    where
      at : (reads : Option (List ℕ)) → IfSome reads (λ bytes. (g.known disk).size ≡ length bytes)
          → IfSome reads (IsForeign capacity sites)
      at None told = tt
      at (Some bytes) told = inl (omega (arith, told, none))
