-- A restart from the disk of a site that is down.
use Rattle.std.proofs.Common.{◌≡◌, ℕ, ◌+◌, ◌<◌, ◌≤◌, ◌≢◌, List, [], ◌∷◌, ◌++◌, map, length, false, Option, Some, None, refl, ap, sym, ◌∙◌, subst, inl, inr, ◌⊎◌, ⊎_elim, arith}
use Rattle.std.specs.Prelude.{IfSome, IsSome, is_some}
use Rattle.std.proofs.lemmas.List.{length-append}
use Rattle.walter_base.specs.declared.catalog.Catalog.{Catalog}
use Rattle.walter_base.specs.declared.format.Format.{Format}
use Rattle.walter_base.specs.declared.message.Record.{Record}
use Rattle.walter_base.specs.declared.names.SiteId.{SiteId}
use Rattle.walter_base.specs.Sizes.{most_in}
use Rattle.walter_disk.proofs.Moments.{weaker, joined}
use Rattle.walter_disk.specs.declared.disk.Disk.{Ghosts}
use Rattle.walter_disk.specs.Disks.{DiskState}
use Rattle.walter_disk.specs.Images.{IsImage, LeavesOnly}
use Rattle.walter_engine.specs.declared.answers.RefusedRestart.{RefusedRestart}
use Rattle.walter_engine.specs.declared.answers.RefusedRestart.TheVariants as refused
use Rattle.walter_engine.specs.declared.engine.Engine.{Engine}
use Rattle.walter_engine.specs.Contents.{AreSpelled, HasBodies, HasBook, headed, MayHaveRecords, MayHaveNext, spelled}
use Rattle.walter_engine.specs.Effects.{HasCome, IsRefusedOver, IsRefusedFor}
use Rattle.walter_engine.specs.Engines.{Stands, catalog_in, layout_in}
use Rattle.walter_engine.specs.Raises.{LiesIn, Raises, calls_before, unloaded_by}
use Rattle.walter_engine.specs.Restarts.{ComesOf, RestartsOver, left_over}
use Rattle.walter_engine.specs.Stores.{IsOnDisk, IsStored, IsLeft, book_if, disk_if, layout_by, layout_of}
use Rattle.walter_engine.proofs.Crashes.{settled_next}
use Rattle.walter_engine.proofs.Resting.{SizeIs, size_told, reads_bodies}
use Rattle.walter_engine.proofs.Laid.{IsLayoutOf, bodies_content, laid_is, laid_header, one_layout}
use Rattle.walter_engine.proofs.Spelled.{Behind, length-spelled, spelled_settled}
use Rattle.walter_engine.proofs.Taking.{is_full}
use Rattle.walter_journal.specs.declared.fault.JournalFault.{JournalFault}
use Rattle.walter_journal.specs.declared.fault.JournalFault.TheVariants as fault
use Rattle.walter_journal.specs.Faults.{Finds}
use Rattle.walter_checkpoint.specs.Areas.{Shape, HasContent, IsForeign}
use Rattle.walter_checkpoint.specs.Books.{disk_of, shape_of, calls_of_pack, StandsFor}
use Rattle.walter_checkpoint.specs.Faults.{HasCause, IsDamagedBook}
use Rattle.walter_checkpoint.specs.declared.book.Book.{Book}
use Rattle.walter_checkpoint.specs.declared.book.Live.{Live}
use Rattle.walter_checkpoint.specs.declared.book.Live.TheVariants.{Whole, A, B}
use Rattle.walter_machine.specs.Comings.{is_faulty, RisesIf, IsRest}
use Rattle.walter_site.specs.Members.{IsShortOutcome}
use Rattle.walter_machine.specs.Machines.{is_up, AreFound}
use Rattle.walter_machine.specs.States.{AreTold}
use Rattle.walter_rules.specs.declared.entry.Came.{Came}
use Rattle.walter_rules.specs.declared.event.Event.{Event}
use Rattle.walter_rules.specs.declared.event.Event.TheVariants.{Restart}
use Rattle.walter_rules.specs.declared.outcome.Outcome.TheVariants.{Refused}
use Rattle.walter_rules.specs.Layouts.{Layout, header_of}
use Rattle.walter_rules.specs.Standing.{Standing, settled, stands_after}
use Rattle.walter_rules.specs.Trails.{Comes, IsFound, TakesMemory, only}

-- the laws of a book's bytes
abbrev pub OneContent : Shape → Type 0
OneContent shape =
    (header other : Format) (bytes : List ℕ) (a b : List (List ℕ)) → HasContent (headed header shape) bytes a
    → HasContent (headed other shape) bytes b → (header ≡ other) × (a ≡ b)

abbrev pub NotForeign : Shape → Type 0
NotForeign shape =
    (bytes : List ℕ) (bodies : List (List ℕ)) → HasContent shape bytes bodies
    → IsForeign shape.capacity shape.sites bytes → ⊥

abbrev pub NotDamaged : Shape → Type 0
NotDamaged shape =
    (bytes : List ℕ) (bodies : List (List ℕ)) (at claimed : ℕ) → HasContent shape bytes bodies
    → IsDamagedBook shape.capacity shape.sites bytes at claimed → ⊥

-- ---- what was found

-- the bodies are the records, or these with the one in flight behind them
abbrev pub AreThere : Format → Standing → List (List ℕ) → Type 0
AreThere header S bodies =
    (bodies ≡ spelled header S.records)
    ⊎ ((rec : Record) × (S.flight ≡ Some rec) × (bodies ≡ spelled header (S.records ++ rec ∷ [])))

of_one : (shape : Shape) → OneContent shape → (bytes : List ℕ) (a b : List (List ℕ)) → HasContent shape bytes a
    → HasContent shape bytes b → a ≡ b
of_one shape one bytes a b has_a has_b = (one shape.header shape.header bytes a b has_a has_b).1

-- what may be there is what was found
there : (shape : Shape) → OneContent shape → (layout : Layout) → IsLayoutOf shape layout → (S : Standing)
    (flight : Option Record) → S.flight ≡ flight → (bytes : List ℕ) (bodies : List (List ℕ))
    → MayHaveRecords layout S.records flight bytes → HasContent shape bytes bodies → AreThere (header_of layout) S bodies
there shape one layout of_ S None is bytes bodies has content =
    inl (of_one shape one bytes bodies (spelled (header_of layout) S.records) content (bodies_content shape layout bytes _ of_ has))
there shape one layout of_ S (Some rec) is bytes bodies (inl has) content =
    inl (of_one shape one bytes bodies (spelled (header_of layout) S.records) content (bodies_content shape layout bytes _ of_ has))
there shape one layout of_ S (Some rec) is bytes bodies (inr has) content =
    inr (
      rec,
      is,
      of_one shape one bytes bodies (spelled (header_of layout) (S.records ++ rec ∷ [])) content (bodies_content shape layout bytes _ of_ has),
    )

pub found_there : (header : Format) (S : Standing) (bodies : List (List ℕ)) → AreThere header S bodies
    → AreFound S (length bodies)
found_there header S bodies (inl is) = inl (ap length is ∙ length-spelled header S.records)
found_there header S bodies (inr behind) =
    inr (
      ap is_some behind.1,
      omega (
        arith,
        ap length behind.2,
        length-spelled header (S.records ++ behind.0 ∷ []),
        length-append S.records (behind.0 ∷ []),
      ),
    )

-- the count tells which
settled_there : (header : Format) (catalog : Catalog) (i : SiteId) (S : Standing) (kept : Option Record) (bodies : List (List ℕ))
    → AreThere header S bodies → IfSome kept (IsFound S Restart) → length bodies ≡ length (settled catalog i kept S).records
    → bodies ≡ spelled header (settled catalog i kept S).records
settled_there header catalog i S None bodies (inl is) found count = is
settled_there header catalog i S None bodies (inr behind) found count =
    absurd (omega (
      arith,
      count,
      ap length behind.2,
      length-spelled header (S.records ++ behind.0 ∷ []),
      length-append S.records (behind.0 ∷ []),
    ))
settled_there header catalog i S (Some rec) bodies (inl is) found count =
    absurd (omega (
      arith,
      count,
      ap length is,
      length-spelled header S.records,
      length-append S.records (rec ∷ []),
    ))
settled_there header catalog i S (Some rec) bodies (inr behind) found count =
    let named : Some behind.0 ≡ Some rec = sym behind.1 ∙ found.in_flight in
    let same : behind.0 ≡ rec = cc in
    subst (λ (r : Record). bodies ≡ spelled header (S.records ++ r ∷ [])) same behind.2

settled_up : (catalog : Catalog) (i : SiteId) (S : Standing) (kept : Option Record)
    → (settled catalog i kept S).up ≡ S.up
settled_up catalog i S None = refl
settled_up catalog i S (Some rec) = refl

has_spelling : (header : Format) (sites : ℕ) (S : Standing) (kept : Option Record) → AreSpelled header sites S
    → IfSome kept (IsFound S Restart) → IfSome kept (Behind header sites S.records None)
has_spelling header sites S None all found = tt
has_spelling header sites S (Some rec) all found =
    subst (λ (f : Option Record). IfSome f (Behind header sites S.records None)) found.in_flight all.flight

-- ---- what it comes to

-- what was found beside it changes nothing of it
with_kept : (catalog : Catalog) (layout : Layout) (i : SiteId) (S : Standing) (event : Event) (came : Came)
    (kept : Option Record) → Comes catalog layout i S event came
    → Comes catalog layout i S event (record came { kept = kept })
with_kept catalog layout i S event came kept (Comes.ruled fits is) =
    Comes.ruled fits (record { outcome = is.outcome; wrote = is.wrote; flight = is.flight; sends = is.sends })
with_kept catalog layout i S event came kept (Comes.met_fault rec brings fits is) =
    Comes.met_fault rec brings fits
    (record { outcome_is = is.outcome_is; wrote = is.wrote; flight_is = is.flight_is; sends = is.sends; dropped = is.dropped })
with_kept catalog layout i S event came kept (Comes.unread restart down is) =
    Comes.unread restart down
    (record { outcome_is = is.outcome_is; wrote = is.wrote; flight_is = is.flight_is; sends = is.sends; dropped = is.dropped })
with_kept catalog layout i S event came kept (Comes.no_memory takes is) =
    Comes.no_memory takes
    (record { outcome_is = is.outcome_is; wrote = is.wrote; flight_is = is.flight_is; sends = is.sends; dropped = is.dropped })
with_kept catalog layout i S event came kept (Comes.full rec brings less is) =
    Comes.full rec brings less
    (record { outcome_is = is.outcome_is; wrote = is.wrote; flight_is = is.flight_is; sends = is.sends; dropped = is.dropped })

-- bytes with bodies for which it is refused
refused_for : (catalog : Catalog) (shape : Shape) (i : SiteId) (bytes : List ℕ) (bodies : List (List ℕ))
    (why : RefusedRestart) (book : HasBook shape bytes bodies) → IsRefusedOver book.header catalog i bodies why
    → IsRefusedFor catalog shape i bytes why
refused_for catalog shape i bytes bodies refused.Foreign content over = absurd over
refused_for catalog shape i bytes bodies (refused.Damaged at length) content over = absurd over
refused_for catalog shape i bytes bodies (refused.Unreadable index) content over = (bodies, content, over)
refused_for catalog shape i bytes bodies refused.LastEpoch content over = (bodies, content, over)

-- what holds of all holds of what is there
pub always : {A : Type 0} (Q : A → Type 0) (o : Option A) → ((x : A) → Q x) → IfSome o Q
always Q None so = tt
always Q (Some x) so = so x

-- a book that was not loaded
pub refused_unloaded : (catalog : Catalog) (shape : Shape) (i : SiteId) (why : JournalFault) (images : List ℕ → Type 0)
    (old new : DiskState) → HasCause shape.capacity shape.sites why images old new
    → IfSome new.reads (λ bytes. IfSome (unloaded_by why).1 (IsRefusedFor catalog shape i bytes))
refused_unloaded catalog shape i fault.Failed images old new cause = always _ new.reads (λ bytes. tt)
refused_unloaded catalog shape i fault.Foreign images old new cause = cause.are
refused_unloaded catalog shape i (fault.Damaged at length) images old new cause = cause.are
refused_unloaded catalog shape i fault.NoMemory images old new cause = always _ new.reads (λ bytes. tt)

pub unloaded_is : (why : JournalFault) → IsRest (unloaded_by why).0 × IsShortOutcome (unloaded_by why).0
    × (is_full (unloaded_by why).0 ≡ false) × ((unloaded_by why).0 ≡ Refused → IsSome (unloaded_by why).1)
unloaded_is fault.Failed = (tt, tt, refl, λ e. absurd (cc))
unloaded_is fault.NoMemory = (tt, tt, refl, λ e. absurd (cc))
unloaded_is fault.Foreign = (tt, tt, refl, λ e. refl)
unloaded_is (fault.Damaged at length) = (tt, tt, refl, λ e. refl)

pub unloaded_faults : (capacity sites : ℕ) (why : JournalFault) (images : List ℕ → Type 0) (old new : DiskState)
    → HasCause capacity sites why images old new
    → RisesIf (is_faulty (unloaded_by why).0) old.faults new.faults
unloaded_faults capacity sites fault.Failed images old new cause = cause
unloaded_faults capacity sites fault.NoMemory images old new cause = cause
unloaded_faults capacity sites fault.Foreign images old new cause = cause.faultless
unloaded_faults capacity sites (fault.Damaged at length) images old new cause = cause.faultless

-- the calls of the load come before the others
pub calls_of_restart : (wrote : Option Record) (load before old mid new : ℕ) → mid ≡ old + load
    → IfSome wrote (λ rec. new ≡ mid + before + 4) → IfSome wrote (λ rec. new ≡ old + (load + before) + 4)
calls_of_restart (Some rec) load before old mid new is calls = omega (arith, is, calls)
calls_of_restart None load before old mid new is calls = tt

-- a header changes nothing of them
calls_headed : (header : Format) (shape : Shape) (live : Live) (size : ℕ)
    → calls_of_pack (headed header shape) live size ≡ calls_of_pack shape live size
calls_headed header shape Whole size = refl
calls_headed header shape A size = refl
calls_headed header shape B size = refl

-- those of a pack, by how many bytes the disk has then
pub packs_are : {D : Type 0} {g : Ghosts D} (shape : Shape) (book : Book D g) (bodies : List (List ℕ))
    → shape_of book ≡ headed (shape_of book).header shape
    → (calls_before book bodies ≡ 0)
    ⊎ ((live : Live) × (now : ℕ) × (calls_before book bodies ≡ calls_of_pack shape live now))
packs_are shape book [] is = inl refl
packs_are {g = g} shape book (body ∷ bodies) is =
    inr (
      book.live,
      (g.known (disk_of book)).size,
      ap (λ (s : Shape). calls_of_pack s book.live (g.known (disk_of book)).size) is
          ∙ calls_headed (shape_of book).header shape book.live (g.known (disk_of book)).size,
    )

-- what was found wrong can't be
not_wrong : (P : List ℕ → Type 0) (reads : Option (List ℕ)) (images : List ℕ → Type 0) → ((bytes : List ℕ) → images bytes → P bytes → ⊥) → IsSome reads → IsImage reads images → IfSome reads P → ⊥
not_wrong P None images differ told image are = absurd (cc)
not_wrong P (Some bytes) images differ told image are = differ bytes image are

some_bodies : (layout : Layout) (records : List Record) (flight : Option Record) (bytes : List ℕ)
    → MayHaveRecords layout records flight bytes → (bodies : List (List ℕ)) × HasBodies layout bytes bodies
some_bodies layout records None bytes has = (spelled (header_of layout) records, has)
some_bodies layout records (Some rec) bytes (inl has) = (spelled (header_of layout) records, has)
some_bodies layout records (Some rec) bytes (inr has) = (spelled (header_of layout) (records ++ rec ∷ []), has)

module _ {D : Type 0} {g : Ghosts D} where
  -- the engine over what was left
  pub stands_left : (engine : Engine D g) (T : Standing) (book : Book D g) (layout : Layout) → layout_in engine ≡ layout
      → IsLeft {g = g} layout engine.machine T book
      → engine.book ≡ book_if (is_up engine.machine) book → engine.disk ≡ disk_if {g = g} (is_up engine.machine) book
      → Stands engine T
  stands_left engine T book layout same left book_is disk_is = record {
    machine = left.machine;
    spellings = subst (λ (l : Layout). AreSpelled (header_of l) (catalog_in engine).sites T) (sym same) left.spellings;
    stored = subst (λ (l : Layout). IsStored {g = g} l T engine.book engine.disk) (sym same)
        (subst (λ o. IsStored {g = g} layout T o engine.disk) (sym book_is)
        (subst (λ o. IsStored {g = g} layout T (book_if (is_up engine.machine) book) o) (sym disk_is) left.stored));
  }

  -- ---- over a book that was loaded

  module _ (shape : Shape) (one : OneContent shape) (layout : Layout) (of_ : IsLayoutOf shape layout) (S : Standing)
      (disk : D) (book : Book D g) (found : shape_of book ≡ headed (shape_of book).header shape) (bodies : List (List ℕ))
      (resting : IsOnDisk g layout S disk) (image : IsImage (g.known (disk_of book)).reads (g.may_leave disk))
      (stands : StandsFor book bodies) where
    bytes : List ℕ
    bytes = stands.with.stands.bytes

    was : MayHaveRecords layout S.records S.flight bytes
    unfolding bytes
    was = resting.images bytes (subst (λ reads. IsImage reads (g.may_leave disk)) stands.with.stands.told image)

    -- its header is the one that was asked for
    shape_is : shape_of book ≡ shape
    unfolding bytes
    shape_is =
        let some = some_bodies layout S.records S.flight bytes was in
        let here = bodies_content (shape_of book) (layout_of book) bytes bodies (laid_is (shape_of book) book.live)
        (reads_bodies g book bodies stands) in
        found ∙ ap (λ (h : Format). headed h shape)
        (one (shape_of book).header shape.header bytes bodies some.0
        (subst (λ (s : Shape). HasContent s bytes bodies) found here)
        (bodies_content shape layout bytes some.0 of_ some.1)).0

    now : HasBodies (layout_by shape book.live) bytes bodies
    unfolding bytes
    now = subst (λ (s : Shape). HasBodies (layout_by s book.live) bytes bodies) shape_is (reads_bodies g book bodies stands)

    pub there_loaded : AreThere (header_of layout) S bodies
    there_loaded =
        there shape one layout of_ S S.flight refl bytes bodies was
        (bodies_content shape (layout_by shape book.live) bytes bodies (laid_is shape book.live) now)

    -- the layout is the one that it had
    pub laid_loaded : layout_of book ≡ layout
    laid_loaded =
        let some = some_bodies layout S.records S.flight bytes was in
        ap (λ (s : Shape). layout_by s book.live) shape_is
        ∙ one_layout shape layout book.live bytes some.0 bodies of_ some.1 now

    -- behind the count of the bodies
    pub lies_settled : (catalog : Catalog) (i : SiteId) (kept : Option Record) → AreSpelled (header_of layout) catalog.sites S
        → S.up ≡ false
        → AreTold catalog i (settled catalog i kept S) → IfSome kept (IsFound S Restart)
        → length bodies ≡ length (settled catalog i kept S).records
        → LiesIn {g = g} catalog layout i (settled catalog i kept S) book bodies
    lies_settled catalog i kept spellings down told found count = record {
      down = settled_up catalog i S kept ∙ down;
      told = told;
      spellings = spelled_settled (header_of layout) catalog.sites catalog i S kept spellings
          (has_spelling (header_of layout) catalog.sites S kept spellings found);
      is = settled_there (header_of layout) catalog i S kept bodies there_loaded found count;
      laid = laid_loaded;
      stands = stands;
    }

  pub come_raised : (catalog : Catalog) (layout : Layout) (i : SiteId) (S : Standing) (kept : Option Record) (came : Came)
      (why : Option RefusedRestart) (engine : Engine D g) (book : Book D g) → layout_in engine ≡ layout
      → IfSome kept (IsFound S Restart) → Raises {g = g} catalog layout i (settled catalog i kept S) came why engine.machine book
      → engine.book ≡ book_if (is_up engine.machine) book → engine.disk ≡ disk_if {g = g} (is_up engine.machine) book
      → HasCome catalog layout i S Restart (record came { kept = kept }) why engine
  come_raised catalog layout i S kept came why engine book same found raises book_is disk_is = record {
    found = found;
    comes = ⊎_elim (λ refused. inl refused)
        (λ comes. inr (with_kept catalog layout i (settled catalog i kept S) Restart came kept comes)) raises.comes;
    stands = stands_left engine (stands_after catalog i (settled catalog i kept S) Restart came) book layout same raises.leaves book_is disk_is;
    last = raises.last;
    takes_none = λ down restart last.
        let none = raises.takes_none last in
        record { rest = none.rest; wrote = none.wrote; flight = none.flight };
  }

  pub leaves_loaded : (catalog : Catalog) (layout : Layout) (i : SiteId) (S : Standing) (kept : Option Record) (disk : D)
      (book : Book D g) (after : D) → IsOnDisk g layout S disk → IfSome kept (IsFound S Restart)
      → LeavesOnly g.moment g.left_since disk (disk_of book) (g.may_leave disk)
      → LeavesOnly g.moment g.left_since (disk_of book) after
      (MayHaveNext catalog layout i (settled catalog i kept S) Restart None)
      → LeavesOnly g.moment g.left_since disk after (MayHaveNext catalog layout i S Restart kept)
  leaves_loaded catalog layout i S kept disk book after resting found load run =
      joined g.moment g.left_since disk (disk_of book) after (MayHaveNext catalog layout i S Restart kept)
      (weaker g.moment g.left_since disk (disk_of book) (g.may_leave disk) (MayHaveNext catalog layout i S Restart kept)
      (λ image left. inl (resting.images image left)) load)
      (weaker g.moment g.left_since (disk_of book) after (MayHaveNext catalog layout i (settled catalog i kept S) Restart None)
      (MayHaveNext catalog layout i S Restart kept) (settled_next catalog layout i S Restart kept found) run)

  -- where it is refused, the bytes that the disk has are the cause
  pub refused_loaded : (catalog : Catalog) (shape : Shape) (i : SiteId) (disk after : D) (book : Book D g)
      (bodies : List (List ℕ)) (why : Option RefusedRestart) → shape_of book ≡ headed (shape_of book).header shape
      → shape.sites ≤ most_in (shape_of book).header
      → (IsSome (g.known disk).reads → StandsFor book bodies)
      → is_some (g.known (disk_of book)).reads ≡ is_some (g.known disk).reads
      → IfSome why (λ cause. (after ≡ disk_of book) × IsRefusedOver (shape_of book).header catalog i bodies cause)
      → IfSome (g.known after).reads (λ bytes. IfSome why (IsRefusedFor catalog shape i bytes))
  refused_loaded catalog shape i disk after book bodies None found places loaded tells over =
      always _ (g.known after).reads (λ bytes. tt)
  refused_loaded catalog shape i disk after book bodies (Some cause) found places loaded tells over =
      subst (λ (d : D). IfSome (g.known d).reads (λ bytes. IsRefusedFor catalog shape i bytes cause)) (sym over.0)
      (at (g.known (disk_of book)).reads refl)
    where
      at : (reads : Option (List ℕ)) → (g.known (disk_of book)).reads ≡ reads
          → IfSome reads (λ bytes. IsRefusedFor catalog shape i bytes cause)
      at None is = tt
      at (Some bytes) is =
          let stands = loaded (sym tells ∙ ap is_some is) in
          let named : Some stands.with.stands.bytes ≡ Some bytes = sym stands.with.stands.told ∙ is in
          let same : stands.with.stands.bytes ≡ bytes = cc in
          let content = bodies_content (shape_of book) (layout_of book) stands.with.stands.bytes bodies
          (laid_is (shape_of book) book.live) (reads_bodies g book bodies stands) in
          refused_for catalog shape i bytes bodies cause (record {
            header = (shape_of book).header;
            places = places;
            content = subst (λ (s : Shape). HasContent s bytes bodies) found
                (subst (λ b. HasContent (shape_of book) b bodies) same content);
          }) over.1

  -- ---- over a disk whose book was not loaded

  module _ (shape : Shape) (not_foreign : NotForeign shape) (not_damaged : NotDamaged shape) (layout : Layout)
      (of_ : IsLayoutOf shape layout) (S : Standing) (old new : D) (resting : IsOnDisk g layout S old)
      (tells : is_some (g.known new).reads ≡ is_some (g.known old).reads) where
    wrong : (P : List ℕ → Type 0) → ((bytes : List ℕ) (bodies : List (List ℕ)) → HasContent shape bytes bodies → P bytes → ⊥)
        → Finds P (g.may_leave old) (g.known old) (g.known new) → ⊥
    wrong P differ finds =
        not_wrong P (g.known new).reads (g.may_leave old)
        (λ bytes left is.
        let has = some_bodies layout S.records S.flight bytes (resting.images bytes left) in
        differ bytes has.0 (bodies_content shape layout bytes has.0 of_ has.1) is)
        (tells ∙ resting.told) finds.image finds.are

    -- what it comes to
    pub comes_unloaded : (catalog : Catalog) (i : SiteId) → S.up ≡ false → (why : JournalFault)
        → HasCause shape.capacity shape.sites why (g.may_leave old) (g.known old) (g.known new)
        → Comes catalog layout i S Restart (only (unloaded_by why).0) × ((unloaded_by why).1 ≡ None)
    comes_unloaded catalog i down fault.Failed cause = (
      Comes.unread refl down
          (record { outcome_is = refl; wrote = refl; flight_is = refl; sends = refl; dropped = refl }),
      refl,
    )
    comes_unloaded catalog i down fault.NoMemory cause = (
      Comes.no_memory (subst (λ up. TakesMemory up Restart) (sym down) tt)
          (record { outcome_is = refl; wrote = refl; flight_is = refl; sends = refl; dropped = refl }),
      refl,
    )
    comes_unloaded catalog i down fault.Foreign cause =
        absurd (wrong (IsForeign shape.capacity shape.sites) not_foreign cause)
    comes_unloaded catalog i down (fault.Damaged at claimed) cause =
        absurd (wrong (λ bytes. IsDamagedBook shape.capacity shape.sites bytes at claimed) (λ bytes bodies. not_damaged bytes bodies at claimed) cause)

    -- so the engine over its disk has come to this
    pub come_unloaded : (catalog : Catalog) (i : SiteId) (why : JournalFault) (came : Came)
        (refused : Option RefusedRestart) (engine : Engine D g) → S.up ≡ false
        → HasCause shape.capacity shape.sites why (g.may_leave old) (g.known old) (g.known new) → came ≡ only (unloaded_by why).0
        → refused ≡ (unloaded_by why).1 → Stands engine (stands_after catalog i S Restart came)
        → HasCome catalog layout i S Restart came refused engine
    come_unloaded catalog i why came refused engine down cause is_came is_refused stands =
        let comes = comes_unloaded catalog i down why cause in
        subst (λ (c : Came). HasCome catalog layout i S Restart c refused engine) (sym is_came)
        (subst (λ (r : Option RefusedRestart). HasCome catalog layout i S Restart (only (unloaded_by why).0) r engine)
        (sym (is_refused ∙ comes.1)) (record {
          found = tt;
          comes = inr comes.0;
          stands = subst (λ (c : Came). Stands engine (stands_after catalog i S Restart c)) is_came stands;
          last = tt;
          takes_none = λ down restart last. record { rest = (unloaded_is why).0; wrote = refl; flight = refl };
        }))

-- ---- over any disk that tells what it holds

module _ {D : Type 0} (g : Ghosts D) where
  -- one of its images was found
  found_told : SizeIs g → (old : D) (bytes : List ℕ) → (g.known old).reads ≡ Some bytes → 0 < (g.known old).size
      → bytes ≢ []
  found_told size_is old bytes told some none =
      absurd (omega (arith, some, size_told g size_is old bytes told, ap length none))

  pub restarts_unloaded : SizeIs g → (catalog : Catalog) (shape : Shape) (asked : Layout) (i : SiteId) (why : JournalFault)
      (old new : D) (came : Came) (refused : Option RefusedRestart)
      → is_some (g.known new).reads ≡ is_some (g.known old).reads
      → HasCause shape.capacity shape.sites why (g.may_leave old) (g.known old) (g.known new) → came.outcome ≡ (unloaded_by why).0
      → refused ≡ (unloaded_by why).1
      → IfSome (g.known old).reads (λ bytes. RestartsOver catalog shape asked i bytes (g.may_leave old) came refused)
  restarts_unloaded size_is catalog shape asked i why old new came refused tells cause is is_why =
      at (g.known old).reads (g.known new).reads refl refl why cause is is_why
    where
      at : (reads reads' : Option (List ℕ)) → (g.known old).reads ≡ reads → (g.known new).reads ≡ reads'
          → (w : JournalFault) → HasCause shape.capacity shape.sites w (g.may_leave old) (g.known old) (g.known new)
          → came.outcome ≡ (unloaded_by w).0 → refused ≡ (unloaded_by w).1
          → IfSome reads (λ bytes. RestartsOver catalog shape asked i bytes (g.may_leave old) came refused)
      at None reads' told told' w cause is is_why = tt
      at (Some bytes) reads' told told' fault.Failed cause is is_why = RestartsOver.hindered (inl is) is_why
      at (Some bytes) reads' told told' fault.NoMemory cause is is_why = RestartsOver.hindered (inr is) is_why
      at (Some bytes) None told told' fault.Foreign cause is is_why =
          absurd (let e = ap is_some (sym told') ∙ tells ∙ ap is_some told in cc)
      at (Some bytes) None told told' (fault.Damaged place claimed) cause is is_why =
          absurd (let e = ap is_some (sym told') ∙ tells ∙ ap is_some told in cc)
      at (Some bytes) (Some found) told told' fault.Foreign cause is is_why =
          RestartsOver.over_others found (found_told size_is old bytes told cause.not_new)
          (subst (λ r. IsImage r (g.may_leave old)) told' cause.image)
          (inl (is_why, subst (λ r. IfSome r (IsForeign shape.capacity shape.sites)) told' cause.are)) is
      at (Some bytes) (Some found) told told' (fault.Damaged place claimed) cause is is_why =
          RestartsOver.over_others found (found_told size_is old bytes told cause.not_new)
          (subst (λ r. IsImage r (g.may_leave old)) told' cause.image)
          (inr (place, claimed, is_why, subst (λ r. IfSome r (λ b. IsDamagedBook shape.capacity shape.sites b place claimed)) told' cause.are)) is

  pub restarts_loaded : SizeIs g → (catalog : Catalog) (shape : Shape) (asked : Layout) (i : SiteId) (disk : D)
      (book : Book D g) (bodies : List (List ℕ)) (came : Came) (why : Option RefusedRestart)
      → shape_of book ≡ headed (shape_of book).header shape → shape.sites ≤ most_in (shape_of book).header
      → (IsSome (g.known disk).reads → StandsFor book bodies) → ((g.known disk).size ≡ 0 → bodies ≡ [])
      → ((g.known disk).size ≡ 0 → layout_of book ≡ asked)
      → (0 < (g.known disk).size → IsImage (g.known (disk_of book)).reads (g.may_leave disk))
      → ComesOf (header_of (layout_of book)) catalog i (left_over (layout_of book) bodies) bodies
      came.wrote why came.outcome
      → IfSome (g.known disk).reads (λ bytes. RestartsOver catalog shape asked i bytes (g.may_leave disk) came why)
  restarts_loaded size_is catalog shape asked i disk book bodies came why found places loaded fresh new image comes =
      at (g.known disk).reads refl
    where
      at : (reads : Option (List ℕ)) → (g.known disk).reads ≡ reads
          → IfSome reads (λ bytes. RestartsOver catalog shape asked i bytes (g.may_leave disk) came why)
      at None told = tt
      at (Some []) told =
          let none = size_told g size_is disk [] told in
          RestartsOver.over_none refl
          (subst (λ b. ComesOf (header_of asked) catalog i (left_over asked b) b came.wrote why came.outcome) (fresh none)
          (subst (λ (l : Layout). ComesOf (header_of l) catalog i (left_over l bodies) bodies came.wrote why came.outcome) (new none) comes))
      at (Some (byte ∷ bytes)) told =
          let stands = loaded (ap is_some told) in
          let some = image (omega (arith, size_told g size_is disk (byte ∷ bytes) told)) in
          let header = (shape_of book).header in
          RestartsOver.over_book stands.with.stands.bytes header book.live bodies (λ e. absurd (cc))
          (subst (λ r. IsImage r (g.may_leave disk)) stands.with.stands.told some) places
          (subst (λ (s : Shape). HasBodies (layout_by s book.live) stands.with.stands.bytes bodies) found
          (reads_bodies g book bodies stands))
          (subst (λ (s : Shape). ComesOf header catalog i (left_over (layout_by s book.live) bodies) bodies came.wrote why came.outcome)
          found
          (subst (λ (h : Format). ComesOf h catalog i (left_over (layout_of book) bodies) bodies came.wrote why came.outcome)
          (laid_header (shape_of book) book.live) comes))
