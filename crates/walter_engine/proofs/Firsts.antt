-- A first restart: what it comes to over no records, and what a crash within it leaves.
use Rattle.std.proofs.Common.{◌≡◌, ℕ, ◌+◌, ◌<◌, ◌≤◌, List, [], ◌∷◌, length, map, false, Option, Some, None, Result, Ok, Err, refl, ap, sym, ◌∙◌, subst, inl, inr, ◌⊎◌, ⊎_elim, arith}
use Rattle.std.specs.Prelude.{◌≢◌, IfSome, IsSome, OnOk, is_ok}
use Rattle.std.proofs.lemmas.List.Elements.{All-nil}
use Rattle.walter_base.specs.declared.catalog.Catalog.{Catalog}
use Rattle.walter_base.specs.declared.format.Format.{Format}
use Rattle.walter_base.specs.declared.message.Record.{Record}
use Rattle.walter_base.specs.declared.names.SiteId.{SiteId}
use Rattle.walter_base.specs.Sizes.{most_in}
use Rattle.walter_disk.proofs.Moments.{weaker, joined}
use Rattle.walter_disk.specs.declared.disk.Disk.{Ghosts}
use Rattle.walter_disk.specs.Images.{Only, IsImage, LeavesOnly}
use Rattle.walter_engine.specs.declared.answers.BeginFault.{BeginFault}
use Rattle.walter_engine.specs.declared.answers.BeginFault.TheVariants as unbegun
use Rattle.walter_engine.specs.Begins.{HasOnly, BeginsBehind, MayHaveBegun, MayHaveBoot, IsBegun, IsFaultOfBegin, IsLaidOver}
use Rattle.walter_engine.specs.Contents.{HasBodies, HasBook, headed, MayHaveNext, spelled, HasSpellingThere}
use Rattle.walter_engine.specs.Effects.{IsRefusedOver}
use Rattle.walter_engine.specs.Firsts.{IsAnswerTo, IsBegunOver, MayHaveFirst, not_loaded_by}
use Rattle.walter_engine.specs.Raises.{LiesIn, Raises}
use Rattle.walter_engine.specs.Restarts.{ComesOf, left_over}
use Rattle.walter_engine.specs.Stores.{IsLeft, layout_by, layout_of}
use Rattle.walter_engine.specs.declared.answers.RefusedRestart.{RefusedRestart}
use Rattle.walter_engine.specs.declared.answers.RefusedRestart.TheVariants as refused
use Rattle.walter_engine.proofs.Resting.{SizeIs, size_told, reads_bodies}
use Rattle.walter_engine.proofs.Laid.{bodies_content, laid_is}
use Rattle.walter_checkpoint.specs.Areas.{Shape, HasContent, IsForeign}
use Rattle.walter_checkpoint.specs.Books.{disk_of, shape_of, StandsFor}
use Rattle.walter_checkpoint.specs.Faults.{HasCause, IsDamagedBook}
use Rattle.walter_checkpoint.specs.Loads.{new_size}
use Rattle.walter_checkpoint.specs.declared.book.Book.{Book}
use Rattle.walter_checkpoint.specs.declared.book.Live.{Live}
use Rattle.walter_checkpoint.specs.declared.book.Live.TheVariants.{Whole, A, B}
use Rattle.walter_journal.specs.declared.fault.JournalFault.{JournalFault}
use Rattle.walter_journal.specs.declared.fault.JournalFault.TheVariants as fault
use Rattle.walter_disk.specs.Disks.{DiskState}
use Rattle.walter_machine.proofs.Records.{told_unmade}
use Rattle.walter_machine.specs.declared.machine.Machine.{Machine}
use Rattle.walter_machine.specs.Comings.{is_faulty, RisesIf}
use Rattle.walter_rules.specs.declared.entry.Came.{Came}
use Rattle.walter_rules.specs.declared.event.Event.TheVariants.{Restart}
use Rattle.walter_rules.specs.declared.outcome.Outcome.{Outcome}
use Rattle.walter_rules.specs.declared.outcome.Outcome.TheVariants.{Taken, Failed, Full, Memory, Refused}
use Rattle.walter_rules.specs.Knowledge.{fresh}
use Rattle.walter_rules.specs.Layouts.{Layout}
use Rattle.walter_rules.specs.Records.{replayed}
use Rattle.walter_rules.specs.Standing.{unmade, stands_after, up_after}
use Rattle.walter_rules.specs.Trails.{Comes, IsFound, standing, opening}

pub no_items : {A : Type 0} (xs : List A) → length xs ≡ 0 → xs ≡ []
no_items [] none = refl
no_items (x ∷ xs) none = absurd (omega arith)

-- no records tell of no epoch
none_last : (header : Format) (catalog : Catalog) (i : SiteId) (records : List Record) → spelled header records ≡ []
    → (replayed catalog i fresh records).epoch ≡ 4294967295 → ⊥
none_last header catalog i [] none last = omega (arith, last)
none_last header catalog i (rec ∷ records) none last = absurd (cc)

-- a restart over no bodies isn't refused
pub not_refused : (header : Format) (catalog : Catalog) (i : SiteId) (bodies : List (List ℕ)) (why : RefusedRestart)
    → bodies ≡ [] → IsRefusedOver header catalog i bodies why → ⊥
not_refused header catalog i bodies refused.Foreign none over = over
not_refused header catalog i bodies (refused.Damaged at length) none over = over
not_refused header catalog i bodies (refused.Unreadable index) none over = let within = over.within in cc
not_refused header catalog i bodies refused.LastEpoch none over =
    none_last header catalog i over.0 (sym over.1.spell ∙ none) over.2

-- nothing is in flight before the first event
pub none_kept : (kept : Option Record) → IfSome kept (IsFound unmade Restart) → kept ≡ None
none_kept None found = refl
none_kept (Some rec) found = absurd (let none = found.in_flight in cc)

-- a book without bodies is that of a site before its first event
pub lies_unmade : {D : Type 0} {g : Ghosts D} (catalog : Catalog) (i : SiteId) (book : Book D g)
    (bodies : List (List ℕ)) → bodies ≡ [] → StandsFor book bodies
    → LiesIn {g = g} catalog (layout_of book) i unmade book bodies
lies_unmade catalog i book bodies none stands = record {
  down = refl;
  told = told_unmade catalog i;
  spellings = record { records = All-nil (HasSpellingThere catalog.sites); flight = tt };
  is = none;
  laid = refl;
  stands = stands;
}

-- where a new site comes up, its trail begins
pub opens : (catalog : Catalog) (layout : Layout) (i : SiteId) (came : Came) → came.kept ≡ None → came.sends ≡ []
    → came.dropped ≡ 0 → came.outcome ≡ Taken → (came.outcome ≡ Refused) ⊎ Comes catalog layout i unmade Restart came
    → came ≡ opening.came
opens catalog layout i came kept sends dropped taken (inl refused) = absurd (let e = sym taken ∙ refused in cc)
opens catalog layout i came kept sends dropped taken (inr (Comes.ruled fits is)) = λ j. record {
  outcome = taken j;
  kept = kept j;
  wrote = is.wrote j;
  flight = is.flight j;
  sends = sends j;
  dropped = dropped j;
}
opens catalog layout i came kept sends dropped taken (inr (Comes.met_fault rec brings fits is)) =
    absurd (let e = sym taken ∙ is.outcome_is in cc)
opens catalog layout i came kept sends dropped taken (inr (Comes.unread restart down is)) =
    absurd (let e = sym taken ∙ is.outcome_is in cc)
opens catalog layout i came kept sends dropped taken (inr (Comes.no_memory takes is)) =
    absurd (let e = sym taken ∙ is.outcome_is in cc)
opens catalog layout i came kept sends dropped taken (inr (Comes.full rec brings less is)) =
    absurd (let e = sym taken ∙ is.outcome_is in cc)

-- ---- what is answered

-- what a restart over no bodies came to can be answered
pub can_answer : (header : Format) (catalog : Catalog) (i : SiteId) (left : ℕ) (bodies : List (List ℕ)) (wrote : Option Record)
    (why : Option RefusedRestart) (outcome : Outcome) → 10 ≤ left → bodies ≡ []
    → ComesOf header catalog i left bodies wrote why outcome → (answer : Result (Unit {0}) BeginFault) × IsAnswerTo outcome answer
can_answer header catalog i left bodies wrote why Taken place none over = (Ok tt, refl)
can_answer header catalog i left bodies wrote why Failed place none over = (Err unbegun.Failed, refl)
can_answer header catalog i left bodies wrote why Memory place none over = (Err unbegun.NoMemory, refl)
can_answer header catalog i left bodies wrote why (Full need free) place none over = absurd (omega (arith, place, over.2))
can_answer header catalog i left bodies wrote why Refused place none over =
    absurd (not_refused header catalog i bodies over.0 none over.2)
can_answer header catalog i left bodies wrote why outcome place none over = absurd over

pub answer_up : (outcome : Outcome) (answer : Result (Unit {0}) BeginFault) → IsAnswerTo outcome answer
    → up_after Restart outcome false ≡ is_ok answer
answer_up Taken answer is = sym (ap is_ok is)
answer_up Failed answer is = sym (ap is_ok is)
answer_up Memory answer is = sym (ap is_ok is)
answer_up outcome answer is = absurd is

pub answer_begun : (bodies : List (List ℕ)) → bodies ≡ [] → (outcome : Outcome) (answer : Result (Unit {0}) BeginFault)
    → IsAnswerTo outcome answer → IsBegunOver bodies answer
answer_begun bodies none Taken answer is = subst (λ a. IsBegunOver bodies a) (sym is) none
answer_begun bodies none Failed answer is = subst (λ a. IsBegunOver bodies a) (sym is) none
answer_begun bodies none Memory answer is = subst (λ a. IsBegunOver bodies a) (sym is) none
answer_begun bodies none outcome answer is = absurd is

pub answer_faults : (outcome : Outcome) (answer : Result (Unit {0}) BeginFault) (old new : ℕ) → IsAnswerTo outcome answer
    → RisesIf (is_faulty outcome) old new → IsFaultOfBegin answer old new
answer_faults Taken answer old new is rises = subst (λ a. IsFaultOfBegin a old new) (sym is) rises
answer_faults Failed answer old new is rises = subst (λ a. IsFaultOfBegin a old new) (sym is) rises
answer_faults Memory answer old new is rises = subst (λ a. IsFaultOfBegin a old new) (sym is) rises
answer_faults outcome answer old new is rises = absurd is

-- what is so where it was taken is so where the answer is Ok
pub answer_taken : (P : Type 0) (outcome : Outcome) (answer : Result (Unit {0}) BeginFault) → IsAnswerTo outcome answer
    → (outcome ≡ Taken → P) → OnOk answer P
answer_taken P Taken answer is so = subst (λ a. OnOk a P) (sym is) (so refl)
answer_taken P Failed answer is so = subst (λ a. OnOk a P) (sym is) tt
answer_taken P Memory answer is so = subst (λ a. OnOk a P) (sym is) tt
answer_taken P outcome answer is so = absurd is

pub calls_written : (wrote : Option Record) (before old new : ℕ) → IsSome wrote → before ≡ 0
    → IfSome wrote (λ rec. new ≡ old + before + 4) → new ≡ old + 4
calls_written (Some rec) before old new some none calls = omega (arith, none, calls)
calls_written None before old new some none calls = absurd (cc)

-- it is up in its first epoch
pub first_left : {D : Type 0} {g : Ghosts D} (catalog : Catalog) (layout : Layout) (i : SiteId) (came : Came)
    (why : Option RefusedRestart) (m : Machine) (book : Book D g) → came.kept ≡ None → came.sends ≡ []
    → came.dropped ≡ 0 → Raises {g = g} catalog layout i unmade came why m book → came.outcome ≡ Taken
    → IsLeft {g = g} layout m (standing catalog i (opening ∷ [])) book
first_left {g = g} catalog layout i came why m book kept sends dropped raises taken =
    subst (λ (c : Came). IsLeft {g = g} layout m (stands_after catalog i unmade Restart c) book)
    (opens catalog layout i came kept sends dropped taken raises.comes) raises.leaves

-- ---- over a disk

found_is : (P : List ℕ → Type 0) (reads : Option (List ℕ)) (images : List ℕ → Type 0) (bytes : List ℕ) → Only bytes images
    → IsSome reads → IsImage reads images → IfSome reads P → P bytes
found_is P None images bytes only told image are = absurd (cc)
found_is P (Some b) images bytes only told image are = subst P (only b image) are

-- what is answered where no journal was loaded
pub begun_unloaded : (shape : Shape) (why : JournalFault) (bytes : List ℕ) (images : List ℕ → Type 0) (old new : DiskState)
    → HasCause shape.capacity shape.sites why images old new → Only bytes images → old.size ≡ length bytes → IsSome new.reads
    → IsBegun shape bytes (Err (not_loaded_by why))
begun_unloaded shape fault.Failed bytes images old new cause only size told = tt
begun_unloaded shape fault.NoMemory bytes images old new cause only size told = tt
begun_unloaded shape fault.Foreign bytes images old new cause only size told = (
  found_is (IsForeign shape.capacity shape.sites) new.reads images bytes only told cause.image cause.are,
  λ none. absurd (omega (arith, cause.not_new, size, ap length none)),
)
begun_unloaded shape (fault.Damaged at length) bytes images old new cause only size told =
    found_is (λ b. IsDamagedBook shape.capacity shape.sites b at length) new.reads images bytes only told cause.image cause.are

pub unbegun_faults : (capacity sites : ℕ) (why : JournalFault) (images : List ℕ → Type 0) (old new : DiskState)
    → HasCause capacity sites why images old new
    → IsFaultOfBegin (Err (not_loaded_by why)) old.faults new.faults
unbegun_faults capacity sites fault.Failed images old new cause = cause
unbegun_faults capacity sites fault.NoMemory images old new cause = cause
unbegun_faults capacity sites fault.Foreign images old new cause = cause.faultless
unbegun_faults capacity sites (fault.Damaged at length) images old new cause = cause.faultless

-- what is answered over bodies
pub begun_over : (shape : Shape) (bytes : List ℕ) (bodies : List (List ℕ)) (answer : Result (Unit {0}) BeginFault)
    → HasBook shape bytes bodies ⊎ ((bytes ≡ []) × (bodies ≡ [])) → IsBegunOver bodies answer
    → IsBegun shape bytes answer
begun_over shape bytes bodies (Ok done) (inl has) is = inr (subst (λ b. HasBook shape bytes b) is has)
begun_over shape bytes bodies (Ok done) (inr none) is = inl none.0
begun_over shape bytes bodies (Err unbegun.Failed) has is = tt
begun_over shape bytes bodies (Err unbegun.Foreign) has is = absurd is
begun_over shape bytes bodies (Err (unbegun.Damaged at length)) has is = absurd is
begun_over shape bytes bodies (Err unbegun.Used) (inl has) is = (bodies, has, is)
begun_over shape bytes bodies (Err unbegun.Used) (inr none) is = absurd (is none.1)
begun_over shape bytes bodies (Err unbegun.NoMemory) has is = tt

-- a Boot finds its place in a new book
pub has_place : (shape : Shape) (live : Live) → 19 ≤ shape.capacity → (live ≢ Whole → 47 ≤ shape.capacity)
    → 10 ≤ left_over (layout_by shape live) []
has_place shape Whole most least = omega (arith, most)
has_place shape A most least = (let l = least (λ e. cc) in omega (arith, l))
has_place shape B most least = (let l = least (λ e. cc) in omega (arith, l))

pub on_ok_so : {T E : Type 0} (r : Result T E) (P Q : Type 0) → (P → Q) → OnOk r P → OnOk r Q
on_ok_so (Ok x) P Q so p = so p
on_ok_so (Err e) P Q so p = tt

-- it begins over no bodies
pub on_begun : (bodies : List (List ℕ)) (result : Result (Unit {0}) BeginFault) (P : Type 0) → IsBegunOver bodies result
    → (bodies ≡ [] → P) → OnOk result P
on_begun bodies (Ok done) P begun so = so begun
on_begun bodies (Err fault) P begun so = tt

-- a load, with what it leaves
module _ {D : Type 0} {g : Ghosts D} (size_is : SizeIs g) (shape : Shape) (areas : ℕ) (disk mid : D) (bytes : List ℕ)
    (only : HasOnly g bytes disk)
    (first : (g.known disk).size ≡ 0 → Only [] (g.may_leave disk)
    → LeavesOnly g.moment g.left_since disk mid (λ image. length image ≤ new_size shape areas))
    (load : 0 < (g.known disk).size → LeavesOnly g.moment g.left_since disk mid (g.may_leave disk)) where
  pub size_here : (g.known disk).size ≡ length bytes
  size_here = size_told g size_is disk bytes only.told

  pub leaves_load : LeavesOnly g.moment g.left_since disk mid (MayHaveBegun shape areas bytes)
  leaves_load = by bytes refl
    where
      by : (b : List ℕ) → bytes ≡ b → LeavesOnly g.moment g.left_since disk mid (MayHaveBegun shape areas bytes)
      by [] new =
          weaker g.moment g.left_since disk mid (λ image. length image ≤ new_size shape areas) (MayHaveBegun shape areas bytes)
          (λ image few. inr (inl (new, few)))
          (first (size_here ∙ ap length new) (subst (λ b. Only b (g.may_leave disk)) new only.only))
      by (b ∷ bs) is =
          let some : 0 < (g.known disk).size = omega (arith, size_here, ap length is) in
          weaker g.moment g.left_since disk mid (g.may_leave disk) (MayHaveBegun shape areas bytes)
          (λ image left. inl (only.only image left)) (load some)

-- a book that was loaded
module _ {D : Type 0} {g : Ghosts D} (size_is : SizeIs g) (shape : Shape) (areas : ℕ) (disk : D) (book : Book D g)
    (shape_is : shape_of book ≡ headed (shape_of book).header shape) (places : shape.sites ≤ most_in (shape_of book).header)
    (new : (g.known disk).size ≡ 0 → (shape_of book).header ≡ shape.header) (loaded slice : List (List ℕ)) (bytes : List ℕ) (only : HasOnly g bytes disk)
    (stands : StandsFor book slice) (same : slice ≡ loaded) (fresh : (g.known disk).size ≡ 0 → loaded ≡ [])
    (image : 0 < (g.known disk).size → IsImage (g.known (disk_of book)).reads (g.may_leave disk)) where
  abbrev reads : List ℕ
  reads = stands.with.stands.bytes

  -- it has the bytes of the disk, or those were none
  has_same : (reads ≡ bytes) ⊎ ((bytes ≡ []) × (slice ≡ []))
  has_same = by bytes refl
    where
      size : (g.known disk).size ≡ length bytes
      size = size_told g size_is disk bytes only.told

      by : (b : List ℕ) → bytes ≡ b → (reads ≡ bytes) ⊎ ((bytes ≡ []) × (slice ≡ []))
      by [] new = inr (new, same ∙ fresh (size ∙ ap length new))
      by (b ∷ bs) is =
          let some : 0 < (g.known disk).size = omega (arith, size, ap length is) in
          inl (only.only reads (subst (λ reads. IsImage reads (g.may_leave disk)) stands.with.stands.told (image some)))

  laid : HasBodies (layout_of book) reads slice
  laid = reads_bodies g book slice stands

  content : HasContent (headed (shape_of book).header shape) reads slice
  content =
      subst (λ (s : Shape). HasContent s reads slice) shape_is
      (bodies_content (shape_of book) (layout_of book) reads slice (laid_is (shape_of book) book.live) laid)

  pub content_or_new : HasBook shape bytes slice ⊎ ((bytes ≡ []) × (slice ≡ []))
  content_or_new =
      ⊎_elim
      (λ is. inl (record {
        header = (shape_of book).header;
        places = places;
        content = subst (λ b. HasContent (headed (shape_of book).header shape) b slice) is content;
      }))
      (λ made. inr made) has_same

  -- and is laid out as these are, or as was asked for
  pub laid_over : (asked : Layout) → slice ≡ [] → ((g.known disk).size ≡ 0 → layout_of book ≡ asked)
      → IsLaidOver bytes asked (layout_of book)
  laid_over asked none made_so =
      ⊎_elim (λ is. inr (subst (λ l. HasBodies (layout_of book) bytes l) none
      (subst (λ b. HasBodies (layout_of book) b slice) is laid)))
      (λ made. inl (made.0, made_so (size_told g size_is disk bytes only.told ∙ ap length made.0))) has_same

  -- its header is that of the bytes, or the one that was asked for
  behind : slice ≡ [] → (reads ≡ bytes) ⊎ ((bytes ≡ []) × (slice ≡ [])) → BeginsBehind shape bytes (shape_of book).header
  behind none (inl same) =
      inr (
        places,
        subst (λ bodies. HasContent (headed (shape_of book).header shape) bytes bodies) none
            (subst (λ b. HasContent (headed (shape_of book).header shape) b slice) same content),
      )
  behind none (inr made) = inl (made.0, new (size_told g size_is disk bytes only.told ∙ ap length made.0))

  first_may : (reads ≡ bytes) ⊎ ((bytes ≡ []) × (slice ≡ [])) → (image : List ℕ)
      → MayHaveFirst (headed (shape_of book).header shape) reads slice image → MayHaveBegun shape areas bytes image
  first_may (inl same) image (inl is) = inl (is ∙ same)
  first_may (inl same) image (inr has) = inr (inr ((shape_of book).header, behind has.0 (inl same), has.1))
  first_may (inr made) image (inl is) =
      inr (inr (
        (shape_of book).header,
        behind made.1 (inr made),
        inl (subst (λ b. HasContent (headed (shape_of book).header shape) b []) (sym is)
            (subst (λ bodies. HasContent (headed (shape_of book).header shape) reads bodies) made.1 content)),
      ))
  first_may (inr made) image (inr has) = inr (inr ((shape_of book).header, behind has.0 (inr made), has.1))

  -- a crash within it leaves the bytes, or the first ones of a book, or no record, or the first Boot
  pub leaves_begun : (after : D) → LeavesOnly g.moment g.left_since disk (disk_of book) (MayHaveBegun shape areas bytes)
      → LeavesOnly g.moment g.left_since (disk_of book) after (MayHaveFirst (shape_of book) reads slice)
      → LeavesOnly g.moment g.left_since disk after (MayHaveBegun shape areas bytes)
  leaves_begun after load run =
      joined g.moment g.left_since disk (disk_of book) after (MayHaveBegun shape areas bytes) load
      (weaker g.moment g.left_since (disk_of book) after (MayHaveFirst (shape_of book) reads slice)
      (MayHaveBegun shape areas bytes)
      (λ image may.
      first_may has_same image (subst (λ (s : Shape). MayHaveFirst s reads slice image) shape_is may)) run)

-- what a crash within a restart over no bodies leaves, in the words of a first restart
pub first_next : (shape : Shape) (catalog : Catalog) (live : Live) (i : SiteId) (image : List ℕ)
    → MayHaveNext catalog (layout_by shape live) i unmade Restart None image → MayHaveBoot shape image
first_next shape catalog live i image (inl none) =
    inl (bodies_content shape (layout_by shape live) image [] (laid_is shape live) none)
first_next shape catalog live i image (inr boot) =
    inr (bodies_content shape (layout_by shape live) image _ (laid_is shape live) boot)
