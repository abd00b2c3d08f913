-- A book to which a body is added.
use Rattle.std.proofs.Common.{◌≡◌, inl, inr, ⊎_elim, ◌+◌, ◌≤◌, ℕ, List, [], ◌∷◌, ◌++◌, length, All, sym, ap, subst, ◌∙◌, arith, append_assoc, length-append}
use Rattle.std.proofs.lemmas.List.Sums.{sum_by-append}
use Rattle.walter_disk.specs.Images.{LeavesOnly}
use Rattle.walter_disk.specs.declared.disk.Disk.{Ghosts}
use Rattle.walter_disk.proofs.Moments.{weaker}
use Rattle.walter_journal.specs.Layout.{header_in, span_of, IsShort, HasBehind, IsBehindOrOneMore}
use Rattle.walter_journal.specs.Journals.{end_of, capacity_of, need_of}
use Rattle.walter_journal.specs.Journals as journal
use Rattle.walter_checkpoint.specs.Packs.{pack_of}
use Rattle.walter_checkpoint.specs.Areas.{Shape}
use Rattle.walter_checkpoint.specs.Books.{HasLaid, IsLaidBeforeOrBehind, disk_of, shape_of, left_of, limit_of, IsFront, IsWithin, StandsFor, StandsWith, Appends}
use Rattle.walter_checkpoint.specs.declared.book.Book.{Book}
use Rattle.walter_checkpoint.specs.declared.book.Live.{Live}
use Rattle.walter_checkpoint.specs.declared.book.Live.TheVariants.{Whole, A, B}
use Rattle.walter_checkpoint.proofs.Renewing.{content_two}

pub content_of : (shape : Shape) (live : Live) (packed behind : List (List ℕ)) (front bytes : List ℕ) → IsFront shape live packed front → All IsShort packed → IsWithin shape live packed behind → HasBehind front bytes behind
    → HasLaid live shape bytes (packed ++ behind)
content_of shape Whole packed behind front bytes is short within content =
    subst (λ l. HasBehind (header_in shape.header) bytes (l ++ behind)) (sym is.1) (subst (λ f. HasBehind f bytes behind) is.0 content)
content_of shape A packed behind front bytes is short within content = (content_two shape A packed behind front bytes (λ e. cc) is short within content).0
content_of shape B packed behind front bytes is short within content = (content_two shape B packed behind front bytes (λ e. cc) is short within content).0

span_more : (bodies : List (List ℕ)) (body : List ℕ) → span_of (bodies ++ body ∷ []) ≡ span_of bodies + need_of body
span_more bodies body = omega (arith, sum_by-append (λ body. 5 + length body) bodies (body ∷ []))

within_more : (shape : Shape) (live : Live) (packed behind : List (List ℕ)) (body front : List ℕ) → IsFront shape live packed front → IsWithin shape live packed behind → length front + span_of behind + need_of body ≤ limit_of shape live
    → IsWithin shape live packed (behind ++ body ∷ [])
within_more shape Whole packed behind body front is within le = tt
within_more shape A packed behind body front is within le = (within.0, omega (arith, ap length is.2, span_more behind body, le))
within_more shape B packed behind body front is within le = (within.0, omega (arith, ap length is.2, length-append is.0 (pack_of shape.sites packed), is.1, span_more behind body, le))

-- what a book reads, and what a crash leaves of it
pub reads_laid : {D : Type 0} {g : Ghosts D} (book : Book D g) (bodies : List (List ℕ)) (stands : StandsFor book bodies)
    → HasLaid book.live (shape_of book) stands.with.stands.bytes bodies
reads_laid book bodies stands =
    let with = stands.with in
    subst (λ l. HasLaid book.live (shape_of book) with.stands.bytes l) (sym stands.are)
    (content_of (shape_of book) book.live stands.packed stands.behind with.front with.stands.bytes with.is_front with.short with.within with.stands.content)

pub leaves_laid : {D : Type 0} {g : Ghosts D} (book : Book D g) (bodies : List (List ℕ)) (stands : StandsFor book bodies)
    (image : List ℕ) → g.may_leave (disk_of book) image → HasLaid book.live (shape_of book) image bodies
leaves_laid book bodies stands image left =
    subst (λ l. HasLaid book.live (shape_of book) l bodies) (sym (stands.with.stands.durable image left))
    (reads_laid book bodies stands)

module _ {D : Type 0} {g : Ghosts D} (old new : Book D g) (body : List ℕ) (fits : need_of body ≤ left_of old) where
  longer : (packed behind : List (List ℕ)) (stands : StandsWith old packed behind) → IsWithin (shape_of old) old.live packed (behind ++ body ∷ [])
  longer packed behind stands =
      within_more (shape_of old) old.live packed behind body stands.front stands.is_front stands.within (omega (arith, fits, stands.limit, stands.stands.end))

  pub adding : (bodies : List (List ℕ)) → StandsFor old bodies
      → ((front : List ℕ) (behind : List (List ℕ)) → journal.StandsBehind front old.journal behind → LeavesOnly g.moment g.left_since (disk_of old) (disk_of new) (IsBehindOrOneMore front behind body))
      → LeavesOnly g.moment g.left_since (disk_of old) (disk_of new) (IsLaidBeforeOrBehind old.live (shape_of old) bodies body)
  adding bodies stands run =
      let with = stands.with in
      let front = with.front in
      let same : stands.packed ++ (stands.behind ++ body ∷ []) ≡ bodies ++ body ∷ [] = sym (append_assoc stands.packed stands.behind (body ∷ [])) ∙ ap (λ l. l ++ body ∷ []) (sym stands.are) in
      weaker g.moment g.left_since (disk_of old) (disk_of new) _ _
      (λ image is. ⊎_elim
      (λ before. inl (subst (λ l. HasLaid old.live (shape_of old) image l) (sym stands.are) (content_of (shape_of old) old.live stands.packed stands.behind front image with.is_front with.short with.within before)))
      (λ more. inr (subst (λ l. HasLaid old.live (shape_of old) image l) same (content_of (shape_of old) old.live stands.packed (stands.behind ++ body ∷ []) front image with.is_front with.short (longer stands.packed stands.behind with) more)))
      is)
      (run front stands.behind with.stands)

  pub added : journal.Appends old.journal new.journal body
      → ((front : List ℕ) (bodies : List (List ℕ)) → journal.StandsBehind front old.journal bodies → journal.StandsBehind front new.journal (bodies ++ body ∷ [])) → shape_of new ≡ shape_of old → new.live ≡ old.live → capacity_of new.journal ≡ capacity_of old.journal → Appends old new body
  added did behind_front same live limit = record {
    fits = did.fits;
    whole = did.whole;
    faultless = did.faultless;
    left = omega (arith, limit, did.end);
    behind = λ packed behind stands. record {
      front = stands.front;
      is_front = subst (λ sh. IsFront sh new.live packed stands.front) (sym same) (subst (λ l. IsFront (shape_of old) l packed stands.front) (sym live) stands.is_front);
      short = stands.short;
      within = subst (λ sh. IsWithin sh new.live packed (behind ++ body ∷ [])) (sym same) (subst (λ l. IsWithin (shape_of old) l packed (behind ++ body ∷ [])) (sym live) (longer packed behind stands));
      limit = limit ∙ stands.limit ∙ ap (limit_of (shape_of old)) (sym live) ∙ ap (λ sh. limit_of sh new.live) (sym same);
      stands = behind_front stands.front behind stands.stands;
    };
  }

-- where nothing was done a crash leaves what it did
module _ {D : Type 0} {g : Ghosts D} (only_now : (disk : D) (image : List ℕ) → g.left_since disk (g.moment disk) image → g.may_leave disk image) (old new : Book D g) (body : List ℕ) where
  pub unmoved : (bodies : List (List ℕ)) → StandsFor old bodies → disk_of new ≡ disk_of old → LeavesOnly g.moment g.left_since (disk_of old) (disk_of new) (IsLaidBeforeOrBehind old.live (shape_of old) bodies body)
  unmoved bodies stands same =
      let with = stands.with in
      let had = subst (λ l. HasLaid old.live (shape_of old) with.stands.bytes l) (sym stands.are) (content_of (shape_of old) old.live stands.packed stands.behind with.front with.stands.bytes with.is_front with.short with.within with.stands.content) in
      subst (λ disk. LeavesOnly g.moment g.left_since (disk_of old) disk (IsLaidBeforeOrBehind old.live (shape_of old) bodies body)) (sym same)
      record {
        later = omega arith;
        each = λ image left. inl (subst (λ l. HasLaid old.live (shape_of old) l bodies) (sym (with.stands.durable image (only_now (disk_of old) image left))) had);
        before = λ t image le left. inl left;
      }

-- with its bodies, and the one behind them
pub stands_more : {D : Type 0} {g : Ghosts D} (old new : Book D g) (body : List ℕ) → Appends old new body → (bodies : List (List ℕ)) → StandsFor old bodies → StandsFor new (bodies ++ body ∷ [])
stands_more old new body did bodies stands = record {
  packed = stands.packed;
  behind = stands.behind ++ body ∷ [];
  are = ap (λ l. l ++ body ∷ []) stands.are ∙ append_assoc stands.packed stands.behind (body ∷ []);
  with = did.behind stands.packed stands.behind stands.with;
}
