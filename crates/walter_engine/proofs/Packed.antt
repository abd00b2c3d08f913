-- What a pack of all bodies leaves of a book.
use Rattle.std.proofs.Common.{◌≡◌, ◌≢◌, ℕ, ◌+◌, ◌-◌, List, [], ◌∷◌, ◌++◌, length, Option, Some, None, Result, Ok, Err, refl, ap, sym, ◌∙◌, subst, arith, append-nil, length-append}
use Rattle.std.specs.Prelude.{◌≤◌, true, false, is_err, IfSome, OnErr, OnOk}
use Rattle.walter_base.specs.declared.format.Format.{Format}
use Rattle.walter_base.specs.declared.message.Record.{Record}
use Rattle.walter_checkpoint.specs.Areas.{Shape}
use Rattle.walter_checkpoint.specs.Books.{disk_of, shape_of, calls_of_pack, left_of, front_length, limit_of, live_after, ChangesFrom, GoesOn, GoesOnBehind, StandsFor, HasRoom, HasRoomBehind}
use Rattle.walter_checkpoint.specs.Packs.{pack_of, renewed_by}
use Rattle.walter_checkpoint.specs.declared.book.Book.{Book}
use Rattle.walter_checkpoint.specs.declared.book.Live.{Live}
use Rattle.walter_checkpoint.specs.declared.book.Live.TheVariants.{Whole, A, B}
use Rattle.walter_disk.specs.Disks.{DiskState}
use Rattle.walter_disk.specs.declared.disk.Disk.{Ghosts}
use Rattle.walter_engine.specs.Effects.{AreCalls, AreCallsFor, AreCallsOfRestart}
use Rattle.walter_engine.specs.Raises.{IsPacked, calls_before}
use Rattle.walter_engine.specs.Restarts.{left_over}
use Rattle.walter_engine.specs.Stores.{layout_by, layout_of}
use Rattle.walter_engine.specs.Writings.{IsSameButRoom, IsSpellingIfAny, HasRoomIfAny}
use Rattle.walter_engine.proofs.Room.{IsFor}
use Rattle.walter_journal.specs.Journals.{capacity_of, end_of}
use Rattle.walter_journal.specs.Layout.{span_of, end_behind}
use Rattle.walter_rules.specs.declared.entry.Came.{Came}
use Rattle.walter_rules.specs.Layouts.{Layout}

-- by where an end is in front of a limit: of two areas, where none is behind the pack
left_at : (shape : Shape) (live : Live) (packed behind bodies : List (List ℕ)) (end limit : ℕ)
    → bodies ≡ packed ++ behind → (live ≡ Whole → packed ≡ []) → (live ≢ Whole → behind ≡ [])
    → end ≡ front_length shape live packed + span_of behind → limit ≡ limit_of shape live
    → limit - end ≡ left_over (layout_by shape live) bodies
left_at shape Whole packed behind bodies end limit are whole two end_is limit_is =
    omega (arith, end_is, limit_is, ap end_behind (are ∙ ap (λ p. p ++ behind) (whole refl)))
left_at shape A packed behind bodies end limit are whole two end_is limit_is =
    let none = two (λ is. absurd (cc)) in
    let all : bodies ≡ packed = are ∙ ap (λ l. packed ++ l) none ∙ append-nil packed in
    omega (arith, end_is, limit_is, ap span_of none, ap (λ b. length (renewed_by shape.sites b)) all, length-append (pack_of shape.sites packed) (0 ∷ []))
left_at shape B packed behind bodies end limit are whole two end_is limit_is =
    let none = two (λ is. absurd (cc)) in
    let all : bodies ≡ packed = are ∙ ap (λ l. packed ++ l) none ∙ append-nil packed in
    omega (arith, end_is, limit_is, ap span_of none, ap (λ b. length (renewed_by shape.sites b)) all, length-append (pack_of shape.sites packed) (0 ∷ []))

no_behind : (packed behind : List (List ℕ)) → [] ≡ packed ++ behind → behind ≡ []
no_behind [] behind are = sym are
no_behind (body ∷ packed) behind are = absurd (cc)

pub made : {T E P : Type 0} (r : Result T E) → is_err r ≡ false → OnOk r P → P
made (Ok x) ok holds = holds
made (Err e) ok holds = absurd (cc)

pub unmade : {T E P : Type 0} (r : Result T E) → is_err r ≡ true → OnErr r P → P
unmade (Ok x) err holds = absurd (cc)
unmade (Err e) err holds = holds

-- a layout is for as many sites as its book
pub for_shape : (shape : Shape) (live : Live) → IsFor shape.sites (layout_by shape live)
for_shape shape Whole = tt
for_shape shape A = refl
for_shape shape B = refl

-- ---- how many calls

calls_by : (wrote flight : Option Record) (mid new : ℕ) → AreCallsFor wrote flight mid new
    → IfSome wrote (λ rec. new ≡ mid + 4) × (new ≤ mid + 4)
calls_by (Some rec) flight mid new is = (is, omega (arith, is))
calls_by None (Some rec) mid new is = (tt, is)
calls_by None None mid new is = (tt, omega (arith, is))

-- those of a record behind so many
pub calls_behind : (came : Came) (before old mid new : ℕ) → mid ≡ old + before → AreCalls came mid new
    → AreCallsOfRestart came before old new
calls_behind came before old mid new more calls =
    let by = calls_by came.wrote came.flight mid new calls in
    record {
      all = subst (λ n. IfSome came.wrote (λ rec. new ≡ n + 4)) more by.0;
      at_most = omega (arith, by.1, more);
    }

-- another area doesn't make another layout
same_layout_after : (shape : Shape) (live : Live) → layout_by shape (live_after live) ≡ layout_by shape live
same_layout_after shape Whole = refl
same_layout_after shape A = refl
same_layout_after shape B = refl

module _ {D : Type 0} {g : Ghosts D} where
  pub calls_before_same : (old new : Book D g) → IsSameButRoom old new → (bodies : List (List ℕ))
      → calls_before new bodies ≡ calls_before old bodies
  calls_before_same old new same [] = refl
  calls_before_same old new same (body ∷ bodies) =
      ap (λ s. calls_of_pack s new.live (g.known (disk_of new)).size) same.book.shape
      ∙ ap (λ l. calls_of_pack (shape_of old) l (g.known (disk_of new)).size) same.book.live
      ∙ ap (λ (d : DiskState). calls_of_pack (shape_of old) old.live d.size) same.disk

  -- without bodies there is nothing to pack
  pub left_empty : (book : Book D g) (bodies : List (List ℕ)) → bodies ≡ [] → GoesOnBehind book bodies
      → left_of book ≡ left_over (layout_of book) bodies
  left_empty book bodies empty on =
      left_at (shape_of book) book.live on.packed on.behind bodies (end_of book.journal) (capacity_of book.journal)
      on.are on.whole (λ two. no_behind on.packed on.behind (sym empty ∙ on.are)) on.with.end on.with.limit

  pub layout_packed : (old new : Book D g) → shape_of new ≡ shape_of old → new.live ≡ live_after old.live
      → layout_of new ≡ layout_of old
  layout_packed old new shape live =
      ap (λ s. layout_by s new.live) shape ∙ ap (layout_by (shape_of old)) live
      ∙ same_layout_after (shape_of old) old.live

  left_changed : (old new : Book D g) (bodies : List (List ℕ)) (live : Live) → old.live ≡ live → GoesOnBehind old bodies
      → new.live ≡ live_after live → ChangesFrom live old new (GoesOn new bodies [])
      → left_of new ≡ left_over (layout_of new) bodies
  left_changed old new bodies Whole is on live changes =
      subst (λ (b : Book D g). left_of b ≡ left_over (layout_of b) bodies) (sym changes)
      (left_at (shape_of old) old.live on.packed on.behind bodies (end_of old.journal) (capacity_of old.journal)
      on.are on.whole (λ two. absurd (two is)) on.with.end on.with.limit)
  left_changed old new bodies A is on live changes =
      left_at (shape_of new) new.live bodies [] bodies (end_of new.journal) (capacity_of new.journal)
      (sym (append-nil bodies)) (λ whole. absurd (let e = sym live ∙ whole in cc)) (λ two. refl) changes.end changes.limit
  left_changed old new bodies B is on live changes =
      left_at (shape_of new) new.live bodies [] bodies (end_of new.journal) (capacity_of new.journal)
      (sym (append-nil bodies)) (λ whole. absurd (let e = sym live ∙ whole in cc)) (λ two. refl) changes.end changes.limit

  -- what is left behind all bodies that are packed
  pub left_packs : (old new : Book D g) (bodies : List (List ℕ)) → GoesOnBehind old bodies
      → shape_of new ≡ shape_of old → new.live ≡ live_after old.live
      → ChangesFrom old.live old new (GoesOn new bodies []) → left_of new ≡ left_over (layout_of old) bodies
  left_packs old new bodies on shape live changes =
      left_changed old new bodies old.live refl on live changes
      ∙ ap (λ (l : Layout). left_over l bodies) (layout_packed old new shape live)

  -- a book that is as before goes on behind the same bodies
  pub goes_on_same : (old new : Book D g) → IsSameButRoom old new → (bodies : List (List ℕ)) → GoesOnBehind old bodies
      → GoesOnBehind new bodies
  goes_on_same old new same bodies on = record {
    packed = on.packed;
    behind = on.behind;
    are = on.are;
    whole = λ is. on.whole (sym same.book.live ∙ is);
    with = same.book.goes_on on.packed on.behind on.with;
  }

  -- a record that was spelled for a book finds room in its pack
  pub spelled_packed : (format : Format) (old new : Book D g) (rec : Option Record) (body : Option (List ℕ))
      → IsSpellingIfAny format old rec body → HasRoomIfAny old body → ((n : ℕ) → HasRoomBehind old n → HasRoom new n)
      → IsSpellingIfAny format new rec body
  spelled_packed format old new None None spelled room packed = tt
  spelled_packed format old new None (Some body) spelled room packed = absurd spelled
  spelled_packed format old new (Some rec) None spelled room packed = absurd spelled
  spelled_packed format old new (Some rec) (Some body) spelled room packed =
      record { is = spelled.is; ranges = spelled.ranges; room = packed (length body) room }

  -- what a pack that was made leaves
  pub packed_is : {T E : Type 0} (made : Result T E) (old new : Book D g) (bodies : List (List ℕ))
      → GoesOnBehind old bodies → shape_of new ≡ shape_of old → OnOk made (new.live ≡ live_after old.live)
      → OnOk made (ChangesFrom old.live old new (GoesOn new bodies []))
      → (StandsFor old bodies → OnOk made (StandsFor new bodies))
      → ((n : ℕ) → HasRoomBehind old n → OnOk made (HasRoom new n))
      → OnOk made ((g.known (disk_of new)).faults ≡ (g.known (disk_of old)).faults)
      → OnOk made (IsPacked {g = g} old new bodies)
  packed_is (Ok x) old new bodies on shape live changes stands room faultless = record {
    layout = layout_packed old new shape live;
    left = left_packs old new bodies on shape live changes;
    stands = stands;
    room = room;
    faultless = faultless;
  }
  packed_is (Err e) old new bodies on shape live changes stands room faultless = tt
