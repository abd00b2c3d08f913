-- A book on a disk while it begins anew.
use Rattle.std.proofs.Common.{false, ◌≡◌, ◌≢◌, inl, inr, ◌+◌, ◌-◌, ◌≤◌, ℕ, List, [], ◌∷◌, ◌++◌, length, take, drop, get_or, slice_get, All, Option, None, Some, option_map, refl, sym, ap, subst, ◌∙◌, arith, append_assoc, length-append}
use Rattle.std.specs.Prelude.{IfSome}
use Rattle.walter_disk.specs.Disks.{DiskState, laid, written}
use Rattle.walter_disk.specs.Images.{Torn, Only, IsDurable, LeavesOnly}
use Rattle.walter_disk.specs.declared.disk.Disk.{Ghosts}
use Rattle.walter_journal.specs.Layout.{span_of, IsShort}
use Rattle.walter_journal.specs.Zeros.{filled, filled_disk, writes_of, Grows}
use Rattle.walter_disk.proofs.Moments.{weaker, joined}
use Rattle.walter_journal.specs.Journals.{end_of, capacity_of}
use Rattle.std.proofs.Math.Seq.{get_or-append_seam}
use Rattle.std.proofs.lemmas.List.{append-nil, length-take}
use Rattle.std.proofs.lemmas.Option.{slice_get-get_or}
use Rattle.std.proofs.lemmas.List.Elements.{All-append}
use Rattle.walter_journal.proofs.Appending.{told_behind, only_behind}
use Rattle.walter_checkpoint.specs.Packs.{pack_of, renewed_by}
use Rattle.walter_checkpoint.specs.Areas.{Shape, area_size, HasTwo, HasBoth, IsAside}
use Rattle.walter_checkpoint.specs.Books.{HasLaid, disk_of, shape_of, other_place, limit_of, front_length, switch_of, calls_of_pack, IsFront, IsWithin, IsOther, IsReady, HasRoomOn, HasBeenWritten, GoesOn, StandsFor, StandsWith, ChangesFrom}
use Rattle.walter_checkpoint.specs.declared.book.Book.{Book}
use Rattle.walter_checkpoint.specs.declared.book.Live.{Live}
use Rattle.walter_checkpoint.specs.declared.book.Live.TheVariants.{Whole, A, B}
use Rattle.walter_checkpoint.specs.declared.book.Other.{Other}
use Rattle.walter_checkpoint.proofs.Renewing.{IsSide, content_two, other_aside, IsRenewed, renewed_at}
use Rattle.walter_checkpoint.proofs.Switching.{torn_aside, torn_switch, both_two, grown_past, grown_none, filled_grows, length-filled, laid_both}

within_of : (shape : Shape) (live : Live) (bodies : List (List ℕ)) → 47 ≤ shape.capacity → length (pack_of shape.sites bodies) + span_of [] ≤ area_size shape → IsWithin shape live bodies []
within_of shape Whole bodies least le = tt
within_of shape A bodies least le = (least, le)
within_of shape B bodies least le = (least, le)

limit_other : (shape : Shape) (live : Live) (other : Other) → IsOther live (area_size shape) other → other.at + area_size shape ≡ limit_of shape other.live
limit_other shape live other (inl a) = ap (λ n. n + area_size shape) a.1 ∙ sym (ap (limit_of shape) a.3)
limit_other shape live other (inr b) = ap (λ n. n + area_size shape) b.1 ∙ sym (ap (limit_of shape) b.3)

two_laid : (shape : Shape) (live : Live) (image : List ℕ) (bodies : List (List ℕ)) → live ≢ Whole
    → HasTwo shape image bodies → HasLaid live shape image bodies
two_laid shape Whole image bodies not_whole has = absurd (not_whole refl)
two_laid shape A image bodies not_whole has = has
two_laid shape B image bodies not_whole has = has

pub changes : {D : Type 0} {g : Ghosts D} (live : Live) (old new : Book D g) (P : Type 0) → live ≢ Whole → P → ChangesFrom live old new P
changes Whole old new P not_whole is = absurd (not_whole refl)
changes A old new P not_whole is = is
changes B old new P not_whole is = is

-- a book whose bodies are all packed stands for them
pub stands_packed : {D : Type 0} {g : Ghosts D} (live : Live) (old new : Book D g) (bodies : List (List ℕ)) → live ≢ Whole → ChangesFrom live old new (StandsWith new bodies []) → StandsFor new bodies
stands_packed Whole old new bodies not_whole is = absurd (not_whole refl)
stands_packed A old new bodies not_whole is = record { packed = bodies; behind = []; are = sym (append-nil bodies); with = is }
stands_packed B old new bodies not_whole is = record { packed = bodies; behind = []; are = sym (append-nil bodies); with = is }

size_told : (reads : Option (List ℕ)) (bytes : List ℕ) (size : ℕ) → reads ≡ Some bytes → IfSome reads (λ bytes. size ≡ length bytes) → size ≡ length bytes
size_told reads bytes size told is = subst (λ o. IfSome o (λ bytes. size ≡ length bytes)) told is

-- the other area's place, by cases and by the part that is live
pub other_is : (shape : Shape) (live : Live) (other : Other) → IsOther live (area_size shape) other → other.at ≡ other_place shape live
other_is shape live other (inl a) = a.1 ∙ sym (ap (other_place shape) a.0)
other_is shape live other (inr b) = b.1 ∙ sym (ap (other_place shape) b.0)

-- how many calls a pack makes, by cases
pub calls_are : (shape : Shape) (live : Live) (other : Other) (size : ℕ) → 9 ≤ size → live ≢ Whole → IsOther live (area_size shape) other → calls_of_pack shape live size ≡ writes_of (other.at - size) + 4
calls_are shape live other size long not_whole (inl a) = ap (λ l. calls_of_pack shape l size) a.0 ∙ ap (λ n. writes_of (n - size) + 4) (sym a.1)
calls_are shape live other size long not_whole (inr b) = ap (λ l. calls_of_pack shape l size) b.0 ∙ omega (arith, b.1, long)

-- the switch byte that is written, on a disk that reaches behind the header
pub switch_is : (size : ℕ) (live : Live) (other : Other) (mid new : DiskState) → IsOther live size other → 9 ≤ mid.size
    → IfSome mid.reads (λ bytes. mid.size ≡ length bytes) → new ≡ written 8 (other.switch ∷ []) mid → IfSome new.reads (λ bytes. slice_get bytes 8 ≡ Some (switch_of other.live))
switch_is size live other mid new is long told done = subst (λ (disk : DiskState). Tells disk.reads) (sym done) (by mid.reads told)
  where
    Tells : Option (List ℕ) → Type 0
    Tells reads = IfSome reads (λ bytes. slice_get bytes 8 ≡ Some (switch_of other.live))

    switch : IsOther live size other → other.switch ≡ switch_of other.live
    switch (inl a) = a.2 ∙ sym (ap switch_of a.3)
    switch (inr b) = b.2 ∙ sym (ap switch_of b.3)

    by : (reads : Option (List ℕ)) → IfSome reads (λ bytes. mid.size ≡ length bytes) → Tells (option_map (laid 8 (other.switch ∷ [])) reads)
    by None none = tt
    by (Some bytes) size_is =
        let head : length (take 8 bytes) ≡ 8 = omega (arith, length-take 8 bytes, size_is, long) in
        let rest = other.switch ∷ drop (8 + length (other.switch ∷ [])) bytes in
        ap (λ l. slice_get l 8) (append_assoc (take 8 bytes) (other.switch ∷ []) (drop (8 + length (other.switch ∷ [])) bytes))
        ∙ slice_get-get_or (take 8 bytes ++ rest) 8 0 (omega (arith, head, length-append (take 8 bytes) rest))
        ∙ ap Some (ap (λ n. get_or (take 8 bytes ++ rest) n 0) (sym head) ∙ get_or-append_seam (take 8 bytes) other.switch (drop (8 + length (other.switch ∷ [])) bytes) 0 ∙ switch is)

-- where the book goes on behind the pack
pub goes_on : {D : Type 0} {g : Ghosts D} (old new : Book D g) (bodies : List (List ℕ)) (other : Other) → IsOther old.live (area_size (shape_of old)) other → shape_of new ≡ shape_of old → new.live ≡ other.live
    → end_of new.journal ≡ other.at + length old.renewal.items → capacity_of new.journal ≡ other.at + area_size (shape_of old) → old.renewal.items ≡ renewed_by old.sites bodies → GoesOn new bodies []
goes_on old new bodies other is same live end limit ready = record {
  end = end ∙ place is ∙ sym (ap (λ l. front_length (shape_of old) l bodies + span_of []) live) ∙ ap (λ sh. front_length sh new.live bodies + span_of []) (sym same);
  limit = limit ∙ limit_other (shape_of old) old.live other is ∙ ap (limit_of (shape_of old)) (sym live) ∙ ap (λ sh. limit_of sh new.live) (sym same);
}
  where
    size : length old.renewal.items ≡ length (pack_of old.sites bodies) + 1
    size = ap length ready ∙ length-append (pack_of old.sites bodies) (0 ∷ [])

    place : IsOther old.live (area_size (shape_of old)) other → other.at + length old.renewal.items ≡ front_length (shape_of old) other.live bodies + span_of []
    place (inl a) = ap (λ n. n + length old.renewal.items) a.1 ∙ omega (arith, size) ∙ sym (ap (λ l. front_length (shape_of old) l bodies + span_of []) a.3)
    place (inr b) = ap (λ n. n + length old.renewal.items) b.1 ∙ omega (arith, size) ∙ sym (ap (λ l. front_length (shape_of old) l bodies + span_of []) b.3)

module _ {D : Type 0} {g : Ghosts D} (book : Book D g) (bodies : List (List ℕ)) (stands : StandsFor book bodies) (not_whole : book.live ≢ Whole) (other : Other) (is_other : IsOther book.live (area_size (shape_of book)) other)
    (size_is : IfSome (g.known (disk_of book)).reads (λ bytes. (g.known (disk_of book)).size ≡ length bytes)) (room : HasRoomOn g (disk_of book) (shape_of book) book.live (length book.renewal.items) book.zeros.items) where
  abbrev bytes : List ℕ
  bytes = stands.with.stands.bytes

  had : (two : HasTwo (shape_of book) bytes bodies) × IsSide book.live two.switch
  had =
      subst (λ l. (two : HasTwo (shape_of book) bytes l) × IsSide book.live two.switch) (sym stands.are)
      (content_two (shape_of book) book.live stands.packed stands.behind stands.with.front bytes not_whole stands.with.is_front stands.with.short stands.with.within stands.with.stands.content)

  size : (g.known (disk_of book)).size ≡ length bytes
  size = size_told (g.known (disk_of book)).reads bytes (g.known (disk_of book)).size stands.with.stands.told size_is

  -- what has grown up to the other area's place has the same bodies
  kept : (grown : List ℕ) → Grows (length bytes) other.at bytes grown → (two : HasTwo (shape_of book) grown bodies) × IsSide book.live two.switch
  kept grown grows = by is_other
    where
      by : IsOther book.live (area_size (shape_of book)) other → (two : HasTwo (shape_of book) grown bodies) × IsSide book.live two.switch
      by (inl a) =
          let now = grown_past (shape_of book) other.at bytes grown bodies had.0 (subst (λ l. IsSide l had.0.switch) a.0 had.1) grows in
          (now.0, subst (λ l. IsSide l now.0.switch) (sym a.0) now.1)
      by (inr b) =
          subst (λ l. (two : HasTwo (shape_of book) l bodies) × IsSide book.live two.switch) (sym (grown_none other.at bytes grown (omega (arith, b.1, ap length had.0.is)) grows)) had

  aside : (grown : List ℕ) (two : HasTwo (shape_of book) grown bodies) → IsSide book.live two.switch → (count : ℕ) → count ≡ length book.renewal.items → IsAside (shape_of book) two.switch other.at count
  aside grown two side count is = other_aside (shape_of book) book.live two.switch count other side is_other (omega (arith, is, room.fits))

  abbrev Wrote : D → List ℕ → Type 0
  Wrote mid over = LeavesOnly g.moment g.left_since (disk_of book) mid (HasBeenWritten (g.known (disk_of book)).size other.at (length over) (g.may_leave (disk_of book)))

  pub wrote : (mid : D) (over : List ℕ) → over ≡ book.renewal.items → Wrote mid over → LeavesOnly g.moment g.left_since (disk_of book) mid (λ image. HasLaid book.live (shape_of book) image bodies)
  wrote mid over is =
      weaker g.moment g.left_since (disk_of book) mid _ _
      (λ image written.
      let grown = written.0 in
      let from = written.1.0 in
      let from_is : from ≡ bytes = stands.with.stands.durable from written.1.1 in
      let grows = subst (λ n. Grows n other.at bytes grown) size (subst (λ l. Grows (g.known (disk_of book)).size other.at l grown) from_is written.1.2) in
      let now = kept grown grows in
      two_laid (shape_of book) book.live image bodies not_whole (torn_aside (shape_of book) grown image bodies other.at (length over) now.0 (aside grown now.0 now.1 (length over) (ap length is)) written.2))

  -- the other area is written and safe
  pub record IsWritten (mid : D) (over : List ℕ) : Type 0 where
    pub is : over ≡ book.renewal.items
    pub first : Wrote mid over
    pub done : g.known mid ≡ written other.at over (filled_disk other.at (g.known (disk_of book)))
    pub durable : IsDurable (g.known mid).reads (g.may_leave mid)

  -- what reads in front of the pack, and with it
  abbrev base : List ℕ
  base = filled other.at bytes

  abbrev laid_bytes : List ℕ
  laid_bytes = laid other.at (renewed_by book.sites bodies) base

  at_long : other.at ≤ length base
  at_long = omega (arith, length-filled other.at bytes)

  mid_told : (mid : D) (over : List ℕ) → IsReady book bodies → IsWritten mid over → (g.known mid).reads ≡ Some laid_bytes
  mid_told mid over ready w =
      told_behind (filled_disk other.at (g.known (disk_of book))) (g.known mid) other.at over base w.done (ap (option_map (filled other.at)) stands.with.stands.told) ∙ ap (λ l. Some (laid other.at l base)) (w.is ∙ ready.is not_whole)

  both : IsReady book bodies → HasBoth (shape_of book) laid_bytes bodies
  both ready =
      let now = kept base (filled_grows other.at bytes) in
      laid_both (shape_of book) base bodies other.at now.0 (aside base now.0 now.1 (length (renewed_by book.sites bodies)) (sym (ap length (ready.is not_whole)))) at_long

  pub switched : (mid new : D) (over : List ℕ) → IsReady book bodies → IsWritten mid over
      → ((bytes : List ℕ) → Only bytes (g.may_leave mid) → LeavesOnly g.moment g.left_since mid new (Torn 8 1 bytes))
      → LeavesOnly g.moment g.left_since (disk_of book) new (λ image. HasLaid book.live (shape_of book) image bodies)
  switched mid new over ready w second =
      joined g.moment g.left_since (disk_of book) mid new (λ image. HasLaid book.live (shape_of book) image bodies) (wrote mid over w.is w.first)
      (weaker g.moment g.left_since mid new _ _ (λ image torn. two_laid (shape_of book) book.live image bodies not_whole (both_two (shape_of book) image bodies (torn_switch (shape_of book) laid_bytes image bodies (both ready) torn)))
      (second laid_bytes (only_behind (g.known mid).reads laid_bytes (g.may_leave mid) (mid_told mid over ready w) w.durable)))

  renewed : IsReady book bodies → IsRenewed (shape_of book) other.live (laid 8 (other.switch ∷ []) laid_bytes) bodies (other.at + length (renewed_by book.sites bodies))
  renewed ready = renewed_at (shape_of book) base bodies book.live other is_other at_long (both ready)

  -- the switch byte is written and safe, and the journal goes on behind the new pack
  pub record IsSwitched (mid : D) (new : Book D g) : Type 0 where
    pub shape : shape_of new ≡ shape_of book
    pub live : new.live ≡ other.live
    pub end : end_of new.journal ≡ other.at + length book.renewal.items
    pub limit : capacity_of new.journal ≡ other.at + area_size (shape_of book)
    pub done : g.known (disk_of new) ≡ written 8 (other.switch ∷ []) (g.known mid)
    pub whole : (g.known mid).broken ≡ false
    pub durable : IsDurable (g.known (disk_of new)).reads (g.may_leave (disk_of new))

  pub stands_anew : (mid : D) (new : Book D g) (over : List ℕ) → IsReady book bodies → IsWritten mid over → IsSwitched mid new → StandsWith new bodies []
  stands_anew mid new over ready w s =
      let r = renewed ready in
      let told = told_behind (g.known mid) (g.known (disk_of new)) 8 (other.switch ∷ []) laid_bytes s.done (mid_told mid over ready w) in
      let pack_size : length book.renewal.items ≡ length (pack_of book.sites bodies) + 1 = ap length (ready.is not_whole) ∙ length-append (pack_of book.sites bodies) (0 ∷ []) in
      record {
        front = r.front;
        is_front = subst (λ sh. IsFront sh new.live bodies r.front) (sym s.shape) (subst (λ l. IsFront (shape_of book) l bodies r.front) (sym s.live) r.is_front);
        short = subst (λ l. All IsShort l) (sym stands.are) (All-append IsShort stands.packed stands.behind stands.with.short stands.with.stands.content.fit);
        within = subst (λ sh. IsWithin sh new.live bodies []) (sym s.shape) (within_of (shape_of book) new.live bodies room.least (omega (arith, pack_size, room.fits)));
        limit = s.limit ∙ limit_other (shape_of book) book.live other is_other ∙ ap (limit_of (shape_of book)) (sym s.live) ∙ ap (λ sh. limit_of sh new.live) (sym s.shape);
        stands = record {
          bytes = laid 8 (other.switch ∷ []) laid_bytes;
          told = told;
          content = r.content;
          whole = ap (λ (disk : DiskState). disk.broken) s.done ∙ s.whole;
          durable = only_behind (g.known (disk_of new)).reads (laid 8 (other.switch ∷ []) laid_bytes) (g.may_leave (disk_of new)) told s.durable;
          end = s.end ∙ ap (λ n. other.at + n) (ap length (ready.is not_whole)) ∙ r.place;
        };
      }
