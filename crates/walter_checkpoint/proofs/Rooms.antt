-- A book that has taken memory alone is the same.
use Rattle.std.proofs.Common.{◌≡◌, ◌≢◌, ◌+◌, ℕ, List, length, refl, ◌∙◌}
use Rattle.std.specs.Prelude.{Result, Ok, Err, OnOk}
use Rattle.walter_disk.specs.Images.{Narrows, LeavesOnly}
use Rattle.walter_disk.specs.declared.disk.Disk.{Ghosts}
use Rattle.walter_disk.proofs.Moments.{weaker, joined}
use Rattle.walter_journal.specs.Journals.{end_of, capacity_of, StandsBehind}
use Rattle.walter_checkpoint.specs.Books.{disk_of, shape_of, StandsWith, IsSameBook, HasRoom, HasRoomBehind, ReachesBehind}
use Rattle.walter_checkpoint.specs.declared.book.Book.{Book}
use Rattle.walter_checkpoint.specs.declared.book.Live.TheVariants.{Whole}
use Rattle.walter_journal.specs.declared.journal.Journal.{Journal}

-- a book with another journal, of which the same is known
pub same_book : {D : Type 0} {g : Ghosts D} (old : Book D g) (journal : Journal D g) → end_of journal ≡ end_of old.journal → capacity_of journal ≡ capacity_of old.journal
    → g.device_calls journal.disk ≡ g.device_calls (disk_of old)
    → ((front : List ℕ) (bodies : List (List ℕ)) → StandsBehind front old.journal bodies → StandsBehind front journal bodies)
    → Narrows (g.may_leave (disk_of old)) (g.may_leave journal.disk) → LeavesOnly g.moment g.left_since (disk_of old) journal.disk (g.may_leave (disk_of old))
    → IsSameBook old (record old { journal = journal })
same_book {D = D} {g = g} old journal end limit device behind crash any_moment = record {
  shape = refl;
  live = refl;
  end = end;
  limit = limit;
  renewal = refl;
  device = device;
  with = stands_with;
  stands = λ bodies stands. record { packed = stands.packed; behind = stands.behind; are = stands.are; with = stands_with stands.packed stands.behind stands.with };
  goes_on = λ packed behind goes. record { end = end ∙ goes.end; limit = limit ∙ goes.limit };
  ready = λ bodies ready. record { is = ready.is };
  crash = crash;
  any_moment = any_moment;
}
  where
    new : Book D g
    new = record old { journal = journal }

    stands_with : (packed behind : List (List ℕ)) → StandsWith old packed behind → StandsWith new packed behind
    stands_with packed bodies stands = record {
      front = stands.front;
      is_front = stands.is_front;
      short = stands.short;
      within = stands.within;
      limit = limit ∙ stands.limit;
      stands = behind stands.front bodies stands.stands;
    }

-- and one that has done so twice
pub same_twice : {D : Type 0} {g : Ghosts D} (old mid new : Book D g) → IsSameBook old mid → IsSameBook mid new → IsSameBook old new
same_twice {g = g} old mid new first second = record {
  shape = second.shape ∙ first.shape;
  live = second.live ∙ first.live;
  end = second.end ∙ first.end;
  limit = second.limit ∙ first.limit;
  renewal = second.renewal ∙ first.renewal;
  device = second.device ∙ first.device;
  with = λ packed behind stands. second.with packed behind (first.with packed behind stands);
  stands = λ bodies stands. second.stands bodies (first.stands bodies stands);
  goes_on = λ packed behind goes. second.goes_on packed behind (first.goes_on packed behind goes);
  ready = λ bodies ready. second.ready bodies (first.ready bodies ready);
  crash = λ image is. first.crash image (second.crash image is);
  any_moment = joined g.moment g.left_since (disk_of old) (disk_of mid) (disk_of new) (g.may_leave (disk_of old)) first.any_moment (weaker g.moment g.left_since (disk_of mid) (disk_of new) _ _ first.crash second.any_moment);
}

-- what follows where it answers Ok
pub if_ok : {X E P Q : Type 0} (result : Result X E) → (P → Q) → OnOk result P → OnOk result Q
if_ok (Ok x) so is = so is
if_ok (Err e) so is = tt

-- room to append, and to do so behind a pack
pub both_rooms : {D : Type 0} {g : Ghosts D} {X E : Type 0} (result : Result X E) (old new : Book D g) (n : ℕ) → new.live ≡ old.live → OnOk result (HasRoom new n)
    → (old.live ≢ Whole → OnOk result (ReachesBehind g (disk_of new) (shape_of new) new.live (length new.renewal.items + 5 + n))) → OnOk result (HasRoomBehind new n)
both_rooms (Ok x) old new n live now behind = record { now = now; two = λ not_whole. behind (λ is. not_whole (live ∙ is)) }
both_rooms (Err e) old new n live now behind = tt
