-- What a crash within an event leaves.
use Rattle.std.proofs.Common.{◌≡◌, ℕ, List, [], ◌∷◌, ◌++◌, ◌⊎◌, false, Option, Some, None, sym, subst, inl, inr, arith}
use Rattle.std.specs.Prelude.{IfSome, is_some}
use Rattle.walter_base.specs.declared.catalog.Catalog.{Catalog}
use Rattle.walter_base.specs.declared.format.Format.{Format}
use Rattle.walter_base.specs.declared.message.Record.{Record}
use Rattle.walter_base.specs.declared.names.SiteId.{SiteId}
use Rattle.walter_disk.proofs.Moments.{weaker}
use Rattle.walter_disk.specs.declared.disk.Disk.{Ghosts}
use Rattle.walter_disk.specs.Images.{LeavesOnly}
use Rattle.walter_engine.proofs.Spelled.{spelled-push}
use Rattle.walter_engine.specs.Contents.{spelled, HasBodies, MayHaveRecords, HasOneMore, MayHaveNext}
use Rattle.walter_engine.specs.Stores.{IsKept, IsStored, disk_under, layout_of}
use Rattle.walter_engine.specs.Writings.{IsSameButRoom}
use Rattle.walter_engine.proofs.Resting.{OnlyNow, may_have, leaves_bodies, before_laid}
use Rattle.walter_checkpoint.specs.Books.{disk_of, shape_of, IsLaidBeforeOrBehind, StandsFor}
use Rattle.walter_checkpoint.specs.declared.book.Book.{Book}
use Rattle.walter_record.specs.Spelling.{record_spelled}
use Rattle.walter_rules.specs.declared.event.Event.{Event}
use Rattle.walter_rules.specs.Layouts.{Layout, header_of, format_at}
use Rattle.walter_rules.specs.Rule.{rule}
use Rattle.walter_rules.specs.Standing.{Standing, settled}
use Rattle.walter_rules.specs.Trails.{IsFound}

-- the records from before, or with the one that the rule brings behind them
behind_next : (catalog : Catalog) (layout : Layout) (i : SiteId) (S : Standing) (event : Event) (rec : Record)
    → (rule (header_of layout) catalog i S event).wrote ≡ Some rec → (image : List ℕ)
    → HasBodies layout image (spelled (header_of layout) S.records)
    ⊎ HasBodies layout image
    (spelled (header_of layout) S.records ++ record_spelled (format_at (header_of layout) S.records) rec ∷ [])
    → MayHaveNext catalog layout i S event None image
behind_next catalog layout i S event rec brings image (inl before) = inl (may_have layout S.records S.flight image before)
behind_next catalog layout i S event rec brings image (inr behind) =
    inr (subst (λ (w : Option Record). HasOneMore layout S.records w image) (sym brings)
    (subst (λ bodies. HasBodies layout image bodies) (sym (spelled-push (header_of layout) S.records rec)) behind))

-- what a restart leaves that has found the one in flight or hasn't
pub settled_next : (catalog : Catalog) (layout : Layout) (i : SiteId) (S : Standing) (event : Event) (kept : Option Record)
    → IfSome kept (IsFound S event) → (image : List ℕ) → MayHaveNext catalog layout i (settled catalog i kept S) event None image
    → MayHaveNext catalog layout i S event kept image
settled_next catalog layout i S event None found image may = may
settled_next catalog layout i S event (Some rec) found image (inl has) =
    inl (subst (λ (f : Option Record). MayHaveRecords layout S.records f image) (sym found.in_flight) (inr has))
settled_next catalog layout i S event (Some rec) found image (inr has) = inr has

module _ {D : Type 0} {g : Ghosts D} where
  -- where nothing was done
  pub unmoved : OnlyNow g → (book : Book D g) (bodies : List (List ℕ)) → StandsFor book bodies
      → (P : List ℕ → Type 0) → ((image : List ℕ) → HasBodies (layout_of book) image bodies → P image)
      → LeavesOnly g.moment g.left_since (disk_of book) (disk_of book) P
  unmoved only_now book bodies stands P so = record {
    later = omega arith;
    each = λ image left. so image (leaves_bodies g book bodies stands image (only_now (disk_of book) image left));
    before = λ t image le left. inl left;
  }

  -- an event that leaves the book as it is
  pub unmoved_next : OnlyNow g → (book : Book D g) (catalog : Catalog) (layout : Layout) (i : SiteId) (S : Standing)
      (event : Event) (kept : Option Record) → IsKept layout S book
      → LeavesOnly g.moment g.left_since (disk_of book) (disk_of book) (MayHaveNext catalog layout i S event kept)
  unmoved_next only_now book catalog layout i S event kept stands =
      unmoved only_now book (spelled (header_of layout) S.records) stands.stands (MayHaveNext catalog layout i S event kept)
      (λ image has. inl (may_have layout S.records S.flight image
      (subst (λ (l : Layout). HasBodies l image (spelled (header_of layout) S.records)) stands.laid has)))

  -- or the bare disk
  pub disk_next : OnlyNow g → (catalog : Catalog) (layout : Layout) (i : SiteId) (S : Standing) (event : Event)
      (kept : Option Record) (book : Option (Book D g)) (bare : Option D) → IsStored {g = g} layout S book bare
      → is_some book ≡ false
      → IfSome (disk_under book bare) (λ before. IfSome (disk_under book bare) (λ now.
      LeavesOnly g.moment g.left_since before now (MayHaveNext catalog layout i S event kept)))
  disk_next only_now catalog layout i S event kept None None stored closed = tt
  disk_next only_now catalog layout i S event kept (Some book) bare stored closed = absurd (cc)
  disk_next only_now catalog layout i S event kept None (Some disk) stored closed = record {
    later = omega arith;
    each = λ image left. inl (stored.images image (only_now disk image left));
    before = λ t image le left. inl left;
  }

  module _ (old mid : Book D g) (same : IsSameButRoom old mid) where
    -- where no more was done than to make room
    pub made_room : (bodies : List (List ℕ)) → StandsFor old bodies → (P : List ℕ → Type 0)
        → ((image : List ℕ) → HasBodies (layout_of old) image bodies → P image)
        → LeavesOnly g.moment g.left_since (disk_of old) (disk_of mid) P
    made_room bodies stands P so =
        weaker g.moment g.left_since (disk_of old) (disk_of mid) (g.may_leave (disk_of old)) P
        (λ image left. so image (leaves_bodies g old bodies stands image left)) same.book.any_moment

  module _ (catalog : Catalog) (layout : Layout) (i : SiteId) (S : Standing) (event : Event) (old : Book D g)
      (laid : layout_of old ≡ layout) (stands : StandsFor old (spelled (header_of layout) S.records)) where
    abbrev Next : List ℕ → Type 0
    Next = MayHaveNext catalog layout i S event None

    stays : (image : List ℕ) → HasBodies (layout_of old) image (spelled (header_of layout) S.records) → Next image
    stays image has =
        inl (may_have layout S.records S.flight image
        (subst (λ (l : Layout). HasBodies l image (spelled (header_of layout) S.records)) laid has))

    -- where room was made
    pub stays_next : (mid : Book D g) → IsSameButRoom old mid
        → LeavesOnly g.moment g.left_since (disk_of old) (disk_of mid) Next
    stays_next mid same = made_room old mid same (spelled (header_of layout) S.records) stands Next stays

    -- where what it has was packed, or wasn't
    pub packs_next : (new : D)
        → LeavesOnly g.moment g.left_since (disk_of old) new
        (λ image. HasBodies (layout_of old) image (spelled (header_of layout) S.records))
        → LeavesOnly g.moment g.left_since (disk_of old) new Next
    packs_next new run =
        weaker g.moment g.left_since (disk_of old) new
        (λ image. HasBodies (layout_of old) image (spelled (header_of layout) S.records)) Next stays run

    abbrev there : Format
    there = format_at (header_of layout) S.records

    -- where a record was appended, or wasn't
    pub appends_next : (new : D) (rec : Record) (body : List ℕ) → (rule (header_of layout) catalog i S event).wrote ≡ Some rec
        → body ≡ record_spelled there rec
        → LeavesOnly g.moment g.left_since (disk_of old) new
        (IsLaidBeforeOrBehind old.live (shape_of old) (spelled (header_of layout) S.records) body)
        → LeavesOnly g.moment g.left_since (disk_of old) new Next
    appends_next new rec body brings is run =
        let bodies = spelled (header_of layout) S.records in
        weaker g.moment g.left_since (disk_of old) new
        (IsLaidBeforeOrBehind old.live (shape_of old) bodies (record_spelled there rec)) Next
        (λ image may. behind_next catalog layout i S event rec brings image
        (subst (λ (l : Layout). HasBodies l image bodies ⊎ HasBodies l image (bodies ++ record_spelled there rec ∷ [])) laid
        (before_laid (shape_of old) old.live bodies (record_spelled there rec) image may)))
        (subst (λ (b : List ℕ). LeavesOnly g.moment g.left_since (disk_of old) new
        (IsLaidBeforeOrBehind old.live (shape_of old) bodies b)) is run)
