-- How many calls of its disk an event makes at a site.
use Rattle.std.proofs.Common.{◌≡◌, ◌<◌, ◌+◌, ◌-◌, ◌/◌, ◌==◌, ℕ, List, Bool, true, false, Option, Some, None, is_some, refl, ap, sym, ◌∙◌, subst, arith, inl, inr, if◌then◌else◌}
use Rattle.std.specs.Prelude.{◌≢◌, ◌⊎◌, IfSome}
use Rattle.std.proofs.lemmas.Bool.{ne_eqb}
use Rattle.walter_base.specs.declared.format.Format.{Format}
use Rattle.walter_checkpoint.specs.Areas.{Shape, area_size}
use Rattle.walter_checkpoint.specs.Books.{calls_of_pack}
use Rattle.walter_checkpoint.specs.Loads.{calls_of_load, new_size}
use Rattle.walter_checkpoint.specs.declared.book.Book.{Book}
use Rattle.walter_checkpoint.specs.declared.book.Live.{Live}
use Rattle.walter_checkpoint.specs.declared.book.Live.TheVariants.{Whole, A, B}
use Rattle.walter_disk.specs.declared.disk.Disk.{Ghosts}
use Rattle.walter_engine.proofs.Written.{state_up}
use Rattle.walter_engine.specs.Effects.{AreCalls, AreCallsOfRestart, AreCallsToRestart}
use Rattle.walter_engine.specs.Engines.{catalog_in, disk_in, is_up, layout_for, layout_in, shape_in, OfDisks, Stands}
use Rattle.walter_engine.specs.Stores.{disk_under, IsStored}
use Rattle.walter_engine.specs.declared.engine.Engine.{Engine}
use Rattle.walter_journal.specs.Zeros.{writes_of}
use Rattle.walter_outbox.proofs.Grown.{with_sends}
use Rattle.walter_rules.specs.declared.entry.Came.{Came}
use Rattle.walter_rules.specs.declared.event.Event.{Event}
use Rattle.walter_rules.specs.declared.event.Event.TheVariants.{Restart}
use Rattle.walter_rules.specs.Layouts.{Layout, one_area, two_areas}
use Rattle.walter_rules.specs.Sending.{Send}
use Rattle.walter_rules.specs.Standing.{Standing}
use Rattle.walter_cell.specs.Nodes.{AreCallsAt, AreCallsToRaise, calls_under, capacity_of}
use Rattle.walter_cell.proofs.Nodes.{has_disk}

capacity_if : (two : Bool) (capacity sites : ℕ) (header : Format)
    → capacity_of (if two then two_areas capacity sites header else one_area capacity header) ≡ capacity
capacity_if true capacity sites header = refl
capacity_if false capacity sites header = refl

-- of a layout that is asked for
pub capacity_is : (areas capacity sites : ℕ) (header : Format) → capacity_of (layout_for areas capacity sites header) ≡ capacity
capacity_is areas capacity sites header = capacity_if (areas == 2) capacity sites header

-- ---- a restart over a disk that has bytes

load_if : (none : Bool) (n : ℕ) → none ≡ false → (if none then n else 1) ≡ 1
load_if true n is = absurd cc
load_if false n is = refl

-- the load is one read
one_read : (shape : Shape) (areas size : ℕ) → 0 < size → calls_of_load shape areas size ≡ 1
one_read shape areas size some =
    load_if (size == 0) (writes_of (new_size shape areas) + 1) (ne_eqb size 0 (λ none. omega (arith, none, some)))

-- no zeros are missing
none_missing : (place : ℕ) → 4 ≡ writes_of (place - place) + 4
none_missing place = let none : place - place ≡ 0 = omega arith in ap (λ n. writes_of n + 4) (sym none)

pack_by : (shape : Shape) (live : Live) (size pack : ℕ) → pack ≡ calls_of_pack shape live size
    → (pack ≡ 0) ⊎ ((now : ℕ) × (pack ≡ writes_of (9 + (shape.capacity - 9) / 2 - now) + 4))
pack_by shape Whole size pack is = inl is
pack_by shape A size pack is = inr (size, is)
pack_by shape B size pack is = inr (9 + area_size shape, is ∙ none_missing (9 + area_size shape))

pack_in : (shape : Shape) (pack : ℕ) → (pack ≡ 0) ⊎ ((live : Live) × (now : ℕ) × (pack ≡ calls_of_pack shape live now))
    → (pack ≡ 0) ⊎ ((now : ℕ) × (pack ≡ writes_of (9 + (shape.capacity - 9) / 2 - now) + 4))
pack_in shape pack (inl none) = inl none
pack_in shape pack (inr some) = pack_by shape some.0 some.1 pack some.2

raised_by : (shape : Shape) (areas size : ℕ) (came : Came) (sends : List Send) (dropped old new : ℕ) → 0 < size
    → AreCallsToRestart shape areas size came old new
    → AreCallsToRaise shape.capacity (with_sends sends dropped came) old new
raised_by shape areas size came sends dropped old new some calls =
    let load : calls_of_load shape areas size + calls.pack ≡ 1 + calls.pack = ap (λ n. n + calls.pack) (one_read shape areas size some) in
    let of : AreCallsOfRestart came (1 + calls.pack) old new = subst (λ n. AreCallsOfRestart came n old new) load calls.calls in
    record {
      pack = calls.pack;
      packs = pack_in shape calls.pack calls.packs;
      calls = record { all = of.all; at_most = of.at_most };
    }

-- ---- an event

-- what holds of both disks by their calls
both_calls : {D : Type 0} (g : Ghosts D) (R : ℕ → ℕ → Type 0) (old new : Option D) → is_some old ≡ true → is_some new ≡ true
    → IfSome old (λ x. IfSome new (λ y. R (g.device_calls x) (g.device_calls y))) → R (calls_under g old) (calls_under g new)
both_calls g R None new here there both = absurd cc
both_calls g R (Some x) None here there both = absurd cc
both_calls g R (Some x) (Some y) here there both = both

-- what follows of both disks, by what holds of the first alone too
raised_both : {D : Type 0} (R Q : D → D → Type 0) (P : D → Type 0) → ((x y : D) → P x → R x y → Q x y) → (old new : Option D) → IfSome old P
    → IfSome old (λ x. IfSome new (λ y. R x y)) → IfSome old (λ x. IfSome new (λ y. Q x y))
raised_both R Q P by None new some both = tt
raised_both R Q P by (Some x) None some both = tt
raised_both R Q P by (Some x) (Some y) some both = by x y some both

module _ {D : Type 0} {g : Ghosts D} where
  -- a disk has bytes on which a site lies that is down
  begun_under : (layout : Layout) (S : Standing) (book : Option (Book D g)) (bare : Option D) → is_some book ≡ false
      → IsStored layout S book bare → IfSome (disk_under book bare) (λ disk. 0 < (g.known disk).size)
  begun_under layout S (Some book) bare down is = absurd cc
  begun_under layout S None (Some disk) down is = is.begun
  begun_under layout S None None down is = tt

  module _ (old new : Engine D g) (S : Standing) (event : Event) (came : Came) (sends : List Send) (dropped : ℕ)
      (stands : Stands old S) where
    up_is : is_up old ≡ S.up
    up_is = sym (state_up S old.machine.site stands.machine.state)

    pub calls_at : ((is_up old ≡ false → event ≢ Restart) → OfDisks old new (λ x y. AreCalls came (g.device_calls x) (g.device_calls y)))
        → (is_up old ≡ false → event ≡ Restart → OfDisks old new (λ x y.
        AreCallsToRestart (shape_in old) old.areas (g.known x).size came (g.device_calls x) (g.device_calls y)))
        → AreCallsAt (capacity_of (layout_in old)) S event (with_sends sends dropped came)
        (calls_under g (disk_in old)) (calls_under g (disk_in new))
    calls_at device loads =
        subst (λ n. AreCallsAt n S event (with_sends sends dropped came) (calls_under g (disk_in old)) (calls_under g (disk_in new)))
        (sym (capacity_is old.areas old.capacity (catalog_in old).sites old.format))
        (record {
          to_restart = λ down is.
              let down : is_up old ≡ false = up_is ∙ down in
              let bytes : IfSome (disk_in old) (λ disk. 0 < (g.known disk).size) =
              begun_under (layout_in old) S old.book old.disk (old.«open» ∙ down) stands.stored in
              both_calls g (λ m n. AreCallsToRaise old.capacity (with_sends sends dropped came) m n) (disk_in old) (disk_in new) (has_disk old) (has_disk new)
              (raised_both
              (λ x y. AreCallsToRestart (shape_in old) old.areas (g.known x).size came (g.device_calls x) (g.device_calls y))
              (λ x y. AreCallsToRaise old.capacity (with_sends sends dropped came) (g.device_calls x) (g.device_calls y))
              (λ x. 0 < (g.known x).size)
              (λ x y some calls. raised_by (shape_in old) old.areas (g.known x).size came sends dropped (g.device_calls x) (g.device_calls y) some calls)
              (disk_in old) (disk_in new) bytes (loads down is));
          to_write = λ rests.
              both_calls g (λ m n. AreCalls came m n) (disk_in old) (disk_in new) (has_disk old) (has_disk new)
              (device (λ down. rests (sym up_is ∙ down)));
        })
