-- A site with its trail and its lanes, behind one more entry.
use Rattle.std.proofs.Common.{◌≡◌, ◌⊎◌, ◌<◌, ◌≤◌, ◌+◌, ◌-◌, ◌^◌, ℕ, List, [], ◌∷◌, ◌++◌, length, get_or, set, take, drop, reverse, Bool, true, false, Option, Some, None, is_some, refl, ap, sym, ◌∙◌, subst, arith, slice_get, if◌then◌else◌, inl, inr}
use Rattle.std.specs.Prelude.{All, IfSome, count_by}
use Rattle.std.proofs.lemmas.List.Sums.{fold-append}
use Rattle.std.proofs.lemmas.List.{length-append, reverse-append, append-nil, take_all, drop_all}
use Rattle.std.proofs.lemmas.List.Elements.{All-push}
use Rattle.std.proofs.Math.Seq.{get_or-append_seam, set-append_seam}
use Rattle.walter_base.specs.declared.catalog.Catalog.{Catalog}
use Rattle.walter_base.specs.declared.message.Record.{Record}
use Rattle.walter_base.specs.declared.names.SiteId.{SiteId}
use Rattle.walter_disk.specs.declared.disk.Disk.{Ghosts}
use Rattle.walter_engine.specs.declared.engine.Engine.{Engine}
use Rattle.walter_checkpoint.specs.declared.book.Book.{Book}
use Rattle.walter_engine.proofs.Resting.{has_either}
use Rattle.walter_engine.specs.Engines.{catalog_in, site_in, layout_in, disk_in, OfDisk, OfDisks, IsSameEngine, Stands}
use Rattle.walter_engine.specs.Stores.{IsStored}
use Rattle.walter_machine.specs.Comings.{IsSized, is_faulty, RisesIf, IsFaulty}
use Rattle.walter_machine.specs.States.{AreTold, CanBeNext, IsState}
use Rattle.walter_outbox.specs.Lanes.{carried_by, met_to, HavePut, HavePutMore, IsPutWhereFree}
use Rattle.walter_outbox.proofs.Carried.{carried_more, out_as_ruled, AgreeOnLanes, agree_out}
use Rattle.walter_outbox.proofs.Grown.{put_grown, carried_less, carried_agrees, settled_carried, with_sends, comes_out, drops_where_full, all_put}
use Rattle.walter_packet.specs.Spelling.{HasPacketSpelling}
use Rattle.walter_rules.specs.declared.entry.Came.{Came}
use Rattle.walter_rules.specs.declared.entry.Entry.{Entry}
use Rattle.walter_rules.specs.declared.event.Event.{Event}
use Rattle.walter_cell.proofs.SentAlike.{sends_alike}
use Rattle.walter_rules.specs.Layouts.{Layout, header_of, left_behind, one_area, two_areas}
use Rattle.walter_rules.specs.Sending.{Send}
use Rattle.walter_rules.specs.Standing.{Standing, settled, stands_after, carried_after}
use Rattle.walter_rules.specs.Trails.{Comes, IsFound, IsPutOut, IsNextStamp, AreRight, IsRightTrail, clock, opening, standing}
use Rattle.walter_tables.specs.declared.tables.Tables.{Tables}
use Rattle.walter_cell.specs.Entries.{HaveRisingStamps}
use Rattle.walter_cell.specs.Nodes.{NodeParts, entry_by, IsNode, IsKnownNode, MayDrop}

first_stays : (trail : List Entry) (e x : Entry) → slice_get trail 0 ≡ Some x → slice_get (trail ++ e ∷ []) 0 ≡ Some x
first_stays [] e x h = absurd cc
first_stays (y ∷ trail) e x h = h

-- a list that was lent whole, and comes back changed
pub all_back : {X : Type 0} (len : ℕ) (new old : List X) → len ≡ length old → length new ≡ length old
    → take len (new ++ drop (length new) old) ≡ new
all_back len new old is long =
    ap (λ rest. take len (new ++ rest)) (drop_all (length new) old (omega (arith, long)))
    ∙ (ap (λ l. take len l) (append-nil new) ∙ take_all len new (omega (arith, is, long)))

module _ {X : Type 0} (xs ys : List X) (x : X) where
  at_end : ys ≡ xs ++ x ∷ [] → length ys - 1 ≡ length xs
  at_end pushed =
      let long : length ys ≡ length xs + 1 = ap length pushed ∙ length-append xs (x ∷ []) in
      omega (arith, long)

  -- the last element is the one that was put behind the others
  pub last_pushed : (y : X) (len : ℕ) → ys ≡ xs ++ x ∷ [] → len ≡ length ys → y ≡ get_or ys (len - 1) y → y ≡ x
  last_pushed y len pushed long here =
      here ∙ ap (λ n. get_or ys (n - 1) y) long ∙ ap (λ n. get_or ys n y) (at_end pushed) ∙ ap (λ (zs : List X). get_or zs (length xs) y) pushed
      ∙ get_or-append_seam xs x [] y

  -- and one in its place stands there
  pub last_set : (y : X) (len : ℕ) → ys ≡ xs ++ x ∷ [] → len ≡ length ys → set ys (len - 1) y ≡ xs ++ y ∷ []
  last_set y len pushed long =
      ap (λ n. set ys (n - 1) y) long ∙ ap (λ n. set ys n y) (at_end pushed)
      ∙ ap (λ (zs : List X). set zs (length xs) y) pushed ∙ set-append_seam xs x [] y

-- how many entries have a fault, with one more
count_more : (p : Entry → Bool) (es : List Entry) (e : Entry) → count_by p (es ++ e ∷ []) ≡ count_by p es + (if p e then 1 else 0)
count_more p es e = fold-append (λ n x. n + (if p x then 1 else 0)) 0 es (e ∷ [])

rises_more : (n f f' : ℕ) (b : Bool) → n ≤ f → RisesIf b f f' → n + (if b then 1 else 0) ≤ f'
rises_more n f f' true most rises = omega arith
rises_more n f f' false most rises = omega arith

-- as it stands, with lanes that have carried so much
abbrev carrying : (SiteId → ℕ) → Standing → Standing
carrying carried S = record S { carried = carried }

module _ (S : Standing) (carried : SiteId → ℕ) where
  state_carrying : (site : Option Tables) → IsState S site → IsState (carrying carried S) site
  state_carrying None is = is
  state_carrying (Some tables) is = record { up = is.up; knows = is.knows; settled = is.settled }

  told_carrying : (catalog : Catalog) (i : SiteId) → AreTold catalog i S → AreTold catalog i (carrying carried S)
  told_carrying catalog i told = record {
    sizes = told.sizes;
    follow = told.follow;
    tell = told.tell;
    in_flight = flight S.flight told.in_flight;
    booted = told.booted;
    rests = told.rests;
  }
    where
      flight : (rec : Option Record) → IfSome rec (CanBeNext catalog i S) → IfSome rec (CanBeNext catalog i (carrying carried S))
      flight None is = tt
      flight (Some rec) is = record { sizes = is.sizes; follows = is.follows }

  left_carrying : (layout : Layout) → left_behind layout (carrying carried S) ≡ left_behind layout S
  left_carrying (one_area capacity header) = refl
  left_carrying (two_areas capacity sites header) = refl

  stored_carrying : {D : Type 0} {g : Ghosts D} (layout : Layout) (book : Option (Book D g)) (bare : Option D)
      → IsStored layout S book bare → IsStored layout (carrying carried S) book bare
  stored_carrying layout None None is = is
  stored_carrying layout (Some book) bare is =
      record { laid = is.laid; stands = is.stands; left = is.left ∙ sym (left_carrying layout) }
  stored_carrying layout None (Some disk) is = record { told = is.told; begun = is.begun; images = is.images }

  stands_carrying : {D : Type 0} {g : Ghosts D} (engine : Engine D g) → Stands engine S → Stands engine (carrying carried S)
  stands_carrying engine stands = record {
    machine = let m = stands.machine in record {
      state = state_carrying engine.machine.site m.state;
      told = told_carrying (catalog_in engine) (site_in engine) m.told;
      flight = m.flight;
      count = m.count;
      owed = m.owed;
    };
    spellings = let s = stands.spellings in record { records = s.records; flight = s.flight };
    stored = stored_carrying (layout_in engine) engine.book engine.disk stands.stored;
  }

module _ {D : Type 0} {g : Ghosts D} where
  -- an engine has a disk
  pub has_disk : (engine : Engine D g) → is_some (disk_in engine) ≡ true
  has_disk engine = has_either g engine.book engine.disk _ engine.«open» engine.bare

  faults_more : (old new : Engine D g) (n : ℕ) (b : Bool) → OfDisk old (λ d. n ≤ (g.known d).faults) → OfDisks old new (λ x y. RisesIf b (g.known x).faults (g.known y).faults)
      → OfDisk new (λ d. n + (if b then 1 else 0) ≤ (g.known d).faults)
  faults_more old new n b most rises = both (disk_in old) (disk_in new) (has_disk old) most rises
    where
      both : (x y : Option D) → is_some x ≡ true → IfSome x (λ d. n ≤ (g.known d).faults) → IfSome x (λ d. IfSome y (λ e. RisesIf b (g.known d).faults (g.known e).faults))
          → IfSome y (λ d. n + (if b then 1 else 0) ≤ (g.known d).faults)
      both None y there most rises = absurd cc
      both (Some d) None there most rises = tt
      both (Some d) (Some e) there most rises = rises_more n (g.known d).faults (g.known e).faults b most rises

  module _ (catalog : Catalog) (layout : Layout) (i : SiteId) (old new : NodeParts D g) (stamp : ℕ) (event : Event) (came : Came)
      (sends : List Send) (dropped : ℕ)
      (grown : new.trail ≡ old.trail ++ entry_by stamp event (with_sends sends dropped came) ∷ [])
      (free : IsPutWhereFree (met_to old.outs) (carried_by old.outs) came.sends sends dropped)
      (node : IsNode catalog layout i old) where
    abbrev trail : List Entry
    trail = old.trail

    abbrev own : Entry
    own = entry_by stamp event (with_sends sends dropped came)

    abbrev S : Standing
    S = standing catalog i (reverse trail)

    out : IsPutOut (carried_by old.outs) came.sends sends dropped
    out = out_as_ruled (met_to old.outs) (carried_by old.outs) came.sends sends dropped free

    back : reverse new.trail ≡ own ∷ reverse trail
    back = ap reverse grown ∙ reverse-append trail (own ∷ [])

    pub node_more : new.clock ≡ stamp → IsSameEngine old.engine new.engine → IsSized catalog.sites came
        → HavePutMore catalog.sites stamp old.outs new.outs sends
        → OfDisks old.engine new.engine (λ x y. IsFaulty came (g.known x).faults (g.known y).faults)
        → old.clock < stamp → stamp < 2 ^ 62 → IsNode catalog layout i new
    node_more clock_is same sized put rises later early = record {
      catalog_is = same.catalog ∙ node.catalog_is;
      site = same.site ∙ node.site;
      layout_is = same.layout ∙ node.layout_is;
      begins = ap (λ es. slice_get es 0) grown ∙ first_stays trail own opening node.begins;
      last = clock_is ∙ sym (ap clock back);
      early = subst (λ n. n < 2 ^ 62) (sym clock_is) early;
      rise = subst HaveRisingStamps (sym back) ((let last = node.last in omega (arith, last, later)), node.rise);
      sized = subst (λ es. All (λ (x : Entry). IsSized catalog.sites x.came) es) (sym grown)
          (All-push (λ (x : Entry). IsSized catalog.sites x.came) trail own node.sized (record {
            outcome = sized.outcome;
            kept = sized.kept;
            wrote = sized.wrote;
            flight = sized.flight;
            sends = all_put (λ (s : Send). HasPacketSpelling catalog.sites s.1) (carried_by old.outs) came.sends sends dropped out sized.sends;
          }));
      put = subst (λ (es : List Entry). HavePut catalog.sites es new.outs) (sym grown)
          (put_grown catalog.sites trail old.outs new.outs own node.put put);
      faults =
          let n : ℕ = count_by (λ (x : Entry). is_faulty x.came.outcome) trail in
          let all : count_by (λ (x : Entry). is_faulty x.came.outcome) new.trail ≡ n + (if is_faulty came.outcome then 1 else 0) =
          ap (λ es. count_by (λ (x : Entry). is_faulty x.came.outcome) es) grown ∙ count_more (λ (x : Entry). is_faulty x.came.outcome) trail own in
          subst (λ (k : ℕ). OfDisk new.engine (λ d. k ≤ (g.known d).faults)) (sym all)
          (faults_more old.engine new.engine n (is_faulty came.outcome) node.faults rises);
    }

    pub known_more : came.dropped ≡ 0 → IfSome came.kept (IsFound S event)
        → Comes catalog layout i (settled catalog i came.kept S) event came
        → Stands new.engine (stands_after catalog i (settled catalog i came.kept S) event came)
        → IsNextStamp event old.clock stamp
        → IsRightTrail catalog layout i trail → IsKnownNode catalog layout i new
    known_more none found comes stands next right =
        let T : Standing = settled catalog i came.kept S in
        let carried : IsPutOut T.carried came.sends sends dropped =
        carried_more (carried_by old.outs) T.carried came.sends sends dropped
        (λ k. let less = carried_less catalog i catalog.sites trail old.outs node.put k in
        let same = settled_carried catalog i came.kept S k in omega (arith, less, same)) out in
        let stands_ : standing catalog i (reverse new.trail) ≡ stands_after catalog i T event (with_sends sends dropped came) =
        ap (λ es. standing catalog i es) back in
        let behind : Standing = stands_after catalog i T event came in
        record {
          stands = subst (λ (U : Standing). Stands new.engine U) (sym stands_)
              (stands_carrying behind (carried_after sends T.carried) new.engine stands);
          right = record {
            opening = right.opening;
            begins = ap (λ es. slice_get es 0) grown ∙ first_stays trail own right.opening right.begins;
            opens = right.opens;
            right = subst (λ es. AreRight catalog layout i es) (sym back) (
              right.right,
              record {
                stamp = subst (λ n. IsNextStamp event n stamp) node.last next;
                kept = found;
                comes = comes_out catalog layout i T event came sends dropped none carried comes;
              },
            );
          };
        }

    -- what it drops has found its lane full
    pub drops_more : came.dropped ≡ 0 → Comes catalog layout i (settled catalog i came.kept S) event came
        → MayDrop catalog i (met_to old.outs) trail new.trail
    drops_more none comes =
        let T : Standing = settled catalog i came.kept S in
        inr (
          own,
          grown,
          subst (λ (planned : List Send). ((sends ≡ []) × (dropped ≡ 0))
              ⊎ IsPutWhereFree (met_to old.outs) T.carried planned sends dropped) (sends_alike (header_of layout) catalog i T event)
              (drops_where_full catalog layout i T event came (met_to old.outs) sends dropped none
              (agree_out (met_to old.outs) (carried_by old.outs) T.carried came.sends sends dropped agree free) comes),
        )
      where
        agree : AgreeOnLanes (met_to old.outs) (carried_by old.outs) (settled catalog i came.kept S).carried
        agree k = elim (carried_agrees catalog i catalog.sites trail old.outs node.put k) [
          | inl same ↦ inl (same ∙ sym (settled_carried catalog i came.kept S k))
          | inr less ↦ inr (less.0, (let l = less.1 in let same = settled_carried catalog i came.kept S k in omega (arith, l, same)))
        ]
