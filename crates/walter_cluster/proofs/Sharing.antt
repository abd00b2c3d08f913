-- Cells that are shared: what they go on from, and how they stand behind their locks.
use Rattle.std.proofs.Common.{◌≡◌, ℕ, zero, suc, ◌<◌, ◌≤◌, ◌∷◌, ◌++◌, ◌⊎◌, List, [], length, map, slice_get, refl, ap, sym, ◌∙◌, subst, arith, Option, Some, None, option_map, true, inl, inr}
use Rattle.std.specs.Prelude.{slice_index_or, nat_lt, Bool, All, false, Result, IfOk, OnErr}
use Rattle.std.proofs.lemmas.Bool.{cases_lt, lt-ltb}
use Rattle.std.proofs.lemmas.List.{length-map}
use Rattle.std.proofs.lemmas.Option.{slice_get-map, slice_get_within}
use Rattle.walter_base.proofs.NameTests.{same_site_refl}
use Rattle.walter_base.specs.declared.memory.NoMemory.{NoMemory}
use Rattle.walter_base.specs.declared.names.SiteId.{SiteId}
use Rattle.walter_cell.specs.declared.answers.Acted.{Acted}
use Rattle.walter_cell.specs.Cells.{CellValue}
use Rattle.walter_cell.specs.Cells as cell
use Rattle.walter_cell.specs.Lines.{is_here}
use Rattle.walter_cell.specs.Nodes.{arms_under, clock_in, is_told, standing_of}
use Rattle.walter_disk.specs.declared.disk.Disk.{Ghosts}
use Rattle.walter_lane.specs.Lanes.{Sending, Receiving}
use Rattle.walter_lane.specs.Rings.{Ring}
use Rattle.walter_link.specs.Pumps.{PumpValue, taken_from}
use Rattle.walter_outbox.specs.Lanes.{arrived_from, ring_to, ring_from, no_ring}
use Rattle.walter_rules.specs.declared.event.Event.TheVariants.{Restart}
use Rattle.walter_rules.specs.Knowledge.{site_at}
use Rattle.walter_scenario.specs.declared.scenario.Scenario.{Scenario}
use Rattle.walter_cluster.specs.Benches.{BenchValue, EachKeeps, IsBench, IsCellAt, IsOf, outs_at, ins_at, is_site}
use Rattle.walter_cluster.specs.Moments.{KeepsArms, moment_of}
use Rattle.walter_cluster.specs.Shared.{Origin, HasGoneOn, IsHeld, AreHeld, CanWork, IsAtWork, bare, bench_before, origin_of, origins_of}
use Rattle.walter_cluster.proofs.Changes.{there_is, one_there, field_at, field_past}
use Rattle.walter_cluster.proofs.Keeping.{outs_long, ins_long, home_within, of_each}
use Rattle.walter_cluster.proofs.Working.{works_raised}

-- ---- elements of lists by their places

-- those in front are of the whole
pub front_of : {X : Type 0} (xs more : List X) (k : ℕ) (x : X) → slice_get xs k ≡ Some x → slice_get (xs ++ more) k ≡ Some x
front_of [] more k x at = let e : None ≡ Some x = at in absurd cc
front_of (y ∷ ys) more zero x at = at
front_of (y ∷ ys) more (suc k) x at = front_of ys more k x at

-- the one behind them
pub one_behind : {X : Type 0} (xs : List X) (x : X) → slice_get (xs ++ x ∷ []) (length xs) ≡ Some x
one_behind [] x = refl
one_behind (y ∷ ys) x = one_behind ys x

-- an element is in front, or the one behind
pub front_or_behind : {X : Type 0} (xs : List X) (x y : X) (k : ℕ) → slice_get (xs ++ x ∷ []) k ≡ Some y
    → (slice_get xs k ≡ Some y) ⊎ ((k ≡ length xs) × (x ≡ y))
front_or_behind [] x y zero at = inr (refl, let e : Some x ≡ Some y = at in cc)
front_or_behind [] x y (suc k) at = let e : None ≡ Some y = at in absurd cc
front_or_behind (z ∷ zs) x y zero at = inl at
front_or_behind (z ∷ zs) x y (suc k) at = elim (front_or_behind zs x y k at) [
  | inl before ↦ inl before
  | inr last ↦ inr (ap suc last.0, last.1)
]

module _ {D : Type 0} (g : Ghosts D) where
  -- ---- what a cell goes on from

  pub gone_self : (t : Scenario) (c : CellValue D) → HasGoneOn g (origin_of g t c) c
  gone_self t c = record {
    catalog = refl;
    site = refl;
    layout = refl;
    told = refl;
    arms = refl;
    outs = refl;
    places = omega arith;
    ins = refl;
    more = λ from. omega arith;
    here = λ client. refl;
    connected = λ client bytes is. is;
    answered = λ client first are. are;
  }

  pub gone_further : (o : Origin) (a b : CellValue D) → HasGoneOn g o a → cell.Keeps g a b
      → arms_under g b.node.disk ≡ arms_under g a.node.disk → HasGoneOn g o b
  gone_further o a b gone keeps arms = record {
    catalog = keeps.node.catalog ∙ gone.catalog;
    site = keeps.node.site ∙ gone.site;
    layout = keeps.node.layout ∙ gone.layout;
    told = keeps.node.told ∙ gone.told;
    arms = arms ∙ gone.arms;
    outs = keeps.node.rings ∙ gone.outs;
    places = let one = gone.places in let two = keeps.node.places in omega (arith, one, two);
    ins = keeps.ins ∙ gone.ins;
    more = λ from. let a = gone.more from in let b = keeps.more from in omega (arith, a, b);
    here = λ client. keeps.here client ∙ gone.here client;
    connected = λ client bytes is. keeps.connected client bytes (gone.connected client bytes is);
    answered = λ client first are. keeps.answered client first (gone.answered client first are);
  }

  -- so it keeps what a call keeps
  pub gone_keeps : (t : Scenario) (a b : CellValue D) → HasGoneOn g (origin_of g t a) b → cell.Keeps g a b
  gone_keeps t a b gone = record {
    node = record {
      catalog = gone.catalog;
      site = gone.site;
      layout = gone.layout;
      told = gone.told;
      rings = gone.outs;
      places = gone.places;
    };
    ins = gone.ins;
    more = gone.more;
    here = gone.here;
    connected = gone.connected;
    answered = gone.answered;
  }

  -- what is held goes on, where the cell keeps, its arms stay, and it is at work
  pub held_further : (origins : List Origin) (i : ℕ) (a b : CellValue D) (p q : PumpValue)
      → (is : IsHeld g origins i (record { cell = a; pump = p })) → cell.Keeps g a b
      → arms_under g b.node.disk ≡ arms_under g a.node.disk → IsAtWork g is.origin.scenario (site_at i) b q
      → IsHeld g origins i (record { cell = b; pump = q })
  held_further origins i a b p q is keeps arms works = record {
    origin = is.origin;
    there = is.there;
    gone_on = gone_further is.origin a b is.gone_on keeps arms;
    works = works;
  }

  -- so where it was made anew, or memory ran out
  pub held_raised : (origins : List Origin) (i : ℕ) (a b : CellValue D) (p : PumpValue) (r : Result Acted NoMemory)
      → IsHeld g origins i (record { cell = a; pump = p }) → cell.Keeps g a b
      → arms_under g b.node.disk ≡ arms_under g a.node.disk
      → (is_told g a.node.disk ≡ true → (standing_of a.node).up ≡ false)
      → IfOk r (cell.Acts Restart (clock_in a.node) a.node.trail b.node.trail) → OnErr r (b.node.trail ≡ a.node.trail)
      → IsHeld g origins i (record { cell = b; pump = p })
  held_raised origins i a b p r is keeps arms down acts kept =
      held_further origins i a b p p is keeps arms
      (works_raised g is.origin.scenario (site_at i) a b p r keeps down acts kept is.works)

  -- ---- what is held of all

  -- cells that work are held where they are shared
  pub held_first : (t : Scenario) (origins : List Origin) (bench : BenchValue D) (pumps : List PumpValue)
      → origins ≡ origins_of g t bench.cells → IsBench bench → CanWork g t bench pumps → AreHeld g origins bench.cells pumps
  held_first t origins bench pumps are is can i c p at pumped =
      let pump = can.are.each i p pumped in
      let cell = is.cells i c at in
      record {
        origin = origin_of g t c;
        there = ap (λ (os : List Origin). slice_get os i) are
            ∙ (slice_get-map (origin_of g t) bench.cells i ∙ ap (option_map (origin_of g t)) at);
        gone_on = gone_self t c;
        works = record {
          catalog = can.of.catalogs i c at;
          site = cell.site;
          ins = cell.ins ∙ can.of.sites;
          few = (let few = is.few in let sites = can.of.sites in omega (arith, few, sites));
          pump_site = pump.site;
          senders = pump.senders ∙ can.of.sites;
          taken = λ from. subst (λ (ins : List Receiving). taken_from p from ≤ length (arrived_from ins from))
              (field_at (λ (c : CellValue D). c.ins) bench.cells i c [] at) (pump.taken from);
          working = can.working i c p at pumped;
        };
      }

  -- the first ones are
  pub held_front : (origins : List Origin) (cells : List (CellValue D)) (pumps : List PumpValue) (longer : List (CellValue D))
      (pumped : List PumpValue) (more : List (CellValue D)) (besides : List PumpValue) → longer ≡ cells ++ more
      → pumped ≡ pumps ++ besides → AreHeld g origins longer pumped → AreHeld g origins cells pumps
  held_front origins cells pumps longer pumped more besides is are held i c p at here =
      held i c p (ap (λ (cs : List (CellValue D)). slice_get cs i) is ∙ front_of cells more i c at)
      (ap (λ (ps : List PumpValue). slice_get ps i) are ∙ front_of pumps besides i p here)

  -- the last one is
  pub held_last : (origins : List Origin) (i : ℕ) (cells : List (CellValue D)) (pumps : List PumpValue)
      (longer : List (CellValue D)) (pumped : List PumpValue) (c : CellValue D) (p : PumpValue) → length cells ≡ i
      → length pumps ≡ i → longer ≡ cells ++ c ∷ [] → pumped ≡ pumps ++ p ∷ [] → AreHeld g origins longer pumped
      → IsHeld g origins i (record { cell = c; pump = p })
  held_last origins i cells pumps longer pumped c p long as_long is are held =
      held i c p
      (ap (λ (cs : List (CellValue D)). slice_get cs i) is ∙ (ap (slice_get (cells ++ c ∷ [])) (sym long) ∙ one_behind cells c))
      (ap (λ (ps : List PumpValue). slice_get ps i) are ∙ (ap (slice_get (pumps ++ p ∷ [])) (sym as_long) ∙ one_behind pumps p))

  -- and one more
  pub held_more : (origins : List Origin) (i : ℕ) (cells : List (CellValue D)) (pumps : List PumpValue)
      (longer : List (CellValue D)) (pumped : List PumpValue) (c : CellValue D) (p : PumpValue) → length cells ≡ i
      → length pumps ≡ i → longer ≡ cells ++ c ∷ [] → pumped ≡ pumps ++ p ∷ [] → AreHeld g origins cells pumps
      → IsHeld g origins i (record { cell = c; pump = p }) → AreHeld g origins longer pumped
  held_more origins i cells pumps longer pumped c p long as_long is are held one k x y at here =
      elim (front_or_behind cells c x k (ap (λ (cs : List (CellValue D)). slice_get cs k) (sym is) ∙ at)) [
        | inl before ↦
            elim (front_or_behind pumps p y k (ap (λ (ps : List PumpValue). slice_get ps k) (sym are) ∙ here)) [
              | inl as_before ↦ held k x y before as_before
              | inr last ↦
                  let within = slice_get_within cells k x before in
                  let e = last.0 in absurd (omega (arith, within, e, long, as_long))
            ]
        | inr last ↦
            elim (front_or_behind pumps p y k (ap (λ (ps : List PumpValue). slice_get ps k) (sym are) ∙ here)) [
              | inl as_before ↦
                  let within = slice_get_within pumps k y as_before in
                  let e = last.0 in absurd (omega (arith, within, e, long, as_long))
              | inr as_last ↦
                  subst (λ (n : ℕ). IsHeld g origins n (record { cell = x; pump = y })) (sym (last.0 ∙ long))
                  (subst (λ (z : CellValue D). IsHeld g origins i (record { cell = z; pump = y })) last.1
                  (subst (λ (q : PumpValue). IsHeld g origins i (record { cell = c; pump = q })) as_last.1 one))
            ]
      ]

  -- ---- the bench of cells that have gone on

  module _ (origins : List Origin) (homes : List SiteId) (cells : List (CellValue D)) (pumps : List PumpValue)
      (was : IsBench (bench_before origins homes)) (long : length cells ≡ length origins)
      (as_long : length pumps ≡ length origins) (held : AreHeld g origins cells pumps) where
    abbrev before : List (CellValue (Unit {0}))
    before = map (λ (o : Origin). o.cell) origins

    -- each has its origin
    from_origin : (i : ℕ) (c : CellValue D) → slice_get cells i ≡ Some c
        → (o : Origin) × (slice_get before i ≡ Some o.cell) × HasGoneOn g o c
    from_origin i c at =
        let within = slice_get_within cells i c at in
        let p = there_is pumps i (omega (arith, within, long, as_long)) in
        let is = held i c p.0 at p.1 in
        (is.origin, slice_get-map (λ (o : Origin). o.cell) origins i ∙ ap (option_map (λ (o : Origin). o.cell)) is.there, is.gone_on)

    outs_ring : (from to : ℕ) → from < length cells → ring_to (outs_at cells from) to ≡ ring_to (outs_at before from) to
    outs_ring from to within =
        let c = there_is cells from within in
        let o = from_origin from c.0 c.1 in
        ap (λ (os : List Sending). ring_to os to) (field_at (λ (c : CellValue D). c.node.outs) cells from c.0 [] c.1)
        ∙ (ap (λ (rs : List Ring). slice_index_or rs to no_ring) o.2.outs
        ∙ ap (λ (os : List Sending). ring_to os to)
        (sym (field_at (λ (c : CellValue (Unit {0})). c.node.outs) before from o.0.cell [] o.1)))

    ins_ring : (to from : ℕ) → to < length cells → ring_from (ins_at cells to) from ≡ ring_from (ins_at before to) from
    ins_ring to from within =
        let c = there_is cells to within in
        let o = from_origin to c.0 c.1 in
        ap (λ (is : List Receiving). ring_from is from) (field_at (λ (c : CellValue D). c.ins) cells to c.0 [] c.1)
        ∙ (ap (λ (rs : List Ring). slice_index_or rs from no_ring) o.2.ins
        ∙ ap (λ (is : List Receiving). ring_from is from)
        (sym (field_at (λ (c : CellValue (Unit {0})). c.ins) before to o.0.cell [] o.1)))

    pub bench_again : IsBench (record { cells = cells; homes = homes })
    bench_again =
        let l : length before ≡ length cells = length-map origins (λ (o : Origin). o.cell) ∙ sym long in
        record {
          few = let f = was.few in omega (arith, f, l);
          cells = λ i c at.
              let o = from_origin i c at in
              let is = subst (λ (n : ℕ). IsCellAt {D = Unit {0}} n homes (site_at i) o.0.cell) l (was.cells i o.0.cell o.1) in
              let gone = o.2 in
              record {
                site = gone.site ∙ is.site;
                sites_are = ap (λ c. c.sites) gone.catalog ∙ is.sites_are;
                outs = outs_long c.node.outs o.0.cell.node.outs gone.outs ∙ is.outs;
                ins = ins_long c.ins o.0.cell.ins gone.ins ∙ is.ins;
                here = λ client. gone.here client ∙ is.here client;
              };
          lanes = λ to from below within.
              outs_ring from to within
              ∙ (was.lanes to from (omega (arith, below, l)) (omega (arith, within, l)) ∙ sym (ins_ring to from below));
          within = subst (λ (n : ℕ). All (λ (home : SiteId). home.0 < n) homes) l was.within;
        }

  -- ---- the bench as it was, without its disks

  module _ (t : Scenario) (origins : List Origin) (homes : List SiteId) (cells : List (CellValue D))
      (are : origins ≡ origins_of g t cells) (is : IsBench (record { cells = cells; homes = homes })) where
    abbrev first : List (CellValue (Unit {0}))
    first = map (λ (o : Origin). o.cell) origins

    first_long : length first ≡ length cells
    first_long = length-map origins (λ (o : Origin). o.cell) ∙ (ap length are ∙ length-map cells (origin_of g t))

    at_place : (i : ℕ) (c : CellValue D) → slice_get cells i ≡ Some c → slice_get first i ≡ Some (bare c)
    at_place i c at =
        slice_get-map (λ (o : Origin). o.cell) origins i
        ∙ (ap (λ (os : List Origin). option_map (λ (o : Origin). o.cell) (slice_get os i)) are
        ∙ ap (λ (x : Option Origin). option_map (λ (o : Origin). o.cell) x)
        (slice_get-map (origin_of g t) cells i ∙ ap (option_map (origin_of g t)) at))

    first_outs : (from to : ℕ) → from < length cells → ring_to (outs_at first from) to ≡ ring_to (outs_at cells from) to
    first_outs from to within =
        let c = there_is cells from within in
        ap (λ (os : List Sending). ring_to os to)
        (field_at (λ (c : CellValue (Unit {0})). c.node.outs) first from (bare c.0) [] (at_place from c.0 c.1)
        ∙ sym (field_at (λ (c : CellValue D). c.node.outs) cells from c.0 [] c.1))

    first_ins : (to from : ℕ) → to < length cells → ring_from (ins_at first to) from ≡ ring_from (ins_at cells to) from
    first_ins to from within =
        let c = there_is cells to within in
        ap (λ (is : List Receiving). ring_from is from)
        (field_at (λ (c : CellValue (Unit {0})). c.ins) first to (bare c.0) [] (at_place to c.0 c.1)
        ∙ sym (field_at (λ (c : CellValue D). c.ins) cells to c.0 [] c.1))

    pub bench_bare : IsBench (bench_before origins homes)
    bench_bare =
        let l = first_long in
        record {
          few = let f = is.few in omega (arith, f, l);
          cells = λ i o at.
              let within = slice_get_within first i o at in
              let c = there_is cells i (omega (arith, within, l)) in
              let same = one_there first i (bare c.0) o (at_place i c.0 c.1) at in
              let was = is.cells i c.0 c.1 in
              subst (λ (x : CellValue (Unit {0})). IsCellAt {D = Unit {0}} (length first) homes (site_at i) x) same
              (subst (λ (n : ℕ). IsCellAt {D = Unit {0}} n homes (site_at i) (bare c.0)) (sym l) (record {
                site = was.site;
                sites_are = was.sites_are;
                outs = was.outs;
                ins = was.ins;
                here = was.here;
              }));
          lanes = λ to from below within.
              first_outs from to (omega (arith, within, l))
              ∙ (is.lanes to from (omega (arith, below, l)) (omega (arith, within, l)) ∙ sym (first_ins to from (omega (arith, below, l))));
          within = subst (λ (n : ℕ). All (λ (home : SiteId). home.0 < n) homes) (sym l) is.within;
        }

-- ---- what comes out of the locks

module _ {D : Type 0} (g : Ghosts D) (t : Scenario) (origins : List Origin) (old new : BenchValue D) (pumps : List PumpValue)
    (are : origins ≡ origins_of g t old.cells) (long : length new.cells ≡ length origins) (as_long : length pumps ≡ length origins)
    (held : AreHeld g origins new.cells pumps) where
  as_many : length origins ≡ length old.cells
  as_many = ap length are ∙ length-map old.cells (origin_of g t)

  -- each has gone on from the one that was at its place
  gone_from : (i : ℕ) (a b : CellValue D) (p : PumpValue) → slice_get old.cells i ≡ Some a → slice_get new.cells i ≡ Some b
      → slice_get pumps i ≡ Some p → HasGoneOn g (origin_of g t a) b × IsAtWork g t (site_at i) b p
  gone_from i a b p was now pumped =
      let is = held i b p now pumped in
      let there : slice_get origins i ≡ Some (origin_of g t a) =
      ap (λ (os : List Origin). slice_get os i) are ∙ (slice_get-map (origin_of g t) old.cells i ∙ ap (option_map (origin_of g t)) was) in
      let same : is.origin ≡ origin_of g t a = one_there origins i is.origin (origin_of g t a) is.there there in (
        subst (λ (o : Origin). HasGoneOn g o b) same is.gone_on,
        subst (λ (o : Origin). IsAtWork g o.scenario (site_at i) b p) same is.works,
      )

  -- all keep what a call keeps
  pub all_gone : EachKeeps g old.cells new.cells
  all_gone =
      let first = as_many in
      record {
        long = long ∙ first;
        each = λ i a b was now.
            let within = slice_get_within new.cells i b now in
            let p = there_is pumps i (omega (arith, within, long, as_long)) in
            gone_keeps g t a b (gone_from i a b p.0 was now p.1).0;
      }

  -- and their arms
  pub all_arms : KeepsArms (moment_of g old.cells) (moment_of g new.cells)
  all_arms i =
      let first = as_many in
      elim (cases_lt i (length old.cells)) [
        | inl within ↦
            let a = there_is old.cells i within in
            let b = there_is new.cells i (omega (arith, within, long, first)) in
            let p = there_is pumps i (omega (arith, within, as_long, first)) in
            field_at (λ (c : CellValue D). arms_under g c.node.disk) new.cells i b.0 None b.1
            ∙ ((gone_from i a.0 b.0 p.0 a.1 b.1 p.1).0.arms
            ∙ sym (field_at (λ (c : CellValue D). arms_under g c.node.disk) old.cells i a.0 None a.1))
        | inr past ↦
            field_past (λ (c : CellValue D). arms_under g c.node.disk) new.cells i None (omega (arith, past, long, first))
            ∙ sym (field_past (λ (c : CellValue D). arms_under g c.node.disk) old.cells i None past)
      ]

  -- and they can work on
  pub all_work : new.homes ≡ old.homes → IsOf t old → CanWork g t new pumps
  all_work homes of =
      let first = as_many in
      let now = of_each g old new all_gone t homes of in
      let at_work : (i : ℕ) (b : CellValue D) (p : PumpValue) → slice_get new.cells i ≡ Some b → slice_get pumps i ≡ Some p
      → IsAtWork g t (site_at i) b p =
      λ i b p at pumped.
      let within = slice_get_within new.cells i b at in
      let a = there_is old.cells i (omega (arith, within, long, first)) in
      (gone_from i a.0 b p a.1 at pumped).1 in
      record {
        of = now;
        are = record {
          long = as_long ∙ sym long;
          each = λ i p pumped.
              let within = slice_get_within pumps i p pumped in
              let b = there_is new.cells i (omega (arith, within, long, as_long)) in
              let works = at_work i b.0 p b.1 pumped in
              record {
                site = works.pump_site;
                senders = works.senders ∙ sym now.sites;
                taken = λ from. subst (λ (ins : List Receiving). taken_from p from ≤ length (arrived_from ins from))
                    (sym (field_at (λ (c : CellValue D). c.ins) new.cells i b.0 [] b.1)) (works.taken from);
              };
        };
        working = λ i b p at pumped. (at_work i b p at pumped).working;
      }

module _ (origins : List Origin) (homes : List SiteId) (client i : ℕ) (home : SiteId)
    (was : IsBench (bench_before origins homes)) (at : slice_get homes client ≡ Some home) (is : home.0 ≡ i) where
  -- a client whose home is this site has its connection there
  pub here_at_home : (o : Origin) → slice_get origins i ≡ Some o → is_here o.cell.lines client ≡ true
  here_at_home o there =
      let before = map (λ (o : Origin). o.cell) origins in
      let c : slice_get before i ≡ Some o.cell =
      slice_get-map (λ (o : Origin). o.cell) origins i ∙ ap (option_map (λ (o : Origin). o.cell)) there in
      let same : home ≡ site_at i = ap (λ (n : ℕ). site_at n) is in
      (was.cells i o.cell c).here client
      ∙ (ap (λ (h : Option SiteId). is_site h (site_at i)) at ∙ (ap (λ (h : SiteId). is_site (Some h) (site_at i)) same ∙ same_site_refl (site_at i)))

  -- and the site is one of those that there are
  pub is_there : (locked : Bool) → locked ≡ nat_lt i (length origins) → locked ≡ true
  is_there locked test =
      let l = length-map origins (λ (o : Origin). o.cell) in
      let within = home_within homes (length (map (λ (o : Origin). o.cell) origins)) client home at was.within in
      test ∙ lt-ltb i (length origins) (omega (arith, within, is, l))
