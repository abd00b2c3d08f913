-- What calls of cells and of benches keep, and what follows of it.
use Rattle.std.proofs.Common.{◌≡◌, ℕ, ◌<◌, ◌≤◌, List, [], length, slice_get, refl, ap, sym, ◌∙◌, subst, arith, Option, Some, true, inl, inr}
use Rattle.std.specs.Prelude.{slice_index_or, All, Vec}
use Rattle.std.specs.declared.alloc.Global.{Global}
use Rattle.std.proofs.lemmas.Bool.{cases_eq, cases_lt}
use Rattle.std.proofs.lemmas.List.{length-map}
use Rattle.std.proofs.lemmas.List.Elements.{All-contains}
use Rattle.std.proofs.lemmas.Option.{slice_get_within}
use Rattle.walter_base.proofs.NameTests.{same_site_refl}
use Rattle.walter_base.specs.declared.names.SiteId.{SiteId}
use Rattle.walter_cell.specs.Cells.{CellValue}
use Rattle.walter_cell.specs.Cells as cell
use Rattle.walter_cell.specs.Nodes.{capacity_of}
use Rattle.walter_disk.specs.declared.disk.Disk.{Ghosts}
use Rattle.walter_lane.specs.Lanes.{Sending, Receiving}
use Rattle.walter_lane.specs.Rings.{Ring}
use Rattle.walter_outbox.specs.Lanes.{arrived_from, ring_to, ring_from, no_ring, out_rings, in_rings}
use Rattle.walter_psi.proofs.Lists.{contains_at}
use Rattle.walter_rules.specs.Knowledge.{site_at}
use Rattle.walter_scenario.specs.declared.scenario.Scenario.{Scenario}
use Rattle.walter_cluster.specs.Benches.{BenchValue, IsCellAt, IsBench, IsOf, AreConnected, AreAnswered, AreAllConnected, AreAllAnswered, AtEach, EachKeeps, Keeps, IsToldAt, HasRoom, outs_at, ins_at, is_site, is_home}
use Rattle.walter_cluster.specs.Meetings.{HaveLanes}
use Rattle.walter_cluster.specs.Pumps.{IsPumpAt}
use Rattle.walter_link.specs.Pumps.{PumpValue}
use Rattle.walter_cluster.proofs.Becoming.{become_self, become_on, become_same}
use Rattle.walter_cluster.proofs.Changes.{there_is, one_there, field_at, field_past, ChangesOne}

-- as many ends, by their rings
pub outs_long : (a b : List Sending) → out_rings a ≡ out_rings b → length a ≡ length b
outs_long a b same = sym (length-map a (λ (o : Sending). o.ring)) ∙ (ap length same ∙ length-map b (λ (o : Sending). o.ring))

pub ins_long : (a b : List Receiving) → in_rings a ≡ in_rings b → length a ≡ length b
ins_long a b same = sym (length-map a (λ (o : Receiving). o.ring)) ∙ (ap length same ∙ length-map b (λ (o : Receiving). o.ring))

-- a client's home is one of the sites
pub home_within : (homes : List SiteId) (sites number : ℕ) (home : SiteId) → slice_get homes number ≡ Some home
    → All (λ (home : SiteId). home.0 < sites) homes → home.0 < sites
home_within homes sites number home at all =
    All-contains (λ (home : SiteId). home.0 < sites) homes home all (contains_at homes home number at)

pub home_here : (homes : List SiteId) (number : ℕ) (home : SiteId) → slice_get homes number ≡ Some home
    → is_home homes number home ≡ true
home_here homes number home at = ap (λ (o : Option SiteId). is_site o home) at ∙ same_site_refl home

module _ {D : Type 0} (g : Ghosts D) where
  -- ---- one cell

  pub keeps_self : (c : CellValue D) → cell.Keeps g c c
  keeps_self c = record {
    node = record { catalog = refl; site = refl; layout = refl; told = refl; rings = refl; places = omega arith };
    ins = refl;
    more = λ from. omega arith;
    here = λ client. refl;
    connected = λ client bytes is. is;
    answered = λ client first are. are;
  }

  pub keeps_on : (a b c : CellValue D) → cell.Keeps g a b → cell.Keeps g b c → cell.Keeps g a c
  keeps_on a b c first second = record {
    node = record {
      catalog = second.node.catalog ∙ first.node.catalog;
      site = second.node.site ∙ first.node.site;
      layout = second.node.layout ∙ first.node.layout;
      told = second.node.told ∙ first.node.told;
      rings = second.node.rings ∙ first.node.rings;
      places = let one = first.node.places in let two = second.node.places in omega (arith, one, two);
    };
    ins = second.ins ∙ first.ins;
    more = λ from. let a = first.more from in let b = second.more from in omega (arith, a, b);
    here = λ client. second.here client ∙ first.here client;
    connected = λ client bytes is. second.connected client bytes (first.connected client bytes is);
    answered = λ client before are. second.answered client before (first.answered client before are);
  }

  -- ---- all cells

  pub each_self : (cells : List (CellValue D)) → EachKeeps g cells cells
  each_self cells = become_self (cell.Keeps g) keeps_self cells

  pub each_on : (old mid new : List (CellValue D)) → EachKeeps g old mid → EachKeeps g mid new → EachKeeps g old new
  each_on old mid new first second = become_on (cell.Keeps g) keeps_on old mid new first second

  -- where one is another
  pub each_one : (old new : List (CellValue D)) (i : ℕ) (a x : CellValue D) → ChangesOne old new i a x
      → cell.Keeps g a x → EachKeeps g old new
  each_one old new i a x one keeps = record {
    long = one.long;
    each = λ j b y at is. elim (cases_eq j i) [
      | inl same ↦
          let was = one_there old i a b one.was (ap (slice_get old) (sym same) ∙ at) in
          let now = one_there new i x y one.now (ap (slice_get new) (sym same) ∙ is) in
          subst (λ (c : CellValue D). cell.Keeps g c y) was (subst (λ (c : CellValue D). cell.Keeps g a c) now keeps)
      | inr apart ↦
          subst (λ (c : CellValue D). cell.Keeps g b c) (one_there new j b y (one.others j apart ∙ at) is) (keeps_self b)
    ];
  }

  module _ (old new : List (CellValue D)) (all : EachKeeps g old new) where
    -- what a cell keeps holds of each
    pub kept_each : (P : SiteId → CellValue D → Type 0)
        → ((i : SiteId) (a b : CellValue D) → cell.Keeps g a b → P i a → P i b) → AtEach old P → AtEach new P
    kept_each P by so i b at =
        let within = slice_get_within new i b at in
        let l = all.long in
        let a = there_is old i (omega (arith, within, l)) in
        by (site_at i) a.0 b (all.each i a.0 b a.1 at) (so i a.0 a.1)

    outs_ring : (from to : ℕ) → ring_to (outs_at new from) to ≡ ring_to (outs_at old from) to
    outs_ring from to =
        become_same (cell.Keeps g) old new all (λ (c : CellValue D). c.node.outs) (λ (os : List Sending). ring_to os to) []
        (λ a b is. ap (λ (rs : List Ring). slice_index_or rs to no_ring) is.node.rings) from

    ins_ring : (to from : ℕ) → ring_from (ins_at new to) from ≡ ring_from (ins_at old to) from
    ins_ring to from =
        become_same (cell.Keeps g) old new all (λ (c : CellValue D). c.ins) (λ (is : List Receiving). ring_from is from) []
        (λ a b is. ap (λ (rs : List Ring). slice_index_or rs from no_ring) is.ins) to

    -- no fewer packets have arrived
    pub more_arrived : (to from : ℕ) → length (arrived_from (ins_at old to) from) ≤ length (arrived_from (ins_at new to) from)
    more_arrived to from = elim (cases_lt to (length old)) [
      | inl within ↦
          let l = all.long in
          let a = there_is old to within in
          let b = there_is new to (omega (arith, within, l)) in
          let more = (all.each to a.0 b.0 a.1 b.1).more from in
          let was = ap (λ (is : List Receiving). length (arrived_from is from)) (field_at (λ (c : CellValue D). c.ins) old to a.0 [] a.1) in
          let now = ap (λ (is : List Receiving). length (arrived_from is from)) (field_at (λ (c : CellValue D). c.ins) new to b.0 [] b.1) in
          omega (arith, more, was, now)
      | inr past ↦
          let none = ap (λ (is : List Receiving). length (arrived_from is from)) (field_past (λ (c : CellValue D). c.ins) old to [] past) in
          omega (arith, none)
    ]

    -- a pump goes on
    pub pump_kept : (i : SiteId) (pump : PumpValue) → IsPumpAt old i pump → IsPumpAt new i pump
    pump_kept i pump is = record {
      site = is.site;
      senders = is.senders ∙ sym all.long;
      taken = λ from. let most = is.taken from in let more = more_arrived i.0 from in omega (arith, most, more);
    }

    -- the cells are those of a bench
    pub bench_kept : (homes : List SiteId) → IsBench (record { cells = old; homes = homes }) → IsBench (record { cells = new; homes = homes })
    bench_kept homes is =
        let l = all.long in
        record {
          few = let f = is.few in omega (arith, f, l);
          cells = kept_each (λ i c. IsCellAt (length new) homes i c)
              (λ i a b keeps was. record {
                site = keeps.node.site ∙ was.site;
                sites_are = ap (λ c. c.sites) keeps.node.catalog ∙ was.sites_are;
                outs = outs_long b.node.outs a.node.outs keeps.node.rings ∙ was.outs;
                ins = ins_long b.ins a.ins keeps.ins ∙ was.ins;
                here = λ client. keeps.here client ∙ was.here client;
              })
              (λ i c at. subst (λ (n : ℕ). IsCellAt {D = D} n homes (site_at i) c) (sym l) (is.cells i c at));
          lanes = λ to from below within.
              outs_ring from to ∙ (is.lanes to from (omega (arith, below, l)) (omega (arith, within, l)) ∙ sym (ins_ring to from));
          within = subst (λ (n : ℕ). All (λ (home : SiteId). home.0 < n) homes) (sym l) is.within;
        }

  -- each end has its place
  pub lanes_of : (bench : BenchValue D) → IsBench bench → HaveLanes bench.cells
  lanes_of bench is = record {
    outs = λ from to below within.
        let c = there_is bench.cells from below in
        let e = ap length (field_at (λ (c : CellValue D). c.node.outs) bench.cells from c.0 [] c.1) in
        let l = (is.cells from c.0 c.1).outs in omega (arith, e, l, within);
    ins = λ to from below within.
        let c = there_is bench.cells to below in
        let e = ap length (field_at (λ (c : CellValue D). c.ins) bench.cells to c.0 [] c.1) in
        let l = (is.cells to c.0 c.1).ins in omega (arith, e, l, within);
    rings = is.lanes;
    among = λ i c at. (is.cells i c at).sites_are;
  }

  -- ---- benches

  pub bench_self : (bench : BenchValue D) → Keeps g bench bench
  bench_self bench = record { cells = each_self bench.cells; homes = refl; met = λ met. met }

  pub bench_on : (a b c : BenchValue D) → Keeps g a b → Keeps g b c → Keeps g a c
  bench_on a b c first second = record {
    cells = each_on a.cells b.cells c.cells first.cells second.cells;
    homes = second.homes ∙ first.homes;
    met = λ met. second.met (first.met met);
  }

  -- where each cell keeps what a call keeps
  module _ (old new : BenchValue D) (all : EachKeeps g old.cells new.cells) where
    pub of_each : (t : Scenario) → new.homes ≡ old.homes → IsOf t old → IsOf t new
    of_each t homes is = record {
      sites = all.long ∙ is.sites;
      catalogs = kept_each old.cells new.cells all (λ i c. c.node.catalog ≡ t.catalog) (λ i a b kept was. kept.node.catalog ∙ was) is.catalogs;
      capacities = kept_each old.cells new.cells all (λ i c. capacity_of c.node.layout ≡ t.capacity)
          (λ i a b kept was. ap capacity_of kept.node.layout ∙ was) is.capacities;
      homes = homes ∙ is.homes;
    }

    pub connected_each : (t : Scenario) → AreAllConnected t old → AreAllConnected t new
    connected_each t are = kept_each old.cells new.cells all (λ i c. AreConnected t i c)
        (λ i a b kept was number client at here. kept.connected number client.bytes (was number client at here)) are

    pub answered_each : (t : Scenario) (before : ℕ → List ℕ) → AreAllAnswered t before old → AreAllAnswered t before new
    answered_each t before are = kept_each old.cells new.cells all (λ i c. AreAnswered t before i c)
        (λ i a b kept was number client at here. kept.answered number (before number) (was number client at here)) are

    pub told_each : (i : ℕ) → IsToldAt g i old → IsToldAt g i new
    told_each i told b at =
        let within = slice_get_within new.cells i b at in
        let l = all.long in
        let a = there_is old.cells i (omega (arith, within, l)) in
        (all.each i a.0 b a.1 at).node.told ∙ told a.0 a.1

  module _ (old new : BenchValue D) (keeps : Keeps g old new) where
    pub of_kept : (t : Scenario) → IsOf t old → IsOf t new
    of_kept t is = of_each old new keeps.cells t keeps.homes is

    pub connected_kept : (t : Scenario) → AreAllConnected t old → AreAllConnected t new
    connected_kept = connected_each old new keeps.cells

    pub answered_kept : (t : Scenario) (before : ℕ → List ℕ) → AreAllAnswered t before old → AreAllAnswered t before new
    answered_kept = answered_each old new keeps.cells

    pub told_kept : (i : ℕ) → IsToldAt g i old → IsToldAt g i new
    told_kept = told_each old new keeps.cells

  -- ---- what a bench holds besides, for its closing

  pub whole_kept : (old new : List (CellValue D)) (homes : List SiteId) {X Y Z : Type 0} (xs : Vec X Global) (ys : Vec Y Global)
      (zs : Vec Z Global) → EachKeeps g old new
      → IsBench (record { cells = old; homes = homes }) × HasRoom (length old) xs × HasRoom (length old) ys × HasRoom (length old) zs
      → IsBench (record { cells = new; homes = homes }) × HasRoom (length new) xs × HasRoom (length new) ys × HasRoom (length new) zs
  whole_kept old new homes xs ys zs all is = (
    bench_kept old new all homes is.0,
    subst (λ (n : ℕ). HasRoom n xs) (sym all.long) is.1,
    subst (λ (n : ℕ). HasRoom n ys) (sym all.long) is.2,
    subst (λ (n : ℕ). HasRoom n zs) (sym all.long) is.3,
  )
