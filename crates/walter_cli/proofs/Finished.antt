-- What a run comes to whose bench was built over the disks of a rack, driven, and taken apart.
use Rattle.std.proofs.Common.{◌≡◌, ℕ, ◌<◌, ◌≤◌, List, [], ◌++◌, length, map, slice_get, reverse, Option, Some, None, option_map, refl, ap, sym, ◌∙◌, subst, arith, inl, inr}
use Rattle.std.specs.Prelude.{IfSome, count_by}
use Rattle.std.proofs.lemmas.List.{length-map}
use Rattle.std.proofs.lemmas.Option.{IfSome_then, slice_get-map, slice_get_within}
use Rattle.walter_base.specs.declared.catalog.Catalog.{Catalog}
use Rattle.walter_base.specs.declared.format.Format.{Format}
use Rattle.walter_base.specs.declared.names.SiteId.{SiteId}
use Rattle.walter_cell.specs.Cells.{CellValue, IsCell}
use Rattle.walter_cell.specs.Entries.{HaveRisingStamps}
use Rattle.walter_cell.specs.Nodes.{IsSound, LeavesRecords as LeavesOn, arms_under}
use Rattle.walter_cluster.specs.Benches.{BenchValue, EachKeeps, IsLaidFor, IsOf, IsBench, IsToldAt, AtEach, arms_at, calls_at, shape_of, trails_of, disks_of}
use Rattle.walter_cluster.specs.Builds.{LeavesDisk}
use Rattle.walter_cluster.specs.Moments.{moment_of}
use Rattle.walter_cluster.proofs.Changes.{there_is}
use Rattle.walter_cluster.proofs.Keeping.{of_each, connected_each, told_each}
use Rattle.walter_disk.specs.Disks.{Arming, asked}
use Rattle.walter_disk.specs.declared.disk.Disk.{Ghosts}
use Rattle.walter_engine.specs.Begins.{HasNoRecord}
use Rattle.walter_linked.specs.Catalogs.{IsWhole}
use Rattle.walter_machine.specs.Comings.{is_faulty}
use Rattle.walter_play.specs.Scripts.{ArmsMore, AreArmed, arms_for, arms_of, all_arms}
use Rattle.walter_play.proofs.Arming.{for_more}
use Rattle.walter_rules.specs.declared.entry.Entry.{Entry}
use Rattle.walter_rules.specs.Knowledge.{site_at}
use Rattle.walter_rules.specs.Layouts.{Layout, header_of}
use Rattle.walter_rules.specs.Merges.{AreLinked}
use Rattle.walter_scenario.specs.declared.scenario.Arm.{Arm}
use Rattle.walter_scenario.specs.declared.scenario.Scenario.{Scenario}
use Rattle.walter_cli.specs.declared.ended.Fault.{Fault}
use Rattle.walter_cli.specs.declared.ended.Fault.TheVariants.{Usage, Scenario as ScenarioFault, Read, Write, Memory, Rack, Journal}
use Rattle.walter_cli.specs.Disks.{AreGiven}
use Rattle.walter_cli.specs.Ending.{Drives, IsBuilt, IsWholeBack, IsWriteFault, EndsRun}
use Rattle.walter_cli.specs.Headline.{AreCallsBegun, AreCallsOf, AreTold, HaveHeaders, LeavesRecords, IsDiskOfRun, IsDiskOfWhole, IsRun, IsWholeRun, trail_at}
use Rattle.walter_cli.specs.Racks.{RackAt, Racked, Holds, IsTold, racked}
use Rattle.walter_cli.specs.Words.{written_by}
use Rattle.walter_words.specs.declared.asked.Command.{Command}
use Rattle.walter_cli.proofs.Driven.{armed_by, driven_from, driven_by_fewer}
use Rattle.walter_cli.proofs.Giving.{IsReturned, handed_back, all_back, all_or_failed, calls_told, holds_taken, told_reads}
use Rattle.walter_cli.proofs.Trails.{field_of, field_at, trail_is, one_each, begins, stamps_rise, calls_are, told_trails}

-- ---- disks

-- what of a disk that there may be holds, holds of the disk
of_disk : {D : Type 0} (found : Option D) (disk : D) (P : D → Type 0) → found ≡ Some disk → IfSome found P → P disk
of_disk found disk P is holds = subst (λ o. IfSome o P) is holds

-- what the arms ask for that were laid from none on
asked_from : (before after : Option (List Arming)) (laid : List Arming) (arms : List (ℕ × ℕ)) → map asked laid ≡ arms
    → IfSome before (λ told. told ≡ []) → after ≡ option_map (λ told. told ++ laid) before
    → IfSome after (λ told. map asked told ≡ arms)
asked_from None after laid arms are none is = subst (λ o. IfSome o (λ told. map asked told ≡ arms)) (sym is) tt
asked_from (Some told) after laid arms are none is =
    subst (λ o. IfSome o (λ t. map asked t ≡ arms)) (sym is) (ap (λ (t : List Arming). map asked (t ++ laid)) none ∙ are)

arms_front : (after : Option (List Arming)) (t : Scenario) (i : ℕ) (some more : List Arm)
    → t.arms ++ arms_of t.steps ≡ some ++ more → IfSome after (λ told. map asked told ≡ arms_for i some)
    → IfSome after (λ arms. (rest : List (ℕ × ℕ)) × (all_arms t i ≡ map asked arms ++ rest))
arms_front None t i some more all is = tt
arms_front (Some told) t i some more all is = (
  arms_for i more,
  ap (λ a. arms_for i a) all ∙ (for_more i some more ∙ ap (λ l. l ++ arms_for i more) (sym is)),
)

-- the arms of the disks of a bench that was built are those of the disks that it was built over
pub arms_built : {D : Type 0} (g : Ghosts D) (t : Scenario) (bench : BenchValue D) (i : ℕ) (disk now : D)
    → slice_get (disks_of bench.cells) i ≡ Some (Some now) → LeavesDisk g t disk now → arms_at g bench.cells i ≡ (g.known disk).arms
arms_built {D = D} g t bench i disk now at left =
    let cell = field_of (λ (c : CellValue D). c.node.disk) bench.cells i (Some now) at in
    field_at (λ (c : CellValue D). arms_under g c.node.disk) bench.cells i cell.0 None cell.1
    ∙ (ap (λ (o : Option D). arms_under g o) cell.2 ∙ left.arms)

-- ---- runs

module _ {D : Type 0} (g : Ghosts D) (t : Scenario) (before mid after : RackAt D) (built bench : BenchValue D)
    (back : List D) (trails : List (List Entry))
    (has : IsBuilt g before mid t built)
    (keeps : EachKeeps g built.cells bench.cells)
    (homes : bench.homes ≡ built.homes)
    (is : IsBench bench)
    (sound : AtEach bench.cells (λ i c. IsSound g c.node × IsCell c))
    (more : ArmsMore (moment_of g built.cells) (moment_of g bench.cells) (t.arms ++ arms_of t.steps))
    (trails_are : trails ≡ trails_of bench.cells)
    (disks_are : map (λ (d : D). Some d) back ≡ disks_of bench.cells)
    (linked : AreLinked trails)
    (gives : AreGiven mid after 0 back) where
  abbrev rack : Racked
  rack = racked g before after

  of : IsOf t bench
  of = of_each g built bench keeps t homes has.of

  -- as many disks as sites
  long_back : length back ≡ t.catalog.sites
  long_back =
      sym (length-map back (λ (d : D). Some d))
      ∙ (ap length disks_are ∙ (length-map bench.cells (λ (c : CellValue D). c.node.disk) ∙ of.sites))

  long_taken : length has.disks ≡ t.catalog.sites
  long_taken = has.many

  pub returned : IsReturned g before mid after has.disks back
  returned = record {
    told = has.taken.told;
    fresh = has.taken.fresh;
    same_given = has.taken.given;
    same_handed = has.taken.handed;
    many = has.taken.taken;
    level = (let e = has.taken.faults in omega (arith, e));
    long = long_back ∙ sym long_taken;
    gives = gives;
  }

  -- the disk that was taken for a site
  taken_at : (i : ℕ) → i < t.catalog.sites → (disk : D) × (slice_get has.disks i ≡ Some disk)
  taken_at i below = there_is has.disks i (let l = long_taken in omega (arith, below, l))

  -- where it is told, its site is
  told_at : (i : ℕ) → i < t.catalog.sites → IsTold rack i → IsToldAt g i bench
  told_at i below told =
      let was = taken_at i below in
      told_each g built bench keeps i (has.told i was.0 was.1 (told_reads g before.disks i was.0 (has.taken.told i was.0 was.1) told))

  -- the cell whose disk is given back
  cell_of : (i : ℕ) (disk : D) → slice_get back i ≡ Some disk
      → (cell : CellValue D) × (slice_get bench.cells i ≡ Some cell) × (cell.node.disk ≡ Some disk)
  cell_of i disk at =
      field_of (λ (c : CellValue D). c.node.disk) bench.cells i (Some disk)
      (ap (λ xs. slice_get xs i) (sym disks_are)
      ∙ (slice_get-map (λ (d : D). Some d) back i ∙ ap (λ o. option_map (λ (d : D). Some d) o) at))

  below_back : (i : ℕ) (disk : D) → slice_get back i ≡ Some disk → i < t.catalog.sites
  below_back i disk at = let w = slice_get_within back i disk at in let l = long_back in omega (arith, w, l)

  -- the trail of the cell of a site
  trail_of_cell : (i : ℕ) (cell : CellValue D) → slice_get bench.cells i ≡ Some cell → trail_at trails i ≡ cell.node.trail
  trail_of_cell i cell at = ap (λ ts. trail_at ts i) trails_are ∙ trail_is g t bench of is sound i cell at

  -- the disk of a site failed as often as its trail says
  faults_at : (i : ℕ) (disk : D) → slice_get back i ≡ Some disk
      → count_by (λ e. is_faulty e.came.outcome) (trail_at trails i) ≤ (g.known disk).faults
  faults_at i disk at =
      let cell = cell_of i disk at in
      subst (λ (es : List Entry). count_by (λ e. is_faulty e.came.outcome) es ≤ (g.known disk).faults)
      (sym (trail_of_cell i cell.0 cell.1)) (of_disk cell.0.node.disk disk _ cell.2 (sound i cell.0 cell.1).0.faults)

  -- the journal of a cell is laid out as it was when its site began
  laid_at : (i : ℕ) (cell : CellValue D) → slice_get bench.cells i ≡ Some cell
      → Holds rack i (λ bytes. IsLaidFor t bytes cell.node.layout)
  laid_at i cell at =
      let within = slice_get_within bench.cells i cell at in
      let first = there_is built.cells i (let l = keeps.long in omega (arith, within, l)) in
      let was = taken_at i (let l = has.of.sites in let w = slice_get_within built.cells i first.0 first.1 in omega (arith, w, l)) in
      let same : cell.node.layout ≡ first.0.node.layout = (keeps.each i first.0 cell first.1 at).node.layout in
      holds_taken g before.disks i was.0 (has.taken.told i was.0 was.1) (λ bytes. IsLaidFor t bytes cell.node.layout)
      (subst (λ (l : Layout). IfSome (g.known was.0).reads (λ bytes. IsLaidFor t bytes l)) (sym same)
      (has.laid i was.0 first.0 was.1 first.1))

  -- where it is told, a crash leaves the records of the trail
  records_at : (i : ℕ) (disk : D) → slice_get back i ≡ Some disk → IsTold rack i
      → LeavesRecords rack t i (trail_at trails i) (g.may_leave disk)
  records_at i disk at told =
      let cell = cell_of i disk at in
      let stands = (sound i cell.0 cell.1).0 in
      let here = told_at i (below_back i disk at) told cell.0 cell.1 in
      let layout = cell.0.node.layout in
      let leaves : LeavesOn g cell.0.node.catalog layout cell.0.node.site cell.0.node.trail disk =
      of_disk cell.0.node.disk disk (LeavesOn g cell.0.node.catalog layout cell.0.node.site cell.0.node.trail) cell.2 (stands.leaves here) in
      subst (λ (es : List Entry). LeavesRecords rack t i es (g.may_leave disk)) (sym (trail_of_cell i cell.0 cell.1))
      (record {
        layout = layout;
        laid = laid_at i cell.0 cell.1;
        records =
            subst (λ (k : Catalog). LeavesOn g k layout (site_at i) cell.0.node.trail disk) (of.catalogs i cell.0 cell.1)
            (subst (λ (n : SiteId). LeavesOn g cell.0.node.catalog layout n cell.0.node.trail disk) (is.cells i cell.0 cell.1).site leaves);
      })

  -- the arms of the disk of a site are those of its cell
  arms_are : (i : ℕ) (disk : D) → slice_get back i ≡ Some disk → (g.known disk).arms ≡ arms_at g bench.cells i
  arms_are i disk at =
      let cell = cell_of i disk at in
      sym (field_at (λ (c : CellValue D). arms_under g c.node.disk) bench.cells i cell.0 None cell.1
      ∙ ap (λ (o : Option D). arms_under g o) cell.2)

  -- they are those that were armed
  armed_at : (arms : List Arm) → AreArmed (moment_of g built.cells) (moment_of g bench.cells) arms → (i : ℕ) (disk : D) → slice_get back i ≡ Some disk
      → IfSome (g.known disk).arms (λ told. map asked told ≡ arms_for i arms)
  armed_at arms armed i disk at =
      let was = taken_at i (below_back i disk at) in
      let laid = armed i in
      asked_from (g.known was.0).arms (g.known disk).arms laid.0 (arms_for i arms) laid.1 (has.taken.fresh i was.0 was.1).unarmed
      (arms_are i disk at ∙ (laid.2 ∙ ap (λ o. option_map (λ (told : List Arming). told ++ laid.0) o) (has.arms i was.0 was.1)))

  disk_of_run : (i : ℕ) (disk : D) → slice_get back i ≡ Some disk
      → IsDiskOfRun rack t trails i (g.known disk) (g.may_leave disk)
  disk_of_run i disk at = record {
    faults = faults_at i disk at;
    records = records_at i disk at;
    first_arms = arms_front (g.known disk).arms t i more.0 more.1 more.2 (armed_at more.0 more.3 i disk at);
  }

  disk_of_whole : AreArmed (moment_of g built.cells) (moment_of g bench.cells) (t.arms ++ arms_of t.steps)
      → (i : ℕ) (disk : D) → slice_get back i ≡ Some disk
      → IsDiskOfWhole rack t trails (arms_at g bench.cells) i (g.known disk) (g.may_leave disk)
  disk_of_whole armed i disk at = record {
    of_run = disk_of_run i disk at;
    all_told = armed_at (t.arms ++ arms_of t.steps) armed i disk at;
    arms_are = arms_are i disk at;
  }

  -- the formats that the headers of the cells' journals name
  pub headers_are : (headers : List Format) → headers ≡ map (λ (c : CellValue D). header_of c.node.layout) bench.cells
      → HaveHeaders rack t headers
  headers_are headers are = record {
    one_each = ap length are ∙ length-map bench.cells (λ (c : CellValue D). header_of c.node.layout) ∙ of.sites;
    each = λ i header at.
        let there = field_of (λ (c : CellValue D). header_of c.node.layout) bench.cells i header
        (ap (λ hs. slice_get hs i) (sym are) ∙ at) in
        IfSome_then (rack.bytes i) (laid_at i there.0 there.1) (λ bytes laid. (there.0.node.layout, laid, there.2));
  }

  pub run_is : IsWhole t.catalog → IsRun rack t trails
  run_is whole = record {
    one_each = ap length trails_are ∙ one_each g t bench of is sound;
    begins = λ i below. ap (λ ts. slice_get (trail_at ts i) 0) trails_are ∙ begins g t bench of is sound i below;
    stamps_rise = λ i below.
        subst (λ (ts : List (List Entry)). HaveRisingStamps (reverse (trail_at ts i))) (sym trails_are)
        (stamps_rise g t bench of is sound i below);
    whose_calls = subst (λ (ts : List (List Entry)). AreCallsOf t.clients ts) (sym trails_are)
        (calls_are g t bench of is sound (connected_each g built bench keeps t has.connected));
    linked = linked;
    no_record_before = λ i below.
        let was = taken_at i below in
        holds_taken g before.disks i was.0 (has.taken.told i was.0 was.1) (HasNoRecord (shape_of t)) (has.no_records i was.0 was.1);
    told = λ told.
        subst (λ (ts : List (List Entry)). AreTold rack t ts) (sym trails_are)
        (told_trails g t bench of is sound rack laid_at (λ i below. told_at i below (told i below)) whole
        (subst (λ (ts : List (List Entry)). AreLinked ts) trails_are linked));
    disks = subst (λ (n : ℕ). rack.handed n (λ i. IsDiskOfRun rack t trails i)) long_taken
        (handed_back g before mid after has.disks back returned (λ i. IsDiskOfRun rack t trails i) disk_of_run);
    given_back = elim (all_or_failed g before mid after has.disks back returned (λ i. IsDiskOfRun rack t trails i) disk_of_run) [
      | inl failed ↦ inl failed
      | inr all ↦ inr (subst (λ (n : ℕ). rack.all n (λ i. IsDiskOfRun rack t trails i)) long_taken all)
    ];
  }

  -- where it was driven to its end
  module _ (command : Command) (drives : Drives command (λ i. IsToldAt g i built) t (moment_of g built.cells) (moment_of g bench.cells)) where
    armed : AreArmed (moment_of g built.cells) (moment_of g bench.cells) (t.arms ++ arms_of t.steps)
    armed = armed_by command (λ i. IsToldAt g i built) t (moment_of g built.cells) (moment_of g bench.cells) drives

    -- the calls that had been made of the disks once all sites had begun
    begun : AreCallsBegun rack t (calls_at g built.cells)
    begun = λ i below.
        let was = taken_at i below in
        calls_told g before.disks (shape_of t) t.areas i (calls_at g built.cells i) was.0 (has.taken.told i was.0 was.1)
        (has.calls i was.0 was.1)

    pub whole_is : IsWhole t.catalog → IsWholeRun rack command t trails (arms_at g bench.cells)
    whole_is whole = record {
      run = run_is whole;
      calls = calls_at g built.cells;
      calls_begun = begun;
      how_driven = driven_by_fewer command (λ i. IsToldAt g i built) (λ i. IsTold rack i) t (calls_at g built.cells) trails
          (arms_at g bench.cells) told_built (driven_from command (λ i. IsToldAt g i built) t (moment_of g built.cells) (moment_of g bench.cells) trails
          (arms_at g bench.cells) has.first (sym trails_are) (λ i. refl) drives);
      disks = subst (λ (n : ℕ). rack.handed n (λ i. IsDiskOfWhole rack t trails (arms_at g bench.cells) i)) long_taken
          (handed_back g before mid after has.disks back returned
          (λ i. IsDiskOfWhole rack t trails (arms_at g bench.cells) i) (disk_of_whole armed));
    }
      where
        told_built : (i : ℕ) → IsTold rack i → IsToldAt g i built
        told_built i told cell at =
            let within = slice_get_within built.cells i cell at in
            let below : i < t.catalog.sites = (let l = has.of.sites in omega (arith, within, l)) in
            let was = taken_at i below in
            has.told i was.0 was.1 (told_reads g before.disks i was.0 (has.taken.told i was.0 was.1) told) cell at

    -- and all disks were given back
    pub whole_back : after.faults ≡ mid.faults → rack.all t.catalog.sites (λ i. IsDiskOfWhole rack t trails (arms_at g bench.cells) i)
    whole_back same =
        subst (λ (n : ℕ). rack.all n (λ i. IsDiskOfWhole rack t trails (arms_at g bench.cells) i)) long_taken
        (all_back g before mid after has.disks back returned
        (λ i. IsDiskOfWhole rack t trails (arms_at g bench.cells) i) same (disk_of_whole armed))

-- ---- how a run ends

-- the end of a run, told by equal trails and an equal fault
pub ends_with : (r : Racked) (command : Command) (s : Scenario) (holds holds' : Option (List ℕ)) (faults faults' : ℕ)
    (trails told : List (List Entry)) (fault named : Option Fault)
    → EndsRun r command s holds holds' faults faults' trails fault → told ≡ trails → named ≡ fault
    → EndsRun r command s holds holds' faults faults' told named
ends_with r command s holds holds' faults faults' trails told fault named ends same_trails same_fault =
    subst (λ (f : Option Fault). EndsRun r command s holds holds' faults faults' told f) (sym same_fault)
    (subst (λ ts. EndsRun r command s holds holds' faults faults' ts fault) (sym same_trails) ends)

-- the end of a whole run whose report was not written whole
pub ends_cut : (r : Racked) (command : Command) (s : Scenario) (holds holds' : Option (List ℕ)) (faults faults' : ℕ)
    (trails : List (List Entry)) (fault : Fault)
    → IsWholeBack r command s trails → (headers : List Format) → HaveHeaders r s headers
    → IsWriteFault (written_by command s headers trails) holds holds' faults faults' fault
    → EndsRun r command s holds holds' faults faults' trails (Some fault)
ends_cut r command s holds holds' faults faults' trails Write run headers have why = (run, (headers, have, why.0), why.1)
ends_cut r command s holds holds' faults faults' trails Memory run headers have why = (inr run.1.run, why)
ends_cut r command s holds holds' faults faults' trails (Usage text) run headers have why = absurd why
ends_cut r command s holds holds' faults faults' trails (ScenarioFault place detail) run headers have why = absurd why
ends_cut r command s holds holds' faults faults' trails Read run headers have why = absurd why
ends_cut r command s holds holds' faults faults' trails (Rack site) run headers have why = absurd why
ends_cut r command s holds holds' faults faults' trails (Journal site cause place) run headers have why = absurd why
