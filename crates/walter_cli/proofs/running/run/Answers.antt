use Rattle.std.proofs.Common.{◌≡◌, ◌≤◌, List, length, map, Some, None, Vec, Global, false, inr, subst, ap, sym, refl, ◌∙◌, arith}
use Rattle.std.specs.Prelude.{All}
use Rattle.std.proofs.lemmas.List.{length-map}
use Rattle.walter_base.specs.declared.format.Format.{Format}
use Rattle.walter_base.specs.Sizes.{most_in}
use Rattle.walter_cell.specs.Cells.{CellValue}
use Rattle.walter_rules.specs.Layouts.{header_of}
use Rattle.std.specs.Result.{is_err}
use Rattle.walter_cluster.proofs.Keeping.{of_each}
use Rattle.walter_cluster.specs.Benches.{IsOf, arms_at}
use Rattle.walter_report.specs.Reports.{HaveFrames}
use Rattle.walter_report.specs.Traces.{HaveSpellings}
use Rattle.walter_rules.specs.declared.entry.Entry.{Entry}
use Rattle.walter_stream.specs.Streams.{Appends}
use Rattle.walter_trail.specs.declared.trail.Trail.{Trail}
use Rattle.walter_cli.specs.declared.ended.Fault.TheVariants.{Memory, Rack}
use Rattle.walter_cli.specs.Ending.{IsBuilt, IsWholeBack, IsWriteFault}
use Rattle.walter_cli.specs.Headline.{HaveHeaders, IsRun, IsWholeRun}
use Rattle.walter_cli.specs.Racks.{RackAt, rack_at, Racked, racked}
use Rattle.walter_cli.specs.Words.{written_by}
use Rattle.walter_cli.proofs.Finished.{returned, headers_are, run_is, whole_is, whole_back as all_back_armed, ends_with, ends_cut}
use Rattle.walter_cli.proofs.Giving.{IsReturned, ok_part, balances, fails_to_give}
use Rattle.walter_cli.proofs.Racking.{few_in, sure_back}
use Rattle.walter_cli.proofs.Trails.{frames, spellings}
use Rattle.walter_cli.proofs.running.run.Given.{Over}
use Rattle.walter_cli.proofs.running.run.Goals.{After-give_all-given}
use Rattle.walter_cli.proofs.running.run.Goals as goal

-- a run behind the call that gives the disks back to the rack
module _ (g : Over) (c : After-give_all-given g) where
  abbrev before : RackAt g.row.R-D.Denot
  before = rack_at g.R.Rack c.args.rack.now

  abbrev mid : RackAt g.row.R-D.Denot
  mid = rack_at g.R.Rack c.build_over.new.rack

  abbrev after : RackAt g.row.R-D.Denot
  after = rack_at g.R.Rack c.give_all-given.new.rack

  abbrev rack : Racked
  rack = racked g.R.D.Disk before after

  abbrev trails : List (List Entry)
  trails = c.close-trails.result.trails.items

  built : IsBuilt g.R.D.Disk before mid c.args.scenario.now c.in-Ok.bench
  built = c.in-Ok.ensures.built

  run : IsRun rack c.args.scenario.now trails
  run =
      let driven = c.drive-bench.ensures in
      let closed = c.close-trails.ensures in
      run_is g.R.D.Disk c.args.scenario.now before mid after c.in-Ok.bench c.drive-bench.result.0
      c.close-trails.result.disks.items trails built driven.cells driven.homes closed.bench closed.sound driven.arms
      closed.gives.trails closed.gives.disks closed.linked c.give_all-given.ensures.given c.requires.playable.whole

  -- the headers of its journals
  headers_of_run : (headers : List Format)
      → headers ≡ map (λ (x : CellValue g.row.R-D.Denot). header_of x.node.layout) c.drive-bench.result.0.cells
      → HaveHeaders rack c.args.scenario.now headers
  headers_of_run =
      let driven = c.drive-bench.ensures in
      let closed = c.close-trails.ensures in
      headers_are g.R.D.Disk c.args.scenario.now before mid after c.in-Ok.bench c.drive-bench.result.0
      c.close-trails.result.disks.items trails built driven.cells driven.homes closed.bench closed.sound driven.arms
      closed.gives.trails closed.gives.disks closed.linked c.give_all-given.ensures.given

  -- where it was driven to its end, it is a whole run
  whole : is_err c.drive-bench.result.1 ≡ false
      → IsWholeRun rack c.args.command.now c.args.scenario.now trails (arms_at g.R.D.Disk c.drive-bench.result.0.cells)
  whole to_end =
      let driven = c.drive-bench.ensures in
      let closed = c.close-trails.ensures in
      whole_is g.R.D.Disk c.args.scenario.now before mid after c.in-Ok.bench c.drive-bench.result.0
      c.close-trails.result.disks.items trails built driven.cells driven.homes closed.bench closed.sound driven.arms
      closed.gives.trails closed.gives.disks closed.linked c.give_all-given.ensures.given c.args.command.now
      (ok_part c.drive-bench.result.1 _ driven.driven to_end) c.requires.playable.whole

  -- where the rack didn't fail either, all disks were given back
  whole_back : is_err c.drive-bench.result.1 ≡ false → g.R.Rack.faults c.give_all-given.new.rack ≡ g.R.Rack.faults c.build_over.new.rack
      → IsWholeBack rack c.args.command.now c.args.scenario.now trails
  whole_back to_end same =
      let driven = c.drive-bench.ensures in
      let closed = c.close-trails.ensures in (
        arms_at g.R.D.Disk c.drive-bench.result.0.cells,
        whole to_end,
        all_back_armed g.R.D.Disk c.args.scenario.now before mid after c.in-Ok.bench c.drive-bench.result.0
            c.close-trails.result.disks.items trails built driven.cells driven.homes closed.bench closed.sound driven.arms
            closed.gives.trails closed.gives.disks closed.linked c.give_all-given.ensures.given c.args.command.now
            (ok_part c.drive-bench.result.1 _ driven.driven to_end) same,
      )

  came_back : IsReturned g.R.D.Disk before mid after built.disks c.close-trails.result.disks.items
  came_back =
      let driven = c.drive-bench.ensures in
      let closed = c.close-trails.ensures in
      returned g.R.D.Disk c.args.scenario.now before mid after c.in-Ok.bench c.drive-bench.result.0
      c.close-trails.result.disks.items trails built driven.cells driven.homes closed.bench closed.sound driven.arms
      closed.gives.trails closed.gives.disks closed.linked c.give_all-given.ensures.given

  back : rack.balanced
  back = balances g.R.D.Disk before mid after built.disks c.close-trails.result.disks.items came_back

  sure : 32 ≤ before.unfailing → after.faults ≡ before.faults
  sure enough =
      let few = few_in c.args.scenario.now.format c.requires.playable.few in
      let many = built.many in
      sure_back g.R.D.Disk before mid after built.disks c.close-trails.result.disks.items built.taken
      c.give_all-given.ensures.given came_back.long (omega (arith, few, many)) enough

  -- the bench that comes back is the scenario's
  is_of : IsOf c.args.scenario.now c.drive-bench.result.0
  is_of =
      let driven = c.drive-bench.ensures in
      of_each g.R.D.Disk c.in-Ok.bench c.drive-bench.result.0 driven.cells c.args.scenario.now driven.homes built.of

  short : HaveFrames trails
  short = subst HaveFrames (sym c.close-trails.ensures.gives.trails)
      (frames g.R.D.Disk c.args.scenario.now c.drive-bench.result.0 is_of
      c.close-trails.ensures.bench c.close-trails.ensures.sound)

  spelled : HaveSpellings (length trails) trails
  spelled = subst (λ ts. HaveSpellings (length ts) ts) (sym c.close-trails.ensures.gives.trails)
      (spellings g.R.D.Disk c.args.scenario.now c.drive-bench.result.0 is_of
      c.close-trails.ensures.bench c.close-trails.ensures.sound)

pub returns-then-is_err-clause-given_back : goal.returns-then-is_err-clause-given_back
returns-then-is_err-clause-given_back g c = back g (goal.at.returns-then-is_err-clause-given_back g c).After-give_all-given

pub returns-in_default-clause-given_back : goal.returns-in_default-clause-given_back
returns-in_default-clause-given_back g c = back g (goal.at.returns-in_default-clause-given_back g c).After-give_all-given

pub returns-in-Err-given-clause-given_back : goal.returns-in-Err-given-clause-given_back
returns-in-Err-given-clause-given_back g c = back g (goal.at.returns-in-Err-given-clause-given_back g c).After-give_all-given

pub returns-in-Ok-write_result-clause-given_back : goal.returns-in-Ok-write_result-clause-given_back
returns-in-Ok-write_result-clause-given_back g c = back g (goal.at.returns-in-Ok-write_result-clause-given_back g c).After-give_all-given

pub returns-clause-given_back : goal.returns-clause-given_back
returns-clause-given_back g c = back g (goal.at.returns-clause-given_back g c).After-give_all-given

pub returns-then-is_err-clause-unfailing : goal.returns-then-is_err-clause-unfailing
returns-then-is_err-clause-unfailing g c = λ enough rose.
    let same = sure g (goal.at.returns-then-is_err-clause-unfailing g c).After-give_all-given enough in omega (arith, rose, same)

pub returns-in_default-clause-unfailing : goal.returns-in_default-clause-unfailing
returns-in_default-clause-unfailing g c = λ enough rose.
    let same = sure g (goal.at.returns-in_default-clause-unfailing g c).After-give_all-given enough in omega (arith, rose, same)

pub returns-in-Err-given-clause-unfailing : goal.returns-in-Err-given-clause-unfailing
returns-in-Err-given-clause-unfailing g c = λ enough rose.
    let same = sure g (goal.at.returns-in-Err-given-clause-unfailing g c).After-give_all-given enough in omega (arith, rose, same)

-- memory ran out within the run
pub returns-then-is_err-clause-run : goal.returns-then-is_err-clause-run
returns-then-is_err-clause-run g c =
    let at = (goal.at.returns-then-is_err-clause-run g c).After-give_all-given in
    ends_with _ c.args.command.now c.args.scenario.now _ _ _ _ (trails g at) _ (Some Memory) _ (inr (run g at), refl)
    (ap (λ (v : Vec Trail Global). v.items) c.late.ensures.trails) c.late.ensures.fault

pub returns-in_default-clause-run : goal.returns-in_default-clause-run
returns-in_default-clause-run g c =
    let at = (goal.at.returns-in_default-clause-run g c).After-give_all-given in
    ends_with _ c.args.command.now c.args.scenario.now _ _ _ _ (trails g at) _ (Some Memory) _ (inr (run g at), refl)
    (ap (λ (v : Vec Trail Global). v.items) c.late-in_default.ensures.trails) c.late-in_default.ensures.fault

-- a disk could not be given back
pub returns-in-Err-given-clause-run : goal.returns-in-Err-given-clause-run
returns-in-Err-given-clause-run g c =
    let at = (goal.at.returns-in-Err-given-clause-run g c).After-give_all-given in
    let lost = c.in-Err-given.ensures.lost in
    let back = came_back g at in
    let within = lost.within in
    let long = back.long in
    let many = (built g at).many in
    ends_with _ c.args.command.now c.args.scenario.now _ _ _ _ (trails g at) _ (Some (Rack c.in-Err-given.site)) _ (
      omega (arith, within, long, many),
      inr (
        arms_at g.R.D.Disk c.drive-bench.result.0.cells,
        whole g at (sym c.is_err.ensures.value ∙ c.if-is_err.false),
        fails_to_give g.R.D.Disk (before g at) (mid g at) (after g at) (built g at).disks c.close-trails.result.disks.items back
            c.in-Err-given.site lost,
      ),
      refl,
    )
    (ap (λ (v : Vec Trail Global). v.items) c.late-in-Err-given.ensures.trails) c.late-in-Err-given.ensures.fault

pub write_result-requires-clause-frames : goal.write_result-requires-clause-frames
write_result-requires-clause-frames g c =
    subst HaveFrames (sym c.deref-2.ensures.value) (short g (goal.at.write_result-requires-clause-frames g c).After-give_all-given)

pub write_result-requires-clause-headers : goal.write_result-requires-clause-headers
write_result-requires-clause-headers g c =
    let named = c.in-Ok-headers.ensures in
    let long : length c.deref-2.result.now ≡ length c.drive-bench.result.0.cells =
    ap length (c.deref-2.ensures.value ∙ c.close-trails.ensures.gives.trails)
    ∙ length-map c.drive-bench.result.0.cells (λ (x : CellValue g.row.R-D.Denot). x.node.trail) in
    let given = c.deref.ensures.value in (
      ap length (given ∙ named.headers)
          ∙ length-map c.drive-bench.result.0.cells (λ (x : CellValue g.row.R-D.Denot). header_of x.node.layout) ∙ sym long,
      subst (λ n. All (λ (h : Format). n ≤ most_in h) c.deref.result.now) (sym long)
          (subst (λ hs. All (λ (h : Format). length c.drive-bench.result.0.cells ≤ most_in h) hs) (sym given) named.places),
    )

pub write_result-requires-clause-records : goal.write_result-requires-clause-records
write_result-requires-clause-records g c =
    subst (λ ts. HaveSpellings (length ts) ts) (sym c.deref-2.ensures.value) (spelled g (goal.at.write_result-requires-clause-records g c).After-give_all-given)

-- the report was written whole
pub returns-in-Ok-write_result-clause-run : goal.returns-in-Ok-write_result-clause-run
returns-in-Ok-write_result-clause-run g c =
    let at = (goal.at.returns-in-Ok-write_result-clause-run g c).After-give_all-given in
    let is_whole = whole_back g at (sym c.is_err.ensures.value ∙ c.if-is_err.false) c.in_default-given.ensures.ok in
    let headers = c.deref.result.now in
    let named = c.deref.ensures.value ∙ c.in-Ok-headers.ensures.headers in
    let written = subst (λ (ts : List (List Entry)). Appends (g.K.Sink.holds c.args.sink.now) (g.K.Sink.holds c.write_result.new.sink) (written_by c.args.command.now c.args.scenario.now headers ts))
    c.deref-2.ensures.value c.in-Ok-write_result.ensures.ok in
    ends_with _ c.args.command.now c.args.scenario.now _ _ _ _ (trails g at) _ None _
    (is_whole, (headers, headers_of_run g at headers named, written))
    (ap (λ (v : Vec Trail Global). v.items) c.late-in-Ok-write_result.ensures.trails) c.late-in-Ok-write_result.ensures.fault

-- it was not
pub returns-clause-run : goal.returns-clause-run
returns-clause-run g c =
    let at = (goal.at.returns-clause-run g c).After-give_all-given in
    let is_whole = whole_back g at (sym c.is_err.ensures.value ∙ c.if-is_err.false) c.in_default-given.ensures.ok in
    let headers = c.deref.result.now in
    let named = c.deref.ensures.value ∙ c.in-Ok-headers.ensures.headers in
    let why = subst (λ (ts : List (List Entry)). IsWriteFault (written_by c.args.command.now c.args.scenario.now headers ts) (g.K.Sink.holds c.args.sink.now) (g.K.Sink.holds c.write_result.new.sink)
    (g.K.Sink.faults c.args.sink.now) (g.K.Sink.faults c.write_result.new.sink) c.in-Err-write_result.fault) c.deref-2.ensures.value c.in-Err-write_result.ensures.fault in
    ends_with _ c.args.command.now c.args.scenario.now _ _ _ _ (trails g at) _ (Some c.in-Err-write_result.fault) _
    (ends_cut _ c.args.command.now c.args.scenario.now _ _ _ _ (trails g at) c.in-Err-write_result.fault is_whole headers
    (headers_of_run g at headers named) why)
    (ap (λ (v : Vec Trail Global). v.items) c.late-in-Err-write_result.ensures.trails) c.late-in-Err-write_result.ensures.fault
