-- The cells of all sites, of which one is another.
use Rattle.std.proofs.Common.{◌≡◌, ℕ, ◌<◌, List, [], length, reverse, get_or, set, refl, ap, sym, ◌∙◌, subst, arith, Option, None, Result, Ok, Err}
use Rattle.std.specs.Prelude.{slice_index_or, OnErr}
use Rattle.std.proofs.Math.Path.{fun_ext}
use Rattle.std.proofs.lemmas.List.{length-map}
use Rattle.std.proofs.lemmas.Option.{slice_get_read}
use Rattle.walter_base.specs.declared.catalog.Catalog.{Catalog}
use Rattle.walter_base.specs.declared.names.SiteId.{SiteId}
use Rattle.walter_cell.specs.declared.answers.Acted.{Acted}
use Rattle.walter_cell.specs.declared.answers.Serve.{Serve}
use Rattle.walter_cell.specs.Cells.{CellValue, TurnsTo, Acts}
use Rattle.walter_cell.specs.Cells as cell
use Rattle.walter_cell.specs.Lines.{LineValue, HasFaultAt}
use Rattle.walter_cell.specs.Nodes.{MayCall, MayDrop, clock_in, arms_under, armed_under, calls_under, capacity_of}
use Rattle.walter_disk.specs.Disks.{Arming, and_arming}
use Rattle.walter_disk.specs.declared.disk.Disk.{Ghosts}
use Rattle.walter_lane.specs.Lanes.{Sending, Receiving}
use Rattle.walter_outbox.specs.Lanes.{arrived_from, mets, met_to}
use Rattle.walter_rules.specs.declared.entry.Entry.{Entry}
use Rattle.walter_rules.specs.declared.event.Event.{Event}
use Rattle.walter_rules.specs.Knowledge.{site_at}
use Rattle.walter_rules.specs.Merges.{trail_of}
use Rattle.walter_rules.specs.Trails.{clock}
use Rattle.walter_cluster.specs.Benches.{Keeps, trails_of, ins_at, lines_at, arms_at, calls_at}
use Rattle.walter_cluster.specs.Meetings.{HaveAllMet}
use Rattle.walter_cluster.specs.Moments.{Moment, moment_of, clock_at, KeepsArms, ChangesAt, NoneArrive, CallsAt, CallsDisk, DropsAt, Drops, TurnsAt, ActsAt, ArmsAt}
use Rattle.walter_cluster.proofs.Changes.{one_there, field_at, ChangesOne, one_set, reads_same, others_same, field_kept}
use Rattle.walter_cluster.proofs.Keeping.{each_one}

-- moments with the same trails, packets, arms and calls are the same
same_moments : (m n : Moment) → n.trails ≡ m.trails → NoneArrive m n → KeepsArms m n → ((j : ℕ) → n.calls j ≡ m.calls j) → n ≡ m
same_moments m n trails arrive arms calls =
    let by_trails : List (List Entry) → Moment = λ ts. record { trails = ts; arrived = n.arrived; arms = n.arms; calls = n.calls } in
    let by_arrived : (ℕ → ℕ → ℕ) → Moment = λ f. record { trails = m.trails; arrived = f; arms = n.arms; calls = n.calls } in
    let by_arms : (ℕ → Option (List Arming)) → Moment = λ f. record { trails = m.trails; arrived = m.arrived; arms = f; calls = n.calls } in
    let by_calls : (ℕ → ℕ) → Moment = λ f. record { trails = m.trails; arrived = m.arrived; arms = m.arms; calls = f } in
    ap by_trails trails ∙ (ap by_arrived (fun_ext (λ to. fun_ext (λ from. arrive to from))) ∙ (ap by_arms (fun_ext arms) ∙ ap by_calls (fun_ext calls)))

module _ {D : Type 0} (g : Ghosts D) where
  -- ---- one cell is another

  module _ (old new : List (CellValue D)) (i : SiteId) (a x : CellValue D) (one : ChangesOne old new i.0 a x) where
    pub trails_kept : x.node.trail ≡ a.node.trail → trails_of new ≡ trails_of old
    trails_kept same = field_kept (λ (c : CellValue D). c.node.trail) old new i.0 a x one same

    pub trail_was : trail_of (trails_of old) i ≡ a.node.trail
    trail_was = field_at (λ (c : CellValue D). c.node.trail) old i.0 a [] one.was

    pub trail_now : trail_of (trails_of new) i ≡ x.node.trail
    trail_now = field_at (λ (c : CellValue D). c.node.trail) new i.0 x [] one.now

    pub arms_kept : arms_under g x.node.disk ≡ arms_under g a.node.disk → (j : ℕ) → arms_at g new j ≡ arms_at g old j
    arms_kept same j =
        reads_same (λ (c : CellValue D). arms_under g c.node.disk) old new i.0 a x one (λ arms. arms) None same j

    pub calls_kept : calls_under g x.node.disk ≡ calls_under g a.node.disk → (j : ℕ) → calls_at g new j ≡ calls_at g old j
    calls_kept same j =
        reads_same (λ (c : CellValue D). calls_under g c.node.disk) old new i.0 a x one (λ n. n) 0 same j

    pub changes_at : arms_under g x.node.disk ≡ arms_under g a.node.disk → ChangesAt i (moment_of g old) (moment_of g new)
    changes_at arms = record {
      sites = length-map new (λ (c : CellValue D). c.node.trail)
          ∙ (one.long ∙ sym (length-map old (λ (c : CellValue D). c.node.trail)));
      others = λ j apart. others_same (λ (c : CellValue D). c.node.trail) old new i.0 a x one [] j.0 (λ e. apart (ap site_at e));
      arms = arms_kept arms;
      calls = λ j apart. others_same (λ (c : CellValue D). calls_under g c.node.disk) old new i.0 a x one 0 j apart;
    }

    pub none_arrive : x.ins ≡ a.ins → NoneArrive (moment_of g old) (moment_of g new)
    none_arrive same to from =
        reads_same (λ (c : CellValue D). c.ins) old new i.0 a x one (λ (is : List Receiving). length (arrived_from is from)) []
        (ap (λ (is : List Receiving). length (arrived_from is from)) same) to

    pub all_met_kept : mets x.node.outs ≡ mets a.node.outs → x.ins ≡ a.ins → HaveAllMet old → HaveAllMet new
    all_met_kept ms same all to from =
        reads_same (λ (c : CellValue D). c.node.outs) old new i.0 a x one (λ (os : List Sending). met_to os to) []
        (ap (λ (l : List ℕ). slice_index_or l to 0) ms) from
        ∙ (all to from ∙ sym (none_arrive same to from))

    arms_was : arms_at g old i.0 ≡ arms_under g a.node.disk
    arms_was = field_at (λ (c : CellValue D). arms_under g c.node.disk) old i.0 a None one.was

    arms_now : arms_at g new i.0 ≡ arms_under g x.node.disk
    arms_now = field_at (λ (c : CellValue D). arms_under g c.node.disk) new i.0 x None one.now

    calls_was : calls_at g old i.0 ≡ calls_under g a.node.disk
    calls_was = field_at (λ (c : CellValue D). calls_under g c.node.disk) old i.0 a 0 one.was

    calls_now : calls_at g new i.0 ≡ calls_under g x.node.disk
    calls_now = field_at (λ (c : CellValue D). calls_under g c.node.disk) new i.0 x 0 one.now

    -- the disk there is armed once more
    pub arms_there : (nth choice : ℕ) → x.node.trail ≡ a.node.trail → x.ins ≡ a.ins → calls_under g x.node.disk ≡ calls_under g a.node.disk
        → arms_under g x.node.disk ≡ armed_under g nth choice a.node.disk
        → ArmsAt i nth choice (moment_of g old) (moment_of g new)
    arms_there nth choice entries ins calls armed = record {
      here = arms_now ∙ (armed
          ∙ (ap (λ n. and_arming (record { at = n; nth = nth; choice = choice }) (arms_under g a.node.disk)) (sym calls_was)
          ∙ ap (and_arming (record { at = calls_at g old i.0; nth = nth; choice = choice })) (sym arms_was)));
      others = λ j apart. others_same (λ (c : CellValue D). arms_under g c.node.disk) old new i.0 a x one None j apart;
      calls = calls_kept calls;
      trails = trails_kept entries;
      none_arrive = none_arrive ins;
    }

    -- nothing is other
    pub same_moment : x.node.trail ≡ a.node.trail → x.ins ≡ a.ins → calls_under g x.node.disk ≡ calls_under g a.node.disk
        → arms_under g x.node.disk ≡ arms_under g a.node.disk → moment_of g new ≡ moment_of g old
    same_moment entries ins calls arms =
        same_moments (moment_of g old) (moment_of g new) (trails_kept entries) (none_arrive ins) (arms_kept arms) (calls_kept calls)

    -- the stamp of the last entry there
    pub clock_was : clock_at (moment_of g old) i ≡ clock_in a.node
    clock_was = ap (λ es. clock (reverse es)) trail_was

    -- ---- what calls come to

    pub acts_at : (ev : Event) (answer : Acted) → cell.Proceeds g a x
        → Acts ev (clock_in a.node) a.node.trail x.node.trail answer → ActsAt i ev (moment_of g old) (moment_of g new) answer
    acts_at ev answer proceeds acts = record {
      acts = subst (λ (n : ℕ). Acts ev n (trail_of (trails_of old) i) (trail_of (trails_of new) i) answer) (sym clock_was)
          (subst (λ (es : List Entry). Acts ev (clock_in a.node) es (trail_of (trails_of new) i) answer) (sym trail_was)
          (subst (λ (es : List Entry). Acts ev (clock_in a.node) a.node.trail es answer) (sym trail_now) acts));
      others = changes_at proceeds.arms;
      none_arrive = none_arrive proceeds.ins;
    }

    pub lines_was : lines_at old i.0 ≡ a.lines
    lines_was = field_at (λ (c : CellValue D). c.lines) old i.0 a [] one.was

    lines_now : lines_at new i.0 ≡ x.lines
    lines_now = field_at (λ (c : CellValue D). c.lines) new i.0 x [] one.now

    pub turns_at : (can : Type 0) (number : ℕ) (bytes : List ℕ) (answer : Serve) → cell.Proceeds g a x
        → TurnsTo number bytes (clock_in a.node) (HasFaultAt x.lines number × can) a.node.trail x.node.trail answer
        → TurnsAt i number bytes (HasFaultAt (lines_at new i.0) number × can) (moment_of g old) (moment_of g new) answer
    turns_at can number bytes answer proceeds turns = record {
      turns = subst
          (λ (n : ℕ). TurnsTo number bytes n (HasFaultAt (lines_at new i.0) number × can) (trail_of (trails_of old) i) (trail_of (trails_of new) i) answer)
          (sym clock_was)
          (subst (λ (es : List Entry). TurnsTo number bytes (clock_in a.node) (HasFaultAt (lines_at new i.0) number × can) es (trail_of (trails_of new) i) answer)
          (sym trail_was)
          (subst (λ (es : List Entry). TurnsTo number bytes (clock_in a.node) (HasFaultAt (lines_at new i.0) number × can) a.node.trail es answer)
          (sym trail_now)
          (subst (λ (ls : List (Option LineValue)). TurnsTo number bytes (clock_in a.node) (HasFaultAt ls number × can) a.node.trail x.node.trail answer)
          (sym lines_now) turns)));
      others = changes_at proceeds.arms;
      none_arrive = none_arrive proceeds.ins;
    }

    -- what had been put for each site when the ends last met is what has arrived there
    pub drops_at : (catalog : Catalog) → HaveAllMet old
        → MayDrop catalog i (met_to a.node.outs) a.node.trail x.node.trail → DropsAt catalog i (moment_of g old) (moment_of g new)
    drops_at catalog all drops =
        let same : (n : ℕ) → met_to a.node.outs n ≡ length (arrived_from (ins_at old n) i.0) = λ n.
        sym (ap (λ (os : List Sending). met_to os n) (field_at (λ (c : CellValue D). c.node.outs) old i.0 a [] one.was)) ∙ all n i.0 in
        subst (λ (f : ℕ → ℕ). MayDrop catalog i f (trail_of (trails_of old) i) (trail_of (trails_of new) i)) (fun_ext same)
        (subst (λ (es : List Entry). MayDrop catalog i (met_to a.node.outs) es (trail_of (trails_of new) i)) (sym trail_was)
        (subst (λ (es : List Entry). MayDrop catalog i (met_to a.node.outs) a.node.trail es) (sym trail_now) drops))

    -- the calls of the disk there are those of the entry
    pub disk_calls_at : (capacity : ℕ) (catalog : Catalog)
        → MayCall capacity catalog i a.node.trail x.node.trail (calls_under g a.node.disk) (calls_under g x.node.disk)
        → CallsAt capacity catalog i (moment_of g old) (moment_of g new)
    disk_calls_at capacity catalog calls =
        subst (λ n. MayCall capacity catalog i (trail_of (trails_of old) i) (trail_of (trails_of new) i) n (calls_at g new i.0)) (sym calls_was)
        (subst (λ n. MayCall capacity catalog i (trail_of (trails_of old) i) (trail_of (trails_of new) i) (calls_under g a.node.disk) n) (sym calls_now)
        (subst (λ (es : List Entry). MayCall capacity catalog i es (trail_of (trails_of new) i) (calls_under g a.node.disk) (calls_under g x.node.disk)) (sym trail_was)
        (subst (λ (es : List Entry). MayCall capacity catalog i a.node.trail es (calls_under g a.node.disk) (calls_under g x.node.disk)) (sym trail_now) calls)))

    -- what an event keeps that comes to one of the sites
    module _ (homes : List SiteId) (proceeds : cell.Proceeds g a x) where
      pub proceeds_keeps : Keeps g (record { cells = old; homes = homes }) (record { cells = new; homes = homes })
      proceeds_keeps = record {
        cells = each_one g old new i.0 a x one proceeds.keeps;
        homes = refl;
        met = all_met_kept proceeds.same_mets proceeds.ins;
      }

      pub proceeds_arms : KeepsArms (moment_of g old) (moment_of g new)
      proceeds_arms = arms_kept proceeds.arms

      pub proceeds_calls : a.node.site ≡ i → CallsDisk g i (record { cells = old; homes = homes }) (record { cells = new; homes = homes })
      proceeds_calls here told c at =
          let same = one_there old i.0 a c one.was at in
          subst (λ (b : CellValue D). CallsAt (capacity_of b.node.layout) b.node.catalog i (moment_of g old) (moment_of g new)) same
          (disk_calls_at (capacity_of a.node.layout) a.node.catalog
          (subst (λ (n : SiteId). MayCall (capacity_of a.node.layout) a.node.catalog n a.node.trail x.node.trail
          (calls_under g a.node.disk) (calls_under g x.node.disk)) here (proceeds.calls (told a one.was))))

      pub proceeds_drops : a.node.site ≡ i → Drops g i (record { cells = old; homes = homes }) (record { cells = new; homes = homes })
      proceeds_drops here met told c at =
          let same = one_there old i.0 a c one.was at in
          subst (λ (b : CellValue D). DropsAt b.node.catalog i (moment_of g old) (moment_of g new)) same
          (drops_at a.node.catalog met
          (subst (λ (n : SiteId). MayDrop a.node.catalog n (met_to a.node.outs) a.node.trail x.node.trail) here (proceeds.drops (told a one.was))))

-- what was read at a place is replaced there
pub one_at : {X : Type 0} (xs : List X) (place i : ℕ) (a x : X) → place ≡ i → i < length xs → a ≡ get_or xs place a → ChangesOne xs (set xs place x) i a x
one_at xs place i a x is within at =
    subst (λ (n : ℕ). ChangesOne xs (set xs place x) n a x) is
    (one_set xs place a x (slice_get_read xs (length xs) place a refl (omega (arith, is, within)) at))

-- what holds holds at an error
pub on_err_so : {T E : Type 0} (r : Result T E) (P : Type 0) → P → OnErr r P
on_err_so (Ok v) P so = tt
on_err_so (Err e) P so = so
