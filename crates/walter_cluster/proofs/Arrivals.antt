-- The cells of all sites where all has arrived at one of them, and what the delivery of a packet comes to there.
use Rattle.std.proofs.Common.{◌≡◌, ◌≢◌, ◌⊎◌, ℕ, zero, suc, ◌+◌, ◌<◌, ◌≤◌, ◌^◌, Bool, true, false, List, [], length, map, reverse, slice_get, refl, ap, sym, ◌∙◌, subst, arith, Option, Some, None, option_map, inl, inr, if◌then◌else◌}
use Rattle.std.specs.Prelude.{All, Contains}
use Rattle.std.proofs.Math.Path.{fun_ext}
use Rattle.std.proofs.lemmas.Bool.{cases_lt}
use Rattle.std.proofs.lemmas.List.{length-map}
use Rattle.std.proofs.lemmas.List.Elements.{All-contains}
use Rattle.std.proofs.lemmas.Option.{slice_get-map}
use Rattle.walter_base.specs.declared.catalog.Catalog.{Catalog}
use Rattle.walter_base.specs.declared.names.SiteId.{SiteId}
use Rattle.walter_base.specs.declared.packet.Packet.{Packet}
use Rattle.walter_base.specs.Names.{same_site}
use Rattle.walter_cell.specs.declared.answers.Moved.{Moved}
use Rattle.walter_cell.specs.declared.answers.Moved.TheVariants as moved
use Rattle.walter_cell.specs.declared.answers.Acted.{Acted}
use Rattle.walter_cell.specs.declared.answers.Pumped.{Pumped}
use Rattle.walter_cell.proofs.Works.{works_so}
use Rattle.walter_cell.specs.Pumps.{Works, WorksAt, IsLeastAt, counts_in}
use Rattle.walter_link.specs.Pumps.{PumpValue, HasTaken, KeepsPump, take_arrived, taken_from}
use Rattle.walter_link.specs.declared.pump.Waiting.{Waiting}
use Rattle.walter_rules.specs.Deliveries.{IsLeastEnabled}
use Rattle.walter_rules.specs.declared.event.Event.{Event}
use Rattle.walter_rules.specs.Standing.{Standing}
use Rattle.walter_cluster.specs.Pumps.{IsPumpAt, PumpsAt, standing_at, works}
use Rattle.walter_cell.specs.Cells.{CellValue, Acts, MovesTo, arrival}
use Rattle.walter_cell.specs.Cells as cell
use Rattle.walter_cell.specs.Entries.{Grows, HasPlace, IsSpent}
use Rattle.walter_machine.specs.Comings.{IsSized}
use Rattle.walter_cell.specs.Nodes.{NodeValue, MayCall, MayDrop, calls_under, capacity_of, clock_in, is_told, standing_of}
use Rattle.walter_disk.specs.declared.disk.Disk.{Ghosts}
use Rattle.walter_lane.specs.Lanes.{Receiving}
use Rattle.walter_lane.specs.declared.posted.Posted.{Posted}
use Rattle.walter_outbox.specs.Lanes.{arrived_from, met_to, posted}
use Rattle.walter_packet.specs.Spelling.{HasPacketSpelling}
use Rattle.walter_packet.proofs.Packets.{same_packet}
use Rattle.walter_psi.proofs.Lists.{contains_at, Contains-flat_map_from}
use Rattle.walter_rules.specs.declared.entry.Entry.{Entry}
use Rattle.walter_rules.specs.declared.event.Event.TheVariants.{Given}
use Rattle.walter_rules.specs.declared.event.Input.TheVariants.{Deliver}
use Rattle.walter_rules.specs.Knowledge.{site_at}
use Rattle.walter_rules.specs.Layouts.{Layout}
use Rattle.walter_rules.specs.Merges.{Stamped, sent_to, put_out_to, trail_of}
use Rattle.walter_rules.specs.Sending.{Send}
use Rattle.walter_rules.specs.Trails.{clock, standing}
use Rattle.walter_rules.proofs.Membership.{given_from}
use Rattle.walter_cluster.specs.Benches.{IsBench, Keeps, calls_at, trails_of}
use Rattle.walter_cluster.specs.Meetings.{arrived_at, HaveAllMet, HaveStayed, HasArrived, IsAsBefore}
use Rattle.walter_cluster.specs.Moments.{moment_of, clock_at, KeepsArms, ChangesAt, AllArrive, put_out_as, HandsOver, MovesAt, CallsAt, CallsDisk, DropsAt, Drops, arrives as moves_after}
use Rattle.walter_cluster.proofs.Changes.{there_is, field_at, field_past, ChangesOne}
use Rattle.walter_cluster.proofs.Keeping.{ins_long, each_on, each_one, more_arrived}
use Rattle.walter_cluster.proofs.Meetings.{trails_stay, arms_stay, calls_stay, each_stays}
use Rattle.walter_cluster.proofs.Benches.{changes_at, none_arrive, all_met_kept, arms_kept, trail_was, trail_now, disk_calls_at, drops_at}

-- ---- what is put out has a spelling

kept_packet : (same : Bool) (stamp : ℕ) (s : Send) (st : Stamped) → (if same then Some (stamp, s.1) else None) ≡ Some st → st.1 ≡ s.1
kept_packet true stamp s st is = let e : (stamp, s.1) ≡ st = cc in ap (λ (x : Stamped). x.1) (sym e)
kept_packet false stamp s st is = absurd cc

put_spelled : (sites : ℕ) (i : SiteId) (trail : List Entry) (st : Stamped) → All (λ (e : Entry). IsSized sites e.came) trail
    → Contains (put_out_to i trail) st → HasPacketSpelling sites st.1
put_spelled sites i trail st all within =
    let from = Contains-flat_map_from (sent_to i) trail st within in
    let e : Entry = from.0 in
    let given = given_from (λ (s : Send). if same_site s.0 i then Some (e.stamp, s.1) else None) e.came.sends st from.2 in
    let s : Send = given.0 in
    let sized = All-contains (λ (x : Entry). IsSized sites x.came) trail e all from.1 in
    subst (λ (p : Packet). HasPacketSpelling sites p) (sym (kept_packet (same_site s.0 i) e.stamp s st given.2))
    (All-contains (λ (x : Send). HasPacketSpelling sites x.1) e.came.sends s sized.sends given.1)

-- ---- what a delivery comes to

-- what has arrived of a number is what was put out of it
arrival_is : (sites : ℕ) (ins : List Receiving) (trails : List (List Entry)) (to from : SiteId) (number : ℕ)
    → arrived_from ins from.0 ≡ map (posted sites) (put_out_to to (trail_of trails from))
    → arrival ins from number ≡ option_map (posted sites) (put_out_as trails to from number)
arrival_is sites ins trails to from zero all = refl
arrival_is sites ins trails to from (suc before) all =
    ap (λ (l : List Posted). slice_get l before) all ∙ slice_get-map (posted sites) (put_out_to to (trail_of trails from)) before

put_as_spelled : (sites : ℕ) (trails : List (List Entry)) (to from : SiteId) (number : ℕ) (st : Stamped)
    → All (λ (e : Entry). IsSized sites e.came) (trail_of trails from) → put_out_as trails to from number ≡ Some st → HasPacketSpelling sites st.1
put_as_spelled sites trails to from zero st all is = absurd cc
put_as_spelled sites trails to from (suc before) st all is =
    put_spelled sites to (trail_of trails from) st all (contains_at (put_out_to to (trail_of trails from)) st before is)

hands_over : (sites : ℕ) (from : SiteId) (number : ℕ) (put : Option Stamped) (last : ℕ) (old new : List Entry) (answer : Moved)
    → ((st : Stamped) → put ≡ Some st → HasPacketSpelling sites st.1)
    → MovesTo from number (option_map (posted sites) put) sites last old new answer → HandsOver from number put last old new answer
hands_over sites from number None last old new moved.Spent own moves = moves
hands_over sites from number None last old new moved.Nothing own moves = (moves.0, refl, moves.2)
hands_over sites from number None last old new moved.Did own moves = let e : None ≡ Some moves.1.0 = moves.1.2 in absurd cc
hands_over sites from number (Some st) last old new moved.Spent own moves = moves
hands_over sites from number (Some st) last old new moved.Nothing own moves = absurd (moves.1 refl)
hands_over sites from number (Some st) last old new moved.Did own moves =
    let e : Some (posted sites st) ≡ Some moves.1.0 = moves.1.2 in
    let there : posted sites st ≡ moves.1.0 = cc in
    let framed = moves.1.3 in
    let frame = ap (λ (p : Posted). p.framed) there in
    let spelled = subst (λ n. HasPacketSpelling n moves.1.1) (sym (ap (λ (p : Posted). p.framed.sites) there)) framed.spelled in
    let same = same_packet sites st.1 moves.1.1 (own st refl) spelled (ap (λ (p : Posted). p.framed.bytes) there ∙ framed.bytes) in
    (moves.0, (st, refl, subst (λ (p : Packet). Grows (Given (Deliver from number p)) old new) (sym same) moves.1.4))

-- a packet of a number that was put out is there
put_there : (trails : List (List Entry)) (to from : SiteId) (number : ℕ) → 1 ≤ number
    → number ≤ length (put_out_to to (trail_of trails from)) → put_out_as trails to from number ≡ None → ⊥
put_there trails to from zero first most none = absurd (omega (arith, first))
put_there trails to from (suc before) first most none =
    let there = there_is (put_out_to to (trail_of trails from)) before (omega (arith, most)) in
    let e : Some there.0 ≡ None = sym there.1 ∙ none in absurd cc

module _ {D : Type 0} (g : Ghosts D) (homes : List SiteId)
    (old mid : List (CellValue D)) (stay : HaveStayed old mid) (is : IsBench (record { cells = old; homes = homes })) (to : SiteId)
    (below : to.0 < length old)
    (arrives : (from : ℕ) → from < length old → from ≢ to.0 → HasArrived old mid to.0 from)
    (elsewhere : (i j : ℕ) → (i ≢ to.0) ⊎ (j ≡ to.0) → IsAsBefore old mid i j) where
  -- the receiver has a lane from each site
  pub ins_here : (a : CellValue D) → slice_get mid to.0 ≡ Some a → length a.ins ≡ length old
  ins_here a at =
      let was = there_is old to.0 below in
      let same = stay.each to.0 was.0 a was.1 at in
      ins_long a.ins was.0.ins same.ins ∙ (is.cells to.0 was.0 was.1).ins

  nothing_past : (from : SiteId) → length old ≤ from.0 → length (arrived_at mid to.0 from.0) ≡ length (put_out_to to (trail_of (trails_of old) from))
  nothing_past from past =
      let l = stay.long in
      let c = there_is mid to.0 (omega (arith, below, l)) in
      let many = ins_here c.0 c.1 in
      ap (λ (is : List Receiving). length (arrived_from is from.0)) (field_at (λ (c : CellValue D). c.ins) mid to.0 c.0 [] c.1)
      ∙ (ap (λ (l : List Posted). length l) (field_past (λ (r : Receiving). r.arrived) c.0.ins from.0 [] (omega (arith, many, past)))
      ∙ sym (ap (λ (es : List Entry). length (put_out_to to es)) (field_past (λ (c : CellValue D). c.node.trail) old from.0 [] past)))

  -- no more was taken than had arrived
  pub taken_before : (a : CellValue D) → slice_get mid to.0 ≡ Some a → (before : PumpValue) → IsPumpAt old to before
      → (from : ℕ) → taken_from before from ≤ counts_in a.ins from
  taken_before a at before is_pump from =
      let most = is_pump.taken from in
      let more = more_arrived g old mid (each_stays old mid stay g) to.0 from in
      let now = ap (λ (is : List Receiving). length (arrived_from is from)) (field_at (λ (c : CellValue D). c.ins) mid to.0 a [] at) in
      omega (arith, most, more, now)

  module _ (new : List (CellValue D)) (a x : CellValue D) (one : ChangesOne mid new to.0 a x) (proceeds : cell.Proceeds g a x) where
    pub all_arrive : AllArrive to (moment_of g old) (moment_of g new)
    all_arrive = record {
      here = λ from apart. none_arrive g mid new to a x one proceeds.ins to.0 from.0 ∙ elim (cases_lt from.0 (length old)) [
        | inl within ↦
            ap (λ (l : List Posted). length l) (arrives from.0 within (λ e. apart (ap site_at e))).all
            ∙ length-map (put_out_to to (trail_of (trails_of old) from)) (posted (length old))
        | inr past ↦ nothing_past from past
      ];
      elsewhere = λ i from else_. none_arrive g mid new to a x one proceeds.ins i from ∙ ap (λ (l : List Posted). length l) (elsewhere i from else_);
    }

    pub delivered_arms : KeepsArms (moment_of g old) (moment_of g new)
    delivered_arms j = arms_kept g mid new to a x one proceeds.arms j ∙ arms_stay old mid stay g j

    changes_on : ChangesAt to (moment_of g old) (moment_of g new)
    changes_on =
        let changes = changes_at g mid new to a x one proceeds.arms in
        let same = trails_stay old mid stay in record {
          sites = changes.sites ∙ ap length same;
          others = λ j apart. changes.others j apart ∙ ap (λ ts. trail_of ts j) same;
          arms = delivered_arms;
          calls = λ j apart. changes.calls j apart ∙ calls_stay old mid stay g j;
        }

    trail_on : trail_of (trails_of old) to ≡ a.node.trail
    trail_on = ap (λ ts. trail_of ts to) (sym (trails_stay old mid stay)) ∙ trail_was g mid new to a x one

    clock_on : clock_at (moment_of g old) to ≡ clock_in a.node
    clock_on = ap (λ es. clock (reverse es)) trail_on

    -- the delivery of a packet from another site
    hands_at : (from : SiteId) (number : ℕ) (answer : Moved) → from ≢ to → from.0 < length old
        → MovesTo from number (arrival a.ins from number) (length a.ins) (clock_in a.node) a.node.trail x.node.trail answer
        → HandsOver from number (put_out_as (trails_of old) to from number) (clock_at (moment_of g old) to) (trail_of (trails_of old) to)
        (trail_of (trails_of new) to) answer
    hands_at from number answer apart within moves =
        let all = arrives from.0 within (λ e. apart (ap site_at e)) in
        let put = put_out_as (trails_of old) to from number in
        let here = ap (λ (is : List Receiving). arrived_from is from.0)
        (sym (field_at (λ (c : CellValue D). c.ins) mid to.0 a [] one.was)) in
        let arrival_here = arrival_is (length old) a.ins (trails_of old) to from number (here ∙ all.all) in
        let told = subst (λ n. MovesTo from number (option_map (posted (length old)) put) n (clock_in a.node) a.node.trail x.node.trail answer) (ins_here a one.was)
        (subst (λ (p : Option Posted). MovesTo from number p (length a.ins) (clock_in a.node) a.node.trail x.node.trail answer) arrival_here moves) in
        let hands = hands_over (length old) from number put (clock_in a.node) a.node.trail x.node.trail answer
        (λ st at. put_as_spelled (length old) (trails_of old) to from number st all.sized at) told in
        subst (λ n. HandsOver from number put n (trail_of (trails_of old) to) (trail_of (trails_of new) to) answer) (sym clock_on)
        (subst (λ es. HandsOver from number put (clock_in a.node) es (trail_of (trails_of new) to) answer) (sym trail_on)
        (subst (λ es. HandsOver from number put (clock_in a.node) a.node.trail es answer) (sym (trail_now g mid new to a x one)) hands))

    pub moves_at : (from : SiteId) (number : ℕ) (answer : Moved) → from ≢ to → from.0 < length old
        → HasPlace (clock_at (moment_of g old) to + 1) (trail_of (trails_of old) to)
        → MovesTo from number (arrival a.ins from number) (length a.ins) (clock_in a.node) a.node.trail x.node.trail answer
        → MovesAt to from number (moment_of g old) (moment_of g new) answer
    moves_at from number answer apart within place moves =
        moves_after answer place all_arrive changes_on (hands_at from number answer apart within moves)

    -- ---- what is done by a pump

    -- so many packets have arrived there
    counts_now : (moment_of g new).arrived to.0 ≡ counts_in a.ins
    counts_now = ap counts_in (field_at (λ (c : CellValue D). c.ins) new to.0 x [] one.now ∙ proceeds.ins)

    count_put : (from : SiteId) → from.0 < length old → from ≢ to → counts_in a.ins from.0 ≡ length (put_out_to to (trail_of (trails_of old) from))
    count_put from within apart =
        ap (λ (is : List Receiving). length (arrived_from is from.0)) (sym (field_at (λ (c : CellValue D). c.ins) mid to.0 a [] one.was))
        ∙ (ap (λ (l : List Posted). length l) (arrives from.0 within (λ e. apart (ap site_at e))).all
        ∙ length-map (put_out_to to (trail_of (trails_of old) from)) (posted (length old)))

    -- a packet that was taken is there
    never_missing : (pump : PumpValue) (first : Waiting) (answer : Moved) → HasTaken pump first → pump.site ≡ to → length pump.senders ≡ length old
        → taken_from pump first.from.0 ≤ counts_in a.ins first.from.0
        → HandsOver first.from first.number (put_out_as (trails_of old) to first.from first.number) (clock_at (moment_of g old) to)
        (trail_of (trails_of old) to) (trail_of (trails_of new) to) answer
        → answer ≢ moved.Nothing
    never_missing pump first answer taken site many most hands is =
        let within : first.from.0 < length old = (let t = taken.there in omega (arith, t, many)) in
        let apart : first.from ≢ to = λ e. taken.apart (e ∙ sym site) in
        let count = count_put first.from within apart in
        let below = taken.taken in
        let first_one = taken.first in
        let none = subst (λ (z : Moved). HandsOver first.from first.number (put_out_as (trails_of old) to first.from first.number) (clock_at (moment_of g old) to)
        (trail_of (trails_of old) to) (trail_of (trails_of new) to) z) is hands in
        put_there (trails_of old) to first.from first.number (omega (arith, first_one)) (omega (arith, below, most, count)) none.1

    acts_on : (happens : Event) (acted : Acted) → Acts happens (clock_in a.node) a.node.trail x.node.trail acted
        → Acts happens (clock_at (moment_of g old) to) (trail_of (trails_of old) to) (trail_of (trails_of new) to) acted
    acts_on happens acted acts =
        subst (λ n. Acts happens n (trail_of (trails_of old) to) (trail_of (trails_of new) to) acted) (sym clock_on)
        (subst (λ es. Acts happens (clock_in a.node) es (trail_of (trails_of new) to) acted) (sym trail_on)
        (subst (λ es. Acts happens (clock_in a.node) a.node.trail es acted) (sym (trail_now g mid new to a x one)) acts))

    module _ (c : CellValue D) (at : slice_get old to.0 ≡ Some c) where
      node_was : a.node ≡ record c.node { outs = a.node.outs }
      node_was = (stay.each to.0 c a at one.was).node

      pub site_was : a.node.site ≡ to
      site_was = ap (λ (n : NodeValue D). n.site) node_was ∙ (is.cells to.0 c at).site

      -- how the site stands
      stands_at : standing_of c.node ≡ standing_at c.node.catalog to (moment_of g old)
      stands_at =
          ap (λ (i : SiteId). standing c.node.catalog i (reverse c.node.trail)) (is.cells to.0 c at).site
          ∙ ap (λ es. standing c.node.catalog to (reverse es)) (sym (field_at (λ (c : CellValue D). c.node.trail) old to.0 c [] at))

      least_at : (least : Option SiteId) → IsLeastAt g a least → is_told g c.node.disk ≡ true
          → (standing_at c.node.catalog to (moment_of g old)).up ≡ true
          → IsLeastEnabled c.node.catalog to (standing_at c.node.catalog to (moment_of g old)).knows least
      least_at least is_least told up =
          let there = subst (λ (n : NodeValue D). is_told g n.disk ≡ true → (standing_of n).up ≡ true
          → IsLeastEnabled n.catalog n.site (standing_of n).knows least) node_was is_least in
          subst (λ (S : Standing). IsLeastEnabled c.node.catalog to S.knows least) stands_at
          (subst (λ (i : SiteId). IsLeastEnabled c.node.catalog i (standing_of c.node).knows least) (is.cells to.0 c at).site
          (there told (ap (λ (S : Standing). S.up) stands_at ∙ up)))

      pub pumps_at : (before after : PumpValue) (answer : Pumped) → IsPumpAt old to before
          → KeepsPump (counts_in a.ins) before (take_arrived a.node.site (counts_in a.ins) before)
          → HasPlace (clock_at (moment_of g old) to + 1) (trail_of (trails_of old) to)
          → (is_told g c.node.disk ≡ true → (standing_of c.node).up ≡ true)
          → WorksAt g a x (take_arrived a.node.site (counts_in a.ins) before) after answer
          → PumpsAt (is_told g c.node.disk ≡ true) c.node.catalog to (moment_of g old) (moment_of g new) before after answer
      pumps_at before after answer is_pump keeps place up does =
          let stands : is_told g c.node.disk ≡ true → (standing_at c.node.catalog to (moment_of g old)).up ≡ true =
          λ told. ap (λ (S : Standing). S.up) (sym stands_at) ∙ up told in
          let same : take_arrived a.node.site (counts_in a.ins) before ≡ take_arrived to ((moment_of g new).arrived to.0) before =
          ap (λ (i : SiteId). take_arrived i (counts_in a.ins) before) site_was ∙ ap (λ (f : ℕ → ℕ). take_arrived to f before) (sym counts_now) in
          let pump = take_arrived a.node.site (counts_in a.ins) before in
          works place stands all_arrive changes_on
          (subst (λ (p : PumpValue). Works (λ from number move. (move ≢ moved.Nothing) × HandsOver from number (put_out_as (trails_of old) to from number)
          (clock_at (moment_of g old) to) (trail_of (trails_of old) to) (trail_of (trails_of new) to) move)
          (λ happens acted. Acts happens (clock_at (moment_of g old) to) (trail_of (trails_of old) to) (trail_of (trails_of new) to) acted)
          (trail_of (trails_of new) to ≡ trail_of (trails_of old) to)
          (λ least. is_told g c.node.disk ≡ true → IsLeastEnabled c.node.catalog to (standing_at c.node.catalog to (moment_of g old)).knows least) p after answer) same
          (works_so _ _ _ _ _ _ _ _ pump after answer
          (λ first moved taken moves.
          let many : length pump.senders ≡ length old = keeps.senders ∙ is_pump.senders in
          let site : pump.site ≡ to = keeps.site ∙ is_pump.site in
          let within : first.from.0 < length old = (let t = taken.there in omega (arith, t, many)) in
          let apart : first.from ≢ to = λ e. taken.apart (e ∙ sym site) in
          let hands = hands_at first.from first.number moved apart within moves.moves in
          let most = keeps.taken first.from.0 (taken_before a one.was before is_pump first.from.0) in
          (never_missing pump first moved taken site many most hands, hands))
          acts_on
          (λ still. trail_now g mid new to a x one ∙ (still ∙ sym trail_on))
          (λ least is_least told. least_at least is_least told (stands told))
          does))

    -- what had been put for each site when the ends last met is what had arrived there before
    pub drops_on : (catalog : Catalog) → HaveAllMet mid
        → MayDrop catalog to (met_to a.node.outs) a.node.trail x.node.trail → DropsAt catalog to (moment_of g old) (moment_of g new)
    drops_on catalog all drops =
        let same : (n : ℕ) → length (arrived_at mid n to.0) ≡ length (arrived_at old n to.0) = λ n. ap (λ (l : List Posted). length l) (elsewhere n to.0 (inr refl)) in
        subst (λ (f : ℕ → ℕ). MayDrop catalog to f (trail_of (trails_of old) to) (trail_of (trails_of new) to)) (fun_ext same)
        (subst (λ ts. MayDrop catalog to (λ n. length (arrived_at mid n to.0)) (trail_of ts to) (trail_of (trails_of new) to)) (trails_stay old mid stay)
        (drops_at g mid new to a x one catalog all drops))

    -- the calls of the disk are those of the entry
    calls_on : (capacity : ℕ) (catalog : Catalog)
        → MayCall capacity catalog to a.node.trail x.node.trail (calls_under g a.node.disk) (calls_under g x.node.disk)
        → CallsAt capacity catalog to (moment_of g old) (moment_of g new)
    calls_on capacity catalog calls =
        subst (λ n. MayCall capacity catalog to (trail_of (trails_of old) to) (trail_of (trails_of new) to) n (calls_at g new to.0)) (calls_stay old mid stay g to.0)
        (subst (λ ts. MayCall capacity catalog to (trail_of ts to) (trail_of (trails_of new) to) (calls_at g mid to.0) (calls_at g new to.0)) (trails_stay old mid stay)
        (disk_calls_at g mid new to a x one capacity catalog calls))

    pub delivered_calls : CallsDisk g to (record { cells = old; homes = homes }) (record { cells = new; homes = homes })
    delivered_calls told c at =
        let node = (stay.each to.0 c a at one.was).node in
        let catalog = ap (λ (n : NodeValue D). n.catalog) node in
        let layout = ap (λ (n : NodeValue D). n.layout) node in
        let site = ap (λ (n : NodeValue D). n.site) node ∙ (is.cells to.0 c at).site in
        subst (λ (k : Catalog). CallsAt (capacity_of c.node.layout) k to (moment_of g old) (moment_of g new)) catalog
        (subst (λ (l : Layout). CallsAt (capacity_of l) a.node.catalog to (moment_of g old) (moment_of g new)) layout
        (calls_on (capacity_of a.node.layout) a.node.catalog
        (subst (λ (n : SiteId). MayCall (capacity_of a.node.layout) a.node.catalog n a.node.trail x.node.trail
        (calls_under g a.node.disk) (calls_under g x.node.disk)) site
        (proceeds.calls (ap (λ (n : NodeValue D). is_told g n.disk) node ∙ told c at)))))

    -- what the delivery keeps behind the meetings
    module _ (met : HaveAllMet old → HaveAllMet mid) where
      pub delivered_keeps : Keeps g (record { cells = old; homes = homes }) (record { cells = new; homes = homes })
      delivered_keeps = record {
        cells = each_on g old mid new (each_stays old mid stay g) (each_one g mid new to.0 a x one proceeds.keeps);
        homes = refl;
        met = λ all. all_met_kept g mid new to a x one proceeds.same_mets proceeds.ins (met all);
      }

      pub delivered_drops : Drops g to (record { cells = old; homes = homes }) (record { cells = new; homes = homes })
      delivered_drops all told c at =
          let same = stay.each to.0 c a at one.was in
          let node = same.node in
          let catalog = ap (λ (n : NodeValue D). n.catalog) node in
          let site = ap (λ (n : NodeValue D). n.site) node ∙ (is.cells to.0 c at).site in
          subst (λ (k : Catalog). DropsAt k to (moment_of g old) (moment_of g new)) catalog
          (drops_on a.node.catalog (met all)
          (subst (λ (n : SiteId). MayDrop a.node.catalog n (met_to a.node.outs) a.node.trail x.node.trail) site
          (proceeds.drops (ap (λ (n : NodeValue D). is_told g n.disk) node ∙ told c at))))

-- a trail that isn't spent has place
pub place_left : (n : ℕ) (trail : List Entry) → (IsSpent n trail → ⊥) → HasPlace n trail
place_left n trail open_ = (
  elim (cases_lt (length trail) 100000) [ inl less ↦ less | inr most ↦ absurd (open_ (inl most)) ],
  elim (cases_lt n (2 ^ 62)) [ inl less ↦ less | inr most ↦ absurd (open_ (inr most)) ],
)
