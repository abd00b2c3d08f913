-- A bench where all has arrived at a site, and what comes to the cell there.
use Rattle.std.proofs.Common.{◌≡◌, ◌≢◌, ◌<◌, ◌≤◌, ◌+◌, ℕ, zero, suc, Bool, List, [], true, false, length, reverse, get_or, set, slice_get, Some, refl, ap, sym, ◌∙◌, subst, arith, inl}
use Rattle.std.proofs.lemmas.Option.{slice_get_read}
use Rattle.walter_base.specs.declared.names.SiteId.{SiteId}
use Rattle.walter_cell.specs.declared.answers.Moved.{Moved}
use Rattle.walter_cell.specs.declared.answers.Pumped.{Pumped}
use Rattle.walter_cell.specs.Cells.{CellValue, MovesTo, arrival}
use Rattle.walter_cell.specs.Cells as cell
use Rattle.walter_cell.specs.Entries.{HasPlace, IsSpent}
use Rattle.walter_cell.specs.Nodes.{NodeValue, clock_in, is_told, standing_of}
use Rattle.walter_cell.specs.Pumps.{Pumps, TakesSome, counts_in}
use Rattle.walter_disk.specs.declared.disk.Disk.{Ghosts}
use Rattle.walter_lane.specs.Lanes.{Receiving}
use Rattle.walter_base.specs.Names.{same_site}
use Rattle.walter_link.specs.Pumps.{PumpValue, KeepsPump, take_below, take_other, taken_from}
use Rattle.walter_link.proofs.Taking.{keeps_self, keeps_on, take_keeps}
use Rattle.walter_rules.specs.declared.entry.Entry.{Entry}
use Rattle.walter_rules.specs.Merges.{trail_of}
use Rattle.walter_rules.specs.Trails.{clock, standing}
use Rattle.walter_cluster.specs.Benches.{BenchValue, IsBench, Keeps, trails_of}
use Rattle.walter_cluster.specs.Meetings.{HasArrived, HasGathered}
use Rattle.walter_cluster.specs.Moments.{KeepsArms, MovesAt, CallsDisk, Drops, moment_of, clock_at}
use Rattle.walter_cluster.specs.Pumps.{IsPumpAt, PumpsAt, standing_at}
use Rattle.walter_cluster.proofs.Arrivals.{ins_here, moves_at, pumps_at, taken_before, delivered_keeps, delivered_arms, delivered_calls, delivered_drops, place_left}
use Rattle.walter_cluster.proofs.Benches.{one_at, trails_kept}
use Rattle.walter_cluster.proofs.Changes.{ChangesOne, there_is, field_at}
use Rattle.walter_cluster.proofs.Meetings.{trails_stay, arms_stay, calls_stay, each_stays}

-- no more is taken than has arrived
other_keeps : (arrived : ℕ → ℕ) (own : Bool) (n : ℕ) (p : PumpValue) → KeepsPump arrived p (take_other own (record { 0 = n }) (arrived n) p)
other_keeps arrived true n p = keeps_self arrived p
other_keeps arrived false n p = take_keeps arrived (record { 0 = n }) p

below_keeps : (i : SiteId) (arrived : ℕ → ℕ) (n : ℕ) (p : PumpValue) → KeepsPump arrived p (take_below i arrived n p)
below_keeps i arrived zero p = keeps_self arrived p
below_keeps i arrived (suc n) p =
    let mid = take_below i arrived n p in
    keeps_on arrived p mid (take_below i arrived (suc n) p) (below_keeps i arrived n p)
    (other_keeps arrived (same_site (record { 0 = n }) i) n mid)

-- the cell that is read at a place is the site's
pub read_here : {D : Type 0} (inside bench : BenchValue D) (place : ℕ) (i : SiteId) (b : CellValue D) → inside ≡ bench → place ≡ i.0
    → i.0 < length bench.cells → b ≡ get_or inside.cells place b → slice_get bench.cells i.0 ≡ Some b
read_here inside bench place i b view is below at =
    let same = ap (λ v. length v.cells) view in
    subst (λ n. slice_get bench.cells n ≡ Some b) is
    (subst (λ v. slice_get v.cells place ≡ Some b) view
    (slice_get_read inside.cells (length inside.cells) place b refl (omega (arith, below, is, same)) at))

-- how a site's trail stands whose cell is this
module _ {D : Type 0} (g : Ghosts D) (cells : List (CellValue D)) (i : SiteId) (b : CellValue D) (here : slice_get cells i.0 ≡ Some b) where
  trail_here : trail_of (trails_of cells) i ≡ b.node.trail
  trail_here = field_at (λ (c : CellValue D). c.node.trail) cells i.0 b [] here

  -- how it stands by its trail
  pub stands_here : b.node.site ≡ i → standing_at b.node.catalog i (moment_of g cells) ≡ standing_of b.node
  stands_here site =
      ap (λ (es : List Entry). standing b.node.catalog i (reverse es)) trail_here
      ∙ ap (λ (j : SiteId). standing b.node.catalog j (reverse b.node.trail)) (sym site)

  pub has_place : (IsSpent (clock_in b.node + 1) b.node.trail → ⊥) → HasPlace (clock_at (moment_of g cells) i + 1) (trail_of (trails_of cells) i)
  has_place unspent =
      subst (λ (es : List Entry). HasPlace (clock (reverse es) + 1) es) (sym trail_here) (place_left (clock_in b.node + 1) b.node.trail unspent)

  pub is_spent : IsSpent (clock_in b.node + 1) b.node.trail → IsSpent (clock_at (moment_of g cells) i + 1) (trail_of (trails_of cells) i)
  is_spent spent = subst (λ (es : List Entry). IsSpent (clock (reverse es) + 1) es) (sym trail_here) spent

module _ {D : Type 0} (g : Ghosts D) (old mid : BenchValue D) (to : SiteId) (is : IsBench old) (below : to.0 < length old.cells)
    (gathers : HasGathered to.0 old mid) where
  -- ---- all has arrived, or some

  pub gathered_keeps : Keeps g old mid
  gathered_keeps =
      record { cells = each_stays old.cells mid.cells gathers.stays g; homes = gathers.homes; met = gathers.met }

  pub gathered_drops : Drops g to old mid
  gathered_drops met told cell there = inl (ap (λ ts. trail_of ts to) (trails_stay old.cells mid.cells gathers.stays))

  pub gathered_calls : CallsDisk g to old mid
  gathered_calls told cell there = inl (
    ap (λ ts. trail_of ts to) (trails_stay old.cells mid.cells gathers.stays),
    calls_stay old.cells mid.cells gathers.stays g to.0,
  )

  pub gathered_trails : trails_of mid.cells ≡ trails_of old.cells
  gathered_trails = trails_stay old.cells mid.cells gathers.stays

  pub gathered_arms : KeepsArms (moment_of g old.cells) (moment_of g mid.cells)
  gathered_arms j = arms_stay old.cells mid.cells gathers.stays g j

  -- ---- all has arrived, and the cell becomes another

  module _ (arrives : (from : ℕ) → from < length old.cells → from ≢ to.0 → HasArrived old.cells mid.cells to.0 from) (place : ℕ)
      (a x : CellValue D) (is_place : place ≡ to.0) (at : a ≡ get_or mid.cells place a) where
    abbrev new : List (CellValue D)
    new = set mid.cells place x

    pub one : ChangesOne mid.cells new to.0 a x
    one = one_at mid.cells place to.0 a x is_place (let long = gathers.stays.long in omega (arith, below, long)) at

    pub lanes_here : length a.ins ≡ length old.cells
    lanes_here = ins_here g old.homes old.cells mid.cells gathers.stays is to below arrives gathers.elsewhere a one.was

    pub site_here : a.node.site ≡ to
    site_here =
        let was = there_is old.cells to.0 below in
        ap (λ (n : NodeValue D). n.site) (gathers.stays.each to.0 was.0 a was.1 one.was).node ∙ (is.cells to.0 was.0 was.1).site

    pub taken_here : (before : PumpValue) → IsPumpAt old.cells to before → (from : ℕ) → taken_from before from ≤ counts_in a.ins from
    taken_here = taken_before g old.homes old.cells mid.cells gathers.stays is to below arrives gathers.elsewhere a one.was

    module _ (proceeds : cell.Proceeds g a x) where
      pub now_keeps : Keeps g old (record { cells = new; homes = mid.homes })
      now_keeps =
          subst (λ hs. Keeps g old (record { cells = new; homes = hs })) (sym gathers.homes)
          (delivered_keeps g old.homes old.cells mid.cells gathers.stays is to below arrives gathers.elsewhere new a x one proceeds gathers.met)

      pub now_drops : Drops g to old (record { cells = new; homes = mid.homes })
      now_drops = delivered_drops g old.homes old.cells mid.cells gathers.stays is to below arrives gathers.elsewhere new a x one proceeds gathers.met

      pub now_calls : CallsDisk g to old (record { cells = new; homes = mid.homes })
      now_calls = delivered_calls g old.homes old.cells mid.cells gathers.stays is to below arrives gathers.elsewhere new a x one proceeds

      pub now_arms : KeepsArms (moment_of g old.cells) (moment_of g new)
      now_arms = delivered_arms g old.homes old.cells mid.cells gathers.stays is to below arrives gathers.elsewhere new a x one proceeds

      pub now_trails : x.node.trail ≡ a.node.trail → trails_of new ≡ trails_of old.cells
      now_trails same = trails_kept g mid.cells new to a x one same ∙ gathered_trails

      pub now_moves : (from : SiteId) (number : ℕ) (answer : Moved) → from ≢ to → from.0 < length old.cells
          → HasPlace (clock_at (moment_of g old.cells) to + 1) (trail_of (trails_of old.cells) to)
          → MovesTo from number (arrival a.ins from number) (length a.ins) (clock_in a.node) a.node.trail x.node.trail answer
          → MovesAt to from number (moment_of g old.cells) (moment_of g new) answer
      now_moves = moves_at g old.homes old.cells mid.cells gathers.stays is to below arrives gathers.elsewhere new a x one proceeds

      -- so many packets have arrived there
      counts : (moment_of g new).arrived to.0 ≡ counts_in a.ins
      counts = ap (λ (is : List Receiving). counts_in is) (field_at (λ (c : CellValue D). c.ins) new to.0 x [] one.now ∙ proceeds.ins)

      module _ (before after : PumpValue) (pump : IsPumpAt old.cells to before) where
        pub now_taken : TakesSome a.node.site (counts_in a.ins) before after → TakesSome to ((moment_of g new).arrived to.0) before after
        now_taken some = (
          some.0,
          some.1 ∙ (ap (λ (i : SiteId). take_below i (counts_in a.ins) some.0 before) site_here ∙ ap (λ (f : ℕ → ℕ). take_below to f some.0 before) (sym counts)),
        )

        pub now_pump : KeepsPump (counts_in a.ins) before after → IsPumpAt new to after
        now_pump keeps =
            record {
              site = keeps.site ∙ pump.site;
              senders = keeps.senders ∙ (pump.senders ∙ sym now_keeps.cells.long);
              taken = λ from.
                  let most = keeps.taken from
                  (taken_before g old.homes old.cells mid.cells gathers.stays is to below arrives gathers.elsewhere a one.was before pump from) in
                  let same = ap (λ (f : ℕ → ℕ). f from) counts in
                  omega (arith, most, same);
            }

        pub now_pumps : (answer : Pumped) (c : CellValue D) → slice_get old.cells to.0 ≡ Some c
            → HasPlace (clock_at (moment_of g old.cells) to + 1) (trail_of (trails_of old.cells) to)
            → (is_told g c.node.disk ≡ true → (standing_of c.node).up ≡ true)
            → Pumps g a x before after answer
            → PumpsAt (is_told g c.node.disk ≡ true) c.node.catalog to (moment_of g old.cells) (moment_of g new) before after answer
        now_pumps answer c there has_place up does =
            pumps_at g old.homes old.cells mid.cells gathers.stays is to below arrives gathers.elsewhere new a x one proceeds c there before after answer pump
            (below_keeps a.node.site (counts_in a.ins) (length before.senders) before) has_place up does
