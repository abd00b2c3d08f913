-- What a pump comes to at a bench whose sites work.
use Rattle.std.proofs.Common.{◌≡◌, ◌≢◌, ◌<◌, ◌+◌, ◌⊎◌, [], ℕ, zero, suc, true, false, List, length, slice_get, Option, Some, None, Ok, refl, ap, sym, ◌∙◌, subst, arith, inl, inr}
use Rattle.std.proofs.lemmas.Bool.{cases_lt}
use Rattle.std.proofs.lemmas.List.{length-map}
use Rattle.std.proofs.lemmas.Option.{slice_get_within}
use Rattle.walter_base.specs.declared.names.SiteId.{SiteId}
use Rattle.walter_cell.specs.Cells.{CellValue, Acts}
use Rattle.walter_cell.specs.Entries.{IsSpent}
use Rattle.walter_cell.specs.Nodes.{is_told}
use Rattle.walter_cell.specs.declared.answers.Acted.{Acted}
use Rattle.walter_cell.specs.declared.answers.Acted.TheVariants as acted
use Rattle.walter_cell.specs.declared.answers.Moved.{Moved}
use Rattle.walter_cell.specs.declared.answers.Moved.TheVariants as moved
use Rattle.walter_cell.specs.declared.answers.Pumped.{Pumped}
use Rattle.walter_cell.specs.Pumps.{hands, advances, ticks, idle}
use Rattle.walter_cell.proofs.Works.{works_so}
use Rattle.walter_cluster.specs.Benches.{BenchValue, IsToldAt, Keeps, trails_of}
use Rattle.walter_cluster.specs.Moments.{Moment, AllArrive, HandsOver, clock_at, moment_of, put_out_as, stamp_for, trail_at}
use Rattle.walter_cluster.specs.Pumps.{ArePumps, IsPumpAt, PumpsAt, at_once, raises, works, standing_at}
use Rattle.walter_cluster.specs.Shared.{CanWork}
use Rattle.walter_cluster.proofs.Changes.{field_at, one_there, there_is}
use Rattle.walter_cluster.proofs.Working.{HandsOn, acts_as, grown_on, pump_on, same_on}
use Rattle.walter_disk.specs.declared.disk.Disk.{Ghosts}
use Rattle.walter_link.specs.Pumps.{PumpValue, take_arrived}
use Rattle.walter_rules.specs.declared.entry.Entry.{Entry}
use Rattle.walter_rules.specs.declared.event.Event.{Event}
use Rattle.walter_rules.specs.declared.event.Event.TheVariants.{Restart}
use Rattle.walter_rules.specs.Deliveries.{IsLeastEnabled}
use Rattle.walter_rules.specs.Merges.{Stamped, trail_of}
use Rattle.walter_scenario.specs.declared.scenario.Scenario.{Scenario}
use Rattle.walter_work.specs.Driven.{IsIdleAt, IsSpentAt, full, late, late_packet}
use Rattle.walter_work.specs.Working.{IsWorking}
use Rattle.walter_work.proofs.Driven.{idle_fewer}
use Rattle.walter_work.proofs.Taking.{all_taken}
use Rattle.walter_work.proofs.Working.{all_delivered, restart_on, takes_on}
use Rattle.walter_workers.specs.Rounds.{Moves, PumpsOne, has_done}
use Rattle.walter_workers.proofs.Rooms.{moves_grown, moves_still, moves_self}
use Rattle.walter_workers.proofs.Turning.{spent_at}
use Rattle.walter_workers.proofs.Work.{can_on}

-- ---- one trail

-- what is said of a delivery at a bench, said of the site's trail
hands_on : (from : SiteId) (number : ℕ) (put : Option Stamped) (last : ℕ) (old new : List Entry) (move : Moved)
    → HandsOver from number put last old new move → HandsOn from number old new move
hands_on from number put last old new moved.Did over = (over.1.0.1, over.1.2)
hands_on from number put last old new moved.Nothing over = over.2
hands_on from number put last old new moved.Spent over = over.1

module _ (told : Type 0) (t : Scenario) (i : SiteId) (old new : Moment) (before after : PumpValue) (site : before.site ≡ i) where
  -- a site that works goes on to
  pub pumps_on : (answer : Pumped) → IsWorking told t i (trail_of old.trails i) before
      → PumpsAt told t.catalog i old new before after answer → IsWorking told t i (trail_of new.trails i) after
  pumps_on answer is (at_once spent same kept says) =
      subst (λ (p : PumpValue). IsWorking told t i (trail_of new.trails i) p) (sym kept)
      (same_on told t i _ _ before is (ap (λ (m : Moment). trail_of m.trails i) same))
  pumps_on answer is (raises acted.Spent place down acts kept says) =
      subst (λ (p : PumpValue). IsWorking told t i (trail_of new.trails i) p) (sym kept)
      (same_on told t i _ _ before is acts.acts.1)
  pumps_on answer is (raises acted.Did place down acts kept says) =
      subst (λ (p : PumpValue). IsWorking told t i (trail_of new.trails i) p) (sym kept)
      (grown_on told t i _ _ before Restart (λ e event. restart_on told t i (trail_of old.trails i) before e is event down) acts.acts.1)
  pumps_on answer is (works place up all changes does) =
      pump_on told t i (trail_of old.trails i) (trail_of new.trails i) (take_arrived i (new.arrived i.0) before) after answer
      (takes_on told t i (trail_of old.trails i) before (new.arrived i.0) site is) up
      (works_so _ _ _ _ _ _ _ _ _ after answer
      (λ first move taken moves. hands_on first.from first.number (put_out_as old.trails i first.from first.number) (clock_at old i) _ _ move moves.1)
      (λ event act acts. acts_as event (clock_at old i) _ _ act acts) (λ same. same) (λ least one so. one so) does)

  -- ---- all trails

  pump_moves : i.0 < length old.trails → (answer : Pumped) → PumpsAt told t.catalog i old new before after answer
      → Moves ⊥ old.trails new.trails (has_done answer)
  pump_moves within answer (at_once spent same kept says) =
      subst (λ (a : Pumped). Moves ⊥ old.trails new.trails (has_done a)) (sym says)
      (subst (λ (m : Moment). Moves ⊥ old.trails m.trails false) (sym same) (moves_self ⊥ old.trails))
  pump_moves within answer (raises acted.Spent place down acts kept says) =
      subst (λ (a : Pumped). Moves ⊥ old.trails new.trails (has_done a)) (sym says)
      (moves_still ⊥ i old new acts.others acts.acts.1)
  pump_moves within answer (raises acted.Did place down acts kept says) =
      subst (λ (a : Pumped). Moves ⊥ old.trails new.trails (has_done a)) (sym says)
      (moves_grown ⊥ i old new acts.others _ within place.0 acts.acts.1)
  pump_moves within answer (works place up all changes (hands first rest moved.Did waits taken does left says)) =
      subst (λ (a : Pumped). Moves ⊥ old.trails new.trails (has_done a)) (sym says)
      (moves_grown ⊥ i old new changes _ within place.0 does.1.1.2)
  pump_moves within answer (works place up all changes (hands first rest moved.Nothing waits taken does left says)) =
      absurd (does.0 refl)
  pump_moves within answer (works place up all changes (hands first rest moved.Spent waits taken does left says)) =
      subst (λ (a : Pumped). Moves ⊥ old.trails new.trails (has_done a)) (sym says)
      (moves_still ⊥ i old new changes does.1.1)
  pump_moves within answer (works place up all changes (advances from acted.Did none least does left says)) =
      subst (λ (a : Pumped). Moves ⊥ old.trails new.trails (has_done a)) (sym says)
      (moves_grown ⊥ i old new changes _ within place.0 does.1)
  pump_moves within answer (works place up all changes (advances from acted.Spent none least does left says)) =
      subst (λ (a : Pumped). Moves ⊥ old.trails new.trails (has_done a)) (sym says)
      (moves_still ⊥ i old new changes does.1)
  pump_moves within answer (works place up all changes (ticks acted.Did none least some does left says)) =
      subst (λ (a : Pumped). Moves ⊥ old.trails new.trails (has_done a)) (sym says)
      (moves_grown ⊥ i old new changes _ within place.0 does.1)
  pump_moves within answer (works place up all changes (ticks acted.Spent none least some does left says)) =
      subst (λ (a : Pumped). Moves ⊥ old.trails new.trails (has_done a)) (sym says)
      (moves_still ⊥ i old new changes does.1)
  pump_moves within answer (works place up all changes (idle none least no_ticks still left says)) =
      subst (λ (a : Pumped). Moves ⊥ old.trails new.trails (has_done a)) (sym says)
      (moves_still ⊥ i old new changes still)

  -- ---- a site at which nothing was done

  -- an entry's stamp has no place, by the last one's or by that of a packet
  spent_by : (from : SiteId) (number : ℕ) (put : Option Stamped) → put_out_as old.trails i from number ≡ put
      → IsSpent (stamp_for (clock_at old i) put) (trail_of old.trails i) → IsSpentAt old.trails i
  spent_by from number None at (inl long) = full long
  spent_by from number None at (inr past) = late past
  spent_by from zero (Some there) at spent = absurd (let e : None ≡ Some there = at in cc)
  spent_by from (suc place) (Some there) at (inl long) = full long
  spent_by from (suc place) (Some there) at (inr past) = elim (cases_lt there.0 (clock_at old i)) [
    | inl less ↦ late (omega (arith, past, less))
    | inr more ↦ late_packet from place there at (omega (arith, past, more))
  ]

  at_spent : IsSpent (clock_at old i + 1) (trail_of old.trails i) → IsSpentAt old.trails i
  at_spent spent = spent_at old.trails i spent

  -- nothing is left to do
  idle_at : (length before.senders ≡ t.catalog.sites) → IsWorking told t i (trail_of old.trails i) before
      → (told → (standing_at t.catalog i old).up ≡ true) → AllArrive i old new
      → (take_arrived i (new.arrived i.0) before).waiting ≡ []
      → (told → IsLeastEnabled t.catalog i (standing_at t.catalog i old).knows None)
      → (take_arrived i (new.arrived i.0) before).ticks ≡ 0 → IsIdleAt told t old.trails i
  idle_at long is up all none least no_ticks =
      let took = take_arrived i (new.arrived i.0) before in
      let working = takes_on told t i (trail_of old.trails i) before (new.arrived i.0) site is in
      record {
        ticks = (let all_of = working.ticks in omega (arith, all_of, no_ticks));
        packets = λ from number apart within most.
            let come = all.here from apart in
            let taken = all_taken i (new.arrived i.0) before from apart (omega (arith, within, long)) in
            all_delivered told t i (trail_of old.trails i) took working none from number (omega (arith, most, come, taken));
        up = up;
        none_enabled = least;
      }

  pump_done : (length before.senders ≡ t.catalog.sites) → IsWorking told t i (trail_of old.trails i) before
      → (answer : Pumped) → PumpsAt told t.catalog i old new before after answer → has_done answer ≡ false
      → IsSpentAt old.trails i ⊎ IsIdleAt told t old.trails i
  pump_done long is answer (at_once spent same kept says) still = inl (at_spent spent)
  pump_done long is answer (raises acted.Spent place down acts kept says) still = inl (at_spent acts.acts.0)
  pump_done long is answer (raises acted.Did place down acts kept says) still = absurd (let e = ap has_done says in cc)
  pump_done long is answer (works place up all changes (hands first rest moved.Did waits taken does left says)) still =
      absurd (let e = ap has_done says in cc)
  pump_done long is answer (works place up all changes (hands first rest moved.Nothing waits taken does left says)) still =
      absurd (does.0 refl)
  pump_done long is answer (works place up all changes (hands first rest moved.Spent waits taken does left says)) still =
      inl (spent_by first.from first.number (put_out_as old.trails i first.from first.number) refl does.1.0)
  pump_done long is answer (works place up all changes (advances from acted.Did none least does left says)) still =
      absurd (let e = ap has_done says in cc)
  pump_done long is answer (works place up all changes (advances from acted.Spent none least does left says)) still =
      inl (at_spent does.0)
  pump_done long is answer (works place up all changes (ticks acted.Did none least some does left says)) still =
      absurd (let e = ap has_done says in cc)
  pump_done long is answer (works place up all changes (ticks acted.Spent none least some does left says)) still =
      inl (at_spent does.0)
  pump_done long is answer (works place up all changes (idle none least no_ticks rests left says)) still =
      inr (idle_at long is up all none least no_ticks)

pump_others : (told : Type 0) (t : Scenario) (i : SiteId) (old new : Moment) (before after : PumpValue) (answer : Pumped)
    → PumpsAt told t.catalog i old new before after answer
    → (j : SiteId) → j ≢ i → trail_of new.trails j ≡ trail_of old.trails j
pump_others told t i old new before after answer (at_once spent same kept says) j apart = ap (λ (m : Moment). trail_of m.trails j) same
pump_others told t i old new before after answer (raises act place down acts kept says) j apart = acts.others.others j apart
pump_others told t i old new before after answer (works place up all changes does) j apart = changes.others j apart

-- ---- a bench

module _ {D : Type 0} (g : Ghosts D) (t : Scenario) (old new : BenchValue D) (keeps : Keeps g old new)
    (pumps pumped : List PumpValue) (can : CanWork g t old pumps) (are : ArePumps new.cells pumped) (i : SiteId)
    (before after : PumpValue) (was : slice_get pumps i.0 ≡ Some before) (now : slice_get pumped i.0 ≡ Some after)
    (others : (k : ℕ) → k ≢ i.0 → slice_get pumped k ≡ slice_get pumps k)
    (c : CellValue D) (at : slice_get old.cells i.0 ≡ Some c) where
  abbrev told : Type 0
  told = is_told g c.node.disk ≡ true

  is_of : IsPumpAt old.cells i before
  is_of = can.are.each i.0 before was

  -- the site is told as it was
  still_told : IsToldAt g i.0 new → told
  still_told all =
      let within = slice_get_within old.cells i.0 c at in
      let long = keeps.cells.long in
      let b = there_is new.cells i.0 (omega (arith, within, long)) in
      sym (keeps.cells.each i.0 c b.0 at b.1).node.told ∙ all b.0 b.1

  -- where the pump came to something
  pub pumped_so : (answer : Pumped)
      → PumpsAt told t.catalog i (moment_of g old.cells) (moment_of g new.cells) before after answer
      → PumpsOne g t i.0 old new pumped (Ok (has_done answer))
  pumped_so answer does =
      let M : Moment = moment_of g old.cells in
      let N : Moment = moment_of g new.cells in
      let within = slice_get_within old.cells i.0 c at in
      let long = length-map old.cells (λ (c : CellValue D). c.node.trail) in
      let moves = pump_moves told t i M N before after is_of.site (omega (arith, within, long)) answer does in
      record {
        works = can_on g t old new keeps pumps pumped can are i others (pump_others told t i M N before after answer does)
            (λ x p q there first last works.
            let same : c ≡ x = one_there old.cells i.0 c x at there in
            let same_p : before ≡ p = one_there pumps i.0 before p was first in
            let same_q : after ≡ q = one_there pumped i.0 after q now last in
            subst (λ (b : PumpValue). IsWorking (is_told g x.node.disk ≡ true) t i (trail_at new.cells i) b) same_q
            (subst (λ (y : CellValue D). IsWorking (is_told g y.node.disk ≡ true) t i (trail_at new.cells i) after) same
            (pumps_on told t i M N before after is_of.site answer
            (subst (λ (y : CellValue D). IsWorking (is_told g y.node.disk ≡ true) t i (trail_at old.cells i) before) (sym same)
            (subst (λ (b : PumpValue). IsWorking (is_told g x.node.disk ≡ true) t i (trail_at old.cells i) b) (sym same_p) works)) does)));
        moves = moves;
        done = λ is.
            let still : has_done answer ≡ false = cc in
            elim (moves.same still) [
              | inl never ↦ absurd never
              | inr same ↦ subst (λ (trails : List (List Entry)). IsSpentAt trails i ⊎ IsIdleAt (IsToldAt g i.0 new) t trails i) (sym same)
                  (elim (pump_done told t i M N before after is_of.site (is_of.senders ∙ can.of.sites)
                  (subst (λ (es : List Entry). IsWorking told t i es before)
                  (sym (field_at (λ (c : CellValue D). c.node.trail) old.cells i.0 c [] at)) (can.working i.0 c before at was))
                  answer does still) [
                    | inl spent ↦ inl spent
                    | inr calm ↦ inr (idle_fewer told (IsToldAt g i.0 new) still_told t (trails_of old.cells) i calm)
                  ])
            ];
      }
