-- What a client's turn comes to at a bench whose sites work.
use Rattle.std.proofs.Common.{◌≡◌, ◌<◌, ◌+◌, ℕ, true, false, List, length, reverse, slice_get, Some, Ok, Err, refl, ap, sym, ◌∙◌, subst, arith, inl, inr}
use Rattle.std.proofs.lemmas.List.{length-map}
use Rattle.walter_base.specs.declared.memory.NoMemory.{NoMemory}
use Rattle.walter_base.specs.declared.names.SiteId.{SiteId}
use Rattle.walter_cell.specs.Cells.{CallComes, TurnsTo}
use Rattle.walter_cell.specs.Entries.{IsSpent}
use Rattle.walter_cell.specs.Nodes.{is_told}
use Rattle.walter_cell.specs.declared.answers.Serve.{Serve}
use Rattle.walter_cell.specs.declared.answers.Serve.TheVariants.{Served, Ended, Broken, Spent}
use Rattle.walter_cluster.specs.Benches.{BenchValue, Keeps, trails_of}
use Rattle.walter_cluster.specs.Moments.{Moment, ChangesAt, TurnsAt, clock_at, moment_of, trail_at}
use Rattle.walter_cluster.proofs.Changes.{one_there}
use Rattle.walter_cluster.proofs.Pumps.{pumps_kept}
use Rattle.walter_cluster.proofs.Working.{same_on}
use Rattle.walter_conn.specs.Sequences.{AreAllCalls}
use Rattle.walter_disk.specs.declared.disk.Disk.{Ghosts}
use Rattle.walter_link.specs.Pumps.{PumpValue}
use Rattle.walter_rules.specs.declared.entry.Entry.{Entry}
use Rattle.walter_rules.specs.Knowledge.{site_at}
use Rattle.walter_rules.specs.Merges.{trail_of}
use Rattle.walter_rules.specs.Trails.{clock}
use Rattle.walter_scenario.specs.declared.scenario.Client.{Client}
use Rattle.walter_scenario.specs.declared.scenario.Scenario.{Scenario}
use Rattle.walter_trail.specs.Calls.{calls_of}
use Rattle.walter_work.specs.Driven.{HasAllCalled, IsSpentAt, full, late}
use Rattle.walter_work.specs.Working.{IsWorking}
use Rattle.walter_work.proofs.Working.{call_on}
use Rattle.walter_workers.specs.Rounds.{Moves, TurnsOne, is_served}
use Rattle.walter_workers.proofs.Rooms.{moves_grown, moves_failed, moves_still}
use Rattle.walter_workers.proofs.Work.{can_on}

-- a trail without a place is spent
pub spent_at : (trails : List (List Entry)) (i : SiteId) → IsSpent (clock (reverse (trail_of trails i)) + 1) (trail_of trails i)
    → IsSpentAt trails i
spent_at trails i (inl long) = full long
spent_at trails i (inr past) = late past

-- ---- one trail

module _ (told : Type 0) (t : Scenario) (i : SiteId) (number : ℕ) (bytes : List ℕ) (fault : Type 0) (old new : List Entry)
    (pump : PumpValue) (works : IsWorking told t i old pump) where
  comes_on : CallComes number bytes old new → IsWorking told t i new pump
  comes_on (call, rest, grows, are) =
      subst (λ (es : List Entry). IsWorking told t i es pump) (sym grows.1)
      (call_on told t i old pump grows.0 number call works grows.2)

  pub turn_on : (last : ℕ) (answer : Serve) → TurnsTo number bytes last fault old new answer → IsWorking told t i new pump
  turn_on last Spent turns = same_on told t i old new pump works turns.1
  turn_on last Ended turns = same_on told t i old new pump works turns.2
  turn_on last Broken (place, inl cut) = same_on told t i old new pump works cut.1
  turn_on last Broken (place, inr (failed, inl same)) = same_on told t i old new pump works same
  turn_on last Broken (place, inr (failed, inr comes)) = comes_on comes
  turn_on last Served turns = comes_on turns.1

-- ---- all trails

module _ (fails : Type 0) (fault : Type 0) (so : fault → fails) (number : ℕ) (client : Client) (old new : Moment)
    (within : client.site.0 < length old.trails) where
  turn_moves : (answer : Serve) → TurnsAt client.site number client.bytes fault old new answer
      → Moves fails old.trails new.trails (is_served answer)
  turn_moves answer turn = go answer turn.turns
    where
      i : SiteId
      i = client.site

      changes : ChangesAt client.site old new
      changes = turn.others

      go : (answer : Serve) → TurnsTo number client.bytes (clock_at old client.site) fault (trail_of old.trails client.site)
          (trail_of new.trails client.site) answer → Moves fails old.trails new.trails (is_served answer)
      go Spent turns = moves_still fails i old new changes turns.1
      go Ended turns = moves_still fails i old new changes turns.2
      go Broken (place, inl cut) = moves_still fails i old new changes cut.1
      go Broken (place, inr (failed, inl same)) = moves_still fails i old new changes same
      go Broken (place, inr (failed, inr (call, rest, grows, are))) = moves_failed fails i old new changes _ within (so failed) grows
      go Served (place, (call, rest, grows, are)) = moves_grown fails i old new changes _ within place.0 grows

  called_as : trail_of new.trails client.site ≡ trail_of old.trails client.site
      → AreAllCalls client.bytes (calls_of number (trail_of old.trails client.site)) → HasAllCalled fails new.trails number client
  called_as same all =
      inr (inr (subst (λ (es : List Entry). AreAllCalls client.bytes (calls_of number es)) (sym same) all))

  turn_called : (answer : Serve) → TurnsTo number client.bytes (clock_at old client.site) fault (trail_of old.trails client.site)
      (trail_of new.trails client.site) answer → is_served answer ≡ false → HasAllCalled fails new.trails number client
  turn_called Spent (spent, same) is =
      inr (inl (spent_at new.trails client.site
      (subst (λ (es : List Entry). IsSpent (clock (reverse es) + 1) es) (sym same) spent)))
  turn_called Ended (place, whole, same) is = called_as same (inl whole)
  turn_called Broken (place, inl (cut, same)) is = called_as same (inr cut)
  turn_called Broken (place, inr failed) is = inl (so failed.0)
  turn_called Served turns is = absurd cc

-- ---- a bench

module _ {D : Type 0} (g : Ghosts D) (fails : Type 0) (t : Scenario) (number : ℕ) (old new : BenchValue D)
    (keeps : Keeps g old new) where
  -- where the turn came to something
  pub turned : (fault : Type 0) → (fault → fails) → (client : Client) → slice_get t.clients number ≡ Some client
      → client.site.0 < length old.cells → (answer : Serve)
      → TurnsAt client.site number client.bytes fault (moment_of g old.cells) (moment_of g new.cells) answer
      → TurnsOne g fails t number old new (Ok (is_served answer))
  turned fault so client there within answer turn =
      let long = length-map old.cells (λ c. c.node.trail) in
      let below : client.site.0 < length (trails_of old.cells) = omega (arith, within, long) in
      record {
        works = λ pumps can.
            can_on g t old new keeps pumps pumps can (pumps_kept g old new keeps pumps can.are) client.site (λ k apart. refl)
            turn.others.others
            (λ c p q at before after works.
            let found : Some p ≡ Some q = sym before ∙ after in
            let one : p ≡ q = cc in
            subst (λ (x : PumpValue). IsWorking (is_told g c.node.disk ≡ true) t client.site (trail_at new.cells client.site) x) one
            (turn_on (is_told g c.node.disk ≡ true) t client.site number client.bytes fault _ _ p works _ answer turn.turns));
        moves = turn_moves fails fault so number client (moment_of g old.cells) (moment_of g new.cells) below answer turn;
        called = λ is other at.
            subst (λ (c : Client). HasAllCalled fails (trails_of new.cells) number c) (one_there t.clients number client other there at)
            (turn_called fails fault so number client (moment_of g old.cells) (moment_of g new.cells) below answer turn.turns cc);
      }

  -- where memory ran out
  pub unturned : (e : NoMemory) → trails_of new.cells ≡ trails_of old.cells → TurnsOne g fails t number old new (Err e)
  unturned e same = record {
    works = λ pumps can.
        let stays = λ (j : SiteId). ap (λ (trails : List (List Entry)). trail_of trails j) same in
        can_on g t old new keeps pumps pumps can (pumps_kept g old new keeps pumps can.are) (site_at 0) (λ k apart. refl)
        (λ j apart. stays j)
        (λ c p q at before after works.
        let found : Some p ≡ Some q = sym before ∙ after in
        let one : p ≡ q = cc in
        subst (λ (x : PumpValue). IsWorking (is_told g c.node.disk ≡ true) t (site_at 0) (trail_at new.cells (site_at 0)) x) one
        (same_on (is_told g c.node.disk ≡ true) t (site_at 0) _ _ p works (stays (site_at 0))));
    moves = tt;
    called = λ is. absurd cc;
  }
