-- A site that works goes on to work, whatever a client's turn or a pump comes to.
use Rattle.std.proofs.Common.{◌≡◌, ℕ, ◌≤◌, ◌-◌, ◌∷◌, ◌++◌, List, [], length, reverse, refl, ap, sym, ◌∙◌, subst, arith, Option, Bool, true, false, inl, inr, Result, Ok, Err}
use Rattle.std.specs.Prelude.{IfOk, OnErr}
use Rattle.walter_base.specs.declared.catalog.Catalog.{Catalog}
use Rattle.walter_base.specs.declared.memory.NoMemory.{NoMemory}
use Rattle.walter_base.specs.declared.names.SiteId.{SiteId}
use Rattle.walter_base.specs.declared.packet.Packet.{Packet}
use Rattle.walter_cell.specs.declared.answers.Acted.{Acted}
use Rattle.walter_cell.specs.declared.answers.Acted.TheVariants as acted
use Rattle.walter_cell.specs.declared.answers.Moved.{Moved}
use Rattle.walter_cell.specs.declared.answers.Moved.TheVariants as moved
use Rattle.walter_cell.specs.declared.answers.Pumped.{Pumped}
use Rattle.walter_cell.specs.declared.answers.Serve.{Serve}
use Rattle.walter_cell.specs.declared.answers.Serve.TheVariants as serve
use Rattle.walter_cell.specs.Cells.{CellValue, arrival}
use Rattle.walter_cell.specs.Cells as cell
use Rattle.walter_cell.specs.Entries.{Grows}
use Rattle.walter_cell.specs.Lines.{LineValue}
use Rattle.walter_cell.specs.Nodes.{clock_in, is_told, standing_of}
use Rattle.walter_cell.specs.Pumps.{hands, advances, ticks, idle}
use Rattle.walter_cell.specs.Pumps as pumps
use Rattle.walter_cell.specs.Turns.{BringsCall, ServesAt, ServesTo}
use Rattle.walter_cell.proofs.Works.{works_so}
use Rattle.walter_conn.specs.Calls.{Incoming}
use Rattle.walter_disk.specs.declared.disk.Disk.{Ghosts}
use Rattle.walter_lane.specs.Lanes.{Receiving}
use Rattle.walter_lane.specs.declared.posted.Posted.{Posted}
use Rattle.walter_link.specs.Pumps.{PumpValue, KeepsPump, take_arrived, take_below, taken_from}
use Rattle.walter_outbox.specs.Lanes.{arrived_from}
use Rattle.walter_rules.specs.declared.entry.Entry.{Entry}
use Rattle.walter_rules.specs.declared.event.Event.{Event}
use Rattle.walter_rules.specs.declared.event.Event.TheVariants.{Given, Restart}
use Rattle.walter_rules.specs.declared.event.Input.TheVariants.{Deliver}
use Rattle.walter_rules.specs.Deliveries.{IsLeastEnabled}
use Rattle.walter_rules.specs.Standing.{Standing}
use Rattle.walter_rules.specs.Trails.{standing}
use Rattle.walter_scenario.specs.declared.scenario.Scenario.{Scenario}
use Rattle.walter_work.specs.Working.{IsWorking}
use Rattle.walter_work.proofs.Working.{takes_below, takes_on, call_on, restart_on, advance_on, delivery_on, tick_on}
use Rattle.walter_cluster.specs.Shared.{IsAtWork}
use Rattle.walter_cluster.proofs.Keeping.{ins_long}

-- what a delivery leaves of a trail, and what another event leaves
abbrev pub HandsOn : SiteId → ℕ → (old new : List Entry) → Moved → Type 0
HandsOn from number old new moved.Did = (packet : Packet) × Grows (Given (Deliver from number packet)) old new
HandsOn from number old new moved.Nothing = new ≡ old
HandsOn from number old new moved.Spent = new ≡ old

abbrev pub ActsOn : Event → (old new : List Entry) → Acted → Type 0
ActsOn event old new acted.Did = Grows event old new
ActsOn event old new acted.Spent = new ≡ old

-- what is said of an event in a cell, said of its trail
pub acts_as : (event : Event) (clock : ℕ) (old new : List Entry) (act : Acted) → cell.Acts event clock old new act
    → ActsOn event old new act
acts_as event clock old new acted.Did acts = acts.1
acts_as event clock old new acted.Spent acts = acts.1

module _ (told : Type 0) (t : Scenario) (i : SiteId) (old new : List Entry) where
  -- the trail stays
  pub same_on : (pump : PumpValue) → IsWorking told t i old pump → new ≡ old → IsWorking told t i new pump
  same_on pump is same = subst (λ (es : List Entry). IsWorking told t i es pump) (sym same) is

  -- an entry of this event has come
  pub grown_on : (pump : PumpValue) (event : Event) → ((e : Entry) → e.event ≡ event → IsWorking told t i (old ++ e ∷ []) pump)
      → Grows event old new → IsWorking told t i new pump
  grown_on pump event on grows =
      subst (λ (es : List Entry). IsWorking told t i es pump) (sym grows.1) (on grows.0 grows.2)

  -- what a site does that is pumped
  pub pump_on : (pump after : PumpValue) (answer : Pumped) → IsWorking told t i old pump
      → (told → (standing t.catalog i (reverse old)).up ≡ true)
      → pumps.Works (λ from number move. HandsOn from number old new move) (λ event act. ActsOn event old new act) (new ≡ old)
      (λ least. told → IsLeastEnabled t.catalog i (standing t.catalog i (reverse old)).knows least) pump after answer
      → IsWorking told t i new after
  pump_on pump after answer is up (hands first rest moved.Did waits taken does left says) =
      subst (IsWorking told t i new) (sym left) (grown_on (record pump { waiting = rest }) _
      (λ e event. delivery_on told t i old pump e first rest does.0 is waits event up) does.1)
  pump_on pump after answer is up (hands first rest moved.Nothing waits taken does left says) =
      subst (IsWorking told t i new) (sym left) (same_on pump is does)
  pump_on pump after answer is up (hands first rest moved.Spent waits taken does left says) =
      subst (IsWorking told t i new) (sym left) (same_on pump is does)
  pump_on pump after answer is up (advances from acted.Did none least does left says) =
      subst (IsWorking told t i new) (sym left) (grown_on pump _
      (λ e event. advance_on told t i old pump e from is event (λ so. (up so, least so))) does)
  pump_on pump after answer is up (advances from acted.Spent none least does left says) =
      subst (IsWorking told t i new) (sym left) (same_on pump is does)
  pump_on pump after answer is up (ticks acted.Did none least some does left says) =
      subst (IsWorking told t i new) (sym left) (grown_on (record pump { ticks = pump.ticks - 1 }) _
      (λ e event. tick_on told t i old pump e is some event (λ so. (up so, least so))) does)
  pump_on pump after answer is up (ticks acted.Spent none least some does left says) =
      subst (IsWorking told t i new) (sym left) (same_on pump is does)
  pump_on pump after answer is up (idle none least no_ticks still left says) =
      subst (IsWorking told t i new) (sym left) (same_on pump is still)

module _ {D : Type 0} (g : Ghosts D) (t : Scenario) (i : SiteId) where
  -- where a cell has gone on, its pump too, and its trail is that of a site that works
  pub works_further : (a b : CellValue D) (p q : PumpValue) → cell.Keeps g a b → IsAtWork g t i a p → q.site ≡ p.site
      → length q.senders ≡ length p.senders → ((from : ℕ) → taken_from q from ≤ length (arrived_from b.ins from))
      → IsWorking (is_told g a.node.disk ≡ true) t i b.node.trail q → IsAtWork g t i b q
  works_further a b p q keeps is site senders taken working = record {
    catalog = keeps.node.catalog ∙ is.catalog;
    site = keeps.node.site ∙ is.site;
    ins = ins_long b.ins a.ins keeps.ins ∙ is.ins;
    few = is.few;
    pump_site = site ∙ is.pump_site;
    senders = senders ∙ is.senders;
    taken = taken;
    working = subst (λ (is : Bool). IsWorking (is ≡ true) t i b.node.trail q) (sym keeps.node.told) working;
  }

  -- no more was taken than has arrived, where more may have
  no_more_taken : (a b : CellValue D) (p : PumpValue) → cell.Keeps g a b → IsAtWork g t i a p
      → (from : ℕ) → taken_from p from ≤ length (arrived_from b.ins from)
  no_more_taken a b p keeps is from = let m = is.taken from in let n = keeps.more from in omega (arith, m, n)

  -- where the trail stays
  pub works_still : (a b : CellValue D) (p : PumpValue) → cell.Keeps g a b → b.node.trail ≡ a.node.trail
      → IsAtWork g t i a p → IsAtWork g t i b p
  works_still a b p keeps same is = works_further a b p p keeps is refl refl (no_more_taken a b p keeps is)
      (same_on _ t i a.node.trail b.node.trail p is.working same)

  -- how the site stands
  standing_as : (a : CellValue D) (p : PumpValue) → IsAtWork g t i a p
      → standing_of a.node ≡ standing t.catalog i (reverse a.node.trail)
  standing_as a p is =
      ap (λ (c : Catalog). standing c a.node.site (reverse a.node.trail)) is.catalog
      ∙ ap (λ (s : SiteId). standing t.catalog s (reverse a.node.trail)) is.site

  -- where it was made anew
  pub works_raised : (a b : CellValue D) (p : PumpValue) (r : Result Acted NoMemory) → cell.Keeps g a b
      → (is_told g a.node.disk ≡ true → (standing_of a.node).up ≡ false)
      → IfOk r (cell.Acts Restart (clock_in a.node) a.node.trail b.node.trail) → OnErr r (b.node.trail ≡ a.node.trail)
      → IsAtWork g t i a p → IsAtWork g t i b p
  works_raised a b p (Ok acted.Spent) keeps down acts kept is = works_still a b p keeps acts.1 is
  works_raised a b p (Ok acted.Did) keeps down acts kept is =
      works_further a b p p keeps is refl refl (no_more_taken a b p keeps is)
      (grown_on _ t i a.node.trail b.node.trail p Restart
      (λ e event. restart_on _ t i a.node.trail p e is.working event
      (λ so. sym (ap (λ S. S.up) (standing_as a p is)) ∙ down so)) acts.1)
  works_raised a b p (Err out) keeps down acts kept is = works_still a b p keeps kept is

  -- what is said of deliveries in a cell, said of its trail
  hands_as : (from : SiteId) (number sites clock : ℕ) (post : Option Posted) (old new : List Entry) (move : Moved)
      → cell.MovesTo from number post sites clock old new move → HandsOn from number old new move
  hands_as from number sites clock post old new moved.Did moves = (moves.1.1, moves.1.4)
  hands_as from number sites clock post old new moved.Nothing moves = moves.2
  hands_as from number sites clock post old new moved.Spent moves = moves.1

  -- where it was pumped
  pub works_pumped : (a b : CellValue D) (p q : PumpValue) (r : Result Pumped NoMemory) → cell.Keeps g a b → b.ins ≡ a.ins
      → (is_told g a.node.disk ≡ true → (standing_of a.node).up ≡ true) → IfOk r (pumps.Pumps g a b p q)
      → OnErr r (b.node.trail ≡ a.node.trail) → OnErr r (pumps.TakesSome a.node.site (pumps.counts_in a.ins) p q)
      → KeepsPump (pumps.counts_in a.ins) p q → IsAtWork g t i a p → IsAtWork g t i b q
  works_pumped a b p q r keeps ins up does kept some pumped is =
      works_further a b p q keeps is pumped.site pumped.senders
      (λ from. subst (λ (is : List Receiving). taken_from q from ≤ length (arrived_from is from)) (sym ins) (pumped.taken from (is.taken from)))
      (go r does kept some)
    where
      go : (r : Result Pumped NoMemory) → IfOk r (pumps.Pumps g a b p q) → OnErr r (b.node.trail ≡ a.node.trail)
          → OnErr r (pumps.TakesSome a.node.site (pumps.counts_in a.ins) p q)
          → IsWorking (is_told g a.node.disk ≡ true) t i b.node.trail q
      go (Ok answer) does kept some =
          pump_on _ t i a.node.trail b.node.trail (take_arrived a.node.site (pumps.counts_in a.ins) p) q answer
          (subst (λ (s : SiteId). IsWorking (is_told g a.node.disk ≡ true) t i a.node.trail (take_arrived s (pumps.counts_in a.ins) p)) (sym is.site)
          (takes_on _ t i a.node.trail p (pumps.counts_in a.ins) is.pump_site is.working))
          (λ so. sym (ap (λ S. S.up) (standing_as a p is)) ∙ up so)
          (works_so _ _ _ _ _ _ _ _ _ q answer
          (λ first move taken moves. hands_as first.from first.number (length a.ins) (clock_in a.node) (arrival a.ins first.from first.number) a.node.trail b.node.trail move moves.moves)
          (λ event act acts. acts_as event (clock_in a.node) a.node.trail b.node.trail act acts) (λ same. same)
          (λ least one so. subst (λ (S : Standing). IsLeastEnabled t.catalog i S.knows least) (standing_as a p is)
          (subst (λ (c : Catalog). IsLeastEnabled c i (standing_of a.node).knows least) is.catalog
          (subst (λ (s : SiteId). IsLeastEnabled a.node.catalog s (standing_of a.node).knows least) is.site (one so (up so)))))
          does)
      go (Err out) does kept some =
          subst (IsWorking (is_told g a.node.disk ≡ true) t i b.node.trail) (sym some.1)
          (subst (λ (s : SiteId). IsWorking (is_told g a.node.disk ≡ true) t i b.node.trail (take_below s (pumps.counts_in a.ins) some.0 p)) (sym is.site)
          (takes_below _ t i b.node.trail some.0 p (pumps.counts_in a.ins)
          (same_on _ t i a.node.trail b.node.trail p is.working kept)))

  -- where a client's turn came
  pub works_served : (a b : CellValue D) (p : PumpValue) (client : ℕ) (r : Result Serve NoMemory) → cell.Keeps g a b
      → IfOk r (ServesAt client a b) → OnErr r (b.node.trail ≡ a.node.trail) → IsAtWork g t i a p → IsAtWork g t i b p
  works_served a b p client (Ok answer) keeps serves kept is =
      works_further a b p p keeps is refl refl (no_more_taken a b p keeps is)
      (serve_on client answer serves.0 serves.2.0 serves.2.2)
    where
      told : Type 0
      told = is_told g a.node.disk ≡ true

      call_comes : (before after : Incoming) → BringsCall client before after a.node.trail b.node.trail
          → IsWorking (is_told g a.node.disk ≡ true) t i b.node.trail p
      call_comes before after brings =
          subst (λ (es : List Entry). IsWorking (is_told g a.node.disk ≡ true) t i es p) (sym brings.trail)
          (call_on (is_told g a.node.disk ≡ true) t i a.node.trail p brings.entry client brings.call is.working brings.event_is)

      serve_on : (client' : ℕ) (answer : Serve) (before after : LineValue)
          → ServesTo client (clock_in a.node) before after a.node.trail b.node.trail answer
          → IsWorking (is_told g a.node.disk ≡ true) t i b.node.trail p
      serve_on client' serve.Spent before after does = same_on _ t i a.node.trail b.node.trail p is.working does.1
      serve_on client' serve.Ended before after does = same_on _ t i a.node.trail b.node.trail p is.working does.2.trail
      serve_on client' serve.Broken before after (place, inl none) = same_on _ t i a.node.trail b.node.trail p is.working none.1.trail
      serve_on client' serve.Broken before after (place, inr lost) = call_comes before.incoming lost.read lost.brings
      serve_on client' serve.Served before after does = call_comes before.incoming after.incoming does.1.brings
  works_served a b p client (Err out) keeps serves kept is = works_still a b p keeps kept is
