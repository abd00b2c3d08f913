-- How steps go on.
use Rattle.std.proofs.Common.{◌≡◌, ℕ, zero, suc, ◌+◌, ◌<◌, List, [], ◌∷◌, ◌++◌, ◌∙◌, length, map, take, drop, get_or, set, slice_get, Option, Some, None, option_map, refl, ap, sym, subst, arith, inl, inr}
use Rattle.std.specs.Prelude.{All}
use Rattle.std.proofs.lemmas.List.{append_assoc, map-append, take_more, take-append-drop}
use Rattle.std.proofs.lemmas.List.Elements.{All-contains}
use Rattle.std.proofs.lemmas.Bool.{cases_eq}
use Rattle.std.proofs.lemmas.List.{length-set}
use Rattle.std.proofs.lemmas.List.FromFn.{get_or-map-range_with_len, length-map-range_with_len}
use Rattle.std.proofs.lemmas.Option.{slice_get-map, slice_get-get_or, slice_get_within}
use Rattle.std.specs.List.{range_with_len}
use Rattle.walter_base.specs.declared.catalog.Catalog.{Catalog}
use Rattle.walter_base.specs.declared.names.SiteId.{SiteId}
use Rattle.walter_cell.specs.Cells.{CellValue, TurnsTo}
use Rattle.walter_cell.specs.Lines.{LineValue, IsLineAt}
use Rattle.walter_cell.specs.Nodes.{capacity_of}
use Rattle.walter_cell.specs.declared.answers.Serve.{Serve}
use Rattle.walter_cell.specs.declared.answers.Serve.TheVariants as serve
use Rattle.walter_cluster.specs.Benches.{BenchValue, Keeps, IsOf, AreMet, AreAllConnected, IsToldAt, lines_at}
use Rattle.walter_cluster.specs.Moments.{Moment, TurnsAt, CallsAt, CallsDisk, Drops, DropsAt, moment_of, trail_at}
use Rattle.walter_cluster.proofs.Changes.{there_is, one_there, field_at, set_here, set_there}
use Rattle.walter_cluster.proofs.Keeping.{pump_kept}
use Rattle.walter_rules.specs.Knowledge.{site_at}
use Rattle.walter_disk.specs.declared.disk.Disk.{Ghosts}
use Rattle.walter_psi.proofs.Lists.{contains_at}
use Rattle.walter_rules.specs.declared.entry.Entry.{Entry}
use Rattle.walter_scenario.specs.declared.scenario.Arm.{Arm}
use Rattle.walter_scenario.specs.declared.scenario.Client.{Client}
use Rattle.walter_scenario.specs.declared.scenario.Scenario.{Scenario}
use Rattle.walter_scenario.specs.declared.scenario.Step.{Step}
use Rattle.walter_scenario.specs.declared.scenario.Step.TheVariants as step
use Rattle.walter_trail.specs.Calls.{calls_of}
use Rattle.walter_cell.specs.declared.answers.Pumped.{Pumped}
use Rattle.walter_cell.proofs.Works.{works_so}
use Rattle.walter_cluster.specs.Pumps.{IsPumpAt, PumpsAt, at_once, raises, works}
use Rattle.walter_link.specs.Pumps.{PumpValue, count_in, new_pump, new_sender}
use Rattle.walter_link.specs.declared.chooser.Link.{Link}
use Rattle.walter_play.specs.Scripts.{Scene, Takes, TakesAs, TakesPlain, Plays, site_pumped}

-- a turn of a connection that doesn't fail
sure_turn : (number : ℕ) (bytes : List ℕ) (clock : ℕ) (fault : Type 0) (old new : List Entry) (answer : Serve) → (fault → ⊥)
    → TurnsTo number bytes clock fault old new answer → TurnsTo number bytes clock ⊥ old new answer
sure_turn number bytes clock fault old new serve.Spent never turn = turn
sure_turn number bytes clock fault old new serve.Ended never turn = turn
sure_turn number bytes clock fault old new serve.Broken never (place, inl all) = (place, inl all)
sure_turn number bytes clock fault old new serve.Broken never (place, inr failed) = absurd (never failed.0)
sure_turn number bytes clock fault old new serve.Served never turn = turn

pub turn_is : (i : SiteId) (number : ℕ) (bytes : List ℕ) (fault : Type 0) (old new : Moment) (answer : Serve) → (fault → ⊥)
    → TurnsAt i number bytes fault old new answer → TurnsAt i number bytes ⊥ old new answer
turn_is i number bytes fault old new answer never turn = record {
  turns = sure_turn number bytes _ fault _ _ answer never turn.turns;
  others = turn.others;
  none_arrive = turn.none_arrive;
}

-- what is so of the sites that are told, is so of fewer
plain_told : (told fewer : ℕ → Type 0) (t : Scenario) (one : Step) (old new : Moment)
    → ((i : ℕ) → fewer i → told i) → TakesPlain told t one old new → TakesPlain fewer t one old new
plain_told told fewer t (step.Call number) old new so takes = record {
  client = takes.client;
  there = takes.there;
  answer = takes.answer;
  turns = takes.turns;
  calls = λ is. takes.calls (so _ is);
  drops = λ is. takes.drops (so _ is);
}
plain_told told fewer t (step.Deliver to from number) old new so takes =
    record { answer = takes.answer; moves = takes.moves; calls = λ is. takes.calls (so _ is); drops = λ is. takes.drops (so _ is) }
plain_told told fewer t (step.Advance at from) old new so takes =
    record { answer = takes.answer; acts = takes.acts; calls = λ is. takes.calls (so _ is); drops = λ is. takes.drops (so _ is) }
plain_told told fewer t (step.Tick site) old new so takes =
    record { answer = takes.answer; acts = takes.acts; calls = λ is. takes.calls (so _ is); drops = λ is. takes.drops (so _ is) }
plain_told told fewer t (step.Upgrade site) old new so takes =
    record { answer = takes.answer; acts = takes.acts; calls = λ is. takes.calls (so _ is); drops = λ is. takes.drops (so _ is) }
plain_told told fewer t (step.Stop site) old new so takes =
    record { answer = takes.answer; acts = takes.acts; calls = λ is. takes.calls (so _ is); drops = λ is. takes.drops (so _ is) }
plain_told told fewer t (step.Restart site) old new so takes =
    record { answer = takes.answer; acts = takes.acts; calls = λ is. takes.calls (so _ is); drops = λ is. takes.drops (so _ is) }
plain_told told fewer t (step.Arm arm) old new so takes = takes
plain_told told fewer t (step.Pump site) old new so takes = takes

pub pumps_told : (told fewer : Type 0) (catalog : Catalog) (i : SiteId) (old new : Moment) (before after : PumpValue) (answer : Pumped)
    → (fewer → told) → PumpsAt told catalog i old new before after answer → PumpsAt fewer catalog i old new before after answer
pumps_told told fewer catalog i old new before after answer so (at_once spent same kept says) = at_once spent same kept says
pumps_told told fewer catalog i old new before after answer so (raises acted place down acts kept says) =
    raises acted place (λ is. down (so is)) acts kept says
pumps_told told fewer catalog i old new before after answer so (works place up all changes does) =
    works place (λ is. up (so is)) all changes
    (works_so _ _ _ _ _ _ _ _ _ after answer (λ first moved taken moves. moves) (λ happens acted acts. acts) (λ still. still)
    (λ least is_least is. is_least (so is)) does)

takes_as_told : (told fewer : ℕ → Type 0) (t : Scenario) (one : Step) (o : Option SiteId) (old new : Scene)
    → ((i : ℕ) → fewer i → told i) → TakesAs told t one o old new → TakesAs fewer t one o old new
takes_as_told told fewer t one None old new so takes = (plain_told told fewer t one old.moment new.moment so takes.0, takes.1)
takes_as_told told fewer t one (Some site) old new so takes = record {
  before = takes.before;
  after = takes.after;
  was = takes.was;
  now = takes.now;
  answer = takes.answer;
  pumps = pumps_told (told site.0) (fewer site.0) t.catalog site old.moment new.moment takes.before takes.after takes.answer (so site.0) takes.pumps;
  calls = λ is. takes.calls (so _ is);
  drops = λ is. takes.drops (so _ is);
}

pub takes_told : (told fewer : ℕ → Type 0) (t : Scenario) (one : Step) (old new : Scene)
    → ((i : ℕ) → fewer i → told i) → Takes told t one old new → Takes fewer t one old new
takes_told told fewer t one old new so takes = takes_as_told told fewer t one (site_pumped one) old new so takes

pub plays_told : (told fewer : ℕ → Type 0) (t : Scenario) (steps : List Step) (old new : Scene)
    → ((i : ℕ) → fewer i → told i) → Plays told t steps old new → Plays fewer t steps old new
plays_told told fewer t [] old new so plays = plays
plays_told told fewer t (one ∷ steps) old new so plays =
    (plays.0, takes_told told fewer t one old plays.0 so plays.1, plays_told told fewer t steps plays.0 new so plays.2)

-- one more step
pub plays_more : (told : ℕ → Type 0) (t : Scenario) (steps : List Step) (one : Step) (old now new : Scene)
    → Plays told t steps old now → Takes told t one now new → Plays told t (steps ++ one ∷ []) old new
plays_more told t [] one old now new plays takes =
    (new, subst (λ (m : Scene). Takes told t one m new) plays takes, refl)
plays_more told t (first ∷ steps) one old now new plays takes =
    (plays.0, plays.1, plays_more told t steps one plays.0 now new plays.2 takes)

-- ---- the steps of a scenario

abbrev arming : List Arm → List Step
arming arms = map (λ (arm : Arm). step.Arm arm) arms

-- one more arm before the first step
pub arming_more : (arms : List Arm) (i : ℕ) (d : Arm) → i < length arms → arming (take (i + 1) arms) ≡ arming (take i arms) ++ step.Arm (get_or arms i d) ∷ []
arming_more arms i d within = ap arming (take_more arms i d within) ∙ map-append (λ (arm : Arm). step.Arm arm) (take i arms) (get_or arms i d ∷ [])

-- one more step behind what came before
pub steps_more : (front steps : List Step) (i : ℕ) (d : Step) → i < length steps → front ++ take (i + 1) steps ≡ (front ++ take i steps) ++ get_or steps i d ∷ []
steps_more front steps i d within = ap (λ xs. front ++ xs) (take_more steps i d within) ∙ sym (append_assoc front (take i steps) (get_or steps i d ∷ []))

-- the first ones, and the rest
pub arming_split : (arms : List Arm) (steps : List Step) (i : ℕ) → arming arms ++ steps ≡ arming (take i arms) ++ (arming (drop i arms) ++ steps)
arming_split arms steps i =
    ap (λ xs. arming xs ++ steps) (sym (take-append-drop i arms))
    ∙ (ap (λ xs. xs ++ steps) (map-append (λ (arm : Arm). step.Arm arm) (take i arms) (drop i arms))
    ∙ append_assoc (arming (take i arms)) (arming (drop i arms)) steps)

pub steps_split : (front steps : List Step) (i : ℕ) → front ++ steps ≡ (front ++ take i steps) ++ drop i steps
steps_split front steps i =
    ap (λ xs. front ++ xs) (sym (take-append-drop i steps)) ∙ sym (append_assoc front (take i steps) (drop i steps))

-- ---- a client's turn

-- the site of a client
pub home_of : {D : Type 0} (t : Scenario) (bench : BenchValue D) (number : ℕ) (client : Client) → IsOf t bench
    → slice_get t.clients number ≡ Some client → slice_get bench.homes number ≡ Some client.site
home_of t bench number client is there =
    ap (λ hs. slice_get hs number) is.homes
    ∙ (slice_get-map (λ (client : Client). client.site) t.clients number ∙ ap (option_map (λ (client : Client). client.site)) there)

-- its connection, of which so much was read
pub line_of : {D : Type 0} (t : Scenario) (bench : BenchValue D) (number : ℕ) (client : Client) (c : CellValue D)
    → AreAllConnected t bench → slice_get t.clients number ≡ Some client → slice_get bench.cells client.site.0 ≡ Some c
    → IsLineAt client.bytes (calls_of number (trail_at bench.cells client.site)) (lines_at bench.cells client.site.0) number
line_of {D = D} t bench number client c connected there at =
    subst (λ (es : List Entry). IsLineAt client.bytes (calls_of number es) (lines_at bench.cells client.site.0) number)
    (sym (field_at (λ (c : CellValue D). c.node.trail) bench.cells client.site.0 c [] at))
    (subst (λ (ls : List (Option LineValue)). IsLineAt client.bytes (calls_of number c.node.trail) ls number)
    (sym (field_at (λ (c : CellValue D). c.lines) bench.cells client.site.0 c [] at))
    (connected client.site.0 c at number client there refl))

pub turn_of : {D : Type 0} (t : Scenario) (bench : BenchValue D) (number : ℕ) (client : Client) → IsOf t bench
    → AreAllConnected t bench → All (λ (client : Client). client.site.0 < t.catalog.sites) t.clients
    → slice_get t.clients number ≡ Some client
    → (slice_get bench.homes number ≡ Some client.site)
    × IsLineAt client.bytes (calls_of number (trail_at bench.cells client.site)) (lines_at bench.cells client.site.0) number
turn_of t bench number client is connected within there =
    let site = All-contains (λ (client : Client). client.site.0 < t.catalog.sites) t.clients client within
    (contains_at t.clients client number there) in
    let long = is.sites in
    let c = there_is bench.cells client.site.0 (omega (arith, site, long)) in
    (home_of t bench number client is there, line_of t bench number client c.0 connected there c.1)

-- what a site drops that is one of the scenario's
pub drops_of : {D : Type 0} (g : Ghosts D) (t : Scenario) (old new : BenchValue D) (i : SiteId) → IsOf t old → AreMet old
    → i.0 < t.catalog.sites → Drops g i old new → IsToldAt g i.0 old → DropsAt t.catalog i (moment_of g old.cells) (moment_of g new.cells)
drops_of g t old new i is met site drops told =
    let long = is.sites in
    let c = there_is old.cells i.0 (omega (arith, site, long)) in
    subst (λ (k : Catalog). DropsAt k i (moment_of g old.cells) (moment_of g new.cells)) (is.catalogs i.0 c.0 c.1) (drops met told c.0 c.1)

-- the calls of the disk of a site that is one of the scenario's
pub disk_calls_of : {D : Type 0} (g : Ghosts D) (t : Scenario) (old new : BenchValue D) (i : SiteId) → IsOf t old → i.0 < t.catalog.sites
    → CallsDisk g i old new → IsToldAt g i.0 old → CallsAt t.capacity t.catalog i (moment_of g old.cells) (moment_of g new.cells)
disk_calls_of g t old new i is site calls told =
    let long = is.sites in
    let c = there_is old.cells i.0 (omega (arith, site, long)) in
    subst (λ n. CallsAt n t.catalog i (moment_of g old.cells) (moment_of g new.cells)) (is.capacities i.0 c.0 c.1)
    (subst (λ (k : Catalog). CallsAt (capacity_of c.0.node.layout) k i (moment_of g old.cells) (moment_of g new.cells)) (is.catalogs i.0 c.0 c.1)
    (calls told c.0 c.1))

-- a step that isn't a pump leaves what waits
pub takes_plain : (told : ℕ → Type 0) (t : Scenario) (one : Step) (old new : Scene) → site_pumped one ≡ None
    → TakesPlain told t one old.moment new.moment → new.pumps ≡ old.pumps → Takes told t one old new
takes_plain told t one old new plain takes same =
    subst (λ (o : Option SiteId). TakesAs told t one o old new) (sym plain) (takes, same)
