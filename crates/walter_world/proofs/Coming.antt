-- What is ready comes to what the rule says; or its record meets a fault.
use Rattle.std.proofs.Common.{◌≡◌, ℕ, Bool, true, false, List, [], Option, Some, None, refl, ap, sym, ◌∙◌, subst, length, reverse, ◌<◌, inl}
use Rattle.std.specs.Prelude.{◌≢◌, IfSome, IsSome, All, is_some}
use Rattle.std.proofs.lemmas.List.Elements.{All-nil}
use Rattle.walter_base.specs.declared.catalog.Catalog.{Catalog}
use Rattle.walter_base.specs.declared.format.Format.{Format}
use Rattle.walter_base.specs.declared.message.Record.{Record}
use Rattle.walter_base.specs.declared.names.SiteId.{SiteId}
use Rattle.walter_machine.specs.declared.machine.Machine.{Machine}
use Rattle.walter_machine.specs.declared.ready.Ready.{Ready}
use Rattle.walter_machine.specs.Machines.{catalog_in, site_in, tables_in, is_up, HasStanding, IsCounted, IsSameSite, Settles}
use Rattle.walter_machine.specs.Readiness.{step_in, IsReadyFor, came_in, rec_in}
use Rattle.walter_machine.specs.States.{IsState}
use Rattle.walter_machine.specs.Steps.{expected_by}
use Rattle.walter_machine.proofs.Answers.{expects, rests}
use Rattle.walter_packet.specs.Spelling.{HasPacketSpelling}
use Rattle.walter_rules.specs.declared.entry.Came.{Came}
use Rattle.walter_rules.specs.declared.event.Event.{Event}
use Rattle.walter_rules.specs.declared.event.Event.TheVariants.{Given, Stop, Restart}
use Rattle.walter_rules.specs.Calls.{Expected}
use Rattle.walter_rules.specs.Knowledge.{Knowledge}
use Rattle.walter_rules.specs.Rule.{rule}
use Rattle.walter_rules.specs.Standing.{Standing, settled, stands_after}
use Rattle.walter_rules.specs.Trails.{only, failure}
use Rattle.walter_tables.specs.declared.tables.Tables.{Tables}
use Rattle.walter_tables.specs.Sites.{site_of, catalog_of, Stands}
use Rattle.walter_world.specs.declared.events.Fate.{Fate}
use Rattle.walter_world.specs.declared.events.Fate.TheVariants.{Fine, Broken}
use Rattle.walter_world.specs.declared.replaying.Recovery.{Recovery}
use Rattle.walter_world.specs.declared.seat.Seat.{Seat}
use Rattle.walter_world.specs.Comings.{came_stable, came_broken, came_by, breaks, comes_to, found_by}
use Rattle.walter_world.specs.Records.{IsTold}
use Rattle.walter_world.specs.Seats.{AreSpelled, CanTake, HasCome, IsSeat, MayFind, standing_of}
use Rattle.walter_world.proofs.Growing.{found_there}
use Rattle.walter_world.proofs.Recoveries.{found_none, found_up, found_knows, same_found, still_down, young}

-- what breaks is there
pub breaks_some : (fate : Fate) (rec : Option Record) → breaks fate rec ≡ true → IsSome rec
breaks_some fate (Some rec) is = refl
breaks_some Fine None is = absurd cc
breaks_some Broken None is = absurd cc

stable_by : (fate : Fate) (event : Event) (x : Expected) → breaks fate x.wrote ≡ false
    → came_by fate event None x ≡ came_stable None x
stable_by Fine event x whole = refl
stable_by Broken event x whole = by x.wrote whole
  where
    by : (wrote : Option Record) → breaks Broken wrote ≡ false → came_broken event None x wrote ≡ came_stable None x
    by None whole = refl
    by (Some rec) whole = absurd cc

broken_by : (fate : Fate) (event : Event) (x : Expected) (came : Came) → breaks fate x.wrote ≡ true
    → IfSome x.wrote (λ rec. came ≡ record (only (failure event rec)) { flight = Some rec })
    → came ≡ came_by fate event None x
broken_by Fine event x came is comes = absurd (fine x.wrote is)
  where
    fine : (wrote : Option Record) → breaks Fine wrote ≡ true → ⊥
    fine None is = absurd cc
    fine (Some rec) is = absurd cc
broken_by Broken event x came is comes = by x.wrote is comes
  where
    by : (wrote : Option Record) → breaks Broken wrote ≡ true
        → IfSome wrote (λ rec. came ≡ record (only (failure event rec)) { flight = Some rec })
        → came ≡ came_broken event None x wrote
    by None is comes = absurd cc
    by (Some rec) is comes = comes

pub none_spelled : (sites : ℕ) (came : Came) → came.sends ≡ [] → AreSpelled sites came
none_spelled sites came none = subst (All (λ s. HasPacketSpelling sites s.1)) (sym none) (All-nil (λ s. HasPacketSpelling sites s.1))

module _ (format : Format) (catalog : Catalog) (i : SiteId) (site : Option Tables) (S : Standing) (event : Event)
    (ready : Ready) (fate : Fate) (came : Came) (is : IsReadyFor format catalog i site S event ready) where
  -- its record is stable, or it has none
  pub comes_stable : breaks fate (rec_in ready) ≡ false → came ≡ came_in ready
      → came ≡ comes_to format catalog i S event None fate
  comes_stable whole comes =
      comes ∙ (sym (stable_by fate event (expected_by (step_in ready)) whole) ∙ ap (came_by fate event None) is.rule)

  -- it is in flight
  pub comes_broken : breaks fate (rec_in ready) ≡ true
      → IfSome (rec_in ready) (λ rec. came ≡ record (only (failure event rec)) { flight = Some rec })
      → came ≡ comes_to format catalog i S event None fate
  comes_broken falls comes =
      broken_by fate event (expected_by (step_in ready)) came falls comes ∙ ap (came_by fate event None) is.rule

-- with what was found
pub kept_too : (fate : Fate) (event : Event) (kept : Option Record) (x : Expected)
    → record (came_by fate event None x) { kept = kept } ≡ came_by fate event kept x
kept_too Fine event kept x = refl
kept_too Broken event kept x = by x.wrote
  where
    by : (wrote : Option Record) → record (came_broken event None x wrote) { kept = kept } ≡ came_broken event kept x wrote
    by None = refl
    by (Some rec) = refl

-- what is in flight puts out nothing
pub fallen_spelled : (sites : ℕ) (event : Event) (rec : Option Record) (came : Came) → IsSome rec
    → IfSome rec (λ r. came ≡ record (only (failure event r)) { flight = Some r }) → AreSpelled sites came
fallen_spelled sites event None came there is = absurd cc
fallen_spelled sites event (Some r) came there is = none_spelled sites came (ap (λ (x : Came). x.sends) is)

-- ---- where it is up

-- it is up by its tables
pub up_is : (S : Standing) (site : Option Tables) → IsState S site → S.up ≡ is_some site
up_is S None down = down
up_is S (Some tables) up = up.up

-- it is known how many records there are, where one comes
counted : (m : Machine) (S : Standing) (rec : Option Record) → HasStanding m S → S.up ≡ true → IsCounted m S rec
counted m S None stands up = tt
counted m S (Some rec) stands up = stands.count (inl up)

-- what holds of the site of one machine holds of that of another, where they are the same
pub at_old : (old new : Machine) (P : Catalog → SiteId → Type 0) → IsSameSite old new
    → P (catalog_in new) (site_in new) → P (catalog_in old) (site_in old)
at_old old new P same p =
    subst (λ (c : Catalog). P c (site_in old)) same.catalog (subst (P (catalog_in new)) same.id p)

pub at_new : (old new : Machine) (P : Catalog → SiteId → Type 0) → IsSameSite old new
    → P (catalog_in old) (site_in old) → P (catalog_in new) (site_in new)
at_new old new P same p =
    subst (λ (c : Catalog). P c (site_in new)) (sym same.catalog) (subst (P (catalog_in old)) (sym same.id) p)

-- so it is ready, and comes
abbrev IsReadyAt : Format → Machine → Standing → Event → Ready → Type 0
IsReadyAt format m S event ready = IsReadyFor format (catalog_in m) (site_in m) (tables_in m) S event ready

abbrev Comes : Format → Machine → Ready → Event → Fate → Came → Machine → Type 0
Comes format m ready event fate came new = (S : Standing) → HasStanding m S → IsCounted m S (rec_in ready)
    → IsReadyAt format m S event ready → HasCome format (catalog_in m) (site_in m) S event None fate came new

pub given : (format : Format) (seat : Seat) (n new : Machine) (event : Event) (keeps : Bool) (fate : Fate)
    (ready : Ready) (came : Came)
    → IsSeat (catalog_in seat.machine) (site_in seat.machine) seat → is_up seat.machine ≡ true
    → IsSameSite seat.machine n → HasStanding n (standing_of seat)
    → IsReadyFor format (catalog_in seat.machine) (site_in seat.machine) (tables_in n) (standing_of seat) event ready
    → Comes format n ready event fate came new
    → HasCome format (catalog_in seat.machine) (site_in seat.machine) (standing_of seat) event
    (found_by keeps (standing_of seat)) fate came new
given format seat n new event keeps fate ready came seat_is raised same stands is comes =
    let S : Standing = standing_of seat in
    let up : S.up ≡ true = up_is S seat.machine.site seat_is.stands.state ∙ raised in
    subst
    (λ (f : Option Record). HasCome format (catalog_in seat.machine) (site_in seat.machine) S event f fate came new)
    (sym (found_up keeps S up))
    (at_old seat.machine n (λ (c : Catalog). λ (i : SiteId). HasCome format c i S event None fate came new) same
    (comes S stands (counted n S (rec_in ready) stands up)
    (at_new seat.machine n (λ (c : Catalog). λ (i : SiteId). IsReadyFor format c i (tables_in n) S event ready)
    same is)))

-- ---- where it is down, and isn't to come up

finds_nothing : (event : Event) (keeps : Bool) (S : Standing) → MayFind event keeps → event ≢ Restart
    → found_by keeps S ≡ None
finds_nothing (Given input) keeps S finds stays = found_none keeps S finds
finds_nothing Stop keeps S finds stays = found_none keeps S finds
finds_nothing Restart keeps S finds stays = absurd (stays refl)

breaks_none : (fate : Fate) → breaks fate None ≡ false
breaks_none Fine = refl
breaks_none Broken = refl

pub declined : (format : Format) (seat : Seat) (event : Event) (keeps : Bool) (fate : Fate) (came : Came)
    → CanTake (catalog_in seat.machine) (site_in seat.machine) seat event keeps → is_up seat.machine ≡ false
    → event ≢ Restart → came ≡ only came.outcome
    → ((S : Standing) → S.up ≡ false
    → came.outcome ≡ (rule format (catalog_in seat.machine) (site_in seat.machine) S event).outcome)
    → ((S : Standing) → HasStanding seat.machine S
    → HasStanding seat.machine (stands_after (catalog_in seat.machine) (site_in seat.machine) S event came))
    → HasCome format (catalog_in seat.machine) (site_in seat.machine) (standing_of seat) event
    (found_by keeps (standing_of seat)) fate came seat.machine
declined format seat event keeps fate came can fallen stays is ruled stands =
    let S : Standing = standing_of seat in
    let c : Catalog = catalog_in seat.machine in
    let i : SiteId = site_in seat.machine in
    let down : S.up ≡ false = up_is S seat.machine.site can.seat_is.stands.state ∙ fallen in
    let alone = (rests format c i S event down stays).alone in
    subst (λ (f : Option Record). HasCome format c i S event f fate came seat.machine)
    (sym (finds_nothing event keeps S can.finds stays)) (record {
      catalog_is = refl;
      site = refl;
      came_is = is ∙ (ap only (ruled S down)
          ∙ (sym (stable_by fate event (expects (rule format c i S event).outcome) (breaks_none fate))
          ∙ ap (came_by fate event None) (sym alone)));
      stands = stands S can.seat_is.stands;
      spelled = none_spelled c.sites came (ap (λ (x : Came). x.sends) is);
    })

-- ---- where one is

pub risen : (format : Format) (catalog : Catalog) (i : SiteId) (S : Standing) (found kept : Option Record)
    (fate : Fate) (came : Came)
    (m : Machine) → kept ≡ found → HasCome format catalog i (settled catalog i found S) Restart None fate came m
    → HasCome format catalog i S Restart found fate (record came { kept = kept }) m
risen format catalog i S found kept fate came m same has = record {
  catalog_is = has.catalog_is;
  site = has.site;
  came_is = (λ j. record (has.came_is j) { kept = same j })
      ∙ kept_too fate Restart found (rule format catalog i (settled catalog i found S) Restart);
  stands = has.stands;
  spelled = has.spelled;
}

-- how many records there are is known
counted_all : (m : Machine) (S : Standing) (rec : Option Record) → m.records ≡ length S.records → IsCounted m S rec
counted_all m S None all = tt
counted_all m S (Some rec) all = all

-- what holds of the site whose tables are told holds of that of its machine, which is down
pub at_raised : (seat : Seat) (m n : Machine) (told : Recovery) (records : List Record)
    (P : Catalog → SiteId → Option Tables → Type 0)
    → IsTold (catalog_in seat.machine) (site_in seat.machine) records told → IsSameSite seat.machine m → IsSameSite m n
    → tables_in n ≡ None → P (catalog_of told.tables) (site_of told.tables) None
    → P (catalog_in n) (site_in n) (tables_in n)
at_raised seat m n told records P tells same then none p =
    let c : Catalog = catalog_in seat.machine in
    let here : P c (site_in seat.machine) None =
    subst (λ (x : Catalog). P x (site_in seat.machine) None) tells.catalog_is
    (subst (λ (j : SiteId). P (catalog_of told.tables) j None) tells.site p) in
    subst (P (catalog_in n) (site_in n)) (sym none)
    (at_new m n (λ (x : Catalog). λ (j : SiteId). P x j None) then
    (at_new seat.machine m (λ (x : Catalog). λ (j : SiteId). P x j None) same here))

-- the site has an epoch left
pub tells_young : (seat : Seat) (keeps : Bool) (told : Recovery)
    → CanTake (catalog_in seat.machine) (site_in seat.machine) seat Restart keeps → is_up seat.machine ≡ false
    → IsTold (catalog_in seat.machine) (site_in seat.machine)
    (settled (catalog_in seat.machine) (site_in seat.machine) (found_by keeps (standing_of seat)) (standing_of seat)).records told
    → (K : Knowledge) × Stands told.tables K × (K.epoch < 4294967295)
tells_young seat keeps told can down tells =
    let S : Standing = standing_of seat in
    let c : Catalog = catalog_in seat.machine in
    let i : SiteId = site_in seat.machine in
    let found : Option Record = found_by keeps S in
    let T : Standing = settled c i found S in
    let are = can.seat_is.stands in
    let rests : S.up ≡ false = up_is S seat.machine.site are.state ∙ down in (
      T.knows,
      subst (λ (K : Knowledge). Stands told.tables K) (sym (found_knows c i S rests are.told found)) tells.stands,
      young c can.layout i (reverse seat.entries.items) can.right can.young rests are.told found (found_there keeps S),
    )

pub raised : (format : Format) (seat : Seat) (m n new : Machine) (keeps : Bool) (fate : Fate) (told : Recovery)
    (ready : Ready) (kept : Option Record) (came : Came) → is_up seat.machine ≡ false
    → IsSeat (catalog_in seat.machine) (site_in seat.machine) seat
    → IsTold (catalog_in seat.machine) (site_in seat.machine)
    (settled (catalog_in seat.machine) (site_in seat.machine) (found_by keeps (standing_of seat)) (standing_of seat)).records told
    → IsSameSite seat.machine m → IsSameSite m n → tables_in n ≡ None → Settles (standing_of seat) told.count kept n
    → ((S : Standing) → S.up ≡ false → Stands told.tables S.knows
    → IsReadyFor format (catalog_of told.tables) (site_of told.tables) None S Restart ready)
    → Comes format n ready Restart fate came new
    → HasCome format (catalog_in seat.machine) (site_in seat.machine) (standing_of seat) Restart
    (found_by keeps (standing_of seat)) fate (record came { kept = kept }) new
raised format seat m n new keeps fate told ready kept came down is tells same then none settles readies comes =
    let S : Standing = standing_of seat in
    let c : Catalog = catalog_in seat.machine in
    let i : SiteId = site_in seat.machine in
    let found : Option Record = found_by keeps S in
    let T : Standing = settled c i found S in
    let rests : S.up ≡ false = up_is S seat.machine.site is.stands.state ∙ down in
    let kept_is : kept ≡ found = same_found c i S n told.count found kept (found_there keeps S) tells.count settles in
    let stands : HasStanding n T =
    subst (λ (f : Option Record). HasStanding n (settled c i f S)) kept_is
    (at_old seat.machine m (λ (x : Catalog). λ (j : SiteId). HasStanding n (settled x j kept S)) same
    (at_old m n (λ (x : Catalog). λ (j : SiteId). HasStanding n (settled x j kept S)) then settles.stands)) in
    let made : IsReadyFor format (catalog_of told.tables) (site_of told.tables) None T Restart ready =
    readies T (still_down c i S found rests)
    (subst (λ (K : Knowledge). Stands told.tables K) (sym (found_knows c i S rests is.stands.told found)) tells.stands) in
    let there : IsReadyAt format n T Restart ready =
    at_raised seat m n told T.records
    (λ (x : Catalog). λ (j : SiteId). λ (t : Option Tables). IsReadyFor format x j t T Restart ready)
    tells same then none made in
    risen format c i S found kept fate came new kept_is
    (at_old seat.machine m (λ (x : Catalog). λ (j : SiteId). HasCome format x j T Restart None fate came new) same
    (at_old m n (λ (x : Catalog). λ (j : SiteId). HasCome format x j T Restart None fate came new) then
    (comes T stands (counted_all n T (rec_in ready) (settles.counted ∙ tells.count)) there)))
