-- What the trail of a site that is down tells, with the record in flight where that is to be found.
use Rattle.std.proofs.Common.{◌≡◌, ℕ, ◌<◌, Bool, true, false, not, ◌&&◌, List, [], ◌∷◌, ◌++◌, length, reverse, Option, Some, None, refl, ap, sym, ◌∙◌, subst, arith, if◌then◌else◌, inl, inr}
use Rattle.std.specs.Prelude.{IfSome, IsSome}
use Rattle.std.proofs.lemmas.List.{append-nil, append_assoc, length-append, reverse-append}
use Rattle.std.proofs.lemmas.List.Elements.{All-push}
use Rattle.walter_alone.proofs.TrailJournaled.{follow-push, replayed-push}
use Rattle.walter_base.specs.declared.catalog.Catalog.{Catalog}
use Rattle.walter_base.specs.declared.message.Record.{Record}
use Rattle.walter_base.specs.declared.names.SiteId.{SiteId}
use Rattle.walter_machine.specs.declared.machine.Machine.{Machine}
use Rattle.walter_machine.specs.Machines.{catalog_in, site_in, AreFound, Settles}
use Rattle.walter_machine.specs.States.{AreTold, CanBeNext}
use Rattle.walter_psi.proofs.Lists.{flat_map-push, push_induction}
use Rattle.walter_rules.specs.declared.entry.Entry.{Entry}
use Rattle.walter_rules.specs.declared.event.Event.TheVariants.{Restart}
use Rattle.walter_rules.specs.Knowledge.{Knowledge, fresh}
use Rattle.walter_rules.specs.Layouts.{Layout}
use Rattle.walter_rules.specs.Learning.{recorded}
use Rattle.walter_rules.specs.Records.{CanFollow, IsRecordAmong, replayed}
use Rattle.walter_rules.specs.Standing.{Standing, records_after, settled, stands_after}
use Rattle.walter_rules.specs.Trails.{standing, clock, AreRight, IsFound}
use Rattle.walter_rules.proofs.Staying.{epoch_few}
use Rattle.walter_world.specs.Comings.{found_by}
use Rattle.walter_world.specs.declared.replaying.Recovery.{Recovery}
use Rattle.walter_world.specs.declared.seat.Seat.{Seat}
use Rattle.walter_world.specs.Records.{CanBeReplayed, IsTold, one_of, records_of}
use Rattle.walter_world.specs.Seats.{standing_of}
use Rattle.walter_world.proofs.Clocks.{settled_weight, weight_few, length_clock}

-- ---- entry by entry

pub stands_more : (catalog : Catalog) (i : SiteId) (trail : List Entry) (e : Entry)
    → standing catalog i (reverse (trail ++ e ∷ []))
    ≡ stands_after catalog i (settled catalog i e.came.kept (standing catalog i (reverse trail))) e.event e.came
stands_more catalog i trail e = ap (λ (es : List Entry). standing catalog i es) (reverse-append trail (e ∷ []))

records_more : (catalog : Catalog) (i : SiteId) (S : Standing) (kept wrote : Option Record)
    → records_after wrote (settled catalog i kept S).records ≡ S.records ++ (one_of kept ++ one_of wrote)
records_more catalog i S None None = sym (append-nil S.records)
records_more catalog i S None (Some rec) = refl
records_more catalog i S (Some rec) None = refl
records_more catalog i S (Some kept) (Some rec) = append_assoc S.records (kept ∷ []) (rec ∷ [])

pub records_are : (catalog : Catalog) (i : SiteId) (trail : List Entry)
    → (standing catalog i (reverse trail)).records ≡ records_of trail
records_are catalog i = push_induction
    (λ (trail : List Entry). (standing catalog i (reverse trail)).records ≡ records_of trail)
    refl
    (λ trail e before.
    let S : Standing = standing catalog i (reverse trail) in
    ap (λ (T : Standing). T.records) (stands_more catalog i trail e)
    ∙ (records_more catalog i S e.came.kept e.came.wrote
    ∙ (ap (λ (rs : List Record). rs ++ (one_of e.came.kept ++ one_of e.came.wrote)) before
    ∙ sym (flat_map-push (λ (x : Entry). one_of x.came.kept ++ one_of x.came.wrote) trail e))))

-- what the entries of a site tell its records tell, by which it stands
pub stands_told : (seat : Seat) (catalog : Catalog) (i : SiteId) (entries : List Entry) (told : Recovery)
    → catalog ≡ catalog_in seat.machine → i ≡ site_in seat.machine → entries ≡ seat.entries.items
    → IsTold catalog i (records_of entries) told
    → IsTold (catalog_in seat.machine) (site_in seat.machine) (standing_of seat).records told
stands_told seat catalog i entries told catalog_is site_is entries_are is =
    let c = catalog_in seat.machine in
    let k = site_in seat.machine in
    subst (λ (rs : List Record). IsTold c k rs told)
    (ap records_of entries_are ∙ sym (records_are c k seat.entries.items))
    (subst (λ (j : SiteId). IsTold c j (records_of entries) told) site_is
    (subst (λ (x : Catalog). IsTold x i (records_of entries) told) catalog_is is))

-- and they can be replayed
pub stands_can : (seat : Seat) (catalog : Catalog) (i : SiteId) (entries : List Entry)
    → catalog ≡ catalog_in seat.machine → i ≡ site_in seat.machine → entries ≡ seat.entries.items
    → AreTold (catalog_in seat.machine) (site_in seat.machine) (standing_of seat)
    → CanBeReplayed catalog i (records_of entries)
stands_can seat catalog i entries catalog_is site entries_are are =
    let c = catalog_in seat.machine in
    let k = site_in seat.machine in
    let can : CanBeReplayed c k (standing_of seat).records = record { follow = are.follow; sizes = are.sizes } in
    subst (λ (x : Catalog). CanBeReplayed x i (records_of entries)) (sym catalog_is)
    (subst (λ (j : SiteId). CanBeReplayed c j (records_of entries)) (sym site)
    (subst (CanBeReplayed c k) (records_are c k seat.entries.items ∙ ap records_of (sym entries_are)) can))

-- ---- what is found

pub found_flying : (keeps : Bool) (S : Standing) → keeps ≡ true → S.up ≡ false → found_by keeps S ≡ S.flight
found_flying keeps S keep down =
    ap (λ (k : Bool). if k && not S.up then S.flight else None) keep
    ∙ ap (λ (up : Bool). if not up then S.flight else None) down

pub found_none : (keeps : Bool) (S : Standing) → keeps ≡ false → found_by keeps S ≡ None
found_none keeps S drop = ap (λ (k : Bool). if k && not S.up then S.flight else None) drop

-- nothing at a site that is up
pub found_up : (keeps : Bool) (S : Standing) → S.up ≡ true → found_by keeps S ≡ None
found_up keeps S up = ap (λ (b : Bool). if keeps && not b then S.flight else None) up ∙ by keeps
  where
    by : (keeps : Bool) → (if keeps && not true then S.flight else None) ≡ None
    by true = refl
    by false = refl

module _ (catalog : Catalog) (i : SiteId) (S : Standing) where
  -- by how many records there are it is settled which was found
  pub same_found : (m : Machine) (count : ℕ) (found kept : Option Record) → IfSome found (IsFound S Restart)
      → count ≡ length (settled catalog i found S).records → Settles S count kept m → kept ≡ found
  same_found m count None None is long settles = refl
  same_found m count None (Some rec) is long settles =
      let one = length-append S.records (rec ∷ []) in
      let all = settles.count in absurd (omega (arith, long, all, one))
  same_found m count (Some rec) None is long settles =
      let one = length-append S.records (rec ∷ []) in
      let all = settles.count in absurd (omega (arith, long, all, one))
  same_found m count (Some rec) (Some kept) is long settles = sym settles.is_found.in_flight ∙ is.in_flight

  -- so many are found
  pub are_found : (found : Option Record) (count : ℕ) → IfSome found (IsFound S Restart)
      → count ≡ length (settled catalog i found S).records → AreFound S count
  are_found None count is long = inl long
  are_found (Some rec) count is long =
      inr (subst IsSome (sym is.in_flight) refl, long ∙ length-append S.records (rec ∷ []))

  pub still_down : (found : Option Record) → S.up ≡ false → (settled catalog i found S).up ≡ false
  still_down None down = down
  still_down (Some rec) down = down

-- ---- what is told

module _ (catalog : Catalog) (i : SiteId) (S : Standing) (down : S.up ≡ false) (are : AreTold catalog i S) where
  knows_here : S.knows ≡ replayed catalog i fresh S.records
  knows_here = sym (are.rests down) ∙ are.tell

  pub found_knows : (found : Option Record)
      → (settled catalog i found S).knows ≡ replayed catalog i fresh (settled catalog i found S).records
  found_knows None = knows_here
  found_knows (Some rec) =
      ap (recorded catalog i (Some rec)) knows_here ∙ sym (replayed-push catalog i fresh S.records rec)

  -- what is in flight can be replayed behind the others, and so can what is found
  pub flight_can : (rec : Record) → S.flight ≡ Some rec → CanBeReplayed catalog i (S.records ++ rec ∷ [])
  flight_can rec flies =
      let next : CanBeNext catalog i S rec =
      subst (λ (f : Option Record). IfSome f (CanBeNext catalog i S)) flies are.in_flight in
      record {
        follow = follow-push catalog i fresh S.records rec are.follow
            (subst (λ (K : Knowledge). CanFollow catalog i K rec) knows_here next.follows);
        sizes = All-push (IsRecordAmong catalog.sites) S.records rec are.sizes next.sizes;
      }

  pub found_can : (found : Option Record) → IfSome found (IsFound S Restart)
      → CanBeReplayed catalog i (settled catalog i found S).records
  found_can None is = record { follow = are.follow; sizes = are.sizes }
  found_can (Some rec) is = flight_can rec is.in_flight

-- a site with so few stamps has an epoch left
pub young : (catalog : Catalog) (layout : Layout) (i : SiteId) (older : List Entry)
    → AreRight catalog layout i older → clock older < 4294967295 → (standing catalog i older).up ≡ false
    → AreTold catalog i (standing catalog i older) → (found : Option Record)
    → IfSome found (IsFound (standing catalog i older) Restart)
    → (settled catalog i found (standing catalog i older)).knows.epoch < 4294967295
young catalog layout i older right early down are found is =
    let S : Standing = standing catalog i older in
    let T : Standing = settled catalog i found S in
    let most = epoch_few catalog i fresh T.records (found_can catalog i S down are found is).follow in
    let same : T.knows.epoch ≡ (replayed catalog i fresh T.records).epoch =
    ap (λ (K : Knowledge). K.epoch) (found_knows catalog i S down are found) in
    let few = weight_few catalog layout i older right in
    let settled_few = settled_weight catalog i S Restart found is in
    let long = length_clock catalog layout i older right in
    omega (arith, most, same, few, settled_few, long, early)
