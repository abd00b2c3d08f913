-- A world at which something happens at one site.
use Rattle.std.proofs.Common.{◌≡◌, ℕ, ◌+◌, ◌<◌, ◌⊎◌, Bool, List, [], ◌∷◌, ◌++◌, length, set, get_or, reverse, slice_get, Option, Some, Result, Ok, Err, refl, ap, sym, ◌∙◌, subst, arith, inl, inr}
use Rattle.std.specs.Prelude.{All, OnOk, OnErr}
use Rattle.std.proofs.lemmas.List.{length-set}
use Rattle.std.proofs.lemmas.Option.{slice_get-get_or, slice_get_cases, slice_get_within}
use Rattle.walter_base.specs.declared.catalog.Catalog.{Catalog}
use Rattle.walter_base.specs.declared.format.Format.{Format}
use Rattle.walter_base.specs.declared.memory.NoMemory.{NoMemory}
use Rattle.walter_base.specs.declared.names.SiteId.{SiteId}
use Rattle.walter_machine.specs.Machines.{catalog_in, site_in}
use Rattle.walter_rules.specs.declared.entry.Entry.{Entry}
use Rattle.walter_rules.specs.Layouts.{one_area}
use Rattle.walter_rules.specs.Merges.{trail_of}
use Rattle.walter_rules.specs.Trails.{clock, AreRight}
use Rattle.walter_world.specs.declared.events.WorldEvent.{WorldEvent}
use Rattle.walter_world.specs.declared.happening.Happening.{Happening}
use Rattle.walter_world.specs.declared.seat.Seat.{Seat}
use Rattle.walter_world.specs.Comings.{entry_of}
use Rattle.walter_world.specs.Happenings.{IsHappening}
use Rattle.walter_world.specs.Seats.{AreSpelled, CanTake, IsSeat, MayFind}
use Rattle.walter_world.specs.Worlds.{WorldValue, AreEarly, AreRightWithPlace, CanCome, HasHappened, IsWorld, KeepPromises, StepsTo, trails_of}
use Rattle.walter_world.proofs.Growing.{promises, step_right}
use Rattle.walter_world.proofs.SeatTrails.{trail_here, early_at}
use Rattle.walter_world.proofs.Seated.{happened_here, seats_more, trails_same}
use Rattle.walter_world.proofs.Stepping.{put_early, event_sized, may_find, later_by_one}

pub world_promises : (format : Format) (catalog : Catalog) (seats : List Seat) → IsWorld format catalog seats
    → KeepPromises format catalog (trails_of seats)
world_promises format catalog seats world = promises format catalog (trails_of seats) world.whole world.right

-- an entry more, or none
pub more_or_same : (r : Result (Unit {0}) NoMemory) (old new : List Entry) (e : Entry) → OnOk r (new ≡ old ++ e ∷ [])
    → OnErr r (new ≡ old) → (new ≡ old) ⊎ (new ≡ old ++ e ∷ [])
more_or_same (Ok done) old new e more same = inr more
more_or_same (Err why) old new e more same = inl same

pub on_ok : {P Q : Type 0} (r : Result (Unit {0}) NoMemory) → OnOk r P → (P → Q) → OnOk r Q
on_ok (Ok done) p f = f p
on_ok (Err why) p f = tt

pub on_err : {P Q : Type 0} (r : Result (Unit {0}) NoMemory) → OnErr r P → (P → Q) → OnErr r Q
on_err (Ok done) p f = tt
on_err (Err why) p f = f p

-- this comes to the site of a world
pub record IsStepping (format : Format) (catalog : Catalog) (seats : List Seat) (w : WorldEvent) (h : Happening)
    (a : Seat) : Type 0 where
  pub world : IsWorld format catalog seats
  pub can : CanCome (record { catalog = catalog; format = format; trails = trails_of seats }) w
  pub comes : IsHappening (trails_of seats) w.site w.what (Some h)
  pub at : slice_get seats w.site.0 ≡ Some a

pub stepping : (now : WorldValue) (format : Format) (catalog : Catalog) (seats lent : List Seat) (w : WorldEvent)
    (found : Option Happening) (h : Happening) (place : ℕ) (a : Seat) → IsWorld format catalog seats
    → record { catalog = catalog; format = format; trails = trails_of seats } ≡ now → CanCome now w
    → IsHappening (trails_of lent) w.site w.what found → lent ≡ seats → found ≡ Some h → place ≡ w.site.0
    → a ≡ get_or seats place a → IsStepping format catalog seats w h a
stepping now format catalog seats lent w found h place a world view can comes is_lent is_found is_place value =
    let can_here : CanCome (record { catalog = catalog; format = format; trails = trails_of seats }) w =
    subst (λ (v : WorldValue). CanCome v w) (sym view) can in
    let below = can_here.here in
    let all = world.one_each in
    let inside : w.site.0 < length seats = omega (arith, below, all) in
    record {
      world = world;
      can = can_here;
      comes = subst (λ (f : Option Happening). IsHappening (trails_of seats) w.site w.what f) is_found
          (subst (λ (l : List Seat). IsHappening (trails_of l) w.site w.what found) is_lent comes);
      at = slice_get-get_or seats w.site.0 a inside
          ∙ ap (λ (x : Seat). Some x) (sym (value ∙ ap (λ (n : ℕ). get_or seats n a) is_place));
    }

module _ (format : Format) (catalog : Catalog) (seats : List Seat) (w : WorldEvent) (h : Happening) (a : Seat)
    (S : IsStepping format catalog seats w h a) where
  abbrev trails : List (List Entry)
  trails = trails_of seats

  abbrev enough : ℕ
  enough = S.world.right.enough

  abbrev own : Entry
  own = entry_of format catalog w.site a.entries.items h.event h.put h.keeps w.fate

  pub young_here : clock (reverse a.entries.items) < 4294967295
  young_here = early_at seats w.site.0 a 4294967295 S.can.early S.at

  seat_here : IsSeat catalog w.site a
  seat_here = S.world.seats_are w.site.0 a S.at

  all_sized : (j : SiteId) → j.0 < catalog.sites → All (λ (e : Entry). AreSpelled catalog.sites e.came) (trail_of trails j)
  all_sized j below = elim (slice_get_cases seats j.0).1 [
    | inl there ↦ subst (λ (t : List Entry). All (λ (e : Entry). AreSpelled catalog.sites e.came) t)
        (sym (trail_here seats j.0 there.0 there.2)) (S.world.seats_are j.0 there.0 there.2).spelled
    | inr past ↦ let long = past.0 in let all = S.world.one_each in absurd (omega (arith, below, long, all))
  ]

  can_here : CanTake catalog w.site a h.event h.keeps
  can_here = record {
    seat_is = seat_here;
    layout = one_area enough format;
    right = subst (λ (t : List Entry). AreRight catalog (one_area enough format) w.site (reverse t))
        (trail_here seats w.site.0 a S.at) ((S.world.right.right enough (omega arith)).right w.site S.can.here).right;
    young = young_here;
    sized = event_sized catalog trails w.site all_sized w.what h.event h.put S.can.within S.comes.0;
    finds = subst (λ (k : Bool). MayFind h.event k) (sym S.comes.1)
        (may_find catalog trails w.site w.what h.event h.put S.comes.0);
  }

  -- its machine is of its site
  pub at_site : (P : Catalog → SiteId → Type 0) → P (catalog_in a.machine) (site_in a.machine) → P catalog w.site
  at_site P p = subst (P catalog) seat_here.site (subst (λ (k : Catalog). P k (site_in a.machine)) seat_here.catalog_is p)

  pub can_take : CanTake (catalog_in a.machine) (site_in a.machine) a h.event h.keeps
  can_take =
      subst (λ (k : Catalog). CanTake k (site_in a.machine) a h.event h.keeps) (sym seat_here.catalog_is)
      (subst (λ (k : SiteId). CanTake catalog k a h.event h.keeps) (sym seat_here.site) can_here)

  pub put_below : (bound : ℕ) → AreEarly bound trails → h.put < bound
  put_below bound before = put_early catalog trails w.site (λ k. one_area enough format) bound
      (S.world.right.right enough (omega arith)) before w.what h.event h.put S.can.within S.comes.0

  -- what it leaves
  module _ (x : Seat) (seat : IsSeat catalog w.site x) where
    abbrev new : List Seat
    new = set seats w.site.0 x

    inside : w.site.0 < length seats
    inside = slice_get_within seats w.site.0 a S.at

    pub happened : x.entries.items ≡ a.entries.items ++ own ∷ [] → HasHappened format catalog trails w (trails_of new)
    happened more = happened_here seats w.site.0 inside x format catalog w h.event h.put a refl S.at S.comes.0
        (subst (λ (k : Bool). x.entries.items
        ≡ a.entries.items ++ entry_of format catalog w.site a.entries.items h.event h.put k w.fate ∷ []) S.comes.1 more)

    pub steps_on : x.entries.items ≡ a.entries.items ++ own ∷ [] → StepsTo format catalog trails w (trails_of new)
    steps_on more = inr (happened more)

    pub same_trails : x.entries.items ≡ a.entries.items → trails_of new ≡ trails
    same_trails same = trails_same seats w.site.0 inside x a S.at same

    right_on : (x.entries.items ≡ a.entries.items) ⊎ (x.entries.items ≡ a.entries.items ++ own ∷ [])
        → AreRightWithPlace format catalog (trails_of new)
    right_on (inl same) = subst (AreRightWithPlace format catalog) (sym (same_trails same)) S.world.right
    right_on (inr more) = step_right format catalog trails (trails_of new) w S.can.here S.world.right (steps_on more)

    pub world_on : (x.entries.items ≡ a.entries.items) ⊎ (x.entries.items ≡ a.entries.items ++ own ∷ [])
        → IsWorld format catalog new
    world_on left = record {
      whole = S.world.whole;
      few = S.world.few;
      fewer = S.world.fewer;
      one_each = length-set seats w.site.0 x ∙ S.world.one_each;
      seats_are = seats_more seats w.site.0 inside x catalog S.world.seats_are seat;
      right = right_on left;
    }

    pub later_on : (x.entries.items ≡ a.entries.items) ⊎ (x.entries.items ≡ a.entries.items ++ own ∷ [])
        → (bound : ℕ) → AreEarly bound trails → AreEarly (bound + 1) (trails_of new)
    later_on (inl same) bound before = subst (AreEarly (bound + 1)) (sym (same_trails same))
        (λ i. let low = before i in omega (arith, low))
    later_on (inr more) bound before =
        let did = happened more in
        later_by_one format catalog trails (trails_of new) w bound did
        (put_early catalog trails w.site (λ k. one_area enough format) bound (S.world.right.right enough (omega arith))
        before w.what did.event did.put S.can.within did.brings) before
