-- The sites of a world, of which one has one more entry.
use Rattle.std.proofs.Common.{◌≡◌, ◌≢◌, ℕ, suc, ◌<◌, Bool, List, [], ◌∷◌, ◌++◌, length, map, set, reverse, slice_get, Option, Some, None, Result, Ok, Err, option_map, Vec, Global, refl, ap, sym, ◌∙◌, subst, arith, inl, inr}
use Rattle.std.specs.Prelude.{unwrap_or, All, OnErr}
use Rattle.std.proofs.lemmas.Bool.{cases_lt, cases_eq}
use Rattle.std.proofs.lemmas.List.{length-map, length-set, get_or-set_same, get_or-set_other}
use Rattle.std.proofs.lemmas.List.Elements.{All-push}
use Rattle.std.proofs.lemmas.Option.{slice_get-map, slice_get-get_or, slice_get_past, unwrap_or-slice_get}
use Rattle.walter_base.specs.declared.catalog.Catalog.{Catalog}
use Rattle.walter_base.specs.declared.format.Format.{Format}
use Rattle.walter_base.specs.declared.message.Record.{Record}
use Rattle.walter_base.specs.declared.names.SiteId.{SiteId}
use Rattle.walter_machine.specs.declared.machine.Machine.{Machine}
use Rattle.walter_machine.specs.Machines.{HasStanding, IsSameSite}
use Rattle.walter_rules.specs.declared.entry.Came.{Came}
use Rattle.walter_rules.specs.declared.entry.Entry.{Entry}
use Rattle.walter_rules.specs.declared.event.Event.{Event}
use Rattle.walter_rules.specs.Knowledge.{site_at}
use Rattle.walter_rules.specs.Merges.{trail_of}
use Rattle.walter_rules.specs.Rule.{rule}
use Rattle.walter_rules.specs.Standing.{Standing, settled, stands_after}
use Rattle.walter_rules.specs.Trails.{standing, clock, AreRight}
use Rattle.walter_world.specs.declared.events.Fate.{Fate}
use Rattle.walter_world.specs.declared.events.WorldEvent.{WorldEvent}
use Rattle.walter_world.specs.declared.seat.Seat.{Seat}
use Rattle.walter_world.specs.Comings.{found_by, entry_of}
use Rattle.walter_world.specs.Events.{Brings, keeps}
use Rattle.walter_world.specs.Seats.{AreSpelled, CanTake, HasCome, IsSeat}
use Rattle.walter_world.specs.Worlds.{HasHappened, trails_of}
use Rattle.walter_world.proofs.Growing.{came_kept}
use Rattle.walter_world.proofs.Recoveries.{stands_more}
use Rattle.walter_world.proofs.SeatTrails.{trail_here}

-- ---- one site

-- what an event leaves of it
pub seat_more : (format : Format) (catalog : Catalog) (i : SiteId) (old new : Seat) (e : Entry) (keep : Bool)
    (fate : Fate) → IsSeat catalog i old
    → HasCome format catalog i (standing catalog i (reverse old.entries.items)) e.event
    (found_by keep (standing catalog i (reverse old.entries.items))) fate e.came new.machine
    → new.entries.items ≡ old.entries.items ++ e ∷ [] → IsSeat catalog i new
seat_more format catalog i old new e keep fate is has entries =
    let trail = old.entries.items in
    let S : Standing = standing catalog i (reverse trail) in
    let kept : Option Record = found_by keep S in
    let kept_is : e.came.kept ≡ kept =
    ap (λ (c : Came). c.kept) has.came_is ∙ came_kept fate e.event kept
    (rule format catalog i (settled catalog i kept S) e.event) in
    let stands : standing catalog i (reverse new.entries.items)
    ≡ stands_after catalog i (settled catalog i kept S) e.event e.came =
    ap (λ (t : List Entry). standing catalog i (reverse t)) entries
    ∙ (stands_more catalog i trail e
    ∙ ap (λ (k : Option Record). stands_after catalog i (settled catalog i k S) e.event e.came) kept_is) in
    record {
      catalog_is = has.catalog_is;
      site = has.site;
      stands = subst (HasStanding new.machine) (sym stands) has.stands;
      spelled = subst (λ (t : List Entry). All (λ (x : Entry). AreSpelled catalog.sites x.came) t) (sym entries)
          (All-push (λ (x : Entry). AreSpelled catalog.sites x.came) trail e is.spelled has.spelled);
    }

-- what changes nothing of how it stands
pub seat_still : (catalog : Catalog) (i : SiteId) (old new : Seat) → IsSeat catalog i old
    → IsSameSite old.machine new.machine → ((S : Standing) → HasStanding old.machine S → HasStanding new.machine S)
    → new.entries.items ≡ old.entries.items → IsSeat catalog i new
seat_still catalog i old new is same stands entries = record {
  catalog_is = same.catalog ∙ is.catalog_is;
  site = same.id ∙ is.site;
  stands = subst (λ (t : List Entry). HasStanding new.machine (standing catalog i (reverse t))) (sym entries)
      (stands (standing catalog i (reverse old.entries.items)) is.stands);
  spelled = subst (λ (t : List Entry). All (λ (x : Entry). AreSpelled catalog.sites x.came) t) (sym entries) is.spelled;
}

-- what holds anyway holds where memory runs out
pub where_err : {T E P : Type 0} (r : Result T E) → P → OnErr r P
where_err (Ok done) p = tt
where_err (Err why) p = p

-- other room for its entries changes nothing
pub can_still : (catalog : Catalog) (i : SiteId) (m : Machine) (old new : Vec Entry Global) (event : Event) (keeps : Bool)
    → new.items ≡ old.items → CanTake catalog i (record { machine = m; entries = old }) event keeps
    → CanTake catalog i (record { machine = m; entries = new }) event keeps
can_still catalog i m old new event keeps same can = record {
  seat_is = seat_still catalog i (record { machine = m; entries = old }) (record { machine = m; entries = new }) can.seat_is
      (record { catalog = refl; id = refl }) (λ S stands. stands) same;
  layout = can.layout;
  right = subst (λ (t : List Entry). AreRight catalog can.layout i (reverse t)) (sym same) can.right;
  young = subst (λ (t : List Entry). clock (reverse t) < 4294967295) (sym same) can.young;
  sized = can.sized;
  finds = can.finds;
}

-- ---- all sites

-- lists with the same elements are the same
same_places : {X : Type 0} (xs ys : List X) → ((k : ℕ) → slice_get xs k ≡ slice_get ys k) → xs ≡ ys
same_places [] [] all = refl
same_places {X} [] (y ∷ ys) all = let e : ◌≡◌ {A = Option X} None (Some y) = all 0 in absurd cc
same_places {X} (x ∷ xs) [] all = let e : ◌≡◌ {A = Option X} (Some x) None = all 0 in absurd cc
same_places (x ∷ xs) (y ∷ ys) all =
    let e : Some x ≡ Some y = all 0 in
    let head : x ≡ y = cc in
    let rest = same_places xs ys (λ k. all (suc k)) in
    cc

module _ (seats : List Seat) (i : ℕ) (within : i < length seats) (x : Seat) where
  pub set_here : slice_get (set seats i x) i ≡ Some x
  set_here =
      slice_get-get_or (set seats i x) i x (let l = length-set seats i x in omega (arith, within, l))
      ∙ ap (λ (y : Seat). Some y) (get_or-set_same seats i x x within)

  pub set_there : (other : ℕ) → other ≢ i → slice_get (set seats i x) other ≡ slice_get seats other
  set_there other apart =
      let l = length-set seats i x in
      elim (cases_lt other (length seats)) [
        | inl inside ↦
            slice_get-get_or (set seats i x) other x (omega (arith, inside, l))
            ∙ (ap (λ (y : Seat). Some y) (get_or-set_other seats i other x x apart)
            ∙ sym (slice_get-get_or seats other x inside))
        | inr past ↦ slice_get_past (set seats i x) other (omega (arith, past, l)) ∙ sym (slice_get_past seats other past)
      ]

  trail_there : (other : ℕ) → other ≢ i
      → trail_of (trails_of (set seats i x)) (site_at other) ≡ trail_of (trails_of seats) (site_at other)
  trail_there other apart =
      let f = λ (s : Seat). s.entries.items in
      sym (unwrap_or-slice_get (map f (set seats i x)) other [])
      ∙ (ap (λ (o : Option (List Entry)). unwrap_or o [])
      (slice_get-map f (set seats i x) other ∙ (ap (option_map f) (set_there other apart) ∙ sym (slice_get-map f seats other)))
      ∙ unwrap_or-slice_get (map f seats) other [])

  -- where the entries of one are as they were, all trails are
  pub trails_same : (a : Seat) → slice_get seats i ≡ Some a → x.entries.items ≡ a.entries.items
      → trails_of (set seats i x) ≡ trails_of seats
  trails_same a was same = same_places (trails_of (set seats i x)) (trails_of seats) (λ k. by k)
    where
      f : Seat → List Entry
      f s = s.entries.items

      by : (k : ℕ) → slice_get (trails_of (set seats i x)) k ≡ slice_get (trails_of seats) k
      by k = slice_get-map f (set seats i x) k ∙ (elim (cases_eq k i) [
        | inl here ↦
            ap (λ (n : ℕ). option_map f (slice_get (set seats i x) n)) here
            ∙ (ap (option_map f) set_here ∙ (ap (λ (t : List Entry). Some t) same
            ∙ (sym (ap (option_map f) was) ∙ sym (ap (λ (n : ℕ). option_map f (slice_get seats n)) here))))
        | inr there ↦ ap (option_map f) (set_there k there)
      ] ∙ sym (slice_get-map f seats k))

  -- one more entry came to one of them
  pub happened_here : (format : Format) (catalog : Catalog) (w : WorldEvent) (event : Event) (put : ℕ) (a : Seat)
      → w.site.0 ≡ i → slice_get seats i ≡ Some a → Brings (trails_of seats) w.site w.what event put
      → x.entries.items ≡ a.entries.items ++ entry_of format catalog w.site a.entries.items event put (keeps w.what)
      w.fate ∷ [] → HasHappened format catalog (trails_of seats) w (trails_of (set seats i x))
  happened_here format catalog w event put a place was brings grown =
      let f = λ (s : Seat). s.entries.items in
      let site : w.site ≡ site_at i = ap site_at place in
      let before : trail_of (trails_of seats) w.site ≡ a.entries.items =
      ap (trail_of (trails_of seats)) site ∙ trail_here seats i a was in
      record {
        event = event;
        put = put;
        brings = brings;
        here = ap (trail_of (trails_of (set seats i x))) site ∙ (trail_here (set seats i x) i x set_here ∙ (grown
            ∙ ap (λ (t : List Entry). t ++ entry_of format catalog w.site t event put (keeps w.what) w.fate ∷ [])
            (sym before)));
        one_each = length-map (set seats i x) f ∙ (length-set seats i x ∙ sym (length-map seats f));
        others = λ j apart. trail_there j.0 (λ same. apart (ap site_at (same ∙ sym place)));
      }

  pub seats_more : (catalog : Catalog)
      → ((k : ℕ) (seat : Seat) → slice_get seats k ≡ Some seat → IsSeat catalog (site_at k) seat)
      → IsSeat catalog (site_at i) x
      → (k : ℕ) (seat : Seat) → slice_get (set seats i x) k ≡ Some seat → IsSeat catalog (site_at k) seat
  seats_more catalog all here k seat at = elim (cases_eq k i) [
    | inl same ↦
        let is : x ≡ seat = some_is (sym set_here ∙ (ap (slice_get (set seats i x)) (sym same) ∙ at)) in
        subst (λ (n : ℕ). IsSeat catalog (site_at n) seat) (sym same) (subst (IsSeat catalog (site_at i)) is here)
    | inr other ↦ all k seat (sym (set_there k other) ∙ at)
  ]
    where
      some_is : Some x ≡ Some seat → x ≡ seat
      some_is is = cc
