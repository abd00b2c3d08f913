-- The sites of a new world, one after another: each has come up, and nothing else has happened.
use Rattle.std.proofs.Common.{◌≡◌, ℕ, ◌+◌, ◌<◌, ◌≤◌, List, [], ◌∷◌, ◌++◌, false, None, reverse, refl, ap, sym, ◌∙◌, subst, arith, inl, inr}
use Rattle.std.specs.Prelude.{All}
use Rattle.std.proofs.lemmas.List.{length-append, length-map}
use Rattle.std.proofs.lemmas.List.Elements.{All-nil}
use Rattle.std.proofs.lemmas.Option.{slice_get_cases}
use Rattle.walter_base.specs.declared.catalog.Catalog.{Catalog}
use Rattle.walter_base.specs.declared.format.Format.{Format}
use Rattle.walter_base.specs.declared.names.SiteId.{SiteId}
use Rattle.walter_base.specs.Vectors.{most_sites}
use Rattle.walter_linked.specs.Catalogs.{IsWhole}
use Rattle.walter_machine.specs.Machines.{catalog_in, site_in, HasStanding}
use Rattle.walter_machine.specs.States.{AreTold}
use Rattle.walter_machine.proofs.Records.{told_unmade}
use Rattle.walter_psi.proofs.Lists.{slice_get-push_cases}
use Rattle.walter_rules.specs.declared.entry.Entry.{Entry}
use Rattle.walter_rules.specs.declared.event.Event.TheVariants.{Restart}
use Rattle.walter_rules.specs.Knowledge.{site_at}
use Rattle.walter_rules.specs.Layouts.{one_area}
use Rattle.walter_rules.specs.Standing.{Standing, unmade}
use Rattle.walter_rules.specs.Trails.{standing, clock, AreRight}
use Rattle.walter_world.specs.declared.seat.Seat.{Seat}
use Rattle.walter_world.specs.Seats.{AreSpelled, CanTake}
use Rattle.walter_world.specs.Worlds.{AreOpenings, HasOpened, HaveOpened, IsWorld, trails_of}
use Rattle.walter_world.proofs.Growing.{openings_right}
use Rattle.walter_world.proofs.SeatTrails.{trail_here}

-- nothing has happened yet
pub none_yet : (format : Format) (catalog : Catalog) (i : SiteId) (seat : Seat)
    → ((S : Standing) → S.up ≡ false → S.flight ≡ None → ((client : ℕ) → S.gone client ≡ None) → AreTold catalog i S
    → HasStanding seat.machine S) → seat.entries.items ≡ []
    → CanTake (catalog_in seat.machine) (site_in seat.machine) seat Restart false
none_yet format catalog i seat stands trail = record {
  seat_is = record {
    catalog_is = refl;
    site = refl;
    stands = subst (λ (es : List Entry). HasStanding seat.machine
        (standing (catalog_in seat.machine) (site_in seat.machine) (reverse es))) (sym trail)
        (stands unmade refl refl (λ client. refl) (told_unmade catalog i));
    spelled = subst (λ (es : List Entry). All (λ (e : Entry). AreSpelled (catalog_in seat.machine).sites e.came) es)
        (sym trail) (All-nil (λ (e : Entry). AreSpelled (catalog_in seat.machine).sites e.came));
  };
  layout = one_area 0 format;
  right = subst
      (λ (es : List Entry). AreRight (catalog_in seat.machine) (one_area 0 format) (site_in seat.machine) (reverse es))
      (sym trail) tt;
  young = subst (λ (es : List Entry). clock (reverse es) < 4294967295) (sym trail) (omega arith);
  sized = tt;
  finds = tt;
}

pub open_more : (format : Format) (catalog : Catalog) (n : ℕ) (seats : List Seat) (seat : Seat)
    → HaveOpened format catalog n seats
    → HasOpened format catalog (site_at n) seat → HaveOpened format catalog (n + 1) (seats ++ seat ∷ [])
open_more format catalog n seats seat are opened = record {
  one_each = length-append seats (seat ∷ []) ∙ ap (λ (k : ℕ). k + 1) are.one_each;
  each = λ i other at. elim (slice_get-push_cases seats seat other i at) [
    | inl before ↦ are.each i other before.1
    | inr last ↦ subst (λ (s : Seat). HasOpened format catalog (site_at i) s) last.1
        (subst (λ (k : ℕ). HasOpened format catalog (site_at k) seat) (sym (last.0 ∙ are.one_each)) opened)
  ];
}

-- their trails are openings
pub are_openings : (format : Format) (catalog : Catalog) (seats : List Seat)
    → HaveOpened format catalog catalog.sites seats → AreOpenings format catalog (trails_of seats)
are_openings format catalog seats are = record {
  one_each = length-map seats (λ (s : Seat). s.entries.items) ∙ are.one_each;
  opens = λ i below. elim (slice_get_cases seats i.0).1 [
    | inl there ↦ trail_here seats i.0 there.0 there.2 ∙ (are.each i.0 there.0 there.2).opens
    | inr past ↦ let long = past.0 in let all = are.one_each in absurd (omega (arith, below, long, all))
  ];
}

pub new_world : (format : Format) (catalog : Catalog) (seats : List Seat) → IsWhole catalog → catalog.sites ≤ most_sites
    → catalog.tolerated < catalog.sites → HaveOpened format catalog catalog.sites seats → IsWorld format catalog seats
new_world format catalog seats whole few fewer are = record {
  whole = whole;
  few = few;
  fewer = fewer;
  one_each = are.one_each;
  seats_are = λ i seat at. (are.each i seat at).seat_is;
  right = openings_right format catalog (trails_of seats) (are_openings format catalog seats are);
}
