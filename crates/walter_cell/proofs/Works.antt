-- What a site does that is pumped, in other words.
use Rattle.std.proofs.Common.{◌≡◌, ◌≢◌, ◌<◌, ◌≤◌, ◌∷◌, ◌+◌, ℕ, zero, suc, arith, List, [], drop, length, slice_get, refl, ap, ◌∙◌, Option, Some, None}
use Rattle.std.specs.Prelude.{IsSome}
use Rattle.walter_base.specs.declared.names.SiteId.{SiteId}
use Rattle.std.proofs.lemmas.Bool.{eq-eqb, ne_eqb}
use Rattle.walter_lane.specs.Lanes.{Receiving}
use Rattle.walter_link.specs.Pumps.{PumpValue, HasTaken, take_below, take_other, take_up_to, taken_from}
use Rattle.walter_link.specs.declared.pump.Waiting.{Waiting}
use Rattle.walter_machine.specs.Posts.{of_number}
use Rattle.walter_outbox.specs.Lanes.{arrived_from}
use Rattle.walter_rules.specs.declared.event.Event.{Event}
use Rattle.walter_cell.specs.declared.answers.Acted.{Acted}
use Rattle.walter_cell.specs.declared.answers.Moved.{Moved}
use Rattle.walter_cell.specs.declared.answers.Pumped.{Pumped}
use Rattle.walter_cell.specs.Cells.{arrival}
use Rattle.walter_cell.specs.Pumps.{Works, hands, advances, ticks, idle, counts_in}

-- the first of a list, and the rest
pub first_front : {X : Type 0} (xs : List X) (x : X) → slice_get xs 0 ≡ Some x → xs ≡ x ∷ drop 1 xs
first_front [] x first = absurd cc
first_front (y ∷ ys) x first = let same : Some y ≡ Some x = first in cc

pub no_front : {X : Type 0} (xs : List X) → slice_get xs 0 ≡ None → xs ≡ []
no_front [] none = refl
no_front (y ∷ ys) none = let same : Some y ≡ None = none in absurd cc

-- a packet that was taken has arrived, where no more was taken than that
at_number : {T : Type 0} (posts : List T) (number : ℕ) → 0 < number → number ≤ length posts → IsSome (of_number number posts)
at_number posts zero first most = absurd (omega (arith, first))
at_number [] (suc before) first most = absurd (omega (arith, most))
at_number (post ∷ posts) (suc zero) first most = refl
at_number (post ∷ posts) (suc (suc before)) first most =
    at_number posts (suc before) (omega arith) (omega (arith, most))

pub there_taken : (ins : List Receiving) (pump : PumpValue) (first : Waiting) → HasTaken pump first
    → taken_from pump first.from.0 ≤ counts_in ins first.from.0 → IsSome (arrival ins first.from first.number)
there_taken ins pump first taken most =
    let below = taken.taken in at_number (arrived_from ins first.from.0) first.number taken.first (omega (arith, below, most))

-- what is said of deliveries, of events, of rest and of the least peer may be said otherwise
pub works_so : (Delivers Delivers' : SiteId → ℕ → Moved → Type 0) (Happens Happens' : Event → Acted → Type 0) (rests rests' : Type 0)
    (IsLeast IsLeast' : Option SiteId → Type 0) (pump after : PumpValue) (answer : Pumped)
    → ((first : Waiting) (moved : Moved) → HasTaken pump first → Delivers first.from first.number moved → Delivers' first.from first.number moved)
    → ((happens : Event) (acted : Acted) → Happens happens acted → Happens' happens acted) → (rests → rests')
    → ((least : Option SiteId) → IsLeast least → IsLeast' least)
    → Works Delivers Happens rests IsLeast pump after answer → Works Delivers' Happens' rests' IsLeast' pump after answer
works_so D D' H H' r r' L L' pump after answer delivers happens rests least (hands first rest moved is taken moves left says) =
    hands first rest moved is taken (delivers first moved taken moves) left says
works_so D D' H H' r r' L L' pump after answer delivers happens rests least (advances from acted none is acts same says) =
    advances from acted none (least (Some from) is) (happens _ acted acts) same says
works_so D D' H H' r r' L L' pump after answer delivers happens rests least (ticks acted none is some acts left says) =
    ticks acted none (least None is) some (happens _ acted acts) left says
works_so D D' H H' r r' L L' pump after answer delivers happens rests least (idle none is no_ticks still same says) =
    idle none (least None is) no_ticks (rests still) same says

-- ---- what is taken of one more sender

module _ (i : SiteId) (arrived : ℕ → ℕ) (n : ℕ) (pump : PumpValue) where
  pub below_other : n ≢ i.0 → take_below i arrived (n + 1) pump ≡ take_up_to (record { 0 = n }) (arrived n) (take_below i arrived n pump)
  below_other apart =
      let e : n + 1 ≡ suc n = omega arith in
      ap (λ k. take_below i arrived k pump) e
      ∙ ap (λ b. take_other b (record { 0 = n }) (arrived n) (take_below i arrived n pump)) (ne_eqb n i.0 apart)

  pub below_own : n ≡ i.0 → take_below i arrived (n + 1) pump ≡ take_below i arrived n pump
  below_own same =
      let e : n + 1 ≡ suc n = omega arith in
      ap (λ k. take_below i arrived k pump) e ∙ ap (λ b. take_other b (record { 0 = n }) (arrived n) (take_below i arrived n pump)) (eq-eqb n i.0 same)
