-- The least of a number and of what snapshots have of a site, one session after another; and the floor, one site after
-- another.
use Rattle.std.proofs.Common.{◌≡◌, ◌≤◌, ◌<◌, ℕ, suc, List, length, slice_index, slice_index_or, inl, inr, arith}
use Rattle.std.proofs.lemmas.Bool.Decides.{leb_tells}
use Rattle.std.proofs.lemmas.List.{get_or_past}
use Rattle.walter_base.specs.declared.names.SiteId.{SiteId}
use Rattle.walter_base.specs.Vectors.{entry_at}
use Rattle.walter_rules.specs.Sessions.{Session, Sessions}
use Rattle.walter_session.specs.Floors.{IsFloor, AllReach, IsLeastOf}

-- of the sessions before a place
pub record IsLeastSoFar (most : ℕ) (sessions : Sessions) (site : SiteId) (least place : ℕ) : Type 0 where
  pub below : least ≤ most
  pub snapshots : (k : ℕ) (d : ℕ × Session) → k < place → least ≤ entry_at (slice_index_or sessions k d).1.snapshot site
  pub greatest : (number : ℕ) → number ≤ most → AllReach sessions site number → number ≤ least

-- of the sites before a place; the others have nothing yet
pub record IsFloorSoFar (committed : List ℕ) (sessions : Sessions) (floor : List ℕ) (sites place : ℕ) : Type 0 where
  pub many : length floor ≡ sites
  pub each : (k : ℕ) → k < place → IsLeastOf (slice_index committed k) sessions (record { 0 = k }) (slice_index floor k)
  pub none : (k : ℕ) → place ≤ k → slice_index floor k ≡ 0

pub floor_all : (committed : List ℕ) (sessions : Sessions) (floor : List ℕ) (sites : ℕ) → length committed ≡ sites
    → IsFloorSoFar committed sessions floor sites sites → IsFloor committed sessions floor
floor_all committed sessions floor sites many so = record {
  below = λ k. elim (leb_tells (suc k) sites) [
    | inl lt ↦ (so.each k (omega (arith, lt.1))).below
    | inr from ↦ let none = so.none k (omega (arith, from.1)) in omega (arith, none)
  ];
  snapshots = λ m d within k. elim (leb_tells (suc k) sites) [
    | inl lt ↦ (so.each k (omega (arith, lt.1))).snapshots m d within
    | inr from ↦ let none = so.none k (omega (arith, from.1)) in omega (arith, none)
  ];
  greatest = λ vector covered all k. elim (leb_tells (suc k) sites) [
    | inl lt ↦ (so.each k (omega (arith, lt.1))).greatest (slice_index vector k) (covered k) (λ m d within. all m d within k)
    | inr from ↦
        let past : slice_index committed k ≡ 0 = get_or_past committed k 0 (omega (arith, many, from.1)) in
        let low = covered k in omega (arith, low, past)
  ];
}
