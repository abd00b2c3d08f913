-- How far back a site's sessions look.
use Rattle.std.specs.Prelude.{ℕ, ◌≤◌, List, All}
use Rattle.walter_base.specs.declared.names.SiteId.{SiteId}
use Rattle.walter_base.specs.Vectors.{entry_at, Covers}
use Rattle.walter_rules.specs.Sessions.{Sessions}

-- each snapshot covers the vector
abbrev pub AllCover : Sessions → List ℕ → Type 0
AllCover sessions vector = All (λ s. Covers s.1.snapshot vector) sessions

-- the greatest vector that a vector and all snapshots cover
pub record IsFloor (committed : List ℕ) (sessions : Sessions) (floor : List ℕ) : Type 0 where
  pub below : Covers committed floor
  pub snapshots : AllCover sessions floor
  pub greatest : (vector : List ℕ) → Covers committed vector → AllCover sessions vector → Covers floor vector

-- each snapshot has so many commits of the site at least
abbrev pub AllReach : Sessions → SiteId → ℕ → Type 0
AllReach sessions site number = All (λ s. number ≤ entry_at s.1.snapshot site) sessions

-- the greatest number that is at most this one, and that all snapshots have of the site
pub record IsLeastOf (most : ℕ) (sessions : Sessions) (site : SiteId) (least : ℕ) : Type 0 where
  pub below : least ≤ most
  pub snapshots : AllReach sessions site least
  pub greatest : (number : ℕ) → number ≤ most → AllReach sessions site number → number ≤ least
