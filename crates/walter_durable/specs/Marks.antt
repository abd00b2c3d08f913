-- How far the own commits of a site are durable, and visible (docs/SITE.md, "Durable and visible").
use Rattle.std.specs.Prelude.{◌≡◌, ◌≢◌, ◌||◌, ◌+◌, ◌-◌, ◌<◌, ◌≤◌, ◌++◌, ℕ, nat_eq, nat_le, max, Bool, true, List, [], ◌∷◌, All, length, map, count_by, replicate, slice_index, slice_index_or, slice_set, if◌then◌else◌}
use Rattle.std.specs.List.{range_with_len}
use Rattle.walter_base.specs.declared.names.SiteId.{SiteId}
use Rattle.walter_base.specs.Vectors.{most_sites, entry_at}

-- This site, how many sites there are, and how many of them may be lost; for each own commit the preferred sites of the
-- objects that it changed; what each peer has acknowledged and what it has called visible, since the last boot; and the
-- two marks that were journaled last
pub record Holdings : Type 0 where
  pub site : SiteId
  pub sites : ℕ
  pub tolerated : ℕ
  pub preferred : List (List SiteId)
  pub acknowledged : List ℕ
  pub visible : List ℕ
  pub durable_floor : ℕ
  pub visible_floor : ℕ

-- the holdings, and how many more own commits can be kept without memory
pub record HoldingsWithRoom : Type 0 where
  pub holdings : Holdings
  pub room : ℕ

-- at first there are no own commits
abbrev pub unbegun : SiteId → ℕ → ℕ → Holdings
unbegun site sites tolerated = record {
  site = site;
  sites = sites;
  tolerated = tolerated;
  preferred = [];
  acknowledged = replicate sites 0;
  visible = replicate sites 0;
  durable_floor = 0;
  visible_floor = 0;
}

-- how many own commits there are
abbrev pub own : Holdings → ℕ
own H = length H.preferred

abbrev pub site_at : ℕ → SiteId
site_at k = record { 0 = k }

abbrev pub all_sites : ℕ → List SiteId
all_sites sites = map site_at (range_with_len 0 sites)

-- own commit q is held by this site, and by each peer that has acknowledged it
abbrev pub holds : Holdings → ℕ → SiteId → Bool
holds H q site = nat_eq site.0 H.site.0 || nat_le q (entry_at H.acknowledged site)

-- how many sites hold it
abbrev pub holders : Holdings → ℕ → ℕ
holders H q = count_by (holds H q) (all_sites H.sites)

-- the preferred sites of what own commit q changed
abbrev pub preferred_of : Holdings → ℕ → List SiteId
preferred_of H q = slice_index_or H.preferred (q - 1) []

-- it is held by more sites than may be lost, these sites among them
pub record IsHeldAt (H : Holdings) (q : ℕ) (sites : List SiteId) : Type 0 where
  pub enough : H.tolerated + 1 ≤ holders H q
  pub preferred : All (λ site. holds H q site ≡ true) sites

-- the preferred sites of what it changed among them
abbrev pub IsHeld : Holdings → ℕ → Type 0
IsHeld H q = IsHeldAt H q (preferred_of H q)

-- each own commit up to m is held
pub record AreHeld (H : Holdings) (m : ℕ) : Type 0 where
  pub within : m ≤ own H
  pub each : (q : ℕ) → 1 ≤ q → q ≤ m → IsHeld H q

-- each peer has called so many own commits visible
abbrev pub HaveCalled : Holdings → ℕ → Type 0
HaveCalled H m = (peer : ℕ) → peer < H.sites → peer ≢ H.site.0 → m ≤ entry_at H.visible (site_at peer)

-- each peer has called the own commits up to m visible
pub record AreVisible (H : Holdings) (m : ℕ) : Type 0 where
  pub within : m ≤ own H
  pub each : HaveCalled H m

-- the greatest number of which something holds
pub record IsGreatest (P : ℕ → Type 0) (m : ℕ) : Type 0 where
  pub one : P m
  pub most : (k : ℕ) → P k → k ≤ m

-- the greatest number of which it holds, and never below the floor
abbrev pub IsMark : (ℕ → Type 0) → ℕ → ℕ → Type 0
IsMark P floor mark = (m : ℕ) × IsGreatest P m × (mark ≡ max floor m)

abbrev pub IsDurableMark : Holdings → ℕ → Type 0
IsDurableMark H mark = IsMark (AreHeld H) H.durable_floor mark

abbrev pub IsVisibleMark : Holdings → ℕ → Type 0
IsVisibleMark H mark = IsMark (AreVisible H) H.visible_floor mark

-- what holds of each holdings: the vectors have an entry for each site, and nothing is above the own commits
pub record IsPossible (H : Holdings) : Type 0 where
  pub here : H.site.0 < H.sites
  pub few : H.sites ≤ most_sites
  pub tolerated : H.tolerated < H.sites
  pub acknowledged : length H.acknowledged ≡ H.sites
  pub visible : length H.visible ≡ H.sites
  pub held : (k : ℕ) → slice_index H.acknowledged k ≤ own H
  pub seen : (k : ℕ) → slice_index H.visible k ≤ own H
  pub durable_floor : H.durable_floor ≤ own H
  pub visible_floor : H.visible_floor ≤ own H

-- one more own commit, with the preferred sites of what it changed
abbrev pub with_own : List SiteId → Holdings → Holdings
with_own preferred H = record H { preferred = H.preferred ++ preferred ∷ [] }

-- what peers have said, where one says a number: a greater one than before is believed, up to the number of own commits
abbrev pub heard : ℕ → List ℕ → SiteId → ℕ → List ℕ
heard most said peer number =
    if nat_le number most then slice_set said peer.0 (max (entry_at said peer) number) else said

abbrev pub with_acknowledged : SiteId → ℕ → Holdings → Holdings
with_acknowledged peer number H = record H { acknowledged = heard (own H) H.acknowledged peer number }

abbrev pub with_visible : SiteId → ℕ → Holdings → Holdings
with_visible peer number H = record H { visible = heard (own H) H.visible peer number }

-- marks that don't fall, and are of own commits
pub record CanJournal (H : Holdings) (durable visible : ℕ) : Type 0 where
  pub durable_rises : H.durable_floor ≤ durable
  pub durable_own : durable ≤ own H
  pub visible_rises : H.visible_floor ≤ visible
  pub visible_own : visible ≤ own H

-- the marks are journaled
abbrev pub with_floors : ℕ → ℕ → Holdings → Holdings
with_floors durable visible H = record H { durable_floor = durable; visible_floor = visible }
