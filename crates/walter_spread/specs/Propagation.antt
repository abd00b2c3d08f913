-- Which commits a site takes from others, which of them it commits here, and which of its own it sends (docs/SITE.md,
-- "Propagation").
use Rattle.std.specs.Prelude.{◌≡◌, ◌+◌, ◌<◌, ◌≤◌, ℕ, nat_le, max, min, List, length, replicate, slice_index, slice_set, Option, Some, None, if◌then◌else◌}
use Rattle.walter_base.specs.declared.names.SiteId.{SiteId}
use Rattle.walter_base.specs.Vectors.{most_sites, entry_at, Covers}

-- How far a site has come: which site it is, and how many commits above what a peer acknowledged it sends; how many
-- commits of each site it has received, and how many of these it has committed; and how many of its own each peer has
-- called durable
pub record Progress : Type 0 where
  pub site : SiteId
  pub window : ℕ
  pub got : List ℕ
  pub committed : List ℕ
  pub durable : List ℕ

-- at first there are no commits
abbrev pub unbegun : SiteId → ℕ → ℕ → Progress
unbegun site sites window = record {
  site = site;
  window = window;
  got = replicate sites 0;
  committed = replicate sites 0;
  durable = replicate sites 0;
}

-- the number of own commits
abbrev pub own : Progress → ℕ
own S = entry_at S.committed S.site

-- what holds of each progress: each vector has an entry for each site; what is committed here is received; and own
-- commits are committed as they are received
pub record IsPossible (S : Progress) : Type 0 where
  pub window : 0 < S.window
  pub here : S.site.0 < length S.got
  pub few : length S.got ≤ most_sites
  pub committed : length S.committed ≡ length S.got
  pub durable : length S.durable ≡ length S.got
  pub received : (k : ℕ) → slice_index S.committed k ≤ slice_index S.got k
  pub at_once : entry_at S.got S.site ≡ own S

-- a commit is taken where it is the next of its site, and what it has seen is received here
abbrev pub IsAccepted : Progress → SiteId → ℕ → List ℕ → Type 0
IsAccepted S from seq start = (seq ≡ entry_at S.got from + 1) × Covers S.got start

-- the next commit of a site, of this snapshot, is committed here where it is received, its site has called it durable,
-- and what it has seen is committed here
pub record IsEnabled (S : Progress) (from : SiteId) (start : List ℕ) : Type 0 where
  pub received : entry_at S.committed from + 1 ≤ entry_at S.got from
  pub durable : entry_at S.committed from + 1 ≤ entry_at S.durable from
  pub covered : Covers S.committed start

-- the next own commit is within the window above what a peer has acknowledged
abbrev pub IsWithin : Progress → ℕ → Type 0
IsWithin S acknowledged = own S + 1 ≤ acknowledged + S.window

-- from a first to a last number, where there are any
abbrev pub span : ℕ → ℕ → Option (ℕ × ℕ)
span first last = if nat_le first last then Some (first, last) else None

-- the own numbers within the window above what a peer has acknowledged
abbrev pub in_window : ℕ → ℕ → ℕ → Option (ℕ × ℕ)
in_window window own acknowledged = span (acknowledged + 1) (min own (acknowledged + window))

-- those that come into the window where the peer acknowledges more
abbrev pub into_window : ℕ → ℕ → ℕ → ℕ → Option (ℕ × ℕ)
into_window window own before now = span (max now (before + window) + 1) (min own (now + window))

-- one more commit of the site is received
abbrev pub with_received : SiteId → Progress → Progress
with_received from S = record S { got = slice_set S.got from.0 (entry_at S.got from + 1) }

-- the next commit of the site is committed here
abbrev pub with_committed : SiteId → Progress → Progress
with_committed from S = record S { committed = slice_set S.committed from.0 (entry_at S.committed from + 1) }

-- one more own commit, which is received and committed here
abbrev pub with_own : Progress → Progress
with_own S = record S {
  got = slice_set S.got S.site.0 (entry_at S.got S.site + 1);
  committed = slice_set S.committed S.site.0 (own S + 1);
}

-- the site has called so many of its commits durable
abbrev pub with_durable : SiteId → ℕ → Progress → Progress
with_durable from durable S = record S { durable = slice_set S.durable from.0 (max (entry_at S.durable from) durable) }
