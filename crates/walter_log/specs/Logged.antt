-- The transactions that a site holds, as contracts see them.
use Rattle.std.specs.Prelude.{ℕ, ◌<◌, min, List, All, slice_index}
use Rattle.walter_base.specs.declared.names.SiteId.{SiteId}
use Rattle.walter_rules.specs.declared.held.Held.{Held}

-- which site it is, and how many there are; the transactions, in order; and for how many more there is room without
-- memory: in all, by site, and by the numbers of own ones
pub record Logged : Type 0 where
  pub site : SiteId
  pub sites : ℕ
  pub log : List Held
  pub room : ℕ
  pub places : List ℕ
  pub numbers : ℕ

-- for how many more of the site there is room
abbrev pub room_of : Logged → SiteId → ℕ
room_of L site = min L.room (min L.numbers (slice_index L.places site.0))

-- each transaction is of one of the sites
abbrev pub AreWithin : ℕ → List Held → Type 0
AreWithin sites log = All (λ h. h.tx.tid.site.0 < sites) log
