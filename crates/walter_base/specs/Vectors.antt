-- Vectors: a number for each site, as a list.
use Rattle.std.specs.Prelude.{◌≡◌, ◌≤◌, ℕ, List, slice_index}
use Rattle.walter_base.specs.declared.names.SiteId.{SiteId}
use Rattle.walter_base.specs.declared.names.Version.{Version}
use Rattle.walter_base.specs.declared.vts.TheConstants.{MOST_SITES}

-- how many sites there may be
abbrev pub most_sites : ℕ
most_sites = MOST_SITES

-- the number of a site
abbrev pub entry_at : List ℕ → SiteId → ℕ
entry_at vector site = slice_index vector site.0

-- a version is seen by a vector where its number is at most the vector's at its site
abbrev pub IsSeenBy : List ℕ → Version → Type 0
IsSeenBy vector version = version.seq ≤ entry_at vector version.site

-- a vector covers another where it is at least as great at each site
abbrev pub Covers : List ℕ → List ℕ → Type 0
Covers vector other = (k : ℕ) → slice_index other k ≤ slice_index vector k

-- the entries from a place on are 0
abbrev pub NoneFrom : ℕ → List ℕ → Type 0
NoneFrom from entries = (k : ℕ) → from ≤ k → slice_index entries k ≡ 0
