-- Sites that are asked, and those of them that were heard.
use Rattle.std.specs.Prelude.{◌+◌, ◌≤◌, ◌++◌, ℕ, Bool, not, ◌&&◌, List, [], ◌∷◌, length, count_by, if◌then◌else◌}
use Rattle.walter_base.specs.declared.names.SiteId.{SiteId}
use Rattle.walter_rules.specs.Slow.{has_site}

-- whether the site is asked, and isn't heard
abbrev pub is_missing : SiteId → List SiteId → List SiteId → Bool
is_missing site asked heard = has_site site asked && not (has_site site heard)

-- a site that is missing is heard, behind the others
abbrev pub with_heard : SiteId → List SiteId → List SiteId → List SiteId
with_heard site asked heard = if is_missing site asked heard then heard ++ site ∷ [] else heard

-- how many of those asked aren't heard
abbrev pub missing_count : List SiteId → List SiteId → ℕ
missing_count asked heard = count_by (λ site. not (has_site site heard)) asked

-- a list of this capacity has room for all that are asked: to hear those that are missing, and to begin anew
pub record HasRoom (asked heard : List SiteId) (capacity : ℕ) : Type 0 where
  pub missing : length heard + missing_count asked heard ≤ capacity
  pub all : length asked ≤ capacity
