-- What a Commit is answered whose objects are all preferred where it is asked for, and that meets no conflict there
-- (Sovran et al., SOSP 2011, section 5.3: fast commit). Of one Commit walter_alone says it.
use Rattle.std.specs.Prelude.{◌<◌, List, [], ◌∷◌, reverse}
use Rattle.walter_alone.specs.Promises.{IsFree, IsAnswered}
use Rattle.walter_base.specs.declared.catalog.Catalog.{Catalog}
use Rattle.walter_base.specs.declared.names.SiteId.{SiteId}
use Rattle.walter_rules.specs.declared.entry.Entry.{Entry}
use Rattle.walter_rules.specs.Layouts.{Layout}
use Rattle.walter_rules.specs.Merges.{trail_of}
use Rattle.walter_rules.specs.Sessions.{Session}
use Rattle.walter_rules.specs.Trails.{standing}

-- each such commit of a site is answered Committed or Unsure where its record fits, refused where it doesn't, or
-- refused for want of memory; the newest entry comes first
abbrev pub AreAnswered : Catalog → Layout → SiteId → List Entry → Type 0
AreAnswered catalog layout i [] = Unit {0}
AreAnswered catalog layout i (e ∷ older) = AreAnswered catalog layout i older
    × ((s : Session) → IsFree catalog i (standing catalog i older) e.event s
    → IsAnswered layout i (standing catalog i older) s e.came.outcome)

-- and each of each site
abbrev pub AnswerCommits : Catalog → (SiteId → Layout) → List (List Entry) → Type 0
AnswerCommits catalog layouts trails = (i : SiteId) → i.0 < catalog.sites
    → AreAnswered catalog (layouts i) i (reverse (trail_of trails i))
