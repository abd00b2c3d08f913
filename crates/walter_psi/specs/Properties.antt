-- The three properties that define parallel snapshot isolation, said of the timestamps of a history (Sovran et al.,
-- SOSP 2011, section 3.2: PSI Properties 1 to 3). A timestamp is a place in the list of steps.
use Rattle.std.specs.Prelude.{◌≡◌, ◌≢◌, ◌<◌, ◌≤◌, ℕ, List, ◌++◌, Some, ◌⊎◌, Contains, slice_get, take, flat_map}
use Rattle.walter_base.specs.declared.names.ObjId.{ObjId}
use Rattle.walter_base.specs.declared.names.SiteId.{SiteId}
use Rattle.walter_base.specs.declared.names.Tid.{Tid}
use Rattle.walter_base.specs.declared.update.Update.{Update}
use Rattle.walter_base.specs.Values.{DoConflict}
use Rattle.walter_psi.specs.declared.step.Answer.{Answer}
use Rattle.walter_psi.specs.declared.step.Step.{Step}
use Rattle.walter_psi.specs.declared.step.Step.TheVariants.{Start, Read}
use Rattle.walter_psi.specs.Histories.{log, logged, own_updates, committed_updates}
use Rattle.walter_psi.specs.Legal.{IsAnswer}

-- the place is the start timestamp of the transaction: it starts there, at its site
abbrev pub StartsAt : List Step → Tid → ℕ → Type 0
StartsAt steps x place = slice_get steps place ≡ Some (Start x x.site)

-- the place is the commit timestamp of the transaction at the site: the step there makes it stand in the site's log, by
-- its commit at its own site, and by its arrival elsewhere
pub record CommitsAt (steps : List Step) (x : Tid) (site : SiteId) (place : ℕ) : Type 0 where
  pub step : Step
  pub here : slice_get steps place ≡ Some step
  pub logs : Contains (logged site step) x

-- a transaction has one start timestamp at most, and one commit timestamp at each site; it commits after its start, and at
-- its own site first
pub record HasTimestamps (steps : List Step) : Type 0 where
  pub one_start : (x : Tid) (place other : ℕ) → StartsAt steps x place → StartsAt steps x other → place ≡ other
  pub one_commit : (x : Tid) (site : SiteId) (place other : ℕ)
      → CommitsAt steps x site place → CommitsAt steps x site other → place ≡ other
  pub started : (x : Tid) (site : SiteId) (place : ℕ) → CommitsAt steps x site place
      → (begun : ℕ) × (begun < place) × StartsAt steps x begun
  pub own_first : (x : Tid) (site : SiteId) (place : ℕ) → CommitsAt steps x site place
      → (first : ℕ) × (first ≤ place) × CommitsAt steps x x.site first

-- what has been committed at the site after these steps: the updates of the transactions in its log, in order
abbrev pub site_updates : SiteId → List Step → List Update
site_updates site steps = flat_map (committed_updates steps) (log site steps)

-- Property 1, site snapshot read: a transaction that reads has started, and the answer is by what had been committed at its
-- site when it started, followed by what it has done itself
abbrev pub ReadsSnapshot : List Step → Type 0
ReadsSnapshot steps =
    (x : Tid) (oid : ObjId) (answer : Answer) (place : ℕ) → slice_get steps place ≡ Some (Read x oid answer)
    → ((begun : ℕ) × (begun < place) × StartsAt steps x begun)
    × ((begun : ℕ) → StartsAt steps x begun
    → IsAnswer oid (site_updates x.site (take begun steps) ++ own_updates x (take place steps)) answer)

-- at the site, the first transaction commits between the start and the commit of the second
pub record CommitsDuring (steps : List Step) (x y : Tid) (site : SiteId) : Type 0 where
  pub begun : ℕ
  pub between : ℕ
  pub ended : ℕ
  pub starts : StartsAt steps y begun
  pub commits : CommitsAt steps x site between
  pub ends : CommitsAt steps y site ended
  pub after : begun < between
  pub before : between < ended

-- one of the two commits at the site between the start and the commit of the other
abbrev pub AreConcurrentAt : List Step → Tid → Tid → SiteId → Type 0
AreConcurrentAt steps x y site = CommitsDuring steps x y site ⊎ CommitsDuring steps y x site

-- they are concurrent at the site of one of the two
abbrev pub AreSomewhereConcurrent : List Step → Tid → Tid → Type 0
AreSomewhereConcurrent steps x y = AreConcurrentAt steps x y x.site ⊎ AreConcurrentAt steps x y y.site

-- Property 2, no write-write conflicts: of two transactions that are somewhere concurrent, the write sets are disjoint
abbrev pub NoConcurrentWriters : List Step → Type 0
NoConcurrentWriters steps =
    (x y : Tid) → x ≢ y → AreSomewhereConcurrent steps x y → ¬ DoConflict (committed_updates steps x) (committed_updates steps y)

-- the first transaction commits at the site of the second before the second starts
pub record CommitsBeforeStart (steps : List Step) (x y : Tid) : Type 0 where
  pub place : ℕ
  pub begun : ℕ
  pub commits : CommitsAt steps x y.site place
  pub starts : StartsAt steps y begun
  pub before : place < begun

-- what Property 2 comes to before the arrivals too: of two transactions that write one object, one commits at the site of
-- the other before the other starts
abbrev pub AreWritersOrdered : List Step → Type 0
AreWritersOrdered steps =
    (x y : Tid) → x ≢ y → DoConflict (committed_updates steps x) (committed_updates steps y)
    → CommitsBeforeStart steps x y ⊎ CommitsBeforeStart steps y x

-- Property 3, commit causality across sites: what commits at the site of a transaction before it starts commits before it
-- at each site where it commits
abbrev pub IsCausal : List Step → Type 0
IsCausal steps =
    (x y : Tid) → CommitsBeforeStart steps x y
    → (site : SiteId) (place : ℕ) → CommitsAt steps y site place
    → (earlier : ℕ) × (earlier < place) × CommitsAt steps x site earlier
