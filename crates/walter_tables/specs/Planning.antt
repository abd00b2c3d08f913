-- What is planned is what the rules say.
use Rattle.std.specs.Prelude.{◌≡◌, ◌<◌, ℕ, Some}
use Rattle.walter_base.specs.declared.catalog.Catalog.{Catalog}
use Rattle.walter_base.specs.declared.message.Record.TheVariants.{Own}
use Rattle.walter_base.specs.declared.names.SiteId.{SiteId}
use Rattle.walter_base.specs.declared.transaction.Tx.{Tx}
use Rattle.walter_rules.specs.declared.outcome.Outcome.{Outcome}
use Rattle.walter_rules.specs.Calls.{Expected}
use Rattle.walter_rules.specs.Knowledge.{Knowledge}
use Rattle.walter_rules.specs.Learning.{recorded}
use Rattle.walter_rules.specs.Sending.{own_sends}
use Rattle.walter_slow.specs.Kept.{Kept}
use Rattle.walter_slow.specs.Tables.{commit_of}
use Rattle.walter_tables.specs.declared.plan.Planned.{Planned}
use Rattle.walter_tables.specs.Standing.{Values}

abbrev pub expected_of : Planned → Expected
expected_of planned = record { wrote = planned.rec; outcome = planned.outcome; sends = planned.sends }

-- an own commit under this number, which comes to this outcome
abbrev pub commits_own : Catalog → SiteId → Knowledge → ℕ → Tx → Outcome → Expected
commits_own catalog i K seq tx outcome = record {
  wrote = Some (Own seq tx);
  outcome = outcome;
  sends = own_sends catalog i K (recorded catalog i (Some (Own seq tx)) K);
}

-- The site has come up: a boot ended what was being decided, and each slow commit that began since is of a transaction
-- of the site.
pub record IsUp (V : Values) : Type 0 where
  pub booted : 0 < V.epoch
  pub own : (n : ℕ) (kept : Kept) (tx : Tx) → commit_of V.slow n ≡ Some kept → kept.tx ≡ Some tx → tx.tid.site ≡ V.site
