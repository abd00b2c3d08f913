-- A boot ends what was being decided, so the site is one that is up.
use Rattle.std.proofs.Common.{◌≡◌, ℕ, ◌+◌, List, Some, arith}
use Rattle.walter_base.specs.declared.catalog.Catalog.{Catalog}
use Rattle.walter_base.specs.declared.message.Record.TheVariants.{Boot}
use Rattle.walter_base.specs.declared.names.SiteId.{SiteId}
use Rattle.walter_base.specs.declared.transaction.Tx.{Tx}
use Rattle.walter_rules.specs.Knowledge.{Knowledge}
use Rattle.walter_rules.specs.Learning.{recorded}
use Rattle.walter_rules.specs.Slow.{Slow, Unused, Undecided, Dropped, Decided, ended}
use Rattle.walter_site.specs.Members.{Knows}
use Rattle.walter_tables.specs.declared.tables.Tables.{Tables}
use Rattle.walter_tables.specs.Sites.{Stands}

not_ended : (slow : Slow) (tx : Tx) (asked : List SiteId) → ended slow ≡ Undecided tx asked → ⊥
not_ended Unused tx asked is = absurd cc
not_ended (Undecided t a) tx asked is = absurd cc
not_ended (Dropped t a) tx asked is = absurd cc
not_ended (Decided t) tx asked is = absurd cc

pub knows_booted : (catalog : Catalog) (i : SiteId) (tables : Tables) (K : Knowledge) (epoch : ℕ)
    → epoch ≡ K.epoch + 1 → Stands tables (recorded catalog i (Some (Boot epoch)) K)
    → Knows tables (recorded catalog i (Some (Boot epoch)) K)
knows_booted catalog i tables K epoch next stands = record {
  stands = stands;
  started = record {
    booted = omega (arith, next);
    own = λ n tx asked undecided. absurd (not_ended (K.slow n) tx asked undecided);
  };
}
