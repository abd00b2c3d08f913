-- What a Commit comes to by the tables is what the rules say.
use Rattle.std.proofs.Common.{◌≡◌, ◌≢◌, ◌+◌, ◌<◌, ℕ, List, [], ◌∷◌, refl, ap, sym, ◌∙◌, subst, arith}
use Rattle.walter_base.specs.declared.catalog.Catalog.{Catalog}
use Rattle.walter_base.specs.declared.message.Record.TheVariants.{Own}
use Rattle.walter_base.specs.declared.names.SiteId.{SiteId}
use Rattle.walter_base.specs.declared.update.Update.{Update}
use Rattle.walter_rules.specs.Calls.{decides, commits_open}
use Rattle.walter_rules.specs.Conflicts.{first_conflict}
use Rattle.walter_rules.specs.Knowledge.{Knowledge}
use Rattle.walter_rules.specs.Objects.{objects_at}
use Rattle.walter_rules.specs.Records.{CanFollow}
use Rattle.walter_rules.specs.Sessions.{Session, tx_of, with_slow}
use Rattle.walter_spread.specs.Propagation.{own}
use Rattle.walter_tables.specs.Open.{IsOpenAt}
use Rattle.walter_tables.specs.Planning.{IsUp}
use Rattle.walter_tables.specs.Standing.{Values, StandFor}

-- a transaction with updates goes by what stands in its way
pub open_decides : (catalog : Catalog) (i : SiteId) (K : Knowledge) (s : Session) (updates : List Update) → updates ≢ []
    → commits_open catalog i K s updates ≡ decides catalog i K s (first_conflict K s.snapshot (objects_at catalog K i s.updates))
open_decides catalog i K s [] some = absurd (some refl)
open_decides catalog i K s (update ∷ updates) some = refl

-- the transaction of a session that isn't slow
pub fast_tx : (s : Session) → s.slow ≡ 0 → tx_of (with_slow 0 s) ≡ tx_of s
fast_tx s fast = λ t. record { tid = s.tid; slow = sym fast t; start = s.snapshot; updates = s.updates }

-- can be committed under the next number
pub fast_follows : (V : Values) (K : Knowledge) → StandFor V K → IsUp V → (s : Session) → IsOpenAt V.catalog V.site s
    → s.slow ≡ 0 → (seq : ℕ) → seq ≡ own V.spread + 1 → V.spread.site ≡ V.site
    → CanFollow V.catalog V.site K (Own seq (tx_of s))
fast_follows V K S U s is fast seq next same = record {
  booted = subst (λ e. 0 < e) S.epoch U.booted;
  next = next ∙ ap (λ (m : ℕ). m + 1) (S.spread.seen V.spread.site ∙ ap K.committed same);
  here = is.here;
  slow = λ begun. absurd (omega (arith, begun, fast));
  declared = is.declared;
}
