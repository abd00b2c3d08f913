-- What the tables of a site that is up show, by what the site knows.
use Rattle.std.proofs.Common.{◌≡◌, ◌<◌, ◌≤◌, List, Option, Some, None, ap, sym, ◌∙◌, subst}
use Rattle.std.specs.Option.{option_map_or}
use Rattle.walter_base.specs.declared.message.Record.{Record}
use Rattle.walter_base.specs.declared.names.SiteId.{SiteId}
use Rattle.walter_base.specs.declared.transaction.Conflict.{Conflict}
use Rattle.walter_base.specs.declared.transaction.Tx.{Tx}
use Rattle.walter_base.specs.Vectors.{most_sites}
use Rattle.walter_site.specs.Members.{Knows}
use Rattle.walter_rules.specs.Knowledge.{Knowledge}
use Rattle.walter_rules.specs.Learning.{recorded}
use Rattle.walter_rules.specs.Slow.{Slow, Unused, Undecided, Dropped, Decided}
use Rattle.walter_slow.specs.Kept.{Kept, kept_of}
use Rattle.walter_tables.specs.declared.tables.Tables.{Tables}
use Rattle.walter_tables.specs.Open.{AreOpenAt}
use Rattle.walter_tables.specs.Planning.{IsUp}
use Rattle.walter_tables.specs.Sites.{values_of, site_of, catalog_of, Stands}
use Rattle.walter_tables.specs.Sound.{IsSound}

some_same : (x y : Tx) → Some x ≡ Some y → x ≡ y
some_same x y same = cc

-- what is kept with a transaction is being decided
is_undecided : (g : Slow) (heard : List SiteId) (refusal : Option Conflict) (released : List SiteId) (kept : Kept)
    (tx : Tx) → kept_of g heard refusal released ≡ Some kept → kept.tx ≡ Some tx
    → (asked : List SiteId) × (g ≡ Undecided tx asked)
is_undecided Unused heard refusal released kept tx is at = absurd cc
is_undecided (Undecided x asked) heard refusal released kept tx is at =
    let same : Some x ≡ Some tx = ap (λ o. option_map_or (λ (k : Kept). k.tx) o None) is ∙ at in
    (asked, ap (λ (y : Tx). Undecided y asked) (some_same x tx same))
is_undecided (Dropped x asked) heard refusal released kept tx is at =
    let none : None ≡ Some tx = ap (λ o. option_map_or (λ (k : Kept). k.tx) o None) is ∙ at in
    absurd cc
is_undecided (Decided x) heard refusal released kept tx is at = absurd cc

pub is_up : (t : Tables) (K : Knowledge) → Knows t K → IsUp (values_of t)
unfolding values_of site_of
is_up t K S = record {
  booted = subst (λ n. 0 < n) (sym S.stands.epoch) S.started.booted;
  own = λ n kept tx is at.
      let undecided = is_undecided (K.slow n) (K.said_yes n) (K.said_no n) (K.said_released n) kept tx
      (sym (S.stands.slow.kept n) ∙ is) at in
      S.started.own n tx undecided.0 undecided.1;
}

pub sound_at : (t : Tables) (K : Knowledge) → Stands t K → IsSound (catalog_of t) (site_of t) K
unfolding values_of site_of catalog_of
sound_at t K S = S.sound

pub open_at : (t : Tables) (K : Knowledge) → Stands t K → AreOpenAt (catalog_of t) (site_of t) K.sessions
unfolding values_of site_of catalog_of
open_at t K S = subst (AreOpenAt t.catalog t.site) S.sessions t.open

pub most_at : (t : Tables) → (catalog_of t).sites ≤ most_sites
unfolding catalog_of
most_at t = t.most

-- no record changes how many transactions were started
pub starts_kept : (old new : Tables) (K : Knowledge) (rec : Option Record) → Stands old K
    → Stands new (recorded (catalog_of old) (site_of old) rec K) → new.starts ≡ old.starts
unfolding values_of site_of catalog_of
starts_kept old new K rec S S2 = S2.starts ∙ sym S.starts
