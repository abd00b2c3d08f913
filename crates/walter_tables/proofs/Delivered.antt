-- What a peer's packets come to by the tables is what the rules say.
use Rattle.std.proofs.Common.{◌≡◌, ◌+◌, ℕ, Bool, false, Option, Some, None, ap, sym, ◌∙◌, arith, if◌then◌else◌}
use Rattle.std.specs.Prelude.{◌↔◌, IsTrue}
use Rattle.std.specs.Option.{option_map_or}
use Rattle.std.proofs.lemmas.Bool.{le-leb, leb-true}
use Rattle.walter_base.specs.declared.names.SiteId.{SiteId}
use Rattle.walter_base.specs.declared.transaction.Tx.{Tx}
use Rattle.walter_base.specs.Vectors.{entry_at}
use Rattle.walter_base.proofs.NameTests.{both}
use Rattle.walter_rules.specs.Deliveries.{covers, is_enabled}
use Rattle.walter_rules.specs.Knowledge.{Knowledge}
use Rattle.walter_rules.specs.Log.{commit_at}
use Rattle.walter_spread.specs.Propagation.{Progress, IsEnabled}
use Rattle.walter_tables.specs.Parts.{IsSpreadOf}
use Rattle.walter_tables.proofs.FitsTold.{one_test, both_true, covers_there, covers_back}

module _ (S : Progress) (K : Knowledge) (are : IsSpreadOf S K) (j : SiteId) (n : ℕ) (tx : Tx)
    (last : n ≡ entry_at S.committed j) (next : commit_at j (n + 1) K.log ≡ Some tx) where
  covers_known : Option Tx → Bool
  covers_known known = option_map_or (λ (t : Tx). covers K.committed t.start) known false

  -- the next commit of the site is the one that is known
  known_next : commit_at j (K.committed j + 1) K.log ≡ Some tx
  known_next = ap (λ (m : ℕ). commit_at j (m + 1) K.log) (sym (last ∙ are.seen j)) ∙ next

  -- it can be committed here by the tables where it can by the rules
  enabled_told : (test : Bool) → IsTrue test ↔ IsEnabled S j tx.start → test ≡ is_enabled K j
  unfolding covers_known
  enabled_told test tells = one_test test (is_enabled K j)
      (λ is.
      let told = tells.0 is in
      let seen = are.seen j in
      let received = are.received j in
      let durable = are.durable j in
      let is_received = told.received in
      let is_durable = told.durable in
      both_true _ _ (le-leb (K.committed j + 1) (K.got j) (omega (arith, seen, received, is_received)))
      (both_true _ _ (le-leb (K.committed j + 1) (K.durable j) (omega (arith, seen, durable, is_durable)))
      (ap covers_known known_next ∙ covers_there S.committed K.committed are.seen tx.start told.covered)))
      (λ is.
      let parts = both _ _ is in
      let more = both _ _ parts.1 in
      let seen = are.seen j in
      let received = are.received j in
      let durable = are.durable j in
      let is_received = leb-true (K.committed j + 1) (K.got j) parts.0 in
      let is_durable = leb-true (K.committed j + 1) (K.durable j) more.0 in
      tells.1 (record {
        received = omega (arith, seen, received, is_received);
        durable = omega (arith, seen, durable, is_durable);
        covered = covers_back S.committed K.committed are.seen tx.start (sym (ap covers_known known_next) ∙ more.1);
      }))

  pub next_told : (test : Bool) → IsTrue test ↔ IsEnabled S j tx.start
      → (if test then Some (n + 1) else None) ≡ (if is_enabled K j then Some (K.committed j + 1) else None)
  next_told test tells =
      ap (λ (b : Bool). if b then Some (n + 1) else None) (enabled_told test tells)
      ∙ ap (λ (m : ℕ). if is_enabled K j then Some (m + 1) else None) (last ∙ are.seen j)
