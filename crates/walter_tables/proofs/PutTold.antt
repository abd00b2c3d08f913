-- What goes out to one site by the tables is what goes out by the rules.
use Rattle.std.proofs.Common.{◌≡◌, ◌+◌, ◌-◌, ℕ, nat_le, List, [], ◌∷◌, ◌++◌, Option, Some, length, max, min, refl, ap, sym, ◌∙◌, arith, if◌then◌else◌}
use Rattle.std.specs.Prelude.{filter_map, flat_map, option_map}
use Rattle.walter_base.specs.declared.catalog.Catalog.{Catalog}
use Rattle.walter_base.specs.declared.message.Record.TheVariants.{Own}
use Rattle.walter_base.specs.declared.names.SiteId.{SiteId}
use Rattle.walter_base.specs.declared.packet.Packet.TheVariants.{Propagate, Ack, Dsmark, Visible}
use Rattle.walter_base.specs.declared.transaction.Conflict.{Conflict}
use Rattle.walter_base.specs.declared.transaction.Tx.{Tx}
use Rattle.walter_base.specs.Vectors.{entry_at}
use Rattle.walter_rules.specs.declared.held.Held.{Held}
use Rattle.walter_rules.specs.declared.held.TheConstants.{WINDOW}
use Rattle.walter_rules.specs.Deliveries.{acknowledged_to}
use Rattle.walter_rules.specs.Knowledge.{Knowledge, from_to}
use Rattle.walter_rules.specs.Learning.{recorded, risen}
use Rattle.walter_rules.specs.Log.{of_site, commit_at}
use Rattle.walter_rules.specs.Marks.{durable_mark}
use Rattle.walter_rules.specs.Records.{CanFollow}
use Rattle.walter_rules.specs.Sending.{where_site, if_some, if_risen, propagates, in_window, own_to, prepare_if_waits, release_if_owed, said_again}
use Rattle.walter_rules.specs.Slow.{Slow, Unused, Undecided, Dropped, Decided}
use Rattle.walter_slow.specs.Kept.{kept_of}
use Rattle.walter_slow.specs.Tables.{commit_of}
use Rattle.walter_spread.specs.Propagation.{own}
use Rattle.walter_tables.specs.Packets.{commits_of, numbers_in, own_packets, acknowledged_packets, prepare_kept, release_kept, prepares_kept, releases_kept, said_packets}
use Rattle.walter_tables.specs.Standing.{Values, StandFor}
use Rattle.walter_tables.proofs.PartsKept.{commit_last}
use Rattle.walter_tables.proofs.SoundKept.{one_itself}

-- of a slow commit its PREPARE goes out where it waits, and its RELEASE where it owes it
prepare_told : (catalog : Catalog) (K : Knowledge) (k : SiteId) (n : ℕ) (g : Slow) (refused : Option Conflict)
    (released : List SiteId)
    → prepare_kept catalog k n (kept_of g (K.said_yes n) refused released) ≡ prepare_if_waits catalog K k n g
prepare_told catalog K k n Unused refused released = refl
prepare_told catalog K k n (Undecided tx asked) refused released = refl
prepare_told catalog K k n (Dropped tx asked) refused released = refl
prepare_told catalog K k n (Decided tx) refused released = refl

release_told : (K : Knowledge) (k : SiteId) (n : ℕ) (g : Slow) (agreed : List SiteId) (refused : Option Conflict)
    → release_kept k n (kept_of g agreed refused (K.said_released n)) ≡ release_if_owed K k n g
release_told K k n Unused agreed refused = refl
release_told K k n (Undecided tx asked) agreed refused = refl
release_told K k n (Dropped tx asked) agreed refused = refl
release_told K k n (Decided tx) agreed refused = refl

module _ (V : Values) (K : Knowledge) (S : StandFor V K) (here : V.spread.site ≡ V.site)
    (window : V.spread.window ≡ WINDOW) where
  own_told : own V.spread ≡ K.committed V.site
  own_told = ap (entry_at V.spread.committed) here ∙ S.spread.seen V.site

  commits_told : (numbers : List ℕ) → commits_of V numbers ≡ propagates V.site K numbers
  commits_told numbers = λ t. filter_map (λ seq. option_map (λ tx. Propagate seq tx) (commit_at V.site seq (S.log t))) numbers

  window_told : (k : SiteId) → numbers_in V k ≡ in_window V.site K k
  window_told k = λ t. from_to (S.durable.acknowledged k t + 1) (min (own_told t) (S.durable.acknowledged k t + window t))

  -- an own commit that is to be kept is sent as it is kept
  pub own_packets_told : (seq : ℕ) (tx : Tx) (before now : ℕ) → CanFollow V.catalog V.site K (Own seq tx)
      → before ≡ durable_mark V.catalog V.site K
      → now ≡ durable_mark V.catalog V.site (recorded V.catalog V.site (Some (Own seq tx)) K)
      → own_packets V seq tx before now
      ≡ own_to V.catalog V.site K (recorded V.catalog V.site (Some (Own seq tx)) K)
  own_packets_told seq tx before now f was is =
      let K2 = recorded V.catalog V.site (Some (Own seq tx)) K in
      let h : Held = record { seq = seq; tx = tx } in
      let count : own V.spread + 1 ≡ K2.committed V.site =
      ap (λ (n : ℕ). n + 1) own_told ∙ sym (one_itself V.site K.committed) in
      let number : seq ≡ K2.committed V.site = f.next ∙ sym (one_itself V.site K.committed) in
      let last : seq - 1 ≡ length (of_site V.site K.log) = omega (arith, f.next, S.sound.counted) in
      let sent : Propagate seq tx ∷ [] ≡ propagates V.site K2 (seq ∷ []) =
      ap (λ (o : Option Tx). filter_map (λ (n : ℕ). option_map (λ x. Propagate seq x) o) (seq ∷ []))
      (sym (commit_last V.site seq K.log h f.here last)) in
      let packet : Propagate seq tx ∷ [] ≡ propagates V.site K2 (K2.committed V.site ∷ []) =
      sent ∙ ap (λ (n : ℕ). propagates V.site K2 (n ∷ [])) number in
      λ t k. (if nat_le (count t) (S.durable.acknowledged k t + window t) then packet t else []) ++ if_risen (was t) (is t)

  pub acknowledged_packets_told : (from : SiteId) (got before_ack now_ack before now : ℕ)
      → before_ack ≡ K.acknowledged from → now_ack ≡ risen from got K.acknowledged from
      → before ≡ durable_mark V.catalog V.site K
      → now ≡ durable_mark V.catalog V.site (record K { acknowledged = risen from got K.acknowledged })
      → acknowledged_packets V from before_ack now_ack before now
      ≡ acknowledged_to V.catalog V.site K (record K { acknowledged = risen from got K.acknowledged }) from
  acknowledged_packets_told from got before_ack now_ack before now had has was is =
      λ t k. where_site from (commits_told (from_to (max (has t) (had t + window t) + 1) (min (own_told t) (has t + window t))) t) k
      ++ if_risen (was t) (is t)

  prepares_told : (k : SiteId)
      → prepares_kept V k ≡ flat_map (λ n. prepare_if_waits V.catalog K k n (K.slow n)) (from_to 1 K.last)
  prepares_told k =
      let same : (n : ℕ) → prepare_kept V.catalog k n (commit_of V.slow n) ≡ prepare_if_waits V.catalog K k n (K.slow n) =
      λ n. ap (prepare_kept V.catalog k n) (S.slow.kept n)
      ∙ prepare_told V.catalog K k n (K.slow n) (K.said_no n) (K.said_released n) in
      λ t. flat_map (λ n. same n t) (from_to 1 (S.slow.last t))

  releases_told : (k : SiteId)
      → releases_kept V k ≡ flat_map (λ n. release_if_owed K k n (K.slow n)) (from_to 1 K.last)
  releases_told k =
      let same : (n : ℕ) → release_kept k n (commit_of V.slow n) ≡ release_if_owed K k n (K.slow n) =
      λ n. ap (release_kept k n) (S.slow.kept n)
      ∙ release_told K k n (K.slow n) (K.said_yes n) (K.said_no n) in
      λ t. flat_map (λ n. same n t) (from_to 1 (S.slow.last t))

  pub said_packets_told : (durable : ℕ) → durable ≡ durable_mark V.catalog V.site K
      → said_packets V durable ≡ said_again V.catalog V.site K
  said_packets_told durable is =
      λ t k. commits_told (window_told k t) t
      ++ (if_some (S.spread.received k t) (Ack (S.spread.received k t))
      ++ (if_some (is t) (Dsmark (is t))
      ++ (if_some (S.spread.seen k t) (Visible (S.spread.seen k t))
      ++ (prepares_told k t ++ releases_told k t))))
