-- What the rule says is put out can be sent.
use Rattle.std.proofs.Common.{◌≡◌, ◌≢◌, ◌+◌, ◌-◌, ◌≤◌, ℕ, zero, suc, nat_le, nat_lt, Bool, true, false, not, ◌&&◌, Option, Some, None, List, [], ◌∷◌, map, refl, sym, ◌∙◌, subst, inl, if◌then◌else◌}
use Rattle.std.specs.Prelude.{All, Contains, flat_map, option_map, slice_get}
use Rattle.std.specs.List.{list_all}
use Rattle.std.proofs.lemmas.Bool.{and_parts}
use Rattle.std.proofs.lemmas.List.Elements.{All-nil, All-cons, All-append, All-contains, All-filter, All-map, All-push}
use Rattle.walter_base.specs.declared.catalog.Catalog.{Catalog}
use Rattle.walter_base.specs.declared.message.Record.TheVariants.{Own}
use Rattle.walter_base.specs.declared.names.ObjId.{ObjId}
use Rattle.walter_base.specs.declared.names.SiteId.{SiteId}
use Rattle.walter_base.specs.declared.names.Tid.{Tid}
use Rattle.walter_base.specs.declared.packet.Answer.{Answer}
use Rattle.walter_base.specs.declared.packet.Answer.TheVariants.{Yes, No, Later}
use Rattle.walter_base.specs.declared.packet.Packet.{Packet}
use Rattle.walter_base.specs.declared.packet.Packet.TheVariants.{Propagate, Ack, Dsmark, Visible, Prepare, Vote, Release, Released}
use Rattle.walter_base.specs.declared.transaction.Conflict.{Conflict}
use Rattle.walter_base.specs.declared.transaction.Conflict.TheVariants.{Modified, Locked as LockedThere, Dead}
use Rattle.walter_base.specs.declared.transaction.Tx.{Tx}
use Rattle.walter_base.specs.declared.update.Update.{Update}
use Rattle.walter_base.specs.Names.{same_site}
use Rattle.walter_base.specs.Values.{write_set}
use Rattle.walter_base.specs.Vectors.{most_sites}
use Rattle.walter_psi.proofs.Lists.{contains_at}
use Rattle.walter_rules.specs.declared.held.Held.{Held}
use Rattle.walter_rules.specs.Calls.{if_local, decides, commits_open, tells_version, tells_cause, tells_decision, commits_by, commits_for, seq_of, next_seq, next_slow}
use Rattle.walter_rules.specs.Conflicts.{first_conflict}
use Rattle.walter_rules.specs.Declarations.{are_lockable}
use Rattle.walter_rules.specs.Deliveries.{back, is_peer, accepts, if_accepted, is_news, acknowledged_to, if_acknowledged, if_shown, if_greater, answer_over, prepares, prepares_by, if_lockable, commits_if_all, if_missing, releases_to, votes, if_asked, votes_by, releases, confirms, packet_rule, if_peer, deliver_rule, is_enabled, advances, advance_rule}
use Rattle.walter_rules.specs.Knowledge.{Knowledge, preferred, peers, from_to}
use Rattle.walter_rules.specs.Learning.{recorded, risen}
use Rattle.walter_rules.specs.Log.{of_site, is_of, commit_at}
use Rattle.walter_rules.specs.Marks.{durable_mark}
use Rattle.walter_rules.specs.Objects.{objects_at, are_local, participants}
use Rattle.walter_rules.specs.Sending.{Send, to_each, propagates, in_window, into_window, if_risen, if_some, own_to, own_sends, prepare_of, prepare_if_waits, release_if_owed, said_again, window}
use Rattle.walter_rules.specs.Sessions.{Session, with_slow, tx_of}
use Rattle.walter_rules.specs.Slow.{Slow, Unused, Undecided, Dropped, Decided, has_site, Part, Free, Locked, Over}
use Rattle.walter_rules.proofs.Membership.{given_from, first_in, later_in}
use Rattle.walter_rules.proofs.RuleTests.{has_site_true}
use Rattle.walter_alone.proofs.Learned.{participants_asked}
use Rattle.walter_alone.proofs.TestsPass.{all_of}
use Rattle.walter_tables.specs.Open.{IsOpenAt}
use Rattle.walter_tables.specs.Sound.{IsTxOf, HoldsTx, IsSound}
use Rattle.walter_site.specs.Members.{IsSizedPacket}
use Rattle.walter_site.proofs.RisingObjects.{objects_listed}
use Rattle.walter_site.proofs.RuledKinds.{session_tx}

-- a commit that is held can be sent
commit_held : (catalog : Catalog) (i : SiteId) (q : ℕ) (log : List Held) (tx : Tx) → All (HoldsTx catalog) log
    → commit_at i q log ≡ Some tx → IsTxOf catalog tx
commit_held catalog i q log tx held is = by (slice_get (of_site i log) (q - 1)) refl is
  where
    by : (o : Option Held) → slice_get (of_site i log) (q - 1) ≡ o → option_map (λ (h : Held). h.tx) o ≡ Some tx
        → IsTxOf catalog tx
    by None at same = absurd cc
    by (Some h) at same =
        let one : h.tx ≡ tx = cc in
        subst (IsTxOf catalog) one
        (All-contains (HoldsTx catalog) (of_site i log) h (All-filter (is_of i) (HoldsTx catalog) log held)
        (contains_at (of_site i log) h (q - 1) at))

-- a packet that is put out is sized
abbrev pub IsSizedSend : ℕ → Send → Type 0
IsSizedSend sites s = IsSizedPacket sites s.1

module _ (catalog : Catalog) (i : SiteId) where
  abbrev IsSized : Packet → Type 0
  IsSized packet = IsSizedPacket catalog.sites packet

  abbrev AreSized : List Packet → Type 0
  AreSized packets = All IsSized packets

  abbrev pub AreAllSized : List Send → Type 0
  AreAllSized sends = All (IsSizedSend catalog.sites) sends

  none_sized : AreAllSized []
  none_sized = All-nil (IsSizedSend catalog.sites)

  one_sized : (packet : Packet) → IsSized packet → AreSized (packet ∷ [])
  one_sized packet is = All-cons IsSized packet [] is (All-nil IsSized)

  back_sized : (j : SiteId) (packet : Packet) → IsSized packet → AreAllSized (back j packet)
  back_sized j packet is = All-cons (IsSizedSend catalog.sites) (j, packet) [] is none_sized

  each_sized : (receivers : List SiteId) (packets : SiteId → List Packet)
      → ((k : SiteId) → Contains receivers k → AreSized (packets k)) → AreAllSized (to_each receivers packets)
  each_sized [] packets each = none_sized
  each_sized (k ∷ ks) packets each =
      All-append (IsSizedSend catalog.sites) (map (λ (packet : Packet). (k, packet)) (packets k)) (to_each ks packets)
      (All-map (IsSizedSend catalog.sites) (λ (packet : Packet). (k, packet)) (packets k) (each k (first_in k ks)))
      (each_sized ks packets (λ j within. each j (later_in k ks j within)))

  commits_sized : (K : Knowledge) → All (HoldsTx catalog) K.log → (numbers : List ℕ)
      → AreSized (propagates i K numbers)
  commits_sized K held numbers =
      all_of IsSized (propagates i K numbers) (λ packet within.
      let given = given_from (λ seq. option_map (λ tx. Propagate seq tx) (commit_at i seq K.log)) numbers packet
      within in
      by given.0 packet (commit_at i given.0 K.log) refl given.2)
    where
      by : (seq : ℕ) (packet : Packet) (o : Option Tx) → commit_at i seq K.log ≡ o
          → option_map (λ tx. Propagate seq tx) o ≡ Some packet → IsSized packet
      by seq packet None at same = absurd cc
      by seq packet (Some tx) at same =
          let one : Propagate seq tx ≡ packet = cc in
          let is = commit_held catalog i seq K.log tx held at in
          subst IsSized one (record { sizes = is.spelled; among = is.sites })

  if_sized : (b : Bool) (packets : List Packet) → (b ≡ true → AreSized packets)
      → AreSized (if b then packets else [])
  if_sized true packets are = are refl
  if_sized false packets are = All-nil IsSized

  risen_sized : (before now : ℕ) → AreSized (if_risen before now)
  risen_sized before now = if_sized (nat_lt before now) (Dsmark now ∷ [])
      (λ rose. one_sized (Dsmark now) (record { sizes = tt; among = tt }))

  some_sized : (number : ℕ) (packet : Packet) → IsSized packet → AreSized (if_some number packet)
  some_sized number packet is = if_sized (nat_lt 0 number) (packet ∷ []) (λ some. one_sized packet is)

  -- what an own commit puts out
  own_sized : (before K : Knowledge) → All (HoldsTx catalog) K.log → AreAllSized (own_sends catalog i before K)
  own_sized before K held = each_sized (peers catalog i) (own_to catalog i before K) (λ k within.
      All-append IsSized _ (if_risen (durable_mark catalog i before) (durable_mark catalog i K))
      (if_sized (nat_le (K.committed i) (K.acknowledged k + window)) (propagates i K (K.committed i ∷ []))
      (λ near. commits_sized K held (K.committed i ∷ [])))
      (risen_sized (durable_mark catalog i before) (durable_mark catalog i K)))

  -- and one that is recorded
  recorded_sized : (K : Knowledge) (seq : ℕ) (tx : Tx) → All (HoldsTx catalog) K.log → IsTxOf catalog tx
      → AreAllSized (own_sends catalog i K (recorded catalog i (Some (Own seq tx)) K))
  recorded_sized K seq tx held is = own_sized K (recorded catalog i (Some (Own seq tx)) K)
      (All-push (HoldsTx catalog) K.log (record { seq = seq; tx = tx }) held is)

  -- what an ACK puts out
  acknowledged_sized : (before K : Knowledge) (j : SiteId) → All (HoldsTx catalog) K.log
      → AreAllSized (to_each (peers catalog i) (acknowledged_to catalog i before K j))
  acknowledged_sized before K j held = each_sized (peers catalog i) (acknowledged_to catalog i before K j) (λ k within.
      let numbers = into_window i K (before.acknowledged j) (K.acknowledged j) in
      All-append IsSized _ (if_risen (durable_mark catalog i before) (durable_mark catalog i K))
      (if_sized (same_site j k) (propagates i K numbers) (λ same. commits_sized K held numbers))
      (risen_sized (durable_mark catalog i before) (durable_mark catalog i K)))

  releases_sized : (n : ℕ) (asked : List SiteId) → AreAllSized (to_each (peers catalog i) (releases_to n asked))
  releases_sized n asked = each_sized (peers catalog i) (releases_to n asked) (λ k within.
      if_sized (has_site k asked) (Release n ∷ []) (λ is. one_sized (Release n) (record { sizes = tt; among = tt })))

module _ (catalog : Catalog) (i : SiteId) (K : Knowledge) where
  -- a PREPARE to a site at which the transaction writes
  prepare_sized : (n : ℕ) (tx : Tx) (k : SiteId) (oid : ObjId) → IsTxOf catalog tx → Contains (write_set tx.updates) oid
      → preferred catalog K oid ≡ k → IsSizedPacket catalog.sites (prepare_of catalog K n tx k)
  prepare_sized n tx k oid is within home_is = record {
    sizes = (is.spelled.sites, objects_listed catalog K k tx.updates oid is.spelled.updates.few within home_is);
    among = is.sites;
  }

  -- those of a slow commit that begins
  begun_sized : (n : ℕ) (tx : Tx) → IsTxOf catalog tx → AreAllSized catalog i
      (to_each (participants catalog K i tx.updates) (λ k. prepare_of catalog K n tx k ∷ []))
  begun_sized n tx is =
      each_sized catalog i (participants catalog K i tx.updates) (λ k. prepare_of catalog K n tx k ∷ []) (λ k within.
      let there = (participants_asked catalog i K tx).there k within in
      let object = there.2 in
      one_sized catalog i (prepare_of catalog K n tx k) (prepare_sized n tx k object.0 is object.1 object.2))

module _ (catalog : Catalog) (i : SiteId) (K : Knowledge) (S : IsSound catalog i K) where
  waits_sized : (k : SiteId) (n : ℕ) (g : Slow) → K.slow n ≡ g
      → AreSized catalog i (prepare_if_waits catalog K k n g)
  waits_sized k n Unused is = All-nil (IsSized catalog i)
  waits_sized k n (Dropped tx asked) is = All-nil (IsSized catalog i)
  waits_sized k n (Decided tx) is = All-nil (IsSized catalog i)
  waits_sized k n (Undecided tx asked) is =
      if_sized catalog i (has_site k asked && not (has_site k (K.said_yes n))) (prepare_of catalog K n tx k ∷ [])
      (λ waits.
      let parts = and_parts (has_site k asked) (not (has_site k (K.said_yes n))) waits in
      let there = (S.learned.asked n tx asked (inl is)).there k (has_site_true k asked parts.0) in
      let object = there.2 in
      one_sized catalog i (prepare_of catalog K n tx k)
      (prepare_sized catalog i K n tx k object.0 (S.asking n tx asked is).is object.1 object.2))

  owed_sized : (k : SiteId) (n : ℕ) (g : Slow) → AreSized catalog i (release_if_owed K k n g)
  owed_sized k n Unused = All-nil (IsSized catalog i)
  owed_sized k n (Undecided tx asked) = All-nil (IsSized catalog i)
  owed_sized k n (Decided tx) = All-nil (IsSized catalog i)
  owed_sized k n (Dropped tx asked) =
      if_sized catalog i (has_site k asked && not (has_site k (K.said_released n))) (Release n ∷ [])
      (λ is. one_sized catalog i (Release n) (record { sizes = tt; among = tt }))

  all_made : (f : ℕ → List Packet) (numbers : List ℕ) → ((n : ℕ) → AreSized catalog i (f n))
      → AreSized catalog i (flat_map f numbers)
  all_made f [] each = All-nil (IsSized catalog i)
  all_made f (n ∷ ns) each = All-append (IsSized catalog i) (f n) (flat_map f ns) (each n) (all_made f ns each)

  -- what is said again at a tick
  pub again_sized : AreAllSized catalog i (to_each (peers catalog i) (said_again catalog i K))
  again_sized = each_sized catalog i (peers catalog i) (said_again catalog i K) (λ k within.
      let P = IsSized catalog i in
      All-append P _ _ (commits_sized catalog i K S.held (in_window i K k))
      (All-append P _ _ (some_sized catalog i (K.got k) (Ack (K.got k)) (record { sizes = tt; among = tt }))
      (All-append P _ _ (some_sized catalog i (durable_mark catalog i K) (Dsmark (durable_mark catalog i K))
      (record { sizes = tt; among = tt }))
      (All-append P _ _ (some_sized catalog i (K.committed k) (Visible (K.committed k))
      (record { sizes = tt; among = tt }))
      (All-append P _ _
      (all_made (λ n. prepare_if_waits catalog K k n (K.slow n)) (from_to 1 K.last)
      (λ n. waits_sized k n (K.slow n) refl))
      (all_made (λ n. release_if_owed K k n (K.slow n)) (from_to 1 K.last) (λ n. owed_sized k n (K.slow n))))))))

  -- a Commit
  module _ (most : catalog.sites ≤ most_sites) (s : Session) (is : IsOpenAt catalog i s) where
    local_sized : s.updates ≢ [] → (test : Bool) → AreAllSized catalog i (if_local test catalog i K s).sends
    local_sized some true =
        recorded_sized catalog i K (next_seq i K) (tx_of s) S.held (session_tx catalog i s s.slow most is some)
    local_sized some false =
        begun_sized catalog i K (next_slow K) (tx_of (with_slow (next_slow K) s))
        (session_tx catalog i s (next_slow K) most is some)

    decides_sized : s.updates ≢ [] → (conflict : Option Conflict)
        → AreAllSized catalog i (decides catalog i K s conflict).sends
    decides_sized some (Some conflict) = none_sized catalog i
    decides_sized some None = local_sized some (are_local catalog K i s.updates)

    open_sized : (updates : List Update) → s.updates ≡ updates
        → AreAllSized catalog i (commits_open catalog i K s updates).sends
    open_sized [] same = none_sized catalog i
    open_sized (u ∷ us) same = decides_sized (λ none. absurd (let e = sym same ∙ none in cc))
        (first_conflict K s.snapshot (objects_at catalog K i s.updates))

    cause_sized : (conflict : Option Conflict) → AreAllSized catalog i (tells_cause conflict).sends
    cause_sized None = none_sized catalog i
    cause_sized (Some conflict) = none_sized catalog i

    version_sized : (seq : Option ℕ) → AreAllSized catalog i (tells_version i seq).sends
    version_sized None = none_sized catalog i
    version_sized (Some seq) = none_sized catalog i

    decision_sized : (g : Slow) → AreAllSized catalog i (tells_decision i K s g).sends
    decision_sized Unused = none_sized catalog i
    decision_sized (Undecided tx asked) = none_sized catalog i
    decision_sized (Dropped tx asked) = cause_sized (K.said_no s.slow)
    decision_sized (Decided tx) = version_sized (seq_of i K s.tid)

    by_sized : (n : ℕ) → AreAllSized catalog i (commits_by catalog i K s n).sends
    by_sized zero = open_sized s.updates refl
    by_sized (suc n) = decision_sized (K.slow (suc n))

  pub commit_sized : catalog.sites ≤ most_sites → (session : Option Session)
      → ((s : Session) → session ≡ Some s → IsOpenAt catalog i s)
      → AreAllSized catalog i (commits_for catalog i K session).sends
  commit_sized most None is = none_sized catalog i
  commit_sized most (Some s) is = by_sized most s (is s refl) s.slow

  -- a packet of another site
  module _ (j : SiteId) where
    accepted_sized : (seq : ℕ) (tx : Tx) (test : Bool) → AreAllSized catalog i (if_accepted test K j seq tx).sends
    accepted_sized seq tx true = back_sized catalog i j (Ack seq) (record { sizes = tt; among = tt })
    accepted_sized seq tx false = elim (nat_le seq (K.got j))
        as (λ b. AreAllSized catalog i (if b then back j (Ack (K.got j)) else [])) [
          | true ↦ back_sized catalog i j (Ack (K.got j)) (record { sizes = tt; among = tt })
          | false ↦ none_sized catalog i
        ]

    news_sized : (got : ℕ) (test : Bool) → AreAllSized catalog i (if_acknowledged test catalog i K j got).sends
    news_sized got true =
        acknowledged_sized catalog i K (record K { acknowledged = risen j got K.acknowledged }) j S.held
    news_sized got false = none_sized catalog i

    greater_sized : (test : Bool) → AreAllSized catalog i (if_greater test).sends
    greater_sized true = none_sized catalog i
    greater_sized false = none_sized catalog i

    shown_sized : (committed : ℕ) (test : Bool) → AreAllSized catalog i (if_shown test catalog i K j committed).sends
    shown_sized committed true = none_sized catalog i
    shown_sized committed false = none_sized catalog i

    prepares_sized : (n : ℕ) (tid : Tid) (start : List ℕ) (objects : List ObjId) (conflict : Option Conflict)
        → AreAllSized catalog i (prepares K j n tid start objects conflict).sends
    prepares_sized n tid start objects None = back_sized catalog i j (Vote n Yes) (record { sizes = tt; among = tt })
    prepares_sized n tid start objects (Some conflict) =
        back_sized catalog i j (Vote n (answer_over K start conflict)) (record { sizes = tt; among = tt })

    part_sized : (n : ℕ) (tid : Tid) (start : List ℕ) (objects : List ObjId) (part : Part)
        → AreAllSized catalog i (prepares_by K j n tid start objects part).sends
    part_sized n tid start objects Over = back_sized catalog i j (Vote n (No Dead)) (record { sizes = tt; among = tt })
    part_sized n tid start objects (Locked owner locked) =
        back_sized catalog i j (Vote n Yes) (record { sizes = tt; among = tt })
    part_sized n tid start objects Free = prepares_sized n tid start objects (first_conflict K start objects)

    lockable_sized : (n : ℕ) (tid : Tid) (start : List ℕ) (objects : List ObjId) (test : Bool)
        → AreAllSized catalog i (if_lockable test K j n tid start objects).sends
    lockable_sized n tid start objects true = part_sized n tid start objects (K.part j n)
    lockable_sized n tid start objects false = none_sized catalog i

    module _ (n : ℕ) (tx : Tx) (asked : List SiteId) (is : IsTxOf catalog tx) where
      all_sized : (all : Bool) → AreAllSized catalog i (commits_if_all catalog i K tx all).sends
      all_sized true = recorded_sized catalog i K (next_seq i K) tx S.held is
      all_sized false = none_sized catalog i

      missing_sized : (test : Bool) → AreAllSized catalog i (if_missing test catalog i K j n tx asked).sends
      missing_sized true = all_sized (list_all (λ k. has_site k (j ∷ K.said_yes n)) asked)
      missing_sized false = none_sized catalog i

      vote_sized : (answer : Answer) → AreAllSized catalog i (votes catalog i K j n tx asked answer).sends
      vote_sized Yes = missing_sized (not (has_site j (K.said_yes n)))
      vote_sized (No (Modified oid version)) = releases_sized catalog i n asked
      vote_sized (No (LockedThere oid owner)) = releases_sized catalog i n asked
      vote_sized (No Dead) = none_sized catalog i
      vote_sized Later = none_sized catalog i

      asked_sized : (answer : Answer) (test : Bool)
          → AreAllSized catalog i (if_asked test catalog i K j n tx asked answer).sends
      asked_sized answer true = vote_sized answer
      asked_sized answer false = none_sized catalog i

    votes_sized : (n : ℕ) (answer : Answer) (g : Slow) → K.slow n ≡ g
        → AreAllSized catalog i (votes_by catalog i K j n answer g).sends
    votes_sized n answer (Undecided tx asked) is =
        asked_sized n tx asked (S.asking n tx asked is).is answer (has_site j asked)
    votes_sized n answer Unused is = none_sized catalog i
    votes_sized n answer (Dropped tx asked) is = none_sized catalog i
    votes_sized n answer (Decided tx) is = none_sized catalog i

    released_sized : (n : ℕ) (part : Part) → AreAllSized catalog i (releases j n part).sends
    released_sized n Over = back_sized catalog i j (Released n) (record { sizes = tt; among = tt })
    released_sized n Free = back_sized catalog i j (Released n) (record { sizes = tt; among = tt })
    released_sized n (Locked tid objects) = back_sized catalog i j (Released n) (record { sizes = tt; among = tt })

    confirms_sized : (n : ℕ) (g : Slow) → AreAllSized catalog i (confirms K j n g).sends
    confirms_sized n (Dropped tx asked) = greater_sized (has_site j asked && not (has_site j (K.said_released n)))
    confirms_sized n Unused = none_sized catalog i
    confirms_sized n (Undecided tx asked) = none_sized catalog i
    confirms_sized n (Decided tx) = none_sized catalog i

    packet_sized : (packet : Packet) → AreAllSized catalog i (packet_rule catalog i K j packet).sends
    packet_sized (Propagate seq tx) = accepted_sized seq tx (accepts catalog K j seq tx)
    packet_sized (Ack got) = news_sized got (is_news i K (K.acknowledged j) got)
    packet_sized (Dsmark durable) = greater_sized (nat_lt (K.durable j) durable)
    packet_sized (Visible committed) = shown_sized committed (is_news i K (K.visible j) committed)
    packet_sized (Prepare n tid start objects) = lockable_sized n tid start objects (are_lockable catalog K i objects)
    packet_sized (Vote n answer) = votes_sized n answer (K.slow n) refl
    packet_sized (Release n) = released_sized n (K.part j n)
    packet_sized (Released n) = confirms_sized n (K.slow n)

    pub deliver_sized : (packet : Packet) → AreAllSized catalog i (deliver_rule catalog i K j packet).sends
    deliver_sized packet = by (is_peer catalog i j)
      where
        by : (test : Bool) → AreAllSized catalog i (if_peer test (packet_rule catalog i K j packet)).sends
        by true = packet_sized packet
        by false = none_sized catalog i

    pub advance_sized : AreAllSized catalog i (advance_rule catalog i K j).sends
    advance_sized = by (is_peer catalog i j && is_enabled K j)
      where
        by : (test : Bool) → AreAllSized catalog i (advances K j test).sends
        by true = back_sized catalog i j (Visible (K.committed j + 1)) (record { sizes = tt; among = tt })
        by false = none_sized catalog i
