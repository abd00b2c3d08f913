-- What the rule says of a packet that comes: what is taken of it is news behind its record, and of a peer of the
-- catalog.
use Rattle.std.proofs.Common.{◌≡◌, ◌≤◌, ◌<◌, ℕ, nat_eq, nat_le, nat_lt, Bool, true, false, not, ◌&&◌, List, ◌∷◌, if◌then◌else◌, refl, ap, ◌∙◌, inl, inr}
use Rattle.std.specs.List.{list_all}
use Rattle.std.proofs.lemmas.Bool.{and_parts, leb-true, eq-eqb}
use Rattle.walter_base.specs.declared.catalog.Catalog.{Catalog}
use Rattle.walter_base.specs.declared.names.SiteId.{SiteId}
use Rattle.walter_base.specs.declared.packet.Answer.{Answer}
use Rattle.walter_base.specs.declared.packet.Answer.TheVariants.{Yes, No, Later}
use Rattle.walter_base.specs.declared.packet.Packet.{Packet}
use Rattle.walter_base.specs.declared.packet.Packet.TheVariants.{Propagate, Ack, Dsmark, Visible, Prepare, Vote, Release, Released}
use Rattle.walter_base.specs.declared.transaction.Conflict.TheVariants.{Modified, Locked, Dead}
use Rattle.walter_base.specs.declared.transaction.Tx.{Tx}
use Rattle.walter_rules.specs.declared.event.Input.TheVariants.{Deliver}
use Rattle.walter_rules.specs.declared.outcome.Outcome.{Outcome}
use Rattle.walter_rules.specs.declared.outcome.Outcome.TheVariants.{Taken}
use Rattle.walter_rules.specs.Calls.{Expected}
use Rattle.walter_rules.specs.Deliveries.{is_peer, if_peer, packet_rule, deliver_rule, if_marks, is_news, if_acknowledged, if_shown, if_missing, commits_if_all, if_asked, votes_by, if_greater, confirms}
use Rattle.walter_rules.specs.Knowledge.{Knowledge}
use Rattle.walter_rules.specs.Learning.{recorded, committed_after, risen}
use Rattle.walter_rules.specs.Marks.{durable_mark, visible_mark}
use Rattle.walter_rules.specs.Slow.{Slow, Unused, Undecided, Dropped, Decided, ended, decided, has_site}
use Rattle.walter_rules.proofs.RuleTests.{peer_true}
use Rattle.walter_tables.specs.Hearing.{IsNewsOf}
use Rattle.walter_tables.specs.Sound.{IsSound}
use Rattle.walter_site.specs.Plans.{IsNewsIn, IsFromWithin}

-- what is expected is news, where it is taken
abbrev pub BringsNews : Catalog → SiteId → Knowledge → SiteId → ℕ → Packet → Expected → Type 0
BringsNews catalog i K j number packet x =
    IsNewsIn i (recorded catalog i x.wrote K) (Deliver j number packet) x.outcome

-- what is news in any case is so where it is taken
plainly : (i : SiteId) (K : Knowledge) (j : SiteId) (number : ℕ) (packet : Packet) → IsNewsOf i K j packet
    → (outcome : Outcome) → IsNewsIn i K (Deliver j number packet) outcome
plainly i K j number packet is Taken = is
plainly i K j number packet is outcome = tt

-- an own commit of a slow one that is being decided decides it, and an end ends it
decided_there : (n m : ℕ) (g : Slow) (tx : Tx) (asked : List SiteId) → g ≡ Undecided tx asked → m ≡ n
    → (if nat_eq m n then decided g else g) ≡ Decided tx
decided_there n m g tx asked is same =
    ap (λ b. if b then decided g else g) (eq-eqb m n same) ∙ ap decided is

ended_there : (n : ℕ) (g : Slow) (tx : Tx) (asked : List SiteId) → g ≡ Undecided tx asked
    → (if nat_eq n n then ended g else g) ≡ Dropped tx asked
ended_there n g tx asked is = ap (λ b. if b then ended g else g) (eq-eqb n n refl) ∙ ap ended is

-- a mark that is recorded leaves the own commits as they are
marked : (i : SiteId) (committed : SiteId → ℕ) (number durable visible : ℕ) (rose : Bool) → number ≤ committed i
    → number ≤ committed_after i (if_marks rose durable visible) committed i
marked i committed number durable visible true few = few
marked i committed number durable visible false few = few

module _ (catalog : Catalog) (i : SiteId) (K : Knowledge) (S : IsSound catalog i K) (j : SiteId) (number : ℕ) where
  acknowledged_news : (got : ℕ) (test : Bool) → is_news i K (K.acknowledged j) got ≡ test
      → BringsNews catalog i K j number (Ack got) (if_acknowledged test catalog i K j got)
  acknowledged_news got true is =
      let parts = and_parts (nat_le got (K.committed i)) (nat_lt (K.acknowledged j) got) is in
      let L : Knowledge = record K { acknowledged = risen j got K.acknowledged } in
      marked i K.committed got (durable_mark catalog i L) (visible_mark catalog i L)
      (nat_lt (durable_mark catalog i K) (durable_mark catalog i L)) (leb-true got (K.committed i) parts.0)
  acknowledged_news got false is = tt

  shown_news : (committed : ℕ) (test : Bool) → is_news i K (K.visible j) committed ≡ test
      → BringsNews catalog i K j number (Visible committed) (if_shown test catalog i K j committed)
  shown_news committed true is =
      let parts = and_parts (nat_le committed (K.committed i)) (nat_lt (K.visible j) committed) is in
      let L : Knowledge = record K { visible = risen j committed K.visible } in
      marked i K.committed committed (durable_mark catalog i L) (visible_mark catalog i L)
      (nat_lt (visible_mark catalog i K) (visible_mark catalog i L)) (leb-true committed (K.committed i) parts.0)
  shown_news committed false is = tt

  -- a vote of a slow commit that is being decided, and has asked the site
  module _ (n : ℕ) (tx : Tx) (asked : List SiteId) (undecided : K.slow n ≡ Undecided tx asked) where
    all_news : (all : Bool) → (has_site j asked && not (has_site j (K.said_yes n))) ≡ true
        → BringsNews catalog i K j number (Vote n Yes) (commits_if_all catalog i K tx all)
    all_news true missing =
        inr (tx, decided_there n tx.slow (K.slow n) tx asked undecided (S.asking n tx asked undecided).named)
    all_news false missing = inl (tx, asked, undecided, missing)

    missing_news : (test : Bool) → (has_site j asked && test) ≡ true → not (has_site j (K.said_yes n)) ≡ test
        → BringsNews catalog i K j number (Vote n Yes) (if_missing test catalog i K j n tx asked)
    missing_news true there is = all_news (list_all (λ k. has_site k (j ∷ K.said_yes n)) asked)
        (ap (λ b. has_site j asked && b) is ∙ there)
    missing_news false there is = tt

    asked_news : (answer : Answer) (test : Bool) → has_site j asked ≡ test
        → BringsNews catalog i K j number (Vote n answer) (if_asked test catalog i K j n tx asked answer)
    asked_news answer false is = tt
    asked_news Yes true is = by (not (has_site j (K.said_yes n))) refl
      where
        by : (test : Bool) → not (has_site j (K.said_yes n)) ≡ test
            → BringsNews catalog i K j number (Vote n Yes) (if_missing test catalog i K j n tx asked)
        by true is_missing = missing_news true (ap (λ b. b && true) is) is_missing
        by false is_missing = tt
    asked_news (No (Modified oid version)) true is = (tx, asked, ended_there n (K.slow n) tx asked undecided)
    asked_news (No (Locked oid owner)) true is = (tx, asked, ended_there n (K.slow n) tx asked undecided)
    asked_news (No Dead) true is = tt
    asked_news Later true is = tt

  votes_news : (n : ℕ) (answer : Answer) (g : Slow) → K.slow n ≡ g
      → BringsNews catalog i K j number (Vote n answer) (votes_by catalog i K j n answer g)
  votes_news n answer (Undecided tx asked) is = asked_news n tx asked is answer (has_site j asked) refl
  votes_news n answer Unused is = tt
  votes_news n answer (Dropped tx asked) is = tt
  votes_news n answer (Decided tx) is = tt

  confirmed_news : (n : ℕ) (tx : Tx) (asked : List SiteId) → K.slow n ≡ Dropped tx asked → (test : Bool)
      → (has_site j asked && not (has_site j (K.said_released n))) ≡ test
      → BringsNews catalog i K j number (Released n) (if_greater test)
  confirmed_news n tx asked dropped true is = (tx, asked, dropped, is)
  confirmed_news n tx asked dropped false is = tt

  confirms_news : (n : ℕ) (g : Slow) → K.slow n ≡ g
      → BringsNews catalog i K j number (Released n) (confirms K j n g)
  confirms_news n (Dropped tx asked) is =
      confirmed_news n tx asked is (has_site j asked && not (has_site j (K.said_released n))) refl
  confirms_news n Unused is = tt
  confirms_news n (Undecided tx asked) is = tt
  confirms_news n (Decided tx) is = tt

  packet_news : (packet : Packet) → BringsNews catalog i K j number packet (packet_rule catalog i K j packet)
  packet_news (Propagate seq tx) = let x = packet_rule catalog i K j (Propagate seq tx) in
      plainly i (recorded catalog i x.wrote K) j number (Propagate seq tx) tt x.outcome
  packet_news (Ack got) = acknowledged_news got (is_news i K (K.acknowledged j) got) refl
  packet_news (Dsmark durable) = let x = packet_rule catalog i K j (Dsmark durable) in
      plainly i (recorded catalog i x.wrote K) j number (Dsmark durable) tt x.outcome
  packet_news (Visible committed) = shown_news committed (is_news i K (K.visible j) committed) refl
  packet_news (Prepare n tid start objects) = let x = packet_rule catalog i K j (Prepare n tid start objects) in
      plainly i (recorded catalog i x.wrote K) j number (Prepare n tid start objects) tt x.outcome
  packet_news (Vote n answer) = votes_news n answer (K.slow n) refl
  packet_news (Release n) = let x = packet_rule catalog i K j (Release n) in
      plainly i (recorded catalog i x.wrote K) j number (Release n) tt x.outcome
  packet_news (Released n) = confirms_news n (K.slow n) refl

  peer_news : (packet : Packet) (test : Bool)
      → BringsNews catalog i K j number packet (if_peer test (packet_rule catalog i K j packet))
  peer_news packet true = packet_news packet
  peer_news packet false = tt

  -- what is taken of a packet is news
  pub deliver_news : (packet : Packet)
      → BringsNews catalog i K j number packet (deliver_rule catalog i K j packet)
  deliver_news packet = peer_news packet (is_peer catalog i j)

-- and of a peer of the catalog
within_any : (catalog : Catalog) (j : SiteId) (number : ℕ) (packet : Packet) (outcome : Outcome)
    → j.0 < catalog.sites → IsFromWithin catalog (Deliver j number packet) outcome
within_any catalog j number packet Taken below = below
within_any catalog j number packet outcome below = tt

pub deliver_within : (catalog : Catalog) (i : SiteId) (K : Knowledge) (j : SiteId) (number : ℕ) (packet : Packet)
    → IsFromWithin catalog (Deliver j number packet) (deliver_rule catalog i K j packet).outcome
deliver_within catalog i K j number packet = by (is_peer catalog i j) refl
  where
    by : (test : Bool) → is_peer catalog i j ≡ test
        → IsFromWithin catalog (Deliver j number packet) (if_peer test (packet_rule catalog i K j packet)).outcome
    by true is = within_any catalog j number packet (packet_rule catalog i K j packet).outcome
        (peer_true catalog i j is).0
    by false is = tt
