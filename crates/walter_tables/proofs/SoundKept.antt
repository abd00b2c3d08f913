-- What a site knows stays sound: behind a record that can follow, behind a reply, and behind what a peer said.
use Rattle.std.proofs.Common.{◌≡◌, ◌≢◌, ◌+◌, ◌≤◌, ◌<◌, ℕ, nat_eq, Bool, true, false, cond, Option, Some, None, List, [], ◌∷◌, ◌++◌, length, map, All, refl, ap, sym, ◌∙◌, subst, inl, inr, arith, if◌then◌else◌}
use Rattle.std.proofs.lemmas.Bool.{eqb-true, eq-eqb}
use Rattle.std.proofs.lemmas.List.{append-nil, length_push, map-append}
use Rattle.std.proofs.lemmas.List.Elements.{All-push, All-nil, filter-append}
use Rattle.walter_base.specs.declared.catalog.Catalog.{Catalog}
use Rattle.walter_base.specs.declared.message.Record.{Record}
use Rattle.walter_base.specs.declared.message.Record.TheVariants.{Boot, Own, Got, Seen, Prepared, Released, SlowBegin, SlowEnd, Marks, Format as FormatRecord}
use Rattle.walter_base.specs.declared.names.SiteId.{SiteId}
use Rattle.walter_base.specs.declared.packet.Answer.TheVariants.{Yes, No, Later}
use Rattle.walter_base.specs.declared.packet.Packet.TheVariants.{Propagate, Ack, Dsmark, Visible, Prepare, Vote, Release, Released as ReleasedSaid}
use Rattle.walter_base.specs.declared.transaction.Conflict.{Conflict}
use Rattle.walter_base.specs.declared.transaction.Tx.{Tx}
use Rattle.walter_base.specs.Names.{same_site}
use Rattle.walter_base.proofs.NameTests.{same_site_refl}
use Rattle.walter_rules.specs.declared.event.Event.{Event}
use Rattle.walter_rules.specs.declared.event.Event.TheVariants.{Given, Stop, Restart}
use Rattle.walter_rules.specs.declared.event.Input.TheVariants.{Call, Deliver, Advance, Tick, Upgrade}
use Rattle.walter_rules.specs.declared.held.Held.{Held}
use Rattle.walter_rules.specs.declared.outcome.Outcome.{Outcome}
use Rattle.walter_rules.specs.declared.outcome.Outcome.TheVariants.{Replied, Taken, Passed, Failed, Full, Memory, Down, Refused}
use Rattle.walter_rules.specs.Knowledge.{Knowledge, fresh, from_to}
use Rattle.walter_rules.specs.Learning.{recorded, after, one_more, slow_after, log_after, committed_after, last_after, heard_of, said_yes_after, said_no_after, said_released_after, got_after}
use Rattle.walter_rules.specs.Log.{of_site, is_of}
use Rattle.walter_rules.specs.Objects.{participants}
use Rattle.walter_rules.specs.Records.{CanFollow, IsRecordAmong}
use Rattle.walter_rules.specs.Slow.{Slow, Unused, Undecided, Dropped, Decided, ended, decided}
use Rattle.walter_rules.proofs.RuleTests.{peer_true}
use Rattle.walter_agreement.proofs.Cases.{site_cases, ended_not_undecided, dropped_not_open}
use Rattle.walter_alone.proofs.Learned.{learned_fresh, learned_recorded, learned_after}
use Rattle.walter_tables.proofs.Numbers.{seqs, seqs_length, run_more}
use Rattle.walter_tables.specs.Sound.{HoldsTx, IsAsking, IsSound, HasDropped, IsHeardOf}

-- at first
pub sound_fresh : (catalog : Catalog) (i : SiteId) → IsSound catalog i fresh
sound_fresh catalog i = record {
  learned = learned_fresh catalog i;
  counted = refl;
  received = λ j. omega arith;
  numbered = λ j. refl;
  held = All-nil (HoldsTx catalog);
  begun = λ n low high. absurd (omega (arith, low, high));
  ahead = λ n out. record { unused = refl; yes = refl; no = refl; released = refl };
  asking = λ n tx asked is. absurd cc;
}

-- one more own commit, and one of another site
pub own_more : (i : SiteId) (log : List Held) (h : Held) → h.tx.tid.site ≡ i
    → of_site i (log ++ h ∷ []) ≡ of_site i log ++ h ∷ []
own_more i log h own =
    filter-append (is_of i) log (h ∷ [])
    ∙ ap (λ b. of_site i log ++ cond b (h ∷ []) []) (subst (λ (j : SiteId). same_site h.tx.tid.site j ≡ true) own (same_site_refl h.tx.tid.site))

pub other_more : (i : SiteId) (log : List Held) (h : Held) → same_site h.tx.tid.site i ≡ false
    → of_site i (log ++ h ∷ []) ≡ of_site i log
other_more i log h other =
    filter-append (is_of i) log (h ∷ []) ∙ ap (λ b. of_site i log ++ cond b (h ∷ []) []) other ∙ append-nil (of_site i log)

pub one_itself : (i : SiteId) (counts : SiteId → ℕ) → one_more i counts i ≡ counts i + 1
one_itself i counts = ap (λ b. if b then counts i + 1 else counts i) (same_site_refl i)

one_other : (j i : SiteId) (counts : SiteId → ℕ) → j ≢ i → one_more j counts i ≡ counts i
one_other j i counts apart = elim (site_cases j i) [
  | inl same ↦ absurd (apart same.1)
  | inr other ↦ ap (λ b. if b then counts i + 1 else counts i) other.0
]

-- what is begun stays so, and what isn't begun doesn't end
ended_begun : (g : Slow) → g ≢ Unused → ended g ≢ Unused
ended_begun Unused some = λ is. some refl
ended_begun (Undecided tx asked) some = λ is. cc
ended_begun (Dropped tx asked) some = some
ended_begun (Decided tx) some = some

decided_begun : (g : Slow) → g ≢ Unused → decided g ≢ Unused
decided_begun Unused some = λ is. some refl
decided_begun (Undecided tx asked) some = λ is. cc
decided_begun (Dropped tx asked) some = some
decided_begun (Decided tx) some = some

pub decided_not_undecided : (g : Slow) (tx : Tx) (asked : List SiteId) → decided g ≢ Undecided tx asked
decided_not_undecided Unused tx asked = λ is. cc
decided_not_undecided (Undecided x others) tx asked = λ is. cc
decided_not_undecided (Dropped x others) tx asked = λ is. cc
decided_not_undecided (Decided x) tx asked = λ is. cc

module _ (catalog : Catalog) (i : SiteId) (below : i.0 < catalog.sites) (K : Knowledge) (S : IsSound catalog i K) where
  abbrev IsBegun : Slow → Type 0
  IsBegun g = g ≢ Unused

  begun_if : (b : Bool) (x y : Slow) → IsBegun x → IsBegun y → IsBegun (if b then x else y)
  begun_if true x y a c = a
  begun_if false x y a c = c

  unused_if : (b : Bool) (x y : Slow) → x ≡ Unused → y ≡ Unused → (if b then x else y) ≡ Unused
  unused_if true x y a c = a
  unused_if false x y a c = c

  counted_then : (rec : Record) → CanFollow catalog i K rec
      → length (of_site i (log_after (Some rec) K.log)) ≡ committed_after i (Some rec) K.committed i
  counted_then (Own seq tx) f =
      ap length (own_more i K.log (record { seq = seq; tx = tx }) f.here)
      ∙ length_push (of_site i K.log) (record { seq = seq; tx = tx })
      ∙ ap (λ n. n + 1) S.counted ∙ sym (one_itself i K.committed)
  counted_then (Got j seq tx) f =
      let apart : tx.tid.site ≢ i = λ same. (peer_true catalog i j f.peer).1 (sym f.sender ∙ same) in
      let other : same_site tx.tid.site i ≡ false = elim (site_cases tx.tid.site i) [
        | inl same ↦ absurd (apart same.1)
        | inr is ↦ is.0
      ] in
      ap length (other_more i K.log (record { seq = seq; tx = tx }) other) ∙ S.counted
  counted_then (Seen j seq) f = S.counted ∙ sym (one_other j i K.committed (peer_true catalog i j f.peer).1)
  counted_then (Boot epoch) f = S.counted
  counted_then (Prepared j n tid objects) f = S.counted
  counted_then (Released j n) f = S.counted
  counted_then (SlowBegin n tx) f = S.counted
  counted_then (SlowEnd n) f = S.counted
  counted_then (Marks durable visible) f = S.counted
  counted_then FormatRecord f = S.counted

  -- as many are received of the site itself as it has committed
  pub own_got : K.got i ≡ K.committed i
  own_got = sym (seqs_length i K.log (K.got i) (S.numbered i)) ∙ S.counted

  -- a count goes up by one where another does, or where it was less
  both_more : (j k : SiteId) → one_more j K.committed k ≤ one_more j K.got k
  both_more j k = by (same_site j k)
    where
      by : (b : Bool) → (if b then K.committed k + 1 else K.committed k) ≤ (if b then K.got k + 1 else K.got k)
      by true = omega (arith, S.received k)
      by false = S.received k

  one_received : (j k : SiteId) → K.committed k ≤ one_more j K.got k
  one_received j k = by (same_site j k)
    where
      by : (b : Bool) → K.committed k ≤ (if b then K.got k + 1 else K.got k)
      by true = omega (arith, S.received k)
      by false = S.received k

  one_seen : (j k : SiteId) → K.committed j + 1 ≤ K.got j → one_more j K.committed k ≤ K.got k
  one_seen j k less = elim (site_cases j k) [
    | inl same ↦ subst (λ (n : ℕ). n ≤ K.got k) (sym (ap (λ b. if b then K.committed k + 1 else K.committed k) same.0))
        (subst (λ (s : SiteId). K.committed s + 1 ≤ K.got s) same.1 less)
    | inr other ↦ subst (λ (n : ℕ). n ≤ K.got k) (sym (ap (λ b. if b then K.committed k + 1 else K.committed k) other.0))
        (S.received k)
  ]

  received_then : (rec : Record) → CanFollow catalog i K rec → (k : SiteId)
      → committed_after i (Some rec) K.committed k ≤ got_after i (Some rec) K.got k
  received_then (Own seq tx) f k = both_more i k
  received_then (Got from seq tx) f k = one_received from k
  received_then (Seen from seq) f k = one_seen from k (subst (λ (n : ℕ). n ≤ K.got from) f.next f.received)
  received_then (Boot epoch) f k = S.received k
  received_then (Prepared from n tid objects) f k = S.received k
  received_then (Released from n) f k = S.received k
  received_then (SlowBegin n tx) f k = S.received k
  received_then (SlowEnd n) f k = S.received k
  received_then (Marks durable visible) f k = S.received k
  received_then FormatRecord f k = S.received k

  -- one more of a site, whose number is the next
  numbered_more : (h : Held) (got2 : SiteId → ℕ) → ((j : SiteId) → got2 j ≡ one_more h.tx.tid.site K.got j)
      → h.seq ≡ K.got h.tx.tid.site + 1 → (j : SiteId) → seqs j (K.log ++ h ∷ []) ≡ from_to 1 (got2 j)
  numbered_more h got2 gets next j = elim (site_cases h.tx.tid.site j) [
    | inl same ↦
        let at = ap K.got same.1 in
        let more : got2 j ≡ K.got j + 1 = gets j ∙ ap (λ b. if b then K.got j + 1 else K.got j) same.0 in
        ap (map (λ (g : Held). g.seq)) (own_more j K.log h same.1)
        ∙ map-append (λ (g : Held). g.seq) (of_site j K.log) (h ∷ [])
        ∙ (λ t. S.numbered j t ++ (next ∙ ap (λ (n : ℕ). n + 1) at) t ∷ [])
        ∙ run_more (K.got j) ∙ sym (ap (from_to 1) more)
    | inr other ↦
        ap (map (λ (g : Held). g.seq)) (other_more j K.log h other.0) ∙ S.numbered j
        ∙ sym (ap (from_to 1) (gets j ∙ ap (λ b. if b then K.got j + 1 else K.got j) other.0))
  ]

  numbered_then : (rec : Record) → CanFollow catalog i K rec
      → (j : SiteId) → seqs j (log_after (Some rec) K.log) ≡ from_to 1 (got_after i (Some rec) K.got j)
  numbered_then (Own seq tx) f j =
      let here = f.here in
      numbered_more (record { seq = seq; tx = tx }) (one_more i K.got) (λ k. ap (λ (s : SiteId). one_more s K.got k) (sym here))
      (f.next ∙ ap (λ (n : ℕ). n + 1) (sym own_got) ∙ ap (λ (s : SiteId). K.got s + 1) (sym here)) j
  numbered_then (Got from seq tx) f j =
      let sender = f.sender in
      numbered_more (record { seq = seq; tx = tx }) (one_more from K.got) (λ k. ap (λ (s : SiteId). one_more s K.got k) (sym sender))
      (f.next ∙ ap (λ (s : SiteId). K.got s + 1) (sym sender)) j
  numbered_then (Seen from seq) f j = S.numbered j
  numbered_then (Boot epoch) f j = S.numbered j
  numbered_then (Prepared from n tid objects) f j = S.numbered j
  numbered_then (Released from n) f j = S.numbered j
  numbered_then (SlowBegin n tx) f j = S.numbered j
  numbered_then (SlowEnd n) f j = S.numbered j
  numbered_then (Marks durable visible) f j = S.numbered j
  numbered_then FormatRecord f j = S.numbered j

  held_then : (rec : Record) → CanFollow catalog i K rec → IsRecordAmong catalog.sites rec
      → All (HoldsTx catalog) (log_after (Some rec) K.log)
  held_then (Own seq tx) f sizes = All-push (HoldsTx catalog) K.log (record { seq = seq; tx = tx }) S.held
      (record { spelled = sizes.1; sites = sizes.0; declared = f.declared })
  held_then (Got j seq tx) f sizes = All-push (HoldsTx catalog) K.log (record { seq = seq; tx = tx }) S.held
      (record { spelled = sizes.1; sites = sizes.0; declared = f.declared })
  held_then (Seen j seq) f sizes = S.held
  held_then (Boot epoch) f sizes = S.held
  held_then (Prepared j n tid objects) f sizes = S.held
  held_then (Released j n) f sizes = S.held
  held_then (SlowBegin n tx) f sizes = S.held
  held_then (SlowEnd n) f sizes = S.held
  held_then (Marks durable visible) f sizes = S.held
  held_then FormatRecord f sizes = S.held

  begun_then : (rec : Record) → CanFollow catalog i K rec → (n : ℕ) → 1 ≤ n → n ≤ last_after (Some rec) K.last
      → IsBegun (slow_after catalog i K (Some rec) n)
  begun_then (Boot epoch) f n low high = ended_begun (K.slow n) (S.begun n low high)
  begun_then (Own seq tx) f n low high = begun_if (nat_eq tx.slow n) (decided (K.slow n)) (K.slow n)
      (decided_begun (K.slow n) (S.begun n low high)) (S.begun n low high)
  begun_then (SlowBegin m tx) f n low high =
      let asked = participants catalog K i tx.updates in
      elim (nat_eq m n) as (λ b. nat_eq m n ≡ b → IsBegun (if b then Undecided tx asked else K.slow n)) [
        | true ↦ λ is. λ e. cc
        | false ↦ λ is. S.begun n low (let next = f.next in let apart : m ≢ n = λ e. (let t = eq-eqb m n e in cc) in omega (arith, next, high, apart))
      ] refl
  begun_then (SlowEnd m) f n low high = begun_if (nat_eq m n) (ended (K.slow n)) (K.slow n)
      (ended_begun (K.slow n) (S.begun n low high)) (S.begun n low high)
  begun_then (Got j seq tx) f n low high = S.begun n low high
  begun_then (Seen j seq) f n low high = S.begun n low high
  begun_then (Prepared j m tid objects) f n low high = S.begun n low high
  begun_then (Released j m) f n low high = S.begun n low high
  begun_then (Marks durable visible) f n low high = S.begun n low high
  begun_then FormatRecord f n low high = S.begun n low high

  -- a number that is still ahead was so
  was_ahead : (m n : ℕ) → m ≡ K.last + 1 → ((1 ≤ n) × (n ≤ m) → ⊥) → (1 ≤ n) × (n ≤ K.last) → ⊥
  was_ahead m n next out within = out (within.0, let high = within.1 in omega (arith, next, high))

  unused_then : (rec : Record) → CanFollow catalog i K rec → (n : ℕ) → ((1 ≤ n) × (n ≤ last_after (Some rec) K.last) → ⊥)
      → slow_after catalog i K (Some rec) n ≡ Unused
  unused_then (Boot epoch) f n out = ap ended (S.ahead n out).unused
  unused_then (Own seq tx) f n out = unused_if (nat_eq tx.slow n) (decided (K.slow n)) (K.slow n)
      (ap decided (S.ahead n out).unused) (S.ahead n out).unused
  unused_then (SlowBegin m tx) f n out =
      let asked = participants catalog K i tx.updates in
      elim (nat_eq m n) as (λ b. nat_eq m n ≡ b → (if b then Undecided tx asked else K.slow n) ≡ Unused) [
        | true ↦ λ is. absurd (let e = eqb-true m n is in let next = f.next in out (omega (arith, e, next), omega (arith, e)))
        | false ↦ λ is. (S.ahead n (was_ahead m n f.next out)).unused
      ] refl
  unused_then (SlowEnd m) f n out = unused_if (nat_eq m n) (ended (K.slow n)) (K.slow n)
      (ap ended (S.ahead n out).unused) (S.ahead n out).unused
  unused_then (Got j seq tx) f n out = (S.ahead n out).unused
  unused_then (Seen j seq) f n out = (S.ahead n out).unused
  unused_then (Prepared j m tid objects) f n out = (S.ahead n out).unused
  unused_then (Released j m) f n out = (S.ahead n out).unused
  unused_then (Marks durable visible) f n out = (S.ahead n out).unused
  unused_then FormatRecord f n out = (S.ahead n out).unused

  out_then : (rec : Record) → CanFollow catalog i K rec → (n : ℕ) → ((1 ≤ n) × (n ≤ last_after (Some rec) K.last) → ⊥)
      → (1 ≤ n) × (n ≤ K.last) → ⊥
  out_then (SlowBegin m tx) f n out = was_ahead m n f.next out
  out_then (Boot epoch) f n out = out
  out_then (Own seq tx) f n out = out
  out_then (SlowEnd m) f n out = out
  out_then (Got j seq tx) f n out = out
  out_then (Seen j seq) f n out = out
  out_then (Prepared j m tid objects) f n out = out
  out_then (Released j m) f n out = out
  out_then (Marks durable visible) f n out = out
  out_then FormatRecord f n out = out

  -- one that is being decided was so, or is the new one
  abbrev AsksRight : ℕ → Slow → Type 0
  AsksRight n g = (tx : Tx) (asked : List SiteId) → g ≡ Undecided tx asked → IsAsking catalog K n tx

  asks_if : (n : ℕ) (b : Bool) (x y : Slow) → AsksRight n x → AsksRight n y → AsksRight n (if b then x else y)
  asks_if n true x y a c = a
  asks_if n false x y a c = c

  asks_ended : (n : ℕ) (g : Slow) → AsksRight n (ended g)
  asks_ended n g tx asked is = absurd (ended_not_undecided g tx asked is)

  asks_decided : (n : ℕ) (g : Slow) → AsksRight n (decided g)
  asks_decided n g tx asked is = absurd (decided_not_undecided g tx asked is)

  asks_then : (rec : Record) → CanFollow catalog i K rec → IsRecordAmong catalog.sites rec → (n : ℕ)
      → AsksRight n (slow_after catalog i K (Some rec) n)
  asks_then (Boot epoch) f sizes n = asks_ended n (K.slow n)
  asks_then (Own seq tx) f sizes n = asks_if n (nat_eq tx.slow n) (decided (K.slow n)) (K.slow n)
      (asks_decided n (K.slow n)) (S.asking n)
  asks_then (SlowBegin m tx) f sizes n =
      let asked = participants catalog K i tx.updates in
      elim (nat_eq m n) as (λ b. nat_eq m n ≡ b → AsksRight n (if b then Undecided tx asked else K.slow n)) [
        | true ↦ λ is. λ x others same.
            let e = eqb-true m n is in
            let next = f.next in
            let fresh_ = S.ahead n (λ within. let high = within.1 in omega (arith, e, next, high)) in
            let one : tx ≡ x = cc in
            subst (IsAsking catalog K n) one (record {
              named = f.named ∙ e;
              is = record { spelled = sizes.1; sites = sizes.0; declared = f.declared };
              no = fresh_.no;
              released = fresh_.released;
            })
        | false ↦ λ is. S.asking n
      ] refl
  asks_then (SlowEnd m) f sizes n = asks_if n (nat_eq m n) (ended (K.slow n)) (K.slow n)
      (asks_ended n (K.slow n)) (S.asking n)
  asks_then (Got j seq tx) f sizes n = S.asking n
  asks_then (Seen j seq) f sizes n = S.asking n
  asks_then (Prepared j m tid objects) f sizes n = S.asking n
  asks_then (Released j m) f sizes n = S.asking n
  asks_then (Marks durable visible) f sizes n = S.asking n
  asks_then FormatRecord f sizes n = S.asking n

  -- behind a record that can follow
  pub sound_recorded : (rec : Record) → CanFollow catalog i K rec → IsRecordAmong catalog.sites rec
      → IsSound catalog i (recorded catalog i (Some rec) K)
  sound_recorded rec f sizes = record {
    learned = learned_recorded catalog i K S.learned below rec f;
    counted = counted_then rec f;
    received = received_then rec f;
    numbered = numbered_then rec f;
    held = held_then rec f sizes;
    begun = begun_then rec f;
    ahead = λ n out.
        let was = S.ahead n (out_then rec f n out) in
        record { unused = unused_then rec f n out; yes = was.yes; no = was.no; released = was.released };
    asking = λ n tx asked is.
        let was = asks_then rec f sizes n tx asked is in
        record { named = was.named; is = was.is; no = was.no; released = was.released };
  }

module _ (catalog : Catalog) (i : SiteId) (K : Knowledge) (S : IsSound catalog i K) where
  -- a number that is ahead is of no slow commit that was begun
  no_begun : (n : ℕ) → ((1 ≤ n) × (n ≤ K.last) → ⊥) → K.slow n ≢ Unused → ⊥
  no_begun n out some = some (S.ahead n out).unused

  no_dropped : (n : ℕ) → ((1 ≤ n) × (n ≤ K.last) → ⊥) → HasDropped (K.slow n) → ⊥
  no_dropped n out is = let u = (S.ahead n out).unused in let d = is.2 in cc

  -- nothing is heard of a number that is ahead, and neither NO nor RELEASED of one that is being decided
  abbrev IsSilent : ℕ → List SiteId → Option Conflict → List SiteId → Type 0
  IsSilent n agreed refused released =
      (((1 ≤ n) × (n ≤ K.last) → ⊥) → (agreed ≡ []) × (refused ≡ None) × (released ≡ []))
      × ((tx : Tx) (asked : List SiteId) → K.slow n ≡ Undecided tx asked → (refused ≡ None) × (released ≡ []))

  silent : (n : ℕ) → IsSilent n (K.said_yes n) (K.said_no n) (K.said_released n)
  silent n = (
    λ out. let was = S.ahead n out in (was.yes, was.no, was.released),
    λ tx asked is. let was = S.asking n tx asked is in (was.no, was.released),
  )

  silent_yes : (m : ℕ) (j : SiteId) (n : ℕ) → K.slow m ≢ Unused
      → IsSilent n (heard_of m j K.said_yes n) (K.said_no n) (K.said_released n)
  silent_yes m j n some =
      elim (nat_eq m n) as (λ b. nat_eq m n ≡ b
      → IsSilent n (if b then K.said_yes n ++ j ∷ [] else K.said_yes n) (K.said_no n) (K.said_released n)) [
        | true ↦ λ is. (
          λ out. absurd (no_begun n out (subst (λ (q : ℕ). K.slow q ≢ Unused) (eqb-true m n is) some)),
          (silent n).1,
        )
        | false ↦ λ is. silent n
      ] refl

  silent_no : (m : ℕ) (conflict : Conflict) (n : ℕ) → HasDropped (K.slow m)
      → IsSilent n (K.said_yes n) (if nat_eq m n then Some conflict else K.said_no n) (K.said_released n)
  silent_no m conflict n dropped =
      elim (nat_eq m n) as (λ b. nat_eq m n ≡ b
      → IsSilent n (K.said_yes n) (if b then Some conflict else K.said_no n) (K.said_released n)) [
        | true ↦ λ is.
            let here = subst (λ (q : ℕ). HasDropped (K.slow q)) (eqb-true m n is) dropped in (
              λ out. absurd (no_dropped n out here),
              λ tx asked open_. absurd (dropped_not_open (K.slow n) here.0 tx here.1 asked here.2 open_),
            )
        | false ↦ λ is. silent n
      ] refl

  silent_released : (m : ℕ) (j : SiteId) (n : ℕ) → HasDropped (K.slow m)
      → IsSilent n (K.said_yes n) (K.said_no n) (heard_of m j K.said_released n)
  silent_released m j n dropped =
      elim (nat_eq m n) as (λ b. nat_eq m n ≡ b
      → IsSilent n (K.said_yes n) (K.said_no n) (if b then K.said_released n ++ j ∷ [] else K.said_released n)) [
        | true ↦ λ is.
            let here = subst (λ (q : ℕ). HasDropped (K.slow q)) (eqb-true m n is) dropped in (
              λ out. absurd (no_dropped n out here),
              λ tx asked open_. absurd (dropped_not_open (K.slow n) here.0 tx here.1 asked here.2 open_),
            )
        | false ↦ λ is. silent n
      ] refl

  silent_then : (event : Event) (outcome : Outcome) → IsHeardOf K.slow event outcome → (n : ℕ)
      → IsSilent n (said_yes_after outcome event K.said_yes n) (said_no_after outcome event K.said_no n)
      (said_released_after outcome event K.said_released n)
  silent_then event (Replied r) h n = silent n
  silent_then event Passed h n = silent n
  silent_then event Failed h n = silent n
  silent_then event (Full need left) h n = silent n
  silent_then event Memory h n = silent n
  silent_then event Down h n = silent n
  silent_then event Refused h n = silent n
  silent_then (Given (Call client call)) Taken h n = silent n
  silent_then (Given (Advance from)) Taken h n = silent n
  silent_then (Given Tick) Taken h n = silent n
  silent_then (Given Upgrade) Taken h n = silent n
  silent_then Stop Taken h n = silent n
  silent_then Restart Taken h n = silent n
  silent_then (Given (Deliver j number (Propagate seq tx))) Taken h n = silent n
  silent_then (Given (Deliver j number (Ack got))) Taken h n = silent n
  silent_then (Given (Deliver j number (Dsmark durable))) Taken h n = silent n
  silent_then (Given (Deliver j number (Visible committed))) Taken h n = silent n
  silent_then (Given (Deliver j number (Prepare m tid start objects))) Taken h n = silent n
  silent_then (Given (Deliver j number (Release m))) Taken h n = silent n
  silent_then (Given (Deliver j number (Vote m Yes))) Taken h n = silent_yes m j n h
  silent_then (Given (Deliver j number (Vote m (No conflict)))) Taken h n = silent_no m conflict n h
  silent_then (Given (Deliver j number (Vote m Later))) Taken h n = absurd h
  silent_then (Given (Deliver j number (ReleasedSaid m))) Taken h n = silent_released m j n h

-- behind a reply, and what was heard
pub sound_after : (catalog : Catalog) (i : SiteId) (K : Knowledge) (event : Event) (outcome : Outcome)
    (wrote : Option Record) → IsSound catalog i (recorded catalog i wrote K)
    → IsHeardOf (recorded catalog i wrote K).slow event outcome
    → IsSound catalog i (after catalog i K event outcome wrote)
sound_after catalog i K event outcome wrote S h = record {
  learned = learned_after catalog i K event outcome wrote S.learned;
  counted = S.counted;
  received = S.received;
  numbered = S.numbered;
  held = S.held;
  begun = S.begun;
  ahead = λ n out.
      let is = (silent_then catalog i (recorded catalog i wrote K) S event outcome h n).0 out in
      record { unused = (S.ahead n out).unused; yes = is.0; no = is.1; released = is.2 };
  asking = λ n tx asked is.
      let was = S.asking n tx asked is in
      let still = (silent_then catalog i (recorded catalog i wrote K) S event outcome h n).1 tx asked is in
      record { named = was.named; is = was.is; no = still.0; released = still.1 };
}
