-- Numbers, logs and locks are kept by each record that may come.
use Rattle.std.proofs.Common.{◌≡◌, ◌≢◌, ◌+◌, ◌-◌, ◌<◌, ◌≤◌, ℕ, zero, suc, nat_eq, true, false, List, ◌∷◌, [], length, slice_get, Some, None, refl, ap, sym, ◌∙◌, subst, arith, inl, inr, if◌then◌else◌}
use Rattle.std.specs.Prelude.{Option, IfSome, option_map}
use Rattle.std.proofs.lemmas.Bool.{eqb-true}
use Rattle.std.proofs.lemmas.List.{length-append}
use Rattle.std.proofs.lemmas.Option.{same_Some}
use Rattle.walter_base.specs.declared.catalog.Catalog.{Catalog}
use Rattle.walter_base.specs.declared.message.Record.{Record}
use Rattle.walter_base.specs.declared.message.Record.TheVariants.{Boot, Own, Got, Seen, Prepared, Released, SlowBegin, SlowEnd, Marks, Format as FormatRecord}
use Rattle.walter_base.specs.declared.names.ObjId.{ObjId}
use Rattle.walter_base.specs.declared.names.SiteId.{SiteId}
use Rattle.walter_base.specs.declared.names.Tid.{Tid}
use Rattle.walter_base.specs.declared.packet.Packet.TheVariants.{Propagate, Prepare, Release}
use Rattle.walter_base.specs.declared.transaction.Tx.{Tx}
use Rattle.walter_base.specs.Names.{same_site}
use Rattle.walter_base.specs.Vectors.{entry_at}
use Rattle.walter_rules.specs.declared.held.Held.{Held}
use Rattle.walter_rules.specs.Knowledge.{Knowledge}
use Rattle.walter_rules.specs.Learning.{lost, log_after, got_after, committed_after, slow_after, part_after, part_over, slow_number}
use Rattle.walter_rules.specs.Log.{of_site, commit_at}
use Rattle.walter_rules.specs.Objects.{objects_at, participants}
use Rattle.walter_rules.specs.Slow.{Slow, Unused, Undecided, Dropped, Decided, Part, Free, Over, begun, decided, is_slow, unlocked}
use Rattle.walter_rules.specs.Standing.{Standing}
use Rattle.walter_rules.proofs.WrittenObjects.{in_objects_at, objects_at_from}
use Rattle.walter_agreement.specs.Locking.{IsUnmodified}
use Rattle.walter_agreement.proofs.Cases.{site_cases, slow_cases}
use Rattle.walter_agreement.proofs.CausalLogs.{IsCausalLog, causal_pushed}
use Rattle.walter_agreement.proofs.Lists.{prefix_length, prefix_get}
use Rattle.walter_agreement.proofs.Locks.{AreLocked, unused_free, received as locked_received}
use Rattle.walter_agreement.proofs.LocksKept.{IsOwnCommit, by_slow_begin, by_prepared, by_slow_end, by_boot, by_released, by_seen, by_fast, by_decision}
use Rattle.walter_agreement.proofs.Numbers.{IsPushed, IsCounted, AreNumbered, counted_one_more, counted_rise, pushed_cases, pushed_of, owned_pushed, owned_kept, numbered_same, numbered_own, numbered_got, numbered_seen}
use Rattle.walter_alone.proofs.Alone.{IsAlone, home}
use Rattle.walter_linked.proofs.Agreed.{Stands, Put, logs, owns, received, counts, slows, parts, IsDue, AreAgreed}
use Rattle.walter_linked.proofs.Grown.{IsRecorded, at_all, log_here, got_here, committed_here, slow_here, part_here, log_away, got_away, committed_away, slow_away, part_away}

-- what records alone tell
pub record IsCore (catalog : Catalog) (W : Stands) : Type 0 where
  pub numbered : AreNumbered (owns W) (logs W) (counts W)
  pub counted : (i k : SiteId) → received W i k ≡ length (of_site k (logs W i))
  pub causal : (i : SiteId) → IsCausalLog (logs W i)
  pub locked : AreLocked (home catalog) (owns W) (logs W) (counts W) (slows W) (parts W)

pub core_of : (catalog : Catalog) (W : Stands) (put : Put) → AreAgreed catalog W put → IsCore catalog W
core_of catalog W put A = record { numbered = A.numbered; counted = A.counted; causal = A.causal; locked = A.locked }

-- by equal parts
pub locked_same : (preferred : ObjId → SiteId) (owns owns2 known known2 : SiteId → List Held)
    (counts counts2 : SiteId → SiteId → ℕ)
    (slows slows2 : SiteId → ℕ → Slow) (locks locks2 : SiteId → SiteId → ℕ → Part)
    → ((k : SiteId) → owns2 k ≡ owns k) → ((k : SiteId) → known2 k ≡ known k)
    → ((p k : SiteId) → counts2 p k ≡ counts p k)
    → ((j : SiteId) (n : ℕ) → slows2 j n ≡ slows j n) → ((p j : SiteId) (n : ℕ) → locks2 p j n ≡ locks p j n)
    → AreLocked preferred owns known counts slows locks → AreLocked preferred owns2 known2 counts2 slows2 locks2
locked_same preferred owns owns2 known known2 counts counts2 slows slows2 locks locks2 a b c d e L =
    let ea : owns ≡ owns2 = (λ t k. sym (a k) t) in
    let eb : known ≡ known2 = (λ t k. sym (b k) t) in
    let ec : counts ≡ counts2 = (λ t p k. sym (c p k) t) in
    let ed : slows ≡ slows2 = (λ t j n. sym (d j n) t) in
    let ee : locks ≡ locks2 = (λ t p j n. sym (e p j n) t) in
    subst (λ z. AreLocked preferred owns2 known2 counts2 slows2 z) ee
    (subst (λ z. AreLocked preferred owns2 known2 counts2 z locks) ed
    (subst (λ z. AreLocked preferred owns2 known2 z slows locks) ec
    (subst (λ z. AreLocked preferred owns2 z counts slows locks) eb
    (subst (λ z. AreLocked preferred z known counts slows locks) ea L))))

-- the test for the same site goes both ways
pub same_site_both : (a b : SiteId) → same_site a b ≡ same_site b a
same_site_both a b = elim (site_cases a b) [
  | inl same ↦ elim (site_cases b a) [
    | inl back ↦ same.0 ∙ sym back.0
    | inr apart ↦ absurd (apart.1 (sym same.1))
  ]
  | inr apart ↦ elim (site_cases b a) [
    | inl back ↦ absurd (apart.1 (sym back.1))
    | inr other ↦ apart.0 ∙ sym other.0
  ]
]

-- a commit that a log has stands there
pub commit_held : (j : SiteId) (seq : ℕ) (log : List Held) (x : Tx) → commit_at j seq log ≡ Some x
    → (r : Held) × (slice_get (of_site j log) (seq - 1) ≡ Some r) × (r.tx ≡ x)
commit_held j seq log x at =
    elim (slice_get (of_site j log) (seq - 1)) as (λ o. slice_get (of_site j log) (seq - 1) ≡ o
    → option_map (λ (h : Held). h.tx) o ≡ Some x → (r : Held) × (slice_get (of_site j log) (seq - 1) ≡ Some r)
    × (r.tx ≡ x)) [
      | None ↦ λ here e. absurd cc
      | Some r ↦ λ here e. (r, here, same_Some r.tx x e)
    ] refl at

-- what isn't fast is over
part_over_some : (j : SiteId) (n : ℕ) (part : SiteId → ℕ → Part) (k : SiteId) (m : ℕ) → n ≢ 0
    → part_over j n part k m ≡ (if is_slow j n k m then Over else part k m)
part_over_some j zero part k m some = absurd (some refl)
part_over_some j (suc n) part k m some = refl

-- what is counted is what the logs have, where both have one more
counted_pushed : (lists longer : SiteId → List Held) (got more : SiteId → SiteId → ℕ) (s j : SiteId) (r : Held)
    → IsPushed lists longer s r → IsCounted got more s j
    → r.tx.tid.site ≡ j → ((i k : SiteId) → got i k ≡ length (of_site k (lists i))) → (i k : SiteId)
    → more i k ≡ length (of_site k (longer i))
counted_pushed lists longer got more s j r push count site before i k =
    let was = before i k in
    elim (pushed_of lists longer s r push i k) [
      | inl stays ↦ elim (count i k) [
        | inl none ↦ none.1 ∙ was ∙ ap length (sym stays.1)
        | inr one ↦ absurd (stays.0 one.0 (site ∙ one.1))
      ]
      | inr one ↦ elim (count i k) [
        | inl none ↦ absurd (none.0 one.0 (sym site ∙ one.1))
        | inr up ↦
            let size = ap length one.2 ∙ length-append (of_site k (lists i)) (r ∷ []) in
            let risen = up.2 in
            omega (arith, was, size, risen)
      ]
    ]

module _ (catalog : Catalog) (W Then : Stands) (put : Put) (A : AreAgreed catalog W put) (i : SiteId)
    (alone : IsAlone catalog i (W i)) where
  -- where no log gets longer and nothing more is counted
  quiet : (rec : Record) → IsRecorded catalog i (Some rec) W Then → log_after (Some rec) (logs W i) ≡ logs W i
      → ((k : SiteId) → got_after i (Some rec) (received W i) k ≡ received W i k)
      → ((k : SiteId) → committed_after i (Some rec) (counts W i) k ≡ counts W i k)
      → AreLocked (home catalog) (owns W) (logs W) (counts W) (slows Then) (parts Then) → IsCore catalog Then
  quiet rec R log got committed L =
      let same_log : (k : SiteId) → logs Then k ≡ logs W k = at_all (logs Then) (logs W) i
      (log_here catalog i (Some rec) W Then R ∙ log) (log_away catalog i (Some rec) W Then R) in
      let same_got : (k j : SiteId) → received Then k j ≡ received W k j = λ k j.
      at_all (λ z. received Then z j) (λ z. received W z j) i (got_here catalog i (Some rec) W Then R j ∙ got j)
      (λ z apart. got_away catalog i (Some rec) W Then R z apart j) k in
      let same_counts : (k j : SiteId) → counts Then k j ≡ counts W k j = λ k j.
      at_all (λ z. counts Then z j) (λ z. counts W z j) i (committed_here catalog i (Some rec) W Then R j ∙ committed j)
      (λ z apart. committed_away catalog i (Some rec) W Then R z apart j) k in
      record {
        numbered = numbered_same (owns W) (owns Then) (logs W) (logs Then) (counts W) (counts Then)
            (λ k. ap (of_site k) (same_log k)) same_log same_counts A.numbered;
        counted = λ k j. same_got k j ∙ A.counted k j ∙ ap (λ l. length (of_site j l)) (sym (same_log k));
        causal = λ k. subst (λ l. IsCausalLog l) (sym (same_log k)) (A.causal k);
        locked = locked_same (home catalog) (owns W) (owns Then) (logs W) (logs Then) (counts W) (counts Then) (slows Then)
            (slows Then) (parts Then) (parts Then)
            (λ k. ap (of_site k) (same_log k)) same_log same_counts (λ j n. refl) (λ p j n. refl) L;
      }

  -- slow commits and parts that no record of this kind changes
  same_slows : (rec : Record) → IsRecorded catalog i (Some rec) W Then
      → ((n : ℕ) → slow_after catalog i (lost (W i).knows) (Some rec) n ≡ slows W i n) → (j : SiteId) (n : ℕ)
      → slows Then j n ≡ slows W j n
  same_slows rec R same j n = at_all (λ z. slows Then z n) (λ z. slows W z n) i
      (slow_here catalog i (Some rec) W Then R n ∙ same n) (λ z apart. slow_away catalog i (Some rec) W Then R z apart n) j

  same_parts : (rec : Record) → IsRecorded catalog i (Some rec) W Then
      → ((j : SiteId) (n : ℕ) → part_after catalog i (lost (W i).knows) (Some rec) j n ≡ parts W i j n)
      → (p j : SiteId) (n : ℕ) → parts Then p j n ≡ parts W p j n
  same_parts rec R same p j n = at_all (λ z. parts Then z j n) (λ z. parts W z j n) i
      (part_here catalog i (Some rec) W Then R j n ∙ same j n)
      (λ z apart. part_away catalog i (Some rec) W Then R z apart j n) p

  -- by equal slow commits or parts
  with_slows : ((j : SiteId) (n : ℕ) → slows Then j n ≡ slows W j n)
      → AreLocked (home catalog) (owns W) (logs W) (counts W) (slows W) (parts Then)
      → AreLocked (home catalog) (owns W) (logs W) (counts W) (slows Then) (parts Then)
  with_slows same L = locked_same (home catalog) (owns W) (owns W) (logs W) (logs W) (counts W) (counts W) (slows W)
      (slows Then) (parts Then) (parts Then) (λ k. refl) (λ k. refl) (λ p k. refl) same (λ p j n. refl) L

  -- number 0 is never begun, and nothing is locked for it
  unused_zero : slows W i 0 ≡ Unused
  unused_zero = elim (slows W i 0) as (λ g. slows W i 0 ≡ g → g ≡ Unused) [
    | Unused ↦ λ e. refl
    | Undecided x asked ↦ λ e. absurd ((alone.tidy.named 0 x (ap begun e)).1 refl)
    | Dropped x asked ↦ λ e. absurd ((alone.tidy.named 0 x (ap begun e)).1 refl)
    | Decided x ↦ λ e. absurd ((alone.tidy.named 0 x (ap begun e)).1 refl)
  ] refl

  free_zero : parts W i i 0 ≡ Free
  free_zero = unused_free (home catalog) (owns W) (logs W) (counts W) (slows W) (parts W) A.locked i i 0 unused_zero

  by_boot_record : (epoch : ℕ) → IsRecorded catalog i (Some (Boot epoch)) W Then → IsCore catalog Then
  by_boot_record epoch R = quiet (Boot epoch) R refl (λ k. refl) (λ k. refl)
      (by_boot (home catalog) (owns W) (logs W) (counts W) (slows W) (parts W) A.locked i (slows Then)
      (parts Then) A.numbered.own.counted
      (λ j n apart. slow_away catalog i (Some (Boot epoch)) W Then R j apart n)
      (slow_here catalog i (Some (Boot epoch)) W Then R)
      (λ p j n apart. part_away catalog i (Some (Boot epoch)) W Then R p apart j n)
      (λ j n. part_here catalog i (Some (Boot epoch)) W Then R j n
      ∙ ap (λ b. if b then unlocked (parts W i j n) else parts W i j n) (same_site_both i j)))

  by_end_record : (n : ℕ) → IsRecorded catalog i (Some (SlowEnd n)) W Then → IsCore catalog Then
  by_end_record n R = quiet (SlowEnd n) R refl (λ k. refl) (λ k. refl)
      (by_slow_end (home catalog) (owns W) (logs W) (counts W) (slows W) (parts W) A.locked i (slows Then)
      (parts Then) n A.numbered.own.counted
      (λ j m apart. slow_away catalog i (Some (SlowEnd n)) W Then R j apart m)
      (slow_here catalog i (Some (SlowEnd n)) W Then R)
      (λ p j m apart. part_away catalog i (Some (SlowEnd n)) W Then R p apart j m)
      (part_here catalog i (Some (SlowEnd n)) W Then R))

  by_marks_record : (durable visible : ℕ) → IsRecorded catalog i (Some (Marks durable visible)) W Then → IsCore catalog Then
  by_marks_record durable visible R = quiet (Marks durable visible) R refl (λ k. refl) (λ k. refl)
      (locked_same (home catalog) (owns W) (owns W) (logs W) (logs W) (counts W) (counts W) (slows W) (slows Then)
      (parts W) (parts Then) (λ k. refl) (λ k. refl) (λ p k. refl)
      (same_slows (Marks durable visible) R (λ n. refl)) (same_parts (Marks durable visible) R (λ j n. refl)) A.locked)

  by_format_record : IsRecorded catalog i (Some FormatRecord) W Then → IsCore catalog Then
  by_format_record R = quiet FormatRecord R refl (λ k. refl) (λ k. refl)
      (locked_same (home catalog) (owns W) (owns W) (logs W) (logs W) (counts W) (counts W) (slows W) (slows Then)
      (parts W) (parts Then) (λ k. refl) (λ k. refl) (λ p k. refl)
      (same_slows FormatRecord R (λ n. refl)) (same_parts FormatRecord R (λ j n. refl)) A.locked)

  by_begin_record : (n : ℕ) (x : Tx) → IsRecorded catalog i (Some (SlowBegin n x)) W Then
      → IsDue catalog W put i (SlowBegin n x) → IsCore catalog Then
  by_begin_record n x R due = quiet (SlowBegin n x) R refl (λ k. refl) (λ k. refl)
      (by_slow_begin (home catalog) (owns W) (logs W) (counts W) (slows W) (parts W) A.locked i (slows Then) (parts Then) n
      (objects_at catalog (lost (W i).knows) i x.updates) x (participants catalog (lost (W i).knows) i x.updates)
      (λ j m apart. slow_away catalog i (Some (SlowBegin n x)) W Then R j apart m)
      (slow_here catalog i (Some (SlowBegin n x)) W Then R)
      (λ p j m apart. part_away catalog i (Some (SlowBegin n x)) W Then R p apart j m)
      (part_here catalog i (Some (SlowBegin n x)) W Then R)
      (alone.tidy.number n (let e = due.next in omega (arith, e)))
      (λ oid pr. (
        λ c. (objects_at_from catalog (lost (W i).knows) i x.updates oid c).0,
        λ w. in_objects_at catalog
            (lost (W i).knows) i x.updates oid w pr,
      ))
      (λ r p oid here w c pr. due.unmodified r p oid here w
      (objects_at_from catalog (lost (W i).knows) i x.updates oid c).0 pr)
      (λ j m owner locked oid h c o pr. due.unlocked j m owner locked oid h c
      (objects_at_from catalog (lost (W i).knows) i x.updates oid o).0 pr))

  by_prepared_record : (j : SiteId) (n : ℕ) (tid : Tid) (objects : List ObjId)
      → IsRecorded catalog i (Some (Prepared j n tid objects)) W Then → IsDue catalog W put i (Prepared j n tid objects)
      → IsCore catalog Then
  by_prepared_record j n tid objects R due =
      let so = A.said j i (Prepare n tid due.start objects) due.apart due.said in
      quiet (Prepared j n tid objects) R refl (λ k. refl) (λ k. refl)
      (with_slows (same_slows (Prepared j n tid objects) R (λ m. refl))
      (by_prepared (home catalog) (owns W) (logs W) (counts W) (slows W) (parts W) A.locked i
      (parts Then) j n tid objects so.0
      (λ p k m apart. part_away catalog i (Some (Prepared j n tid objects)) W Then R p apart k m)
      (part_here catalog i (Some (Prepared j n tid objects)) W Then R)
      due.free so.1 so.2 so.4 (subst (λ v. IsUnmodified (home catalog) i v objects
      (logs W i)) so.3 due.unmodified) due.unlocked))

  by_released_record : (j : SiteId) (n : ℕ) → IsRecorded catalog i (Some (Released j n)) W Then
      → IsDue catalog W put i (Released j n) → IsCore catalog Then
  by_released_record j n R due =
      let so = A.said j i (Release n) due.0 due.1 in
      quiet (Released j n) R refl (λ k. refl) (λ k. refl)
      (with_slows (same_slows (Released j n) R (λ m. refl))
      (by_released (home catalog) (owns W) (logs W) (counts W) (slows W) (parts W) A.locked i
      (parts Then) j n so.0 so.1 A.numbered.own.counted due.0 so.2
      (λ p k m apart. part_away catalog i (Some (Released j n)) W Then R p apart k m)
      (part_here catalog i (Some (Released j n)) W Then R)))

  by_seen_record : (j : SiteId) (seq : ℕ) → IsRecorded catalog i (Some (Seen j seq)) W Then
      → IsDue catalog W put i (Seen j seq) → IsCore catalog Then
  by_seen_record j seq R due =
      let rec : Option Record = Some (Seen j seq) in
      let next = due.next in
      let at : commit_at j (counts W i j + 1) (logs W i) ≡ Some due.tx = ap (λ n. commit_at j n (logs W i)) (sym next)
      ∙ due.held in
      let held = commit_held j (counts W i j + 1) (logs W i) due.tx at in
      let place : counts W i j + 1 - 1 ≡ counts W i j = omega arith in
      let own : slice_get (owns W j) (counts W i j) ≡ Some held.0 =
      ap (λ n. slice_get (owns W j) n) (sym place) ∙ prefix_get (of_site j (logs W i)) (owns W j) held.0
      (counts W i j + 1 - 1) ((A.numbered.held i).fronts j) held.1 in
      let same_log : (k : SiteId) → logs Then k ≡ logs W k = at_all (logs Then) (logs W) i (log_here catalog i rec W Then R)
      (log_away catalog i rec W Then R) in
      let same_got : (k l : SiteId) → received Then k l ≡ received W k l = λ k l.
      at_all (λ z. received Then z l) (λ z. received W z l) i (got_here catalog i rec W Then R l)
      (λ z apart. got_away catalog i rec W Then R z apart l) k in
      let count : IsCounted (counts W) (counts Then) i j = counted_one_more (counts W) (counts Then) i j
      (committed_here catalog i rec W Then R) (λ a k apart. committed_away catalog i rec W Then R a
      (λ e. apart (sym e)) k) in
      let low : counts W i j < length (of_site j (logs W i)) = let g = due.got in let c = A.counted i j in omega
      (arith, g, c, next) in
      let now : part_after catalog i (lost (W i).knows) rec ≡ part_over j held.0.tx.slow (parts W i) =
      ap (λ (o : Option Tx). part_over j (slow_number o) (parts W i)) (due.held ∙ ap (λ z. Some z) (sym held.2)) in
      let slow_same = same_slows (Seen j seq) R (λ n. refl) in
      record {
        numbered = numbered_same (owns W) (owns Then) (logs W) (logs Then) (counts Then) (counts Then)
            (λ k. ap (of_site k) (same_log k)) same_log (λ a k. refl)
            (numbered_seen (owns W) (logs W) (counts W) (counts Then) i j A.numbered count due.apart low);
        counted = λ k l. same_got k l ∙ A.counted k l ∙ ap (λ z. length (of_site l z)) (sym (same_log k));
        causal = λ k. subst (λ l. IsCausalLog l) (sym (same_log k)) (A.causal k);
        locked = locked_same (home catalog) (owns W) (owns Then) (logs W) (logs Then) (counts Then) (counts Then) (slows W)
            (slows Then) (parts Then) (parts Then)
            (λ k. ap (of_site k) (same_log k)) same_log (λ p k. refl) slow_same (λ p k n. refl)
            (by_seen (home catalog) (owns W) (logs W) (counts W) (slows W) (parts W) A.locked i (counts Then)
            (parts Then) j held.0 A.numbered.own.counted due.apart own
            (λ p k. elim (count p k) [
              | inl none ↦ inl none.1
              | inr one ↦ inr (sym one.0, sym one.1)
            ])
            (elim (count i j) [ inl none ↦ absurd (none.0 refl refl) | inr one ↦ let e = one.2 in omega (arith, e) ])
            (λ p k n apart. part_away catalog i rec W Then R p apart k n)
            (λ fast k n. part_here catalog i rec W Then R k n ∙ ap (λ f. f k n) now
            ∙ ap (λ m. part_over j m (parts W i) k n) fast)
            (λ some k n. part_here catalog i rec W Then R k n ∙ ap (λ f. f k n) now ∙ part_over_some j held.0.tx.slow
            (parts W i) k n some));
      }

  by_got_record : (j : SiteId) (seq : ℕ) (x : Tx) → IsRecorded catalog i (Some (Got j seq x)) W Then
      → IsDue catalog W put i (Got j seq x) → IsCore catalog Then
  by_got_record j seq x R due =
      let rec : Option Record = Some (Got j seq x) in
      let r : Held = record { seq = seq; tx = x } in
      let so = A.said j i (Propagate seq x) due.apart due.said in
      let next = due.next in
      let c = A.counted i j in
      let site : r.tx.tid.site ≡ j = A.numbered.own.site j (seq - 1) r so.1 in
      let own : slice_get (owns W j) (length (of_site j (logs W i))) ≡ Some r =
      ap (λ n. slice_get (owns W j) n) (let e : length (of_site j (logs W i)) ≡ seq - 1 = omega (arith, next, c) in e)
      ∙ so.1 in
      let push : IsPushed (logs W) (logs Then) i r =
      (log_here catalog i rec W Then R, λ k apart. log_away catalog i rec W Then R k (λ e. apart (sym e))) in
      let same_own : (k : SiteId) → owns Then k ≡ owns W k = owned_kept (logs W) (logs Then) i r push
      (λ e. due.apart (sym site ∙ e)) in
      let same_counts : (k l : SiteId) → counts Then k l ≡ counts W k l = λ k l.
      at_all (λ z. counts Then z l) (λ z. counts W z l) i (committed_here catalog i rec W Then R l)
      (λ z apart. committed_away catalog i rec W Then R z apart l) k in
      let count : IsCounted (received W) (received Then) i j = counted_one_more (received W) (received Then) i j
      (got_here catalog i rec W Then R) (λ a k apart. got_away catalog i rec W Then R a (λ e. apart (sym e)) k) in
      record {
        numbered = numbered_same (owns W) (owns Then) (logs Then) (logs Then) (counts W) (counts Then) same_own
            (λ k. refl) same_counts
            (numbered_got (owns W) (logs W) (logs Then) (counts W) i j r A.numbered push due.apart own);
        counted = counted_pushed (logs W) (logs Then) (received W) (received Then) i j r push count site A.counted;
        causal = causal_pushed (logs W) (logs Then) i r A.causal push
            (λ k. let l = due.covered k in let e = A.counted i k in omega (arith, l, e));
        locked = locked_same (home catalog) (owns W) (owns Then) (logs Then) (logs Then) (counts W) (counts Then) (slows W)
            (slows Then) (parts W) (parts Then)
            same_own (λ k. refl) same_counts (same_slows (Got j seq x) R (λ n. refl))
            (same_parts (Got j seq x) R (λ k n. refl))
            (locked_received (home catalog) (owns W) (logs W) (counts W) (slows W) (parts W) A.locked (logs Then) i r j
            (seq - 1)
            (λ p q z here. elim (pushed_cases (logs W) (logs Then) i r push p q z here) [
              | inl old ↦ inl old
              | inr last ↦ inr (sym last.0, last.2)
            ])
            so.1 (let w = (A.numbered.held i).within j in omega (arith, w, c, next)) due.apart);
      }

  by_own_record : (seq : ℕ) (x : Tx) → IsRecorded catalog i (Some (Own seq x)) W Then → IsDue catalog W put i (Own seq x)
      → IsCore catalog Then
  by_own_record seq x R due =
      let rec : Option Record = Some (Own seq x) in
      let r : Held = record { seq = seq; tx = x } in
      let push : IsPushed (logs W) (logs Then) i r =
      (log_here catalog i rec W Then R, λ k apart. log_away catalog i rec W Then R k (λ e. apart (sym e))) in
      let own : IsPushed (owns W) (owns Then) i r = owned_pushed (logs W) (logs Then) i r push due.site in
      let count : IsCounted (counts W) (counts Then) i i = counted_one_more (counts W) (counts Then) i i
      (committed_here catalog i rec W Then R) (λ a k apart. committed_away catalog i rec W Then R a
      (λ e. apart (sym e)) k) in
      let got : IsCounted (received W) (received Then) i i = counted_one_more (received W) (received Then) i i
      (got_here catalog i rec W Then R) (λ a k apart. got_away catalog i rec W Then R a (λ e. apart (sym e)) k) in
      let N : AreNumbered (owns Then) (logs Then) (counts Then) = numbered_own (owns W) (owns Then) (logs W) (logs Then)
      (counts W) (counts Then) i r A.numbered own push count due.site due.next in
      let covered : (k : SiteId) → entry_at x.start k ≤ counts W i k = elim due.decided [
        | inl fast ↦ fast.4
        | inr slow ↦ slow.3
      ] in
      let commit : IsOwnCommit i (owns W) (logs W) (owns Then) (logs Then) (counts W) (counts Then) r = record {
        own = λ k q z here. elim (pushed_cases (owns W) (owns Then) i r own k q z here) [
          | inl old ↦ inl old
          | inr last ↦ inr (sym last.0, last.1, last.2)
        ];
        know = λ p q z here. elim (pushed_cases (logs W) (logs Then) i r push p q z here) [
          | inl old ↦ inl old
          | inr last ↦ inr (sym last.0, last.2)
        ];
        rise = counted_rise (counts W) (counts Then) i i count;
        full = N.own.counted;
        still = λ p k apart. elim (count p k) [
          | inl none ↦
              let e = none.1 in
              let w = (A.numbered.held p).within k in
              let l = prefix_length (of_site k (logs W p)) (owns W k) ((A.numbered.held p).fronts k) in
              (omega (arith, e), omega (arith, w, l))
          | inr one ↦ absurd (apart (sym one.0 ∙ one.1))
        ];
      } in
      record {
        numbered = N;
        counted = counted_pushed (logs W) (logs Then) (received W) (received Then) i i r push got due.site A.counted;
        causal = causal_pushed (logs W) (logs Then) i r A.causal push
            (λ k. let l = covered k in let w = (A.numbered.held i).within k in omega (arith, l, w));
        locked = elim due.decided [
          | inl fast ↦
              locked_same (home catalog) (owns Then) (owns Then) (logs Then) (logs Then) (counts Then) (counts Then) (slows W)
              (slows Then) (parts W) (parts Then)
              (λ k. refl) (λ k. refl) (λ p k. refl)
              (same_slows (Own seq x) R (λ n. elim (nat_eq x.slow n) as
              (λ b. nat_eq x.slow n ≡ b → (if b then decided (slows W i n) else slows W i n) ≡ slows W i n) [
                | true ↦ λ is.
                    let zero_is : 0 ≡ n = sym fast.0 ∙ eqb-true x.slow n is in
                    let none : slows W i n ≡ Unused = subst (λ m. slows W i m ≡ Unused) zero_is unused_zero in
                    ap decided none ∙ sym none
                | false ↦ λ is. refl
              ] refl))
              (same_parts (Own seq x) R (λ j n. elim (slow_cases i x.slow j n) [
                | inl it ↦
                    let zero_is : 0 ≡ n = sym fast.0 ∙ it.2 in
                    let none : parts W i j n ≡ Free = subst (λ z. parts W i z n ≡ Free) it.1
                    (subst (λ m. parts W i i m ≡ Free) zero_is free_zero) in
                    ap (λ b. if b then unlocked (parts W i j n) else parts W i j n) it.0 ∙ ap unlocked none ∙ sym none
                | inr other ↦ ap (λ b. if b then unlocked (parts W i j n) else parts W i j n) other.0
              ]))
              (by_fast (home catalog) (owns W) (logs W) (counts W) (slows W) (parts W) A.locked i (owns Then) (logs Then)
              (counts Then) r commit fast.0 fast.1 fast.3)
          | inr slow ↦
              by_decision (home catalog) (owns W) (logs W) (counts W) (slows W) (parts W) A.locked i (owns Then) (logs Then)
              (counts Then) (slows Then) (parts Then) r slow.1.0 commit slow.0 slow.1.1 slow.2
              (λ j n apart. slow_away catalog i rec W Then R j apart n) (slow_here catalog i rec W Then R)
              (λ p j n apart. part_away catalog i rec W Then R p apart j n) (part_here catalog i rec W Then R)
        ];
      }

  -- each record that may come
  recorded_some : (r : Record) → IsRecorded catalog i (Some r) W Then → IsDue catalog W put i r → IsCore catalog Then
  recorded_some (Boot epoch) R due = by_boot_record epoch R
  recorded_some (Own seq x) R due = by_own_record seq x R due
  recorded_some (Got j seq x) R due = by_got_record j seq x R due
  recorded_some (Seen j seq) R due = by_seen_record j seq R due
  recorded_some (Prepared j n tid objects) R due = by_prepared_record j n tid objects R due
  recorded_some (Released j n) R due = by_released_record j n R due
  recorded_some (SlowBegin n x) R due = by_begin_record n x R due
  recorded_some (SlowEnd n) R due = by_end_record n R
  recorded_some (Marks durable visible) R due = by_marks_record durable visible R
  recorded_some FormatRecord R due = by_format_record R

  -- or none
  pub recorded_core : (rec : Option Record) → IsRecorded catalog i rec W Then → IfSome rec (IsDue catalog W put i)
      → IsCore catalog Then
  recorded_core None R due =
      let same : (k : SiteId) → lost (Then k).knows ≡ lost (W k).knows = at_all (λ k. lost (Then k).knows)
      (λ k. lost (W k).knows) i R.here (λ k apart. ap (λ (S : Standing). lost S.knows) (R.away k apart)) in
      let same_log : (k : SiteId) → logs Then k ≡ logs W k = λ k. ap (λ (K : Knowledge). K.log) (same k) in
      record {
        numbered = numbered_same (owns W) (owns Then) (logs W) (logs Then) (counts W) (counts Then)
            (λ k. ap (of_site k) (same_log k)) same_log (λ k j. ap (λ (K : Knowledge). K.committed j)
            (same k)) A.numbered;
        counted = λ k j. ap (λ (K : Knowledge). K.got j) (same k) ∙ A.counted k j ∙ ap (λ l. length (of_site j l))
            (sym (same_log k));
        causal = λ k. subst (λ l. IsCausalLog l) (sym (same_log k)) (A.causal k);
        locked = locked_same (home catalog) (owns W) (owns Then) (logs W) (logs Then) (counts W) (counts Then) (slows W)
            (slows Then) (parts W) (parts Then)
            (λ k. ap (of_site k) (same_log k)) same_log (λ k j. ap (λ (K : Knowledge). K.committed j) (same k))
            (λ k n. ap (λ (K : Knowledge). K.slow n) (same k))
            (λ k j n. ap (λ (K : Knowledge). K.part j n) (same k)) A.locked;
      }
  recorded_core (Some r) R due = recorded_some r R due
