-- Tables that take in what a peer said stand for what is known then.
use Rattle.std.proofs.Common.{◌≡◌, ◌≤◌, ◌<◌, ℕ, nat_eq, true, false, Option, Some, None, List, [], ◌∷◌, ◌++◌, length, option_map, refl, ap, sym, ◌∙◌, subst, inl, inr, if◌then◌else◌}
use Rattle.std.specs.Prelude.{max, slice_set}
use Rattle.std.proofs.lemmas.Bool.{eqb-true, le-leb}
use Rattle.walter_base.specs.declared.names.SiteId.{SiteId}
use Rattle.walter_base.specs.declared.packet.Answer.TheVariants.{Yes, No, Later}
use Rattle.walter_base.specs.declared.packet.Packet.{Packet}
use Rattle.walter_base.specs.declared.packet.Packet.TheVariants.{Propagate, Ack, Dsmark, Visible, Prepare, Vote, Release, Released}
use Rattle.walter_base.specs.declared.transaction.Conflict.{Conflict}
use Rattle.walter_base.specs.declared.transaction.Tx.{Tx}
use Rattle.walter_base.specs.Vectors.{entry_at}
use Rattle.walter_durable.specs.Marks.{Holdings, own, heard as heard_said, with_acknowledged, with_visible}
use Rattle.walter_rules.specs.declared.event.Event.TheVariants.{Given}
use Rattle.walter_rules.specs.declared.event.Input.TheVariants.{Deliver}
use Rattle.walter_rules.specs.declared.outcome.Outcome.TheVariants.{Taken}
use Rattle.walter_rows.specs.Rows.{AreTotalsOf}
use Rattle.walter_rules.specs.Knowledge.{Knowledge}
use Rattle.walter_rules.specs.Learning.{heard, risen}
use Rattle.walter_rules.specs.Slow.{Slow, Undecided, Dropped, Decided}
use Rattle.walter_slow.specs.Kept.{kept_of, heard_yes, heard_released, heard_no}
use Rattle.walter_slow.specs.Sites.{is_missing}
use Rattle.walter_slow.specs.Tables.{Table as SlowCommits, commit_of}
use Rattle.walter_spread.specs.Propagation.{Progress, with_durable}
use Rattle.std.specs.Prelude.{◌⊎◌}
use Rattle.walter_tables.specs.Hearing.{IsNewsOf, IsYesOf, IsReleasedBy}
use Rattle.walter_tables.specs.Parts.{IsSpreadOf, IsDurableOf, AreSlowOf}
use Rattle.walter_tables.specs.Sound.{HasDropped, IsHeardOf}
use Rattle.walter_tables.specs.Standing.{Values, StandFor}
use Rattle.walter_tables.proofs.PartsKept.{risen_entry}
use Rattle.walter_tables.proofs.SoundKept.{sound_after}

-- what is kept, once the YES of a site that is missing is heard; a NO; a RELEASED
yes_kept : (g : Slow) (j : SiteId) (agreed : List SiteId) (refused : Option Conflict) (released : List SiteId)
    → ((tx : Tx) × (asked : List SiteId) × (g ≡ Undecided tx asked) × (is_missing j asked agreed ≡ true)) ⊎ ((tx : Tx) × (g ≡ Decided tx))
    → option_map (heard_yes j) (kept_of g agreed refused released) ≡ kept_of g (agreed ++ j ∷ []) refused released
yes_kept g j agreed refused released is = elim is [
  | inl u ↦
      ap (λ x. option_map (heard_yes j) (kept_of x agreed refused released)) u.2
      ∙ ap (λ b. Some (record { tx = Some u.0; asked = u.1; heard = if b then agreed ++ j ∷ [] else agreed; no = None })) u.3
      ∙ sym (ap (λ x. kept_of x (agreed ++ j ∷ []) refused released) u.2)
  | inr d ↦
      ap (λ x. option_map (heard_yes j) (kept_of x agreed refused released)) d.1
      ∙ sym (ap (λ x. kept_of x (agreed ++ j ∷ []) refused released) d.1)
]

no_kept : (g : Slow) (conflict : Conflict) (agreed : List SiteId) (refused : Option Conflict) (released : List SiteId)
    → HasDropped g → option_map (heard_no conflict) (kept_of g agreed refused released) ≡ kept_of g agreed (Some conflict) released
no_kept g conflict agreed refused released is =
    ap (λ x. option_map (heard_no conflict) (kept_of x agreed refused released)) is.2
    ∙ sym (ap (λ x. kept_of x agreed (Some conflict) released) is.2)

released_kept : (g : Slow) (j : SiteId) (agreed : List SiteId) (refused : Option Conflict) (released : List SiteId)
    → (tx : Tx) × (asked : List SiteId) × (g ≡ Dropped tx asked) × (is_missing j asked released ≡ true)
    → option_map (heard_released j) (kept_of g agreed refused released) ≡ kept_of g agreed refused (released ++ j ∷ [])
released_kept g j agreed refused released u =
    ap (λ x. option_map (heard_released j) (kept_of x agreed refused released)) u.2
    ∙ ap (λ b. Some (record { tx = None; asked = u.1; heard = if b then released ++ j ∷ [] else released; no = refused })) u.3
    ∙ sym (ap (λ x. kept_of x agreed refused (released ++ j ∷ [])) u.2)

-- a number that is heard of own commits that there are
heard_entry : (v : List ℕ) (said : SiteId → ℕ) (most : ℕ) → ((k : SiteId) → entry_at v k ≡ said k) → (j : SiteId) (n : ℕ) → n ≤ most
    → j.0 < length v → (k : SiteId) → entry_at (heard_said most v j n) k ≡ risen j n said k
heard_entry v said most same j n within there k =
    ap (λ b. entry_at (if b then slice_set v j.0 (max (entry_at v j) n) else v) k) (le-leb n most within)
    ∙ risen_entry v said same j n k there

module _ (V : Values) (K : Knowledge) (S : StandFor V K) (j : SiteId) (number : ℕ) where
  abbrev pub heard_by : Packet → Knowledge
  heard_by packet = heard (Given (Deliver j number packet)) Taken K

  -- what was heard is of slow commits that were begun
  begun_votes : (packet : Packet) → IsNewsOf V.site K j packet → IsHeardOf K.slow (Given (Deliver j number packet)) Taken
  begun_votes (Vote n Yes) news = λ unused. elim news [
    | inl u ↦ let e = u.2 in absurd (let none = unused in cc)
    | inr d ↦ let e = d.1 in absurd (let none = unused in cc)
  ]
  begun_votes (Vote n (No conflict)) news = news
  begun_votes (Vote n Later) news = news
  begun_votes (Released n) news = (news.0, news.1, news.2)
  begun_votes (Propagate seq tx) news = tt
  begun_votes (Ack got) news = tt
  begun_votes (Dsmark durable) news = tt
  begun_votes (Visible committed) news = tt
  begun_votes (Prepare n tid start objects) news = tt
  begun_votes (Release n) news = tt

  pub stand_said : (packet : Packet) → IsNewsOf V.site K j packet
      → (spread2 : Progress) (durable2 : Holdings) (slow2 : SlowCommits) → spread2.committed ≡ V.spread.committed
      → IsSpreadOf spread2 (heard_by packet) → IsDurableOf V.catalog V.site durable2 (heard_by packet)
      → AreSlowOf slow2 (heard_by packet)
      → StandFor (record V { spread = spread2; durable = durable2; slow = slow2 }) (heard_by packet)
  stand_said packet news spread2 durable2 slow2 same spread durable slow = record {
    epoch = S.epoch;
    starts = S.starts;
    format = S.format;
    log = S.log;
    rows = S.rows;
    totals = subst (λ (v : List ℕ). AreTotalsOf v K.log V.totals) (sym same) S.totals;
    spread = spread;
    durable = durable;
    locks = record { parts = S.locks.parts; owners = S.locks.owners };
    slow = slow;
    sessions = S.sessions;
    sound = sound_after V.catalog V.site K (Given (Deliver j number packet)) Taken None S.sound (begun_votes packet news);
  }

  pub said_acknowledged : (got : ℕ) → got ≤ K.committed V.site → j.0 < length V.durable.acknowledged → (H : Holdings)
      → H ≡ with_acknowledged j got V.durable → IsDurableOf V.catalog V.site H (heard_by (Ack got))
  said_acknowledged got news there H is = subst (λ h. IsDurableOf V.catalog V.site h (heard_by (Ack got))) (sym is) (record {
    count = S.durable.count;
    homes = S.durable.homes;
    acknowledged = heard_entry V.durable.acknowledged K.acknowledged (own V.durable) S.durable.acknowledged j got
        (subst (λ n. got ≤ n) (sym S.durable.count) news) there;
    visible = S.durable.visible;
    durable_floor = S.durable.durable_floor;
    visible_floor = S.durable.visible_floor;
  })

  pub said_visible : (committed : ℕ) → committed ≤ K.committed V.site → j.0 < length V.durable.visible → (H : Holdings)
      → H ≡ with_visible j committed V.durable → IsDurableOf V.catalog V.site H (heard_by (Visible committed))
  said_visible committed news there H is = subst (λ h. IsDurableOf V.catalog V.site h (heard_by (Visible committed))) (sym is) (record {
    count = S.durable.count;
    homes = S.durable.homes;
    acknowledged = S.durable.acknowledged;
    visible = heard_entry V.durable.visible K.visible (own V.durable) S.durable.visible j committed
        (subst (λ n. committed ≤ n) (sym S.durable.count) news) there;
    durable_floor = S.durable.durable_floor;
    visible_floor = S.durable.visible_floor;
  })

  pub said_durable : (durable : ℕ) → j.0 < length V.spread.durable → (P : Progress) → P ≡ with_durable j durable V.spread
      → IsSpreadOf P (heard_by (Dsmark durable))
  said_durable durable there P is = subst (λ p. IsSpreadOf p (heard_by (Dsmark durable))) (sym is) (record {
    received = S.spread.received;
    seen = S.spread.seen;
    durable = λ k. risen_entry V.spread.durable K.durable S.spread.durable j durable k there;
  })

  -- the other tables are as they were
  pub same_spread : (packet : Packet) → (heard_by packet).durable ≡ K.durable → IsSpreadOf V.spread (heard_by packet)
  same_spread packet same = record {
    received = S.spread.received;
    seen = S.spread.seen;
    durable = λ k. S.spread.durable k ∙ ap (λ (f : SiteId → ℕ). f k) (sym same);
  }

  pub same_durable : (packet : Packet) → (heard_by packet).acknowledged ≡ K.acknowledged → (heard_by packet).visible ≡ K.visible
      → IsDurableOf V.catalog V.site V.durable (heard_by packet)
  same_durable packet acknowledged visible = record {
    count = S.durable.count;
    homes = S.durable.homes;
    acknowledged = λ k. S.durable.acknowledged k ∙ ap (λ (f : SiteId → ℕ). f k) (sym acknowledged);
    visible = λ k. S.durable.visible k ∙ ap (λ (f : SiteId → ℕ). f k) (sym visible);
    durable_floor = S.durable.durable_floor;
    visible_floor = S.durable.visible_floor;
  }

  pub said_yes : (n : ℕ) → IsYesOf K j n → (T : SlowCommits) → T.last ≡ V.slow.last
      → ((m : ℕ) → commit_of T m ≡ (if nat_eq n m then option_map (heard_yes j) (commit_of V.slow m) else commit_of V.slow m))
      → AreSlowOf T (heard_by (Vote n Yes))
  said_yes n news T last kept = record {
    last = last ∙ S.slow.last;
    kept = λ m. kept m ∙ elim (nat_eq n m) as (λ b. nat_eq n m ≡ b
        → (if b then option_map (heard_yes j) (commit_of V.slow m) else commit_of V.slow m)
        ≡ kept_of (K.slow m) (if b then K.said_yes m ++ j ∷ [] else K.said_yes m) (K.said_no m) (K.said_released m)) [
          | true ↦ λ is.
              ap (option_map (heard_yes j)) (S.slow.kept m)
              ∙ yes_kept (K.slow m) j (K.said_yes m) (K.said_no m) (K.said_released m) (subst (IsYesOf K j) (eqb-true n m is) news)
          | false ↦ λ is. S.slow.kept m
        ] refl;
  }

  pub said_no : (n : ℕ) (conflict : Conflict) → HasDropped (K.slow n) → (T : SlowCommits) → T.last ≡ V.slow.last
      → ((m : ℕ) → commit_of T m ≡ (if nat_eq n m then option_map (heard_no conflict) (commit_of V.slow m) else commit_of V.slow m))
      → AreSlowOf T (heard_by (Vote n (No conflict)))
  said_no n conflict news T last kept = record {
    last = last ∙ S.slow.last;
    kept = λ m. kept m ∙ elim (nat_eq n m) as (λ b. nat_eq n m ≡ b
        → (if b then option_map (heard_no conflict) (commit_of V.slow m) else commit_of V.slow m)
        ≡ kept_of (K.slow m) (K.said_yes m) (if b then Some conflict else K.said_no m) (K.said_released m)) [
          | true ↦ λ is.
              ap (option_map (heard_no conflict)) (S.slow.kept m)
              ∙ no_kept (K.slow m) conflict (K.said_yes m) (K.said_no m) (K.said_released m)
              (subst (λ q. HasDropped (K.slow q)) (eqb-true n m is) news)
          | false ↦ λ is. S.slow.kept m
        ] refl;
  }

  pub said_released : (n : ℕ) → IsReleasedBy K j n → (T : SlowCommits) → T.last ≡ V.slow.last
      → ((m : ℕ) → commit_of T m ≡ (if nat_eq n m then option_map (heard_released j) (commit_of V.slow m) else commit_of V.slow m))
      → AreSlowOf T (heard_by (Released n))
  said_released n news T last kept = record {
    last = last ∙ S.slow.last;
    kept = λ m. kept m ∙ elim (nat_eq n m) as (λ b. nat_eq n m ≡ b
        → (if b then option_map (heard_released j) (commit_of V.slow m) else commit_of V.slow m)
        ≡ kept_of (K.slow m) (K.said_yes m) (K.said_no m) (if b then K.said_released m ++ j ∷ [] else K.said_released m)) [
          | true ↦ λ is.
              ap (option_map (heard_released j)) (S.slow.kept m)
              ∙ released_kept (K.slow m) j (K.said_yes m) (K.said_no m) (K.said_released m)
              (subst (IsReleasedBy K j) (eqb-true n m is) news)
          | false ↦ λ is. S.slow.kept m
        ] refl;
  }

  pub same_slow : (packet : Packet) → (heard_by packet).said_yes ≡ K.said_yes → (heard_by packet).said_no ≡ K.said_no
      → (heard_by packet).said_released ≡ K.said_released → AreSlowOf V.slow (heard_by packet)
  same_slow packet agreed refused released = record {
    last = S.slow.last;
    kept = λ n. S.slow.kept n ∙ (λ t. kept_of (K.slow n) (sym agreed t n) (sym refused t n) (sym released t n));
  }
