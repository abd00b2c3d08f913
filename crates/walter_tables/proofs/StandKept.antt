-- Tables that go on as a record says stand for what is known behind it.
use Rattle.std.proofs.Common.{◌≡◌, ◌≢◌, ◌+◌, ◌-◌, ◌<◌, ℕ, zero, suc, nat_eq, Bool, true, false, Some, None, List, [], ◌∷◌, ◌++◌, length, All, option_map, refl, ap, sym, ◌∙◌, subst, inl, inr, arith, if◌then◌else◌}
use Rattle.std.proofs.lemmas.Bool.{cases_Bool, eqb-true, leb-true}
use Rattle.std.proofs.lemmas.List.{length_push}
use Rattle.std.proofs.lemmas.List.Elements.{All-weaker}
use Rattle.walter_base.specs.declared.format.Format.{Format}
use Rattle.walter_base.specs.declared.format.Format.TheVariants.{Second}
use Rattle.walter_base.specs.declared.message.Record.{Record}
use Rattle.walter_base.specs.declared.message.Record.TheVariants.{Boot, Own, Got, Seen, Prepared, Released, SlowBegin, SlowEnd, Marks, Format as FormatRecord}
use Rattle.walter_base.specs.declared.names.ObjId.{ObjId}
use Rattle.walter_base.specs.declared.names.SiteId.{SiteId}
use Rattle.walter_base.specs.declared.names.Tid.{Tid}
use Rattle.walter_base.specs.declared.transaction.Tx.{Tx}
use Rattle.walter_base.specs.declared.update.Update.{Update}
use Rattle.walter_base.specs.Names.{same_site}
use Rattle.walter_base.specs.Vectors.{entry_at}
use Rattle.walter_base.proofs.NameTests.{same_site_refl}
use Rattle.walter_durable.specs.Marks.{Holdings, own, with_own as with_own_kept, with_floors}
use Rattle.walter_cset.specs.Totals.{Table as Totals, total_of}
use Rattle.walter_history.specs.Lines.{Table as History}
use Rattle.walter_locks.specs.Parts.{Table as Locks, part_of, owner_of}
use Rattle.walter_objects.specs.Preferred.{homes_of}
use Rattle.walter_rows.specs.Rows.{AreRowsOf, AreTotalsOf, SeesAlike}
use Rattle.walter_rows.proofs.Committed.{received_only}
use Rattle.walter_rules.specs.declared.held.Held.{Held}
use Rattle.walter_rules.specs.Knowledge.{Knowledge, from_to}
use Rattle.walter_rules.specs.Learning.{recorded, one_more, part_over, freed_over, is_locked_here, slow_number}
use Rattle.walter_rules.specs.Log.{commit_at, sees}
use Rattle.walter_rules.specs.Objects.{objects_at, participants}
use Rattle.walter_rules.specs.Records.{CanFollow, IsRecordAmong}
use Rattle.walter_rules.specs.Slow.{Locked, Over, does_lock, unlocked, is_slow, has_object, Undecided, decided, ended}
use Rattle.walter_rules.proofs.RuleTests.{peer_true}
use Rattle.walter_rules.proofs.Membership.{one_passes}
use Rattle.walter_agreement.proofs.Cases.{site_cases}
use Rattle.walter_alone.proofs.TestsPass.{some_pass, in_from_to}
use Rattle.walter_slow.specs.Kept.{kept_of, booted}
use Rattle.walter_slow.specs.Tables.{Table as SlowCommits, commit_of}
use Rattle.walter_spread.specs.Propagation.{Progress, with_received, with_committed, with_own}
use Rattle.walter_tables.specs.Parts.{IsSpreadOf, IsDurableOf, without_decided, owner_over}
use Rattle.walter_tables.specs.Sound.{IsSound}
use Rattle.walter_tables.specs.Standing.{Values, StandFor}
use Rattle.walter_tables.proofs.PartsKept.{one_more_entry, homes_then, other_commits, kept_booted, kept_decided}
use Rattle.walter_tables.proofs.Numbers.{IsOther, IsBetween, all_between, held_once, once_commit, all_as_before, unseen_before, seen_behind}
use Rattle.walter_tables.proofs.SoundKept.{sound_recorded, own_got}

-- what the counts of sets are moved by: an own commit, which the log gets, and one that is held already
abbrev pub CountsOwn : List Update → Totals → Totals → Type 0
CountsOwn updates old new = (before after : List ℕ) (log : List Held) (h : Held) → h.tx.updates ≡ updates
    → SeesAlike before after log → sees after h ≡ true → AreTotalsOf before log old → AreTotalsOf after (log ++ h ∷ []) new

abbrev pub CountsHeld : SiteId → ℕ → List Held → Totals → Totals → Type 0
CountsHeld j seq log old new = (before after : List ℕ) (front back : List Held) (h : Held)
    → commit_at j seq log ≡ Some h.tx → SeesAlike before after front → SeesAlike before after back
    → sees before h ≡ false → sees after h ≡ true → AreTotalsOf before (front ++ h ∷ back) old
    → AreTotalsOf after (front ++ h ∷ back) new

own_more_count : (H : Holdings) (preferred : List SiteId) → own (with_own_kept preferred H) ≡ own H + 1
own_more_count H preferred = length_push H.preferred preferred

one_apart : (j i : SiteId) (counts : SiteId → ℕ) → j ≢ i → one_more j counts i ≡ counts i
one_apart j i counts apart = elim (site_cases j i) [
  | inl same ↦ absurd (apart same.1)
  | inr other ↦ ap (λ b. if b then counts i + 1 else counts i) other.0
]

one_here : (i : SiteId) (counts : SiteId → ℕ) → one_more i counts i ≡ counts i + 1
one_here i counts = ap (λ b. if b then counts i + 1 else counts i) (same_site_refl i)

module _ (V : Values) (K : Knowledge) (S : StandFor V K) (below : V.site.0 < V.catalog.sites) where
  -- the lock of an own slow commit goes
  unlocked_own : (m : ℕ) (locks2 : Locks)
      → ((j : SiteId) (n : ℕ) → part_of locks2 j n
      ≡ (if is_slow V.site m j n then unlocked (part_of V.locks j n) else part_of V.locks j n))
      → (j : SiteId) (n : ℕ) → part_of locks2 j n ≡ (if is_slow V.site m j n then unlocked (K.part j n) else K.part j n)
  unlocked_own m locks2 parts j n =
      parts j n ∙ ap (λ p. if is_slow V.site m j n then unlocked p else p) (S.locks.parts j n)

  freed_own : (k : SiteId) (m : ℕ) (locks2 : Locks)
      → ((oid : ObjId) → owner_of locks2 oid
      ≡ (if does_lock (part_of V.locks k m) oid then None else owner_of V.locks oid))
      → (oid : ObjId) → owner_of locks2 oid ≡ (if does_lock (K.part k m) oid then None else K.owner oid)
  freed_own k m locks2 owners oid =
      owners oid ∙ (λ t. if does_lock (S.locks.parts k m t) oid then None else S.locks.owners oid t)

  -- an own commit is counted: each that was held is seen as before, and it is seen now
  own_totals : (seq : ℕ) (tx : Tx) → CanFollow V.catalog V.site K (Own seq tx) → V.site.0 < length V.spread.committed
      → V.spread.site ≡ V.site → (totals2 : Totals) → CountsOwn tx.updates V.totals totals2
      → AreTotalsOf (with_own V.spread).committed (K.log ++ record { seq = seq; tx = tx } ∷ []) totals2
  own_totals seq tx f commits here totals2 counted =
      let i = V.site in
      let h : Held = record { seq = seq; tx = tx } in
      let before = V.spread.committed in
      let after = (with_own V.spread).committed in
      let are : (k : SiteId) → entry_at after k ≡ one_more i K.committed k = λ k.
      ap (λ (s : SiteId). entry_at (with_own (record V.spread { site = s })).committed k) here
      ∙ one_more_entry before K.committed S.spread.seen i k commits in
      counted before after K.log h refl
      (all_as_before before after K.committed S.spread.seen i are K.log (All-weaker (IsBetween i 1 (K.got i + 1 - 1)) (IsOther i (K.committed i + 1))
      (λ g between of same. let within = between of in
      let got = own_got V.catalog V.site below K S.sound in absurd (omega (arith, within.1, same, got))) K.log
      (all_between i K.log 1 (K.got i + 1 - 1) (S.sound.numbered i))))
      (seen_behind before after K.committed S.spread.seen i are h f.here f.next) S.totals

  pub stand_own : (seq : ℕ) (tx : Tx) → CanFollow V.catalog V.site K (Own seq tx)
      → IsRecordAmong V.catalog.sites (Own seq tx) → (V.site.0 < length V.spread.got) → (V.site.0 < length V.spread.committed)
      → V.spread.site ≡ V.site
      → (log2 : List Held) (history2 : History) (totals2 : Totals) (spread2 : Progress) (durable2 : Holdings) (locks2 : Locks)
      (slow2 : SlowCommits)
      → log2 ≡ V.log ++ record { seq = seq; tx = tx } ∷ []
      → AreRowsOf V.catalog (K.log ++ record { seq = seq; tx = tx } ∷ []) history2
      → CountsOwn tx.updates V.totals totals2
      → spread2 ≡ with_own V.spread
      → durable2 ≡ with_own_kept (homes_of V.catalog tx.updates) V.durable
      → ((j : SiteId) (n : ℕ) → part_of locks2 j n
      ≡ (if is_slow V.site tx.slow j n then unlocked (part_of V.locks j n) else part_of V.locks j n))
      → ((oid : ObjId) → owner_of locks2 oid
      ≡ (if does_lock (part_of V.locks V.site tx.slow) oid then None else owner_of V.locks oid))
      → slow2.last ≡ V.slow.last
      → ((n : ℕ) → commit_of slow2 n ≡ (if nat_eq tx.slow n then without_decided (commit_of V.slow n) else commit_of V.slow n))
      → StandFor (record V { log = log2; history = history2; totals = totals2; spread = spread2; durable = durable2; locks = locks2; slow = slow2 })
      (recorded V.catalog V.site (Some (Own seq tx)) K)
  stand_own seq tx f sizes gots commits here log2 history2 totals2 spread2 durable2 locks2 slow2 log rows counted spread durable parts owners last kept =
      let h : Held = record { seq = seq; tx = tx } in record {
        epoch = S.epoch;
        starts = S.starts;
        format = S.format;
        log = log ∙ ap (λ hs. hs ++ h ∷ []) S.log;
        rows = rows;
        totals = subst (λ (P : Progress). AreTotalsOf P.committed (K.log ++ h ∷ []) totals2) (sym spread)
            (own_totals seq tx f commits here totals2 counted);
        spread = subst (λ P. IsSpreadOf P (recorded V.catalog V.site (Some (Own seq tx)) K)) (sym spread) (record {
          received = λ k. ap (λ (i : SiteId). entry_at (with_own (record V.spread { site = i })).got k) here
              ∙ one_more_entry V.spread.got K.got S.spread.received V.site k gots;
          seen = λ k. ap (λ (i : SiteId). entry_at (with_own (record V.spread { site = i })).committed k) here
              ∙ one_more_entry V.spread.committed K.committed S.spread.seen V.site k commits;
          durable = S.spread.durable;
        });
        durable = subst (λ H. IsDurableOf V.catalog V.site H (recorded V.catalog V.site (Some (Own seq tx)) K)) (sym durable) (record {
          count = own_more_count V.durable (homes_of V.catalog tx.updates) ∙ ap (λ (n : ℕ). n + 1) S.durable.count ∙ sym (one_here V.site K.committed);
          homes = homes_then V.catalog V.site V.durable K.log h (S.durable.count ∙ sym S.sound.counted) f.here S.durable.homes;
          acknowledged = S.durable.acknowledged;
          visible = S.durable.visible;
          durable_floor = S.durable.durable_floor;
          visible_floor = S.durable.visible_floor;
        });
        locks = record { parts = unlocked_own tx.slow locks2 parts; owners = freed_own V.site tx.slow locks2 owners };
        slow = record {
          last = last ∙ S.slow.last;
          kept = λ n. kept n ∙ elim (nat_eq tx.slow n) as (λ b. (if b then without_decided (commit_of V.slow n) else commit_of V.slow n)
              ≡ kept_of (if b then decided (K.slow n) else K.slow n) (K.said_yes n) (K.said_no n) (K.said_released n)) [
                | true ↦ ap without_decided (S.slow.kept n) ∙ kept_decided (K.slow n) (K.said_yes n) (K.said_no n) (K.said_released n)
                | false ↦ S.slow.kept n
              ];
        };
        sessions = S.sessions;
        sound = sound_recorded V.catalog V.site below K S.sound (Own seq tx) f sizes;
      }

  -- rows that are folded stand for what they stood for
  pub stand_folded : (history2 : History) → AreRowsOf V.catalog K.log history2 → StandFor (record V { history = history2 }) K
  stand_folded history2 rows = record {
    epoch = S.epoch;
    starts = S.starts;
    format = S.format;
    log = S.log;
    rows = rows;
    totals = S.totals;
    spread = record { received = S.spread.received; seen = S.spread.seen; durable = S.spread.durable };
    durable = record {
      count = S.durable.count;
      homes = S.durable.homes;
      acknowledged = S.durable.acknowledged;
      visible = S.durable.visible;
      durable_floor = S.durable.durable_floor;
      visible_floor = S.durable.visible_floor;
    };
    locks = record { parts = S.locks.parts; owners = S.locks.owners };
    slow = record { last = S.slow.last; kept = S.slow.kept };
    sessions = S.sessions;
    sound = S.sound;
  }

  -- and so do rows with more room, and counts with other places
  pub stand_placed : (totals2 : Totals) → ((oid : ObjId) (id : ℕ) → total_of totals2 oid id ≡ total_of V.totals oid id)
      → StandFor (record V { totals = totals2 }) K
  stand_placed totals2 same = record {
    epoch = S.epoch;
    starts = S.starts;
    format = S.format;
    log = S.log;
    rows = S.rows;
    totals = λ oid id. same oid id ∙ S.totals oid id;
    spread = record { received = S.spread.received; seen = S.spread.seen; durable = S.spread.durable };
    durable = record {
      count = S.durable.count;
      homes = S.durable.homes;
      acknowledged = S.durable.acknowledged;
      visible = S.durable.visible;
      durable_floor = S.durable.durable_floor;
      visible_floor = S.durable.visible_floor;
    };
    locks = record { parts = S.locks.parts; owners = S.locks.owners };
    slow = record { last = S.slow.last; kept = S.slow.kept };
    sessions = S.sessions;
    sound = S.sound;
  }

  -- what a record leaves as it was
  abbrev IsSoundThen : Record → Type 0
  IsSoundThen rec = CanFollow V.catalog V.site K rec → IsRecordAmong V.catalog.sites rec
      → IsSound V.catalog V.site (recorded V.catalog V.site (Some rec) K)

  sound_then : (rec : Record) → IsSoundThen rec
  sound_then rec f sizes = sound_recorded V.catalog V.site below K S.sound rec f sizes

  -- a commit that is received now isn't seen yet
  not_seen_yet : (j : SiteId) (seq : ℕ) (tx : Tx) → CanFollow V.catalog V.site K (Got j seq tx)
      → sees V.spread.committed (record { seq = seq; tx = tx }) ≡ false
  not_seen_yet j seq tx f = by (sees V.spread.committed (record { seq = seq; tx = tx })) refl
    where
      by : (b : Bool) → sees V.spread.committed (record { seq = seq; tx = tx }) ≡ b → b ≡ false
      by false is = refl
      by true is =
          let low = leb-true seq (entry_at V.spread.committed tx.tid.site) is in
          let seen = S.spread.seen tx.tid.site in
          let received = S.sound.received tx.tid.site in
          let next = f.next ∙ ap (λ (k : SiteId). K.got k + 1) (sym f.sender) in
          absurd (omega (arith, low, seen, received, next))

  pub stand_got : (j : SiteId) (seq : ℕ) (tx : Tx) → CanFollow V.catalog V.site K (Got j seq tx)
      → IsRecordAmong V.catalog.sites (Got j seq tx) → j.0 < length V.spread.got
      → (log2 : List Held) (history2 : History) (spread2 : Progress)
      → log2 ≡ V.log ++ record { seq = seq; tx = tx } ∷ []
      → AreRowsOf V.catalog (K.log ++ record { seq = seq; tx = tx } ∷ []) history2
      → spread2 ≡ with_received j V.spread
      → StandFor (record V { log = log2; history = history2; spread = spread2 })
      (recorded V.catalog V.site (Some (Got j seq tx)) K)
  stand_got j seq tx f sizes within log2 history2 spread2 log rows spread =
      let h : Held = record { seq = seq; tx = tx } in
      let apart : tx.tid.site ≢ V.site = λ same. (peer_true V.catalog V.site j f.peer).1 (sym f.sender ∙ same) in
      let other : same_site tx.tid.site V.site ≡ false = elim (site_cases tx.tid.site V.site) [
        | inl same ↦ absurd (apart same.1)
        | inr is ↦ is.0
      ] in record {
        epoch = S.epoch;
        starts = S.starts;
        format = S.format;
        log = log ∙ ap (λ hs. hs ++ h ∷ []) S.log;
        rows = rows;
        totals = subst (λ (P : Progress). AreTotalsOf P.committed (K.log ++ h ∷ []) V.totals) (sym spread)
            (received_only V.spread.committed K.log h V.totals (not_seen_yet j seq tx f) S.totals);
        spread = subst (λ P. IsSpreadOf P (recorded V.catalog V.site (Some (Got j seq tx)) K)) (sym spread) (record {
          received = λ k. one_more_entry V.spread.got K.got S.spread.received j k within;
          seen = S.spread.seen;
          durable = S.spread.durable;
        });
        durable = record {
          count = S.durable.count;
          homes = λ q x low is. S.durable.homes q x low (sym (other_commits V.site q K.log h other) ∙ is);
          acknowledged = S.durable.acknowledged;
          visible = S.durable.visible;
          durable_floor = S.durable.durable_floor;
          visible_floor = S.durable.visible_floor;
        };
        locks = record { parts = S.locks.parts; owners = S.locks.owners };
        slow = record { last = S.slow.last; kept = S.slow.kept };
        sessions = S.sessions;
        sound = sound_then (Got j seq tx) f sizes;
      }

  -- the slow commit of another is over here, where the transaction had one
  over_parts : (j : SiteId) (m : ℕ) (locks2 : Locks)
      → ((k : SiteId) (n : ℕ) → part_of locks2 k n ≡ part_over j m (part_of V.locks) k n)
      → (k : SiteId) (n : ℕ) → part_of locks2 k n ≡ part_over j m K.part k n
  over_parts j zero locks2 parts k n = parts k n ∙ S.locks.parts k n
  over_parts j (suc m) locks2 parts k n =
      parts k n ∙ ap (λ p. if is_slow j (suc m) k n then Over else p) (S.locks.parts k n)

  over_owners : (j : SiteId) (m : ℕ) (locks2 : Locks)
      → ((oid : ObjId) → owner_of locks2 oid ≡ owner_over j m (part_of V.locks) (owner_of V.locks) oid)
      → (oid : ObjId) → owner_of locks2 oid ≡ freed_over j m K oid
  over_owners j zero locks2 owners oid = owners oid ∙ S.locks.owners oid
  over_owners j (suc m) locks2 owners oid =
      owners oid ∙ (λ t. if does_lock (S.locks.parts j (suc m) t) oid then None else S.locks.owners oid t)

  -- the next commit of another site is counted: it stands once in the log, and each other is seen as before
  seen_totals : (j : SiteId) (seq : ℕ) → CanFollow V.catalog V.site K (Seen j seq) → j.0 < length V.spread.committed
      → (totals2 : Totals) → CountsHeld j seq V.log V.totals totals2
      → AreTotalsOf (with_committed j V.spread).committed K.log totals2
  seen_totals j seq f within totals2 counted =
      let before = V.spread.committed in
      let after = (with_committed j V.spread).committed in
      let are : (k : SiteId) → entry_at after k ≡ one_more j K.committed k = λ k.
      one_more_entry before K.committed S.spread.seen j k within in
      let next = f.next in
      let once = held_once j K.log (K.got j) seq (S.sound.numbered j) (omega (arith, next)) f.received in
      let alike : (log : List Held) → All (IsOther j seq) log → SeesAlike before after log = λ log others.
      all_as_before before after K.committed S.spread.seen j are log
      (subst (λ (n : ℕ). All (IsOther j n) log) next others) in
      subst (λ log. AreTotalsOf after log totals2) (sym once.split)
      (counted before after once.front once.back once.h
      (ap (commit_at j seq) S.log ∙ once_commit j seq K.log once) (alike once.front once.before) (alike once.back once.behind)
      (unseen_before before after K.committed S.spread.seen j are once.h once.here (once.number ∙ next))
      (seen_behind before after K.committed S.spread.seen j are once.h once.here (once.number ∙ next))
      (subst (λ log. AreTotalsOf before log V.totals) once.split S.totals))

  pub stand_seen : (j : SiteId) (seq : ℕ) → CanFollow V.catalog V.site K (Seen j seq) → j.0 < length V.spread.committed
      → (totals2 : Totals) (spread2 : Progress) (locks2 : Locks)
      → CountsHeld j seq V.log V.totals totals2
      → spread2 ≡ with_committed j V.spread
      → ((k : SiteId) (n : ℕ) → part_of locks2 k n ≡ part_over j (slow_number (commit_at j seq V.log)) (part_of V.locks) k n)
      → ((oid : ObjId) → owner_of locks2 oid
      ≡ owner_over j (slow_number (commit_at j seq V.log)) (part_of V.locks) (owner_of V.locks) oid)
      → StandFor (record V { totals = totals2; spread = spread2; locks = locks2 }) (recorded V.catalog V.site (Some (Seen j seq)) K)
  stand_seen j seq f within totals2 spread2 locks2 counted spread parts owners =
      let same : slow_number (commit_at j seq V.log) ≡ slow_number (commit_at j seq K.log) =
      ap (λ log. slow_number (commit_at j seq log)) S.log in
      record {
        epoch = S.epoch;
        starts = S.starts;
        format = S.format;
        log = S.log;
        rows = S.rows;
        totals = subst (λ (P : Progress). AreTotalsOf P.committed K.log totals2) (sym spread)
            (seen_totals j seq f within totals2 counted);
        spread = subst (λ P. IsSpreadOf P (recorded V.catalog V.site (Some (Seen j seq)) K)) (sym spread) (record {
          received = S.spread.received;
          seen = λ k. one_more_entry V.spread.committed K.committed S.spread.seen j k within;
          durable = S.spread.durable;
        });
        durable = record {
          count = S.durable.count ∙ sym (one_apart j V.site K.committed (peer_true V.catalog V.site j f.peer).1);
          homes = S.durable.homes;
          acknowledged = S.durable.acknowledged;
          visible = S.durable.visible;
          durable_floor = S.durable.durable_floor;
          visible_floor = S.durable.visible_floor;
        };
        locks = record {
          parts = over_parts j (slow_number (commit_at j seq K.log)) locks2
              (λ k n. parts k n ∙ ap (λ m. part_over j m (part_of V.locks) k n) same);
          owners = over_owners j (slow_number (commit_at j seq K.log)) locks2
              (λ oid. owners oid ∙ ap (λ m. owner_over j m (part_of V.locks) (owner_of V.locks) oid) same);
        };
        slow = record { last = S.slow.last; kept = S.slow.kept };
        sessions = S.sessions;
        sound = sound_then (Seen j seq) f tt;
      }

  pub stand_prepared : (j : SiteId) (m : ℕ) (tid : Tid) (objects : List ObjId)
      → CanFollow V.catalog V.site K (Prepared j m tid objects)
      → IsRecordAmong V.catalog.sites (Prepared j m tid objects) → (locks2 : Locks)
      → ((k : SiteId) (n : ℕ) → part_of locks2 k n
      ≡ (if is_slow j m k n then Locked tid objects else part_of V.locks k n))
      → ((oid : ObjId) → owner_of locks2 oid ≡ (if has_object oid objects then Some tid else owner_of V.locks oid))
      → StandFor (record V { locks = locks2 }) (recorded V.catalog V.site (Some (Prepared j m tid objects)) K)
  stand_prepared j m tid objects f sizes locks2 parts owners = record {
    epoch = S.epoch;
    starts = S.starts;
    format = S.format;
    log = S.log;
    rows = S.rows;
    totals = S.totals;
    spread = record { received = S.spread.received; seen = S.spread.seen; durable = S.spread.durable };
    durable = record { count = S.durable.count; homes = S.durable.homes; acknowledged = S.durable.acknowledged; visible = S.durable.visible; durable_floor = S.durable.durable_floor; visible_floor = S.durable.visible_floor };
    locks = record {
      parts = λ k n. parts k n ∙ ap (λ p. if is_slow j m k n then Locked tid objects else p) (S.locks.parts k n);
      owners = λ oid. owners oid ∙ ap (λ o. if has_object oid objects then Some tid else o) (S.locks.owners oid);
    };
    slow = record { last = S.slow.last; kept = S.slow.kept };
    sessions = S.sessions;
    sound = sound_then (Prepared j m tid objects) f sizes;
  }

  pub stand_released : (j : SiteId) (m : ℕ) → CanFollow V.catalog V.site K (Released j m) → (locks2 : Locks)
      → ((k : SiteId) (n : ℕ) → part_of locks2 k n ≡ (if is_slow j m k n then Over else part_of V.locks k n))
      → ((oid : ObjId) → owner_of locks2 oid
      ≡ (if does_lock (part_of V.locks j m) oid then None else owner_of V.locks oid))
      → StandFor (record V { locks = locks2 }) (recorded V.catalog V.site (Some (Released j m)) K)
  stand_released j m f locks2 parts owners = record {
    epoch = S.epoch;
    starts = S.starts;
    format = S.format;
    log = S.log;
    rows = S.rows;
    totals = S.totals;
    spread = record { received = S.spread.received; seen = S.spread.seen; durable = S.spread.durable };
    durable = record { count = S.durable.count; homes = S.durable.homes; acknowledged = S.durable.acknowledged; visible = S.durable.visible; durable_floor = S.durable.durable_floor; visible_floor = S.durable.visible_floor };
    locks = record {
      parts = λ k n. parts k n ∙ ap (λ p. if is_slow j m k n then Over else p) (S.locks.parts k n);
      owners = freed_own j m locks2 owners;
    };
    slow = record { last = S.slow.last; kept = S.slow.kept };
    sessions = S.sessions;
    sound = sound_then (Released j m) f tt;
  }

  pub stand_begun : (m : ℕ) (tx : Tx) → CanFollow V.catalog V.site K (SlowBegin m tx)
      → IsRecordAmong V.catalog.sites (SlowBegin m tx) → (locks2 : Locks) (slow2 : SlowCommits)
      → ((k : SiteId) (n : ℕ) → part_of locks2 k n
      ≡ (if is_slow V.site m k n then Locked tx.tid (objects_at V.catalog K V.site tx.updates) else part_of V.locks k n))
      → ((oid : ObjId) → owner_of locks2 oid
      ≡ (if has_object oid (objects_at V.catalog K V.site tx.updates) then Some tx.tid else owner_of V.locks oid))
      → slow2.last ≡ m
      → ((n : ℕ) → commit_of slow2 n
      ≡ (if nat_eq m n then Some (record { tx = Some tx; asked = participants V.catalog K V.site tx.updates; heard = []; no = None })
      else commit_of V.slow n))
      → StandFor (record V { locks = locks2; slow = slow2 }) (recorded V.catalog V.site (Some (SlowBegin m tx)) K)
  stand_begun m tx f sizes locks2 slow2 parts owners last kept =
      let objects = objects_at V.catalog K V.site tx.updates in
      let asked = participants V.catalog K V.site tx.updates in
      record {
        epoch = S.epoch;
        starts = S.starts;
        format = S.format;
        log = S.log;
        rows = S.rows;
        totals = S.totals;
        spread = record { received = S.spread.received; seen = S.spread.seen; durable = S.spread.durable };
        durable = record { count = S.durable.count; homes = S.durable.homes; acknowledged = S.durable.acknowledged; visible = S.durable.visible; durable_floor = S.durable.durable_floor; visible_floor = S.durable.visible_floor };
        locks = record {
          parts = λ k n. parts k n ∙ ap (λ p. if is_slow V.site m k n then Locked tx.tid objects else p) (S.locks.parts k n);
          owners = λ oid. owners oid ∙ ap (λ o. if has_object oid objects then Some tx.tid else o) (S.locks.owners oid);
        };
        slow = record {
          last = last;
          kept = λ n. kept n ∙ elim (nat_eq m n) as (λ b. nat_eq m n ≡ b
              → (if b then Some (record { tx = Some tx; asked = asked; heard = []; no = None }) else commit_of V.slow n)
              ≡ kept_of (if b then Undecided tx asked else K.slow n) (K.said_yes n) (K.said_no n) (K.said_released n)) [
                | true ↦ λ is.
                    let e = eqb-true m n is in
                    let next = f.next in
                    let unheard = S.sound.ahead n (λ within. let high = within.1 in omega (arith, e, next, high)) in
                    (λ t. Some (record { tx = Some tx; asked = asked; heard = sym unheard.yes t; no = None }))
                | false ↦ λ is. S.slow.kept n
              ] refl;
        };
        sessions = S.sessions;
        sound = sound_then (SlowBegin m tx) f sizes;
      }

  pub stand_ended : (m : ℕ) → CanFollow V.catalog V.site K (SlowEnd m) → (locks2 : Locks) (slow2 : SlowCommits)
      → ((j : SiteId) (n : ℕ) → part_of locks2 j n
      ≡ (if is_slow V.site m j n then unlocked (part_of V.locks j n) else part_of V.locks j n))
      → ((oid : ObjId) → owner_of locks2 oid
      ≡ (if does_lock (part_of V.locks V.site m) oid then None else owner_of V.locks oid))
      → slow2.last ≡ V.slow.last
      → ((n : ℕ) → commit_of slow2 n ≡ (if nat_eq m n then option_map booted (commit_of V.slow n) else commit_of V.slow n))
      → StandFor (record V { locks = locks2; slow = slow2 }) (recorded V.catalog V.site (Some (SlowEnd m)) K)
  stand_ended m f locks2 slow2 parts owners last kept = record {
    epoch = S.epoch;
    starts = S.starts;
    format = S.format;
    log = S.log;
    rows = S.rows;
    totals = S.totals;
    spread = record { received = S.spread.received; seen = S.spread.seen; durable = S.spread.durable };
    durable = record { count = S.durable.count; homes = S.durable.homes; acknowledged = S.durable.acknowledged; visible = S.durable.visible; durable_floor = S.durable.durable_floor; visible_floor = S.durable.visible_floor };
    locks = record { parts = unlocked_own m locks2 parts; owners = freed_own V.site m locks2 owners };
    slow = record {
      last = last ∙ S.slow.last;
      kept = λ n. kept n ∙ elim (nat_eq m n) as (λ b. (if b then option_map booted (commit_of V.slow n) else commit_of V.slow n)
          ≡ kept_of (if b then ended (K.slow n) else K.slow n) (K.said_yes n) (K.said_no n) (K.said_released n)) [
            | true ↦ booted_kept n
            | false ↦ S.slow.kept n
          ];
    };
    sessions = S.sessions;
    sound = sound_then (SlowEnd m) f tt;
  }
    where
      booted_kept : (n : ℕ) → option_map booted (commit_of V.slow n)
          ≡ kept_of (ended (K.slow n)) (K.said_yes n) (K.said_no n) (K.said_released n)
      booted_kept n = ap (option_map booted) (S.slow.kept n)
          ∙ kept_booted (K.slow n) (K.said_yes n) (K.said_no n) (K.said_released n)
          (λ tx asked is. let was = S.sound.asking n tx asked is in (was.no, was.released))

  pub stand_marked : (durable visible : ℕ) → CanFollow V.catalog V.site K (Marks durable visible) → (durable2 : Holdings)
      → durable2 ≡ with_floors durable visible V.durable
      → StandFor (record V { durable = durable2 }) (recorded V.catalog V.site (Some (Marks durable visible)) K)
  stand_marked durable visible f durable2 is = record {
    epoch = S.epoch;
    starts = S.starts;
    format = S.format;
    log = S.log;
    rows = S.rows;
    totals = S.totals;
    spread = record { received = S.spread.received; seen = S.spread.seen; durable = S.spread.durable };
    durable = subst (λ H. IsDurableOf V.catalog V.site H (recorded V.catalog V.site (Some (Marks durable visible)) K)) (sym is) (record {
      count = S.durable.count;
      homes = S.durable.homes;
      acknowledged = S.durable.acknowledged;
      visible = S.durable.visible;
      durable_floor = refl;
      visible_floor = refl;
    });
    locks = record { parts = S.locks.parts; owners = S.locks.owners };
    slow = record { last = S.slow.last; kept = S.slow.kept };
    sessions = S.sessions;
    sound = sound_then (Marks durable visible) f tt;
  }

  pub stand_changed : CanFollow V.catalog V.site K FormatRecord → (format2 : Format) → format2 ≡ Second
      → StandFor (record V { format = format2 }) (recorded V.catalog V.site (Some FormatRecord) K)
  stand_changed f format2 is = record {
    epoch = S.epoch;
    starts = S.starts;
    format = is;
    log = S.log;
    rows = S.rows;
    totals = S.totals;
    spread = record { received = S.spread.received; seen = S.spread.seen; durable = S.spread.durable };
    durable = record { count = S.durable.count; homes = S.durable.homes; acknowledged = S.durable.acknowledged; visible = S.durable.visible; durable_floor = S.durable.durable_floor; visible_floor = S.durable.visible_floor };
    locks = record { parts = S.locks.parts; owners = S.locks.owners };
    slow = record { last = S.slow.last; kept = S.slow.kept };
    sessions = S.sessions;
    sound = sound_then FormatRecord f tt;
  }

  pub stand_booted : (epoch : ℕ) → CanFollow V.catalog V.site K (Boot epoch) → (locks2 : Locks) (slow2 : SlowCommits)
      → ((j : SiteId) (n : ℕ) → part_of locks2 j n
      ≡ (if same_site V.site j then unlocked (part_of V.locks j n) else part_of V.locks j n))
      → ((oid : ObjId) (n : ℕ) → does_lock (part_of V.locks V.site n) oid ≡ true → owner_of locks2 oid ≡ None)
      → ((oid : ObjId) → ((n : ℕ) → does_lock (part_of V.locks V.site n) oid ≡ false)
      → owner_of locks2 oid ≡ owner_of V.locks oid)
      → slow2.last ≡ V.slow.last → ((n : ℕ) → commit_of slow2 n ≡ option_map booted (commit_of V.slow n))
      → StandFor (record V { epoch = epoch; locks = locks2; slow = slow2 }) (recorded V.catalog V.site (Some (Boot epoch)) K)
  stand_booted epoch f locks2 slow2 parts freed others last kept = record {
    epoch = refl;
    starts = S.starts;
    format = S.format;
    log = S.log;
    rows = S.rows;
    totals = S.totals;
    spread = record { received = S.spread.received; seen = S.spread.seen; durable = S.spread.durable };
    durable = record { count = S.durable.count; homes = S.durable.homes; acknowledged = S.durable.acknowledged; visible = S.durable.visible; durable_floor = S.durable.durable_floor; visible_floor = S.durable.visible_floor };
    locks = record {
      parts = λ j n. parts j n ∙ ap (λ p. if same_site V.site j then unlocked p else p) (S.locks.parts j n);
      owners = owners_then;
    };
    slow = record {
      last = last ∙ S.slow.last;
      kept = λ n. kept n ∙ ap (option_map booted) (S.slow.kept n)
          ∙ kept_booted (K.slow n) (K.said_yes n) (K.said_no n) (K.said_released n)
          (λ tx asked is. let was = S.sound.asking n tx asked is in (was.no, was.released));
    };
    sessions = S.sessions;
    sound = sound_then (Boot epoch) f tt;
  }
    where
      -- an object that is locked for an own slow commit is so for one whose number was given
      locked_here : (oid : ObjId) (n : ℕ) → does_lock (part_of V.locks V.site n) oid ≡ true → is_locked_here V.site K oid ≡ true
      locked_here oid n is =
          let known : does_lock (K.part V.site n) oid ≡ true = subst (λ p. does_lock p oid ≡ true) (S.locks.parts V.site n) is in
          elim (S.sound.learned.given_ n) [
            | inl free ↦ absurd (let none : does_lock (K.part V.site n) oid ≡ false = ap (λ p. does_lock p oid) free in cc)
            | inr within ↦ some_pass (λ m. does_lock (K.part V.site m) oid) (from_to 1 K.last) n
                (in_from_to n K.last within.0 within.1) known
          ]

      owners_then : (oid : ObjId) → owner_of locks2 oid ≡ (if is_locked_here V.site K oid then None else K.owner oid)
      owners_then oid = elim (cases_Bool (is_locked_here V.site K oid)) [
        | inl is ↦
            let one = one_passes (λ n. does_lock (K.part V.site n) oid) (from_to 1 K.last) is in
            freed oid one.0 (subst (λ p. does_lock p oid ≡ true) (sym (S.locks.parts V.site one.0)) one.2)
            ∙ sym (ap (λ b. if b then None else K.owner oid) is)
        | inr none ↦
            others oid (λ n. elim (cases_Bool (does_lock (part_of V.locks V.site n) oid)) [
              | inl is ↦ absurd (let t = locked_here oid n is in cc)
              | inr is ↦ is
            ]) ∙ S.locks.owners oid ∙ sym (ap (λ b. if b then None else K.owner oid) none)
      ]
