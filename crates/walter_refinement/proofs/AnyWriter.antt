-- Reads, whoever writes: a session is answered by what its site's log has in its snapshot, in the log's order, and
-- the history says the same.
use Rattle.std.proofs.Common.{◌≡◌, ◌≢◌, ℕ, ◌<◌, ◌≤◌, List, ◌++◌, length, map, take, drop, ap, sym, ◌∙◌, subst, arith, slice_get, Some, true, inl, inr}
use Rattle.std.specs.Prelude.{Contains, Option, filter, flat_map}
use Rattle.std.proofs.lemmas.List.{take-append-drop}
use Rattle.std.proofs.lemmas.List.Elements.{filter-append}
use Rattle.walter_base.specs.declared.names.ObjId.{ObjId}
use Rattle.walter_base.specs.declared.names.SiteId.{SiteId}
use Rattle.walter_base.specs.declared.names.Tid.{Tid}
use Rattle.walter_base.specs.declared.update.Update.{Update}
use Rattle.walter_base.specs.Names.{same_site}
use Rattle.walter_base.specs.Vectors.{entry_at}
use Rattle.walter_base.proofs.NameTests.{same_site_refl}
use Rattle.walter_psi.specs.declared.step.Answer.{Answer}
use Rattle.walter_psi.specs.declared.step.Step.{Step}
use Rattle.walter_psi.specs.Histories.{log, snapshot, own_updates, committed_updates, seen_updates, IsCommitted}
use Rattle.walter_psi.specs.Legal.{IsLegal, IsAnswer}
use Rattle.walter_psi.proofs.Lists.{place_of, contains_at, slice_get-take, slice_get-take_within, slice_get-append_left}
use Rattle.walter_psi.proofs.Snapshots.{snapshot_front}
use Rattle.walter_psi.proofs.Logs.{committed_logged, logged_committed}
use Rattle.walter_rules.specs.declared.held.Held.{Held}
use Rattle.walter_rules.specs.Log.{is_of, of_site, sees}
use Rattle.walter_rules.specs.Sessions.{Session}
use Rattle.walter_agreement.proofs.Lists.{IsPrefix, prefix_back, prefix_trans, prefix_get, filter_place, filter_order, place_filtered, more_kept, map_place, flat_map_same}
use Rattle.walter_refinement.proofs.Orderly.{one_place, arrive_after, one_seen}
use Rattle.walter_refinement.proofs.SameReads.{by, count_of_same, answer_same}
use Rattle.walter_refinement.proofs.OrderReads.{writes_some, IsIn, AreOrdered, value_by_order}
use Rattle.walter_agreement.proofs.Numbers.{AreOwned, IsLogOf}
use Rattle.walter_agreement.proofs.CausalLogs.{IsCausalLog}
use Rattle.walter_refinement.proofs.Spelled.{Key, IsLive, IsKept, IsSpelledAt, tid_of, updates_of, seen_row}
use Rattle.walter_agreement.proofs.Issued.{Issued}
use Rattle.walter_refinement.proofs.Facts.{log_seen, row_owned, row_committed}

-- two transactions are not each in the snapshot of the other
pub not_both_seen : (h : List Step) (x y : Tid) → IsLegal h → IsCommitted y h → Contains (snapshot y h) x
    → Contains (snapshot x h) y → ⊥
not_both_seen h x y legal committed one other =
    let p = place_of (log y.site h) y (committed_logged y h committed) in
    let q = arrive_after h legal y.site p.0 y x p.1 one in
    let back = arrive_after h legal y.site q.0 x y q.2 other in
    let same = one_place h y.site back.0 p.0 y legal back.2 p.1 in
    let l1 = q.1 in let l2 = back.1 in omega (arith, l1, l2, same)

-- what stands in a list stands in one that agrees with it on each site's own
in_same : (xs ys : List Tid) → ((k : SiteId) → by k xs ≡ by k ys) → IsIn xs ys
in_same xs ys agree p x here =
    let place = length (by x.site (take p xs)) in
    let there = place_filtered (λ (z : Tid). same_site z.site x.site) xs x p here (same_site_refl x.site) in
    let r =
    filter_place (λ (z : Tid). same_site z.site x.site) ys x place (ap (λ t. slice_get t place) (sym (agree x.site))
    ∙ there) in
    (r.0, r.1)

module _ (owns : SiteId → List Held) (counts : SiteId → SiteId → ℕ) (numbers : SiteId → Issued)
    (sessions : Key → Option Session) (spent : Key → Type 0) (h : List Step) (n : AreOwned owns counts)
    (sp : IsSpelledAt owns counts numbers sessions spent h)
    (held : List Held) (fronts : (k : SiteId) → IsPrefix (of_site k held) (owns k)) (causal : IsCausalLog held) where
  -- no transaction stands twice in the log that a site holds
  row_once : (a b : ℕ) (r s : Held) → slice_get held a ≡ Some r → slice_get held b ≡ Some s → r.tx.tid ≡ s.tx.tid
      → ¬ (a < b)
  row_once a b r s ha hb e l =
      let k = r.tx.tid.site in
      let is_r : is_of k r ≡ true = same_site_refl k in
      let is_s : is_of k s ≡ true = ap (λ (x : Tid). same_site x.site k) (sym e) ∙ is_r in
      let at_r = prefix_get (of_site k held) (owns k) r _ (fronts k) (place_filtered (is_of k) held r a ha is_r) in
      let at_s = prefix_get (of_site k held) (owns k) s _ (fronts k) (place_filtered (is_of k) held s b hb is_s) in
      let same = sp.once k _ _ r s at_r at_s e in
      let less = more_kept (is_of k) held r a b l ha is_r in
      absurd (omega (arith, same, less))

  -- what the start of one that a site holds sees stands before it
  seen_before : (a : ℕ) (r : Held) (y : Tid) → slice_get held a ≡ Some r → Contains (snapshot r.tx.tid h) y
      → (m : ℕ) × (s : Held) × (m < a) × (slice_get held m ≡ Some s) × (s.tx.tid ≡ y)
  seen_before a r y ha c =
      let o = row_owned owns held fronts a r ha in
      let k = sp.kept r.tx.tid.site o.0 r o.1 in
      let w = seen_row owns (λ j. entry_at r.tx.start j) (snapshot r.tx.tid h) y k.seen c in
      let low : w.place < length (of_site y.site (take a held)) =
      let p = w.below in let q = causal a r ha y.site in omega (arith, p, q) in
      let whole : of_site y.site held ≡ of_site y.site (take a held) ++ of_site y.site (drop a held) =
      ap (λ t. of_site y.site t) (sym (take-append-drop a held))
      ∙ filter-append (is_of y.site) (take a held) (drop a held) in
      let front : IsPrefix (of_site y.site (take a held)) (owns y.site) =
      prefix_trans (record { rest = of_site y.site (drop a held); is = whole }) (fronts y.site) in
      let there = prefix_back (of_site y.site (take a held)) (owns y.site) w.row w.place front low w.here in
      let m = filter_place (is_of y.site) (take a held) w.row w.place there in
      let l = slice_get-take_within held a m.0 w.row m.1 in
      (m.0, w.row, l, sym (slice_get-take held a m.0 l) ∙ m.1, w.is)

  -- what a session reads at its site is what the history says
  pub read_any : (s : Session) (oid : ObjId) (a : Answer) → IsLive owns counts h s
      → ((k : SiteId) → entry_at s.snapshot k ≤ length (of_site k held))
      → IsAnswer oid (flat_map updates_of (filter (sees s.snapshot) held) ++ s.updates) a
      → IsAnswer oid (seen_updates s.tid h) a
  read_any s oid a l low answer =
      let f : Tid → List Update = committed_updates h in
      let i = s.tid.site in
      let seen = filter (sees s.snapshot) held in
      let xs = map tid_of seen in
      let ys = snapshot s.tid h in
      let front = snapshot_front s.tid h in
      let in_log : (q : ℕ) (x : Tid) → slice_get ys q ≡ Some x → slice_get (log i h) q ≡ Some x =
      λ q x g. ap (λ t. slice_get t q) (sym front.1) ∙ slice_get-append_left ys front.0 x q g in
      let agree : (k : SiteId) → by k xs ≡ by k ys =
      λ k. log_seen owns counts held s.snapshot n fronts low k ∙ sym (l.seen k).0 in
      let kept_of : (q : ℕ) (r : Held) → slice_get seen q ≡ Some r → IsKept owns h r = λ q r here.
      let at = filter_place (sees s.snapshot) held r q here in
      let w = row_owned owns held fronts at.0 r at.1 in
      sp.kept r.tx.tid.site w.0 r w.1 in
      let same : flat_map updates_of seen ≡ flat_map f xs =
      flat_map_same updates_of f tid_of seen (λ q r here. sym (kept_of q r here).same) in
      let snapshot_ordered : AreOrdered (λ x y. Contains (snapshot y h) x × IsCommitted x h
      × IsCommitted y h) oid f ys =
      λ p q x y less hx hy wx wy.
      let cx = logged_committed i x h sp.legal (contains_at (log i h) x p (in_log p x hx)) in
      let cy = logged_committed i y h sp.legal (contains_at (log i h) y q (in_log q y hy)) in
      let apart : x ≢ y =
      λ e. let d = one_place h i p q y sp.legal (subst (λ z. slice_get (log i h) p ≡ Some z) e (in_log p x hx))
      (in_log q y hy) in
      absurd (omega (arith, less, d)) in
      elim (one_seen h x y oid sp.legal apart (writes_some oid (f x) wx) (writes_some oid (f y) wy)) [
        | inl later ↦ let z = arrive_after h sp.legal i p x y (in_log p x hx) later in let d =
            one_place h i z.0 q y sp.legal z.2 (in_log q y hy) in let z1 = z.1 in absurd (omega (arith, less, d, z1))
        | inr now ↦ (now, cx, cy)
      ] in
      let log_ordered : AreOrdered (λ x y. Contains (snapshot y h) x × IsCommitted x h × IsCommitted y h) oid f xs =
      λ p q x y less hx hy wx wy.
      let mx = map_place tid_of seen x p hx in
      let my = map_place tid_of seen y q hy in
      let places = filter_order (sees s.snapshot) held mx.0 my.0 p q less mx.1 my.1 in
      let ox = row_owned owns held fronts places.0 mx.0 places.3 in
      let oy = row_owned owns held fronts places.1 my.0 places.4 in
      let cx =
      subst (λ z. IsCommitted z h) mx.2
      (row_committed owns counts numbers sessions spent h n sp mx.0.tx.tid.site ox.0 mx.0 ox.1) in
      let cy =
      subst (λ z. IsCommitted z h) my.2
      (row_committed owns counts numbers sessions spent h n sp my.0.tx.tid.site oy.0 my.0 oy.1) in
      let apart : x ≢ y =
      λ e. row_once places.0 places.1 mx.0 my.0 places.3 places.4 (mx.2 ∙ (e ∙ sym my.2)) places.2 in
      elim (one_seen h x y oid sp.legal apart (writes_some oid (f x) wx) (writes_some oid (f y) wy)) [
        | inl later ↦
            let z = seen_before places.0 mx.0 y places.3 (subst (λ t. Contains (snapshot t h) y) (sym mx.2) later) in
            let z2 = z.2 in let p2 = places.2 in
            absurd (row_once z.0 places.1 z.1 my.0 z.3 places.4 (z.4 ∙ sym my.2) (omega (arith, z2, p2)))
        | inr now ↦ (now, cx, cy)
      ] in
      let value =
      value_by_order (λ x y. Contains (snapshot y h) x × IsCommitted x h × IsCommitted y h) oid f xs ys
      (own_updates s.tid h)
      (λ x y b c. not_both_seen h x y sp.legal b.2 b.0 c.0) (in_same xs ys agree)
      (in_same ys xs (λ k. sym (agree k))) log_ordered snapshot_ordered in
      answer_same oid (flat_map f xs ++ own_updates s.tid h) (flat_map f ys ++ own_updates s.tid h) a value
      (λ id. count_of_same oid id f xs ys (own_updates s.tid h) agree)
      (subst (λ us. IsAnswer oid us a) (ap (λ t. t ++ s.updates) same
      ∙ ap (λ t. flat_map f xs ++ t) (sym l.same)) answer)

-- what a session's snapshot sees is in the log of its site
pub snapshot_within : (owns : SiteId → List Held) (counts : SiteId → SiteId → ℕ) (h : List Step) (held : List Held)
    (s : Session)
    → IsLive owns counts h s → IsLogOf owns (counts s.tid.site) held → (k : SiteId)
    → entry_at s.snapshot k ≤ length (of_site k held)
snapshot_within owns counts h held s l is k = let a = l.below k in let b = is.within k in omega (arith, a, b)
