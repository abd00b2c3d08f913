-- What the sites of a run have of each other's commits is in their records: no commit is missing, none differs, and no
-- transaction commits twice.
use Rattle.std.proofs.Common.{◌≡◌, ◌≢◌, ◌+◌, ◌-◌, ◌<◌, ℕ, zero, suc, List, [], ◌∷◌, length, take, slice_get, Some, refl, ap, sym, ◌∙◌, subst, arith, inl, inr}
use Rattle.std.specs.Prelude.{Contains, flat_map}
use Rattle.std.proofs.lemmas.Option.{same_Some}
use Rattle.walter_base.specs.declared.catalog.Catalog.{Catalog}
use Rattle.walter_base.specs.declared.message.Record.TheVariants.{Own, Got, Seen}
use Rattle.walter_base.specs.declared.names.SiteId.{SiteId}
use Rattle.walter_base.specs.declared.transaction.Tx.{Tx}
use Rattle.walter_base.specs.Names.{same_site}
use Rattle.walter_base.proofs.NameTests.{same_site_refl}
use Rattle.walter_psi.proofs.Lists.{contains_at, place_of}
use Rattle.walter_rules.specs.declared.held.Held.{Held}
use Rattle.walter_rules.specs.Knowledge.{Knowledge, fresh}
use Rattle.walter_rules.specs.Layouts.{Layout}
use Rattle.walter_rules.specs.Log.{is_of, of_site}
use Rattle.walter_rules.specs.Merges.{Named as InRun}
use Rattle.walter_rules.specs.Records.{CanAllFollow}
use Rattle.walter_rules.specs.Trails.{standing}
use Rattle.walter_agreement.proofs.Cases.{low_or}
use Rattle.walter_agreement.proofs.Lists.{filter_place, place_filtered, prefix_get, prefix_length}
use Rattle.walter_alone.specs.Journaled.{IsJournaled}
use Rattle.walter_alone.proofs.TrailJournaled.{right_journaled}
use Rattle.walter_linked.specs.Catalogs.{IsWhole}
use Rattle.walter_linked.proofs.Agreed.{owns, logs, counts, AreAgreed}
use Rattle.walter_linked.proofs.Runs.{run_right, none_outside}
use Rattle.walter_linked.proofs.Whole.{whole_agrees, run_homes}
use Rattle.walter_refinement.specs.Once.{StandsOnce}
use Rattle.walter_refinement.proofs.Once.{run_once}
use Rattle.walter_runs.specs.Runs.{stands, IsPut, IsRun}
use Rattle.walter_audit.specs.declared.finding.Named.{Named}
use Rattle.walter_audit.specs.Journals.{Journals, HasOwn, count}
use Rattle.walter_audit.specs.Reasons.{IsMissing, IsDifferent, AreTwice}
use Rattle.walter_audit.proofs.Telling.{held_in, log_told, committed_told, own_here, got_there, seen_there, held_own, got_held, own_held}

-- the records of each site of a run
abbrev pub journals_of : Catalog → List InRun → Journals
journals_of catalog run i = (stands catalog run i).records

once_of : (catalog : Catalog) (layouts : SiteId → Layout) → IsWhole catalog → (run : List InRun)
    → IsRun catalog layouts run → StandsOnce catalog run
once_of catalog layouts whole [] is = record { once = λ i j place other seq number tx same here there tids. absurd cc }
once_of catalog layouts whole (n ∷ older) is = run_once catalog layouts (run_homes catalog layouts whole n older is)
    (n ∷ older) is

module _ (catalog : Catalog) (layouts : SiteId → Layout) (whole : IsWhole catalog) (run : List InRun)
    (is : IsRun catalog layouts run) where
  agreed : AreAgreed catalog (stands catalog run) (IsPut run)
  agreed = whole_agrees catalog layouts whole run is

  -- the records of each site can follow one another, and tell what it knows
  pub journaled : (i : SiteId) → IsJournaled catalog i (stands catalog run i)
  journaled i = elim (low_or i.0 catalog.sites) [
    | inl below ↦ right_journaled catalog (layouts i) i below _ (run_right catalog layouts run is i)
    | inr out ↦ subst (λ es. IsJournaled catalog i (standing catalog i es))
        (sym (none_outside catalog layouts run is i out)) (record { follow = tt; flight = tt; told = refl })
  ]

  pub follow : (i : SiteId) → CanAllFollow catalog i fresh (journals_of catalog run i)
  follow i = (journaled i).follow

  pub log_is : (i : SiteId) → logs (stands catalog run) i ≡ flat_map held_in (journals_of catalog run i)
  log_is i = ap (λ (K : Knowledge). K.log) (journaled i).told
      ∙ log_told catalog i fresh (journals_of catalog run i)

  pub committed_is : (i k : SiteId) → counts (stands catalog run) i k ≡ count i (journals_of catalog run i) k
  committed_is i k =
      let told = ap (λ (K : Knowledge). K.committed k) (journaled i).told in
      let sums = committed_told catalog i fresh (journals_of catalog run i) k in
      omega (arith, told, sums)

  -- an own commit that a site's log has is in its records
  pub own_recorded : (k : SiteId) (q : ℕ) (r : Held) → slice_get (owns (stands catalog run) k) q ≡ Some r
      → (p : ℕ) × (slice_get (journals_of catalog run k) p ≡ Some (Own r.seq r.tx))
  own_recorded k q r at =
      let there = filter_place (is_of k) (logs (stands catalog run) k) r q at in
      let c : Contains (flat_map held_in (journals_of catalog run k)) r =
      subst (λ l. Contains l r) (log_is k) (contains_at (logs (stands catalog run) k) r there.0 there.1) in
      held_own catalog k (journals_of catalog run k) (follow k) r c (agreed.numbered.own.site k q r at)

  -- and what is held of a site is its own commit of that number
  held_owned : (i k : SiteId) (h : Held) → Contains (flat_map held_in (journals_of catalog run i)) h → h.tx.tid.site ≡ k
      → (q : ℕ) × (slice_get (owns (stands catalog run) k) q ≡ Some h) × (h.seq ≡ q + 1)
  held_owned i k h c of =
      let at = place_of (logs (stands catalog run) i) h (subst (λ l. Contains l h) (sym (log_is i)) c) in
      let f = place_filtered (is_of k) (logs (stands catalog run) i) h at.0 at.1
      (ap (λ j. same_site j k) of ∙ same_site_refl k) in
      let q = length (of_site k (take at.0 (logs (stands catalog run) i))) in
      let there = prefix_get (of_site k (logs (stands catalog run) i)) (owns (stands catalog run) k) h q
      ((agreed.numbered.held i).fronts k) f in
      (q, there, agreed.numbered.own.numbered k q h there)

  -- what was received is there
  pub got_made : (i : SiteId) (p : ℕ) (j : SiteId) (seq : ℕ) (tx : Tx)
      → slice_get (journals_of catalog run i) p ≡ Some (Got j seq tx)
      → (q : ℕ) × (slice_get (owns (stands catalog run) j) q ≡ Some (record { seq = seq; tx = tx })) × (seq ≡ q + 1)
  got_made i p j seq tx at =
      held_owned i j (record { seq = seq; tx = tx }) (got_held (journals_of catalog run i) p j seq tx at)
      (got_there catalog i (journals_of catalog run i) (follow i) p j seq tx at).1

  pub own_made : (i : SiteId) (p : ℕ) (seq : ℕ) (tx : Tx)
      → slice_get (journals_of catalog run i) p ≡ Some (Own seq tx)
      → (q : ℕ) × (slice_get (owns (stands catalog run) i) q ≡ Some (record { seq = seq; tx = tx })) × (seq ≡ q + 1)
  own_made i p seq tx at =
      held_owned i i (record { seq = seq; tx = tx }) (own_held (journals_of catalog run i) p seq tx at)
      (own_here catalog i (journals_of catalog run i) (follow i) p seq tx at)

  -- and so is what was seen
  pub seen_made : (i : SiteId) (p : ℕ) (j : SiteId) (seq : ℕ)
      → slice_get (journals_of catalog run i) p ≡ Some (Seen j seq)
      → (j ≢ i) × HasOwn (journals_of catalog run) j seq
  seen_made i p j seq at =
      let there = seen_there catalog i (journals_of catalog run i) (follow i) p j seq at in
      let some = there.1 in
      let low = there.2 in
      let c = committed_is i j in
      let within = (agreed.numbered.held i).within j in
      let front = prefix_length (of_site j (logs (stands catalog run) i)) (owns (stands catalog run) j)
      ((agreed.numbered.held i).fronts j) in
      let r = has (owns (stands catalog run) j) (seq - 1) (omega (arith, some, low, c, within, front)) in
      let number = agreed.numbered.own.numbered j (seq - 1) r.0 r.1 in
      let e : r.0.seq ≡ seq = omega (arith, number, some) in
      let rec = own_recorded j (seq - 1) r.0 r.1 in
      (there.0, (rec.0, r.0.tx, subst (λ n. slice_get (journals_of catalog run j) rec.0 ≡ Some (Own n r.0.tx)) e rec.1))
    where
      has : {X : Type 0} (xs : List X) (q : ℕ) → q < length xs → (x : X) × (slice_get xs q ≡ Some x)
      has [] q low = absurd (omega (arith, low))
      has (x ∷ xs) zero low = (x, refl)
      has (x ∷ xs) (suc q) low = has xs q (omega (arith, low))

  -- no commit is missing
  pub none_missing : (a : Named) → ¬ IsMissing (journals_of catalog run) a
  none_missing a m = elim m.told [
    | inl got ↦
        let made = got_made a.site a.index m.from m.seq got.0 got.1 in
        let rec = own_recorded m.from made.0 (record { seq = m.seq; tx = got.0 }) made.1 in
        m.unmade (rec.0, got.0, rec.1)
    | inr seen ↦ m.unmade (seen_made a.site a.index m.from m.seq seen).1
  ]

  -- none differs
  pub none_different : (a b : Named) → ¬ IsDifferent (journals_of catalog run) a b
  none_different a b d =
      let here = got_made a.site a.index b.site d.seq d.received d.here in
      let there = own_made b.site b.index d.seq d.made d.there in
      let e1 = here.2 in
      let e2 = there.2 in
      let place : here.0 ≡ there.0 = omega (arith, e1, e2) in
      let same : record { seq = d.seq; tx = d.received } ≡ record { seq = d.seq; tx = d.made } =
      same_Some (record { seq = d.seq; tx = d.received }) (record { seq = d.seq; tx = d.made })
      (sym here.1 ∙ (ap (λ q. slice_get (owns (stands catalog run) b.site) q) place ∙ there.1)) in
      d.apart (ap (λ (h : Held). h.tx) same)

  -- and none stands twice
  pub none_twice : (a b : Named) → ¬ AreTwice (journals_of catalog run) a b
  none_twice a b t =
      let o = t.owns in
      let once = (once_of catalog layouts whole run is).once a.site b.site a.index b.index o.seq o.other o.x o.y
      o.first o.second t.same in
      o.apart (λ k. record { site = once.0 k; index = once.1 k })
