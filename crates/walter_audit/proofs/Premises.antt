-- What the passes ask of journals follows of how they are read.
use Rattle.std.proofs.Common.{◌≡◌, ◌≢◌, ◌+◌, ◌<◌, ℕ, suc, List, [], ◌∷◌, ◌++◌, length, map, take, slice_get, Some, None, refl, ap, sym, ◌∙◌, arith, inl, inr, if◌then◌else◌}
use Rattle.std.specs.Prelude.{Option, flat_map, count_by}
use Rattle.std.proofs.lemmas.List.{take-map}
use Rattle.std.proofs.lemmas.List.Elements.{All-contains}
use Rattle.walter_base.specs.declared.catalog.Catalog.{Catalog}
use Rattle.walter_base.specs.declared.message.Record.{Record}
use Rattle.walter_base.specs.declared.message.Record.TheVariants.{Boot, Own, Got, Seen, Prepared, Released, SlowBegin, SlowEnd, Marks, Format as FormatRecord}
use Rattle.walter_base.specs.declared.names.SiteId.{SiteId}
use Rattle.walter_base.specs.declared.transaction.Tx.{Tx}
use Rattle.walter_base.proofs.NameTests.{same_site_refl}
use Rattle.walter_psi.proofs.Lists.{contains_at, slice_get-take, slice_get-take_within}
use Rattle.walter_record.specs.Spelling.{HasRecordSpelling}
use Rattle.walter_rules.specs.Layouts.{placed}
use Rattle.walter_agreement.proofs.Cases.{low_or, site_cases}
use Rattle.walter_agreement.proofs.Lists.{place_mapped}
use Rattle.walter_refinement.proofs.SameReads.{count_by-append}
use Rattle.walter_audit.specs.Contents.{Contents, HasSpellingThere, as_sent, AreAllRead}
use Rattle.walter_audit.specs.Journals.{Journals, own_of, commits_of, count, AreNumbered, AreAtHome, AreAmong}
use Rattle.walter_audit.proofs.Readings.{placed_at}
use Rattle.walter_audit.proofs.Telling.{own_here, own_number, seen_there}

-- of records that see no commit of their own site, as many are counted of it as they commit
owned : (i : SiteId) (rs : List Record) → ((q : ℕ) (j : SiteId) (m : ℕ) → slice_get rs q ≡ Some (Seen j m) → j ≢ i)
    → count i (map as_sent rs) i ≡ length (flat_map own_of rs)
owned i [] away = refl
owned i (r ∷ rs) away = by r (away 0) (owned i rs (λ q j m at. away (suc q) j m at))
    (count_by-append (commits_of i i) (as_sent r ∷ []) (map as_sent rs))
  where
    by : (z : Record) → ((j : SiteId) (m : ℕ) → Some z ≡ Some (Seen j m) → j ≢ i)
        → count i (map as_sent rs) i ≡ length (flat_map own_of rs)
        → count i (as_sent z ∷ map as_sent rs) i ≡ count_by (commits_of i i) (as_sent z ∷ []) + count i (map as_sent rs) i
        → count i (as_sent z ∷ map as_sent rs) i ≡ length (own_of z ++ flat_map own_of rs)
    by (Own m y) apart rest sums =
        let one : count_by (commits_of i i) (Own m y ∷ []) ≡ 1 = ap (λ b. 0 + (if b then 1 else 0)) (same_site_refl i) in
        omega (arith, sums, one, rest)
    by (Seen j m) apart rest sums =
        let none : count_by (commits_of i i) (Seen j m ∷ []) ≡ 0 = elim (site_cases j i) [
          | inl same ↦ absurd (apart j m refl same.1)
          | inr other ↦ ap (λ b. 0 + (if b then 1 else 0)) other.0
        ] in
        omega (arith, sums, none, rest)
    by (Boot epoch) apart rest sums = omega (arith, sums, rest)
    by (Got j m y) apart rest sums = omega (arith, sums, rest)
    by (Prepared j m tid objects) apart rest sums = omega (arith, sums, rest)
    by (Released j m) apart rest sums = omega (arith, sums, rest)
    by (SlowBegin m y) apart rest sums = omega (arith, sums, rest)
    by (SlowEnd m) apart rest sums = omega (arith, sums, rest)
    by (Marks durable visible) apart rest sums = omega (arith, sums, rest)
    by FormatRecord apart rest sums = omega (arith, sums, rest)

module _ (catalog : Catalog) (contents : Contents) (J : Journals) (read : AreAllRead catalog contents J) where
  below : (i : SiteId) (p : ℕ) (rec : Record) → slice_get (J i) p ≡ Some rec → i.0 < catalog.sites
  below i p rec at = elim (low_or i.0 catalog.sites) [
    | inl l ↦ l
    | inr out ↦ absurd (let e : ◌≡◌ {A = Option Record} None (Some rec) = ap (λ rs. slice_get rs p) (sym (read.no_others i out)) ∙ at in cc)
  ]

  -- an own commit, as it was read
  read_own : (i : SiteId) (p seq : ℕ) (tx : Tx) → slice_get (J i) p ≡ Some (Own seq tx)
      → slice_get (map as_sent (J i)) p ≡ Some (Own seq tx)
  read_own i p seq tx at = place_mapped as_sent (J i) (Own seq tx) p at

  pub at_home : AreAtHome J
  at_home i p seq tx at = own_here catalog i (map as_sent (J i)) (read.each i (below i p (Own seq tx) at)).follow p seq tx
      (read_own i p seq tx at)

  pub numbered : AreNumbered J
  numbered i p seq tx at =
      let follow = (read.each i (below i p (Own seq tx) at)).follow in
      let number = own_number catalog i (map as_sent (J i)) follow p seq tx (read_own i p seq tx at) in
      let front : count i (take p (map as_sent (J i))) i ≡ count i (map as_sent (take p (J i))) i =
      ap (λ rs. count i rs i) (take-map as_sent p (J i)) in
      let owns = owned i (take p (J i)) (λ q j m there.
      let low = slice_get-take_within (J i) p q (Seen j m) there in
      (seen_there catalog i (map as_sent (J i)) follow q j m
      (place_mapped as_sent (J i) (Seen j m) q (sym (slice_get-take (J i) p q low) ∙ there))).0) in
      omega (arith, number, front, owns)

  pub among : (k : SiteId) → AreAmong catalog.sites (J k)
  among k p seq tx at =
      let here = (read.each k (below k p (Own seq tx) at)).spelled.can in
      let place = placed_at (contents k).header (J k) p (Own seq tx) at in
      let has : HasRecordSpelling place.0 catalog.sites (Own seq tx) =
      All-contains (HasSpellingThere catalog.sites) (placed (contents k).header (J k)) (place.0, Own seq tx) here
      (contains_at (placed (contents k).header (J k)) (place.0, Own seq tx) p place.1) in
      has.among
