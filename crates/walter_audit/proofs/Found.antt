-- An order of all records, where no reason stands, spells a legal history, that of the journals.
use Rattle.std.proofs.Common.{◌≡◌, ◌≢◌, ◌<◌, ◌≤◌, ◌⊎◌, ℕ, List, [], ◌∷◌, ◌++◌, length, map, slice_get, Some, None, refl, ap, sym, ◌∙◌, subst, arith, inl, inr}
use Rattle.std.specs.Prelude.{Option, Contains, flat_map}
use Rattle.std.proofs.lemmas.Bool.{cases_eq}
use Rattle.std.proofs.lemmas.List.{append-nil}
use Rattle.std.proofs.lemmas.List.Elements.{All-contains}
use Rattle.walter_base.specs.declared.catalog.Catalog.{Catalog}
use Rattle.walter_base.specs.declared.format.Format.{Format}
use Rattle.walter_base.specs.declared.format.Format.TheVariants.{First, Second}
use Rattle.walter_base.specs.declared.message.Record.{Record}
use Rattle.walter_base.specs.declared.message.Record.TheVariants.{Own, Got}
use Rattle.walter_base.specs.declared.names.SiteId.{SiteId}
use Rattle.walter_base.specs.declared.transaction.Tx.{Tx}
use Rattle.walter_psi.proofs.LegalFacts.{committed_updates_of}
use Rattle.walter_psi.proofs.Lists.{contains_at}
use Rattle.walter_record.specs.Spelling.{record_spelled, HasRecordSpelling}
use Rattle.walter_record.proofs.Records.{same_record}
use Rattle.walter_rules.specs.Knowledge.{fresh}
use Rattle.walter_rules.specs.Layouts.{placed}
use Rattle.walter_rules.specs.Records.{CanAllFollow}
use Rattle.walter_agreement.proofs.Cases.{low_or, site_cases}
use Rattle.walter_agreement.proofs.Lists.{place_mapped}
use Rattle.walter_audit.specs.declared.finding.Named.{Named}
use Rattle.walter_audit.specs.declared.finding.Reason.TheVariants.{Missing, Differs, Twice, Start, Conflict}
use Rattle.walter_audit.specs.Contents.{Contents, HasSpellingThere, as_sent, AreAllRead}
use Rattle.walter_audit.specs.Findings.{NoneStands, NoneBefore, IsHistoryOf}
use Rattle.walter_audit.specs.Journals.{Journals}
use Rattle.walter_audit.specs.Reasons.{AreUnordered}
use Rattle.walter_audit.specs.Orders.{Commits, Taken, IsOrder, items_of, history}
use Rattle.walter_audit.proofs.Clear.{AreClear}
use Rattle.walter_audit.proofs.Items.{commit_item}
use Rattle.walter_audit.proofs.Legal.{spelled, home}
use Rattle.walter_audit.proofs.Readings.{placed_at}
use Rattle.walter_audit.proofs.Sent.{IsSent, all_sent}
use Rattle.walter_audit.proofs.Sorted.{item_tids, all_items}
use Rattle.walter_audit.proofs.Telling.{own_here}
use Rattle.walter_audit.proofs.Spelling.{taken_of, split, taken_in, history_log, commit_stands}

-- two lists of bytes are the same or not
bytes_cases : (xs ys : List ℕ) → (xs ≡ ys) ⊎ (xs ≢ ys)
bytes_cases [] [] = inl refl
bytes_cases [] (y ∷ ys) = inr (λ e. cc)
bytes_cases (x ∷ xs) [] = inr (λ e. cc)
bytes_cases (x ∷ xs) (y ∷ ys) =
    let rest = bytes_cases xs ys in
    elim (cases_eq x y) [
      | inr apart ↦ inr (λ e. apart (let f : x ≡ y = cc in f))
      | inl same ↦ elim rest [
        | inl others ↦ inl (λ t. same t ∷ others t)
        | inr others ↦ inr (λ e. others (let f : xs ≡ ys = cc in f))
      ]
    ]

-- what has a spelling in one format has one in the second
in_second : (format : Format) (sites : ℕ) (rec : Record) → HasRecordSpelling format sites rec
    → HasRecordSpelling Second sites rec
in_second First sites rec has = record {
  fits = (let fits : sites ≤ 8 = has.fits in omega (arith, fits));
  among = has.among;
  sizes = has.sizes;
  ranges = has.ranges;
}
in_second Second sites rec has = has

module _ (catalog : Catalog) (contents : Contents) (J : Journals) (read : AreAllRead catalog contents J)
    (none : NoneBefore catalog contents Conflict) where
  below : (i : SiteId) (p : ℕ) (rec : Record) → slice_get (J i) p ≡ Some rec → i.0 < catalog.sites
  below i p rec at = elim (low_or i.0 catalog.sites) [
    | inl l ↦ l
    | inr out ↦ absurd (let e : ◌≡◌ {A = Option Record} None (Some rec) = ap (λ rs. slice_get rs p) (sym (read.no_others i out)) ∙ at in cc)
  ]

  -- each record has a spelling in the format in force at its place, so in the second too
  can : (i : SiteId) (p : ℕ) (rec : Record) → slice_get (J i) p ≡ Some rec → HasRecordSpelling Second catalog.sites rec
  can i p rec at =
      let here = (read.each i (below i p rec at)).spelled.can in
      let place = placed_at (contents i).header (J i) p rec at in
      in_second place.0 catalog.sites rec
      (All-contains (HasSpellingThere catalog.sites) (placed (contents i).header (J i)) (place.0, rec) here
      (contains_at (placed (contents i).header (J i)) (place.0, rec) p place.1))

  -- one that was received, and the one that its site made, are the same
  same : (i : SiteId) (p : ℕ) (j : SiteId) (q seq : ℕ) (x y : Tx) → slice_get (J i) p ≡ Some (Got j seq x)
      → slice_get (J j) q ≡ Some (Own seq y) → x ≡ y
  same i p j q seq x y got own =
      let mine = can i p (Got j seq x) got in
      let theirs = can j q (Own seq y) own in
      let as_own : HasRecordSpelling Second catalog.sites (Own seq x) = record {
        fits = mine.fits;
        among = mine.among;
        sizes = mine.sizes;
        ranges = (theirs.ranges.0, mine.ranges.1);
      } in
      elim (bytes_cases (record_spelled Second (Own seq x)) (record_spelled Second (Own seq y))) [
        | inl alike ↦ let e = same_record Second catalog.sites (Own seq x) (Own seq y) as_own theirs alike in (let f : x ≡ y = cc in f)
        | inr apart ↦ absurd (none Differs (record { site = i; index = p }) (record { site = j; index = q }) (omega arith) (
          J,
          read,
          record {
            seq = seq;
            received = x;
            made = y;
            here = got;
            there = own;
            apart = λ e. apart (ap (λ z. record_spelled Second (Own seq z)) e);
          },
        ))
      ]

  -- so it is of the site that it was received of, and the records follow one another as they are
  sent : (i : SiteId) (p : ℕ) (rec : Record) → slice_get (J i) p ≡ Some rec → IsSent rec
  sent i p (Got j seq x) at = elim (site_cases x.tid.site j) [
    | inl of ↦ of.1
    | inr other ↦ absurd (none Missing (record { site = i; index = p }) (record { site = i; index = p }) (omega arith) (
      refl,
      (
        J,
        read,
        record {
          from = j;
          seq = seq;
          told = inl (x, at);
          unmade = λ has. other.1 (ap (λ (z : Tx). z.tid.site) (same i p j has.0 seq x has.1 at has.2)
              ∙ own_here catalog j (map as_sent (J j)) (read.each j (below j has.0 (Own seq has.1) has.2)).follow has.0 seq has.1
              (place_mapped as_sent (J j) (Own seq has.1) has.0 has.2));
        },
      ),
    ))
  ]
  sent i p rec at = tt

  follow : (i : SiteId) → CanAllFollow catalog i fresh (J i)
  follow i = elim (low_or i.0 catalog.sites) [
    | inl l ↦ subst (λ rs. CanAllFollow catalog i fresh rs) (all_sent (J i) (λ p rec at. sent i p rec at)) (read.each i l).follow
    | inr out ↦ subst (λ rs. CanAllFollow catalog i fresh rs) (sym (read.no_others i out)) tt
  ]

  pub clear : AreClear catalog J
  clear = record {
    follow = follow;
    no_others = read.no_others;
    missing = λ a m. none Missing a a (omega arith) (refl, (J, read, m));
    same = same;
    twice = λ a b t. none Twice a b (omega arith) (J, read, t);
    start = λ a u. none Start a a (omega arith) (refl, (J, read, u));
  }

  some : (i : SiteId) (p seq : ℕ) (tx : Tx) → slice_get (J i) p ≡ Some (Own seq tx) → tx.updates ≢ []
  some i p seq tx at e =
      let one = (can i p (Own seq tx) at).sizes.some in
      let size = ap length e in
      omega (arith, one, size)

module _ (catalog : Catalog) (contents : Contents) (J : Journals) (read : AreAllRead catalog contents J)
    (all : NoneStands catalog contents) where
  none : NoneBefore catalog contents Conflict
  none reason c d low = all reason c d

  unordered : (a b : Named) → ¬ AreUnordered J a b
  unordered a b u = all Conflict a b (J, read, u)

  pub tells : (done : List Taken) → IsOrder catalog J done → IsHistoryOf J (history J done)
  tells done order =
      let clear = clear catalog contents J read none in
      let some = some catalog contents J read none in
      let S = spelled catalog J clear unordered some order.left done order.taken in
      let whole : (k : SiteId) → taken_of k done ≡ items_of catalog J k = λ k.
      sym (split (items_of catalog J) order.left done order.taken k ∙ (ap (λ t. taken_of k done ++ t) (order.all k) ∙ append-nil (taken_of k done))) in
      record {
        legal = S.legal;
        logs = λ i. history_log J i done (home catalog J clear unordered some order.left done order.taken)
            ∙ (ap (λ xs. flat_map (item_tids J) xs) (whole i) ∙ all_items catalog i J (J i));
        updates = λ i p seq tx at. committed_updates_of tx.tid tx.updates (history J done) S.legal
            (commit_stands J done i p seq tx (taken_in i done (Commits p seq tx)
            (subst (λ xs. Contains xs (Commits p seq tx)) (sym (whole i)) (commit_item catalog i (J i) p seq tx at))));
      }
