-- What right and linked trails leave on disks gives no reason: where a record in flight is there, the run with a restart
-- behind it that found it, and then couldn't go on, has just the records that there are.
use Rattle.std.proofs.Common.{◌≡◌, ◌≢◌, ◌+◌, ◌<◌, ◌≤◌, ℕ, zero, suc, List, [], ◌∷◌, ◌++◌, take, reverse, Some, refl, ap, sym, ◌∙◌, subst, arith, inl, inr}
use Rattle.std.specs.Prelude.{All}
use Rattle.walter_base.specs.declared.catalog.Catalog.{Catalog}
use Rattle.walter_base.specs.declared.message.Record.{Record}
use Rattle.walter_base.specs.declared.names.SiteId.{SiteId}
use Rattle.walter_rules.specs.declared.entry.Entry.{Entry}
use Rattle.walter_rules.specs.declared.event.Event.TheVariants.{Restart}
use Rattle.walter_rules.specs.declared.outcome.Outcome.TheVariants.{Failed}
use Rattle.walter_rules.specs.Knowledge.{fresh}
use Rattle.walter_rules.specs.Layouts.{Layout, placed}
use Rattle.walter_rules.specs.Merges.{Named as InRun, merge, entries_of}
use Rattle.walter_rules.specs.Records.{CanAllFollow}
use Rattle.walter_rules.specs.Standing.{Standing, stands_after}
use Rattle.walter_rules.specs.Trails.{standing, clock, unread, only}
use Rattle.walter_agreement.proofs.Cases.{low_or, site_cases}
use Rattle.walter_alone.proofs.KeptSteps.{right_alone}
use Rattle.walter_linked.specs.Catalogs.{IsWhole}
use Rattle.walter_linked.proofs.Runs.{run_right, none_outside, found_here, found_away, stands_here, stands_away}
use Rattle.walter_runs.specs.Runs.{stands, IsRun}
use Rattle.walter_runs.proofs.Running.{merged_run}
use Rattle.walter_audit.specs.declared.finding.Named.{Named}
use Rattle.walter_audit.specs.declared.finding.Reason.{Reason}
use Rattle.walter_audit.specs.declared.finding.Reason.TheVariants.{Unreadable, Missing, Differs, Twice, Start, Conflict, Cycle}
use Rattle.walter_audit.specs.Contents.{Contents, CanStand, AreRead, IsUnreadable, AreAllRead, Stands, MayHold, holds_stable, holds_flight, AreLeft}
use Rattle.walter_audit.specs.Journals.{Journals}
use Rattle.walter_audit.specs.Orders.{IsCycle}
use Rattle.walter_audit.specs.Reasons.{IsMissing, IsDifferent, AreTwice, IsUnstarted, AreUnordered}
use Rattle.walter_audit.proofs.Circles.{none_circled}
use Rattle.walter_audit.proofs.Fronts.{none_unstarted}
use Rattle.walter_audit.proofs.Held.{journals_of, follow, none_missing, none_different, none_twice}
use Rattle.walter_audit.proofs.Ordered.{none_unordered}
use Rattle.walter_audit.proofs.Formats.{run_stands}
use Rattle.walter_audit.proofs.Readings.{one_reading, front_read}
use Rattle.walter_audit.proofs.Sent.{sent_records}

-- a restart that found the record in flight, and then couldn't go on
abbrev finding : ℕ → Record → Entry
finding last rec = record { stamp = last + 1; event = Restart; came = record (only Failed) { kept = Some rec } }

module _ (catalog : Catalog) (layouts : SiteId → Layout) where
  -- it may come where a record is in flight, and then it is among the site's records; the other sites stand as before
  found_next : (run : List InRun) (i : SiteId) (rec : Record) → IsRun catalog layouts run → i.0 < catalog.sites
      → (stands catalog run i).flight ≡ Some rec
      → IsRun catalog layouts ((i, finding (clock (entries_of i run)) rec) ∷ run)
  found_next run i rec is below flying =
      let down = ((right_alone catalog (layouts i) i below (entries_of i run) (run_right catalog layouts run is i)).tidy.down rec flying).0 in (
        is,
        record {
          below = below;
          right = record {
            stamp = refl;
            kept = record { restart = refl; down = down; in_flight = flying };
            comes = unread refl down (record { outcome_is = refl; wrote = refl; flight_is = refl; sends = refl; dropped = refl });
          };
          put = λ j number packet e. absurd cc;
        },
      )

  found_records : (run : List InRun) (i : SiteId) (rec : Record)
      → (stands catalog ((i, finding (clock (entries_of i run)) rec) ∷ run) i).records ≡ (stands catalog run i).records ++ rec ∷ []
  found_records run i rec =
      let n : InRun = (i, finding (clock (entries_of i run)) rec) in
      ap (λ (S : Standing). S.records) (stands_here catalog run n
      ∙ ap (λ S. stands_after catalog i S n.1.event n.1.came) (found_here catalog run n))

  found_others : (run : List InRun) (i k : SiteId) (rec : Record) → k ≢ i
      → stands catalog ((i, finding (clock (entries_of i run)) rec) ∷ run) k ≡ stands catalog run k
  found_others run i k rec apart =
      let n : InRun = (i, finding (clock (entries_of i run)) rec) in
      stands_away catalog run n k apart ∙ found_away catalog run n k apart

  -- a run whose sites below this number have just these records, and the others stand as before
  pub record HasJust (run : List InRun) (records : Journals) (upto : ℕ) : Type 0 where
    pub longer : List InRun
    pub is : IsRun catalog layouts longer
    pub have : (i : SiteId) → i.0 < upto → (stands catalog longer i).records ≡ records i
    pub stay : (i : SiteId) → upto ≤ i.0 → stands catalog longer i ≡ stands catalog run i

  module _ (run : List InRun) (records : Journals)
      (held : (i : SiteId) → i.0 < catalog.sites → MayHold (stands catalog run i) (records i)) where
    one_further : (m : ℕ) → m < catalog.sites → HasJust run records m → (rs : List Record)
        → MayHold (stands catalog run (record { 0 = m })) rs → records (record { 0 = m }) ≡ rs → HasJust run records (suc m)
    one_further m below J rs (holds_stable) e =
        record {
          longer = J.longer;
          is = J.is;
          have = λ i low. elim (site_cases i (record { 0 = m })) [
            | inl same ↦ subst (λ k. (stands catalog J.longer k).records ≡ records k) (sym same.1)
                (ap (λ (S : Standing). S.records) (J.stay (record { 0 = m }) (omega arith)) ∙ sym e)
            | inr apart ↦ J.have i (other i low apart.1)
          ];
          stay = λ i high. J.stay i (omega (arith, high));
        }
      where
        other : (i : SiteId) → i.0 < suc m → i ≢ record { 0 = m } → i.0 < m
        other i low apart = elim (low_or i.0 m) [
          | inl l ↦ l
          | inr g ↦ absurd (apart (let eq : i.0 ≡ m = omega (arith, low, g) in λ t. record { 0 = eq t }))
        ]
    one_further m below J rs (holds_flight rec flying) e =
        let at : SiteId = record { 0 = m } in
        let same_there = J.stay at (omega arith) in
        let fly : (stands catalog J.longer at).flight ≡ Some rec = ap (λ (S : Standing). S.flight) same_there ∙ flying in
        record {
          longer = (at, finding (clock (entries_of at J.longer)) rec) ∷ J.longer;
          is = found_next J.longer at rec J.is below fly;
          have = λ i low. elim (site_cases i at) [
            | inl same ↦ subst (λ k. (stands catalog ((at, finding (clock (entries_of at J.longer)) rec) ∷ J.longer) k).records ≡ records k) (sym same.1)
                (found_records J.longer at rec ∙ (ap (λ (S : Standing). S.records ++ rec ∷ []) same_there ∙ sym e))
            | inr apart ↦ ap (λ (S : Standing). S.records) (found_others J.longer at i rec apart.1) ∙ J.have i (other i low apart.1)
          ];
          stay = λ i high.
              let apart : i ≢ at = λ f. let z : i.0 ≡ m = ap (λ (k : SiteId). k.0) f in omega (arith, z, high) in
              found_others J.longer at i rec apart ∙ J.stay i (omega (arith, high));
        }
      where
        other : (i : SiteId) → i.0 < suc m → i ≢ record { 0 = m } → i.0 < m
        other i low apart = elim (low_or i.0 m) [
          | inl l ↦ l
          | inr g ↦ absurd (apart (let eq : i.0 ≡ m = omega (arith, low, g) in λ t. record { 0 = eq t }))
        ]

    up_to : IsRun catalog layouts run → (m : ℕ) → m ≤ catalog.sites → HasJust run records m
    up_to is zero low = record { longer = run; is = is; have = λ i none. absurd (omega (arith, none)); stay = λ i high. refl }
    up_to is (suc m) low = one_further m (omega (arith, low)) (up_to is m (omega (arith, low))) (records (record { 0 = m }))
        (held (record { 0 = m }) (omega (arith, low))) refl

module _ (catalog : Catalog) (layouts : SiteId → Layout) (whole : IsWhole catalog) (trails : List (List Entry))
    (contents : Contents) (left : AreLeft catalog layouts trails contents) where
  run_is : HasJust catalog layouts (reverse (merge trails)) left.records catalog.sites
  run_is = up_to catalog layouts (reverse (merge trails)) left.records left.held
      (merged_run catalog layouts trails left.right) catalog.sites (omega arith)

  -- what is read is what the sites of that run have
  readings : (journals : Journals) → AreAllRead catalog contents journals → journals ≡ journals_of catalog run_is.longer
  readings journals read = (λ t i. each i t)
    where
      each : (i : SiteId) → journals i ≡ journals_of catalog run_is.longer i
      each i = elim (low_or i.0 catalog.sites) [
        | inl below ↦ one_reading catalog (contents i) (journals i) (left.records i) (read.each i below).spelled
            (left.spelled i below) ∙ sym (run_is.have i below)
        | inr out ↦ read.no_others i out ∙ sym (ap (λ es. (standing catalog i es).records)
            (none_outside catalog layouts run_is.longer run_is.is i out))
      ]

  -- the records of each site can be read
  all_read : (i : SiteId) → i.0 < catalog.sites → AreRead catalog i (contents i) (left.records i)
  all_read i below =
      let all : CanAllFollow catalog i fresh (left.records i) = subst (λ rs. CanAllFollow catalog i fresh rs)
      (run_is.have i below) (follow catalog layouts whole run_is.longer run_is.is i) in
      record {
        spelled = left.spelled i below;
        follow = subst (λ rs. CanAllFollow catalog i fresh rs) (sym (sent_records catalog i fresh (left.records i) all)) all;
        formats = subst (λ rs. All CanStand (placed (contents i).header rs)) (run_is.have i below)
            (subst (λ h. All CanStand (placed h (journals_of catalog run_is.longer i))) (sym (left.headers i below))
            (run_stands catalog layouts whole run_is.longer run_is.is i));
      }

  none_unreadable : (i : SiteId) → i.0 < catalog.sites → (index : ℕ) → ¬ IsUnreadable catalog i (contents i) index
  none_unreadable i below index u = u.wrong (take (index + 1) (left.records i))
      (front_read catalog i (contents i) (left.records i) (all_read i below) (index + 1))

  -- no reason stands
  pub none_stands : (reason : Reason) (a b : Named) → ¬ Stands catalog contents reason a b
  none_stands Unreadable a b s = none_unreadable a.site s.1 a.index s.2
  none_stands Missing a b s = none_missing catalog layouts whole run_is.longer run_is.is a
      (subst (λ (J : Journals). IsMissing J a) (readings s.1.0 s.1.1) s.1.2)
  none_stands Differs a b s = none_different catalog layouts whole run_is.longer run_is.is a b
      (subst (λ (J : Journals). IsDifferent J a b) (readings s.0 s.1) s.2)
  none_stands Twice a b s = none_twice catalog layouts whole run_is.longer run_is.is a b
      (subst (λ (J : Journals). AreTwice J a b) (readings s.0 s.1) s.2)
  none_stands Start a b s = none_unstarted catalog layouts run_is.longer run_is.is a
      (subst (λ (J : Journals). IsUnstarted catalog J a) (readings s.1.0 s.1.1) s.1.2)
  none_stands Conflict a b s = none_unordered catalog layouts whole run_is.longer run_is.is a b
      (subst (λ (J : Journals). AreUnordered J a b) (readings s.0 s.1) s.2)
  none_stands Cycle a b s = none_circled catalog layouts whole run_is.longer run_is.is a b
      (subst (λ (J : Journals). IsCycle catalog J a b) (readings s.0 s.1) s.2)
