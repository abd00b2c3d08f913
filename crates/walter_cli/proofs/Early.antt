-- What is left of a rack where no run began over its disks.
use Rattle.std.proofs.Common.{◌≡◌, ℕ, ◌<◌, ◌≤◌, List, [], length, map, slice_get, Option, Some, ap, sym, ◌∙◌, refl, subst, arith, inr}
use Rattle.std.specs.Prelude.{IfSome, Err}
use Rattle.std.proofs.lemmas.List.Elements.{All-nil}
use Rattle.std.proofs.lemmas.Option.{slice_get_within}
use Rattle.walter_cluster.specs.Benches.{shape_of}
use Rattle.walter_cluster.specs.Builds.{LeavesDisk, IsWhyNone}
use Rattle.walter_cluster.specs.declared.opening.Unbuilt.{Unbuilt}
use Rattle.walter_disk.specs.Disks.{Arming}
use Rattle.walter_disk.specs.declared.disk.Disk.{Ghosts}
use Rattle.walter_engine.specs.Begins.{HasOnly, IsBegun, IsFaultOfBegin, MayHaveBegun, HasNoRecord}
use Rattle.walter_engine.specs.declared.answers.BeginFault.{BeginFault}
use Rattle.walter_engine.specs.declared.answers.BeginFault.TheVariants as unbegun
use Rattle.walter_cluster.proofs.Changes.{there_is}
use Rattle.walter_scenario.specs.declared.scenario.Scenario.{Scenario}
use Rattle.walter_cli.specs.Ending.{EndsEarly, IsUnbuilt, fault_of}
use Rattle.walter_cli.specs.Racks.{RackAt, Racked, OfADisk, AreSo, Holds, IsUntaken, IsUntouched, IsUnarmed, HasFailed, IsFaultlessBefore, HasCause, racked}
use Rattle.walter_cli.specs.declared.ended.Fault.{Fault}
use Rattle.walter_cli.specs.declared.ended.JournalCause.TheVariants.{Foreign, Damaged, Used}
use Rattle.walter_cli.proofs.Trails.{field_of}
use Rattle.walter_cli.proofs.Giving.{IsReturned, each_back, one_back, took_all, balances, holds_taken, of_reads, none_balances, none_more, more_so}

-- where none was handed back, each is
pub each_none : {D : Type 0} (g : Ghosts D) (before after : RackAt D) (P : ℕ → OfADisk) → after.handed ≡ before.handed
    → (racked g before after).each P
each_none {D = D} g before after P same =
    more_so before.handed after.handed [] (AreSo g P) (same ∙ none_more before.handed)
    (All-nil (λ (it : ℕ × D). P it.0 (g.known it.1) (g.may_leave it.1)))

-- where no disk was taken
pub untaken_before : {D : Type 0} (g : Ghosts D) (before after : RackAt D) → after.handed ≡ before.handed
    → after.taken ≡ before.taken → IsUntaken (racked g before after)
untaken_before g before after same taken = (omega (arith, taken), each_none g before after (λ i known images. ⊥) same)

-- the rack is then as no run has begun
pub untouched_before : {D : Type 0} (g : Ghosts D) (before after : RackAt D) (s : Scenario) → after.handed ≡ before.handed
    → IsUntouched (racked g before after) s
untouched_before g before after s same = record {
  unarmed = each_none g before after (λ i. IsUnarmed) same;
  kept = each_none g before after
      (λ i known images. Holds (racked g before after) i (λ bytes. (image : List ℕ) → images image → MayHaveBegun (shape_of s) s.areas bytes image)) same;
}

-- the end where no disk was taken
pub ends_before : {D : Type 0} (g : Ghosts D) (before after : RackAt D) (s : Scenario) (fault : Fault) → after.given ≡ before.given
    → after.handed ≡ before.handed → after.taken ≡ before.taken → before.faults ≤ after.faults
    → (32 ≤ before.unfailing → after.faults ≡ before.faults)
    → IsUnbuilt (racked g before after) s fault → EndsEarly (racked g before after) s fault
ends_before g before after s fault given handed taken level sure why = record {
  why = why;
  untouched = untouched_before g before after s handed;
  given_back = none_balances g before after given handed taken level;
  unfailing = λ many rose. let same = sure many in omega (arith, rose, same);
}

module _ {D : Type 0} (g : Ghosts D) (s : Scenario) (before mid after : RackAt D) (taken back : List D)
    (is : IsReturned g before mid after taken back) where
  abbrev rack : Racked
  rack = racked g before after

  -- what was done to the disk of each site
  abbrev pub AreLeft : Type 0
  AreLeft = (i : ℕ) (disk : D) → slice_get taken i ≡ Some disk
      → (now : D) × (slice_get back i ≡ Some now) × LeavesDisk g s disk now

  -- the disk that was taken, by the one that is given back
  left_of : AreLeft → (i : ℕ) (now : D) → slice_get back i ≡ Some now
      → (disk : D) × (slice_get taken i ≡ Some disk) × LeavesDisk g s disk now
  left_of left i now at =
      let within = slice_get_within back i now at in
      let long = is.long in
      let there = there_is taken i (omega (arith, within, long)) in
      let found = left i there.0 there.1 in
      let same : found.0 ≡ now = (let e : Some found.0 ≡ Some now = sym found.1 ∙ at in cc) in
      (there.0, there.1, subst (λ (d : D). LeavesDisk g s there.0 d) same found.2)

  pub untouched : AreLeft → IsUntouched rack s
  untouched left = record {
    unarmed = each_back g before mid after taken back is (λ i. IsUnarmed) (λ i now at.
        let was = left_of left i now at in
        subst (λ (o : Option (List Arming)). IfSome o (λ told. told ≡ [])) (sym was.2.arms) (is.fresh i was.0 was.1).unarmed);
    kept = each_back g before mid after taken back is
        (λ i known images. Holds rack i (λ bytes. (image : List ℕ) → images image → MayHaveBegun (shape_of s) s.areas bytes image)) (λ i now at.
        let was = left_of left i now at in
        holds_taken g before.disks i was.0 (is.told i was.0 was.1)
        (λ bytes. (image : List ℕ) → g.may_leave now image → MayHaveBegun (shape_of s) s.areas bytes image)
        (of_reads (g.known was.0).reads (g.may_leave was.0)
        (λ bytes. (image : List ℕ) → g.may_leave now image → MayHaveBegun (shape_of s) s.areas bytes image) (is.fresh i was.0 was.1).durable
        (λ bytes told only. was.2.images bytes (record { told = told; only = only }))));
  }

  -- what the disk of a site held
  pub held : (i : ℕ) (disk : D) (P : List ℕ → Type 0) → slice_get taken i ≡ Some disk
      → ((bytes : List ℕ) → HasOnly g bytes disk → P bytes) → Holds rack i P
  held i disk P at so =
      holds_taken g before.disks i disk (is.told i disk at) P
      (of_reads (g.known disk).reads (g.may_leave disk) P (is.fresh i disk at).durable
      (λ bytes told only. so bytes (record { told = told; only = only })))

  -- the end where the disks were taken, and given back
  pub ends_early : (fault : Fault) → AreLeft → (32 ≤ before.unfailing → after.faults ≡ before.faults)
      → IsUnbuilt rack s fault → EndsEarly rack s fault
  ends_early fault left sure why = record {
    why = why;
    untouched = untouched left;
    given_back = balances g before mid after taken back is;
    unfailing = λ many rose. let same = sure many in omega (arith, rose, same);
  }

  -- why it ended, where a site didn't begin with its disk
  module _ (site : ℕ) (disk now : D) (at : slice_get taken site ≡ Some disk) (there : slice_get back site ≡ Some now)
      (why : BeginFault) (begins : (bytes : List ℕ) → HasOnly g bytes disk → IsBegun (shape_of s) bytes (Err why))
      (rises : IsFaultOfBegin (Err why) (g.known disk).faults (g.known now).faults)
      (others : (i : ℕ) (d : D) (bytes : List ℕ) → i < site → slice_get taken i ≡ Some d → HasOnly g bytes d
      → HasNoRecord (shape_of s) bytes)
      (faultless : (i : ℕ) (d e : D) → i < site → slice_get taken i ≡ Some d → slice_get back i ≡ Some e
      → (g.known e).faults ≡ (g.known d).faults) where
    others_held : (i : ℕ) → i < site → Holds rack i (HasNoRecord (shape_of s))
    others_held i before_ =
        let within = slice_get_within taken site disk at in
        let d = there_is taken i (omega (arith, within, before_)) in
        held i d.0 (HasNoRecord (shape_of s)) d.1 (λ bytes only. others i d.0 bytes before_ d.1 only)

    faultless_before : (i : ℕ) (e : D) → slice_get back i ≡ Some e → i < site → (g.known e).faults ≡ 0
    faultless_before i e at_ early =
        let within = slice_get_within back i e at_ in
        let long = is.long in
        let d = there_is taken i (omega (arith, within, long)) in
        faultless i d.0 e early d.1 at_ ∙ (is.fresh i d.0 d.1).faultless

    within : length taken ≡ s.catalog.sites → site < s.catalog.sites
    within many = let w = slice_get_within taken site disk at in omega (arith, w, many)

    each_faultless : rack.each (IsFaultlessBefore site)
    each_faultless = each_back g before mid after taken back is (IsFaultlessBefore site) faultless_before

    pub unbuilt : length taken ≡ s.catalog.sites → (w : BeginFault) → why ≡ w → IsUnbuilt rack s (fault_of site w)
    unbuilt many unbegun.Failed same = (
      within many,
      inr (record {
        all = subst (λ (n : ℕ). rack.took n) many (took_all g before mid after taken back is);
        failed = one_back g before mid after taken back is site now HasFailed there
            (let rose : (g.known disk).faults < (g.known now).faults =
            subst (λ (x : BeginFault). IsFaultOfBegin (Err x) (g.known disk).faults (g.known now).faults) same rises in
            omega (arith, rose));
        before = each_faultless;
        no_record = others_held;
      }),
    )
    unbuilt many unbegun.Foreign same = (
      within many,
      record {
        unfit = held site disk (HasCause (shape_of s) Foreign 0) at (λ bytes only.
            let so = subst (λ (x : BeginFault). IsBegun (shape_of s) bytes (Err x)) same (begins bytes only) in (refl, so.0, so.1));
        others = others_held;
      },
      each_faultless,
    )
    unbuilt many (unbegun.Damaged place claimed) same = (
      within many,
      record {
        unfit = held site disk (HasCause (shape_of s) (Damaged claimed) place) at (λ bytes only.
            subst (λ (x : BeginFault). IsBegun (shape_of s) bytes (Err x)) same (begins bytes only));
        others = others_held;
      },
      each_faultless,
    )
    unbuilt many unbegun.Used same = (
      within many,
      record {
        unfit = held site disk (HasCause (shape_of s) Used 8) at (λ bytes only.
            (refl, subst (λ (x : BeginFault). IsBegun (shape_of s) bytes (Err x)) same (begins bytes only)));
        others = others_held;
      },
      each_faultless,
    )
    unbuilt many unbegun.NoMemory same = tt

-- the end where a site didn't begin with its disk
module _ {D : Type 0} (g : Ghosts D) (s : Scenario) (before mid after : RackAt D) (taken : List D) (u : Unbuilt D)
    (is : IsReturned g before mid after taken u.disks.items) where
  left_by : ((i : ℕ) (disk : D) → slice_get taken i ≡ Some disk
      → (now : D) × (slice_get (map (λ (d : D). Some d) u.disks.items) i ≡ Some (Some now)) × LeavesDisk g s disk now)
      → AreLeft g s before mid after taken u.disks.items is
  left_by left i disk at =
      let found = left i disk at in
      let there = field_of (λ (d : D). Some d) u.disks.items i (Some found.0) found.1 in
      let same : there.0 ≡ found.0 = (let e = there.2 in cc) in
      (found.0, there.1 ∙ ap (λ (d : D). Some d) same, found.2)

  pub ends_unbuilt : length taken ≡ s.catalog.sites → IsWhyNone g s taken u
      → ((i : ℕ) (disk : D) → slice_get taken i ≡ Some disk
      → (now : D) × (slice_get (map (λ (d : D). Some d) u.disks.items) i ≡ Some (Some now)) × LeavesDisk g s disk now)
      → (32 ≤ before.unfailing → after.faults ≡ before.faults)
      → EndsEarly (racked g before after) s (fault_of u.site.0 u.why)
  ends_unbuilt many why left sure =
      let disk = there_is taken u.site.0 why.there in
      let now = there_is u.disks.items u.site.0 (let t = why.there in let l = why.all_back in omega (arith, t, l)) in
      ends_early g s before mid after taken u.disks.items is (fault_of u.site.0 u.why) (left_by left) sure
      (unbuilt g s before mid after taken u.disks.items is u.site.0 disk.0 now.0 disk.1 now.1 u.why
      (λ bytes only. why.why disk.0 bytes disk.1 only) (why.fault disk.0 now.0 disk.1 now.1)
      (λ i d bytes before_ at only. why.before i d bytes before_ at only)
      (λ i d e before_ at there. why.faultless i d e before_ at there) many u.why refl)
