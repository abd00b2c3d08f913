-- What a call promises over a rack that tells its disks, whose disks have no bytes and never failed where they have no
-- arm, and of which two calls for each site don't fail.
use Rattle.std.proofs.Common.{◌≡◌, ℕ, ◌≤◌, List, [], ◌∷◌, ◌++◌, ◌⊎◌, ⊎_elim, suc, length, map, replicate, Option, Some, None, ap, sym, ◌∙◌, refl, subst, arith, inl, inr}
use Rattle.std.specs.Prelude.{All, Contains, IfSome, String, slice_get}
use Rattle.std.specs.Global.{Global}
use Rattle.std.proofs.lemmas.List.Elements.{All-contains, All-weaker}
use Rattle.walter_base.specs.declared.format.Format.{Format}
use Rattle.walter_disk.specs.Disks.{Arming, DiskState, asked}
use Rattle.walter_disk.specs.declared.disk.Disk.{Ghosts}
use Rattle.walter_engine.proofs.Laid.{for_header}
use Rattle.walter_engine.specs.Begins.{HasNoRecord}
use Rattle.walter_engine.specs.Contents.{HasBodies}
use Rattle.walter_cluster.specs.Benches.{IsLaidFor, layout_of, shape_of}
use Rattle.walter_cluster.proofs.Changes.{there_is}
use Rattle.walter_play.specs.Scripts.{all_arms}
use Rattle.walter_rules.specs.Layouts.{Layout, one_area, two_areas, header_of}
use Rattle.walter_scenario.specs.declared.scenario.Scenario.{Scenario}
use Rattle.walter_stream.specs.Streams.{Appends, AppendsFront}
use Rattle.walter_cli.specs.declared.ended.Ended.{Ended}
use Rattle.walter_cli.specs.declared.ended.Fault.{Fault}
use Rattle.walter_cli.specs.declared.ended.Fault.TheVariants.{Memory, Rack, Journal}
use Rattle.walter_cli.specs.declared.ended.JournalCause.{JournalCause}
use Rattle.walter_cli.specs.Assurance.{Assures, IsSureRun, IsSureReport, calls_begun_anew}
use Rattle.walter_cli.specs.Headline.{Outside, HasNotBegun, HaveHeaders, Says, IsDiskOfRun, Runs, RunsWhole, IsRackFault, FailsEarly, Promise}
use Rattle.walter_cli.specs.Racks.{RackAt, Racked, OfADisk, IsTold, Holds, AreSo, AreFirst, IsHanded, IsMore, IsUntaken, IsUnarmed, HasFailed, HasCause, racked}
use Rattle.walter_cli.specs.Statuses.{status_of}
use Rattle.walter_cli.specs.Words.{written_by}
use Rattle.walter_words.specs.declared.asked.Command.{Command}
use Rattle.walter_cli.proofs.Wholes.{posed_some}
use Rattle.walter_cli.proofs.Causes.{none_has_cause}
use Rattle.walter_cli.proofs.Driven.{driven_by_fewer}
use Rattle.walter_cli.proofs.Giving.{of_both, numbered_has}

none_of_none : (arms : Option (List Arming)) (all : List (ℕ × ℕ)) → all ≡ []
    → IfSome arms (λ told. (more : List (ℕ × ℕ)) × (all ≡ map asked told ++ more)) → IfSome arms (λ told. told ≡ [])
none_of_none None all none is = tt
none_of_none (Some told) all none is = by told (sym is.1 ∙ none)
  where
    by : (xs : List Arming) → map asked xs ++ is.0 ≡ [] → xs ≡ []
    by [] e = refl
    by (x ∷ xs) e = absurd (let l = ap length e in omega (arith, l))

-- what is so of what may be there, by what is
if_some : {X : Type 0} (P Q : X → Type 0) → ((x : X) → P x → Q x) → (o : Option X) → IfSome o P → IfSome o Q
if_some P Q by None is = tt
if_some P Q by (Some x) is = by x is

-- a list of one thing alone
all_equal : {X : Type 0} (x : X) (xs : List X) → ((i : ℕ) (y : X) → slice_get xs i ≡ Some y → y ≡ x)
    → xs ≡ replicate (length xs) x
all_equal x [] same = refl
all_equal x (y ∷ ys) same = λ j. same 0 y refl j ∷ all_equal x ys (λ i z at. same (suc i) z at) j

-- no book lies in no bytes
no_bodies : (layout : Layout) → HasBodies layout [] [] → ⊥
no_bodies (one_area capacity header) has = omega (arith, ap length has.is)
no_bodies (two_areas capacity sites header) has = omega (arith, ap length has.is)

-- so a journal over none has the header that the scenario asks for
new_header : (s : Scenario) (bytes : List ℕ) (header : Format) → bytes ≡ []
    → (layout : Layout) × IsLaidFor s bytes layout × (header_of layout ≡ header) → header ≡ s.format
new_header s bytes header none (layout, laid, named) =
    let asked : layout ≡ layout_of s =
    ⊎_elim (λ new. new.1) (λ has. absurd (no_bodies layout (subst (λ b. HasBodies layout b []) none has))) laid.laid in
    sym named ∙ ap header_of asked ∙ for_header s.areas s.capacity s.catalog.sites s.format

-- what is so of each disk that was handed back
each_weaker : {D : Type 0} (g : Ghosts D) (old new : Option (List (ℕ × D))) (P Q : ℕ → OfADisk)
    → ((i : ℕ) (known : DiskState) (images : List ℕ → Type 0) → P i known images → Q i known images)
    → IsMore old new (AreSo g P) → IsMore old new (AreSo g Q)
each_weaker g None new P Q by is = tt
each_weaker {D = D} g (Some old) new P Q by is = (
  is.0,
  is.1,
  All-weaker (λ (it : ℕ × D). P it.0 (g.known it.1) (g.may_leave it.1)) (λ (it : ℕ × D). Q it.0 (g.known it.1) (g.may_leave it.1))
      (λ it holds. by it.0 (g.known it.1) (g.may_leave it.1) holds) is.0 is.2,
)

-- a fault with status 7 names a cause, and one with status 6 a site
journal_of : (fault : Option Fault) → status_of fault ≡ 7
    → (site : ℕ) × (cause : JournalCause) × (place : ℕ) × (fault ≡ Some (Journal site cause place))
journal_of (Some (Journal site cause place)) is = (site, cause, place, refl)
journal_of _ is = absurd (omega (arith, is))

rack_of : (fault : Option Fault) → status_of fault ≡ 6 → (site : ℕ) × (fault ≡ Some (Rack site))
rack_of (Some (Rack site)) is = (site, refl)
rack_of _ is = absurd (omega (arith, is))

module _ (words : List (String Global)) {D : Type 0} (g : Ghosts D) (first last : RackAt D) (before after : Outside)
    (ended : Ended)
    (promised : Promise words (racked g first last) before after ended)
    (told : (i : ℕ) → IsTold (racked g first last) i)
    (empty : (i : ℕ) → Holds (racked g first last) i (λ bytes. bytes ≡ []))
    (anew : (s : Scenario) (i : ℕ) → (racked g first last).calls_begun (shape_of s) s.areas i ≡ Some (calls_begun_anew s))
    (many : 32 ≤ first.unfailing)
    (none_handed : first.handed ≡ Some [])
    (sound : (more : List (ℕ × D)) → last.handed ≡ Some more
    → All (λ (it : ℕ × D). IsUnarmed (g.known it.1) (g.may_leave it.1) → (g.known it.1).faults ≡ 0) more) where
  abbrev rack : Racked
  rack = racked g first last

  ok : ¬ rack.failed
  ok = promised.unfailing many

  -- what was handed
  handed_is : (P : List (ℕ × D) → Type 0) → IsHanded first last P
      → (more : List (ℕ × D)) × (last.handed ≡ Some more) × P more
  handed_is P is =
      subst (λ (o : Option (List (ℕ × D))). IfSome o (λ old. (more : List (ℕ × D)) × (last.handed ≡ Some (old ++ more)) × P more))
      none_handed is

  -- a disk that was handed back, where it has no arm, has not failed
  sound_one : (more : List (ℕ × D)) (i : ℕ) (disk : D) → last.handed ≡ Some more → Contains more (i, disk)
      → IsUnarmed (g.known disk) (g.may_leave disk) → (g.known disk).faults ≡ 0
  sound_one more i disk is there =
      All-contains (λ (it : ℕ × D). IsUnarmed (g.known it.1) (g.may_leave it.1) → (g.known it.1).faults ≡ 0) more (i, disk)
      (sound more is) there

  -- where no run began, no disk is armed
  unarmed_each : HasNotBegun words rack before after → rack.each (λ i. IsUnarmed)
  unarmed_each (inl untaken) =
      each_weaker g first.handed last.handed (λ i known images. ⊥) (λ i. IsUnarmed) (λ i known images none. absurd none) untaken.1
  unarmed_each (inr untouched) = untouched.holds.unarmed

  -- no disk failed before the sites were up
  never : FailsEarly rack ended.trails.items → ⊥
  never early =
      let back = handed_is (λ more. (disk : D) × Contains more (early.1.0, disk) × HasFailed (g.known disk) (g.may_leave disk)) early.1.1 in
      elim promised.legal_trails [
        | inl none ↦
            let each = handed_is (AreSo g (λ i. IsUnarmed)) (unarmed_each none.1) in
            let same : each.0 ≡ back.0 = (let e : Some each.0 ≡ Some back.0 = sym each.1 ∙ back.1 in cc) in
            let unarmed =
            All-contains (λ (it : ℕ × D). IsUnarmed (g.known it.1) (g.may_leave it.1)) back.0 (early.1.0, back.2.0)
            (subst (λ (xs : List (ℕ × D)). AreSo g (λ i. IsUnarmed) xs) same each.2) back.2.1 in
            let level = sound_one back.0 early.1.0 back.2.0 back.1 back.2.1 unarmed in
            let rose = back.2.2 in
            omega (arith, level, rose)
        | inr runs ↦
            let l = ap length (sym early.0) in
            let one = runs.run.one_each in
            let some = posed_some runs.command before.left after.left runs.scenario runs.posed in
            omega (arith, l, one, some)
      ]

  -- so no disk is named
  racked_never : (site : ℕ) (command : Command) (s : Scenario) → IsRackFault rack command s ended.trails.items site → ⊥
  racked_never site command s (inl (none, untouched, inl take)) = ok take.failed
  racked_never site command s (inl (none, untouched, inr load)) = never (none, (site, load.failed))
  racked_never site command s (inr (arms, run, give)) = ok give.failed

  sure : Runs words rack before after ended.trails.items → IsSureRun words rack before after ended.trails.items
  sure runs = record {
    command = runs.command;
    asked = runs.asked;
    scenario = runs.scenario;
    posed = runs.posed;
    whose_calls = runs.run.whose_calls;
    tells = runs.run.told (λ i below. told i);
    unarmed = λ i below none.
        let trails = ended.trails.items in
        let P : ℕ → OfADisk = λ j. IsDiskOfRun rack runs.scenario trails j in
        let back = handed_is (AreFirst g runs.scenario.catalog.sites P) runs.run.disks in
        let disk = there_is back.2.0 i (let l = back.2.1 in omega (arith, below, l)) in
        let there : Contains back.0 (i, disk.0) =
        subst (λ (xs : List (ℕ × D)). Contains xs (i, disk.0)) (sym back.2.2) (numbered_has back.2.0 i disk.0 disk.1) in
        let is = All-contains (λ (it : ℕ × D). P it.0 (g.known it.1) (g.may_leave it.1)) back.0 (i, disk.0) back.2.3 there in
        let level = sound_one back.0 i disk.0 back.1 there
        (none_of_none (g.known disk.0).arms (all_arms runs.scenario i) none is.first_arms) in
        let most = is.faults in
        omega (arith, level, most);
    disks = elim runs.run.given_back [ inl failed ↦ absurd (ok failed) | inr all ↦ all ];
  }

  -- the journals were new
  headers_new : (s : Scenario) (headers : List Format) → HaveHeaders rack s headers
      → headers ≡ replicate s.catalog.sites s.format
  headers_new s headers have =
      all_equal s.format headers (λ i header at.
      of_both (rack.bytes i) (λ bytes. (layout : Layout) × IsLaidFor s bytes layout × (header_of layout ≡ header))
      (λ bytes. bytes ≡ []) (header ≡ s.format) (λ bytes laid none. new_header s bytes header none laid) (told i)
      (have.each i header at) (empty i))
      ∙ ap (λ n. replicate n s.format) have.one_each

  report : (Written : List ℕ → Type 0) → RunsWhole words rack before after ended.trails.items Written
      → IsSureReport words rack before after ended.trails.items Written
  unfolding sure
  report Written is = record {
    run = sure (record {
      command = is.command;
      asked = is.asked;
      scenario = is.scenario;
      posed = is.posed;
      run = is.run.run;
    });
    arms = is.arms;
    disks = is.disks_given_back;
    calls = is.run.calls;
    calls_begun = λ i below.
        subst (λ (o : Option ℕ). IfSome o (λ made. is.run.calls i ≡ made)) (anew is.scenario i) (is.run.calls_begun i below);
    how_driven = driven_by_fewer is.command (λ i. IsTold rack i) (λ i. Unit {0}) is.scenario is.run.calls ended.trails.items is.arms
        (λ i all. told i) is.run.how_driven;
    bytes_written =
        let text = is.bytes_written in
        subst (λ (hs : List Format). Written (written_by is.command is.scenario hs ended.trails.items))
        (headers_new is.scenario text.0 text.1) text.2;
  }

  -- a disk of no bytes has no record
  no_record : (s : Scenario) (i : ℕ) → Holds rack i (HasNoRecord (shape_of s))
  no_record s i = if_some (λ bytes. bytes ≡ []) (HasNoRecord (shape_of s)) (λ bytes none. inl none) (rack.bytes i) (empty i)

  done : (Written : List ℕ → Type 0)
      → RunsWhole words rack before after ended.trails.items Written ⊎ Says words rack before after ended.trails.items Written
      → IsSureReport words rack before after ended.trails.items Written ⊎ Says words rack before after ended.trails.items Written
  done Written (inl run) = inl (report Written run)
  done Written (inr text) = inr text

  pub assured : Assures words rack before after ended
  assured = record {
    status = promised.status;
    written = λ h. done (Appends before.holds after.holds) (promised.written h);
    usage = promised.usage;
    unasked = promised.unasked;
    texts = promised.texts;
    unreadable = promised.unreadable;
    unread = promised.unread;
    cut = λ h. (done (AppendsFront before.holds after.holds) (promised.cut h), promised.failed h);
    unasked_source = promised.unasked_source;
    never_unracked = λ h.
        let named = rack_of ended.fault (sym promised.status ∙ h) in
        let why = promised.unracked named.0 named.1 in
        racked_never named.0 why.command why.scenario why.holds.1;
    never_unfit = λ h.
        let named = journal_of ended.fault (sym promised.status ∙ h) in
        let why = (promised.unfit named.0 named.1 named.2 named.3).holds.1 in
        let shape = shape_of (promised.unfit named.0 named.1 named.2 named.3).scenario in
        of_both (rack.bytes named.0) (HasCause shape named.1 named.2) (λ bytes. bytes ≡ []) ⊥
        (none_has_cause shape named.1 named.2) (told named.0) why.unfit (empty named.0);
    given_back = promised.given_back;
    legal_trails = elim promised.legal_trails [ inl none ↦ inl none | inr runs ↦ inr (sure runs) ];
    silent = promised.silent;
    complete = λ command s asked poses source sink.
        elim (promised.complete command s asked poses (λ i below. told i) (λ i below. no_record s i) source sink ok) [
          | inl done ↦ inl done
          | inr other ↦ elim other [ inl memory ↦ inr memory | inr early ↦ absurd (never early) ]
        ];
    refuses = promised.refuses;
  }

-- where there was no memory for the rack
pub assured_early : (words : List (String Global)) (rack : Racked) (at : Outside) (ended : Ended) → rack.balanced
    → IsUntaken rack → ended.status ≡ 5 → ended.fault ≡ Some Memory → ended.trails.items ≡ []
    → Assures words rack at at ended
assured_early words rack at ended back untaken is named none = record {
  status = is ∙ ap status_of (sym named);
  written = λ h. absurd (omega (arith, is, h));
  usage = λ h. absurd (omega (arith, is, h));
  unasked = λ nothing. inr (inl is);
  texts = λ asked h. omega (arith, is, h);
  unreadable = λ place detail h. absurd (let e = sym named ∙ h in cc);
  unread = λ h. absurd (omega (arith, is, h));
  cut = λ h. absurd (omega (arith, is, h));
  unasked_source = λ seed calls asked. (refl, refl, λ h. omega (arith, is, h));
  never_unracked = λ h. omega (arith, is, h);
  never_unfit = λ h. omega (arith, is, h);
  given_back = back;
  legal_trails = inl (none, inl untaken);
  silent = λ not_done not_cut. refl;
  complete = λ command s asked poses source sink. inr is;
  refuses = λ command bytes place asked reads left wrong source. inr is;
}
