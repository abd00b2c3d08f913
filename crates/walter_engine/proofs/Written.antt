-- What the write of a record leaves, and what comes of it.
use Rattle.std.proofs.Common.{◌≡◌, ℕ, ◌-◌, ◌<◌, ◌≤◌, List, [], ◌∷◌, ◌++◌, Bool, true, false, Option, Some, None, Result, Err, refl, ap, sym, ◌∙◌, subst, inl, inr, ◌⊎◌, ⊎_elim, arith}
use Rattle.std.specs.Prelude.{IfSome, IsSome, OnErr, is_some}
use Rattle.std.proofs.lemmas.Bool.{cases_lt}
use Rattle.walter_base.specs.declared.catalog.Catalog.{Catalog}
use Rattle.walter_base.specs.declared.format.Format.{Format}
use Rattle.walter_base.specs.declared.format.Format.TheVariants.{First, Second}
use Rattle.walter_base.specs.declared.message.Record.{Record}
use Rattle.walter_base.specs.declared.message.Record.TheVariants.{Boot, Format as FormatRecord}
use Rattle.walter_base.specs.declared.names.SiteId.{SiteId}
use Rattle.walter_base.specs.Sizes.{most_in}
use Rattle.walter_engine.specs.Effects.{AreCalls, AreCallsFor}
use Rattle.walter_checkpoint.proofs.Adding.{stands_more}
use Rattle.walter_checkpoint.specs.Books.{disk_of, shape_of, left_of, IsLaidBeforeOrBehind, StandsFor, Appends}
use Rattle.walter_checkpoint.specs.declared.book.Book.{Book}
use Rattle.walter_disk.specs.declared.disk.Disk.{Ghosts}
use Rattle.walter_disk.specs.Disks.{Fails}
use Rattle.walter_disk.specs.Images.{LeavesOnly}
use Rattle.walter_engine.specs.Contents.{AreSpelled, CanStandIn, HasBodies, says_again, spelled}
use Rattle.walter_engine.specs.Stores.{book_if, disk_if, layout_by, layout_of, IsKept, IsOnDisk, IsStored, IsLeft}
use Rattle.walter_engine.specs.Writings.{IsSameButRoom, IsSpelling, IsSpellingIfAny, IsOutcomeOf, IsFormatAt}
use Rattle.walter_engine.proofs.Bodies.{some_is}
use Rattle.walter_engine.proofs.Resting.{SizeIs, CountsNow, stored, stored_failed, stored_unpacked}
use Rattle.walter_engine.proofs.Left.{AnyPlain, AnyBoot, IsPlain, IsBoot, brings_plain, brings_boot, stays_down, left_more, left_same}
use Rattle.walter_engine.proofs.Room.{need_is, fits_format, fits_among}
use Rattle.walter_engine.proofs.Spelled.{Behind, spelled-push, spelled_among, spelled_after, told_format}
use Rattle.walter_journal.specs.declared.fault.AppendFault.{AppendFault}
use Rattle.walter_journal.specs.declared.fault.AppendFault.TheVariants as append
use Rattle.walter_journal.specs.Journals.{need_of as body_need}
use Rattle.walter_machine.specs.declared.machine.Machine.{Machine}
use Rattle.walter_machine.proofs.Sizes.{none_sent}
use Rattle.walter_machine.specs.Comings.{is_faulty, IsFaulty, RisesIf, IsSized}
use Rattle.walter_machine.specs.States.{AreTold, CanBeNext, IsState}
use Rattle.walter_machine.specs.Readiness.{rec_in, IsReadyFor, IsReadyAnyway}
use Rattle.walter_machine.specs.declared.ready.Ready.{Ready}
use Rattle.walter_machine.specs.Machines.{catalog_in, tables_in, is_up, HasStanding}
use Rattle.walter_record.specs.Spelling.{record_spelled, HasRecordSpelling, AreInRange, FitsFormat}
use Rattle.walter_rules.specs.declared.entry.Came.{Came}
use Rattle.walter_rules.specs.declared.event.Event.{Event}
use Rattle.walter_rules.specs.declared.event.Event.TheVariants.{Given}
use Rattle.walter_rules.specs.declared.event.Input.TheVariants.{Call, Upgrade}
use Rattle.walter_rules.specs.declared.outcome.Outcome.{Outcome}
use Rattle.walter_rules.specs.declared.outcome.Outcome.TheVariants.{Refused, Taken}
use Rattle.walter_rules.specs.Allowed.{IsKind, boots, upgrades}
use Rattle.walter_rules.specs.Calls.{Expected}
use Rattle.walter_rules.specs.Layouts.{Layout, header_of, in_force, format_at, need_of, need_in, left_behind, FitsIn}
use Rattle.walter_rules.specs.Records.{IsRecordAmong}
use Rattle.walter_rules.specs.Rule.{rule, rule_where, upgrade_rule}
use Rattle.walter_rules.proofs.RulesAllowed.{rule_allowed}
use Rattle.walter_rules.specs.Standing.{Standing, records_after, flight_after, stands_after, up_after}
use Rattle.walter_rules.specs.Trails.{failure, fullness, want, only}
use Rattle.walter_site.specs.Members.{IsShortOutcome}
use Rattle.walter_tables.specs.declared.tables.Tables.{Tables}

-- the spelling of the record, where there is one
pub spelling_some : {D : Type 0} {g : Ghosts D} (format : Format) (book : Book D g) (rec : Option Record)
    (body : Option (List ℕ)) (b : List ℕ) → IsSpellingIfAny format book rec body → body ≡ Some b
    → (r : Record) × (rec ≡ Some r) × IsSpelling format book r b
spelling_some {D} {g} format book rec body b all is =
    at rec (subst (λ (o : Option (List ℕ)). IsSpellingIfAny {g = g} format book rec o) is all)
  where
    at : (o : Option Record) → IsSpellingIfAny {g = g} format book o (Some b)
        → (r : Record) × (o ≡ Some r) × IsSpelling {g = g} format book r b
    at None a = absurd a
    at (Some r) a = (r, refl, a)

-- where there is none, there is no record
pub spelling_none : {D : Type 0} {g : Ghosts D} (format : Format) (book : Book D g) (rec : Option Record)
    (body : Option (List ℕ)) → IsSpellingIfAny format book rec body → body ≡ None → rec ≡ None
spelling_none {D} {g} format book rec body all is =
    at rec (subst (λ (o : Option (List ℕ)). IsSpellingIfAny {g = g} format book rec o) is all)
  where
    at : (o : Option Record) → IsSpellingIfAny {g = g} format book o None → o ≡ None
    at None a = refl
    at (Some r) a = absurd a

-- ---- what an append answered

module _ (result : Result (Unit {0}) AppendFault) (need left : ℕ) (Same Rest : Type 0)
    (full : left < need → (result ≡ Err (append.Full need left)) × Same)
    (failed : need ≤ left → OnErr result ((result ≡ Err append.Failed) × Rest)) where
  -- a journal was full: the body needs more than is left
  pub full_is : (fault : AppendFault) (n l : ℕ) → result ≡ Err fault → fault ≡ append.Full n l
      → (left < need) × (n ≡ need) × (l ≡ left) × Same
  full_is fault n l is_err is_fault =
      let is : result ≡ Err (append.Full n l) = is_err ∙ ap (λ f. Err f) is_fault in
      elim (cases_lt left need) [
        | inl less ↦
            let here = full less in
            let same = sym is ∙ here.0 in
            (less, cc, cc, here.1)
        | inr enough ↦
            let here = subst (λ r. OnErr r ((result ≡ Err append.Failed) × Rest)) is (failed enough) in
            let same = sym is ∙ here.0 in
            absurd (cc)
      ]

  -- a call on the disk failed: there was room
  pub failed_is : (fault : AppendFault) → result ≡ Err fault → fault ≡ append.Failed → (need ≤ left) × Rest
  failed_is fault is_err is_fault =
      let is : result ≡ Err append.Failed = is_err ∙ ap (λ f. Err f) is_fault in
      elim (cases_lt left need) [
        | inl less ↦
            let same = sym is ∙ (full less).0 in
            absurd (cc)
        | inr enough ↦
            let here = subst (λ r. OnErr r ((result ≡ Err append.Failed) × Rest)) is (failed enough) in
            (enough, here.1)
      ]

-- ---- the outcomes of an event whose record isn't kept

abbrev pub is_refusal : Outcome → Bool
is_refusal Refused = true
is_refusal outcome = false

abbrev pub is_taken : Outcome → Bool
is_taken Taken = true
is_taken outcome = false

kind_allowed : (catalog : Catalog) (i : SiteId) (S : Standing) (event : Event) (wrote : Option Record)
    (outcome : Outcome) → IsKind catalog i S event wrote outcome → is_refusal outcome ≡ false
kind_allowed catalog i S event wrote outcome (boots down) = refl
kind_allowed catalog i S event wrote outcome kind = refl

-- the record says that the second format begins
abbrev says_format : Option Record → Bool
says_format None = false
says_format (Some FormatRecord) = true
says_format (Some rec) = false

kind_format : (catalog : Catalog) (i : SiteId) (S : Standing) (event : Event) (wrote : Option Record)
    (outcome : Outcome) → IsKind catalog i S event wrote outcome
    → (says_format wrote ≡ false) ⊎ (event ≡ Given Upgrade)
kind_format catalog i S event wrote outcome (upgrades up first) = inr refl
kind_format catalog i S event wrote outcome kind = inl refl

others_once : (format : Format) (wrote : Option Record) → says_format wrote ≡ false
    → IfSome wrote (λ rec. says_again rec format ≡ false)
others_once format None other = tt
others_once format (Some FormatRecord) other = absurd (cc)
others_once format (Some rec) other = refl

upgrade_once : (up : Bool) (header : Format) (catalog : Catalog) (i : SiteId) (S : Standing)
    → IfSome (rule_where up header catalog i S Upgrade).wrote
    (λ rec. says_again rec (in_force header S.knows.format) ≡ false)
upgrade_once false header catalog i S = tt
upgrade_once true header catalog i S = by (in_force header S.knows.format)
  where
    by : (format : Format) → IfSome (upgrade_rule format).wrote (λ rec. says_again rec format ≡ false)
    by First = refl
    by Second = tt

-- no rule says where the second format is in force that this begins
pub rule_once : (header : Format) (catalog : Catalog) (i : SiteId) (S : Standing) (event : Event)
    → IfSome (rule header catalog i S event).wrote (λ rec. says_again rec (in_force header S.knows.format) ≡ false)
rule_once header catalog i S event =
    ⊎_elim (others_once (in_force header S.knows.format) (rule header catalog i S event).wrote)
    (λ is.
    subst (λ (e : Event). IfSome (rule header catalog i S e).wrote (λ rec. says_again rec (in_force header S.knows.format) ≡ false))
    (sym is) (upgrade_once S.up header catalog i S))
    (kind_format catalog i S event (rule header catalog i S event).wrote (rule header catalog i S event).outcome
    (rule_allowed header catalog i S event).0.kind)

-- no rule refuses a restart
pub rule_allows : (header : Format) (catalog : Catalog) (i : SiteId) (S : Standing) (event : Event)
    → is_refusal (rule header catalog i S event).outcome ≡ false
rule_allows header catalog i S event =
    kind_allowed catalog i S event (rule header catalog i S event).wrote (rule header catalog i S event).outcome
    (rule_allowed header catalog i S event).0.kind

pub failure_is : (event : Event) (rec : Record)
    → (is_faulty (failure event rec) ≡ true) × (is_refusal (failure event rec) ≡ false)
    × IsShortOutcome (failure event rec) × ((up : Bool) → up_after event (failure event rec) up ≡ false) × (is_taken (failure event rec) ≡ false)
failure_is (Given (Call client call)) (Boot epoch) = (refl, refl, tt, λ up. refl, refl)
failure_is event rec = (refl, refl, tt, λ up. refl, refl)

pub want_is : (event : Event) → (is_faulty (want event) ≡ false) × (is_refusal (want event) ≡ false)
    × IsShortOutcome (want event) × ((up : Bool) → up_after event (want event) up ≡ up) × (is_taken (want event) ≡ false)
want_is (Given (Call client call)) = (refl, refl, tt, λ up. refl, refl)
want_is event = (refl, refl, tt, λ up. refl, refl)

pub fullness_is : (event : Event) (need left : ℕ) → (is_faulty (fullness event need left) ≡ false)
    × (is_refusal (fullness event need left) ≡ false) × IsShortOutcome (fullness event need left)
    × ((up : Bool) → up_after event (fullness event need left) up ≡ up) × (is_taken (fullness event need left) ≡ false)
fullness_is (Given (Call client call)) need left = (refl, refl, tt, λ up. refl, refl)
fullness_is event need left = (refl, refl, tt, λ up. refl, refl)

-- only a restart that reads its journal is refused
pub unrefused : (format : Format) (catalog : Catalog) (i : SiteId) (site : Option Tables) (event : Event) (ready : Ready)
    (left : ℕ) (outcome : Outcome) → IsReadyAnyway catalog i site event ready
    → IsOutcomeOf format event ready left outcome → is_refusal outcome ≡ false
unrefused format catalog i site event ready left outcome anyway (inl is) =
    ap is_refusal (is ∙ ap (λ (e : Expected). e.outcome) anyway.ready_for.rule) ∙ rule_allows anyway.header catalog i anyway.S event
unrefused format catalog i site event ready left outcome anyway (inr (inl is)) = ap is_refusal is ∙ (want_is event).1
unrefused format catalog i site event ready left outcome anyway (inr (inr (inl is))) =
    ap is_refusal is.1 ∙ (failure_is event is.0).1
unrefused format catalog i site event ready left outcome anyway (inr (inr (inr is))) =
    ap is_refusal is.outcome_is ∙ (fullness_is event (need_of format is.rec) left).1

-- ---- the parts of what came

pub holds_some : (P : Record → Type 0) (o : Option Record) (rec : Record) → o ≡ Some rec → P rec → IfSome o P
holds_some P o rec is holds = subst (λ (o : Option Record). IfSome o P) (sym is) holds

pub holds_none : (P : Record → Type 0) (o : Option Record) → o ≡ None → IfSome o P
holds_none P o is = subst (λ (o : Option Record). IfSome o P) (sym is) tt

pub takes_memory : (o : Option Record) (Q : Type 0) → IsSome o → IfSome o (λ rec. Q) → Q
takes_memory None Q some takes = absurd (cc)
takes_memory (Some rec) Q some takes = takes

pub faults_as : (came : Came) (faulty : Bool) (old new : ℕ) → is_faulty came.outcome ≡ faulty → RisesIf faulty old new
    → IsFaulty came old new
faults_as came faulty old new is rises = subst (λ (b : Bool). RisesIf b old new) (sym is) rises

pub calls_as : (came : Came) (wrote flight : Option Record) (old new : ℕ) → came.wrote ≡ wrote → came.flight ≡ flight
    → AreCallsFor wrote flight old new → AreCalls came old new
calls_as came wrote flight old new is_wrote is_flight calls =
    subst (λ (w : Option Record). AreCallsFor w came.flight old new) (sym is_wrote)
    (subst (λ (f : Option Record). AreCallsFor wrote f old new) (sym is_flight) calls)

-- where nothing was done before
pub same_faults : (came : Came) (old mid new : ℕ) → mid ≡ old → IsFaulty came mid new → IsFaulty came old new
same_faults came old mid new same faults = subst (λ n. IsFaulty came n new) same faults

pub same_calls : (came : Came) (old mid new : ℕ) → mid ≡ old → AreCalls came mid new → AreCalls came old new
same_calls came old mid new same calls = subst (λ n. AreCalls came n new) same calls

pub sized_as : (sites : ℕ) (came other : Came) → came ≡ other → IsSized sites other → IsSized sites came
sized_as sites came other is sized = subst (λ (c : Came). IsSized sites c) (sym is) sized

pub sized_flying : (sites : ℕ) (event : Event) (rec : Record) → IsRecordAmong sites rec
    → IsSized sites (record (only (failure event rec)) { flight = Some rec })
sized_flying sites event rec can =
    record { outcome = (failure_is event rec).2; kept = tt; wrote = tt; flight = can; sends = none_sent sites }

-- the next record has its place in the format
pub fits_next : (format : Format) (catalog : Catalog) (i : SiteId) (S : Standing) (rec : Option Record)
    → catalog.sites ≤ most_in format → IfSome rec (CanBeNext catalog i S) → IfSome rec (FitsFormat format)
fits_next format catalog i S None few next = tt
fits_next format catalog i S (Some rec) few next = fits_among format catalog.sites rec few next.sizes

-- the record of what is ready
module _ (catalog : Catalog) (layout : Layout) (i : SiteId) (site : Option Tables) (S : Standing) (event : Event)
    (ready : Ready) (ready_for : IsReadyFor (header_of layout) catalog i site S event ready) (rec : Record)
    (is : rec_in ready ≡ Some rec) where
  pub brings : (rule (header_of layout) catalog i S event).wrote ≡ Some rec
  brings = sym (ap (λ (e : Expected). e.wrote) ready_for.rule) ∙ is

  pub has : (format : Format) → catalog.sites ≤ most_in format → AreInRange rec
      → HasRecordSpelling format catalog.sites rec
  has format fits ranges =
      spelled_among format catalog.sites rec fits
      (some_is (CanBeNext catalog i S) (rec_in ready) rec is ready_for.next).sizes ranges

  -- it can stand in the format in force
  pub stands_in : (format : Format) → AreTold catalog i S → IsFormatAt format layout S
      → HasRecordSpelling format catalog.sites rec → CanStandIn format catalog.sites rec
  stands_in format told at spelling =
      let once = some_is (λ r. says_again r (in_force (header_of layout) S.knows.format) ≡ false)
      (rule (header_of layout) catalog i S event).wrote rec brings (rule_once (header_of layout) catalog i S event) in
      record {
        spelling = spelling;
        once = subst (λ (f : Format). says_again rec f ≡ false)
            (told_format (header_of layout) catalog i S told ∙ sym at) once;
      }

  module _ {D : Type 0} {g : Ghosts D} (format : Format) (told : AreTold catalog i S)
      (at : IsFormatAt format layout S) (book : Book D g) (kept : IsKept {g = g} layout S book) (body : List ℕ)
      (body_is : body ≡ record_spelled format rec) (has_spelling : HasRecordSpelling format catalog.sites rec) where
    -- what it needs is what its spelling needs
    needs_here : body_need body ≡ need_in layout S rec
    needs_here =
        ap body_need body_is ∙ need_is format rec (fits_format format catalog.sites rec has_spelling)
        ∙ ap (λ (f : Format). need_of f rec) (at ∙ sym (told_format (header_of layout) catalog i S told))

    -- it finds its place in the book
    pub fits_here : body_need body ≤ left_of book → IfSome (rec_in ready) (FitsIn layout S)
    fits_here enough =
        holds_some (FitsIn layout S) (rec_in ready) rec is (omega (arith, enough, needs_here, kept.left))

    -- or it doesn't
    pub lacks_here : (need left : ℕ) → left_of book < body_need body → need ≡ body_need body → left ≡ left_of book
        → IfSome (rec_in ready) (λ rec. (need ≡ need_in layout S rec) × (left ≡ left_behind layout S) × (left < need))
    lacks_here need left less is_need is_left =
        holds_some (λ rec. (need ≡ need_in layout S rec) × (left ≡ left_behind layout S) × (left < need))
        (rec_in ready) rec is (is_need ∙ needs_here, is_left ∙ kept.left, omega (arith, less, is_need, is_left))

-- the site is up just where it has its tables
pub state_up : (S : Standing) (site : Option Tables) → IsState S site → S.up ≡ is_some site
state_up S None is = is
state_up S (Some tables) is = is.up

-- a book that is as before has the same records
pub same_layout : {D : Type 0} {g : Ghosts D} (old new : Book D g) → shape_of new ≡ shape_of old → new.live ≡ old.live
    → layout_of new ≡ layout_of old
same_layout old new shape live = ap (λ s. layout_by s new.live) shape ∙ ap (layout_by (shape_of old)) live

pub same_left : {D : Type 0} {g : Ghosts D} (old new : Book D g) → IsSameButRoom old new → left_of new ≡ left_of old
same_left old new same = omega (arith, same.book.limit, same.book.end)

pub same_kept : {D : Type 0} {g : Ghosts D} (layout : Layout) (S : Standing) (old new : Book D g) → IsSameButRoom old new
    → IsKept layout S old → IsKept layout S new
same_kept layout S old new same kept = record {
  laid = same_layout old new same.book.shape same.book.live ∙ kept.laid;
  stands = same.book.stands _ kept.stands;
  left = same_left old new same ∙ kept.left;
}

-- ---- what it leaves

module _ {D : Type 0} {g : Ghosts D} (size_is : SizeIs g) (catalog : Catalog) (layout : Layout) (i : SiteId)
    (S : Standing) (event : Event) (spellings : AreSpelled (header_of layout) catalog.sites S) (m : Machine)
    (catalog_is : catalog_in m ≡ catalog) (came : Came) (standing : HasStanding m (stands_after catalog i S event came))
    (new : Book D g) where
  abbrev T : Standing
  T = stands_after catalog i S event came

  abbrev header : Format
  header = header_of layout

  -- has a spelling behind the records
  abbrev Has : Record → Type 0
  Has = Behind header catalog.sites S.records None

  spelled_here : IfSome came.wrote Has → IfSome came.flight (Behind header catalog.sites S.records came.wrote)
      → AreSpelled header (catalog_in m).sites T
  spelled_here wrote flight =
      subst (λ (c : Catalog). AreSpelled header c.sites T) (sym catalog_is)
      (spelled_after header catalog.sites catalog i S event came spellings wrote flight)

  -- where nothing is in flight
  lands_here : came.flight ≡ None → IfSome came.wrote Has → AreSpelled header (catalog_in m).sites T
  lands_here flight wrote =
      spelled_here wrote
      (subst (λ (f : Option Record). IfSome f (Behind header catalog.sites S.records came.wrote)) (sym flight) tt)

  up_here : T.up ≡ is_up m
  up_here = state_up T (tables_in m) standing.state

  -- no record was written
  pub leaves_same : layout_of new ≡ layout → StandsFor new (spelled header S.records)
      → (T.up ≡ true → left_of new ≡ left_behind layout T) → came.wrote ≡ None → came.flight ≡ None
      → IsLeft {g = g} layout m T new
  leaves_same laid stands left wrote flight = record {
    machine = standing;
    spellings = lands_here flight (subst (λ (w : Option Record). IfSome w Has) (sym wrote) tt);
    stored = stored g size_is layout T new (is_up m) laid
        (subst (λ (w : Option Record). StandsFor new (spelled header (records_after w S.records))) (sym wrote) stands)
        (λ up. left (up_here ∙ up));
  }

  -- and the site didn't come up
  pub leaves_kept : IsKept layout S new → (T.up ≡ true → S.up ≡ true) → came.wrote ≡ None → came.flight ≡ None
      → IsLeft {g = g} layout m T new
  leaves_kept kept ups wrote flight =
      leaves_same kept.laid kept.stands
      (λ up. kept.left ∙ sym (left_same layout S T (up ∙ sym (ups up))
      (ap (λ (w : Option Record). records_after w S.records) wrote))) wrote flight

  -- the disk met a fault before that
  pub leaves_unpacked : CountsNow g → (old : Book D g) → layout_of old ≡ layout
      → StandsFor old (spelled header S.records) → Fails (g.known (disk_of old)) (g.known (disk_of new))
      → LeavesOnly g.moment g.left_since (disk_of old) (disk_of new)
      (λ image. HasBodies (layout_of old) image (spelled header S.records)) → tables_in m ≡ None
      → came.wrote ≡ None → came.flight ≡ None → IsLeft {g = g} layout m T new
  leaves_unpacked counts_now old laid stands fails run down wrote flight =
      let same : T.records ≡ S.records = ap (λ (w : Option Record). records_after w S.records) wrote in
      let there : spelled header S.records ≡ spelled (header_of (layout_of old)) T.records =
      ap (λ (l : Layout). spelled (header_of l) S.records) (sym laid) ∙ ap (spelled (header_of (layout_of old))) (sym same) in
      record {
        machine = standing;
        spellings = lands_here flight (subst (λ (w : Option Record). IfSome w Has) (sym wrote) tt);
        stored = subst
            (λ (o : Option Tables). IsStored {g = g} layout T (book_if (is_some o) new) (disk_if (is_some o) new)) (sym down)
            (subst (λ (l : Layout). IsOnDisk g l T (disk_of new)) laid
            (stored_unpacked g size_is counts_now T old new
            (subst (λ (b : List (List ℕ)). StandsFor old b) there stands) fails
            (subst (λ (b : List (List ℕ)). LeavesOnly g.moment g.left_since (disk_of old) (disk_of new)
            (λ image. HasBodies (layout_of old) image b)) there run)));
      }

  module _ (mid : Book D g) (rec : Record) (format : Format) (body : List ℕ) (kept : IsKept layout S mid)
      (at : IsFormatAt format layout S) (is : body ≡ record_spelled format rec)
      (has : CanStandIn format catalog.sites rec) where
    has_there : Has rec
    has_there = subst (λ (f : Format). CanStandIn f catalog.sites rec) at has

    is_there : body ≡ record_spelled (format_at header S.records) rec
    is_there = is ∙ ap (λ (f : Format). record_spelled f rec) at

    -- one was appended
    pub leaves_more : Appends mid new body → shape_of new ≡ shape_of mid → new.live ≡ mid.live
        → (rule header catalog i S event).wrote ≡ Some rec → came.wrote ≡ Some rec → came.flight ≡ None
        → IsLeft {g = g} layout m T new
    leaves_more appended shape live ruled wrote flight =
        let records : T.records ≡ S.records ++ rec ∷ [] = ap (λ (w : Option Record). records_after w S.records) wrote in
        let plain : S.up ≡ true → IsPlain rec =
        λ up. subst (λ (w : Option Record). AnyPlain w) ruled (brings_plain header catalog i S event up) in
        let boot : S.up ≡ false → IsBoot rec =
        λ down. subst (λ (w : Option Record). AnyBoot w) ruled (brings_boot header catalog i S event down) in
        let needs : body_need body ≡ need_of (format_at header S.records) rec =
        ap body_need is_there ∙ need_is (format_at header S.records) rec (fits_format _ catalog.sites rec has_there.spelling) in
        record {
          machine = standing;
          spellings = lands_here flight (subst (λ (w : Option Record). IfSome w Has) (sym wrote) has_there);
          stored = stored g size_is layout T new (is_up m) (same_layout mid new shape live ∙ kept.laid)
              (subst (λ (w : Option Record). StandsFor new (spelled header (records_after w S.records))) (sym wrote)
              (subst (λ (bodies : List (List ℕ)). StandsFor new bodies)
              (ap (λ (b : List ℕ). spelled header S.records ++ b ∷ []) is_there
              ∙ sym (spelled-push header S.records rec))
              (stands_more mid new body appended (spelled header S.records) kept.stands)))
              (λ up. appended.left ∙ ap (λ n. n - body_need body) kept.left
              ∙ ap (λ n. left_behind layout S - n) needs
              ∙ sym (left_more layout S T rec (up_here ∙ up) records plain boot));
        }

    -- one is in flight
    pub leaves_flying : CountsNow g → Fails (g.known (disk_of mid)) (g.known (disk_of new))
        → LeavesOnly g.moment g.left_since (disk_of mid) (disk_of new)
        (IsLaidBeforeOrBehind mid.live (shape_of mid) (spelled header S.records) body) → tables_in m ≡ None
        → came.wrote ≡ None → came.flight ≡ Some rec → IsLeft {g = g} layout m T new
    leaves_flying counts_now fails run down wrote flight = record {
      machine = standing;
      spellings = spelled_here (subst (λ (w : Option Record). IfSome w Has) (sym wrote) tt)
          (subst (λ (w : Option Record). IfSome came.flight (Behind header catalog.sites S.records w)) (sym wrote)
          (subst (λ (f : Option Record). IfSome f Has) (sym flight) has_there));
      stored = subst
          (λ (o : Option Tables). IsStored {g = g} layout T (book_if (is_some o) new) (disk_if (is_some o) new)) (sym down)
          (subst (λ (l : Layout). IsOnDisk g l T (disk_of new)) kept.laid
          (stored_failed g size_is counts_now S.records rec T mid new
          (subst (λ (l : Layout). StandsFor mid (spelled (header_of l) S.records)) (sym kept.laid) kept.stands) fails
          (subst (λ (l : Layout). LeavesOnly g.moment g.left_since (disk_of mid) (disk_of new)
          (IsLaidBeforeOrBehind mid.live (shape_of mid) (spelled (header_of l) S.records)
          (record_spelled (format_at (header_of l) S.records) rec))) (sym kept.laid)
          (subst (λ (b : List ℕ). LeavesOnly g.moment g.left_since (disk_of mid) (disk_of new)
          (IsLaidBeforeOrBehind mid.live (shape_of mid) (spelled header S.records) b)) is_there run))
          (ap (λ (w : Option Record). records_after w S.records) wrote)
          (ap (λ (f : Option Record). flight_after f came.wrote came.outcome S.flight) flight)));
    }

-- ---- whether the site came up without a record

-- where what came leaves it up or down as it was
pub ups_same : (catalog : Catalog) (i : SiteId) (S : Standing) (event : Event) (came : Came) (outcome : Outcome)
    → came.outcome ≡ outcome → up_after event outcome S.up ≡ S.up → (stands_after catalog i S event came).up ≡ true
    → S.up ≡ true
ups_same catalog i S event came outcome is stays up =
    sym stays ∙ sym (ap (λ (o : Outcome). up_after event o S.up) is) ∙ up

-- where the rule brings none
pub ups_ruled : (header : Format) (catalog : Catalog) (i : SiteId) (S : Standing) (event : Event) (came : Came)
    → came.outcome ≡ (rule header catalog i S event).outcome → (rule header catalog i S event).wrote ≡ None
    → (stands_after catalog i S event came).up ≡ true → S.up ≡ true
ups_ruled header catalog i S event came is none up = by S.up refl
  where
    by : (before : Bool) → S.up ≡ before → S.up ≡ true
    by true now = now
    by false now =
        absurd (let e = sym (ap (λ (o : Outcome). up_after event o S.up) is ∙ ap (λ (b : Bool). up_after event (rule header catalog i S event).outcome b) now ∙ stays_down header catalog i S event now none) ∙ up in cc)
