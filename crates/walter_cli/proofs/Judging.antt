-- What an audit promises, by what its parts come to.
use Rattle.std.proofs.Common.{◌≡◌, ◌≢◌, ℕ, ◌<◌, ◌≤◌, ◌^◌, List, [], Option, Some, None, refl, ap, sym, ◌∙◌, subst, arith, inl, inr, ◌⊎◌}
use Rattle.std.specs.Prelude.{IfSome}
use Rattle.std.proofs.lemmas.Bool.{cases_lt}
use Rattle.walter_checkpoint.proofs.Damages.{content_or_foreign, content_or_damaged, foreign_or_damaged, one_damaged}
use Rattle.walter_checkpoint.specs.Areas.{shape_by}
use Rattle.walter_rules.specs.Knowledge.{site_at}
use Rattle.walter_scenario.specs.declared.place.Detail.{Detail}
use Rattle.walter_scenario.specs.declared.place.Place.{Place}
use Rattle.walter_scenario.specs.declared.scenario.Scenario.{Scenario}
use Rattle.walter_scenario.specs.Scenarios.{IsReading, IsRefusedAt}
use Rattle.walter_scenario.proofs.Stages.{read_nowhere_refused, one_refused}
use Rattle.walter_scenario.proofs.Uniqueness.{one_scenario}
use Rattle.walter_stream.specs.Streams.{Appends, AppendsFront}
use Rattle.walter_audit.specs.declared.finding.Finding.{Finding}
use Rattle.walter_cli.specs.declared.ended.Ended.{Ended}
use Rattle.walter_cli.specs.declared.ended.Fault.{Fault}
use Rattle.walter_cli.specs.declared.ended.Fault.TheVariants.{Usage, Scenario as ScenarioFault, Read, Write, Memory, Rack, Journal}
use Rattle.walter_cli.specs.declared.ended.JournalCause.{JournalCause}
use Rattle.walter_cli.specs.declared.ended.JournalCause.TheVariants.{Foreign, Damaged, Used}
use Rattle.walter_cli.specs.Audits.{AuditPromise, CanBeRead, CannotBeRead, HasContentOf, IsAudited, IsAuditRackFault, IsFirstUnreadable, IsKept, OfReading, SaysNo, SaysYes}
use Rattle.walter_cli.specs.Auditing.{EndsAudit, IsAuditFault}
use Rattle.walter_cli.specs.Ending.{IsTakeFault}
use Rattle.walter_cli.specs.Headline.{Outside}
use Rattle.walter_cli.specs.Racks.{Racked, AreAllTold, Holds, HasFailed, IsFaultlessBefore}
use Rattle.walter_cli.specs.Sources.{HasNoReading, IsTaken}
use Rattle.walter_cli.specs.Statuses.{status_of}
use Rattle.walter_cli.proofs.Giving.{of_both}
use Rattle.walter_cli.proofs.Runs.{none_wrong, reading_small, taken_reading}

-- ---- bytes that can be read and bytes that can't

module _ (s : Scenario) (small : s.capacity < 2 ^ 64) where
  readable_or_not : (cause : JournalCause) (place : ℕ) (bytes : List ℕ) → CannotBeRead s cause place bytes → CanBeRead s bytes → ⊥
  readable_or_not Foreign place bytes why can =
      content_or_foreign (shape_by s.capacity s.catalog.sites can.0.header) bytes can.0.bodies can.1.places can.1.book why.1
  readable_or_not (Damaged claimed) place bytes why can =
      content_or_damaged s.capacity s.catalog.sites can.0.header bytes can.0.bodies place claimed small can.1.book why
  readable_or_not Used place bytes why can = why

  one_why : (a b : JournalCause) (p q : ℕ) (bytes : List ℕ) → CannotBeRead s a p bytes → CannotBeRead s b q bytes
      → (a ≡ b) × (p ≡ q)
  one_why Foreign Foreign p q bytes x y = (refl, x.0 ∙ sym y.0)
  one_why Foreign (Damaged n) p q bytes x y = absurd (foreign_or_damaged s.capacity s.catalog.sites bytes q n x.1 y)
  one_why Foreign Used p q bytes x y = absurd y
  one_why (Damaged m) Foreign p q bytes x y = absurd (foreign_or_damaged s.capacity s.catalog.sites bytes p m y.1 x)
  one_why (Damaged m) (Damaged n) p q bytes x y =
      let same = one_damaged s.capacity s.catalog.sites bytes p m q n small x y in (ap (λ k. Damaged k) same.1, same.0)
  one_why (Damaged m) Used p q bytes x y = absurd y
  one_why Used b p q bytes x y = absurd x

  module _ (rack : Racked) (told : AreAllTold rack s.catalog.sites) where
    -- a disk that can be read has no cause
    pub not_both : (site : ℕ) (cause : JournalCause) (place : ℕ) → site < s.catalog.sites → Holds rack site (CannotBeRead s cause place)
        → Holds rack site (CanBeRead s) → ⊥
    not_both site cause place within why can =
        of_both (rack.bytes site) (CannotBeRead s cause place) (CanBeRead s) ⊥ (readable_or_not cause place) (told site within) why can

    -- the first site whose disk can't be read is one, for one cause
    pub one_unreadable : (a b : ℕ) (c d : JournalCause) (p q : ℕ) → b < s.catalog.sites
        → IsFirstUnreadable rack s a c p → IsFirstUnreadable rack s b d q → (a ≡ b) × (c ≡ d) × (p ≡ q)
    one_unreadable a b c d p q within x y = elim (cases_lt a b) [
      | inl before ↦ absurd (not_both a c p (omega (arith, before, within)) x.unreadable (y.others a before))
      | inr most ↦ elim (cases_lt b a) [
        | inl before ↦ absurd (not_both b d q within y.unreadable (x.others b before))
        | inr least ↦
            let same : a ≡ b = omega (arith, most, least) in
            let both = of_both (rack.bytes b) (CannotBeRead s c p) (CannotBeRead s d q) ((c ≡ d) × (p ≡ q))
            (λ bytes u v. one_why c d p q bytes u v) (told b within)
            (subst (λ (n : ℕ). Holds rack n (CannotBeRead s c p)) same x.unreadable) y.unreadable in
            (same, both.0, both.1)
      ]
    ]

some_of : (o : Option (List ℕ)) (P Q : List ℕ → Type 0) → ((bytes : List ℕ) → P bytes → Q bytes) → IfSome o P → IfSome o Q
some_of None P Q so holds = tt
some_of (Some bytes) P Q so holds = so bytes holds

-- the status of a fault is none of a finding
fault_status : (fault : Fault) → (0 < status_of (Some fault)) × (status_of (Some fault) < 8)
fault_status (Usage text) = (omega arith, omega arith)
fault_status (ScenarioFault place detail) = (omega arith, omega arith)
fault_status Read = (omega arith, omega arith)
fault_status Write = (omega arith, omega arith)
fault_status Memory = (omega arith, omega arith)
fault_status (Rack site) = (omega arith, omega arith)
fault_status (Journal site cause place) = (omega arith, omega arith)

module _ (rack : Racked) (before after : Outside) (ended : Ended) (none : ended.trails.items ≡ [])
    (kept : rack.each (IsKept rack)) (back : rack.balanced) (unfailing : rack.unfailing 32 → ¬ rack.failed)
    (one_count : (m n : ℕ) → rack.took m → rack.took n → m ≡ n) where
  abbrev Found : (Finding → Type 0) → (List ℕ → Type 0) → Type 0
  Found Says Written = OfReading before after (λ s. IsAudited rack s Says Written)

  abbrev AnyOf : Finding → Type 0
  AnyOf finding = Unit {0}

  -- what is so at the end with this fault, and with none
  abbrev TellsOf : Fault → Type 0
  TellsOf (Usage text) = ⊥
  TellsOf (ScenarioFault place detail) = HasNoReading before.left after.left place × (after.holds ≡ before.holds)
  TellsOf Read = (before.source_faults < after.source_faults) × (after.holds ≡ before.holds)
  TellsOf Write = Found AnyOf (AppendsFront before.holds after.holds) × (before.sink_faults < after.sink_faults)
  TellsOf Memory = after.holds ≡ before.holds
  TellsOf (Rack site) =
      OfReading before after (λ s. (site < s.catalog.sites) × IsAuditRackFault rack s site) × (after.holds ≡ before.holds)
  TellsOf (Journal site cause place) =
      OfReading before after (λ s. (site < s.catalog.sites) × IsFirstUnreadable rack s site cause place
      × rack.each (IsFaultlessBefore site) × (cause ≢ Used)) × (after.holds ≡ before.holds)

  abbrev Tells : Option Fault → Type 0
  Tells None = ((ended.status ≡ 0) × Found SaysYes (Appends before.holds after.holds))
      ⊎ ((ended.status ≡ 8) × Found SaysNo (Appends before.holds after.holds))
  Tells (Some fault) = (ended.status ≡ status_of (Some fault)) × TellsOf fault

  status_is : (fault : Option Fault) → ended.fault ≡ fault → Tells fault
      → (ended.status ≡ status_of ended.fault) ⊎ ((ended.status ≡ 8) × (ended.fault ≡ None))
  status_is None named (inl agreed) = inl (agreed.0 ∙ ap status_of (sym named))
  status_is None named (inr denied) = inr (denied.0, named)
  status_is (Some fault) named told = inl (told.0 ∙ ap status_of (sym named))

  yes_at : (fault : Option Fault) → Tells fault → ended.status ≡ 0 → Found SaysYes (Appends before.holds after.holds)
  yes_at None (inl agreed) is = agreed.1
  yes_at None (inr denied) is = absurd (let n = denied.0 in omega (arith, n, is))
  yes_at (Some fault) told is = absurd (let n = told.0 in let s = (fault_status fault).0 in omega (arith, n, s, is))

  no_at : (fault : Option Fault) → Tells fault → ended.status ≡ 8 → Found SaysNo (Appends before.holds after.holds)
  no_at None (inl agreed) is = absurd (let n = agreed.0 in omega (arith, n, is))
  no_at None (inr denied) is = denied.1
  no_at (Some fault) told is = absurd (let n = told.0 in let s = (fault_status fault).1 in omega (arith, n, s, is))

  -- what comes of one fault alone
  usage_at : (fault : Option Fault) → Tells fault → ended.status ≡ 1 → ⊥
  usage_at None (inl agreed) is = let n = agreed.0 in omega (arith, n, is)
  usage_at None (inr denied) is = let n = denied.0 in omega (arith, n, is)
  usage_at (Some (Usage text)) told is = told.1
  usage_at (Some (ScenarioFault place detail)) told is = let n = told.0 in omega (arith, n, is)
  usage_at (Some Read) told is = let n = told.0 in omega (arith, n, is)
  usage_at (Some Write) told is = let n = told.0 in omega (arith, n, is)
  usage_at (Some Memory) told is = let n = told.0 in omega (arith, n, is)
  usage_at (Some (Rack site)) told is = let n = told.0 in omega (arith, n, is)
  usage_at (Some (Journal site cause place)) told is = let n = told.0 in omega (arith, n, is)

  unread_at : (fault : Option Fault) → Tells fault → ended.status ≡ 3 → before.source_faults < after.source_faults
  unread_at None (inl agreed) is = absurd (let n = agreed.0 in omega (arith, n, is))
  unread_at None (inr denied) is = absurd (let n = denied.0 in omega (arith, n, is))
  unread_at (Some Read) told is = told.1.0
  unread_at (Some (Usage text)) told is = absurd told.1
  unread_at (Some (ScenarioFault place detail)) told is = absurd (let n = told.0 in omega (arith, n, is))
  unread_at (Some Write) told is = absurd (let n = told.0 in omega (arith, n, is))
  unread_at (Some Memory) told is = absurd (let n = told.0 in omega (arith, n, is))
  unread_at (Some (Rack site)) told is = absurd (let n = told.0 in omega (arith, n, is))
  unread_at (Some (Journal site cause place)) told is = absurd (let n = told.0 in omega (arith, n, is))

  cut_at : (fault : Option Fault) → Tells fault → ended.status ≡ 4
      → Found AnyOf (AppendsFront before.holds after.holds) × (before.sink_faults < after.sink_faults)
  cut_at None (inl agreed) is = absurd (let n = agreed.0 in omega (arith, n, is))
  cut_at None (inr denied) is = absurd (let n = denied.0 in omega (arith, n, is))
  cut_at (Some Write) told is = told.1
  cut_at (Some (Usage text)) told is = absurd told.1
  cut_at (Some (ScenarioFault place detail)) told is = absurd (let n = told.0 in omega (arith, n, is))
  cut_at (Some Read) told is = absurd (let n = told.0 in omega (arith, n, is))
  cut_at (Some Memory) told is = absurd (let n = told.0 in omega (arith, n, is))
  cut_at (Some (Rack site)) told is = absurd (let n = told.0 in omega (arith, n, is))
  cut_at (Some (Journal site cause place)) told is = absurd (let n = told.0 in omega (arith, n, is))

  silent_at : (fault : Option Fault) → Tells fault → ended.status ≢ 0 → ended.status ≢ 4 → ended.status ≢ 8 → after.holds ≡ before.holds
  silent_at None (inl agreed) not_yes not_cut not_no = absurd (not_yes agreed.0)
  silent_at None (inr denied) not_yes not_cut not_no = absurd (not_no denied.0)
  silent_at (Some (Usage text)) told not_yes not_cut not_no = absurd told.1
  silent_at (Some (ScenarioFault place detail)) told not_yes not_cut not_no = told.1.1
  silent_at (Some Read) told not_yes not_cut not_no = told.1.1
  silent_at (Some Write) told not_yes not_cut not_no = absurd (not_cut told.0)
  silent_at (Some Memory) told not_yes not_cut not_no = told.1
  silent_at (Some (Rack site)) told not_yes not_cut not_no = told.1.1
  silent_at (Some (Journal site cause place)) told not_yes not_cut not_no = told.1.1

  -- where the source tells bytes that spell this scenario
  module _ (s : Scenario) (bytes : List ℕ) (left : before.left ≡ Some bytes) (reading : IsReading bytes s) where
    read_is : (t : Scenario) → IsTaken before.left after.left t → t ≡ s
    read_is t taken = one_scenario bytes t s (taken_reading before.left after.left bytes t taken left) reading

    reads : (place : Place) → HasNoReading before.left after.left place → ⊥
    reads place nothing = read_nowhere_refused bytes s place reading (none_wrong before.left after.left bytes place nothing left)

    -- what can be read has no cause
    module _ (told : AreAllTold rack s.catalog.sites) where
      completes : (fault : Option Fault) → Tells fault → ((i : ℕ) → i < s.catalog.sites → Holds rack i (CanBeRead s))
          → after.source_faults ≡ before.source_faults → after.sink_faults ≡ before.sink_faults → ¬ rack.failed
          → (ended.status ≡ 0) ⊎ (ended.status ≡ 8) ⊎ (ended.status ≡ 5) ⊎ ((i : ℕ) × rack.one i HasFailed)
      completes None (inl agreed) can source sink ok = inl agreed.0
      completes None (inr denied) can source sink ok = inr (inl denied.0)
      completes (Some (Usage text)) tells can source sink ok = absurd tells.1
      completes (Some (ScenarioFault place detail)) tells can source sink ok = absurd (reads place tells.1.0)
      completes (Some Read) tells can source sink ok = absurd (let rose = tells.1.0 in omega (arith, rose, source))
      completes (Some Write) tells can source sink ok = absurd (let rose = tells.1.1 in omega (arith, rose, sink))
      completes (Some Memory) tells can source sink ok = inr (inr (inl tells.0))
      completes (Some (Rack site)) tells can source sink ok = elim tells.1.0.holds.1 [
        | inl take ↦ absurd (ok take.failed)
        | inr (inl read) ↦ inr (inr (inr (site, read.failed)))
        | inr (inr behind) ↦ absurd (ok behind.give.failed)
      ]
      completes (Some (Journal site cause place)) tells can source sink ok =
          let of = tells.1.0 in
          let same = read_is of.scenario of.taken in
          let within : site < s.catalog.sites = subst (λ (t : Scenario). site < t.catalog.sites) same of.holds.0 in
          let why = subst (λ (t : Scenario). IsFirstUnreadable rack t site cause place) same of.holds.1 in
          absurd (not_both s (reading_small bytes s reading) rack told site cause place within why.unreadable (can site within))

      -- all could be read
      none_unread : (Says : Finding → Type 0) (Written : List ℕ → Type 0) → Found Says Written
          → (site : ℕ) (cause : JournalCause) (place : ℕ) → site < s.catalog.sites → IsFirstUnreadable rack s site cause place → ⊥
      none_unread Says Written found site cause place within why =
          let same = read_is found.scenario found.taken in
          let all = subst (λ (t : Scenario). IsAudited rack t Says Written) same found.holds in
          not_both s (reading_small bytes s reading) rack told site cause place within why.unreadable
          (some_of (rack.bytes site) (HasContentOf s (all.contents (site_at site))) (CanBeRead s)
          (λ b has. (all.contents (site_at site), has)) (all.held site within))

      names : (fault : Option Fault) → ended.fault ≡ fault → Tells fault
          → (site : ℕ) (cause : JournalCause) (place : ℕ) → site < s.catalog.sites → IsFirstUnreadable rack s site cause place
          → after.source_faults ≡ before.source_faults → rack.took s.catalog.sites
          → (ended.fault ≡ Some (Journal site cause place)) ⊎ (ended.status ≡ 5) ⊎ ((i : ℕ) × rack.one i HasFailed)
      names None named (inl agreed) site cause place within why source ok =
          absurd (none_unread SaysYes (Appends before.holds after.holds) agreed.1 site cause place within why)
      names None named (inr denied) site cause place within why source ok =
          absurd (none_unread SaysNo (Appends before.holds after.holds) denied.1 site cause place within why)
      names (Some (Usage text)) named tells site cause place within why source ok = absurd tells.1
      names (Some (ScenarioFault p detail)) named tells site cause place within why source ok = absurd (reads p tells.1.0)
      names (Some Read) named tells site cause place within why source ok =
          absurd (let rose = tells.1.0 in omega (arith, rose, source))
      names (Some Write) named tells site cause place within why source ok =
          absurd (none_unread AnyOf (AppendsFront before.holds after.holds) tells.1.0 site cause place within why)
      names (Some Memory) named tells site cause place within why source ok = inr (inl tells.0)
      names (Some (Rack other)) named tells site cause place within why source ok =
          let of = tells.1.0 in
          let same = read_is of.scenario of.taken in
          let low : other < s.catalog.sites = subst (λ (t : Scenario). other < t.catalog.sites) same of.holds.0 in
          elim (subst (λ (t : Scenario). IsAuditRackFault rack t other) same of.holds.1) [
            | inl take ↦ absurd (let e = one_count other s.catalog.sites take.before ok in omega (arith, low, e))
            | inr (inl read) ↦ inr (inr (other, read.failed))
            | inr (inr behind) ↦
                absurd (not_both s (reading_small bytes s reading) rack told site cause place within why.unreadable (behind.read site within))
          ]
      names (Some (Journal other c p)) named tells site cause place within why source ok =
          let of = tells.1.0 in
          let posed = read_is of.scenario of.taken in
          let same = one_unreadable s (reading_small bytes s reading) rack told other site c cause p place within
          (subst (λ (t : Scenario). IsFirstUnreadable rack t other c p) posed of.holds.1) why in
          inl (named
          ∙ (ap (λ n. Some (Journal n c p)) same.0
          ∙ (ap (λ k. Some (Journal site k p)) same.1 ∙ ap (λ n. Some (Journal site cause n)) same.2)))

  -- bytes that spell a scenario are refused nowhere
  not_refused : (bytes : List ℕ) (place : Place) → before.left ≡ Some bytes → IsRefusedAt bytes place
      → (t : Scenario) → IsTaken before.left after.left t → ⊥
  not_refused bytes place left wrong t taken =
      read_nowhere_refused bytes t place (taken_reading before.left after.left bytes t taken left) wrong

  refuses_at : (fault : Option Fault) → ended.fault ≡ fault → Tells fault → (bytes : List ℕ) (place : Place)
      → before.left ≡ Some bytes → IsRefusedAt bytes place → after.source_faults ≡ before.source_faults
      → ((detail : Detail) × (ended.fault ≡ Some (ScenarioFault place detail))) ⊎ (ended.status ≡ 5)
  refuses_at None named (inl agreed) bytes place left wrong source =
      absurd (not_refused bytes place left wrong agreed.1.scenario agreed.1.taken)
  refuses_at None named (inr denied) bytes place left wrong source =
      absurd (not_refused bytes place left wrong denied.1.scenario denied.1.taken)
  refuses_at (Some (Usage text)) named tells bytes place left wrong source = absurd tells.1
  refuses_at (Some (ScenarioFault other detail)) named tells bytes place left wrong source =
      inl (
        detail,
        named ∙ ap (λ (p : Place). Some (ScenarioFault p detail))
            (one_refused bytes other place (none_wrong before.left after.left bytes other tells.1.0 left) wrong),
      )
  refuses_at (Some Read) named tells bytes place left wrong source =
      absurd (let rose = tells.1.0 in omega (arith, rose, source))
  refuses_at (Some Write) named tells bytes place left wrong source =
      absurd (not_refused bytes place left wrong tells.1.0.scenario tells.1.0.taken)
  refuses_at (Some Memory) named tells bytes place left wrong source = inr tells.0
  refuses_at (Some (Rack site)) named tells bytes place left wrong source =
      absurd (not_refused bytes place left wrong tells.1.0.scenario tells.1.0.taken)
  refuses_at (Some (Journal site cause p)) named tells bytes place left wrong source =
      absurd (not_refused bytes place left wrong tells.1.0.scenario tells.1.0.taken)

  -- all that is promised, by what is so with the fault
  promise : (fault : Option Fault) → ended.fault ≡ fault → Tells fault → AuditPromise rack before after ended
  promise fault named tells = record {
    status = status_is fault named tells;
    yes = λ h. yes_at fault tells h;
    no = λ h. no_at fault tells h;
    usage = λ h. usage_at fault tells h;
    unreadable = λ place detail h. (subst (λ (f : Option Fault). Tells f) (sym named ∙ h) tells).1.0;
    unread = λ h. unread_at fault tells h;
    cut = λ h. (cut_at fault tells h).0;
    failed = λ h. (cut_at fault tells h).1;
    unracked = λ site h. (subst (λ (f : Option Fault). Tells f) (sym named ∙ h) tells).1.0;
    unfit = λ site cause place h. (subst (λ (f : Option Fault). Tells f) (sym named ∙ h) tells).1.0;
    unfit_named = λ s bytes site cause place left reading within told why source ok.
        names s bytes left reading told fault named tells site cause place within why source ok;
    kept = kept;
    given_back = back;
    unfailing = unfailing;
    silent = silent_at fault tells;
    no_trails = none;
    complete = λ s bytes left reading told can source sink ok. completes s bytes left reading told fault tells can source sink ok;
    refuses = refuses_at fault named tells;
  }

  of_reading : (s : Scenario) (P : Scenario → Type 0) → IsTaken before.left after.left s → P s → OfReading before after P
  of_reading s P taken holds = record { scenario = s; taken = taken; holds = holds }

  -- an audit of the journals of a scenario that was read
  pub promise_audit : (s : Scenario) (fault : Option Fault) → ended.fault ≡ fault → IsTaken before.left after.left s
      → EndsAudit rack s before.holds after.holds before.sink_faults after.sink_faults ended.status fault
      → AuditPromise rack before after ended
  promise_audit s None named taken (inl agreed) =
      promise None named (inl (agreed.0, of_reading s (λ t. IsAudited rack t SaysYes (Appends before.holds after.holds)) taken agreed.1))
  promise_audit s None named taken (inr denied) =
      promise None named (inr (denied.0, of_reading s (λ t. IsAudited rack t SaysNo (Appends before.holds after.holds)) taken denied.1))
  promise_audit s (Some Write) named taken ends =
      promise (Some Write) named (
        ends.0,
        (of_reading s (λ t. IsAudited rack t AnyOf (AppendsFront before.holds after.holds)) taken ends.1.0, ends.1.1),
      )
  promise_audit s (Some Memory) named taken ends = promise (Some Memory) named ends
  promise_audit s (Some (Rack site)) named taken ends =
      promise (Some (Rack site)) named (
        ends.0,
        (of_reading s (λ t. (site < t.catalog.sites) × IsAuditRackFault rack t site) taken (ends.1.0, ends.1.1), ends.1.2),
      )
  promise_audit s (Some (Journal site cause place)) named taken ends =
      promise (Some (Journal site cause place)) named (
        ends.0,
        (
          of_reading s (λ t. (site < t.catalog.sites) × IsFirstUnreadable rack t site cause place
              × rack.each (IsFaultlessBefore site) × (cause ≢ Used)) taken (ends.1.0, ends.1.1, ends.1.2, ends.1.3),
          ends.1.4,
        ),
      )
  promise_audit s (Some (Usage text)) named taken ends = absurd ends.1
  promise_audit s (Some (ScenarioFault place detail)) named taken ends = absurd ends.1
  promise_audit s (Some Read) named taken ends = absurd ends.1

  -- no scenario was read
  pub promise_unread : (fault : Fault) → ended.fault ≡ Some fault → ended.status ≡ status_of (Some fault) → after.holds ≡ before.holds
      → IsTakeFault before.left after.left before.source_faults after.source_faults fault
      → AuditPromise rack before after ended
  promise_unread (ScenarioFault place detail) named is same why = promise (Some (ScenarioFault place detail)) named (is, (why, same))
  promise_unread Read named is same why = promise (Some Read) named (is, (why, same))
  promise_unread Memory named is same why = promise (Some Memory) named (is, same)
  promise_unread (Usage text) named is same why = absurd why
  promise_unread Write named is same why = absurd why
  promise_unread (Rack site) named is same why = absurd why
  promise_unread (Journal site cause place) named is same why = absurd why
