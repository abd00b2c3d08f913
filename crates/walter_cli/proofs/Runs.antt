-- What the parts of a call of the program promise together.
use Rattle.std.proofs.Common.{◌≡◌, ◌≢◌, ℕ, ◌<◌, List, [], ◌++◌, length, map, Option, Some, None, option_map, refl, ap, sym, ◌∙◌, subst, arith, inl, inr, ◌⊎◌}
use Rattle.std.specs.Prelude.{◌^◌, String, string_bytes}
use Rattle.std.specs.Global.{Global}
use Rattle.std.proofs.lemmas.Bool.{cases_lt}
use Rattle.std.proofs.lemmas.List.{append-nil, length-append}
use Rattle.walter_cluster.specs.Benches.{shape_of}
use Rattle.walter_engine.specs.Begins.{HasNoRecord}
use Rattle.walter_scenario.specs.declared.place.Detail.{Detail}
use Rattle.walter_scenario.specs.declared.place.Place.{Place}
use Rattle.walter_scenario.specs.declared.place.Place.TheVariants.{TooLong}
use Rattle.walter_scenario.specs.declared.scenario.Scenario.{Scenario}
use Rattle.walter_scenario.specs.Scenarios.{IsReading, IsRefusedAt}
use Rattle.walter_scenario.proofs.Stages.{read_nowhere_refused, one_refused}
use Rattle.walter_scenario.proofs.Uniqueness.{one_scenario}
use Rattle.walter_stream.specs.Streams.{AtEnd, Appends, AppendsFront}
use Rattle.walter_cli.specs.declared.ended.Ended.{Ended}
use Rattle.walter_cli.specs.declared.ended.Fault.{Fault}
use Rattle.walter_cli.specs.declared.ended.Fault.TheVariants.{Usage, Scenario as ScenarioFault, Read, Write, Memory, Rack, Journal}
use Rattle.walter_cli.specs.declared.ended.JournalCause.{JournalCause}
use Rattle.walter_cli.specs.Ending.{IsTakeFault, IsPoseFault, IsWholeBack, MayHaveRun, EndsRun, EndsText}
use Rattle.walter_cli.specs.Sources.{HasNoReading, IsTaken}
use Rattle.walter_cli.specs.Headline.{Outside, HasNotBegun, IsRun, OfText, Runs, RunsWhole, Says, OfScenario, IsRackFault, IsFirstUnfit, FailsEarly, Promise}
use Rattle.walter_cli.specs.Racks.{Racked, AreAllTold, Holds, IsUntaken, IsUntouched, IsFaultlessBefore, HasCause}
use Rattle.walter_cli.specs.Statuses.{status_of}
use Rattle.walter_cli.specs.Words.{Asks, AskForNone, IfMade, IsForText, IsPosed, IsRead, IsWrong, Poses, but_for_steps}
use Rattle.walter_words.specs.Words.{AsksForText}
use Rattle.walter_words.specs.declared.asked.Command.{Command}
use Rattle.walter_words.specs.declared.asked.Command.TheVariants.{Play, Run, Load, Audit, Say}
use Rattle.walter_cli.proofs.Causes.{cause_has_record, one_cause}
use Rattle.walter_cli.proofs.Giving.{of_both}
use Rattle.walter_cli.proofs.Wholes.{reading_playable}

-- what a source that has no reading gave is wrong at the place that is named
pub none_wrong : (before after : Option (List ℕ)) (bytes : List ℕ) (place : Place) → HasNoReading before after place
    → before ≡ Some bytes → IsRefusedAt bytes place
none_wrong before after bytes place none told = here after none.wrong (sym told ∙ none.taken)
  where
    whole : (rest : List ℕ) → bytes ≡ none.front ++ rest → rest ≡ [] → none.front ≡ bytes
    whole rest same end = sym (same ∙ ap (λ r. none.front ++ r) end ∙ append-nil none.front)

    here : (left : Option (List ℕ))
        → (AtEnd left × IsRefusedAt none.front place) ⊎ ((place ≡ TooLong) × (16777216 < length none.front))
        → Some bytes ≡ option_map (λ rest. none.front ++ rest) left → IsRefusedAt bytes place
    here None why e = absurd cc
    here (Some rest) why e =
        let same : bytes ≡ none.front ++ rest = cc in
        elim why [
          | inl wrong ↦ subst (λ (b : List ℕ). IsRefusedAt b place) (whole rest same wrong.0) wrong.1
          | inr long ↦
              subst (λ (p : Place). IsRefusedAt bytes p) (sym long.0)
              (let l = ap length same ∙ length-append none.front rest in let many = long.1 in omega (arith, l, many))
        ]

-- a scenario that was taken is what the bytes that are told spell
pub taken_reading : (before after : Option (List ℕ)) (bytes : List ℕ) (s : Scenario) → IsTaken before after s
    → before ≡ Some bytes → IsReading bytes s
taken_reading before after bytes s taken told = here after taken.source.end (sym told ∙ taken.source.taken)
  where
    here : (left : Option (List ℕ)) → AtEnd left → Some bytes ≡ option_map (λ rest. taken.bytes ++ rest) left → IsReading bytes s
    here None end e = absurd cc
    here (Some rest) end e =
        let same : bytes ≡ taken.bytes ++ rest = cc in
        subst (λ (b : List ℕ). IsReading b s) (sym (same ∙ ap (λ r. taken.bytes ++ r) end ∙ append-nil taken.bytes)) taken.reading

-- the scenario that was run is the one that was posed
posed_one : (command : Command) (before after : Option (List ℕ)) (t s : Scenario) → IsPosed command before after t
    → Poses command before s → t ≡ s
posed_one (Play trace disks) before after t s posed poses =
    one_scenario poses.0 t s (taken_reading before after poses.0 t posed poses.1) poses.2
posed_one (Run trace disks) before after t s posed poses =
    let same = one_scenario poses.0 posed.0 poses.1 (taken_reading before after poses.0 posed.0 posed.1 poses.2) poses.3 in
    posed.2 ∙ (ap but_for_steps same ∙ sym poses.4)
posed_one (Load seed calls) before after t s posed poses = posed.0 ∙ sym poses
posed_one (Audit disks) before after t s posed poses = absurd poses
posed_one (Say text) before after t s posed poses = absurd poses

-- bytes that are read and pose a scenario have a reading
poses_reading : (command : Command) (left : Option (List ℕ)) (s : Scenario) → IsRead command → Poses command left s
    → (bytes : List ℕ) × (read : Scenario) × (left ≡ Some bytes) × IsReading bytes read
poses_reading (Play trace disks) left s reads poses = (poses.0, s, poses.1, poses.2)
poses_reading (Run trace disks) left s reads poses = (poses.0, poses.1, poses.2, poses.3)
poses_reading (Load seed calls) left s reads poses = absurd reads
poses_reading (Audit disks) left s reads poses = absurd reads
poses_reading (Say text) left s reads poses = absurd reads

-- the capacity of what is posed is that of a disk
pub reading_small : (bytes : List ℕ) (s : Scenario) → IsReading bytes s → s.capacity < 2 ^ 64
reading_small bytes s reading = let most = (reading_playable bytes s reading).capacity.1 in omega (arith, most)

poses_small : (command : Command) (left : Option (List ℕ)) (s : Scenario) → Poses command left s → s.capacity < 2 ^ 64
poses_small (Play trace disks) left s poses = reading_small poses.0 s poses.2
poses_small (Run trace disks) left s poses =
    let small = reading_small poses.0 poses.1 poses.3 in
    let same : s.capacity ≡ poses.1.capacity = ap (λ (t : Scenario). t.capacity) poses.4 in
    omega (arith, small, same)
poses_small (Load seed calls) left s poses =
    let same : s.capacity ≡ 16777216 = ap (λ (t : Scenario). t.capacity) poses in omega (arith, same)
poses_small (Audit disks) left s poses = absurd poses
poses_small (Say text) left s poses = absurd poses

-- bytes that have no reading pose nothing
poses_none : (command : Command) (before after : Option (List ℕ)) (s : Scenario) (place : Place) → IsRead command
    → Poses command before s → HasNoReading before after place → ⊥
poses_none command before after s place reads poses none =
    let is = poses_reading command before s reads poses in
    read_nowhere_refused is.0 is.1 place is.3 (none_wrong before after is.0 place none is.2)

-- what was read and posed has a reading, which bytes that are told spell
posed_reading : (command : Command) (before after : Option (List ℕ)) (bytes : List ℕ) (s : Scenario) → IsRead command
    → IsPosed command before after s → before ≡ Some bytes → (read : Scenario) × IsReading bytes read
posed_reading (Play trace disks) before after bytes s reads posed told = (s, taken_reading before after bytes s posed told)
posed_reading (Run trace disks) before after bytes s reads posed told =
    (posed.0, taken_reading before after bytes posed.0 posed.1 told)
posed_reading (Load seed calls) before after bytes s reads posed told = absurd reads
posed_reading (Audit disks) before after bytes s reads posed told = absurd reads
posed_reading (Say text) before after bytes s reads posed told = absurd reads

-- the first site whose disk is unfit is one, for one cause
one_unfit : (rack : Racked) (s : Scenario) (a b : ℕ) (c d : JournalCause) (p q : ℕ) → s.capacity < 2 ^ 64
    → AreAllTold rack s.catalog.sites → b < s.catalog.sites
    → IsFirstUnfit rack s a c p → IsFirstUnfit rack s b d q → (a ≡ b) × (c ≡ d) × (p ≡ q)
one_unfit rack s a b c d p q small told within x y = elim (cases_lt a b) [
  | inl before ↦
      absurd (of_both (rack.bytes a) (HasCause (shape_of s) c p) (HasNoRecord (shape_of s)) ⊥
      (cause_has_record (shape_of s) small c p) (told a (omega (arith, before, within))) x.unfit (y.others a before))
  | inr most ↦ elim (cases_lt b a) [
    | inl before ↦
        absurd (of_both (rack.bytes b) (HasCause (shape_of s) d q) (HasNoRecord (shape_of s)) ⊥
        (cause_has_record (shape_of s) small d q) (told b within) y.unfit (x.others b before))
    | inr least ↦
        let same : a ≡ b = omega (arith, most, least) in
        let both = of_both (rack.bytes b) (HasCause (shape_of s) c p) (HasCause (shape_of s) d q) ((c ≡ d) × (p ≡ q))
        (λ bs u v. one_cause (shape_of s) small c d p q bs u v) (told b within)
        (subst (λ (n : ℕ). Holds rack n (HasCause (shape_of s) c p)) same x.unfit) y.unfit in
        (same, both.0, both.1)
  ]
]

module _ (words : List (String Global)) (rack : Racked) (before after : Outside) (ended : Ended)
    (status : ended.status ≡ status_of ended.fault) (back : rack.balanced)
    (unfailing : rack.unfailing 32 → ¬ rack.failed)
    (one_count : (m n : ℕ) → rack.took m → rack.took n → m ≡ n) where
  -- the end of a call whose words ask for this run, and for no other
  module _ (command : Command) (line : Asks command words) (only : (other : Command) → Asks other words → other ≡ command)
      (made : IfMade command ((after.left ≡ before.left) × (after.source_faults ≡ before.source_faults))) where
    -- what a run promises whatever came of what is written
    whole : (s : Scenario) (Written : List ℕ → Type 0) → IsPosed command before.left after.left s
        → IsWholeBack rack command s ended.trails.items → OfText rack command s ended.trails.items Written
        → RunsWhole words rack before after ended.trails.items Written
    whole s Written posed run written = record {
      command = command;
      asked = line;
      scenario = s;
      posed = posed;
      arms = run.0;
      run = run.1;
      disks_given_back = run.2;
      bytes_written = written;
    }

    runs : (s : Scenario) → IsPosed command before.left after.left s → IsRun rack s ended.trails.items
        → Runs words rack before after ended.trails.items
    runs s posed run = record { command = command; asked = line; scenario = s; posed = posed; run = run }

    -- what holds of a scenario that was posed
    spelled : (s : Scenario) (P : Command → Scenario → Type 0) → IsPosed command before.left after.left s → P command s
        → OfScenario words before after P
    spelled s P posed holds = record { command = command; asked = line; scenario = s; posed = posed; holds = holds }

    -- what was posed by any words is what was posed by these
    is_posed : (other : Command) (t s : Scenario) → Asks other words → IsPosed other before.left after.left t → Poses command before.left s → t ≡ s
    is_posed other t s asked posed poses =
        posed_one command before.left after.left t s
        (subst (λ (c : Command). IsPosed c before.left after.left t) (only other asked) posed) poses

    abbrev MayRun : Type 0
    MayRun = ((ended.trails.items ≡ []) × HasNotBegun words rack before after)
        ⊎ Runs words rack before after ended.trails.items

    -- whether there was a run
    runs_if : (s : Scenario) → IsPosed command before.left after.left s → MayHaveRun rack s ended.trails.items → MayRun
    runs_if s taken (inl none) = inl (none.0, inr (spelled s (λ k t. IsUntouched rack t) taken none.1))
    runs_if s taken (inr run) = inr (runs s taken run)

    may_have_run : (s : Scenario) (site : ℕ) → IsRackFault rack command s ended.trails.items site → MayHaveRun rack s ended.trails.items
    may_have_run s site (inl none) = inl (none.0, none.1)
    may_have_run s site (inr run) = inr run.1.run

    -- what is so at the end with this fault, or with none
    abbrev Tells : Option Fault → Type 0
    Tells None = RunsWhole words rack before after ended.trails.items (Appends before.holds after.holds)
    Tells (Some (Usage text)) = ⊥
    Tells (Some (ScenarioFault place detail)) =
        HasNoReading before.left after.left place × (ended.trails.items ≡ []) × IsRead command
    Tells (Some Read) = (before.source_faults < after.source_faults) × (ended.trails.items ≡ [])
    Tells (Some Write) =
        RunsWhole words rack before after ended.trails.items (AppendsFront before.holds after.holds)
        × (before.sink_faults < after.sink_faults)
    Tells (Some Memory) = Unit {0}
    Tells (Some (Rack site)) =
        OfScenario words before after (λ k s. (site < s.catalog.sites) × IsRackFault rack k s ended.trails.items site)
    Tells (Some (Journal site cause place)) =
        OfScenario words before after (λ k s. (site < s.catalog.sites) × IsFirstUnfit rack s site cause place
        × rack.each (IsFaultlessBefore site)) × (ended.trails.items ≡ [])

    -- so it is by the status
    at_done : (fault : Option Fault) → Tells fault → status_of fault ≡ 0
        → RunsWhole words rack before after ended.trails.items (Appends before.holds after.holds)
    at_done None told is = told
    at_done (Some (Usage text)) told is = absurd told
    at_done _ told is = absurd (omega (arith, is))

    at_usage : (fault : Option Fault) → Tells fault → status_of fault ≡ 1 → ⊥
    at_usage (Some (Usage text)) told is = told
    at_usage _ told is = omega (arith, is)

    at_unread : (fault : Option Fault) → Tells fault → status_of fault ≡ 3 → before.source_faults < after.source_faults
    at_unread (Some Read) told is = told.0
    at_unread _ told is = absurd (omega (arith, is))

    at_cut : (fault : Option Fault) → Tells fault → status_of fault ≡ 4
        → RunsWhole words rack before after ended.trails.items (AppendsFront before.holds after.holds)
        × (before.sink_faults < after.sink_faults)
    at_cut (Some Write) told is = told
    at_cut _ told is = absurd (omega (arith, is))

    -- where the scenario is made, nothing was asked of the source
    unasked : (fault : Option Fault) → ended.status ≡ status_of fault → Tells fault → (seed calls : ℕ) → Asks (Load seed calls) words
        → (after.left ≡ before.left) × (after.source_faults ≡ before.source_faults) × (ended.status ≢ 3)
    unasked fault is told seed calls asked =
        let same = subst (λ (k : Command). IfMade k ((after.left ≡ before.left) × (after.source_faults ≡ before.source_faults)))
        (sym (only (Load seed calls) asked)) made in
        (same.0, same.1, λ h. let rose = at_unread fault told (sym is ∙ h) in let level = same.1 in omega (arith, rose, level))

    -- but for 0, 4, 5 and 6 there are no trails
    no_trails : (fault : Option Fault) → Tells fault → ended.status ≡ status_of fault
        → (ended.trails.items ≡ []) ⊎ (ended.status ≡ 0) ⊎ (ended.status ≡ 4) ⊎ (ended.status ≡ 5) ⊎ (ended.status ≡ 6)
    no_trails None told is = inr (inl is)
    no_trails (Some (Usage text)) told is = absurd told
    no_trails (Some (ScenarioFault place detail)) told is = inl told.1
    no_trails (Some Read) told is = inl told.1
    no_trails (Some Write) told is = inr (inr (inl is))
    no_trails (Some Memory) told is = inr (inr (inr (inl is)))
    no_trails (Some (Rack site)) told is = inr (inr (inr (inr is)))
    no_trails (Some (Journal site cause place)) told is = inl told.1

    -- a fault of the rack that isn't the rack's own
    early : (site : ℕ) (k : Command) (s : Scenario) → ¬ rack.failed → IsRackFault rack k s ended.trails.items site
        → FailsEarly rack ended.trails.items
    early site k s ok (inl (none, untouched, inl take)) = absurd (ok take.failed)
    early site k s ok (inl (none, untouched, inr load)) = (none, (site, load.failed))
    early site k s ok (inr (arms, run, give)) = absurd (ok give.failed)

    -- where nothing fails, a scenario that the bytes spell is run
    completes : (fault : Option Fault) → ended.status ≡ status_of fault → Tells fault → (s : Scenario)
        → Poses command before.left s → AreAllTold rack s.catalog.sites
        → ((i : ℕ) → i < s.catalog.sites → Holds rack i (HasNoRecord (shape_of s)))
        → after.source_faults ≡ before.source_faults → after.sink_faults ≡ before.sink_faults → ¬ rack.failed
        → (ended.status ≡ 0) ⊎ (ended.status ≡ 5) ⊎ FailsEarly rack ended.trails.items
    completes None is told s poses known new source sink ok = inl is
    completes (Some (Usage text)) is told s poses known new source sink ok = absurd told
    completes (Some (ScenarioFault place detail)) is told s poses known new source sink ok =
        absurd (poses_none command before.left after.left s place told.2 poses told.0)
    completes (Some Read) is told s poses known new source sink ok =
        absurd (let rose = told.0 in omega (arith, rose, source))
    completes (Some Write) is told s poses known new source sink ok =
        absurd (let rose = told.1 in omega (arith, rose, sink))
    completes (Some Memory) is told s poses known new source sink ok = inr (inl is)
    completes (Some (Rack site)) is told s poses known new source sink ok =
        inr (inr (early site told.command told.scenario ok told.holds.1))
    completes (Some (Journal site cause place)) is told s poses known new source sink ok =
        let is = told.0 in
        let same : is.scenario ≡ s =
        is_posed is.command is.scenario s is.asked is.posed poses in
        let within : site < s.catalog.sites = subst (λ (t : Scenario). site < t.catalog.sites) same is.holds.0 in
        let why = subst (λ (t : Scenario). IsFirstUnfit rack t site cause place) same is.holds.1 in
        absurd (of_both (rack.bytes site) (HasCause (shape_of s) cause place) (HasNoRecord (shape_of s)) ⊥
        (cause_has_record (shape_of s) (poses_small command before.left s poses) cause place)
        (known site within) why.unfit (new site within))

    -- what was run over holds no record, and so has no cause of a fault
    run_has_none : (s : Scenario) (site : ℕ) (cause : JournalCause) (place : ℕ)
        → Runs words rack before after ended.trails.items → Poses command before.left s → site < s.catalog.sites
        → AreAllTold rack s.catalog.sites → IsFirstUnfit rack s site cause place → ⊥
    run_has_none s site cause place run poses within known why =
        let same = is_posed run.command run.scenario s run.asked run.posed poses in
        let none = subst (λ (t : Scenario). (i : ℕ) → i < t.catalog.sites → Holds rack i (HasNoRecord (shape_of t))) same
        run.run.no_record_before in
        of_both (rack.bytes site) (HasCause (shape_of s) cause place) (HasNoRecord (shape_of s)) ⊥
        (cause_has_record (shape_of s) (poses_small command before.left s poses) cause place) (known site within) why.unfit
        (none site within)

    whole_runs : (Written : List ℕ → Type 0) → RunsWhole words rack before after ended.trails.items Written
        → Runs words rack before after ended.trails.items
    whole_runs Written is = record {
      command = is.command;
      asked = is.asked;
      scenario = is.scenario;
      posed = is.posed;
      run = is.run.run;
    }

    -- where the disk of a site is the first that no site can begin with, just that is named
    names : (fault : Option Fault) → ended.fault ≡ fault → ended.status ≡ status_of fault → Tells fault
        → (s : Scenario) (site : ℕ) (cause : JournalCause) (place : ℕ)
        → Poses command before.left s → site < s.catalog.sites → AreAllTold rack s.catalog.sites
        → IsFirstUnfit rack s site cause place → after.source_faults ≡ before.source_faults → rack.took s.catalog.sites
        → (ended.fault ≡ Some (Journal site cause place)) ⊎ (ended.status ≡ 5) ⊎ FailsEarly rack ended.trails.items
    names None named is told s site cause place poses within known why source ok =
        absurd (run_has_none s site cause place (whole_runs (Appends before.holds after.holds) told) poses within known why)
    names (Some (Usage text)) named is told s site cause place poses within known why source ok = absurd told
    names (Some (ScenarioFault p detail)) named is told s site cause place poses within known why source ok =
        absurd (poses_none command before.left after.left s p told.2 poses told.0)
    names (Some Read) named is told s site cause place poses within known why source ok =
        absurd (let rose = told.0 in omega (arith, rose, source))
    names (Some Write) named is told s site cause place poses within known why source ok =
        absurd (run_has_none s site cause place (whole_runs (AppendsFront before.holds after.holds) told.0) poses within known why)
    names (Some Memory) named is told s site cause place poses within known why source ok = inr (inl is)
    names (Some (Rack other)) named is told s site cause place poses within known why source ok =
        inr (inr (elim told.holds.1 [
          | inl early ↦ elim early.2 [
            | inl take ↦
                let same : told.scenario ≡ s =
                is_posed told.command told.scenario s told.asked told.posed poses in
                let within : other < s.catalog.sites = subst (λ (t : Scenario). other < t.catalog.sites) same told.holds.0 in
                absurd (let e = one_count other s.catalog.sites take.before ok in omega (arith, within, e))
            | inr load ↦ (early.0, (other, load.failed))
          ]
          | inr run ↦
              absurd (run_has_none s site cause place
              (record { command = told.command; asked = told.asked; scenario = told.scenario; posed = told.posed; run = run.1.run })
              poses within known why)
        ]))
    names (Some (Journal other c p)) named is told s site cause place poses within known why source ok =
        let is = told.0 in
        let posed = is_posed is.command is.scenario s is.asked is.posed poses in
        let same = one_unfit rack s other site c cause p place (poses_small command before.left s poses) known within
        (subst (λ (t : Scenario). IsFirstUnfit rack t other c p) posed is.holds.1) why in
        inl (named
        ∙ (ap (λ n. Some (Journal n c p)) same.0
        ∙ (ap (λ k. Some (Journal site k p)) same.1 ∙ ap (λ n. Some (Journal site cause n)) same.2)))

    -- where the bytes are wrong at a place, it is named, or memory ran out
    abbrev Refuses : Type 0
    Refuses = (other : Command) (bytes : List ℕ) (place : Place) → Asks other words → IsRead other → before.left ≡ Some bytes
        → IsRefusedAt bytes place → after.source_faults ≡ before.source_faults
        → ((detail : Detail) × (ended.fault ≡ Some (ScenarioFault place detail))) ⊎ (ended.status ≡ 5)

    -- what words pose that ask for a run
    these : (other : Command) (s : Scenario) → Asks other words → Poses other before.left s → Poses command before.left s
    these other s asked poses = subst (λ (c : Command). Poses c before.left s) (only other asked) poses

    -- all that is promised, by what is so with the fault
    promise : (fault : Option Fault) → ended.fault ≡ fault → Tells fault
        → (ended.status ≢ 0 → ended.status ≢ 4 → after.holds ≡ before.holds) → MayRun → Refuses
        → Promise words rack before after ended
    promise fault named told silent legal refuses =
        let is : ended.status ≡ status_of fault = status ∙ ap status_of named in
        record {
          status = status;
          written = λ h. inl (at_done fault told (sym is ∙ h));
          usage = λ h. absurd (at_usage fault told (sym is ∙ h));
          unasked = λ none. absurd (none command line);
          texts = λ asked h. at_usage fault told (sym is ∙ h);
          unreadable = λ place detail h. (subst (λ (f : Option Fault). Tells f) (sym named ∙ h) told).0;
          unread = λ h. at_unread fault told (sym is ∙ h);
          cut = λ h. inl (at_cut fault told (sym is ∙ h)).0;
          failed = λ h. (at_cut fault told (sym is ∙ h)).1;
          unracked = λ site h. subst (λ (f : Option Fault). Tells f) (sym named ∙ h) told;
          unfit = λ site cause place h. (subst (λ (f : Option Fault). Tells f) (sym named ∙ h) told).0;
          unfit_named = λ other s site cause place asked poses. names fault named is told s site cause place (these other s asked poses);
          unasked_source = unasked fault is told;
          given_back = back;
          unfailing = unfailing;
          silent = silent;
          legal_trails = legal;
          no_trails = no_trails fault told is;
          complete = λ other s asked poses. completes fault is told s (these other s asked poses);
          refuses = refuses;
        }

    -- the bytes of a scenario that was taken are refused nowhere
    never : (s : Scenario) → IsPosed command before.left after.left s → Refuses
    never s posed = λ other bytes place asked reads left wrong source.
        let is = posed_reading command before.left after.left bytes s (subst IsRead (only other asked) reads) posed left in
        absurd (read_nowhere_refused bytes is.0 place is.1 wrong)

    -- a run over a scenario that was posed
    pub promise_run : (s : Scenario) (fault : Option Fault) → ended.fault ≡ fault → IsPosed command before.left after.left s
        → EndsRun rack command s before.holds after.holds before.sink_faults after.sink_faults ended.trails.items fault
        → Promise words rack before after ended
    promise_run s None named taken ends =
        promise None named (whole s (Appends before.holds after.holds) taken ends.0 ends.1)
        (λ not_done not_cut. absurd (not_done (status ∙ ap status_of named)))
        (inr (runs s taken ends.0.1.run)) (never s taken)
    promise_run s (Some Write) named taken ends =
        promise (Some Write) named (whole s (AppendsFront before.holds after.holds) taken ends.0 ends.1, ends.2)
        (λ not_done not_cut. absurd (not_cut (status ∙ ap status_of named)))
        (inr (runs s taken ends.0.1.run)) (never s taken)
    promise_run s (Some Memory) named taken ends =
        promise (Some Memory) named tt (λ not_done not_cut. ends.1) (runs_if s taken ends.0) (never s taken)
    promise_run s (Some (Rack site)) named taken ends =
        promise (Some (Rack site)) named
        (spelled s (λ k t. (site < t.catalog.sites) × IsRackFault rack k t ended.trails.items site) taken (ends.0, ends.1))
        (λ not_done not_cut. ends.2) (runs_if s taken (may_have_run s site ends.1)) (never s taken)
    promise_run s (Some (Journal site cause place)) named taken ends =
        promise (Some (Journal site cause place)) named (
          spelled s (λ k t. (site < t.catalog.sites) × IsFirstUnfit rack t site cause place × rack.each (IsFaultlessBefore site)) taken
              (ends.2, ends.3, ends.4),
          ends.0.0,
        ) (λ not_done not_cut. ends.1)
        (inl (ends.0.0, inr (spelled s (λ k t. IsUntouched rack t) taken ends.0.1))) (never s taken)
    promise_run s (Some (Usage text)) named taken ends = absurd ends
    promise_run s (Some (ScenarioFault place detail)) named taken ends = absurd ends
    promise_run s (Some Read) named taken ends = absurd ends

    -- no scenario was taken
    taken_not : (fault : Fault) → IsRead command → ended.fault ≡ Some fault → ended.trails.items ≡ [] → IsUntaken rack
        → after.holds ≡ before.holds
        → IsTakeFault before.left after.left before.source_faults after.source_faults fault
        → Promise words rack before after ended
    taken_not (ScenarioFault place detail) reads named none untaken same why =
        promise (Some (ScenarioFault place detail)) named (why, none, reads) (λ not_done not_cut. same) (inl (none, inl untaken))
        (λ k bytes other asked is_read left wrong source.
        inl (
          detail,
          named ∙ ap (λ (p : Place). Some (ScenarioFault p detail))
              (one_refused bytes place other (none_wrong before.left after.left bytes place why left) wrong),
        ))
    taken_not Read reads named none untaken same why =
        promise (Some Read) named (why, none) (λ not_done not_cut. same) (inl (none, inl untaken))
        (λ k bytes place asked is_read left wrong source. absurd (omega (arith, why, source)))
    taken_not Memory reads named none untaken same why =
        promise (Some Memory) named tt (λ not_done not_cut. same) (inl (none, inl untaken))
        (λ k bytes place asked is_read left wrong source. inr (status ∙ ap status_of named))
    taken_not (Usage text) reads named none untaken same why = absurd why
    taken_not Write reads named none untaken same why = absurd why
    taken_not (Rack site) reads named none untaken same why = absurd why
    taken_not (Journal site cause place) reads named none untaken same why = absurd why

    -- no scenario was posed
    pub promise_fault : (fault : Fault) → ended.fault ≡ Some fault → ended.trails.items ≡ [] → IsUntaken rack
        → after.holds ≡ before.holds
        → IsPoseFault command before.left after.left before.source_faults after.source_faults fault
        → Promise words rack before after ended
    promise_fault fault named none untaken same why = by command refl why
      where
        by : (other : Command) → other ≡ command
            → IsPoseFault other before.left after.left before.source_faults after.source_faults fault
            → Promise words rack before after ended
        by (Play trace disks) is why = taken_not fault (subst IsRead is tt) named none untaken same why
        by (Run trace disks) is why = taken_not fault (subst IsRead is tt) named none untaken same why
        by (Load seed calls) is why =
            promise (Some Memory) (named ∙ ap (λ f. Some f) why.0) tt (λ not_done not_cut. same) (inl (none, inl untaken))
            (λ k bytes place asked is_read left wrong source. inr (status ∙ ap status_of (named ∙ ap (λ f. Some f) why.0)))
        by (Audit disks) is why = absurd why
        by (Say text) is why = absurd why

  -- ---- no run was begun

  -- there are no trails, and nothing was read
  module _ (none : ended.trails.items ≡ []) (untaken : IsUntaken rack)
      (unread : (after.left ≡ before.left) × (after.source_faults ≡ before.source_faults)) where
    -- memory ran out before it was known what the words ask for
    pub promise_memory : ended.fault ≡ Some Memory → after.holds ≡ before.holds → Promise words rack before after ended
    promise_memory named same =
        let is : ended.status ≡ 5 = status ∙ ap status_of named in
        record {
          status = status;
          written = λ h. absurd (omega (arith, is, h));
          usage = λ h. absurd (omega (arith, is, h));
          unasked = λ nothing. inr (inl is);
          texts = λ asked h. omega (arith, is, h);
          unreadable = λ place detail h. absurd (let e = sym named ∙ h in cc);
          unread = λ h. absurd (omega (arith, is, h));
          cut = λ h. absurd (omega (arith, is, h));
          failed = λ h. absurd (omega (arith, is, h));
          unracked = λ site h. absurd (let e = sym named ∙ h in cc);
          unfit = λ site cause place h. absurd (let e = sym named ∙ h in cc);
          unfit_named = λ command s site cause place asked poses within known why source ok. inr (inl is);
          unasked_source = λ seed calls asked. (unread.0, unread.1, λ h. omega (arith, is, h));
          given_back = back;
          unfailing = unfailing;
          silent = λ not_done not_cut. same;
          legal_trails = inl (none, inl untaken);
          no_trails = inl none;
          complete = λ command s asked poses known new source sink ok. inr (inl is);
          refuses = λ k bytes place asked is_read left wrong source. inr is;
        }

    module _ (nothing : AskForNone words) where
      -- what is wrong with the words is told
      pub promise_usage : (text : String Global) → ended.fault ≡ Some (Usage text) → IsWrong (map string_bytes words)
          → ¬ AsksForText (map string_bytes words) → after.holds ≡ before.holds → Promise words rack before after ended
      promise_usage text named wrong no_text same =
          let is : ended.status ≡ 1 = status ∙ ap status_of named in
          record {
            status = status;
            written = λ h. absurd (omega (arith, is, h));
            usage = λ h. (nothing, wrong);
            unasked = λ nothing. inl is;
            texts = λ asked h. no_text asked;
            unreadable = λ place detail h. absurd (let e = sym named ∙ h in cc);
            unread = λ h. absurd (omega (arith, is, h));
            cut = λ h. absurd (omega (arith, is, h));
            failed = λ h. absurd (omega (arith, is, h));
            unracked = λ site h. absurd (let e = sym named ∙ h in cc);
            unfit = λ site cause place h. absurd (let e = sym named ∙ h in cc);
            unfit_named = λ command s site cause place asked. absurd (nothing command asked);
            unasked_source = λ seed calls asked. absurd (nothing (Load seed calls) asked);
            given_back = back;
            unfailing = unfailing;
            silent = λ not_done not_cut. same;
            legal_trails = inl (none, inl untaken);
            no_trails = inl none;
            complete = λ command s asked. absurd (nothing command asked);
            refuses = λ k bytes place asked. absurd (nothing k asked);
          }

      says : (text : List ℕ) (Written : List ℕ → Type 0) → Written text → Says words rack before after ended.trails.items Written
      says text Written written = record {
        none_asked = nothing;
        text = text;
        text_written = written;
        unread = unread;
        no_trails = none;
        untaken = untaken;
      }

      -- a text is said
      pub promise_text : (text : List ℕ) (fault : Option Fault) → ended.fault ≡ fault → IsForText (map string_bytes words)
          → EndsText text before.holds after.holds before.sink_faults after.sink_faults fault → Promise words rack before after ended
      promise_text text None named asks ends =
          let is : ended.status ≡ 0 = status ∙ ap status_of named in
          record {
            status = status;
            written = λ h. inr (says text (Appends before.holds after.holds) ends);
            usage = λ h. absurd (omega (arith, is, h));
            unasked = λ nothing. inr (inr (inl is, asks));
            texts = λ asked h. omega (arith, is, h);
            unreadable = λ place detail h. absurd (let e = sym named ∙ h in cc);
            unread = λ h. absurd (omega (arith, is, h));
            cut = λ h. absurd (omega (arith, is, h));
            failed = λ h. absurd (omega (arith, is, h));
            unracked = λ site h. absurd (let e = sym named ∙ h in cc);
            unfit = λ site cause place h. absurd (let e = sym named ∙ h in cc);
            unfit_named = λ command s site cause place asked. absurd (nothing command asked);
            unasked_source = λ seed calls asked. absurd (nothing (Load seed calls) asked);
            given_back = back;
            unfailing = unfailing;
            silent = λ not_done not_cut. absurd (not_done is);
            legal_trails = inl (none, inl untaken);
            no_trails = inl none;
            complete = λ command s asked. absurd (nothing command asked);
            refuses = λ k bytes place asked. absurd (nothing k asked);
          }
      promise_text text (Some Write) named asks ends =
          let is : ended.status ≡ 4 = status ∙ ap status_of named in
          record {
            status = status;
            written = λ h. absurd (omega (arith, is, h));
            usage = λ h. absurd (omega (arith, is, h));
            unasked = λ nothing. inr (inr (inr is, asks));
            texts = λ asked h. omega (arith, is, h);
            unreadable = λ place detail h. absurd (let e = sym named ∙ h in cc);
            unread = λ h. absurd (omega (arith, is, h));
            cut = λ h. inr (says text (AppendsFront before.holds after.holds) ends.0);
            failed = λ h. ends.1;
            unracked = λ site h. absurd (let e = sym named ∙ h in cc);
            unfit = λ site cause place h. absurd (let e = sym named ∙ h in cc);
            unfit_named = λ command s site cause place asked. absurd (nothing command asked);
            unasked_source = λ seed calls asked. absurd (nothing (Load seed calls) asked);
            given_back = back;
            unfailing = unfailing;
            silent = λ not_done not_cut. absurd (not_cut is);
            legal_trails = inl (none, inl untaken);
            no_trails = inl none;
            complete = λ command s asked. absurd (nothing command asked);
            refuses = λ k bytes place asked. absurd (nothing k asked);
          }
      promise_text text (Some Memory) named asks ends = absurd ends
      promise_text text (Some Read) named asks ends = absurd ends
      promise_text text (Some (Usage why)) named asks ends = absurd ends
      promise_text text (Some (ScenarioFault place detail)) named asks ends = absurd ends
      promise_text text (Some (Rack site)) named asks ends = absurd ends
      promise_text text (Some (Journal site cause place)) named asks ends = absurd ends
