-- A restart of a site that is down, by the bodies of its journal.
use Rattle.std.proofs.Common.{◌≡◌, ◌⊎◌, ℕ, ◌+◌, ◌<◌, List, [], map, true, false, Option, Some, None, refl, ap, sym, ◌∙◌, subst, inl, inr}
use Rattle.std.specs.Prelude.{All, IfSome, IsSome, is_some}
use Rattle.walter_base.specs.declared.catalog.Catalog.{Catalog}
use Rattle.walter_base.specs.declared.format.Format.{Format}
use Rattle.walter_base.specs.declared.message.Record.{Record}
use Rattle.walter_base.specs.declared.message.Record.TheVariants.{Boot}
use Rattle.walter_base.specs.declared.names.SiteId.{SiteId}
use Rattle.walter_disk.proofs.Moments.{joined}
use Rattle.walter_disk.specs.declared.disk.Disk.{Ghosts}
use Rattle.walter_disk.specs.Disks.{Fails}
use Rattle.walter_disk.specs.Images.{LeavesOnly}
use Rattle.walter_engine.specs.declared.answers.RefusedRestart.{RefusedRestart}
use Rattle.walter_engine.specs.declared.answers.RefusedRestart.TheVariants.{Foreign, Damaged, Unreadable, LastEpoch}
use Rattle.walter_engine.specs.Contents.{HasBodies, MayHaveNext, HaveSpellings, spelled}
use Rattle.walter_engine.specs.Effects.{Tell, IsUnreadable, IsRefusedOver, TakesNoEpoch}
use Rattle.walter_engine.specs.Raises.{IsPacked, LiesIn, Raises, hindered_by}
use Rattle.walter_engine.specs.Replays.{Tells, IsReadyOver, format_in}
use Rattle.walter_engine.specs.Restarts.{ComesOf, left_over}
use Rattle.walter_engine.specs.Stores.{IsKept, layout_of}
use Rattle.walter_engine.specs.Writings.{IsOutcomeOf, IsSameButRoom, IsFormatAt}
use Rattle.walter_engine.proofs.Bodies.{readable, one_list}
use Rattle.walter_engine.proofs.Crashes.{unmoved, stays_next, packs_next}
use Rattle.walter_engine.proofs.Resting.{SizeIs, CountsNow, OnlyNow, may_have}
use Rattle.walter_engine.proofs.Laid.{laid_as}
use Rattle.walter_engine.proofs.Room.{IsFor, left_packed}
use Rattle.walter_engine.proofs.Taking.{same_parts}
use Rattle.walter_engine.proofs.Written.{leaves_same, leaves_unpacked, same_layout}
use Rattle.walter_checkpoint.specs.Books.{disk_of, shape_of, StandsFor}
use Rattle.walter_checkpoint.specs.declared.book.Book.{Book}
use Rattle.walter_machine.specs.declared.machine.Machine.{Machine}
use Rattle.walter_machine.specs.declared.ready.Ready.{Ready}
use Rattle.walter_machine.specs.Steps.{Step, Answer, Apply, Fall, Rise, IsStep, record_of, outcome_of, sends_of}
use Rattle.walter_machine.specs.Comings.{IsRest, is_faulty}
use Rattle.walter_machine.specs.Machines.{catalog_in, tables_in, HasStanding}
use Rattle.walter_machine.specs.Readiness.{step_in, rec_in, came_in, IsReadyFor, IsReadyAnyway}
use Rattle.walter_rules.specs.declared.entry.Came.{Came}
use Rattle.walter_rules.specs.declared.event.Event.TheVariants.{Restart}
use Rattle.walter_rules.specs.declared.outcome.Outcome.{Outcome}
use Rattle.walter_rules.specs.declared.outcome.Outcome.TheVariants.{Taken, Failed, Memory, Refused}
use Rattle.walter_rules.specs.Knowledge.{Knowledge, fresh}
use Rattle.walter_rules.proofs.Placed.{format_told}
use Rattle.walter_rules.specs.Layouts.{Layout, header_of, in_force, format_at, need_of}
use Rattle.walter_rules.specs.Records.{replayed}
use Rattle.walter_rules.specs.Standing.{Standing, stands_after, up_after}
use Rattle.walter_rules.specs.Trails.{Comes, TakesMemory, only}
use Rattle.walter_tables.specs.declared.tables.Tables.{Tables}
use Rattle.walter_site.specs.Members.{IsShortOutcome}
use Rattle.walter_tables.specs.Sites.{values_of, site_of, catalog_of, Stands}

-- a site that is down and restarts with a record takes its next epoch
rises_by : (catalog : Catalog) (i : SiteId) (S : Standing) (step : Step) (rec : Record)
    → IsStep catalog i None S Restart step → record_of step ≡ Some rec
    → (outcome_of step ≡ Taken) × (sends_of step ≡ [])
rises_by catalog i S (Answer outcome) rec is some = absurd (cc)
rises_by catalog i S (Apply plan) rec is some = absurd is
rises_by catalog i S Fall rec is some = absurd is
rises_by catalog i S (Rise tables epoch) rec is some = (refl, refl)

pub rises : (catalog : Catalog) (i : SiteId) (ready : Ready) (rec : Record) → IsReadyAnyway catalog i None Restart ready
    → rec_in ready ≡ Some rec → ((came_in ready).outcome ≡ Taken) × ((came_in ready).sends ≡ [])
rises catalog i ready rec anyway some = rises_by catalog i anyway.S (step_in ready) rec anyway.ready_for.step some

-- a restart is ready behind the bodies that the tables stand for
pub is_ready_over : (header : Format) (catalog : Catalog) (i : SiteId) (bodies : List (List ℕ)) (tables : Tables)
    (ready : Ready) → catalog_of tables ≡ catalog → site_of tables ≡ i → Tells header catalog i bodies tables
    → IsReadyAnyway (catalog_of tables) (site_of tables) None Restart ready
    → ((h : Format) (S : Standing) → S.up ≡ false → Stands tables S.knows
    → IsReadyFor h (catalog_of tables) (site_of tables) None S Restart ready)
    → rec_in ready ≡ Some (Boot ((values_of tables).epoch + 1)) → ((values_of tables).epoch ≡ 4294967295 → ⊥)
    → (format : Format) → format ≡ format_in header tables → IsReadyOver header catalog i bodies ready format
is_ready_over header catalog i bodies tables ready same_catalog same_site tells anyway ready_for boots left format told = record {
  records = tells.records;
  tell = tells.tell;
  anyway = same_parts (λ x k. IsReadyAnyway x k None Restart ready) (catalog_of tables) catalog (site_of tables) i (sym same_catalog) (sym same_site) anyway;
  ready_for = λ h S down knows.
      same_parts (λ x k. IsReadyFor h x k None S Restart ready) (catalog_of tables) catalog (site_of tables) i (sym same_catalog) (sym same_site)
      (ready_for h S down (subst (λ (K : Knowledge). Stands tables K) knows tells.stands));
  boots = boots ∙ ap (λ (n : ℕ). Some (Boot (n + 1))) tells.stands.epoch;
  left = λ last. left (tells.stands.epoch ∙ last);
  told = told ∙ ap (in_force header) tells.stands.format;
}

-- what comes of bodies behind which one is ready
pub comes_of : (header : Format) (catalog : Catalog) (i : SiteId) (left : ℕ) (bodies : List (List ℕ)) (ready : Ready)
    (format : Format) → IsReadyOver header catalog i bodies ready format → (wrote : Option Record) (outcome : Outcome)
    → IsOutcomeOf format Restart ready left outcome → (outcome ≡ Taken → wrote ≡ rec_in ready)
    → ComesOf header catalog i left bodies wrote None outcome
comes_of header catalog i left bodies ready format over wrote outcome (inl is) writes =
    let taken = is ∙ (rises catalog i ready (Boot ((replayed catalog i fresh over.records).epoch + 1)) over.anyway over.boots).0 in
    subst (λ (o : Outcome). ComesOf header catalog i left bodies wrote None o) (sym taken)
    (over.records, over.tell, writes taken ∙ over.boots)
comes_of header catalog i left bodies ready format over wrote outcome (inr (inl is)) writes =
    subst (λ (o : Outcome). ComesOf header catalog i left bodies wrote None o) (sym is) refl
comes_of header catalog i left bodies ready format over wrote outcome (inr (inr (inl failed))) writes =
    subst (λ (o : Outcome). ComesOf header catalog i left bodies wrote None o) (sym failed.1) refl
comes_of header catalog i left bodies ready format over wrote outcome (inr (inr (inr full))) writes =
    let named : Some full.rec ≡ Some (Boot ((replayed catalog i fresh over.records).epoch + 1)) = sym full.is ∙ over.boots in
    let same : full.rec ≡ Boot ((replayed catalog i fresh over.records).epoch + 1) = cc in
    subst (λ (o : Outcome). ComesOf header catalog i left bodies wrote None o) (sym full.outcome_is)
    (over.records, over.tell, subst (λ (r : Record). left < need_of format r) same full.less, ap (need_of format) same, refl)

-- and of those behind which none is
pub comes_hindered : (header : Format) (catalog : Catalog) (i : SiteId) (left : ℕ) (bodies : List (List ℕ)) (wrote : Option Record)
    (outcome : Outcome) (why : Option RefusedRestart) → IfSome why (IsRefusedOver header catalog i bodies)
    → outcome ≡ hindered_by why → ComesOf header catalog i left bodies wrote why outcome
comes_hindered header catalog i left bodies wrote outcome None refused is =
    subst (λ (o : Outcome). ComesOf header catalog i left bodies wrote None o) (sym is) refl
comes_hindered header catalog i left bodies wrote outcome (Some cause) refused is =
    subst (λ (o : Outcome). ComesOf header catalog i left bodies wrote (Some cause) o) (sym is) (cause, refl, refused)

pub hindered_is : (why : Option RefusedRestart) → IsRest (hindered_by why) × IsShortOutcome (hindered_by why)
    × (is_faulty (hindered_by why) ≡ false) × (up_after Restart (hindered_by why) false ≡ false)
hindered_is None = (tt, tt, refl, refl)
hindered_is (Some cause) = (tt, tt, refl, refl)

module _ (header : Format) (catalog : Catalog) (i : SiteId) (left : ℕ) (bodies : List (List ℕ)) (wrote : Option Record)
    (why : Option RefusedRestart) (outcome : Outcome) (over : ComesOf header catalog i left bodies wrote why outcome) where
  -- it is refused for a cause
  pub has_cause : outcome ≡ Refused → IsSome why
  has_cause refused = ap is_some (subst (λ (o : Outcome). ComesOf header catalog i left bodies wrote why o) refused over).1

  -- and taken with a record
  pub has_written : outcome ≡ Taken → IsSome wrote
  has_written taken = ap is_some (subst (λ (o : Outcome). ComesOf header catalog i left bodies wrote why o) taken over).2

-- behind the last epoch
pub refused_last : (header : Format) (catalog : Catalog) (i : SiteId) (bodies : List (List ℕ)) (tables : Tables)
    → Tells header catalog i bodies tables → (values_of tables).epoch ≡ 4294967295 → IsRefusedOver header catalog i bodies LastEpoch
refused_last header catalog i bodies tables tells last = (tells.records, tells.tell, sym tells.stands.epoch ∙ last)

module _ {D : Type 0} {g : Ghosts D} (catalog : Catalog) (layout : Layout) (i : SiteId) (S : Standing)
    (book : Book D g) (bodies : List (List ℕ)) (lies : LiesIn {g = g} catalog layout i S book bodies) where
  abbrev header : Format
  header = header_of layout

  -- what is there can be read
  pub readable_here : (index : ℕ) → IsUnreadable header catalog i bodies index → ⊥
  readable_here index bad =
      readable header catalog i bodies index S.records
      (record { spell = lies.is; spellings = lies.spellings.records; follow = lies.told.follow }) bad

  -- its header is the book's
  pub over_here : (ready : Ready) (format : Format) → IsReadyOver (shape_of book).header catalog i bodies ready format
      → IsReadyOver header catalog i bodies ready format
  over_here ready format over =
      subst (λ (h : Format). IsReadyOver h catalog i bodies ready format) (sym (laid_as book layout lies.laid)) over

  pub refused_here : (why : Option RefusedRestart) → IfSome why (IsRefusedOver (shape_of book).header catalog i bodies)
      → IfSome why (IsRefusedOver header catalog i bodies)
  refused_here why refused =
      subst (λ (h : Format). IfSome why (IsRefusedOver h catalog i bodies)) (sym (laid_as book layout lies.laid)) refused

  same_here : (records : List Record) → Tell header catalog i bodies records → records ≡ S.records
  same_here records tell =
      one_list catalog.sites header records S.records tell.spellings lies.spellings.records (sym tell.spell ∙ lies.is)

  -- and tells what the site knows
  pub knows_here : (records : List Record) → Tell header catalog i bodies records
      → replayed catalog i fresh records ≡ S.knows
  knows_here records tell =
      ap (replayed catalog i fresh) (same_here records tell) ∙ sym lies.told.tell ∙ lies.told.rests lies.down

  -- and the format of the next record
  pub format_here : (records : List Record) → Tell header catalog i bodies records → (format : Format)
      → format ≡ in_force header (replayed catalog i fresh records).format → IsFormatAt format layout S
  format_here records tell format is =
      is ∙ format_told header catalog i records ∙ ap (format_at header) (same_here records tell)

  -- it is refused behind its last epoch alone
  only_last : (why : Option RefusedRestart) → IfSome why (IsRefusedOver header catalog i bodies)
      → IfSome why (λ cause. (cause ≡ LastEpoch) × (S.knows.epoch ≡ 4294967295))
  only_last None over = tt
  only_last (Some Foreign) over = absurd over
  only_last (Some (Damaged at length)) over = absurd over
  only_last (Some (Unreadable index)) over = absurd (readable_here index over)
  only_last (Some LastEpoch) over = (refl, ap (λ (K : Knowledge). K.epoch) (sym (knows_here over.0 over.1)) ∙ over.2)

  pub stands_here : StandsFor book (spelled header S.records)
  stands_here = subst (λ (b : List (List ℕ)). StandsFor book b) lies.is lies.stands

  -- where all is packed, what is left is what the records leave
  pub kept_here : (sites : ℕ) → IsFor sites layout → sites ≡ catalog.sites → (old mid : Book D g)
      → IsSameButRoom book old → IsPacked old mid bodies → IsKept layout S mid
  kept_here sites for_ same_sites old mid same packed =
      let laid : layout_of old ≡ layout = same_layout book old same.book.shape same.book.live ∙ lies.laid in
      record {
        laid = packed.layout ∙ laid;
        stands = subst (λ (b : List (List ℕ)). StandsFor mid b) lies.is (packed.stands (same.book.stands bodies lies.stands));
        left = packed.left ∙ ap (λ (l : Layout). left_over l bodies) laid ∙ ap (left_over layout) lies.is
            ∙ left_packed layout sites S lies.down for_
            (subst (λ n. HaveSpellings header n S.records) (sym same_sites) lies.spellings.records);
      }

  -- where nothing was done, a crash leaves the records
  pub rests_next : OnlyNow g
      → LeavesOnly g.moment g.left_since (disk_of book) (disk_of book) (MayHaveNext catalog layout i S Restart None)
  rests_next only_now =
      unmoved {g = g} only_now book (spelled header S.records) stands_here
      (MayHaveNext catalog layout i S Restart None)
      (λ image has. inl (may_have layout S.records S.flight image
      (subst (λ (l : Layout). HasBodies l image (spelled header S.records)) lies.laid has)))

  module _ (size_is : SizeIs g) (m : Machine) (catalog_is : catalog_in m ≡ catalog) (came : Came)
      (standing : HasStanding m (stands_after catalog i S Restart came)) where
    comes_to : (why : Option RefusedRestart) → came ≡ only (hindered_by why)
        → (came.outcome ≡ Refused) ⊎ Comes catalog layout i S Restart came
    comes_to None is =
        inr (Comes.no_memory (subst (λ up. TakesMemory up Restart) (sym lies.down) tt)
        (record {
          outcome_is = ap (λ (c : Came). c.outcome) is;
          wrote = ap (λ (c : Came). c.wrote) is;
          flight_is = ap (λ (c : Came). c.flight) is;
          sends = ap (λ (c : Came). c.sends) is;
          dropped = ap (λ (c : Came). c.dropped) is;
        }))
    comes_to (Some cause) is = inl (ap (λ (c : Came). c.outcome) is)

    -- the site stays down
    never_up : (outcome : Outcome) → came.outcome ≡ outcome → up_after Restart outcome false ≡ false
        → (stands_after catalog i S Restart came).up ≡ true → ⊥
    never_up outcome is rests up =
        let e = sym up ∙ ap (λ (o : Outcome). up_after Restart o S.up) is ∙ ap (up_after Restart outcome) lies.down ∙ rests in
        absurd (cc)

    -- where none is ready
    pub raises_hindered : (why : Option RefusedRestart) → IfSome why (IsRefusedOver header catalog i bodies)
        → came ≡ only (hindered_by why) → Raises {g = g} catalog layout i S came why m book
    raises_hindered why refused is = record {
      comes = comes_to why is;
      leaves = leaves_same {g = g} size_is catalog layout i S Restart lies.spellings m catalog_is came standing book lies.laid
          stands_here (λ up. absurd (never_up (hindered_by why) (ap (λ (c : Came). c.outcome) is) (hindered_is why).3 up))
          (ap (λ (c : Came). c.wrote) is) (ap (λ (c : Came). c.flight) is);
      last = only_last why refused;
      takes_none = λ last.
          subst (λ (c : Came). TakesNoEpoch c) (sym is) (record { rest = (hindered_is why).0; wrote = refl; flight = refl });
    }

    module _ (mid : Book D g) (same : IsSameButRoom book mid) where
      laid_mid : layout_of mid ≡ layout
      laid_mid = same_layout book mid same.book.shape same.book.live ∙ lies.laid

      stands_mid : StandsFor mid (spelled header S.records)
      stands_mid = same.book.stands (spelled header S.records) stands_here

      -- where memory ran out before anything was written
      pub raises_wanting : came ≡ only Memory → Raises {g = g} catalog layout i S came None m mid
      raises_wanting is = record {
        comes = comes_to None is;
        leaves = leaves_same {g = g} size_is catalog layout i S Restart lies.spellings m catalog_is came standing mid laid_mid
            stands_mid (λ up. absurd (never_up Memory (ap (λ (c : Came). c.outcome) is) refl up))
            (ap (λ (c : Came). c.wrote) is) (ap (λ (c : Came). c.flight) is);
        last = tt;
        takes_none = λ last. subst (λ (c : Came). TakesNoEpoch c) (sym is) (record { rest = tt; wrote = refl; flight = refl });
      }

      -- where the pack met a fault
      pub raises_unpacked : (new : Book D g) → CountsNow g → Fails (g.known (disk_of mid)) (g.known (disk_of new))
          → LeavesOnly g.moment g.left_since (disk_of mid) (disk_of new)
          (λ image. HasBodies (layout_of mid) image bodies) → tables_in m ≡ None → came ≡ only Failed
          → Raises {g = g} catalog layout i S came None m new
      raises_unpacked new counts_now fails run down is = record {
        comes = inr (Comes.unread refl lies.down (record {
          outcome_is = ap (λ (c : Came). c.outcome) is;
          wrote = ap (λ (c : Came). c.wrote) is;
          flight_is = ap (λ (c : Came). c.flight) is;
          sends = ap (λ (c : Came). c.sends) is;
          dropped = ap (λ (c : Came). c.dropped) is;
        }));
        leaves = leaves_unpacked {g = g} size_is catalog layout i S Restart lies.spellings m catalog_is came standing new
            counts_now mid laid_mid stands_mid fails
            (subst (λ (b : List (List ℕ)). LeavesOnly g.moment g.left_since (disk_of mid) (disk_of new)
            (λ image. HasBodies (layout_of mid) image b)) lies.is run)
            down (ap (λ (c : Came). c.wrote) is) (ap (λ (c : Came). c.flight) is);
        last = tt;
        takes_none = λ last. subst (λ (c : Came). TakesNoEpoch c) (sym is) (record { rest = tt; wrote = refl; flight = refl });
      }

  -- and what a crash leaves from before the record is written, where a pack was made or wasn't
  pub packed_next : (mid : Book D g) → IsSameButRoom book mid → (new : D)
      → LeavesOnly g.moment g.left_since (disk_of mid) new (λ image. HasBodies (layout_of mid) image bodies)
      → LeavesOnly g.moment g.left_since (disk_of book) new (MayHaveNext catalog layout i S Restart None)
  packed_next mid same new run =
      joined g.moment g.left_since (disk_of book) (disk_of mid) new (MayHaveNext catalog layout i S Restart None)
      (stays_next {g = g} catalog layout i S Restart book lies.laid stands_here mid same)
      (packs_next {g = g} catalog layout i S Restart mid (same_layout book mid same.book.shape same.book.live ∙ lies.laid)
      (same.book.stands (spelled header S.records) stands_here) new
      (subst (λ (b : List (List ℕ)). LeavesOnly g.moment g.left_since (disk_of mid) new (λ image. HasBodies (layout_of mid) image b))
      lies.is run))
