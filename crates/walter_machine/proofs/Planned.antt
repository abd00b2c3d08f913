-- What is ready where a plan is made, and where the next epoch is.
use Rattle.std.specs.Global.{Box}
use Rattle.std.proofs.Common.{◌≡◌, ◌∙◌, ℕ, ◌+◌, Bool, true, false, [], map, Option, Some, None, Result, Ok, Err, refl, sym, ap, subst}
use Rattle.std.specs.Prelude.{All, IfSome, OnOk, is_some}
use Rattle.walter_base.specs.declared.catalog.Catalog.{Catalog}
use Rattle.walter_base.specs.declared.format.Format.{Format}
use Rattle.walter_base.specs.declared.message.BadFrame.{BadFrame as Bad}
use Rattle.walter_base.specs.declared.message.Record.{Record}
use Rattle.walter_base.specs.declared.message.Record.TheVariants.{Boot}
use Rattle.walter_base.specs.declared.message.Request.TheVariants.{Level as LevelAsked}
use Rattle.walter_base.specs.declared.names.SiteId.{SiteId}
use Rattle.walter_base.specs.declared.names.Tid.{Tid}
use Rattle.walter_machine.specs.declared.ready.Ready.{Ready}
use Rattle.walter_machine.specs.Steps.{Step, Apply, Rise, came_of, outcome_of, record_of, sends_of, expected_by, IsStep, IsPlanOf, IsRise}
use Rattle.walter_machine.specs.Comings.{IsSized, is_faulty}
use Rattle.walter_machine.specs.Debts.{IsDebtOf, gone_first}
use Rattle.walter_machine.specs.Readiness.{step_in, IsReadyFor}
use Rattle.walter_machine.specs.States.{CanBeNext, IsOf, IsUp}
use Rattle.walter_machine.proofs.Behind.{plan_stays}
use Rattle.walter_machine.proofs.Calls.{record_takes}
use Rattle.walter_machine.proofs.Sizes.{faultless, none_sent}
use Rattle.walter_packet.specs.Framed.{frame_of}
use Rattle.walter_packet.specs.Spelling.{HasPacketSpelling}
use Rattle.walter_rules.specs.declared.event.Event.TheVariants.{Given, Restart}
use Rattle.walter_rules.specs.declared.event.Input.{Input}
use Rattle.walter_rules.specs.declared.event.Input.TheVariants.{Call, Deliver, Advance, Tick, Upgrade}
use Rattle.walter_rules.specs.declared.outcome.Outcome.TheVariants.{Taken}
use Rattle.walter_rules.specs.Calls.{Expected, call_rule, if_told}
use Rattle.walter_rules.specs.Knowledge.{Knowledge, session_of}
use Rattle.walter_rules.specs.Learning.{recorded}
use Rattle.walter_rules.specs.Records.{CanFollow, IsRecordAmong}
use Rattle.walter_rules.specs.Rule.{given_rule, rule_where, restart_rule}
use Rattle.walter_rules.specs.Sending.{Send}
use Rattle.walter_rules.specs.Standing.{Standing, unmade}
use Rattle.walter_rules.specs.Trails.{TakesMemory}
use Rattle.walter_site.specs.declared.plan.Plan.{Plan}
use Rattle.walter_site.specs.Members.{Knows, IsShortOutcome, input_rule}
use Rattle.walter_site.specs.Plans.{IsReady}
use Rattle.walter_tables.specs.declared.tables.Tables.{Tables}
use Rattle.walter_tables.specs.Planning.{expected_of}
use Rattle.walter_tables.specs.Sites.{site_of, catalog_of, Stands}

told_bad : (bad : Bad) (owing : Option Tid) (x : Expected) → if_told (Err bad) owing x ≡ x
told_bad bad None x = refl
told_bad bad (Some tid) x = refl

told_level : (asked : Tid) (owing : Option Tid) (x : Expected) → if_told (Ok (LevelAsked asked)) owing x ≡ x
told_level asked None x = refl
told_level asked (Some tid) x = refl

-- where the client isn't told of a transaction in the place of an answer, it goes by what the site knows
told_rule : (header : Format) (catalog : Catalog) (i : SiteId) (S : Standing) (input : Input) (owing : Option Tid)
    → IsDebtOf S.gone input owing → gone_first owing input ≡ None
    → given_rule header catalog i S input ≡ input_rule header catalog i S.knows input
told_rule header catalog i S (Call client (Err bad)) owing owes first =
    told_bad bad (S.gone client) (call_rule catalog i S.knows (Err bad) (session_of S.knows client))
told_rule header catalog i S (Call client (Ok (LevelAsked asked))) owing owes first =
    told_level asked (S.gone client) (call_rule catalog i S.knows (Ok (LevelAsked asked)) (session_of S.knows client))
told_rule header catalog i S (Call client (Ok request)) owing owes first =
    ap (λ (o : Option Tid). if_told (Ok request) o (call_rule catalog i S.knows (Ok request) (session_of S.knows client)))
    (owes ∙ first)
told_rule header catalog i S (Deliver from number packet) owing owes first = refl
told_rule header catalog i S (Advance from) owing owes first = refl
told_rule header catalog i S Tick owing owes first = refl
told_rule header catalog i S Upgrade owing owes first = refl

-- a record can be the next, where there is one
next_here : (catalog : Catalog) (i : SiteId) (S : Standing) (rec : Option Record) → IfSome rec (IsRecordAmong catalog.sites)
    → IfSome rec (CanFollow catalog i S.knows) → IfSome rec (CanBeNext catalog i S)
next_here catalog i S None sizes follows = tt
next_here catalog i S (Some rec) sizes follows = record { sizes = sizes; follows = follows }

takes_here : (rec : Option Record) (P : Type 0) → (is_some rec ≡ true → P) → IfSome rec (λ r. P)
takes_here None P so = tt
takes_here (Some rec) P so = so refl

-- a plan
pub plan_ready : (header : Format) (catalog : Catalog) (i : SiteId) (S : Standing) (old new : Tables) (input : Input)
    (owing : Option Tid) (plan : Plan) → site_of old ≡ i → catalog_of old ≡ catalog → site_of new ≡ site_of old
    → catalog_of new ≡ catalog_of old
    → IsUp S old → IsDebtOf S.gone input owing → gone_first owing input ≡ None
    → Knows new S.knows
    → expected_of plan.planned ≡ input_rule header (catalog_of old) (site_of old) S.knows input → IsReady new input plan
    → IfSome plan.planned.rec (CanFollow (catalog_of old) (site_of old) S.knows)
    → IfSome plan.planned.rec (IsRecordAmong (catalog_of old).sites)
    → IsShortOutcome plan.planned.outcome → All (λ s. HasPacketSpelling catalog.sites s.1) plan.planned.sends
    → (ready : Ready) → step_in ready ≡ Apply plan
    → ready.frames.items ≡ map (λ s. frame_of catalog.sites s.1) plan.planned.sends
    → IsReadyFor header catalog i (Some new) S (Given input) ready
plan_ready header catalog i S old new input owing plan site_is catalog_is same_site same_catalog up owes first knows ruled made follows sizes short spelled ready is framed =
    record {
      rule = ap expected_by is ∙ (planned ∙ sym (ap (λ (b : Bool). rule_where b header catalog i S input) up.up
          ∙ told_rule header catalog i S input owing owes first));
      next = subst (λ (s : Step). IfSome (record_of s) (CanBeNext catalog i S)) (sym is)
          (next_here catalog i S plan.planned.rec sizes_here follows_here);
      step = subst (λ (s : Step). IsStep catalog i (Some new) S (Given input) s) (sym is) plan_of;
      takes = subst (λ (s : Step). IfSome (record_of s) (λ rec. TakesMemory S.up (Given input))) (sym is)
          (takes_here plan.planned.rec (TakesMemory S.up (Given input)) (λ some.
          subst (λ (b : Bool). TakesMemory b (Given input)) (sym up.up)
          (record_takes header catalog i S.knows input (expected_of plan.planned) planned some)));
      sized = subst (λ (s : Step). IsSized catalog.sites (came_of s)) (sym is) (record {
        outcome = short;
        kept = tt;
        wrote = sizes_here;
        flight = tt;
        sends = spelled;
      });
      fine = subst (λ (s : Step). is_faulty (outcome_of s) ≡ false) (sym is)
          (faultless (Given input) plan.planned.outcome (plan_stays new S.knows input plan plan_of));
      framed = framed ∙ ap (λ (s : Step). map (λ (e : Send). frame_of catalog.sites e.1) (sends_of s)) (sym is);
    }
  where
    planned : expected_of plan.planned ≡ input_rule header catalog i S.knows input
    planned =
        subst (λ (k : SiteId). expected_of plan.planned ≡ input_rule header catalog k S.knows input) site_is
        (subst (λ (c : Catalog). expected_of plan.planned ≡ input_rule header c (site_of old) S.knows input) catalog_is ruled)

    sizes_here : IfSome plan.planned.rec (IsRecordAmong catalog.sites)
    sizes_here = subst (λ (c : Catalog). IfSome plan.planned.rec (IsRecordAmong c.sites)) catalog_is sizes

    follows_here : IfSome plan.planned.rec (CanFollow catalog i S.knows)
    follows_here =
        subst (λ (k : SiteId). IfSome plan.planned.rec (CanFollow catalog k S.knows)) site_is
        (subst (λ (c : Catalog). IfSome plan.planned.rec (CanFollow c (site_of old) S.knows)) catalog_is follows)

    plan_of : IsPlanOf new S.knows input plan
    plan_of = record {
      header = header;
      knows = knows;
      rule =
          subst (λ (k : SiteId). expected_of plan.planned ≡ input_rule header (catalog_of new) k S.knows input) (sym same_site)
          (subst (λ (c : Catalog). expected_of plan.planned ≡ input_rule header c (site_of old) S.knows input) (sym same_catalog) ruled);
      ready = made;
      sizes = subst (λ (c : Catalog). IfSome plan.planned.rec (IsRecordAmong c.sites)) (sym same_catalog) sizes;
    }

-- the next epoch of a site that is down
pub boot_ready : (header : Format) (tables new : Tables) (boxed : Box Tables) (S : Standing) (epoch : ℕ)
    (ready : Ready) → S.up ≡ false
    → epoch ≡ S.knows.epoch + 1 → site_of new ≡ site_of tables → catalog_of new ≡ catalog_of tables
    → Stands new (recorded (catalog_of tables) (site_of tables) (Some (Boot epoch)) S.knows)
    → boxed.value ≡ new → step_in ready ≡ Rise boxed epoch → ready.frames.items ≡ []
    → IsReadyFor header (catalog_of tables) (site_of tables) None S Restart ready
boot_ready header tables new boxed S epoch ready down next site catalog stands same is framed =
    record {
      rule = ap expected_by is ∙ (ap (λ (n : ℕ). record { wrote = Some (Boot n); outcome = Taken; sends = [] }) next
          ∙ sym (ap (λ (up : Bool). restart_rule up S.knows) down));
      next = subst (λ (s : Step). IfSome (record_of s) (CanBeNext (catalog_of tables) (site_of tables) S)) (sym is)
          (record { sizes = tt; follows = next });
      step = subst (λ (s : Step). IsStep (catalog_of tables) (site_of tables) None S Restart s) (sym is)
          (subst (λ (t : Tables). IsRise (catalog_of tables) (site_of tables) None S Restart t epoch) (sym same)
          (record { down = refl; restart = refl; next = next; of = (site, catalog); stands = stands }));
      takes = subst (λ (s : Step). IfSome (record_of s) (λ rec. TakesMemory S.up Restart)) (sym is)
          (subst (λ (b : Bool). TakesMemory b Restart) (sym down) tt);
      sized = subst (λ (s : Step). IsSized (catalog_of tables).sites (came_of s)) (sym is)
          (record { outcome = tt; kept = tt; wrote = tt; flight = tt; sends = none_sent (catalog_of tables).sites });
      fine = subst (λ (s : Step). is_faulty (outcome_of s) ≡ false) (sym is) refl;
      framed = framed ∙ ap (λ (s : Step). map (λ (e : Send). frame_of (catalog_of tables).sites e.1) (sends_of s)) (sym is);
    }

-- a site that is down and knows this
abbrev pub unmade_with : Knowledge → Standing
unmade_with K = record unmade { knows = K }

-- a site that is up and knows this, and owes this
abbrev pub up_owing : Knowledge → (ℕ → Option Tid) → Standing
up_owing K gone = record unmade { up = true; knows = K; gone = gone }

pub on_ok : {T E : Type 0} (r : Result T E) (P Q : Type 0) → (P → Q) → OnOk r P → OnOk r Q
on_ok (Ok x) P Q so p = so p
on_ok (Err e) P Q so p = tt

-- what is so of the site of the tables is so of this one
pub at_site : (P : Catalog → SiteId → Type 0) (t : Tables) (catalog : Catalog) (i : SiteId) → IsOf catalog i t
    → P (catalog_of t) (site_of t) → P catalog i
at_site P t catalog i of so = subst (λ (k : SiteId). P catalog k) of.0 (subst (λ (c : Catalog). P c (site_of t)) of.1 so)
