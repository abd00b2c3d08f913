-- What is ready where an event is answered without a plan.
use Rattle.std.proofs.Common.{◌≡◌, ◌∙◌, ℕ, Bool, true, false, [], map, Option, Some, None, Ok, Err, refl, sym, ap, subst}
use Rattle.std.specs.Prelude.{◌≢◌, IfSome, is_some}
use Rattle.walter_base.specs.declared.catalog.Catalog.{Catalog}
use Rattle.walter_base.specs.declared.format.Format.{Format}
use Rattle.walter_base.specs.declared.message.Refusal.TheVariants.{Gone}
use Rattle.walter_base.specs.declared.message.Request.TheVariants.{Level as LevelAsked}
use Rattle.walter_base.specs.declared.names.SiteId.{SiteId}
use Rattle.walter_base.specs.declared.names.Tid.{Tid}
use Rattle.walter_machine.specs.declared.ready.Ready.{Ready}
use Rattle.walter_machine.specs.Steps.{Step, Answer, Fall, came_of, outcome_of, record_of, sends_of, expected_by, IsIdle, IsStep}
use Rattle.walter_machine.specs.Comings.{IsSized, is_faulty}
use Rattle.walter_machine.specs.Debts.{IsDebtOf, gone_first}
use Rattle.walter_machine.specs.Readiness.{step_in, IsReadyFor}
use Rattle.walter_machine.specs.States.{CanBeNext}
use Rattle.walter_machine.proofs.Behind.{idle_up}
use Rattle.walter_machine.proofs.Sizes.{none_sent, faultless}
use Rattle.walter_packet.specs.Framed.{frame_of}
use Rattle.walter_rules.specs.declared.event.Event.{Event}
use Rattle.walter_rules.specs.declared.event.Event.TheVariants.{Given, Stop, Restart}
use Rattle.walter_rules.specs.declared.event.Input.{Input}
use Rattle.walter_rules.specs.declared.event.Input.TheVariants.{Call, Deliver, Advance, Tick, Upgrade}
use Rattle.walter_rules.specs.declared.outcome.Outcome.{Outcome}
use Rattle.walter_rules.specs.declared.outcome.Outcome.TheVariants.{Passed}
use Rattle.walter_rules.specs.Calls.{Expected, refuses, call_rule, if_told}
use Rattle.walter_rules.specs.Knowledge.{session_of}
use Rattle.walter_rules.specs.Layouts.{Layout, FitsIn, header_of}
use Rattle.walter_rules.specs.Rule.{rule, given_rule, given_down, rule_where, stop_rule, restart_rule}
use Rattle.walter_rules.specs.Sending.{Send}
use Rattle.walter_rules.specs.Standing.{Standing, told, up_after}
use Rattle.walter_rules.specs.Trails.{Comes, IsPutOut, TakesMemory, only}
use Rattle.walter_site.specs.Members.{IsShortOutcome}
use Rattle.walter_tables.specs.declared.tables.Tables.{Tables}

-- what comes without a record and without packets
abbrev pub expects : Outcome → Expected
expects outcome = record { wrote = None; outcome = outcome; sends = [] }

-- so it is ready where the step is this
abbrev IsReadyBy : Format → Catalog → SiteId → Option Tables → Standing → Event → Step → Type 0
IsReadyBy header catalog i site S event step = (ready : Ready) → step_in ready ≡ step → ready.frames.items ≡ []
    → IsReadyFor header catalog i site S event ready

-- an answer that changes nothing
pub answer_ready : (header : Format) (catalog : Catalog) (i : SiteId) (site : Option Tables) (S : Standing)
    (event : Event) (outcome : Outcome) → expects outcome ≡ rule header catalog i S event
    → IsIdle catalog i S event outcome → IsShortOutcome outcome → IsReadyBy header catalog i site S event (Answer outcome)
answer_ready header catalog i site S event outcome ruled idle short ready is framed = record {
  rule = ap expected_by is ∙ ruled;
  next = subst (λ (s : Step). IfSome (record_of s) (CanBeNext catalog i S)) (sym is) tt;
  step = subst (λ (s : Step). IsStep catalog i site S event s) (sym is) idle;
  takes = subst (λ (s : Step). IfSome (record_of s) (λ rec. TakesMemory S.up event)) (sym is) tt;
  sized = subst (λ (s : Step). IsSized catalog.sites (came_of s)) (sym is)
      (record { outcome = short; kept = tt; wrote = tt; flight = tt; sends = none_sent catalog.sites });
  fine = subst (λ (s : Step). is_faulty (outcome_of s) ≡ false) (sym is) (faultless event outcome idle.stays);
  framed = framed ∙ ap (λ (s : Step). map (λ (e : Send). frame_of catalog.sites e.1) (sends_of s)) (sym is);
}

-- ---- at a site that is down

-- nothing is done there, and no client is told of a transaction
pub record Rests (catalog : Catalog) (i : SiteId) (S : Standing) (event : Event) (ruled : Expected) : Type 0 where
  pub alone : ruled ≡ expects ruled.outcome
  pub idle : IsIdle catalog i S event ruled.outcome
  pub short : IsShortOutcome ruled.outcome
  pub untold : (gone : ℕ → Option Tid) (client : ℕ) → told event ruled.outcome gone client ≡ gone client

input_rests : (catalog : Catalog) (i : SiteId) (S : Standing) (input : Input)
    → Rests catalog i S (Given input) (given_down input)
input_rests catalog i S (Call client (Err bad)) = record {
  alone = refl;
  idle = record { stays = refl; rests = refl; knows = refl; flies = refl };
  short = tt;
  untold = λ gone c. refl;
}
input_rests catalog i S (Call client (Ok request)) = record {
  alone = refl;
  idle = record { stays = refl; rests = refl; knows = refl; flies = refl };
  short = tt;
  untold = λ gone c. refl;
}
input_rests catalog i S (Deliver from number packet) = record {
  alone = refl;
  idle = record { stays = refl; rests = refl; knows = refl; flies = refl };
  short = tt;
  untold = λ gone c. refl;
}
input_rests catalog i S (Advance from) = record {
  alone = refl;
  idle = record { stays = refl; rests = refl; knows = refl; flies = refl };
  short = tt;
  untold = λ gone c. refl;
}
input_rests catalog i S Tick = record {
  alone = refl;
  idle = record { stays = refl; rests = refl; knows = refl; flies = refl };
  short = tt;
  untold = λ gone c. refl;
}
input_rests catalog i S Upgrade = record {
  alone = refl;
  idle = record { stays = refl; rests = refl; knows = refl; flies = refl };
  short = tt;
  untold = λ gone c. refl;
}

-- whatever comes that is no restart
pub rests : (header : Format) (catalog : Catalog) (i : SiteId) (S : Standing) (event : Event) → S.up ≡ false
    → event ≢ Restart → Rests catalog i S event (rule header catalog i S event)
rests header catalog i S (Given input) down stays =
    subst (λ (up : Bool). Rests catalog i S (Given input) (rule_where up header catalog i S input)) (sym down)
    (input_rests catalog i S input)
rests header catalog i S Stop down stays =
    subst (λ (up : Bool). Rests catalog i S Stop (stop_rule up)) (sym down) (record {
      alone = refl;
      idle = record { stays = refl; rests = refl; knows = refl; flies = refl };
      short = tt;
      untold = λ gone c. refl;
    })
rests header catalog i S Restart down stays = absurd (stays refl)

-- so it comes to what the rule says, and the site is down still
pub rest_comes : (catalog : Catalog) (layout : Layout) (i : SiteId) (S : Standing) (event : Event)
    → Rests catalog i S event (rule (header_of layout) catalog i S event)
    → Comes catalog layout i S event (only (rule (header_of layout) catalog i S event).outcome)
rest_comes catalog layout i S event rests =
    Comes.ruled (subst (λ (x : Expected). IfSome x.wrote (FitsIn layout S)) (sym rests.alone) tt) (record {
      outcome = refl;
      wrote = sym (ap (λ (x : Expected). x.wrote) rests.alone);
      flight = refl;
      sends = subst (λ (x : Expected). IsPutOut S.carried x.sends [] 0) (sym rests.alone) (IsPutOut.all_out S.carried);
    })

pub rest_down : (catalog : Catalog) (i : SiteId) (S : Standing) (event : Event) (ruled : Expected)
    → Rests catalog i S event ruled → (outcome : Outcome) → outcome ≡ ruled.outcome
    → up_after event outcome false ≡ false
rest_down catalog i S event ruled rests outcome is =
    subst (λ (o : Outcome). up_after event o false ≡ false) (sym is)
    (sym (idle_up catalog i S event ruled.outcome false rests.idle))

-- ---- at a site that is up

-- where it restarts
pub pass_ready : (header : Format) (catalog : Catalog) (i : SiteId) (site : Option Tables) (S : Standing) → S.up ≡ true
    → IsReadyBy header catalog i site S Restart (Answer Passed)
pass_ready header catalog i site S up =
    answer_ready header catalog i site S Restart Passed (sym (ap (λ (b : Bool). restart_rule b S.knows) up))
    (record { stays = refl; rests = refl; knows = refl; flies = refl }) tt

-- where it is stopped
pub stop_ready : (header : Format) (catalog : Catalog) (i : SiteId) (site : Option Tables) (S : Standing)
    → is_some site ≡ true → S.up ≡ true → IsReadyBy header catalog i site S Stop Fall
stop_ready header catalog i None S there up ready is framed = absurd cc
stop_ready header catalog i (Some tables) S there up ready is framed = record {
  rule = ap expected_by is ∙ sym (ap stop_rule up);
  next = subst (λ (s : Step). IfSome (record_of s) (CanBeNext catalog i S)) (sym is) tt;
  step = subst (λ (s : Step). IsStep catalog i (Some tables) S Stop s) (sym is) refl;
  takes = subst (λ (s : Step). IfSome (record_of s) (λ rec. TakesMemory S.up Stop)) (sym is) tt;
  sized = subst (λ (s : Step). IsSized catalog.sites (came_of s)) (sym is)
      (record { outcome = tt; kept = tt; wrote = tt; flight = tt; sends = none_sent catalog.sites });
  fine = subst (λ (s : Step). is_faulty (outcome_of s) ≡ false) (sym is) refl;
  framed = framed ∙ ap (λ (s : Step). map (λ (e : Send). frame_of catalog.sites e.1) (sends_of s)) (sym is);
}

-- where its client is told that its transaction is gone
gone_rule : (header : Format) (catalog : Catalog) (i : SiteId) (S : Standing) (input : Input) (owing : Option Tid)
    (tid : Tid)
    → IsDebtOf S.gone input owing → gone_first owing input ≡ Some tid
    → given_rule header catalog i S input ≡ refuses (Gone tid)
gone_rule header catalog i S (Call client (Err bad)) owing tid is first = absurd cc
gone_rule header catalog i S (Call client (Ok (LevelAsked asked))) owing tid is first = absurd cc
gone_rule header catalog i S (Call client (Ok request)) owing tid is first =
    ap (λ (o : Option Tid). if_told (Ok request) o (call_rule catalog i S.knows (Ok request) (session_of S.knows client)))
    (is ∙ first)
gone_rule header catalog i S (Deliver from number packet) owing tid is first = absurd cc
gone_rule header catalog i S (Advance from) owing tid is first = absurd cc
gone_rule header catalog i S Tick owing tid is first = absurd cc
gone_rule header catalog i S Upgrade owing tid is first = absurd cc

gone_idle : (catalog : Catalog) (i : SiteId) (S : Standing) (input : Input) (owing : Option Tid) (tid : Tid)
    → gone_first owing input ≡ Some tid → IsIdle catalog i S (Given input) (refuses (Gone tid)).outcome
gone_idle catalog i S (Call client call) owing tid first = record { stays = refl; rests = refl; knows = refl; flies = refl }
gone_idle catalog i S (Deliver from number packet) owing tid first = absurd cc
gone_idle catalog i S (Advance from) owing tid first = absurd cc
gone_idle catalog i S Tick owing tid first = absurd cc
gone_idle catalog i S Upgrade owing tid first = absurd cc

pub gone_ready : (header : Format) (catalog : Catalog) (i : SiteId) (site : Option Tables) (S : Standing)
    (input : Input) (owing : Option Tid) (tid : Tid) → S.up ≡ true → IsDebtOf S.gone input owing
    → gone_first owing input ≡ Some tid
    → IsReadyBy header catalog i site S (Given input) (Answer (refuses (Gone tid)).outcome)
gone_ready header catalog i site S input owing tid up owes first =
    answer_ready header catalog i site S (Given input) (refuses (Gone tid)).outcome
    (sym (ap (λ (b : Bool). rule_where b header catalog i S input) up
    ∙ gone_rule header catalog i S input owing tid owes first))
    (gone_idle catalog i S input owing tid first) tt
