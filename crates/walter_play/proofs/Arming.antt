-- How arms go on, disk by disk.
use Rattle.std.proofs.Common.{◌≡◌, ◌≢◌, ℕ, nat_eq, List, [], ◌∷◌, ◌++◌, map, Option, Some, None, option_map, refl, ap, sym, ◌∙◌, subst, inl, inr, if◌then◌else◌}
use Rattle.std.proofs.lemmas.Bool.{cases_eq, eq-eqb, ne_eqb}
use Rattle.std.proofs.lemmas.List.{append-nil, append_assoc, map-append}
use Rattle.std.proofs.lemmas.List.Concat.{flat_map-append, flat_map-cons}
use Rattle.std.proofs.lemmas.List.Elements.{filter_map-append}
use Rattle.std.specs.List.{cons_option}
use Rattle.walter_base.specs.declared.names.SiteId.{SiteId}
use Rattle.walter_cell.specs.declared.answers.Moved.{Moved}
use Rattle.walter_cluster.specs.Moments.{Moment, KeepsArms, MovesAt, ArmsAt, at_once, arrives}
use Rattle.walter_disk.specs.Disks.{Arming, and_arming, asked}
use Rattle.walter_scenario.specs.declared.scenario.Arm.{Arm}
use Rattle.walter_scenario.specs.declared.scenario.Scenario.{Scenario}
use Rattle.walter_scenario.specs.declared.scenario.Step.{Step}
use Rattle.walter_scenario.specs.declared.scenario.Step.TheVariants as step
use Rattle.walter_base.specs.declared.catalog.Catalog.{Catalog}
use Rattle.walter_cell.specs.declared.answers.Pumped.{Pumped}
use Rattle.walter_cluster.specs.Pumps.{PumpsAt, at_once as pumped_at_once, raises, works}
use Rattle.walter_link.specs.Pumps.{PumpValue}
use Rattle.walter_play.specs.Scripts.{arms_for, arms_by, arms_of, all_steps, laid_after, site_pumped, AreArmed, AreArmedFirst, ArmsMore, Scene, Takes, TakesAs, TakesPlain, Plays}

told_more : (before : Option (List Arming)) (a b : List Arming)
    → option_map (λ told. told ++ b) (option_map (λ told. told ++ a) before) ≡ option_map (λ told. told ++ (a ++ b)) before
told_more None a b = refl
told_more (Some told) a b = ap (λ t. Some t) (append_assoc told a b)

told_same : (before : Option (List Arming)) → option_map (λ (told : List Arming). told ++ []) before ≡ before
told_same None = refl
told_same (Some told) = ap (λ t. Some t) (append-nil told)

abbrev armed_by : ℕ → Arm → Option (ℕ × ℕ)
armed_by i arm = if nat_eq arm.site.0 i then Some (arm.nth, arm.choice) else None

pub for_more : (i : ℕ) (xs ys : List Arm) → arms_for i (xs ++ ys) ≡ arms_for i xs ++ arms_for i ys
for_more i xs ys = filter_map-append (armed_by i) xs ys

-- an arm is its site's, and no other's
for_here : (arm : Arm) (i : ℕ) → arm.site.0 ≡ i → arms_for i (arm ∷ []) ≡ (arm.nth, arm.choice) ∷ []
for_here arm i here =
    ap (λ b. cons_option (if b then Some (arm.nth, arm.choice) else None) []) (eq-eqb arm.site.0 i here)

for_other : (arm : Arm) (i : ℕ) → i ≢ arm.site.0 → arms_for i (arm ∷ []) ≡ []
for_other arm i apart =
    ap (λ b. cons_option (if b then Some (arm.nth, arm.choice) else None) []) (ne_eqb arm.site.0 i (λ e. apart (sym e)))

-- ---- one step after another

pub armed_on : (old mid new : Moment) (xs ys : List Arm) → AreArmed old mid xs → AreArmed mid new ys → AreArmed old new (xs ++ ys)
armed_on old mid new xs ys first second = λ i.
    let a = first i in
    let b = second i in (
      a.0 ++ b.0,
      map-append asked a.0 b.0 ∙ (ap (λ m. m ++ map asked b.0) a.1 ∙ (ap (λ m. arms_for i xs ++ m) b.1 ∙ sym (for_more i xs ys))),
      b.2 ∙ (ap (λ o. option_map (λ (told : List Arming). told ++ b.0) o) a.2 ∙ told_more (old.arms i) a.0 b.0),
    )

pub armed_none : (old new : Moment) → KeepsArms old new → AreArmed old new []
armed_none old new same = λ i. ([], refl, same i ∙ sym (told_same (old.arms i)))

pub armed_one : (old new : Moment) (arm : Arm) → ArmsAt arm.site arm.nth arm.choice old new → AreArmed old new (arm ∷ [])
armed_one old new arm arms = λ i. elim (cases_eq i arm.site.0) [
  | inl same ↦
      let laid : Arming = record { at = old.calls arm.site.0; nth = arm.nth; choice = arm.choice } in (
        laid ∷ [],
        sym (for_here arm i (sym same)),
        ap new.arms same ∙ (arms.here ∙ ap (λ n. and_arming laid (old.arms n)) (sym same)),
      )
  | inr apart ↦ ([], sym (for_other arm i apart), arms.others i apart ∙ sym (told_same (old.arms i)))
]

-- ---- before any call of the disks

asked_after : (calls : ℕ) (arms : List (ℕ × ℕ)) → map asked (map (laid_after calls) arms) ≡ arms
asked_after calls [] = refl
asked_after calls (arm ∷ arms) = ap (λ l. arm ∷ l) (asked_after calls arms)

pub armed_so : (old new : Moment) (arms : List Arm) → AreArmedFirst old new arms → AreArmed old new arms
armed_so old new arms first = λ i.
    (map (laid_after (old.calls i)) (arms_for i arms), asked_after (old.calls i) (arms_for i arms), first i)

pub first_none : (old : Moment) → AreArmedFirst old old []
first_none old = λ i. sym (told_same (old.arms i))

module _ (old mid new : Moment) (arm : Arm) (same : (i : ℕ) → mid.calls i ≡ old.calls i) (arms : ArmsAt arm.site arm.nth arm.choice mid new) where
  one_first : (i : ℕ) → new.arms i ≡ option_map (λ told. told ++ map (laid_after (old.calls i)) (arms_for i (arm ∷ []))) (mid.arms i)
  one_first i = elim (cases_eq i arm.site.0) [
    | inl here ↦
        ap new.arms here
        ∙ (arms.here
        ∙ (ap (λ n. and_arming (laid_after (mid.calls n) (arm.nth, arm.choice)) (mid.arms n)) (sym here)
        ∙ (ap (λ k. and_arming (laid_after k (arm.nth, arm.choice)) (mid.arms i)) (same i)
        ∙ ap (λ l. option_map (λ (told : List Arming). told ++ map (laid_after (old.calls i)) l) (mid.arms i)) (sym (for_here arm i (sym here))))))
    | inr apart ↦
        arms.others i apart
        ∙ (sym (told_same (mid.arms i))
        ∙ ap (λ l. option_map (λ (told : List Arming). told ++ map (laid_after (old.calls i)) l) (mid.arms i)) (sym (for_other arm i apart)))
  ]

  pub first_more : (xs : List Arm) → AreArmedFirst old mid xs → AreArmedFirst old new (xs ++ arm ∷ [])
  first_more xs before = λ i.
      let lay : List (ℕ × ℕ) → List Arming = map (laid_after (old.calls i)) in
      let all : lay (arms_for i (xs ++ arm ∷ [])) ≡ lay (arms_for i xs) ++ lay (arms_for i (arm ∷ [])) =
      ap lay (for_more i xs (arm ∷ [])) ∙ map-append (laid_after (old.calls i)) (arms_for i xs) (arms_for i (arm ∷ [])) in
      one_first i
      ∙ (ap (λ o. option_map (λ (told : List Arming). told ++ lay (arms_for i (arm ∷ []))) o) (before i)
      ∙ (told_more (old.arms i) (lay (arms_for i xs)) (lay (arms_for i (arm ∷ [])))
      ∙ ap (λ m. option_map (λ (told : List Arming). told ++ m) (old.arms i)) (sym all)))

-- ---- what steps arm

moved_none : (to from : SiteId) (number : ℕ) (old new : Moment) (answer : Moved) → MovesAt to from number old new answer → KeepsArms old new
moved_none to from number old new answer (at_once spent same) = λ i. ap (λ (m : Moment). m.arms i) same
moved_none to from number old new answer (arrives _ place all changes hands) = changes.arms

pumped_none : (told : Type 0) (catalog : Catalog) (i : SiteId) (old new : Moment) (before after : PumpValue) (answer : Pumped)
    → PumpsAt told catalog i old new before after answer → KeepsArms old new
pumped_none told catalog i old new before after answer (pumped_at_once spent same kept says) = λ j. ap (λ (m : Moment). m.arms j) same
pumped_none told catalog i old new before after answer (raises acted place down acts kept says) = acts.others.arms
pumped_none told catalog i old new before after answer (works place up all changes does) = changes.arms

-- what is armed by a step, and by steps in order
plain_arms : (told : ℕ → Type 0) (t : Scenario) (one : Step) (old new : Moment) → TakesPlain told t one old new → AreArmed old new (arms_by one)
plain_arms told t (step.Call number) old new takes = armed_none old new takes.turns.others.arms
plain_arms told t (step.Deliver to from number) old new takes = armed_none old new (moved_none to from number old new takes.answer takes.moves)
plain_arms told t (step.Advance at from) old new takes = armed_none old new takes.acts.others.arms
plain_arms told t (step.Tick site) old new takes = armed_none old new takes.acts.others.arms
plain_arms told t (step.Upgrade site) old new takes = armed_none old new takes.acts.others.arms
plain_arms told t (step.Stop site) old new takes = armed_none old new takes.acts.others.arms
plain_arms told t (step.Restart site) old new takes = armed_none old new takes.acts.others.arms
plain_arms told t (step.Pump site) old new takes = absurd takes
plain_arms told t (step.Arm arm) old new takes = armed_one old new arm takes

-- a pump arms nothing
pumped_arms : (one : Step) (site : SiteId) → site_pumped one ≡ Some site → arms_by one ≡ []
pumped_arms (step.Call number) site is = absurd cc
pumped_arms (step.Deliver to from number) site is = absurd cc
pumped_arms (step.Advance at from) site is = absurd cc
pumped_arms (step.Tick at) site is = absurd cc
pumped_arms (step.Upgrade at) site is = absurd cc
pumped_arms (step.Stop at) site is = absurd cc
pumped_arms (step.Restart at) site is = absurd cc
pumped_arms (step.Pump at) site is = refl
pumped_arms (step.Arm arm) site is = absurd cc

as_arms : (told : ℕ → Type 0) (t : Scenario) (one : Step) (o : Option SiteId) (old new : Scene) → site_pumped one ≡ o
    → TakesAs told t one o old new → AreArmed old.moment new.moment (arms_by one)
as_arms told t one None old new is takes = plain_arms told t one old.moment new.moment takes.0
as_arms told t one (Some site) old new is takes =
    subst (λ (arms : List Arm). AreArmed old.moment new.moment arms) (sym (pumped_arms one site is))
    (armed_none old.moment new.moment (pumped_none _ t.catalog site old.moment new.moment takes.before takes.after takes.answer takes.pumps))

step_arms : (told : ℕ → Type 0) (t : Scenario) (one : Step) (old new : Scene) → Takes told t one old new
    → AreArmed old.moment new.moment (arms_by one)
step_arms told t one old new takes = as_arms told t one (site_pumped one) old new refl takes

steps_arm : (told : ℕ → Type 0) (t : Scenario) (steps : List Step) (old new : Scene) → Plays told t steps old new
    → AreArmed old.moment new.moment (arms_of steps)
steps_arm told t [] old new same = armed_none old.moment new.moment (λ i. ap (λ (s : Scene). s.moment.arms i) same)
steps_arm told t (one ∷ steps) old new plays =
    subst (λ (arms : List Arm). AreArmed old.moment new.moment arms) (sym (flat_map-cons arms_by one steps))
    (armed_on old.moment plays.0.moment new.moment (arms_by one) (arms_of steps) (step_arms told t one old plays.0 plays.1)
    (steps_arm told t steps plays.0 new plays.2))

-- ---- a scenario's

arms_alone : (arms : List Arm) → arms_of (map (λ (arm : Arm). step.Arm arm) arms) ≡ arms
arms_alone [] = refl
arms_alone (arm ∷ arms) =
    flat_map-cons arms_by (step.Arm arm) (map (λ (arm : Arm). step.Arm arm) arms) ∙ ap (λ xs. arm ∷ xs) (arms_alone arms)

arms_of_all : (t : Scenario) → arms_of (all_steps t) ≡ t.arms ++ arms_of t.steps
arms_of_all t =
    flat_map-append arms_by (map (λ (arm : Arm). step.Arm arm) t.arms) t.steps ∙ ap (λ xs. xs ++ arms_of t.steps) (arms_alone t.arms)

-- where all steps are taken, all is armed
pub all_armed : (told : ℕ → Type 0) (t : Scenario) (old new : Scene) → Plays told t (all_steps t) old new
    → AreArmed old.moment new.moment (t.arms ++ arms_of t.steps)
all_armed told t old new plays =
    subst (λ (arms : List Arm). AreArmed old.moment new.moment arms) (arms_of_all t) (steps_arm told t (all_steps t) old new plays)

-- where only the first ones are, what they arm
pub some_armed : (told : ℕ → Type 0) (t : Scenario) (some rest : List Step) (old mid : Scene) (new : Moment) → all_steps t ≡ some ++ rest
    → Plays told t some old mid → KeepsArms mid.moment new → ArmsMore old.moment new (t.arms ++ arms_of t.steps)
some_armed told t some rest old mid new all plays same = (
  arms_of some,
  arms_of rest,
  sym (arms_of_all t) ∙ (ap arms_of all ∙ flat_map-append arms_by some rest),
  λ i. let armed = steps_arm told t some old mid plays i in (armed.0, armed.1, same i ∙ armed.2),
)

-- where no step was taken, none of what is to be armed is
pub none_armed : (now : Moment) (arms : List Arm) → ArmsMore now now arms
none_armed now arms = ([], arms, refl, armed_none now now (λ i. refl))

-- what keeps the arms of the disks goes on behind
pub more_kept : (old mid new : Moment) (arms : List Arm) → ArmsMore old mid arms → KeepsArms mid new → ArmsMore old new arms
more_kept old mid new arms more same = (
  more.0,
  more.1,
  more.2,
  λ i. let armed = more.3 i in (armed.0, armed.1, same i ∙ armed.2),
)
