-- How the sites were driven, whatever the command: what it arms, and where fewer sites are told.
use Rattle.std.proofs.Common.{◌≡◌, ℕ, List, [], ◌++◌, Bool, map, Option, Some, None, option_map, Result, Ok, Err, OnOk, refl, ap, sym, ◌∙◌, subst}
use Rattle.std.specs.Prelude.{IfSome}
use Rattle.std.proofs.lemmas.List.{append-nil}
use Rattle.walter_cluster.specs.Moments.{IsFirst, Moment}
use Rattle.walter_cluster.specs.Pumps.{new_pumps}
use Rattle.walter_disk.specs.Disks.{Arming}
use Rattle.walter_play.proofs.Arming.{all_armed, armed_so}
use Rattle.walter_play.proofs.Steps.{plays_told}
use Rattle.walter_play.specs.Scripts.{AreArmed, AreArmedFirst, EndsPlay, IsPlayed, all_arms, all_steps, arms_of, laid_after}
use Rattle.walter_rules.specs.declared.entry.Entry.{Entry}
use Rattle.walter_scenario.specs.declared.scenario.Arm.{Arm}
use Rattle.walter_scenario.specs.declared.scenario.Scenario.{Scenario}
use Rattle.walter_scenario.specs.declared.scenario.Step.{Step}
use Rattle.walter_work.proofs.Driven.{driven_fewer}
use Rattle.walter_work.specs.Driven.{IsDriven}
use Rattle.walter_words.specs.declared.asked.Command.{Command}
use Rattle.walter_words.specs.declared.asked.Command.TheVariants.{Play, Run, Load, Audit, Say}
use Rattle.walter_cli.specs.Ending.{Drives, HasStepsFor}
use Rattle.walter_cli.specs.Headline.{ArmsOfSites, IsDrivenBy}
use Rattle.walter_cli.specs.Words.{CanBeRun}

-- ---- no steps

-- what threads drive has no steps
pub no_steps : (command : Command) (trace : Bool) (disks : Option (List ℕ)) (t : Scenario) → command ≡ Run trace disks → HasStepsFor command t → t.steps ≡ []
no_steps command trace disks t is has = subst (λ (k : Command). HasStepsFor k t) is has

-- so no more is armed than before the first
pub arms_alone : (arms : List Arm) (steps : List Step) → steps ≡ [] → arms ≡ arms ++ arms_of steps
arms_alone arms steps none = sym (ap (λ (xs : List Step). arms ++ arms_of xs) none ∙ append-nil arms)

-- ---- arms

-- arms from none on
pub arms_from : {X : Type 0} (before after : Option (List X)) (arms : List X) → IfSome before (λ told. told ≡ [])
    → after ≡ option_map (λ told. told ++ arms) before → IfSome after (λ told. told ≡ arms)
arms_from None after arms none is = subst (λ o. IfSome o (λ told. told ≡ arms)) (sym is) tt
arms_from (Some told) after arms none is = subst (λ o. IfSome o (λ t. t ≡ arms)) (sym is) (ap (λ t. t ++ arms) none)

-- what was driven is armed by all that the scenario arms
pub armed_by : (command : Command) (told : ℕ → Type 0) (t : Scenario) (old new : Moment) → Drives command told t old new
    → AreArmed old new (t.arms ++ arms_of t.steps)
armed_by (Play trace disks) told t old new plays = all_armed told t _ _ plays.1
armed_by (Run trace disks) told t old new drives = armed_so old new (t.arms ++ arms_of t.steps) drives.1
armed_by (Load seed calls) told t old new plays = all_armed told t _ _ plays.1
armed_by (Audit disks) told t old new drives = absurd drives
armed_by (Say text) told t old new drives = absurd drives

-- ---- what is driven

-- what threads did, where connections don't fail, is what `run` asks for
pub threads_drive : (command : Command) (trace : Bool) (disks : Option (List ℕ)) (told : ℕ → Type 0) (fails : Type 0) (t : Scenario)
    (old new : Moment) → command ≡ Run trace disks → HasStepsFor command t → (fails → ⊥)
    → IsDriven told fails t new.trails → AreArmedFirst old new t.arms → Drives command told t old new
threads_drive command trace disks told fails t old new is has never driven armed =
    subst (λ (k : Command). Drives k told t old new) (sym is) (
      driven_fewer told told fails ⊥ (λ i at. at) never t new.trails driven,
      subst (λ (arms : List Arm). AreArmedFirst old new arms) (arms_alone t.arms t.steps (no_steps command trace disks t is has)) armed,
    )

-- the steps that were taken are what every other run asks for
pub steps_drive : (command : Command) (told : ℕ → Type 0) (t : Scenario) (old new : Moment) → CanBeRun command
    → ((trace : Bool) (disks : Option (List ℕ)) → command ≡ Run trace disks → ⊥) → EndsPlay told t old new → Drives command told t old new
steps_drive (Play trace disks) told t old new runs no_run plays = plays
steps_drive (Run trace disks) told t old new runs no_run plays = absurd (no_run trace disks refl)
steps_drive (Load seed calls) told t old new runs no_run plays = plays
steps_drive (Audit disks) told t old new runs no_run plays = absurd runs
steps_drive (Say text) told t old new runs no_run plays = absurd runs

-- steps that were taken from the first moment on make the trails and the arms of the last
played_from : (told : ℕ → Type 0) (t : Scenario) (first last : Moment) (trails : List (List Entry)) (arms : ArmsOfSites)
    → IsFirst t.catalog.sites first → last.trails ≡ trails → ((i : ℕ) → last.arms i ≡ arms i)
    → EndsPlay told t first last → IsPlayed told t first.calls trails arms
played_from told t first last trails arms begins ends arms_are plays = record {
  first = record { moment = first; pumps = new_pumps t };
  last = record { moment = last; pumps = plays.0 };
  begins = record { moment = begins; pumps = refl };
  calls_are = λ i. refl;
  plays = plays.1;
  ends = ends;
  arms_are = arms_are;
}

-- so it is of what was driven, whatever the command
pub driven_from : (command : Command) (told : ℕ → Type 0) (t : Scenario) (first last : Moment) (trails : List (List Entry))
    (arms : ArmsOfSites) → IsFirst t.catalog.sites first → last.trails ≡ trails → ((i : ℕ) → last.arms i ≡ arms i)
    → Drives command told t first last → IsDrivenBy command told t first.calls trails arms
driven_from (Play trace disks) told t first last trails arms begins ends arms_are plays =
    played_from told t first last trails arms begins ends arms_are plays
driven_from (Run trace disks) told t first last trails arms begins ends arms_are drives = (
  subst (λ (ts : List (List Entry)). IsDriven told ⊥ t ts) ends drives.0,
  λ i. arms_from (first.arms i) (arms i) (map (laid_after (first.calls i)) (all_arms t i)) (begins.none_armed i)
      (sym (arms_are i) ∙ drives.1 i),
)
driven_from (Load seed calls) told t first last trails arms begins ends arms_are plays =
    played_from told t first last trails arms begins ends arms_are plays
driven_from (Audit disks) told t first last trails arms begins ends arms_are drives = absurd drives
driven_from (Say text) told t first last trails arms begins ends arms_are drives = absurd drives

-- ---- where fewer sites are told

-- steps are taken so of fewer too
played_fewer : (told fewer : ℕ → Type 0) (t : Scenario) (calls : ℕ → ℕ) (trails : List (List Entry)) (arms : ArmsOfSites)
    → ((i : ℕ) → fewer i → told i) → IsPlayed told t calls trails arms → IsPlayed fewer t calls trails arms
played_fewer told fewer t calls trails arms so played = record {
  first = played.first;
  last = played.last;
  begins = played.begins;
  calls_are = played.calls_are;
  plays = plays_told told fewer t (all_steps t) played.first played.last so played.plays;
  ends = played.ends;
  arms_are = played.arms_are;
}

-- and so is all that was driven
pub driven_by_fewer : (command : Command) (told fewer : ℕ → Type 0) (t : Scenario) (calls : ℕ → ℕ) (trails : List (List Entry))
    (arms : ArmsOfSites) → ((i : ℕ) → fewer i → told i) → IsDrivenBy command told t calls trails arms
    → IsDrivenBy command fewer t calls trails arms
driven_by_fewer (Play trace disks) told fewer t calls trails arms so played = played_fewer told fewer t calls trails arms so played
driven_by_fewer (Run trace disks) told fewer t calls trails arms so driven =
    (driven_fewer told fewer ⊥ ⊥ so (λ never. never) t trails driven.0, driven.1)
driven_by_fewer (Load seed made) told fewer t calls trails arms so played = played_fewer told fewer t calls trails arms so played
driven_by_fewer (Audit disks) told fewer t calls trails arms so driven = absurd driven
driven_by_fewer (Say text) told fewer t calls trails arms so driven = absurd driven

-- ---- answers

-- what comes of two things where all went well
pub both_ok : {X E : Type 0} (r : Result X E) (P Q R : Type 0) → (P → Q → R) → OnOk r P → OnOk r Q → OnOk r R
both_ok (Ok x) P Q R by p q = by p q
both_ok (Err e) P Q R by p q = tt
