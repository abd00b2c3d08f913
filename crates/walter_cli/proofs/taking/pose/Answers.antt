use Rattle.std.proofs.Common.{◌<◌, ◌^◌, length, refl, sym, subst, arith, inl}
use Rattle.walter_linked.specs.Catalogs.{IsWhole}
use Rattle.walter_scenario.specs.Parts.{IsAreas, IsCapacity, IsThreads}
use Rattle.walter_scenario.specs.declared.scenario.Scenario.{Scenario}
use Rattle.walter_cli.specs.Ending.{IsPlayable}
use Rattle.walter_cli.proofs.Wholes.{made_few, made_whole, playable_but_for_steps}
use Rattle.walter_cli.proofs.taking.pose.Goals as goal

pub make-requires : goal.make-requires
make-requires g c = rw c.in-Load.is at c.requires

pub returns-in-Play-clause-playable : goal.returns-in-Play-clause-playable
returns-in-Play-clause-playable g c = c.take_scenario.ensures.playable

-- threads drive what was read but for its steps
pub returns-in_ok-take_scenario-in-Run-clause-ok : goal.returns-in_ok-take_scenario-in-Run-clause-ok
returns-in_ok-take_scenario-in-Run-clause-ok g c = rw c.in-Run.is (c.in_ok-take_scenario-in-Run.field-0, c.in_ok-take_scenario-in-Run.ensures.ok, c.without_steps.ensures)

pub returns-in_ok-take_scenario-in-Run-clause-playable : goal.returns-in_ok-take_scenario-in-Run-clause-playable
returns-in_ok-take_scenario-in-Run-clause-playable g c =
    subst IsPlayable (sym c.without_steps.ensures) (playable_but_for_steps _ c.in_ok-take_scenario-in-Run.ensures.playable)

pub returns-in-Ok-clause-playable : goal.returns-in-Ok-clause-playable
returns-in-Ok-clause-playable g c =
    let made = c.in-Ok.ensures in record {
      some = made.some;
      few = made.fits;
      fewer = made.fewer;
      whole = subst (λ (t : Scenario). IsWhole t.catalog) (sym made.made) made_whole;
      within = made.within;
      clients = subst (λ (t : Scenario). length t.clients < 2 ^ 32) (sym made.made) (made_few c.in-Load.seed c.in-Load.calls);
      threads = subst (λ (t : Scenario). IsThreads t.threads) (sym made.made) (omega arith, omega arith);
      capacity = subst (λ (t : Scenario). IsCapacity t.capacity) (sym made.made) (omega arith, omega arith);
      areas = subst (λ (t : Scenario). IsAreas t.areas t.capacity) (sym made.made) (inl refl);
      arms = made.arms;
      steps = made.steps;
    }
