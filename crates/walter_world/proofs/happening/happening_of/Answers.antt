use Rattle.std.proofs.Common.{ℕ, List, false, refl, subst}
use Rattle.walter_rules.specs.declared.event.Event.TheVariants as event
use Rattle.walter_rules.specs.declared.event.Input.TheVariants as input
use Rattle.walter_conn.specs.Frames.{CallsFor}
use Rattle.walter_world.specs.declared.events.What.TheVariants as what
use Rattle.walter_world.specs.Events.{a_call, an_advance, a_tick, an_upgrade, a_stop, a_restart}
use Rattle.walter_world.specs.Worlds.{trails_of}
use Rattle.walter_world.proofs.Bringing.{happens}
use Rattle.walter_world.proofs.happening.happening_of.Goals as goal

pub returns-in-Ok : goal.returns-in-Ok
returns-in-Ok c =
    happens (trails_of c.args.seats.now) c.args.site c.args.what (what.Call c.in-Call.client c.in-Call.body)
    (event.Given (input.Call c.in-Call.client c.in-Ok.call)) 0 false c.alone.result c.in-Call.is c.alone.ensures
    (a_call c.in-Call.client c.in-Call.body c.in-Ok.call
    (subst (λ (b : List ℕ). CallsFor b c.in-Ok.call) c.as_slice.ensures c.in-Ok.ensures.call)) refl

pub returns-in-Advance : goal.returns-in-Advance
returns-in-Advance c =
    happens (trails_of c.args.seats.now) c.args.site c.args.what (what.Advance c.in-Advance.from)
    (event.Given (input.Advance c.in-Advance.from)) 0 false c.alone-in-Advance.result c.in-Advance.is c.alone-in-Advance.ensures
    (an_advance c.in-Advance.from) refl

pub returns-in-Tick : goal.returns-in-Tick
returns-in-Tick c =
    happens (trails_of c.args.seats.now) c.args.site c.args.what what.Tick (event.Given input.Tick) 0 false
    c.alone-in-Tick.result c.in-Tick.is c.alone-in-Tick.ensures a_tick refl

pub returns-in-Upgrade : goal.returns-in-Upgrade
returns-in-Upgrade c =
    happens (trails_of c.args.seats.now) c.args.site c.args.what what.Upgrade (event.Given input.Upgrade) 0 false
    c.alone-in-Upgrade.result c.in-Upgrade.is c.alone-in-Upgrade.ensures an_upgrade refl

pub returns-in-Stop : goal.returns-in-Stop
returns-in-Stop c =
    happens (trails_of c.args.seats.now) c.args.site c.args.what what.Stop event.Stop 0 false c.alone-in-Stop.result
    c.in-Stop.is c.alone-in-Stop.ensures a_stop refl

pub returns-in-Restart : goal.returns-in-Restart
returns-in-Restart c =
    happens (trails_of c.args.seats.now) c.args.site c.args.what (what.Restart c.in-Restart.kept) event.Restart 0
    c.in-Restart.kept (record { event = event.Restart; put = 0; keeps = c.in-Restart.kept }) c.in-Restart.is refl
    (a_restart c.in-Restart.kept) refl
