use Rattle.std.proofs.Common.{IfSome, ap, sym, subst}
use Rattle.std.proofs.lemmas.Result.{IfOk-weaker}
use Rattle.walter_rules.specs.Calls.{Expected}
use Rattle.walter_tables.specs.Keeping.{GoesOn}
use Rattle.walter_site.proofs.Up.{is_up}
use Rattle.walter_site.proofs.planning.plan_input.Goals as goal

pub plan_call-requires : goal.plan_call-requires
plan_call-requires c = record { up = is_up c.args.tables.now c.requires.0 c.requires.1 }

pub plan_delivery-requires : goal.plan_delivery-requires
plan_delivery-requires c = record { up = is_up c.args.tables.now c.requires.0 c.requires.1 }

pub returns-in-Tick-clause-on : goal.returns-in-Tick-clause-on
returns-in-Tick-clause-on c =
    let t = c.args.tables.now in
    IfOk-weaker c.plan_tick.result _ _
    (λ p rule. subst (λ rec. IfSome rec (GoesOn t))
    (sym (ap (λ (e : Expected). e.wrote) (rule c.requires.0 c.requires.1.stands))) tt) c.plan_tick.ensures.rule
