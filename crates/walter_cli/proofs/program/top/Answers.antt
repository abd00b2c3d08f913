use Rattle.std.proofs.Common.{rules, map, refl, ap, sym, ◌∙◌, ◌≡◌, ℕ, List, Option, subst, arith, inl, inr}
use Rattle.std.specs.Prelude.{string_bytes}
use Rattle.walter_words.specs.declared.asked.Command.{Command}
use Rattle.walter_words.specs.declared.asked.Command.TheVariants.{Audit, Load}
use Rattle.walter_cli.specs.declared.ended.Fault.TheVariants.{Memory}
use Rattle.walter_cli.specs.Audits.{IsKept}
use Rattle.walter_words.specs.Words.{AsksFor, IsText}
use Rattle.walter_cli.specs.Racks.{RackAt, rack_at, racked}
use Rattle.walter_cli.specs.Statuses.{status_of}
use Rattle.walter_cli.specs.Words.{Asks, AskForNone, IfMade}
use Rattle.walter_cli.proofs.Early.{each_none, untaken_before}
use Rattle.walter_cli.proofs.Judging.{promise_audit, promise_unread}
use Rattle.walter_cli.proofs.Giving.{none_balances, one_count}
use Rattle.walter_cli.proofs.Runs.{promise_run, promise_fault, promise_memory, promise_text, promise_usage}
use Rattle.walter_cli.proofs.Wholes.{can_be_run, made_unread, posed_steps}
use Rattle.walter_cli.proofs.program.top.Goals as goal

-- what is wrong with the words
pub returns-in-Err-Usage-clause-promise : goal.returns-in-Err-Usage-clause-promise
returns-in-Err-Usage-clause-promise g c = λ no_audit.
    let at : RackAt g.row.R-D.Denot = rack_at g.R.Rack c.args.rack.now in
    let ended = c.early.ensures in
    let is = c.in-Err-Usage.field-0-is in
    let nothing : AskForNone c.args.words.now = λ command asks. let e = c.in-Err-Usage.ensures.given command asks in absurd cc in
    promise_usage c.args.words.now (racked g.R.D.Disk at at) _ _ c.early.result (ended.status ∙ ap status_of (sym ended.fault))
    (none_balances g.R.D.Disk at at refl refl refl (omega arith)) (λ many rose. omega (arith, rose)) (one_count g.R.D.Disk at at)
    ended.trails (untaken_before g.R.D.Disk at at refl refl) (refl, refl) nothing c.in-Err-Usage.text ended.fault
    (rw is at c.in-Err-Usage.ensures.follows) (λ asks. let e = c.in-Err-Usage.ensures.said asks in absurd cc) refl

pub returns-in-Err-Usage-clause-audit : goal.returns-in-Err-Usage-clause-audit
returns-in-Err-Usage-clause-audit g c = λ asks. (let e = c.in-Err-Usage.ensures.given (Audit asks.0) asks.1 in absurd cc)

-- want of memory
pub returns-in-Err-Memory-clause-promise : goal.returns-in-Err-Memory-clause-promise
returns-in-Err-Memory-clause-promise g c = λ no_audit.
    let at : RackAt g.row.R-D.Denot = rack_at g.R.Rack c.args.rack.now in
    let ended = c.early-in-Err-Memory.ensures in
    promise_memory c.args.words.now (racked g.R.D.Disk at at) _ _ c.early-in-Err-Memory.result (ended.status ∙ ap status_of (sym ended.fault))
    (none_balances g.R.D.Disk at at refl refl refl (omega arith)) (λ many rose. omega (arith, rose)) (one_count g.R.D.Disk at at)
    ended.trails (untaken_before g.R.D.Disk at at refl refl) (refl, refl) ended.fault refl

pub returns-in-Err-Memory-clause-audit : goal.returns-in-Err-Memory-clause-audit
returns-in-Err-Memory-clause-audit g c = λ asks.
    let at : RackAt g.row.R-D.Denot = rack_at g.R.Rack c.args.rack.now in
    let ended = c.early-in-Err-Memory.ensures in
    promise_unread (racked g.R.D.Disk at at) _ _ c.early-in-Err-Memory.result ended.trails
    (each_none g.R.D.Disk at at (IsKept (racked g.R.D.Disk at at)) refl)
    (none_balances g.R.D.Disk at at refl refl refl (omega arith)) (λ many rose. omega (arith, rose)) (one_count g.R.D.Disk at at)
    Memory ended.fault ended.status refl tt

-- a help, or the version
pub returns-in-Ok-Say-clause-audit : goal.returns-in-Ok-Say-clause-audit
returns-in-Ok-Say-clause-audit g c = λ asks.
    (let e = sym c.in-Ok-Say.field-0-is ∙ c.in-Ok-Say.ensures.given (Audit asks.0) asks.1 in absurd cc)

pub returns-in-Ok-Say-clause-promise : goal.returns-in-Ok-Say-clause-promise
returns-in-Ok-Say-clause-promise g c = λ no_audit.
    let at : RackAt g.row.R-D.Denot = rack_at g.R.Rack c.args.rack.now in
    let is = c.in-Ok-Say.field-0-is in
    let nothing : AskForNone c.args.words.now =
    λ command asks. let none = subst (λ (k : Command). AsksFor k (map string_bytes c.args.words.now)) (sym (c.in-Ok-Say.ensures.given command asks)) asks in rw is at none in
    promise_text c.args.words.now (racked g.R.D.Disk at at) _ _ c.say.result c.say.ensures.status
    (none_balances g.R.D.Disk at at refl refl refl (omega arith)) (λ many rose. omega (arith, rose)) (one_count g.R.D.Disk at at)
    c.say.ensures.trails (untaken_before g.R.D.Disk at at refl refl) (refl, refl) nothing (string_bytes c.in-Ok-Say.text) c.say.result.fault refl
    (rw is at c.in-Ok-Say.ensures.follows) c.say.ensures.ends

-- an audit of the journals of a scenario that was read
pub returns-in-Ok-take_scenario-clause-promise : goal.returns-in-Ok-take_scenario-clause-promise
returns-in-Ok-take_scenario-clause-promise g c = λ no_audit.
    let asked = rw c.in-Ok-Audit.field-0-is at c.in-Ok-Audit.ensures.asked in
    elim asked [ inl asks ↦ absurd (no_audit (c.in-Ok-Audit.field-0-0, asks)) | inr text ↦ absurd text ]

pub returns-in-Ok-take_scenario-clause-audit : goal.returns-in-Ok-take_scenario-clause-audit
returns-in-Ok-take_scenario-clause-audit g c = λ asks.
    let before : RackAt g.row.R-D.Denot = rack_at g.R.Rack c.args.rack.now in
    let after : RackAt g.row.R-D.Denot = rack_at g.R.Rack c.audit.new.rack in
    let done = c.audit.ensures in
    promise_audit (racked g.R.D.Disk before after) _ _ c.audit.result done.trails done.kept done.given_back done.unfailing
    (one_count g.R.D.Disk before after) c.in-Ok-take_scenario.scenario c.audit.result.fault refl c.in-Ok-take_scenario.ensures.ok done.ends

pub returns-in-Ok-Audit-clause-promise : goal.returns-in-Ok-Audit-clause-promise
returns-in-Ok-Audit-clause-promise g c = λ no_audit.
    let asked = rw c.in-Ok-Audit.field-0-is at c.in-Ok-Audit.ensures.asked in
    elim asked [ inl asks ↦ absurd (no_audit (c.in-Ok-Audit.field-0-0, asks)) | inr text ↦ absurd text ]

pub returns-in-Ok-Audit-clause-audit : goal.returns-in-Ok-Audit-clause-audit
returns-in-Ok-Audit-clause-audit g c = λ asks.
    let at : RackAt g.row.R-D.Denot = rack_at g.R.Rack c.args.rack.now in
    let ended = c.early-in-Err.ensures in
    promise_unread (racked g.R.D.Disk at at) _ _ c.early-in-Err.result ended.trails
    (each_none g.R.D.Disk at at (IsKept (racked g.R.D.Disk at at)) refl)
    (none_balances g.R.D.Disk at at refl refl refl (omega arith)) (λ many rose. omega (arith, rose)) (one_count g.R.D.Disk at at)
    c.in-Err.fault ended.fault ended.status refl c.in-Err.ensures.fault

-- what isn't one is run
pub pose-requires : goal.pose-requires
pose-requires g c =
    let running : ¬ IsText c.in-Ok.command = search rules in
    let other : (disks : Option (List ℕ)) → c.in-Ok.command ≡ Audit disks → ⊥ = search rules in
    let line : Asks c.in-Ok.command c.args.words.now = elim c.in-Ok.ensures.asked [ inl asks ↦ asks | inr text ↦ absurd (running text) ] in
    can_be_run c.in-Ok.command c.args.words.now line other

-- threads are given no steps
pub run-requires-clause-driven : goal.run-requires-clause-driven
run-requires-clause-driven g c = λ lifetimes outlive. posed_steps c.in-Ok.command _ _ c.in-Ok-pose.scenario c.in-Ok-pose.ensures.ok

-- a run
pub returns-in-Ok-pose-clause-audit : goal.returns-in-Ok-pose-clause-audit
returns-in-Ok-pose-clause-audit g c = λ asks.
    let other : (disks : Option (List ℕ)) → c.in-Ok.command ≡ Audit disks → ⊥ = search rules in
    absurd (other asks.0 (c.in-Ok.ensures.given (Audit asks.0) asks.1))

pub returns-in-Ok-pose-clause-promise : goal.returns-in-Ok-pose-clause-promise
returns-in-Ok-pose-clause-promise g c = λ no_audit.
    let before : RackAt g.row.R-D.Denot = rack_at g.R.Rack c.args.rack.now in
    let after : RackAt g.row.R-D.Denot = rack_at g.R.Rack c.run.new.rack in
    let running : ¬ IsText c.in-Ok.command = search rules in
    let line : Asks c.in-Ok.command c.args.words.now = elim c.in-Ok.ensures.asked [ inl asks ↦ asks | inr text ↦ absurd (running text) ] in
    promise_run c.args.words.now (racked g.R.D.Disk before after) _ _ c.run.result c.run.ensures.status c.run.ensures.given_back
    c.run.ensures.unfailing (one_count g.R.D.Disk before after) c.in-Ok.command line (λ other asks. sym (c.in-Ok.ensures.given other asks))
    (made_unread c.in-Ok.command g.S.Source c.args.source.now c.pose.new.source c.pose.ensures.unasked)
    c.in-Ok-pose.scenario c.run.result.fault refl c.in-Ok-pose.ensures.ok c.run.ensures.run

-- no scenario was posed
pub returns-clause-audit : goal.returns-clause-audit
returns-clause-audit g c = λ asks.
    let other : (disks : Option (List ℕ)) → c.in-Ok.command ≡ Audit disks → ⊥ = search rules in
    absurd (other asks.0 (c.in-Ok.ensures.given (Audit asks.0) asks.1))

pub returns-clause-promise : goal.returns-clause-promise
returns-clause-promise g c = λ no_audit.
    let at : RackAt g.row.R-D.Denot = rack_at g.R.Rack c.args.rack.now in
    let ended = c.early-in-Err-pose.ensures in
    let running : ¬ IsText c.in-Ok.command = search rules in
    let line : Asks c.in-Ok.command c.args.words.now = elim c.in-Ok.ensures.asked [ inl asks ↦ asks | inr text ↦ absurd (running text) ] in
    promise_fault c.args.words.now (racked g.R.D.Disk at at) _ _ c.early-in-Err-pose.result
    (ended.status ∙ ap status_of (sym ended.fault)) (none_balances g.R.D.Disk at at refl refl refl (omega arith))
    (λ many rose. omega (arith, rose)) (one_count g.R.D.Disk at at) c.in-Ok.command line (λ other asks. sym (c.in-Ok.ensures.given other asks))
    (made_unread c.in-Ok.command g.S.Source c.args.source.now c.pose.new.source c.pose.ensures.unasked)
    c.in-Err-pose.fault ended.fault ended.trails (untaken_before g.R.D.Disk at at refl refl) refl c.in-Err-pose.ensures.fault

-- where the scenario is made, nothing is asked of the source
pub returns-in-Err-Usage-clause-unasked : goal.returns-in-Err-Usage-clause-unasked
returns-in-Err-Usage-clause-unasked g c = λ seed calls asks. refl

pub returns-in-Err-Memory-clause-unasked : goal.returns-in-Err-Memory-clause-unasked
returns-in-Err-Memory-clause-unasked g c = λ seed calls asks. refl

pub returns-in-Ok-Say-clause-unasked : goal.returns-in-Ok-Say-clause-unasked
returns-in-Ok-Say-clause-unasked g c = λ seed calls asks. refl

pub returns-in-Ok-take_scenario-clause-unasked : goal.returns-in-Ok-take_scenario-clause-unasked
returns-in-Ok-take_scenario-clause-unasked g c = λ seed calls asks.
    (let e = sym c.in-Ok-Audit.field-0-is ∙ c.in-Ok-Audit.ensures.given (Load seed calls) asks in absurd cc)

pub returns-in-Ok-Audit-clause-unasked : goal.returns-in-Ok-Audit-clause-unasked
returns-in-Ok-Audit-clause-unasked g c = λ seed calls asks.
    (let e = sym c.in-Ok-Audit.field-0-is ∙ c.in-Ok-Audit.ensures.given (Load seed calls) asks in absurd cc)

pub returns-in-Ok-pose-clause-unasked : goal.returns-in-Ok-pose-clause-unasked
returns-in-Ok-pose-clause-unasked g c = λ seed calls asks.
    subst (λ (k : Command). IfMade k (c.pose.new.source ≡ c.args.source.now)) (c.in-Ok.ensures.given (Load seed calls) asks)
    c.pose.ensures.unasked

pub returns-clause-unasked : goal.returns-clause-unasked
returns-clause-unasked g c = λ seed calls asks.
    subst (λ (k : Command). IfMade k (c.pose.new.source ≡ c.args.source.now)) (c.in-Ok.ensures.given (Load seed calls) asks)
    c.pose.ensures.unasked
