-- What the rule says of an event is of one of the kinds; each packet that is to be put out says what is so, and the
-- packets are in order.
use Rattle.std.proofs.Common.{◌≡◌, ◌+◌, Bool, true, false, None, Some, refl}
use Rattle.walter_base.specs.declared.catalog.Catalog.{Catalog}
use Rattle.walter_base.specs.declared.format.Format.{Format}
use Rattle.walter_base.specs.declared.format.Format.TheVariants.{First, Second}
use Rattle.walter_base.specs.declared.message.Record.TheVariants.{Boot, Format as FormatRecord}
use Rattle.walter_base.specs.declared.names.SiteId.{SiteId}
use Rattle.walter_rules.specs.declared.event.Event.{Event}
use Rattle.walter_rules.specs.declared.event.Event.TheVariants.{Given, Stop, Restart}
use Rattle.walter_rules.specs.declared.event.Input.{Input}
use Rattle.walter_rules.specs.declared.event.Input.TheVariants.{Call, Deliver, Advance, Tick, Upgrade}
use Rattle.walter_rules.specs.declared.outcome.Outcome.TheVariants.{Taken, Down}
use Rattle.walter_rules.specs.Allowed.{IsKind, upgrades}
use Rattle.walter_rules.specs.Calls.{call_rule}
use Rattle.walter_rules.specs.Knowledge.{peers, session_of}
use Rattle.walter_rules.specs.Layouts.{in_force}
use Rattle.walter_rules.specs.Rule.{upgrade_rule, given_rule, given_down, stop_rule, restart_rule, rule_where, rule, is_down}
use Rattle.walter_rules.specs.Sending.{to_each, said_again}
use Rattle.walter_rules.specs.Standing.{Standing}
use Rattle.walter_rules.proofs.SaidTrue.{again_sent}
use Rattle.walter_rules.proofs.SendsInOrder.{again_in_order}
use Rattle.walter_rules.proofs.CallsAllowed.{Allows, quiet, told_allowed, down_allowed, call_allowed}
use Rattle.walter_rules.proofs.DeliveriesAllowed.{passing, passing_quietly, deliver_allowed, advance_allowed}

-- where the first format is in force, no record says that the second is
told_first : (header told : Format) → in_force header told ≡ First → told ≡ First
told_first First told is = is
told_first Second told is = cc

module _ (header : Format) (catalog : Catalog) (i : SiteId) (S : Standing) where
  -- nothing is done at a site that is down
  down_there : (event : Event) → Allows catalog i S event is_down
  down_there event = quiet catalog i S event None Down (IsKind.is_down event)

  -- an upgrade
  upgrade_allowed : S.up ≡ true → (format : Format) → in_force header S.knows.format ≡ format
      → Allows catalog i S (Given Upgrade) (upgrade_rule format)
  upgrade_allowed up First is =
      quiet catalog i S (Given Upgrade) (Some FormatRecord) Taken
      (upgrades up (told_first header S.knows.format is))
  upgrade_allowed up Second is = passing_quietly catalog i S (Given Upgrade)

  -- what is given to a site that is up
  given_allowed : S.up ≡ true → (input : Input) → Allows catalog i S (Given input) (given_rule header catalog i S input)
  given_allowed up (Call client call) =
      told_allowed catalog i S client call (S.gone client)
      (call_rule catalog i S.knows call (session_of S.knows client))
      (call_allowed catalog i S up client call (session_of S.knows client) refl)
  given_allowed up (Deliver from number packet) = deliver_allowed catalog i S up from number packet
  given_allowed up (Advance from) = advance_allowed catalog i S up from
  given_allowed up Tick = passing catalog i S (Given Tick) (to_each (peers catalog i) (said_again catalog i S.knows))
      (again_sent catalog i (Given Tick) S.knows)
      (again_in_order catalog i S.knows)
  given_allowed up Upgrade = upgrade_allowed up (in_force header S.knows.format) refl

  -- what is given to one that is down
  given_down_allowed : (input : Input) → Allows catalog i S (Given input) (given_down input)
  given_down_allowed (Call client call) = down_allowed catalog i S client call
  given_down_allowed (Deliver from number packet) = down_there (Given (Deliver from number packet))
  given_down_allowed (Advance from) = down_there (Given (Advance from))
  given_down_allowed Tick = down_there (Given Tick)
  given_down_allowed Upgrade = down_there (Given Upgrade)

  -- what is given
  where_allowed : (up : Bool) → S.up ≡ up → (input : Input)
      → Allows catalog i S (Given input) (rule_where up header catalog i S input)
  where_allowed true up input = given_allowed up input
  where_allowed false up input = given_down_allowed input

  -- a stop
  stop_allowed : (up : Bool) → S.up ≡ up → Allows catalog i S Stop (stop_rule up)
  stop_allowed true up = quiet catalog i S Stop None Taken (IsKind.stops up)
  stop_allowed false up = down_there Stop

  -- a restart
  restart_allowed : (up : Bool) → S.up ≡ up → Allows catalog i S Restart (restart_rule up S.knows)
  restart_allowed true up = passing_quietly catalog i S Restart
  restart_allowed false up = quiet catalog i S Restart (Some (Boot (S.knows.epoch + 1))) Taken (IsKind.boots up)

  -- each event
  pub rule_allowed : (event : Event) → Allows catalog i S event (rule header catalog i S event)
  rule_allowed (Given input) = where_allowed S.up refl input
  rule_allowed Stop = stop_allowed S.up refl
  rule_allowed Restart = restart_allowed S.up refl
