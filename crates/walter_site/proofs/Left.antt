-- Where nothing is taken in, what a site knows stays.
use Rattle.std.proofs.Common.{◌≡◌, ℕ, Option, Result, refl}
use Rattle.walter_base.specs.declared.catalog.Catalog.{Catalog}
use Rattle.walter_base.specs.declared.message.BadFrame.{BadFrame}
use Rattle.walter_base.specs.declared.message.Record.{Record}
use Rattle.walter_base.specs.declared.message.Request.{Request}
use Rattle.walter_base.specs.declared.names.SiteId.{SiteId}
use Rattle.walter_base.specs.declared.packet.Packet.{Packet}
use Rattle.walter_site.specs.Plans.{IsFor}
use Rattle.walter_rules.specs.declared.event.Event.TheVariants.{Given}
use Rattle.walter_rules.specs.declared.event.Input.{Input}
use Rattle.walter_rules.specs.declared.event.Input.TheVariants.{Call, Deliver, Advance, Tick, Upgrade}
use Rattle.walter_rules.specs.declared.outcome.Outcome.{Outcome}
use Rattle.walter_rules.specs.declared.outcome.Outcome.TheVariants.{Replied, Taken, Passed, Failed, Full, Memory, Down, Refused}
use Rattle.walter_rules.specs.Knowledge.{Knowledge}
use Rattle.walter_rules.specs.Learning.{heard, answered}

-- neither a call that is replied to nor a packet that is taken
abbrev pub IsIdle : Input → Outcome → Type 0
IsIdle (Call client call) (Replied reply) = ⊥
IsIdle (Deliver from number packet) Taken = ⊥
IsIdle input outcome = Unit {0}

module _ (catalog : Catalog) (wrote : Option Record) (K : Knowledge) where
  abbrev Leaves : Input → Outcome → Type 0
  Leaves input outcome = heard (Given input) outcome (answered catalog (Given input) outcome wrote K) ≡ K

  call_left : (client : ℕ) (call : Result Request BadFrame) (outcome : Outcome) → IsIdle (Call client call) outcome
      → Leaves (Call client call) outcome
  call_left client call (Replied reply) idle = absurd idle
  call_left client call Taken idle = refl
  call_left client call Passed idle = refl
  call_left client call Failed idle = refl
  call_left client call (Full need left) idle = refl
  call_left client call Memory idle = refl
  call_left client call Down idle = refl
  call_left client call Refused idle = refl

  packet_left : (from : SiteId) (number : ℕ) (packet : Packet) (outcome : Outcome)
      → IsFor (Deliver from number packet) outcome → IsIdle (Deliver from number packet) outcome
      → Leaves (Deliver from number packet) outcome
  packet_left from number packet (Replied reply) for idle = absurd for
  packet_left from number packet Taken for idle = absurd idle
  packet_left from number packet Passed for idle = refl
  packet_left from number packet Failed for idle = refl
  packet_left from number packet (Full need left) for idle = refl
  packet_left from number packet Memory for idle = refl
  packet_left from number packet Down for idle = refl
  packet_left from number packet Refused for idle = refl

  advance_left : (from : SiteId) (outcome : Outcome) → IsFor (Advance from) outcome → Leaves (Advance from) outcome
  advance_left from (Replied reply) for = absurd for
  advance_left from Taken for = refl
  advance_left from Passed for = refl
  advance_left from Failed for = refl
  advance_left from (Full need left) for = refl
  advance_left from Memory for = refl
  advance_left from Down for = refl
  advance_left from Refused for = refl

  tick_left : (outcome : Outcome) → IsFor Tick outcome → Leaves Tick outcome
  tick_left (Replied reply) for = absurd for
  tick_left Taken for = refl
  tick_left Passed for = refl
  tick_left Failed for = refl
  tick_left (Full need left) for = refl
  tick_left Memory for = refl
  tick_left Down for = refl
  tick_left Refused for = refl

  upgrade_left : (outcome : Outcome) → IsFor Upgrade outcome → Leaves Upgrade outcome
  upgrade_left (Replied reply) for = absurd for
  upgrade_left Taken for = refl
  upgrade_left Passed for = refl
  upgrade_left Failed for = refl
  upgrade_left (Full need left) for = refl
  upgrade_left Memory for = refl
  upgrade_left Down for = refl
  upgrade_left Refused for = refl

  pub all_left : (input : Input) (outcome : Outcome) → IsFor input outcome → IsIdle input outcome → Leaves input outcome
  all_left (Call client call) outcome for idle = call_left client call outcome idle
  all_left (Deliver from number packet) outcome for idle = packet_left from number packet outcome for idle
  all_left (Advance from) outcome for idle = advance_left from outcome for
  all_left Tick outcome for idle = tick_left outcome for
  all_left Upgrade outcome for idle = upgrade_left outcome for
