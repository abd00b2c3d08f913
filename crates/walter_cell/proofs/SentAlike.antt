-- What a site puts out is the same whatever format its journal's header names.
use Rattle.std.proofs.Common.{◌≡◌, Bool, true, false, [], refl, sym, ◌∙◌}
use Rattle.walter_base.specs.declared.catalog.Catalog.{Catalog}
use Rattle.walter_base.specs.declared.format.Format.{Format}
use Rattle.walter_base.specs.declared.format.Format.TheVariants.{First, Second}
use Rattle.walter_base.specs.declared.names.SiteId.{SiteId}
use Rattle.walter_rules.specs.declared.event.Event.{Event}
use Rattle.walter_rules.specs.declared.event.Event.TheVariants.{Given, Stop, Restart}
use Rattle.walter_rules.specs.declared.event.Input.{Input}
use Rattle.walter_rules.specs.declared.event.Input.TheVariants.{Call, Deliver, Advance, Tick, Upgrade}
use Rattle.walter_rules.specs.Layouts.{in_force}
use Rattle.walter_rules.specs.Rule.{rule, rule_where, upgrade_rule}
use Rattle.walter_rules.specs.Standing.{Standing}

sends_of_upgrade : (format : Format) → (upgrade_rule format).sends ≡ []
sends_of_upgrade First = refl
sends_of_upgrade Second = refl

pub sends_alike : (header : Format) (catalog : Catalog) (i : SiteId) (S : Standing) (event : Event)
    → (rule header catalog i S event).sends ≡ (rule First catalog i S event).sends
sends_alike header catalog i S (Given input) = by S.up input
  where
    by : (up : Bool) (given : Input)
        → (rule_where up header catalog i S given).sends ≡ (rule_where up First catalog i S given).sends
    by true (Call client call) = refl
    by true (Deliver from number packet) = refl
    by true (Advance from) = refl
    by true Tick = refl
    by true Upgrade = sends_of_upgrade (in_force header S.knows.format) ∙ sym (sends_of_upgrade S.knows.format)
    by false given = refl
sends_alike header catalog i S Stop = refl
sends_alike header catalog i S Restart = refl
