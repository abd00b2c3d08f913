-- What an event comes to at a site without a disk: what the rule says; or its record meets a fault.
use Rattle.std.specs.Prelude.{ℕ, Bool, true, false, not, ◌&&◌, List, [], reverse, Option, Some, None, if◌then◌else◌}
use Rattle.walter_base.specs.declared.catalog.Catalog.{Catalog}
use Rattle.walter_base.specs.declared.format.Format.{Format}
use Rattle.walter_base.specs.declared.message.Record.{Record}
use Rattle.walter_base.specs.declared.names.SiteId.{SiteId}
use Rattle.walter_machine.specs.Posts.{stamp_behind}
use Rattle.walter_rules.specs.declared.entry.Came.{Came}
use Rattle.walter_rules.specs.declared.entry.Entry.{Entry}
use Rattle.walter_rules.specs.declared.event.Event.{Event}
use Rattle.walter_rules.specs.Calls.{Expected}
use Rattle.walter_rules.specs.Rule.{rule}
use Rattle.walter_rules.specs.Standing.{Standing, settled}
use Rattle.walter_rules.specs.Trails.{standing, clock, failure}
use Rattle.walter_world.specs.declared.events.Fate.{Fate}
use Rattle.walter_world.specs.declared.events.Fate.TheVariants.{Fine, Broken}

-- the record that a restart finds: the one in flight, where the site is down and it is to be found
abbrev pub found_by : Bool → Standing → Option Record
found_by keeps S = if keeps && not S.up then S.flight else None

-- all comes as it is expected, and nothing is lost
abbrev pub came_stable : Option Record → Expected → Came
came_stable kept x = record {
  outcome = x.outcome;
  kept = kept;
  wrote = x.wrote;
  flight = None;
  sends = x.sends;
  dropped = 0;
}

-- the record, where there is one, is in flight, and nothing is put out
abbrev pub came_broken : Event → Option Record → Expected → Option Record → Came
came_broken event kept x None = came_stable kept x
came_broken event kept x (Some rec) = record {
  outcome = failure event rec;
  kept = kept;
  wrote = None;
  flight = Some rec;
  sends = [];
  dropped = 0;
}

abbrev pub came_by : Fate → Event → Option Record → Expected → Came
came_by Fine event kept x = came_stable kept x
came_by Broken event kept x = came_broken event kept x x.wrote

-- whether there is a record that meets a fault
abbrev pub breaks : Fate → Option Record → Bool
breaks Broken (Some rec) = true
breaks fate wrote = false

-- what an event comes to at a site that stood so, whose journal's header names this format, where this record is found
abbrev pub comes_to : Format → Catalog → SiteId → Standing → Event → Option Record → Fate → Came
comes_to format catalog i S event kept fate = came_by fate event kept
    (rule format catalog i (settled catalog i kept S) event)

-- its entry, behind a trail; the packet that it brings was put out with this stamp, which is 0 where it brings none
abbrev pub entry_of : Format → Catalog → SiteId → List Entry → Event → ℕ → Bool → Fate → Entry
entry_of format catalog i trail event put keeps fate = record {
  stamp = stamp_behind (clock (reverse trail)) put;
  event = event;
  came = comes_to format catalog i (standing catalog i (reverse trail)) event
      (found_by keeps (standing catalog i (reverse trail))) fate;
}
