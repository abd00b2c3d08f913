-- What is ready to come.
use Rattle.std.specs.Prelude.{◌≡◌, false, map, Option, IfSome}
use Rattle.walter_base.specs.declared.catalog.Catalog.{Catalog}
use Rattle.walter_base.specs.declared.format.Format.{Format}
use Rattle.walter_base.specs.declared.message.Record.{Record}
use Rattle.walter_base.specs.declared.names.SiteId.{SiteId}
use Rattle.walter_machine.specs.declared.ready.Ready.{Ready}
use Rattle.walter_machine.specs.Comings.{IsSized, is_faulty}
use Rattle.walter_machine.specs.States.{CanBeNext}
use Rattle.walter_machine.specs.Steps.{Step, step_by, record_of, outcome_of, sends_of, expected_by, came_of, IsStep}
use Rattle.walter_packet.specs.Framed.{frame_of}
use Rattle.walter_rules.specs.declared.entry.Came.{Came}
use Rattle.walter_rules.specs.declared.event.Event.{Event}
use Rattle.walter_rules.specs.Rule.{rule}
use Rattle.walter_rules.specs.Standing.{Standing}
use Rattle.walter_rules.specs.Trails.{TakesMemory}
use Rattle.walter_tables.specs.declared.tables.Tables.{Tables}

-- what it does to the site
abbrev pub step_in : Ready → Step
step_in ready = step_by ready.kind ready.plan

-- the record that is to be stable first
abbrev pub rec_in : Ready → Option Record
rec_in ready = record_of (step_in ready)

-- what it comes to where its record is kept
abbrev pub came_in : Ready → Came
came_in ready = came_of (step_in ready)

-- At a site with these tables, or down, that stood so over a journal whose header names this format, this is ready for
-- the event: it is what the rule says, its record can be the next, and what is put out has its frames. An event with a
-- record may want memory.
pub record IsReadyFor (header : Format) (catalog : Catalog) (i : SiteId) (site : Option Tables) (S : Standing)
    (event : Event) (ready : Ready) : Type 0 where
  pub rule : expected_by (step_in ready) ≡ rule header catalog i S event
  pub next : IfSome (rec_in ready) (CanBeNext catalog i S)
  pub step : IsStep catalog i site S event (step_in ready)
  pub takes : IfSome (rec_in ready) (λ rec. TakesMemory S.up event)
  pub sized : IsSized catalog.sites (came_in ready)
  pub fine : is_faulty (outcome_of (step_in ready)) ≡ false
  pub framed : ready.frames.items ≡ map (λ s. frame_of catalog.sites s.1) (sends_of (step_in ready))

-- whatever is known of the site and its journal, it is so at some standing, over some header
pub record IsReadyAnyway (catalog : Catalog) (i : SiteId) (site : Option Tables) (event : Event) (ready : Ready) : Type 0 where
  pub header : Format
  pub S : Standing
  pub ready_for : IsReadyFor header catalog i site S event ready
