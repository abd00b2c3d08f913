-- The status of the program for each fault.
use Rattle.std.specs.Prelude.{ℕ, Option, Some, None}
use Rattle.walter_cli.specs.declared.ended.Fault.{Fault}
use Rattle.walter_cli.specs.declared.ended.Fault.TheVariants.{Usage, Scenario, Read, Write, Memory, Rack, Journal}

abbrev pub status_of : Option Fault → ℕ
status_of None = 0
status_of (Some (Usage text)) = 1
status_of (Some (Scenario place detail)) = 2
status_of (Some Read) = 3
status_of (Some Write) = 4
status_of (Some Memory) = 5
status_of (Some (Rack site)) = 6
status_of (Some (Journal site cause place)) = 7
