-- What the parts of an audit come to.
use Rattle.std.specs.Prelude.{◌≡◌, ◌≢◌, ◌<◌, ◌⊎◌, ℕ, List, Bool, true, false, Option, Some, None}
use Rattle.walter_audit.specs.declared.finding.Finding.{Finding}
use Rattle.walter_audit.specs.declared.finding.Finding.TheVariants.{Yes, No}
use Rattle.walter_inspect.specs.Findings.{finding_text}
use Rattle.walter_journal.specs.declared.fault.JournalFault.{JournalFault}
use Rattle.walter_journal.specs.declared.fault.JournalFault.TheVariants as unread
use Rattle.walter_scenario.specs.declared.scenario.Scenario.{Scenario}
use Rattle.walter_stream.specs.Streams.{Appends, AppendsFront}
use Rattle.walter_cli.specs.declared.ended.Fault.{Fault}
use Rattle.walter_cli.specs.declared.ended.Fault.TheVariants.{Usage, Scenario as ScenarioFault, Read, Write, Memory, Rack, Journal}
use Rattle.walter_cli.specs.declared.ended.JournalCause.TheVariants.{Foreign, Damaged, Used}
use Rattle.walter_cli.specs.Audits.{SaysYes, SaysNo, IsAudited, IsAuditRackFault, IsFirstUnreadable}
use Rattle.walter_cli.specs.Racks.{Racked, FailsToTake, IsFaultlessBefore}
use Rattle.walter_cli.specs.Statuses.{status_of}

abbrev pub says_yes : Finding → Bool
says_yes (Yes order) = true
says_yes (No reason a b) = false

-- the fault of an audit where the journal of this site can't be read
abbrev pub fault_of_unread : ℕ → JournalFault → Fault
fault_of_unread site unread.Failed = Rack site
fault_of_unread site unread.Foreign = Journal site Foreign 0
fault_of_unread site (unread.Damaged at length) = Journal site (Damaged length) at
fault_of_unread site unread.NoMemory = Memory

-- why not all disks were taken
abbrev pub IsWhyUntaken : Racked → Scenario → Fault → Type 0
IsWhyUntaken rack s Memory = Unit {0}
IsWhyUntaken rack s (Rack site) = (site < s.catalog.sites) × FailsToTake rack site
IsWhyUntaken rack s fault = ⊥

-- the finding was written, and the status says yes or no; or it was not
abbrev pub IsToldAs : ℕ → Finding → (holds holds' : Option (List ℕ)) → (faults faults' status : ℕ) → Option Fault
    → Type 0
IsToldAs sites finding holds holds' faults faults' status None =
    Appends holds holds' (finding_text sites finding)
    × (((status ≡ 0) × SaysYes finding) ⊎ ((status ≡ 8) × SaysNo finding))
IsToldAs sites finding holds holds' faults faults' status (Some Write) =
    (status ≡ 4) × AppendsFront holds holds' (finding_text sites finding) × (faults < faults')
IsToldAs sites finding holds holds' faults faults' status (Some Memory) = (status ≡ 5) × (holds' ≡ holds)
IsToldAs sites finding holds holds' faults faults' status (Some fault) = ⊥

-- what came of the audit with a fault
abbrev pub IsAuditFault : Racked → Scenario → (holds holds' : Option (List ℕ)) → (faults faults' : ℕ) → Fault → Type 0
IsAuditFault rack s holds holds' faults faults' Write =
    IsAudited rack s (λ finding. Unit {0}) (AppendsFront holds holds') × (faults < faults')
IsAuditFault rack s holds holds' faults faults' Memory = holds' ≡ holds
IsAuditFault rack s holds holds' faults faults' (Rack site) =
    (site < s.catalog.sites) × IsAuditRackFault rack s site × (holds' ≡ holds)
IsAuditFault rack s holds holds' faults faults' (Journal site cause place) =
    (site < s.catalog.sites) × IsFirstUnreadable rack s site cause place × rack.each (IsFaultlessBefore site)
    × (cause ≢ Used) × (holds' ≡ holds)
IsAuditFault rack s holds holds' faults faults' (Usage text) = ⊥
IsAuditFault rack s holds holds' faults faults' (ScenarioFault place detail) = ⊥
IsAuditFault rack s holds holds' faults faults' Read = ⊥

-- what an audit of a scenario's sites comes to
abbrev pub EndsAudit : Racked → Scenario → (holds holds' : Option (List ℕ)) → (faults faults' status : ℕ)
    → Option Fault → Type 0
EndsAudit rack s holds holds' faults faults' status None =
    ((status ≡ 0) × IsAudited rack s SaysYes (Appends holds holds'))
    ⊎ ((status ≡ 8) × IsAudited rack s SaysNo (Appends holds holds'))
EndsAudit rack s holds holds' faults faults' status (Some fault) =
    (status ≡ status_of (Some fault)) × IsAuditFault rack s holds holds' faults faults' fault
