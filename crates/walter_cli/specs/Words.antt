-- What is run of a command, and what is written of it.
use Rattle.std.specs.Prelude.{◌≡◌, ◌≤◌, ◌⊎◌, ℕ, List, [], Option, Some, map, string_bytes, String}
use Rattle.std.specs.Global.{Global}
use Rattle.walter_base.specs.declared.format.Format.{Format}
use Rattle.walter_make.specs.Made.{made}
use Rattle.walter_report.specs.Summaries.{summary_text}
use Rattle.walter_rules.specs.declared.entry.Entry.{Entry}
use Rattle.walter_scenario.specs.declared.scenario.Scenario.{Scenario}
use Rattle.walter_scenario.specs.Scenarios.{IsReading}
use Rattle.clap.specs.Faults.{fault_of}
use Rattle.clap.specs.Kinds.{IsAmong}
use Rattle.clap.specs.declared.error.kind.ErrorKind.{ErrorKind}
use Rattle.clap.specs.declared.error.kind.ErrorKind.TheVariants.{DisplayHelp, DisplayVersion}
use Rattle.walter_words.specs.Lines.{walter_line}
use Rattle.walter_words.specs.Words.{AsksFor, IsTextKind}
use Rattle.walter_words.specs.declared.asked.Command.{Command}
use Rattle.walter_words.specs.declared.asked.Command.TheVariants.{Play, Run, Load, Audit, Say}
use Rattle.walter_cli.specs.Sources.{IsTaken}
use Rattle.walter_report.specs.Texts.{text_of}

-- the words behind the program's name ask for this run or audit
abbrev pub Asks : Command → List (String Global) → Type 0
Asks command words = AsksFor command (map string_bytes words)

-- they ask for no run and for no audit
abbrev pub AskForNone : List (String Global) → Type 0
AskForNone words = (command : Command) → ¬ Asks command words

-- they ask for an audit
abbrev pub AskForAudit : List (String Global) → Type 0
AskForAudit words = (disks : Option (List ℕ)) × Asks (Audit disks) words

-- what is wrong with them isn't that they ask for a help or for the version; or it is, by the kinds of fault that clap finds
abbrev pub IsWrong : List (List ℕ) → Type 0
IsWrong texts = (kind : ErrorKind) × IsAmong kind (fault_of walter_line texts) × (¬ IsTextKind kind)

abbrev pub IsForText : List (List ℕ) → Type 0
IsForText texts = IsAmong DisplayHelp (fault_of walter_line texts) ⊎ IsAmong DisplayVersion (fault_of walter_line texts)

-- it is a run, of at most 20,000 calls where it is made
abbrev pub CanBeRun : Command → Type 0
CanBeRun (Play trace disks) = Unit {0}
CanBeRun (Run trace disks) = Unit {0}
CanBeRun (Load seed calls) = calls ≤ 20000
CanBeRun (Audit disks) = ⊥
CanBeRun (Say text) = ⊥

-- it is a run whose scenario is read, from the source
abbrev pub IsRead : Command → Type 0
IsRead (Play trace disks) = Unit {0}
IsRead (Run trace disks) = Unit {0}
IsRead (Load seed calls) = ⊥
IsRead (Audit disks) = ⊥
IsRead (Say text) = ⊥

-- it is so where the scenario is made
abbrev pub IfMade : Command → Type 0 → Type 0
IfMade (Play trace disks) P = Unit {0}
IfMade (Run trace disks) P = Unit {0}
IfMade (Load seed calls) P = P
IfMade (Audit disks) P = Unit {0}
IfMade (Say text) P = Unit {0}

-- a scenario but for its steps
abbrev pub but_for_steps : Scenario → Scenario
but_for_steps s = record s { steps = [] }

-- what is to be run: a scenario that the bytes left in the source spell, where threads drive it but for its steps; or the one
-- that is made
abbrev pub Poses : Command → Option (List ℕ) → Scenario → Type 0
Poses (Play trace disks) left s = (bytes : List ℕ) × (left ≡ Some bytes) × IsReading bytes s
Poses (Run trace disks) left s = (bytes : List ℕ) × (read : Scenario) × (left ≡ Some bytes) × IsReading bytes read
    × (s ≡ but_for_steps read)
Poses (Load seed calls) left s = s ≡ made seed calls
Poses (Audit disks) left s = ⊥
Poses (Say text) left s = ⊥

-- what was run: the scenario that the bytes spell that were taken from the source, to its end, where threads drive it but
-- for its steps; or the one that was made, and nothing was read
abbrev pub IsPosed : Command → (before after : Option (List ℕ)) → Scenario → Type 0
IsPosed (Play trace disks) before after s = IsTaken before after s
IsPosed (Run trace disks) before after s = (read : Scenario) × IsTaken before after read × (s ≡ but_for_steps read)
IsPosed (Load seed calls) before after s = (s ≡ made seed calls) × (after ≡ before)
IsPosed (Audit disks) before after s = ⊥
IsPosed (Say text) before after s = ⊥

-- what is written of a run with these trails, over journals whose headers name these formats: its report, with the trace
-- behind it where one is asked for, or its summary
abbrev pub written_by : Command → Scenario → List Format → List (List Entry) → List ℕ
written_by (Play trace disks) s headers trails = text_of trace s headers trails
written_by (Run trace disks) s headers trails = text_of trace s headers trails
written_by (Load seed calls) s headers trails = summary_text seed calls trails
written_by (Audit disks) s headers trails = []
written_by (Say text) s headers trails = []
