-- Why a record isn't replayed.
use Rattle.walter_base.specs.declared.message.Record.{Record}
use Rattle.walter_rules.specs.Knowledge.{Knowledge}
use Rattle.walter_rules.specs.Records.{CanFollow}
use Rattle.walter_tables.specs.declared.replay.ReplayFault.{ReplayFault}
use Rattle.walter_tables.specs.declared.replay.ReplayFault.TheVariants.{Unfit, NoMemory}
use Rattle.walter_tables.specs.declared.tables.Tables.{Tables}
use Rattle.walter_tables.specs.Sites.{catalog_of, site_of, Stands}

-- it can't follow those that made the tables, whatever these stand for; or there was no memory
abbrev pub IsReplayFault : Tables → Record → ReplayFault → Type 0
IsReplayFault t rec Unfit = (K : Knowledge) → Stands t K → ¬ CanFollow (catalog_of t) (site_of t) K rec
IsReplayFault t rec NoMemory = Unit {0}
