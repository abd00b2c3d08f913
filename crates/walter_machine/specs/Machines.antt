-- How a machine stands, and what its calls leave of it.
use Rattle.std.specs.Prelude.{◌≡◌, ◌⊎◌, ◌+◌, ◌<◌, ◌^◌, ℕ, Bool, true, length, vec_len, Option, Some, None, is_some, IsSome, IfSome}
use Rattle.walter_base.specs.declared.catalog.Catalog.{Catalog}
use Rattle.walter_base.specs.declared.message.Record.{Record}
use Rattle.walter_base.specs.declared.names.SiteId.{SiteId}
use Rattle.walter_machine.specs.declared.machine.Machine.{Machine}
use Rattle.walter_machine.specs.declared.ready.Ready.{Ready}
use Rattle.walter_machine.specs.Debts.{owed_by}
use Rattle.walter_machine.specs.Readiness.{rec_in}
use Rattle.walter_machine.specs.States.{IsState, IsRoom, AreTold}
use Rattle.walter_rules.specs.declared.event.Event.TheVariants.{Restart}
use Rattle.walter_rules.specs.Standing.{Standing, settled}
use Rattle.walter_rules.specs.Trails.{IsFound}
use Rattle.walter_tables.specs.declared.tables.Tables.{Tables}

abbrev pub catalog_in : Machine → Catalog
catalog_in m = m.catalog

abbrev pub site_in : Machine → SiteId
site_in m = m.id

-- its tables, while it is up
abbrev pub tables_in : Machine → Option Tables
tables_in m = m.site

abbrev pub is_up : Machine → Bool
is_up m = is_some m.site

-- the record in flight, and how many records there were before it
abbrev pub flight_in : Machine → Option Record
flight_in m = m.flight

abbrev pub records_in : Machine → ℕ
records_in m = m.records

-- The machine stands so. How many records there are is known while it is up, and where one is in flight.
pub record HasStanding (m : Machine) (S : Standing) : Type 0 where
  pub state : IsState S m.site
  pub told : AreTold m.catalog m.id S
  pub flight : m.flight ≡ S.flight
  pub count : (S.up ≡ true) ⊎ IsSome S.flight → m.records ≡ length S.records
  pub owed : (client : ℕ) → S.gone client ≡ owed_by m.debts.entries m.lost client

-- it has what its fall takes
abbrev pub HasRoom : Machine → Type 0
HasRoom m = IsRoom (is_some m.lost) (vec_len m.places)

-- of the same site
pub record IsSameSite (old new : Machine) : Type 0 where
  pub catalog : new.catalog ≡ old.catalog
  pub id : new.id ≡ old.id

-- so many records are found: those that there were, or the one in flight behind them
abbrev pub AreFound : Standing → ℕ → Type 0
AreFound S found = (found ≡ length S.records) ⊎ (IsSome S.flight × (found ≡ length S.records + 1))

-- the record in flight was found, or wasn't, and is decided by that
pub record Settles (S : Standing) (found : ℕ) (kept : Option Record) (m : Machine) : Type 0 where
  pub is_found : IfSome kept (IsFound S Restart)
  pub stands : HasStanding m (settled m.catalog m.id kept S)
  pub count : found ≡ length (settled m.catalog m.id kept S).records
  pub counted : m.records ≡ found

-- where a record is ready, one more can be counted
abbrev pub IsCountable : Machine → Ready → Type 0
IsCountable m ready = IsSome (rec_in ready) → m.records + 1 < 2 ^ 64

-- where a record comes, it is known how many there were
abbrev pub IsCounted : Machine → Standing → Option Record → Type 0
IsCounted m S None = Unit {0}
IsCounted m S (Some rec) = m.records ≡ length S.records
