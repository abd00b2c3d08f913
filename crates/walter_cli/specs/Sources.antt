-- What was taken from a source.
use Rattle.std.specs.Prelude.{◌≡◌, ◌<◌, ◌⊎◌, ℕ, List, length, Option}
use Rattle.walter_scenario.specs.declared.place.Place.{Place}
use Rattle.walter_scenario.specs.declared.place.Place.TheVariants.{TooLong}
use Rattle.walter_scenario.specs.declared.scenario.Scenario.{Scenario}
use Rattle.walter_scenario.specs.Scenarios.{IsReading, IsRefusedAt}
use Rattle.walter_stream.specs.Streams.{AtEnd, TakesFront}

-- these bytes were taken from a source, and nothing is left in it
pub record IsSource (before after : Option (List ℕ)) (bytes : List ℕ) : Type 0 where
  pub taken : TakesFront before after bytes
  pub end : AtEnd after

-- the bytes of a source spell no scenario, and are wrong at this place: those that were taken, to its end; or they are
-- too many
pub record HasNoReading (before after : Option (List ℕ)) (place : Place) : Type 0 where
  pub front : List ℕ
  pub taken : TakesFront before after front
  pub wrong : (AtEnd after × IsRefusedAt front place) ⊎ ((place ≡ TooLong) × (16777216 < length front))

-- the scenario is a reading of the bytes of the source
pub record IsTaken (before after : Option (List ℕ)) (s : Scenario) : Type 0 where
  pub bytes : List ℕ
  pub source : IsSource before after bytes
  pub reading : IsReading bytes s
