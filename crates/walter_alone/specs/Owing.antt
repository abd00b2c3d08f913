-- Which clients are owed the news that their transaction is gone.
use Rattle.std.specs.Prelude.{◌≡◌, ◌⊎◌, ℕ, None}
use Rattle.walter_rules.specs.Knowledge.{session_of}
use Rattle.walter_rules.specs.Standing.{Standing}

-- a client that is owed it has no transaction
abbrev pub IsOwedAlone : Standing → Type 0
IsOwedAlone S = (client : ℕ) → (S.gone client ≡ None) ⊎ (session_of S.knows client ≡ None)
