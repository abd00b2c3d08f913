-- What a decoder that found nothing tells.
use Rattle.std.specs.Prelude.{◌≢◌, List, ◌++◌, ℕ}
use Rattle.walter_txcode.specs.declared.fault.DecodeFault.{DecodeFault}
use Rattle.walter_txcode.specs.declared.fault.DecodeFault.TheVariants.{Unspelled, NoMemory}

-- the fact holds unless memory ran out
abbrev pub IfUnspelled : DecodeFault → Type 0 → Type 0
IfUnspelled Unspelled fact = fact
IfUnspelled NoMemory fact = Unit {0}

-- the bytes begin with the spelling of no such value
pub record NoneBegins {A : Type 0} (IsSuch : A → Type 0) (spelled : A → List ℕ) (bytes : List ℕ) : Type 0 where
  pub none : (value : A) (rest : List ℕ) → IsSuch value → bytes ≢ spelled value ++ rest
