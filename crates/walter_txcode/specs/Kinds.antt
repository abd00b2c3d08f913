-- Values of several kinds, each told by a number.
use Rattle.std.specs.Prelude.{◌≡◌, ℕ}

-- such a value, of this kind
abbrev pub IsSuchOfKind : {R : Type 0} → (R → Type 0) → (R → ℕ) → ℕ → R → Type 0
IsSuchOfKind IsSuch kind_of kind value = (kind_of value ≡ kind) × IsSuch value
