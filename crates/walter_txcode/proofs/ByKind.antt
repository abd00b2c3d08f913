-- Values of several kinds: the spelling of each is a byte that tells its kind, and what stands behind it.
use Rattle.std.proofs.Common.{◌≡◌, ℕ, ◌<◌, List, ◌++◌, length, sym, ap, subst, ◌∙◌, append_assoc, arith}
use Rattle.std.proofs.lemmas.List.{length-append}
use Rattle.walter_fields.specs.Cursors.{Remainder, Takes}
use Rattle.walter_fields.specs.Spellings.{number_spelled}
use Rattle.walter_fields.proofs.Numbers.{length-number_spelled, same_number}
use Rattle.walter_fields.proofs.Readings.{Takes-then}
use Rattle.walter_txcode.specs.Faults.{NoneBegins}
use Rattle.walter_txcode.specs.Kinds.{IsSuchOfKind}
use Rattle.walter_txcode.proofs.Joined.{IsPrefixFree}

pub record HasKinds {R : Type 0} (IsSuch : R → Type 0) (kind_of : R → ℕ) (fields spelled : R → List ℕ) : Type 0 where
  pub parts : (r : R) → spelled r ≡ number_spelled 1 (kind_of r) ++ fields r
  pub low : (r : R) → kind_of r < 256
  pub same : (a b : R) (x y : List ℕ) → kind_of a ≡ kind_of b → IsSuch a → IsSuch b → fields a ++ x ≡ fields b ++ y → (a ≡ b) × (x ≡ y)

behind_kind : {R : Type 0} {IsSuch : R → Type 0} {kind_of : R → ℕ} {fields spelled : R → List ℕ} → HasKinds IsSuch kind_of fields spelled → (r : R) (rest : List ℕ)
    → spelled r ++ rest ≡ number_spelled 1 (kind_of r) ++ (fields r ++ rest)
behind_kind {kind_of = kind_of} {fields = fields} kinds r rest = ap (λ t. t ++ rest) (kinds.parts r) ∙ append_assoc (number_spelled 1 (kind_of r)) (fields r) rest

pub free_kinds : {R : Type 0} {IsSuch : R → Type 0} {kind_of : R → ℕ} {fields spelled : R → List ℕ} → HasKinds IsSuch kind_of fields spelled → IsPrefixFree IsSuch spelled
free_kinds {kind_of = kind_of} {fields = fields} kinds = record {
  same = λ a b x y is_a is_b e.
      let one = same_number 1 (kind_of a) (kind_of b) (fields a ++ x) (fields b ++ y) (omega (arith, kinds.low a)) (omega (arith, kinds.low b)) (sym (behind_kind kinds a x) ∙ e ∙ behind_kind kinds b y) in
      kinds.same a b x y one.0 is_a is_b one.1;
}

-- without a byte there is none
pub no_kind : {R : Type 0} {IsSuch : R → Type 0} {kind_of : R → ℕ} {fields spelled : R → List ℕ} → HasKinds IsSuch kind_of fields spelled → {left : List ℕ} → length left < 1 → NoneBegins IsSuch spelled left
no_kind {kind_of = kind_of} {fields = fields} kinds few = record {
  none = λ r rest is e. omega (arith, ap length (e ∙ behind_kind kinds r rest), length-append (number_spelled 1 (kind_of r)) (fields r ++ rest), length-number_spelled 1 (kind_of r), few);
}

-- nor behind the byte of a kind without its fields
pub no_fields : {R : Type 0} {IsSuch : R → Type 0} {kind_of : R → ℕ} {fields spelled : R → List ℕ} → HasKinds IsSuch kind_of fields spelled → {left mid : List ℕ} (kind : ℕ) → kind < 256
    → left ≡ number_spelled 1 kind ++ mid → NoneBegins (IsSuchOfKind IsSuch kind_of kind) fields mid → NoneBegins IsSuch spelled left
no_fields {kind_of = kind_of} {fields = fields} kinds {mid = mid} kind low front none = record {
  none = λ r rest is e.
      let behind = same_number 1 kind (kind_of r) mid (fields r ++ rest) (omega (arith, low)) (omega (arith, kinds.low r)) (sym front ∙ e ∙ behind_kind kinds r rest) in
      none.none r rest (sym behind.0, is) behind.1;
}

-- a byte of kind was read, and its fields
pub takes_kind : {R : Type 0} {IsSuch : R → Type 0} {kind_of : R → ℕ} {fields spelled : R → List ℕ} → HasKinds IsSuch kind_of fields spelled → {old mid new : Remainder} (kind : ℕ) (r : R) → kind_of r ≡ kind
    → Takes old mid (number_spelled 1 kind) → Takes mid new (fields r) → Takes old new (spelled r)
takes_kind {fields = fields} kinds {old = old} {mid = mid} {new = new} kind r is first second =
    subst (Takes old new) (ap (λ k. number_spelled 1 k ++ fields r) (sym is) ∙ sym (kinds.parts r)) (Takes-then old mid new (number_spelled 1 kind) (fields r) first second)
