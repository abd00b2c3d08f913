-- What the updates of a transaction write, one by one.
use Rattle.std.proofs.Common.{◌≡◌, ◌<◌, ◌≤◌, ◌⊎◌, ℕ, zero, suc, List, [], ◌∷◌, length, take, get_or, refl, ap, sym, subst, arith, inl, inr}
use Rattle.std.specs.Prelude.{Contains}
use Rattle.std.proofs.lemmas.List.Elements.{Contains-append_left, Contains-append_right, Contains-append_cases}
use Rattle.walter_base.specs.declared.names.ObjId.{ObjId}
use Rattle.walter_base.specs.declared.update.Update.{Update}
use Rattle.walter_base.specs.declared.update.Update.TheVariants.{Write, Add, Del}
use Rattle.walter_base.specs.Values.{written, write_set}
use Rattle.walter_psi.proofs.Lists.{Contains-nil, contains_at, Contains-flat_map}
use Rattle.walter_rules.proofs.Membership.{first_in}
use Rattle.walter_audit.proofs.Asked.{got_at}

-- an update that writes the object
pub wrote_here : (updates : List Update) (i : ℕ) (u : Update) (oid : ObjId) (bytes : List ℕ) → i < length updates
    → u ≡ get_or updates i u → u ≡ Write oid bytes → Contains (write_set updates) oid
wrote_here updates i u oid bytes low e is = Contains-flat_map written updates u oid
    (contains_at updates u i (got_at updates i u low e)) (subst (λ w. Contains (written w) oid) (sym is) (first_in oid []))

-- what one more update writes
pub written_more : (updates : List Update) (i : ℕ) (u : Update) (oid : ObjId) → i < length updates → u ≡ get_or updates i u
    → Contains (write_set (take (suc i) updates)) oid → Contains (write_set (take i updates)) oid ⊎ Contains (written u) oid
written_more [] i u oid low e c = absurd (omega (arith, low))
written_more (x ∷ xs) zero u oid low e c = elim (Contains-append_cases (written x) [] oid c) [
  | inl here ↦ inr (subst (λ w. Contains (written w) oid) (sym e) here)
  | inr none ↦ absurd (Contains-nil oid none)
]
written_more (x ∷ xs) (suc i) u oid low e c = elim (Contains-append_cases (written x) (write_set (take (suc i) xs)) oid c) [
  | inl here ↦ inl (Contains-append_left (written x) (write_set (take i xs)) oid here)
  | inr later ↦ elim (written_more xs i u oid (omega (arith, low)) e later) [
    | inl before ↦ inl (Contains-append_right (written x) (write_set (take i xs)) oid before)
    | inr now ↦ inr now
  ]
]

-- what is no write writes nothing
pub not_written : (u : Update) → ((oid : ObjId) (bytes : List ℕ) → u ≡ Write oid bytes → ⊥) → (o : ObjId) → Contains (written u) o → ⊥
not_written (Write oid bytes) other o c = other oid bytes refl
not_written (Add oid id) other o c = Contains-nil o c
not_written (Del oid id) other o c = Contains-nil o c

pub take_all : {X : Type 0} (xs : List X) (n : ℕ) → length xs ≤ n → take n xs ≡ xs
take_all [] zero low = refl
take_all [] (suc n) low = refl
take_all (x ∷ xs) zero low = absurd (omega (arith, low))
take_all (x ∷ xs) (suc n) low = ap (λ rest. x ∷ rest) (take_all xs n (omega (arith, low)))
