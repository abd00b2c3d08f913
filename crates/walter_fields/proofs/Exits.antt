-- What a reader's exit by a `?` keeps.
use Rattle.std.proofs.Common.{◌≡◌, Result, Ok, Err, sym, subst}
use Rattle.std.specs.Prelude.{IfErr, IsErrAnd}

pub exits_with : {T E : Type 0} (P : E → Type 0) (fault : E) (r : Result T E) → IsErrAnd r (λ e. e ≡ fault) → P fault → IfErr r P
exits_with P fault (Ok x) is p = tt
exits_with P fault (Err e) is p = subst P (sym is) p
