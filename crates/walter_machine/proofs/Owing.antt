-- The debts that lost sessions make, one by one from the last.
use Rattle.std.proofs.Common.{◌≡◌, ◌∙◌, ◌+◌, ◌∷◌, ℕ, nat_eq, Bool, true, false, cond, drop, Option, Some, None, option_map, slice_get, Result, Ok, Err, refl, sym, ap}
use Rattle.std.specs.Prelude.{IsOk, OnOk}
use Rattle.std.proofs.lemmas.Bool.{eqb-true, eq-eqb}
use Rattle.std.proofs.lemmas.List.{drop_more}
use Rattle.std.proofs.lemmas.Option.{slice_get_within, get_or_from_slice_get}
use Rattle.walter_base.specs.declared.names.Tid.{Tid}
use Rattle.walter_base.proofs.ByClient.{turned}
use Rattle.walter_rules.specs.declared.event.Event.{Event}
use Rattle.walter_rules.specs.declared.outcome.Outcome.{Outcome}
use Rattle.walter_rules.specs.Sessions.{Session, Sessions, session_in}
use Rattle.walter_rules.specs.Standing.{owed, told}

same_turned : (a b : ℕ) → nat_eq a b ≡ nat_eq b a
same_turned a b = by (nat_eq a b) refl
  where
    by : (t : Bool) → nat_eq a b ≡ t → nat_eq a b ≡ nat_eq b a
    by true is = is ∙ sym (eq-eqb b a (sym (eqb-true a b is)))
    by false is = is ∙ sym (turned a b is)

-- what the first of these sessions makes
owed_head : (s : ℕ × Session) (rest : Sessions) (client : ℕ) (old : Option Tid)
    → cond (nat_eq client s.0) (Some s.1.tid) (owed (session_in client rest) old) ≡ owed (session_in client (s ∷ rest)) old
owed_head s rest client old = by (nat_eq client s.0)
  where
    by : (b : Bool) → cond b (Some s.1.tid) (owed (session_in client rest) old)
        ≡ owed (cond b (Some s.1) (session_in client rest)) old
    by true = refl
    by false = refl

abbrev opened : ℕ × Session → ℕ × Tid
opened s = (s.0, s.1.tid)

some_is : (a b : ℕ × Tid) → Some a ≡ Some b → a ≡ b
some_is a b same = cc

-- one more of them, before those that have made theirs
pub owed_more : (sessions : Sessions) (n c : ℕ) (tid : Tid) (client : ℕ) (old now new : Option Tid)
    → option_map opened (slice_get sessions n) ≡ Some (c, tid)
    → new ≡ cond (nat_eq c client) (Some tid) now → now ≡ owed (session_in client (drop (n + 1) sessions)) old
    → new ≡ owed (session_in client (drop n sessions)) old
owed_more sessions n c tid client old now new at is before = by (slice_get sessions n) refl at
  where
    by : (o : Option (ℕ × Session)) → slice_get sessions n ≡ o → option_map opened o ≡ Some (c, tid)
        → new ≡ owed (session_in client (drop n sessions)) old
    by None found same = absurd cc
    by (Some s) found same =
        let both : opened s ≡ (c, tid) = some_is (opened s) (c, tid) same in
        let client_is : s.0 ≡ c = ap (λ (p : ℕ × Tid). p.0) both in
        let tid_is : s.1.tid ≡ tid = ap (λ (p : ℕ × Tid). p.1) both in
        let front : drop n sessions ≡ s ∷ drop (n + 1) sessions =
        drop_more sessions n s (slice_get_within sessions n s found)
        ∙ ap (λ (x : ℕ × Session). x ∷ drop (n + 1) sessions) (get_or_from_slice_get sessions n s s found) in
        is ∙ (ap (λ (o : Option Tid). cond (nat_eq c client) (Some tid) o) before
        ∙ (ap (λ (t : Tid). cond (nat_eq c client) (Some t) (owed (session_in client (drop (n + 1) sessions)) old)) (sym tid_is)
        ∙ (ap (λ (b : Bool). cond b (Some s.1.tid) (owed (session_in client (drop (n + 1) sessions)) old))
        (ap (λ (k : ℕ). nat_eq k client) (sym client_is) ∙ same_turned s.0 client)
        ∙ (owed_head s (drop (n + 1) sessions) client old ∙ ap (λ (ss : Sessions). owed (session_in client ss) old) (sym front)))))

-- who is told, by what all are owed
pub told_so : (event : Event) (outcome : Outcome) (f h : ℕ → Option Tid) (client : ℕ) → ((c : ℕ) → f c ≡ h c)
    → told event outcome f client ≡ told event outcome h client
told_so event outcome f h client same = ap (λ (gone : ℕ → Option Tid). told event outcome gone client) (λ j c. same c j)

pub from_ok : {T E : Type 0} (r : Result T E) (P : Type 0) → IsOk r → OnOk r P → P
from_ok (Ok x) P is p = p
from_ok (Err e) P is p = absurd cc
