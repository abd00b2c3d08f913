-- What one step starts, logs, does and gives.
use Rattle.std.proofs.Common.{◌≡◌, ◌≢◌, List, [], ◌∷◌, refl, ap, sym, ◌∙◌, Bool, true, false, inl, inr, ◌⊎◌, if◌then◌else◌}
use Rattle.std.specs.Prelude.{Contains}
use Rattle.std.proofs.lemmas.Bool.{false_from_ne_true}
use Rattle.walter_base.specs.declared.names.SiteId.{SiteId}
use Rattle.walter_base.specs.declared.names.Tid.{Tid}
use Rattle.walter_base.specs.declared.update.Update.{Update}
use Rattle.walter_base.specs.Names.{same_site, same_tid}
use Rattle.walter_base.proofs.NameTests.{same_site-true, same_site_refl, same_tid-true, same_tid_refl}
use Rattle.walter_psi.specs.declared.step.Step.{Step}
use Rattle.walter_psi.specs.declared.step.Step.TheVariants.{Start, Op, Read, Commit, Arrive, Abort, Told}
use Rattle.walter_psi.specs.Histories.{starts, logged, done, given}
use Rattle.walter_psi.proofs.Lists.{Contains-nil, Contains-one}

-- a start of the transaction, at whichever site, starts it
pub starts_start : (x : Tid) (site : SiteId) → starts x (Start x site) ≡ true
starts_start x site = same_tid_refl x

-- a step that starts the transaction is a start of it
pub starts_is : (x : Tid) (step : Step) → starts x step ≡ true → (site : SiteId) × (step ≡ Start x site)
starts_is x (Start y site) is = (site, ap (λ z. Start z site) (sym (same_tid-true x y is)))
starts_is x (Op y u) is = absurd cc
starts_is x (Read y oid answer) is = absurd cc
starts_is x (Commit y us) is = absurd cc
starts_is x (Arrive y site) is = absurd cc
starts_is x (Abort y cause) is = absurd cc
starts_is x (Told y what) is = absurd cc

-- one element by a test: the test is true where it stands there
found_if : (test : Bool) (y x : Tid) → Contains (if test then y ∷ [] else []) x → (test ≡ true) × (y ≡ x)
found_if true y x c = (refl, Contains-one y x c)
found_if false y x c = absurd (Contains-nil x c)

-- one element by a test is one or none
one_or_none : (test : Bool) (x : Tid) → ((if test then x ∷ [] else []) ≡ []) ⊎ ((y : Tid) × ((if test then x ∷ [] else []) ≡ y ∷ []))
one_or_none true x = inr (x, refl)
one_or_none false x = inl refl

-- a commit logs its transaction at the transaction's site
pub logged_commit : (x : Tid) (us : List Update) → logged x.site (Commit x us) ≡ x ∷ []
logged_commit x us = rw (same_site_refl x.site) refl

-- a step that logs a transaction is its commit, at its own site, or its arrival
pub logged_is : (x : Tid) (s : SiteId) (step : Step) → Contains (logged s step) x
    → ((us : List Update) × (step ≡ Commit x us) × (x.site ≡ s)) ⊎ (step ≡ Arrive x s)
logged_is x s (Commit y us) c =
    let found = found_if (same_site y.site s) y x c in
    inl (us, ap (λ z. Commit z us) found.1, sym (ap (λ (z : Tid). z.site) found.1) ∙ same_site-true y.site s found.0)
logged_is x s (Arrive y site) c =
    let found = found_if (same_site site s) y x c in
    let here = same_site-true site s found.0 in
    inr (λ i. Arrive (found.1 i) (here i))
logged_is x s (Start y site) c = absurd (Contains-nil x c)
logged_is x s (Op y u) c = absurd (Contains-nil x c)
logged_is x s (Read y oid answer) c = absurd (Contains-nil x c)
logged_is x s (Abort y cause) c = absurd (Contains-nil x c)
logged_is x s (Told y what) c = absurd (Contains-nil x c)

-- a step logs one transaction at most
pub logged_at_most : (s : SiteId) (step : Step) → (logged s step ≡ []) ⊎ ((x : Tid) × (logged s step ≡ x ∷ []))
logged_at_most s (Commit x us) = one_or_none (same_site x.site s) x
logged_at_most s (Arrive x site) = one_or_none (same_site site s) x
logged_at_most s (Start x site) = inl refl
logged_at_most s (Op x u) = inl refl
logged_at_most s (Read x oid answer) = inl refl
logged_at_most s (Abort x cause) = inl refl
logged_at_most s (Told x what) = inl refl

-- an op of the transaction does its update
pub done_op : (x : Tid) (u : Update) → done x (Op x u) ≡ u ∷ []
done_op x u = rw (same_tid_refl x) refl

-- a step that is no op of the transaction does nothing for it
pub done_none : (x : Tid) (step : Step) → ((u : Update) → step ≢ Op x u) → done x step ≡ []
done_none x (Op y u) other =
    rw (false_from_ne_true (same_tid x y) (λ is. other u (ap (λ z. Op z u) (sym (same_tid-true x y is))))) refl
done_none x (Start y site) other = refl
done_none x (Read y oid answer) other = refl
done_none x (Commit y us) other = refl
done_none x (Arrive y site) other = refl
done_none x (Abort y cause) other = refl
done_none x (Told y what) other = refl

-- a commit gives the transaction its updates
pub given_commit : (x : Tid) (us : List Update) → given x (Commit x us) ≡ us
given_commit x us = rw (same_tid_refl x) refl

-- a step that is no commit of the transaction gives it nothing
pub given_none : (x : Tid) (step : Step) → ((us : List Update) → step ≢ Commit x us) → given x step ≡ []
given_none x (Commit y us) other =
    rw (false_from_ne_true (same_tid x y) (λ is. other us (ap (λ z. Commit z us) (sym (same_tid-true x y is))))) refl
given_none x (Start y site) other = refl
given_none x (Op y u) other = refl
given_none x (Read y oid answer) other = refl
given_none x (Arrive y site) other = refl
given_none x (Abort y cause) other = refl
given_none x (Told y what) other = refl
