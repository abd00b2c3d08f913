-- Versions that a vector sees: one more of them, and none of them outside what covers the vector.
use Rattle.std.proofs.Common.{◌≡◌, ℕ, Bool, true, cond, not, filter, List, [], ◌∷◌, ◌++◌, slice_get, Option, None, All, refl, sym, subst}
use Rattle.std.proofs.lemmas.List.Elements.{All-head, All-push, All-tail}
use Rattle.walter_base.specs.declared.names.Version.{Version}
use Rattle.walter_base.specs.Conflicts.{sees_version, first_outside}
use Rattle.walter_history.specs.Reaches.{Reaches}

pub reaches_push : (old new : Option (List ℕ)) (versions : List Version) (version : Version)
    → ((other : Version) → Reaches old other → Reaches new other) → All (Reaches old) versions → Reaches new version
    → All (Reaches new) (versions ++ version ∷ [])
reaches_push old new versions version keeps all one =
    All-push (Reaches new) versions version (λ k d within. keeps _ (all k d within)) one

pub none_outside : (by : List ℕ) (versions : List Version) → All (λ v. sees_version by v ≡ true) versions → first_outside by versions ≡ None
none_outside by [] all = refl
none_outside by (v ∷ vs) all =
    let seen = λ (o : Version). sees_version by o ≡ true in
    let outside = λ (o : Version). not (sees_version by o) in
    let rest = none_outside by vs (All-tail seen v vs all) in
    subst (λ (b : Bool). slice_get (cond (not b) (v ∷ filter outside vs) (filter outside vs)) 0 ≡ None) (sym (All-head seen v vs all)) rest
