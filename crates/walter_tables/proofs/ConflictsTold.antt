-- What stands in the way of a commit by the tables is what does by the rules.
use Rattle.std.proofs.Common.{◌≡◌, ℕ, Bool, true, false, List, [], ◌∷◌, map, All, Option, Some, None, refl, ap, sym, ◌∙◌}
use Rattle.std.specs.Prelude.{◌↔◌, IsTrue, filter_map, slice_get, Contains}
use Rattle.std.specs.List.{cons_option}
use Rattle.walter_base.specs.declared.names.ObjId.{ObjId}
use Rattle.walter_base.specs.declared.names.Tid.{Tid}
use Rattle.walter_base.specs.declared.names.Version.{Version}
use Rattle.walter_base.specs.declared.transaction.Conflict.{Conflict}
use Rattle.walter_base.specs.Conflicts.{first_outside, conflict_over}
use Rattle.walter_alone.proofs.TestsPass.{all_of}
use Rattle.walter_decide.specs.Firsts.{conflict_at as conflict_by, first_conflict as first_by}
use Rattle.walter_locks.specs.Parts.{owner_of}
use Rattle.walter_rows.proofs.HeldRows.{first_held}
use Rattle.walter_rules.specs.Conflicts.{conflict_at, first_conflict}
use Rattle.walter_rules.specs.Knowledge.{Knowledge}
use Rattle.walter_rules.specs.Log.{row, version_of}
use Rattle.walter_rules.specs.Slow.{Part, Free, Locked, Over}
use Rattle.walter_rules.proofs.Membership.{first_in, later_in, none_given}
use Rattle.walter_tables.specs.Standing.{Values, StandFor}
use Rattle.walter_tables.specs.Versions.{versions_of}

-- two maps with gaps that agree at each element
same_given : {X Y : Type 0} (f g : X → Option Y) (xs : List X) → ((x : X) → Contains xs x → f x ≡ g x)
    → filter_map f xs ≡ filter_map g xs
same_given f g [] same = refl
same_given f g (x ∷ xs) same =
    ap (λ o. cons_option o (filter_map f xs)) (same x (first_in x xs))
    ∙ ap (cons_option (g x)) (same_given f g xs (λ y within. same y (later_in x xs y within)))

module _ (V : Values) (K : Knowledge) (S : StandFor V K) (v : List ℕ) where
  same_conflict : (oid : ObjId) → conflict_by (versions_of V.history) (owner_of V.locks) v oid ≡ conflict_at K v oid
  same_conflict oid =
      ap (λ (first : Option Version). conflict_over oid first (owner_of V.locks oid))
      (ap (first_outside v) (S.rows.stand oid).versions ∙ first_held v oid K.log)
      ∙ ap (conflict_over oid (first_outside v (map version_of (row oid K.log)))) (S.locks.owners oid)

  pub conflict_told : (objects : List ObjId)
      → first_by (versions_of V.history) (owner_of V.locks) v objects ≡ first_conflict K v objects
  conflict_told objects =
      ap (λ (conflicts : List Conflict). slice_get conflicts 0)
      (same_given (conflict_by (versions_of V.history) (owner_of V.locks) v) (conflict_at K v) objects
      (λ oid within. same_conflict oid))

-- an object that meets no conflict isn't locked
not_owned : (oid : ObjId) (first : Option Version) (owner : Option Tid) → conflict_over oid first owner ≡ None
    → owner ≡ None
not_owned oid (Some version) owner none = absurd cc
not_owned oid None None none = refl
not_owned oid None (Some tid) none = absurd cc

pub not_locked : (versions : ObjId → List Version) (lock : ObjId → Option Tid) (v : List ℕ) (objects : List ObjId)
    → first_by versions lock v objects ≡ None → All (λ oid. lock oid ≡ None) objects
not_locked versions lock v objects none = all_of (λ (oid : ObjId). lock oid ≡ None) objects
    (λ oid within. not_owned oid (first_outside v (versions oid)) (lock oid)
    (none_given (conflict_by versions lock v) objects oid none within))

-- there is nothing of a slow commit that is neither over nor has a lock
pub nothing_there : (part : Part) (dead held : Bool) → IsTrue dead ↔ (part ≡ Over)
    → IsTrue held ↔ ((tid : Tid) × (objects : List ObjId) × (part ≡ Locked tid objects)) → dead ≡ false → held ≡ false
    → part ≡ Free
nothing_there Free dead held is_dead is_held alive unheld = refl
nothing_there (Locked tid objects) dead held is_dead is_held alive unheld =
    absurd (let is = is_held.1 (tid, objects, refl) in let none : false ≡ true = sym unheld ∙ is in cc)
nothing_there Over dead held is_dead is_held alive unheld =
    absurd (let is = is_dead.1 refl in let none : false ≡ true = sym alive ∙ is in cc)
