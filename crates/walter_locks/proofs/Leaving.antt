-- The locks of one coordinator go.
use Rattle.std.proofs.Common.{◌≡◌, ◌<◌, ◌+◌, ℕ, Bool, true, false, not, ◌&&◌, ◌||◌, cond, List, [], ◌∷◌, take, length, slice_get, Option, Some, None, inl, inr, refl, ap, sym, ◌∙◌, subst, arith, if◌then◌else◌}
use Rattle.std.specs.List.{list_any}
use Rattle.std.specs.Map.{lookup}
use Rattle.std.specs.Option.{option_map_or}
use Rattle.std.proofs.lemmas.List.Folds.{list_any_more}
use Rattle.std.proofs.lemmas.Option.{slice_get_cases}
use Rattle.walter_base.specs.declared.names.ObjId.{ObjId}
use Rattle.walter_base.specs.declared.names.SiteId.{SiteId}
use Rattle.walter_base.specs.declared.names.Tid.{Tid}
use Rattle.walter_base.specs.Names.{same_site}
use Rattle.walter_base.proofs.NameTests.{same_site-true, same_site_refl}
use Rattle.walter_rules.specs.Slow.{has_object}
use Rattle.walter_locks.specs.declared.lock.Lock.{Lock}
use Rattle.walter_locks.specs.declared.lock.SlowId.{SlowId}
use Rattle.walter_locks.specs.Parts.{of_others, same_slow, lock_of, owner_in, is_lock_by, is_locked_by, AreSingle}
use Rattle.walter_locks.proofs.SingleLocks.{same_slow-true, owner_found, lock_found, one_lock, no_owner}

any_more : {X : Type 0} (test : X → Bool) (xs : List X) (place : ℕ) → place < length xs
    → list_any test (take (place + 1) xs) ≡ (list_any test (take place xs) || option_map_or test (slice_get xs place) false)
any_more test xs place within = elim (slice_get_cases xs place).1 [
  | inl w ↦ list_any_more test xs place w.0 within ∙ ap (λ b. list_any test (take place xs) || b) (ap test w.3 ∙ sym (ap (λ o. option_map_or test o false) w.2))
  | inr w ↦ absurd (omega (arith, within, w.0))
]

either : {X : Type 0} (here before : Bool) (w old : X) → (if here then w else (if before then w else old)) ≡ (if before || here then w else old)
either true true w old = refl
either true false w old = refl
either false true w old = refl
either false false w old = refl

-- one more of the locks
pub one_more_lock : (coordinator : SiteId) (es : List (SlowId × Lock)) (place : ℕ) (o : ObjId) (w old now new : Option Tid) → place < length es
    → new ≡ (if option_map_or (λ e. is_lock_by coordinator e o) (slice_get es place) false then w else now)
    → now ≡ (if is_locked_by coordinator (take place es) o then w else old)
    → new ≡ (if is_locked_by coordinator (take (place + 1) es) o then w else old)
one_more_lock coordinator es place o w old now new within is before =
    is ∙ ap (λ x. if option_map_or (λ e. is_lock_by coordinator e o) (slice_get es place) false then w else x) before
    ∙ either (option_map_or (λ e. is_lock_by coordinator e o) (slice_get es place) false) (is_locked_by coordinator (take place es) o) w old
    ∙ ap (λ b. if b then w else old) (sym (any_more (λ e. is_lock_by coordinator e o) es place within))

nothing : {T : Type 0} (b : Bool) (x : Option T) → x ≡ None → None ≡ cond b None x
nothing true x is = refl
nothing false x is = sym is

module _ (coordinator : SiteId) where
  -- what is found in them
  lookup_others : (key : SlowId) (es : List (SlowId × Lock)) → lookup (same_slow key) (of_others coordinator es) ≡ cond (same_site coordinator key.coordinator) None (lookup (same_slow key) es)
  lookup_others key [] = nothing (same_site coordinator key.coordinator) None refl
  lookup_others key (e ∷ es) = elim (same_site coordinator e.0.coordinator) as (λ b. same_site coordinator e.0.coordinator ≡ b
      → lookup (same_slow key) (if not b then e ∷ of_others coordinator es else of_others coordinator es) ≡ cond (same_site coordinator key.coordinator) None (cond (same_slow key e.0) (Some e.1) (lookup (same_slow key) es))) [
        | true ↦ λ theirs. lookup_others key es ∙ (elim (same_slow key e.0) as (λ s. same_slow key e.0 ≡ s → cond (same_site coordinator key.coordinator) None (lookup (same_slow key) es) ≡ cond (same_site coordinator key.coordinator) None (cond s (Some e.1) (lookup (same_slow key) es))) [
          | true ↦ λ same. let here : same_site coordinator key.coordinator ≡ true = subst (λ (k : SlowId). same_site coordinator k.coordinator ≡ true) (sym (same_slow-true key e.0 same)) theirs in
              ap (λ b. cond b None (lookup (same_slow key) es)) here ∙ sym (ap (λ b. cond b None (Some e.1)) here)
          | false ↦ λ other. refl
        ] refl)
        | false ↦ λ other. elim (same_slow key e.0) as (λ s. same_slow key e.0 ≡ s → cond s (Some e.1) (lookup (same_slow key) (of_others coordinator es)) ≡ cond (same_site coordinator key.coordinator) None (cond s (Some e.1) (lookup (same_slow key) es))) [
          | true ↦ λ same. let here : same_site coordinator key.coordinator ≡ false = subst (λ (k : SlowId). same_site coordinator k.coordinator ≡ false) (sym (same_slow-true key e.0 same)) other in
              sym (ap (λ b. cond b None (Some e.1)) here)
          | false ↦ λ apart. lookup_others key es
        ] refl
      ] refl

  pub locks_left : (es : List (SlowId × Lock)) (j : SiteId) (n : ℕ) → lock_of (of_others coordinator es) j n ≡ cond (same_site coordinator j) None (lock_of es j n)
  locks_left es j n = lookup_others (record { coordinator = j; slow = n }) es

  free_of_theirs : (es : List (SlowId × Lock)) (oid : ObjId) → owner_in es oid ≡ None → is_locked_by coordinator es oid ≡ false
  free_of_theirs [] oid none = refl
  free_of_theirs (e ∷ es) oid none =
      let parts = no_owner (has_object oid e.1.objects) e.1.owner (owner_in es oid) none in
      ap (λ b. (same_site coordinator e.0.coordinator && b) || is_locked_by coordinator es oid) parts.0
      ∙ ap (λ b. b || is_locked_by coordinator es oid) (and_false (same_site coordinator e.0.coordinator)) ∙ free_of_theirs es oid parts.1
    where
      and_false : (b : Bool) → (b && false) ≡ false
      and_false true = refl
      and_false false = refl

  -- an object is free, where a lock of the coordinator had it
  pub owner_others : (es : List (SlowId × Lock)) (oid : ObjId) → AreSingle es → owner_in (of_others coordinator es) oid ≡ (if is_locked_by coordinator es oid then None else owner_in es oid)
  owner_others [] oid single = refl
  owner_others (e ∷ es) oid single = by (same_site coordinator e.0.coordinator) (has_object oid e.1.objects) refl (owner_others es oid single.2)
    where
      by : (theirs has : Bool) → has_object oid e.1.objects ≡ has → owner_in (of_others coordinator es) oid ≡ (if is_locked_by coordinator es oid then None else owner_in es oid)
          → owner_in (if not theirs then e ∷ of_others coordinator es else of_others coordinator es) oid ≡ (if (theirs && has) || is_locked_by coordinator es oid then None else (if has then Some e.1.owner else owner_in es oid))
      by true true is rest = rest ∙ sym (nothing (is_locked_by coordinator es oid) (owner_in es oid) (single.1 oid is))
      by true false is rest = rest
      by false true is rest =
          ap (λ b. if b then Some e.1.owner else owner_in (of_others coordinator es) oid) is
          ∙ sym (ap (λ b. if b then None else Some e.1.owner) (free_of_theirs es oid (single.1 oid is)))
      by false false is rest = ap (λ b. if b then Some e.1.owner else owner_in (of_others coordinator es) oid) is ∙ rest

  pub single_others : (es : List (SlowId × Lock)) → AreSingle es → AreSingle (of_others coordinator es)
  single_others [] single = tt
  single_others (e ∷ es) single = elim (same_site coordinator e.0.coordinator) as (λ b. AreSingle (if not b then e ∷ of_others coordinator es else of_others coordinator es)) [
    | true ↦ single_others es single.2
    | false ↦ (
      lookup_others e.0 es ∙ sym (nothing (same_site coordinator e.0.coordinator) (lookup (same_slow e.0) es) single.0),
      (λ oid has. owner_others es oid single.2 ∙ sym (nothing (is_locked_by coordinator es oid) (owner_in es oid) (single.1 oid has))),
      single_others es single.2,
    )
  ]

  found_other : (b : Bool) (o : Option Lock) (l : Lock) → cond b None o ≡ Some l → (b ≡ false) × (o ≡ Some l)
  found_other true o l is = absurd (cc)
  found_other false o l is = (refl, is)

  module _ (es : List (SlowId × Lock)) (single : AreSingle es) (oid : ObjId) where
    pub no_owner_of_theirs : (n : ℕ) (l : Lock) → lock_of es coordinator n ≡ Some l → has_object oid l.objects ≡ true → owner_in (of_others coordinator es) oid ≡ None
    no_owner_of_theirs n l at has = elim (owner_in (of_others coordinator es) oid) as (λ o. owner_in (of_others coordinator es) oid ≡ o → o ≡ None) [
      | None ↦ λ is. refl
      | Some tid ↦ λ is.
          let f = lock_found (of_others coordinator es) oid tid (single_others es single) is in
          let parts = found_other (same_site coordinator f.0.coordinator) (lookup (same_slow f.0) es) f.1 (sym (lookup_others f.0 es) ∙ f.2) in
          let one = one_lock (record { coordinator = coordinator; slow = n }) f.0 l f.1 es oid single at parts.1 has f.4 in
          let theirs = subst (λ (k : SlowId). same_site coordinator k.coordinator ≡ true) one (same_site_refl coordinator) in
          let other = parts.0 in
          absurd (cc)
    ] refl

    pub owner_of_others : ((n : ℕ) (l : Lock) → lock_of es coordinator n ≡ Some l → has_object oid l.objects ≡ false) → owner_in (of_others coordinator es) oid ≡ owner_in es oid
    owner_of_others none = elim (owner_in es oid) as (λ o. owner_in es oid ≡ o → owner_in (of_others coordinator es) oid ≡ o) [
      | None ↦ λ is. owner_others es oid single ∙ sym (nothing (is_locked_by coordinator es oid) (owner_in es oid) is)
      | Some tid ↦ λ is.
          let f = lock_found es oid tid single is in
          elim (same_site coordinator f.0.coordinator) as (λ b. same_site coordinator f.0.coordinator ≡ b → owner_in (of_others coordinator es) oid ≡ Some tid) [
            | true ↦ λ theirs.
                let at = subst (λ j. lock_of es j f.0.slow ≡ Some f.1) (sym (same_site-true coordinator f.0.coordinator theirs)) f.2 in
                let no = none f.0.slow f.1 at in
                let yes = f.4 in
                absurd (cc)
            | false ↦ λ other.
                let at : lookup (same_slow f.0) (of_others coordinator es) ≡ Some f.1 = lookup_others f.0 es ∙ ap (λ b. cond b None (lookup (same_slow f.0) es)) other ∙ f.2 in
                owner_found f.0 f.1 (of_others coordinator es) oid (single_others es single) at f.4 ∙ ap (λ t. Some t) f.3
          ] refl
    ] refl
