-- The last writers of objects, kept commit by commit.
use Rattle.std.proofs.Common.{◌≡◌, ◌≢◌, ◌+◌, ℕ, zero, suc, List, [], ◌∷◌, ◌++◌, take, slice_get, Some, None, refl, ap, sym, ◌∙◌, subst, arith, inl, inr, true, false, cond, if◌then◌else◌}
use Rattle.std.specs.Prelude.{Option, Bool}
use Rattle.std.proofs.lemmas.Bool.{cases_Bool}
use Rattle.std.proofs.lemmas.List.{append-nil, append_assoc}
use Rattle.std.proofs.lemmas.List.Elements.{Contains-append_left, Contains-append_right}
use Rattle.walter_base.specs.declared.names.ObjId.{ObjId}
use Rattle.walter_base.specs.declared.names.Version.{Version}
use Rattle.walter_base.specs.declared.update.Update.{Update}
use Rattle.walter_base.specs.declared.update.Update.TheVariants.{Write, Add, Del}
use Rattle.walter_base.specs.Names.{same_object}
use Rattle.walter_base.specs.Values.{written, write_set}
use Rattle.walter_base.proofs.NameTests.{same_object-true, same_object_refl}
use Rattle.walter_psi.proofs.Lists.{Contains-one}
use Rattle.walter_rules.specs.Slow.{has_object}
use Rattle.walter_rules.proofs.Membership.{first_in}
use Rattle.walter_agreement.proofs.Cases.{object_in}
use Rattle.walter_alone.proofs.TestsPass.{some_pass}
use Rattle.walter_agreement.proofs.Lists.{take_push}
use Rattle.walter_audit.specs.Lasts.{last_behind, last_after, SeesAt, SeeLast}
use Rattle.walter_audit.specs.Orders.{Taken}

-- behind some, one more
last_push : (last : ObjId → Option Version) (ts : List Taken) (t : Taken) (oid : ObjId)
    → last_after last (ts ++ t ∷ []) oid ≡ last_behind (last_after last ts) t oid
last_push last [] t oid = by t
  where
    by : (u : Taken) → last_behind last u oid ≡ last_behind (last_after last []) u oid
    by u = refl
last_push last (s ∷ ts) t oid = last_push (last_behind last s) ts t oid

see_push : (last : ObjId → Option Version) (ts : List Taken) (t : Taken) → SeeLast last ts → SeesAt (last_after last ts) t
    → SeeLast last (ts ++ t ∷ [])
see_push last [] t sees here = (here, tt)
see_push last (s ∷ ts) t sees here = (sees.0, see_push (last_behind last s) ts t sees.1 here)

-- those so far see the last writers, which are these
pub record SeeSoFar (order : List Taken) (upto : ℕ) (now : ObjId → Option Version) : Type 0 where
  pub see : SeeLast (λ oid. None) (take upto order)
  pub is : (oid : ObjId) → now oid ≡ last_after (λ o. None) (take upto order) oid

pub see_more : (order : List Taken) (upto : ℕ) (t : Taken) (now new : ObjId → Option Version)
    → slice_get order upto ≡ Some t → SeesAt now t → ((oid : ObjId) → new oid ≡ last_behind now t oid)
    → SeeSoFar order upto now → SeeSoFar order (upto + 1) new
see_more order upto t now new at sees behind S =
    let same : now ≡ last_after (λ o. None) (take upto order) = λ x oid. S.is oid x in
    let n : upto + 1 ≡ suc upto = omega arith in
    let front : take (upto + 1) order ≡ take upto order ++ t ∷ [] = ap (λ m. take m order) n ∙ take_push order upto t at in
    record {
      see = subst (λ ts. SeeLast (λ o. None) ts) (sym front)
          (see_push (λ o. None) (take upto order) t S.see (subst (λ last. SeesAt last t) same sees));
      is = λ oid. behind oid ∙ (ap (λ last. last_behind last t oid) same
          ∙ (sym (last_push (λ o. None) (take upto order) t oid) ∙ ap (λ ts. last_after (λ o. None) ts oid) (sym front)));
    }

-- an object of two lists
has-append : (oid : ObjId) (xs ys : List ObjId) → has_object oid xs ≡ false → has_object oid (xs ++ ys) ≡ has_object oid ys
has-append oid [] ys none = refl
has-append oid (x ∷ xs) ys none = by (same_object oid x) refl (λ n. has-append oid xs ys n)
  where
    by : (b : Bool) → same_object oid x ≡ b → (has_object oid xs ≡ false → has_object oid (xs ++ ys) ≡ has_object oid ys)
        → has_object oid (x ∷ xs ++ ys) ≡ has_object oid ys
    by true is rest = absurd (let some = some_pass (same_object oid) (x ∷ xs) x (first_in x xs) is in
        (let e : true ≡ false = sym some ∙ none in cc))
    by false is rest = rw is (rest (rw is at none))

has-first : (oid : ObjId) (xs ys : List ObjId) → has_object oid xs ≡ true → has_object oid (xs ++ ys) ≡ true
has-first oid xs ys some =
    some_pass (same_object oid) (xs ++ ys) oid (Contains-append_left xs ys oid (object_in oid xs some)) (same_object_refl oid)

write_more : (updates : List Update) (i : ℕ) (u : Update) → slice_get updates i ≡ Some u
    → write_set (take (i + 1) updates) ≡ write_set (take i updates) ++ written u
write_more updates i u at =
    let n : i + 1 ≡ suc i = omega arith in
    ap (λ m. write_set (take m updates)) n ∙ by updates i at
  where
    by : (us : List Update) (k : ℕ) → slice_get us k ≡ Some u → write_set (take (suc k) us) ≡ write_set (take k us) ++ written u
    by [] k get = absurd cc
    by (y ∷ us) zero get = let e : y ≡ u = cc in append-nil (written y) ∙ ap written e
    by (y ∷ us) (suc k) get = ap (λ rest. written y ++ rest) (by us k get)
        ∙ sym (append_assoc (written y) (write_set (take k us)) (written u))

-- the version is that of the last writer of what the updates so far write
module _ (version : Version) (had : ObjId → Option Version) (updates : List Update) where
  abbrev pub ArePut : ℕ → (ObjId → Option Version) → Type 0
  ArePut upto now = (oid : ObjId) → now oid ≡ (if has_object oid (write_set (take upto updates)) then Some version else had oid)

  pub put_write : (upto : ℕ) (oid : ObjId) (bytes : List ℕ) (now new : ObjId → Option Version)
      → slice_get updates upto ≡ Some (Write oid bytes)
      → ((o : ObjId) → new o ≡ cond (same_object oid o) (Some version) (now o)) → ArePut upto now → ArePut (upto + 1) new
  put_write upto oid bytes now new at put P o =
      let more : write_set (take (upto + 1) updates) ≡ write_set (take upto updates) ++ oid ∷ [] = write_more updates upto (Write oid bytes) at in
      put o ∙ (elim (cases_Bool (same_object oid o)) [
        | inl is ↦
            let same = same_object-true oid o is in
            let has : has_object o (write_set (take upto updates) ++ oid ∷ []) ≡ true =
            some_pass (same_object o) (write_set (take upto updates) ++ oid ∷ []) oid
            (Contains-append_right (write_set (take upto updates)) (oid ∷ []) oid (first_in oid []))
            (ap (same_object o) same ∙ same_object_refl o) in
            ap (λ b. cond b (Some version) (now o)) is
            ∙ sym (ap (λ b. if b then Some version else had o) (ap (has_object o) more ∙ has))
        | inr other ↦
            let one : has_object o (oid ∷ []) ≡ false = elim (cases_Bool (has_object o (oid ∷ []))) [
              | inr none ↦ none
              | inl some ↦ absurd (
                  let e = Contains-one oid o (object_in o (oid ∷ []) some) in
                  let f : true ≡ false = sym (ap (same_object oid) (sym e) ∙ same_object_refl oid) ∙ other in cc)
            ] in
            ap (λ b. cond b (Some version) (now o)) other ∙ (P o ∙ ap (λ b. if b then Some version else had o)
            (both (write_set (take upto updates)) one ∙ sym (ap (has_object o) more)))
      ])
    where
      both : (ws : List ObjId) → has_object o (oid ∷ []) ≡ false → has_object o ws ≡ has_object o (ws ++ oid ∷ [])
      both ws one = elim (cases_Bool (has_object o ws)) [
        | inl some ↦ some ∙ sym (has-first o ws (oid ∷ []) some)
        | inr none ↦ none ∙ sym (has-append o ws (oid ∷ []) none ∙ one)
      ]

  pub put_other : (upto : ℕ) (u : Update) (now : ObjId → Option Version) → slice_get updates upto ≡ Some u
      → ((oid : ObjId) (bytes : List ℕ) → u ≢ Write oid bytes) → ArePut upto now → ArePut (upto + 1) now
  put_other upto u now at other P o =
      P o ∙ ap (λ ws. if has_object o ws then Some version else had o)
      (sym (write_more updates upto u at ∙ (ap (λ w. write_set (take upto updates) ++ w) (nothing u other) ∙ append-nil (write_set (take upto updates)))))
    where
      nothing : (z : Update) → ((oid : ObjId) (bytes : List ℕ) → z ≢ Write oid bytes) → written z ≡ []
      nothing (Write oid bytes) never = absurd (never oid bytes refl)
      nothing (Add oid id) never = refl
      nothing (Del oid id) never = refl
