-- The quick look for conflicts: along an order, each commit sees the last writer before it of each object that it
-- writes. Since seeing is transitive, no two commits conflict then.
use Rattle.std.proofs.Common.{◌≡◌, ◌≢◌, ◌≤◌, ◌⊎◌, ℕ, List, [], ◌∷◌, slice_get, Some, ap, sym, ◌∙◌, refl, subst, inl, inr, true, if◌then◌else◌}
use Rattle.std.specs.Prelude.{Option, Contains}
use Rattle.std.proofs.lemmas.Bool.{cases_Bool}
use Rattle.std.proofs.lemmas.Option.{same_Some}
use Rattle.walter_base.specs.declared.catalog.Catalog.{Catalog}
use Rattle.walter_base.specs.declared.message.Record.TheVariants.{Own}
use Rattle.walter_base.specs.declared.names.ObjId.{ObjId}
use Rattle.walter_base.specs.declared.names.SiteId.{SiteId}
use Rattle.walter_base.specs.declared.names.Version.{Version}
use Rattle.walter_base.specs.declared.transaction.Tx.{Tx}
use Rattle.walter_base.specs.Values.{write_set}
use Rattle.walter_base.specs.Vectors.{entry_at}
use Rattle.walter_base.specs.Names.{same_object}
use Rattle.walter_base.proofs.NameTests.{same_object_refl}
use Rattle.walter_psi.proofs.Lists.{Contains-nil}
use Rattle.walter_rules.specs.Slow.{has_object}
use Rattle.walter_rules.proofs.Membership.{in_cases, first_in, later_in}
use Rattle.walter_agreement.proofs.Cases.{object_in}
use Rattle.walter_alone.proofs.TestsPass.{some_pass}
use Rattle.walter_audit.specs.Journals.{Journals}
use Rattle.walter_audit.specs.Orders.{Starts, Commits, Arrives, Taken}
use Rattle.walter_audit.specs.Lasts.{SeesLast, last_behind, SeeLast}
use Rattle.walter_audit.proofs.Clear.{AreClear, seen_through}

module _ (catalog : Catalog) (J : Journals) (C : AreClear catalog J) where
  -- a commit of the journals, by its version
  abbrev pub IsCommit : SiteId → ℕ → Tx → Type 0
  IsCommit i m x = (p : ℕ) × (slice_get (J i) p ≡ Some (Own m x))

  -- each of these is one
  abbrev pub AreCommits : List Taken → Type 0
  AreCommits ts = (i : SiteId) (p seq : ℕ) (tx : Tx) → Contains ts (i, Commits p seq tx) → slice_get (J i) p ≡ Some (Own seq tx)

  -- where a commit is the last writer of an object, or is seen by it, each later writer sees it
  pub later_sees : (ts : List Taken) → AreCommits ts → (last : ObjId → Option Version) → SeeLast last ts → (oid : ObjId)
      → (i : SiteId) (m : ℕ) (x : Tx) → IsCommit i m x
      → ((v : Version) → last oid ≡ Some v → (y : Tx) × IsCommit v.site v.seq y
      × ((m ≤ entry_at y.start i) ⊎ ((v.site ≡ i) × (v.seq ≡ m))))
      → ((v : Version) × (last oid ≡ Some v))
      → (k : SiteId) (q n : ℕ) (z : Tx) → Contains ts (k, Commits q n z) → Contains (write_set z.updates) oid
      → m ≤ entry_at z.start i
  later_sees [] are last sees oid i m x own known some k q n z c w = absurd (Contains-nil (k, Commits q n z) c)
  later_sees ((j, Starts p tx) ∷ ts) are last sees oid i m x own known some k q n z c w =
      elim (in_cases (j, Starts p tx) ts (k, Commits q n z) c) [
        | inl first ↦ absurd (let e : Starts p tx ≡ Commits q n z = ap (λ (t : Taken). t.1) first in cc)
        | inr later ↦ later_sees ts (λ a b s t d. are a b s t (later_in (j, Starts p tx) ts (a, Commits b s t) d)) last sees.1
            oid i m x own known some k q n z later w
      ]
  later_sees ((j, Arrives p l seq) ∷ ts) are last sees oid i m x own known some k q n z c w =
      elim (in_cases (j, Arrives p l seq) ts (k, Commits q n z) c) [
        | inl first ↦ absurd (let e : Arrives p l seq ≡ Commits q n z = ap (λ (t : Taken). t.1) first in cc)
        | inr later ↦ later_sees ts (λ a b s t d. are a b s t (later_in (j, Arrives p l seq) ts (a, Commits b s t) d)) last sees.1
            oid i m x own known some k q n z later w
      ]
  later_sees ((j, Commits p seq tx) ∷ ts) are last sees oid i m x own known some k q n z c w =
      let here : slice_get (J j) p ≡ Some (Own seq tx) = are j p seq tx (first_in (j, Commits p seq tx) ts) in
      let v = some.0 in
      let y = known v some.1 in
      -- a writer here sees the last, and so the commit
      let seen_here : Contains (write_set tx.updates) oid → m ≤ entry_at tx.start i = λ writes.
      let last_seen : v.seq ≤ entry_at tx.start v.site = subst (λ o. SeesLast tx.start o) some.1 (sees.0 oid writes) in
      elim y.2 [
        | inl through ↦ seen_through catalog J C i v.site j own.0 y.1.0 p m v.seq seq x y.0 tx own.1 y.1.1 here through last_seen
        | inr same ↦ subst (λ s. m ≤ entry_at tx.start s) same.0 (subst (λ u. u ≤ entry_at tx.start v.site) same.1 last_seen)
      ] in
      elim (in_cases (j, Commits p seq tx) ts (k, Commits q n z) c) [
        | inl first ↦
            let item : Commits p seq tx ≡ Commits q n z = ap (λ (t : Taken). t.1) first in
            let same : tx ≡ z = cc in
            subst (λ (u : Tx). m ≤ entry_at u.start i) same
            (seen_here (subst (λ (u : Tx). Contains (write_set u.updates) oid) (sym same) w))
        | inr later ↦
            let last2 = λ (o : ObjId). if has_object o (write_set tx.updates) then Some (record { site = j; seq = seq }) else last o in
            let rest = later_sees ts (λ a b s t d. are a b s t (later_in (j, Commits p seq tx) ts (a, Commits b s t) d)) last2 sees.1
            oid i m x own in
            elim (cases_Bool (has_object oid (write_set tx.updates))) [
              | inl writes ↦
                  let now : last2 oid ≡ Some (record { site = j; seq = seq }) =
                  ap (λ b. if b then Some (record { site = j; seq = seq }) else last oid) writes in
                  rest (λ u e.
                  let is : record { site = j; seq = seq } ≡ u = same_Some (record { site = j; seq = seq }) u (sym now ∙ e) in
                  subst (λ (t : Version). (y : Tx) × IsCommit t.site t.seq y × ((m ≤ entry_at y.start i) ⊎ ((t.site ≡ i) × (t.seq ≡ m)))) is
                  (tx, (p, here), inl (seen_here (object_in oid (write_set tx.updates) writes))))
                  (record { site = j; seq = seq }, now) k q n z later w
              | inr others ↦
                  let now : last2 oid ≡ last oid =
                  ap (λ b. if b then Some (record { site = j; seq = seq }) else last oid) others in
                  rest (λ u e. known u (sym now ∙ e)) (v, now ∙ some.1) k q n z later w
            ]
      ]

  -- the first of two that write one object is seen by the other
  pub first_seen : (ts : List Taken) → AreCommits ts → (last : ObjId → Option Version) → SeeLast last ts → (oid : ObjId)
      → (i k : SiteId) (p q m n : ℕ) (x z : Tx) → Contains ts (i, Commits p m x) → Contains ts (k, Commits q n z)
      → ◌≢◌ {A = Taken} (i, Commits p m x) (k, Commits q n z) → Contains (write_set x.updates) oid → Contains (write_set z.updates) oid
      → (m ≤ entry_at z.start i) ⊎ (n ≤ entry_at x.start k)
  first_seen [] are last sees oid i k p q m n x z c d apart w v = absurd (Contains-nil (i, Commits p m x) c)
  first_seen (t ∷ ts) are last sees oid i k p q m n x z c d apart w v =
      elim (in_cases t ts (i, Commits p m x) c) [
        | inl here ↦ elim (in_cases t ts (k, Commits q n z) d) [
          | inl there ↦ absurd (apart (sym here ∙ there))
          | inr later ↦ inl (behind_it i k p q m n x z here c w later v)
        ]
        | inr later ↦ elim (in_cases t ts (k, Commits q n z) d) [
          | inl there ↦ inr (behind_it k i q p n m z x there d v later w)
          | inr both ↦ first_seen ts more (last_behind last t) sees.1 oid i k p q m n x z later both apart w v
        ]
      ]
    where
      more : AreCommits ts
      more a b s u e = are a b s u (later_in t ts (a, Commits b s u) e)

      behind_it : (i k : SiteId) (p q m n : ℕ) (x z : Tx) → ◌≡◌ {A = Taken} t (i, Commits p m x) → Contains (t ∷ ts) (i, Commits p m x)
          → Contains (write_set x.updates) oid → Contains ts (k, Commits q n z) → Contains (write_set z.updates) oid
          → m ≤ entry_at z.start i
      behind_it i k p q m n x z here c w later v =
          let rest : SeeLast (last_behind last (i, Commits p m x)) ts = subst (λ (u : Taken). SeeLast (last_behind last u) ts) here sees.1 in
          let version : Version = record { site = i; seq = m } in
          let own : IsCommit i m x = (p, are i p m x c) in
          let writes : has_object oid (write_set x.updates) ≡ true = some_pass (same_object oid) (write_set x.updates) oid w (same_object_refl oid) in
          let now : last_behind last (i, Commits p m x) oid ≡ Some version = ap (λ b. if b then Some version else last oid) writes in
          later_sees ts more (last_behind last (i, Commits p m x)) rest oid i m x own
          (λ u e.
          let is : version ≡ u = same_Some version u (sym now ∙ e) in
          subst (λ (s : Version). (y : Tx) × IsCommit s.site s.seq y × ((m ≤ entry_at y.start i) ⊎ ((s.site ≡ i) × (s.seq ≡ m)))) is
          (x, own, inr (refl, refl)))
          (version, now) k q n z later v
