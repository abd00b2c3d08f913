-- The names of a site's own commits, kept one by one.
use Rattle.std.proofs.Common.{◌≡◌, ◌≢◌, ◌<◌, ◌+◌, ℕ, List, slice_get, Some, true, false, refl, ap, sym, ◌∙◌, subst, arith, inl, inr, cond}
use Rattle.std.specs.Prelude.{Bool, not}
use Rattle.std.specs.HashSet.{HashSet, contains, Updates}
use Rattle.std.proofs.lemmas.Option.{same_Some}
use Rattle.walter_base.specs.declared.message.Record.{Record}
use Rattle.walter_base.specs.declared.message.Record.TheVariants.{Own}
use Rattle.walter_base.specs.declared.names.Tid.{Tid}
use Rattle.walter_base.specs.declared.transaction.Tx.{Tx}
use Rattle.walter_base.specs.Names.{same_tid}
use Rattle.walter_agreement.proofs.Cases.{low_or}

-- what was added was not there
pub was_new : (had added : Bool) → added ≡ not had → added ≡ true → had ≡ false
was_new true added is so = (let e : false ≡ true = sym is ∙ so in cc)
was_new false added is so = refl

module _ {S : Type 0} where
  -- the set has the name of each own commit up to a place, and they are of different transactions
  pub record AreKept (records : List Record) (names : HashSet Tid S) (upto : ℕ) : Type 0 where
    pub kept : (k seq : ℕ) (tx : Tx) → k < upto → slice_get records k ≡ Some (Own seq tx) → contains same_tid names tx.tid ≡ true
    pub apart : (k m seq other : ℕ) (x y : Tx) → k < m → m < upto → slice_get records k ≡ Some (Own seq x)
        → slice_get records m ≡ Some (Own other y) → x.tid ≢ y.tid

  pub kept_own : (records : List Record) (names new : HashSet Tid S) (i : ℕ) (n : ℕ) (z : Tx)
      → slice_get records i ≡ Some (Own n z) → contains same_tid names z.tid ≡ false → Updates same_tid names new z.tid true
      → AreKept records names i → AreKept records new (i + 1)
  kept_own records names new i n z at fresh put K = record {
    kept = λ k seq tx low own. elim (low_or k i) [
      | inl l ↦ put.0 tx.tid ∙ (ap (λ b. cond (same_tid z.tid tx.tid) true b) (K.kept k seq tx l own) ∙ both (same_tid z.tid tx.tid))
      | inr g ↦
          let same = here k seq tx (omega (arith, low, g)) own in
          subst (λ (y : Tx). contains same_tid new y.tid ≡ true) (sym same) put.1
    ];
    apart = λ k m seq other x y less low a b. elim (low_or m i) [
      | inl l ↦ K.apart k m seq other x y less l a b
      | inr g ↦ λ e.
          let same = here m other y (omega (arith, low, g)) b in
          let was = K.kept k seq x (omega (arith, less, low)) a in
          let was_z : contains same_tid names z.tid ≡ true = subst (λ (t : Tid). contains same_tid names t ≡ true)
          (e ∙ ap (λ (w : Tx). w.tid) same) was in
          (let f : false ≡ true = sym fresh ∙ was_z in cc)
    ];
  }
    where
      both : (b : Bool) → cond b true true ≡ true
      both true = refl
      both false = refl

      here : (k seq : ℕ) (tx : Tx) → k ≡ i → slice_get records k ≡ Some (Own seq tx) → tx ≡ z
      here k seq tx e own =
          let f : Own seq tx ≡ Own n z = same_Some (Own seq tx) (Own n z) (sym own ∙ (ap (λ j. slice_get records j) e ∙ at)) in
          cc

  pub kept_other : (records : List Record) (names : HashSet Tid S) (i : ℕ) (r : Record) → slice_get records i ≡ Some r
      → ((n : ℕ) (z : Tx) → r ≢ Own n z) → AreKept records names i → AreKept records names (i + 1)
  kept_other records names i r at other K = record {
    kept = λ k seq tx low own. elim (low_or k i) [
      | inl l ↦ K.kept k seq tx l own
      | inr g ↦ absurd (not_here k seq tx (omega (arith, low, g)) own)
    ];
    apart = λ k m seq number x y less low a b. elim (low_or m i) [
      | inl l ↦ K.apart k m seq number x y less l a b
      | inr g ↦ absurd (not_here m number y (omega (arith, low, g)) b)
    ];
  }
    where
      not_here : (k seq : ℕ) (tx : Tx) → k ≡ i → slice_get records k ≡ Some (Own seq tx) → ⊥
      not_here k seq tx e own = other seq tx (same_Some r (Own seq tx) (sym at ∙ (ap (λ j. slice_get records j) (sym e) ∙ own)))
