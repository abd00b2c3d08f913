-- A slow commit of a transaction that is kept as being decided is one that the rules know as undecided.
use Rattle.std.proofs.Common.{◌≡◌, ◌≤◌, ◌↔◌, ℕ, Bool, true, false, List, Some, None, Option, IsTrue, inl, inr, refl, ap, sym, ◌∙◌, arith}
use Rattle.std.specs.Prelude.{Contains}
use Rattle.std.proofs.lemmas.Bool.{cases_Bool, cases_lt}
use Rattle.std.proofs.lemmas.Option.{same_Some}
use Rattle.walter_base.specs.declared.catalog.Catalog.{Catalog}
use Rattle.walter_base.specs.declared.names.SiteId.{SiteId}
use Rattle.walter_base.specs.declared.names.Tid.{Tid}
use Rattle.walter_base.specs.declared.transaction.Conflict.{Conflict}
use Rattle.walter_base.specs.declared.transaction.Tx.{Tx}
use Rattle.walter_base.specs.Names.{same_tid}
use Rattle.walter_rules.specs.Calls.{is_of_tid, is_undecided}
use Rattle.walter_rules.specs.Knowledge.{Knowledge, from_to}
use Rattle.walter_rules.specs.Slow.{Slow, Unused, Undecided, Dropped, Decided}
use Rattle.walter_rules.proofs.Membership.{one_passes}
use Rattle.walter_alone.proofs.TestsPass.{some_pass, in_from_to}
use Rattle.walter_slow.specs.Kept.{Kept, kept_of}
use Rattle.walter_slow.specs.Tables.{Table as SlowCommits, commit_of}
use Rattle.walter_tables.specs.Parts.{AreSlowOf}
use Rattle.walter_tables.specs.Sound.{IsSound}

-- a slow commit of the transaction is kept, and is being decided
abbrev pub HasUndecided : SlowCommits → Tid → Type 0
HasUndecided T tid = (n : ℕ) × (tx : Tx) × (kept : Kept) × (commit_of T n ≡ Some kept) × (kept.tx ≡ Some tx)
    × (same_tid tid tx.tid ≡ true)

known_undecided : (tid : Tid) (g : Slow) (heard : List SiteId) (refusal : Option Conflict) (released : List SiteId)
    (kept : Kept) (tx : Tx)
    → kept_of g heard refusal released ≡ Some kept → kept.tx ≡ Some tx → same_tid tid tx.tid ≡ true
    → is_of_tid tid g ≡ true
known_undecided tid Unused heard refusal released kept tx at is same = absurd (cc)
known_undecided tid (Undecided t asked) heard refusal released kept tx at is same =
    let one : record { tx = Some t; asked = asked; heard = heard; no = None } ≡ kept = same_Some _ kept at in
    let two : t ≡ tx = same_Some t tx (ap (λ (k : Kept). k.tx) one ∙ is) in
    ap (λ (x : Tx). same_tid tid x.tid) two ∙ same
known_undecided tid (Dropped t asked) heard refusal released kept tx at is same =
    let one : record { tx = None; asked = asked; heard = released; no = refusal } ≡ kept = same_Some _ kept at in
    let none : None ≡ Some tx = ap (λ (k : Kept). k.tx) one ∙ is in
    absurd (cc)
known_undecided tid (Decided t) heard refusal released kept tx at is same = absurd (cc)

kept_undecided : (tid : Tid) (g : Slow) (heard : List SiteId) (refusal : Option Conflict) (released : List SiteId)
    → is_of_tid tid g ≡ true
    → (tx : Tx) × (kept : Kept) × (kept_of g heard refusal released ≡ Some kept) × (kept.tx ≡ Some tx)
    × (same_tid tid tx.tid ≡ true)
kept_undecided tid Unused heard refusal released is = absurd (cc)
kept_undecided tid (Undecided t asked) heard refusal released is =
    (t, record { tx = Some t; asked = asked; heard = heard; no = None }, refl, refl, is)
kept_undecided tid (Dropped t asked) heard refusal released is = absurd (cc)
kept_undecided tid (Decided t) heard refusal released is = absurd (cc)

module _ (catalog : Catalog) (i : SiteId) (K : Knowledge) (S : IsSound catalog i K) (tid : Tid) where
  -- what is undecided has a number that was given
  undecided_begun : (n : ℕ) → is_of_tid tid (K.slow n) ≡ true → Contains (from_to 1 K.last) n
  undecided_begun n is =
      let not_ahead : ((1 ≤ n) × (n ≤ K.last) → ⊥) → ⊥ = λ out.
      let unused = (S.ahead n out).unused in
      let no : false ≡ true = ap (is_of_tid tid) (sym unused) ∙ is in
      absurd (cc) in
      elim (cases_lt 0 n) [
        | inl low ↦ elim (cases_lt K.last n) [
          | inl past ↦ absurd (not_ahead (λ within. let high = within.1 in omega (arith, past, high)))
          | inr high ↦ in_from_to n K.last low high
        ]
        | inr none ↦ absurd (not_ahead (λ within. let low = within.0 in omega (arith, none, low)))
      ]

  pub undecided_is : (T : SlowCommits) (b : Bool) → AreSlowOf T K → IsTrue b ↔ HasUndecided T tid
      → b ≡ is_undecided K tid
  undecided_is T b are has = elim (cases_Bool b) [
    | inl is ↦
        let w = has.0 is in
        let of : is_of_tid tid (K.slow w.0) ≡ true =
        known_undecided tid (K.slow w.0) (K.said_yes w.0) (K.said_no w.0) (K.said_released w.0) w.2 w.1
        (sym (are.kept w.0) ∙ w.3) w.4 w.5 in
        is ∙ sym (some_pass (λ n. is_of_tid tid (K.slow n)) (from_to 1 K.last) w.0 (undecided_begun w.0 of) of)
    | inr isnt ↦ elim (cases_Bool (is_undecided K tid)) [
      | inl some ↦
          let w = one_passes (λ n. is_of_tid tid (K.slow n)) (from_to 1 K.last) some in
          let k = kept_undecided tid (K.slow w.0) (K.said_yes w.0) (K.said_no w.0) (K.said_released w.0) w.2 in
          has.1 (w.0, k.0, k.1, are.kept w.0 ∙ k.2, k.3, k.4) ∙ sym some
      | inr none ↦ isnt ∙ sym none
    ]
  ]
