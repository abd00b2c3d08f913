-- What a site tells of a transaction by its name: its number among the own commits, or that there is none.
use Rattle.std.proofs.Common.{◌≡◌, ◌≢◌, ℕ, ◌+◌, ◌≤◌, nat_eq, nat_le, nat_lt, List, [], ◌∷◌, refl, ap, sym, ◌∙◌, subst, arith, slice_get, Some, None, Bool, true, false, ◌&&◌, inl, inr, ◌||◌, ◌-◌, cond, if◌then◌else◌}
use Rattle.std.specs.Prelude.{Option, Contains}
use Rattle.std.specs.Map.{lookup}
use Rattle.std.specs.List.{list_any}
use Rattle.std.proofs.lemmas.Bool.{and_parts, ltb-true, leb-true, eqb-true, or_cases}
use Rattle.std.proofs.lemmas.Option.{same_Some}
use Rattle.walter_base.specs.declared.names.SiteId.{SiteId}
use Rattle.walter_base.specs.declared.names.Tid.{Tid}
use Rattle.walter_base.specs.declared.transaction.Tx.{Tx}
use Rattle.walter_base.specs.Names.{same_tid}
use Rattle.walter_base.proofs.NameTests.{same_tid-true, same_tid_refl}
use Rattle.walter_psi.proofs.Lists.{place_of, contains_at}
use Rattle.walter_rules.specs.declared.held.Held.{Held}
use Rattle.walter_rules.specs.Calls.{seq_of, is_issued, is_open, is_of_tid, is_undecided}
use Rattle.walter_rules.specs.Knowledge.{Knowledge, from_to}
use Rattle.walter_rules.specs.Log.{of_site}
use Rattle.walter_rules.specs.Sessions.{Session, Sessions}
use Rattle.walter_rules.specs.Slow.{Undecided}
use Rattle.walter_rules.proofs.Membership.{first_given, none_given, in_range}
use Rattle.walter_agreement.proofs.Issued.{IsIssued}
use Rattle.walter_alone.proofs.TestsPass.{some_pass}

-- the number of a commit where it is of this transaction
abbrev number_for : Tid → Held → Option ℕ
number_for tid h = if same_tid tid h.tx.tid then Some h.seq else None

number_is : (tid : Tid) (r : Held) (seq : ℕ) → number_for tid r ≡ Some seq → (r.tx.tid ≡ tid) × (r.seq ≡ seq)
number_is tid r seq is = elim (same_tid tid r.tx.tid) as (λ b. same_tid tid r.tx.tid ≡ b
    → (if b then Some r.seq else None) ≡ Some seq → (r.tx.tid ≡ tid) × (r.seq ≡ seq)) [
      | true ↦ λ same some. (sym (same_tid-true tid r.tx.tid same), same_Some r.seq seq some)
      | false ↦ λ other none. absurd cc
    ] refl is

-- a number is that of an own commit of the transaction
pub seq_some : (i : SiteId) (K : Knowledge) (tid : Tid) (seq : ℕ) → seq_of i K tid ≡ Some seq → (p : ℕ) × (r : Held)
    × (slice_get (of_site i K.log) p ≡ Some r) × (r.tx.tid ≡ tid) × (r.seq ≡ seq)
seq_some i K tid seq is =
    let given_ = first_given (number_for tid) (of_site i K.log) seq is in
    let place = place_of (of_site i K.log) given_.0 given_.1 in
    let n = number_is tid given_.0 seq given_.2 in
    (place.0, given_.0, place.1, n.0, n.1)

-- where there is none, no own commit is of the transaction
pub seq_none : (i : SiteId) (K : Knowledge) (tid : Tid) → seq_of i K tid ≡ None → (p : ℕ) (r : Held)
    → slice_get (of_site i K.log) p ≡ Some r → r.tx.tid ≢ tid
seq_none i K tid is p r here same =
    let none = none_given (number_for tid) (of_site i K.log) r is (contains_at (of_site i K.log) r p here) in
    let passes : same_tid tid r.tx.tid ≡ true = subst (λ x. same_tid tid x ≡ true) (sym same) (same_tid_refl tid) in
    let some : number_for tid r ≡ Some r.seq = ap (λ b. if b then Some r.seq else None) passes in
    let clash : ◌≡◌ {A = Option ℕ} None (Some r.seq) = sym none ∙ some in cc

-- a name that passes the test was given
pub issued_true : (K : Knowledge) (tid : Tid) → is_issued K tid ≡ true
    → IsIssued (record { epoch = K.epoch; starts = K.starts }) tid
issued_true K tid is =
    let one = and_parts (nat_lt 0 tid.epoch)
    (nat_lt 0 tid.number && (nat_lt tid.epoch K.epoch ||
    (nat_eq tid.epoch K.epoch && nat_le tid.number K.starts))) is in
    let two = and_parts (nat_lt 0 tid.number)
    (nat_lt tid.epoch K.epoch || (nat_eq tid.epoch K.epoch && nat_le tid.number K.starts)) one.1 in
    elim (or_cases (nat_lt tid.epoch K.epoch) (nat_eq tid.epoch K.epoch && nat_le tid.number K.starts) two.1) [
      | inl past ↦ inl (ltb-true tid.epoch K.epoch past)
      | inr now ↦ let parts = and_parts (nat_eq tid.epoch K.epoch) (nat_le tid.number K.starts) now in
          inr (eqb-true tid.epoch K.epoch parts.0, leb-true tid.number K.starts parts.1)
    ]

-- what is in a list and passes is found
any_true : {X : Type 0} (p : X → Bool) (xs : List X) (x : X) → Contains xs x → p x ≡ true → list_any p xs ≡ true
any_true p xs x within passes = some_pass p xs x within passes

-- a session that a client has open is found by its transaction's name
pub open_found : (client : ℕ) (s : Session) (ss : Sessions) → lookup (nat_eq client) ss ≡ Some s → s.slow ≡ 0
    → is_open s.tid ss ≡ true
open_found client s [] has zero_ = absurd cc
open_found client s (e ∷ es) has zero_ =
    elim (nat_eq client e.0) as (λ b. cond b (Some e.1) (lookup (nat_eq client) es) ≡ Some s
    → (same_tid s.tid e.1.tid && nat_eq e.1.slow 0 || list_any
    (λ z. same_tid s.tid z.1.tid && nat_eq z.1.slow 0) es) ≡ true) [
      | true ↦ λ is.
          let one : e.1 ≡ s = same_Some e.1 s is in
          let passes : (same_tid s.tid e.1.tid && nat_eq e.1.slow 0) ≡ true =
          subst (λ (z : Session). (same_tid s.tid z.tid && nat_eq z.slow 0) ≡ true) (sym one)
          (rw (same_tid_refl s.tid, zero_) refl) in
          rw passes refl
      | false ↦ λ is. later (same_tid s.tid e.1.tid && nat_eq e.1.slow 0) (open_found client s es is zero_)
    ] has
  where
    later : (b : Bool) {c : Bool} → c ≡ true → (b || c) ≡ true
    later true is = refl
    later false is = is

-- a slow commit that is being decided is found by its transaction's name
pub undecided_found : (K : Knowledge) (n : ℕ) (tx : Tx) (asked : List SiteId) → K.slow n ≡ Undecided tx asked → 1 ≤ n
    → n ≤ K.last → is_undecided K tx.tid ≡ true
undecided_found K n tx asked is some within =
    any_true (λ m. is_of_tid tx.tid (K.slow m)) (from_to 1 K.last) n
    (in_range 1 (K.last + 1 - 1) n some (omega (arith, within)))
    (ap (λ g. is_of_tid tx.tid g) is ∙ same_tid_refl tx.tid)
