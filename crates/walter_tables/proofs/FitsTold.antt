-- Tests by the tables tell which records can follow.
use Rattle.std.proofs.Common.{◌≡◌, ◌+◌, ◌≤◌, ◌<◌, ℕ, suc, Bool, true, false, nat_lt, ◌&&◌, List, [], ◌∷◌, length, Option, Some, None, is_some, refl, ap, sym, ◌∙◌, subst, arith}
use Rattle.std.specs.Prelude.{slice_index, option_and_then}
use Rattle.std.proofs.lemmas.Option.{same_Some}
use Rattle.std.proofs.lemmas.Bool.{eq-eqb, ltb-true, lt-ltb}
use Rattle.walter_base.specs.declared.message.Record.TheVariants.{Got, Seen}
use Rattle.walter_base.specs.declared.names.SiteId.{SiteId}
use Rattle.walter_base.specs.declared.transaction.Conflict.{Conflict}
use Rattle.walter_base.specs.declared.transaction.Tx.{Tx}
use Rattle.walter_base.specs.Names.{same_site}
use Rattle.walter_base.specs.Vectors.{entry_at, Covers}
use Rattle.walter_base.proofs.NameTests.{both, same_site_refl}
use Rattle.walter_rules.specs.Deliveries.{is_peer, covers, accepts}
use Rattle.walter_rules.specs.Knowledge.{Knowledge}
use Rattle.walter_rules.specs.Log.{commit_at}
use Rattle.walter_rules.specs.Records.{CanFollow, IsOfSlow}
use Rattle.walter_rules.specs.Slow.{Slow, Unused, Undecided, Dropped, Decided}
use Rattle.walter_rules.proofs.RuleTests.{covers_true, accepted}
use Rattle.walter_alone.proofs.TestsPass.{covers_pass}
use Rattle.walter_slow.specs.Kept.{Kept, kept_of}
use Rattle.walter_slow.specs.Tables.{commit_of}
use Rattle.walter_tables.specs.Same.{IsSame}
use Rattle.walter_tables.specs.Standing.{Values, StandFor}

-- two tests that are true together are one
pub one_test : (b c : Bool) → (b ≡ true → c ≡ true) → (c ≡ true → b ≡ true) → b ≡ c
one_test true c there back = sym (there refl)
one_test false true there back = back refl
one_test false false there back = refl

pub both_true : (a b : Bool) → a ≡ true → b ≡ true → (a && b) ≡ true
both_true a b is also = ap (λ t. t && b) is ∙ also

-- a vector covers another where what it counts does
pub covers_there : (v : List ℕ) (counts : SiteId → ℕ) → ((k : SiteId) → entry_at v k ≡ counts k) → (start : List ℕ)
    → Covers v start → covers counts start ≡ true
covers_there v counts same start is = covers_pass counts start (λ k. subst (λ n. entry_at start k ≤ n) (same k) (is k.0))

pub covers_back : (v : List ℕ) (counts : SiteId → ℕ) → ((k : SiteId) → entry_at v k ≡ counts k) → (start : List ℕ)
    → covers counts start ≡ true → Covers v start
covers_back v counts same start is k =
    let site : SiteId = record { 0 = k } in
    subst (λ n. slice_index start k ≤ n) (sym (same site)) (covers_true counts start is site)

pub got_follows : (V : Values) (K : Knowledge) → StandFor V K → (j : SiteId) (seq : ℕ) (tx : Tx)
    → (nat_lt 0 V.epoch && is_peer V.catalog V.site j) ≡ true → accepts V.catalog K j seq tx ≡ true
    → CanFollow V.catalog V.site K (Got j seq tx)
got_follows V K S j seq tx hears is =
    let parts = both _ _ hears in
    let next = accepted V.catalog K j seq tx is in
    record {
      booted = subst (λ n. 0 < n) S.epoch (ltb-true 0 V.epoch parts.0);
      peer = parts.1;
      sender = next.sender;
      next = next.next;
      covered = covers_pass K.got tx.start next.covered;
      declared = next.declared;
    }

pub got_back : (V : Values) (K : Knowledge) → StandFor V K → (j : SiteId) (seq : ℕ) (tx : Tx)
    → CanFollow V.catalog V.site K (Got j seq tx)
    → ((nat_lt 0 V.epoch && is_peer V.catalog V.site j) ≡ true) × (accepts V.catalog K j seq tx ≡ true)
got_back V K S j seq tx f = (
  both_true _ _ (lt-ltb 0 V.epoch (subst (λ n. 0 < n) (sym S.epoch) f.booted)) f.peer,
  both_true _ _ (subst (λ (s : SiteId). same_site s j ≡ true) (sym f.sender) (same_site_refl j))
      (both_true _ _ (eq-eqb seq (K.got j + 1) f.next) (both_true _ _ f.covered f.declared)),
)

pub seen_follows : (V : Values) (K : Knowledge) → StandFor V K → (j : SiteId) (seq : ℕ)
    → (nat_lt 0 V.epoch && is_peer V.catalog V.site j) ≡ true
    → seq ≡ entry_at V.spread.committed j + 1 → seq ≤ entry_at V.spread.got j
    → ((tx : Tx) → commit_at j seq V.log ≡ Some tx → Covers V.spread.committed tx.start)
    → CanFollow V.catalog V.site K (Seen j seq)
seen_follows V K S j seq hears next within covered =
    let parts = both _ _ hears in
    record {
      booted = subst (λ n. 0 < n) S.epoch (ltb-true 0 V.epoch parts.0);
      peer = parts.1;
      next = next ∙ ap (λ (n : ℕ). n + 1) (S.spread.seen j);
      received = subst (λ n. seq ≤ n) (S.spread.received j) within;
      covered = λ tx is. covers_there V.spread.committed K.committed S.spread.seen tx.start
          (covered tx (ap (commit_at j seq) S.log ∙ is));
    }

pub seen_back : (V : Values) (K : Knowledge) → StandFor V K → (j : SiteId) (seq : ℕ)
    → CanFollow V.catalog V.site K (Seen j seq)
    → ((nat_lt 0 V.epoch && is_peer V.catalog V.site j) ≡ true) × (seq ≡ entry_at V.spread.committed j + 1)
    × (seq ≤ entry_at V.spread.got j)
    × ((tx : Tx) → commit_at j seq V.log ≡ Some tx → Covers V.spread.committed tx.start)
seen_back V K S j seq f = (
  both_true _ _ (lt-ltb 0 V.epoch (subst (λ n. 0 < n) (sym S.epoch) f.booted)) f.peer,
  f.next ∙ ap (λ (n : ℕ). n + 1) (sym (S.spread.seen j)),
  subst (λ n. seq ≤ n) (sym (S.spread.received j)) f.received,
  λ tx is. covers_back V.spread.committed K.committed S.spread.seen tx.start
      (f.covered tx (ap (commit_at j seq) (sym S.log) ∙ is)),
)

-- an option that isn't some is none
pub none_some : {X : Type 0} (o : Option X) → is_some o ≡ false → o ≡ None
none_some None is = refl
none_some (Some x) is = absurd cc

-- vectors of one length that cover each other are one
pub one_vector : (v w : List ℕ) → length v ≡ length w → Covers v w → Covers w v → v ≡ w
one_vector [] [] same more less = refl
one_vector [] (y ∷ ys) same more less = absurd (omega (arith, same))
one_vector (x ∷ xs) [] same more less = absurd (omega (arith, same))
one_vector (x ∷ xs) (y ∷ ys) same more less =
    let first : x ≡ y = (let a : y ≤ x = more 0 in let b : x ≤ y = less 0 in omega (arith, a, b)) in
    let rest = one_vector xs ys (omega (arith, same)) (λ k. more (suc k)) (λ k. less (suc k)) in
    λ t. first t ∷ rest t

pub one_tx : (a b : Tx) → length a.start ≡ length b.start → IsSame a b → a ≡ b
one_tx a b sites is =
    let starts = one_vector a.start b.start sites is.as_much is.no_more in
    λ t. record { tid = is.name t; slow = is.number t; start = starts t; updates = is.updates t }

pub same_itself : (a b : Tx) → a ≡ b → IsSame a b
same_itself a b is = subst (IsSame a) is (record { name = refl; number = refl; as_much = λ k. omega arith; no_more = λ k. omega arith; updates = refl })

-- what is kept with a transaction is being decided
pub being_decided : (g : Slow) (heard : List SiteId) (refused : Option Conflict) (released : List SiteId) (tx : Tx)
    → option_and_then (λ (k : Kept). k.tx) (kept_of g heard refused released) ≡ Some tx
    → (asked : List SiteId) × (g ≡ Undecided tx asked)
being_decided Unused heard refused released tx is = absurd cc
being_decided (Undecided x asked) heard refused released tx is =
    (asked, ap (λ (z : Tx). Undecided z asked) (same_Some x tx is))
being_decided (Dropped x asked) heard refused released tx is = absurd cc
being_decided (Decided x) heard refused released tx is = absurd cc

-- the slow commit of a transaction that is kept as that of another one
pub of_slow : (V : Values) (K : Knowledge) → StandFor V K → (begun tx : Tx)
    → Some begun ≡ option_and_then (λ (k : Kept). k.tx) (commit_of V.slow tx.slow) → length tx.start ≡ V.catalog.sites
    → (IsSame begun tx → IsOfSlow K tx) × (IsOfSlow K tx → IsSame begun tx)
of_slow V K S begun tx there sites =
    let n = tx.slow in
    let is = being_decided (K.slow n) (K.said_yes n) (K.said_no n) (K.said_released n) begun
    (ap (option_and_then (λ (k : Kept). k.tx)) (sym (S.slow.kept n)) ∙ sym there) in
    let asking = S.sound.asking n begun is.0 is.1 in (
      λ same. let one = one_tx begun tx (asking.is.sites ∙ sym sites) same in
          (is.0, is.1 ∙ ap (λ (z : Tx). Undecided z is.0) one),
      λ other. same_itself begun tx (same_undecided begun tx is.0 other.0 (sym is.1 ∙ other.1)),
    )
  where
    same_undecided : (a b : Tx) (asked others : List SiteId) → Undecided a asked ≡ Undecided b others → a ≡ b
    same_undecided a b asked others e = cc
