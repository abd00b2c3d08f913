-- No transaction of a site is both a fast commit and a slow one: whose name a fast own commit has, none of the begun
-- slow commits is of that name, nor is an open session.
use Rattle.std.proofs.Common.{◌≡◌, ◌⊎◌, ℕ, List, [], Some, None, slice_get, refl, ap, sym, ◌∙◌, subst, inl, inr}
use Rattle.std.specs.Prelude.{Option}
use Rattle.walter_base.specs.declared.message.Record.{Record}
use Rattle.walter_base.specs.declared.message.Record.TheVariants.{Own, SlowBegin}
use Rattle.walter_base.specs.declared.names.Tid.{Tid}
use Rattle.walter_base.specs.declared.transaction.Tx.{Tx}
use Rattle.walter_rules.specs.declared.held.Held.{Held}
use Rattle.walter_rules.specs.Sessions.{Session}
use Rattle.walter_rules.specs.Slow.{Slow, begun}
use Rattle.walter_agreement.proofs.Issued.{Issued, IsIssued}
use Rattle.walter_agreement.proofs.Tidy.{IsUnbegun}

-- one of these own commits is fast, and is of this transaction
abbrev pub IsFast : List Held → Tid → Type 0
IsFast owned tid = (q : ℕ) × (r : Held) × (slice_get owned q ≡ Some r) × (r.tx.slow ≡ 0) × (r.tx.tid ≡ tid)

-- the name was given, and no begun slow commit has it
abbrev pub IsFreeName : (ℕ → Slow) → Issued → Tid → Type 0
IsFreeName slows numbers tid = IsIssued numbers tid × IsUnbegun slows tid

-- of a site's sessions, its slow commits, the record in flight, what it has started, and its own commits
pub record AreFastNames (sess : ℕ → Option Session) (slows : ℕ → Slow) (pend : Option Record) (numbers : Issued)
    (owned : List Held) : Type 0 where
  pub fast : (tid : Tid) → IsFast owned tid → IsFreeName slows numbers tid
  pub open_ : (c : ℕ) (s : Session) → sess c ≡ Some s → s.slow ≡ 0 → IsFast owned s.tid → ⊥
  -- so it will be with what is in flight
  pub flies : (seq : ℕ) (x : Tx) → pend ≡ Some (Own seq x) → x.slow ≡ 0 → IsFreeName slows numbers x.tid
  pub begins : (n : ℕ) (x : Tx) → pend ≡ Some (SlowBegin n x) → IsFast owned x.tid → ⊥

-- where nothing is committed yet
pub none_fast : (sess : ℕ → Option Session) (slows : ℕ → Slow) (numbers : Issued)
    → AreFastNames sess slows None numbers []
none_fast sess slows numbers =
    let no_own : (tid : Tid) → IsFast [] tid
    → ⊥ = λ tid h. let f : ◌≡◌ {A = Option Held} None (Some h.1) = h.2 in cc in
    record {
      fast = λ tid h. absurd (no_own tid h);
      open_ = λ c s has zero_ h. no_own s.tid h;
      flies = λ seq x h. absurd cc;
      begins = λ n x h. absurd cc;
    }

module _ (sess : ℕ → Option Session) (slows : ℕ → Slow) (pend : Option Record) (numbers : Issued) (owned : List Held)
    (N : AreFastNames sess slows pend numbers owned) where
  -- no slow commit begins; a fast commit that is new has a free name, that no open session has
  pub names_go : (sess2 : ℕ → Option Session) (slows2 : ℕ → Slow) (pend2 : Option Record) (numbers2 : Issued)
      (owned2 : List Held)
      → ((x : Tid) → IsIssued numbers x → IsIssued numbers2 x)
      → ((n : ℕ) (x : Tx) → begun (slows2 n) ≡ Some x → begun (slows n) ≡ Some x)
      → ((tid : Tid) → IsFast owned2 tid → IsFast owned tid
      ⊎ (IsFreeName slows numbers2 tid × ((c : ℕ) (s : Session) → sess2 c ≡ Some s → s.slow ≡ 0 → s.tid ≡ tid → ⊥)))
      → ((c : ℕ) (s : Session) → sess2 c ≡ Some s → s.slow ≡ 0
      → ((z : Session) × (sess c ≡ Some z) × (z.tid ≡ s.tid) × (z.slow ≡ 0)) ⊎ ¬ IsIssued numbers s.tid)
      → ((seq : ℕ) (x : Tx) → pend2 ≡ Some (Own seq x) → x.slow ≡ 0 → IsFreeName slows numbers2 x.tid)
      → ((n : ℕ) (x : Tx) → pend2 ≡ Some (SlowBegin n x) → IsFast owned2 x.tid → ⊥)
      → AreFastNames sess2 slows2 pend2 numbers2 owned2
  names_go sess2 slows2 pend2 numbers2 owned2 rise back own come fly begin =
      record {
        fast = λ tid h. elim (own tid h) [
          | inl was ↦ let f = N.fast tid was in (rise tid f.0, λ m y b. f.1 m y (back m y b))
          | inr new ↦ (new.0.0, λ m y b. new.0.1 m y (back m y b))
        ];
        open_ = λ c s has zero_ h. elim (own s.tid h) [
          | inl was ↦ elim (come c s has zero_) [
            | inl z ↦ N.open_ c z.0 z.1 z.3 (subst (λ t. IsFast owned t) (sym z.2) was)
            | inr unissued ↦ unissued (N.fast s.tid was).0
          ]
          | inr new ↦ new.1 c s has zero_ refl
        ];
        flies = λ seq x h zero_. let f = fly seq x h zero_ in (f.0, λ m y b. f.1 m y (back m y b));
        begins = begin;
      }

  -- a slow commit begins, of a transaction that isn't a fast commit
  pub names_begin : (x : Tx) (sess2 : ℕ → Option Session) (slows2 : ℕ → Slow) → (IsFast owned x.tid → ⊥)
      → ((m : ℕ) (y : Tx) → begun (slows2 m) ≡ Some y → (begun (slows m) ≡ Some y) ⊎ (x ≡ y))
      → ((c : ℕ) (s : Session) → sess2 c ≡ Some s → s.slow ≡ 0 → sess c ≡ Some s)
      → AreFastNames sess2 slows2 None numbers owned
  names_begin x sess2 slows2 unfast news come = record {
    fast = λ tid h.
        let f = N.fast tid h in (
          f.0,
          λ m y b same. elim (news m y b) [
            | inl was ↦ f.1 m y was same
            | inr new ↦ unfast (subst (λ t. IsFast owned t) (sym (ap (λ (z : Tx). z.tid) new ∙ same)) h)
          ],
        );
    open_ = λ c s has zero_ h. N.open_ c s (come c s has zero_) zero_ h;
    flies = λ seq x h. absurd cc;
    begins = λ n x h. absurd cc;
  }
