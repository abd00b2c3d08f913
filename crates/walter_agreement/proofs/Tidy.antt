-- A site's slow commits and sessions belong together: each undecided slow commit of a site that is up has its
-- session, and no transaction has two numbers.
use Rattle.std.proofs.Common.{◌≡◌, ◌≢◌, ◌+◌, ◌<◌, ◌⊎◌, ℕ, List, Bool, true, false, Some, None, slice_get, ap, refl, sym, ◌∙◌, subst, arith, inl, inr}
use Rattle.std.specs.Prelude.{Option}
use Rattle.std.proofs.lemmas.Option.{same_Some}
use Rattle.walter_base.specs.declared.message.Record.{Record}
use Rattle.walter_base.specs.declared.message.Record.TheVariants.{SlowBegin}
use Rattle.walter_base.specs.declared.names.SiteId.{SiteId}
use Rattle.walter_base.specs.declared.names.Tid.{Tid}
use Rattle.walter_base.specs.declared.transaction.Tx.{Tx}
use Rattle.walter_rules.specs.declared.held.Held.{Held}
use Rattle.walter_rules.specs.Sessions.{Session, tx_of}
use Rattle.walter_rules.specs.Slow.{Slow, Unused, Undecided, Dropped, Decided, begun, ended, decided}
use Rattle.walter_agreement.proofs.Cases.{not_unused}
use Rattle.walter_agreement.proofs.Issued.{Issued, IsIssued}

-- the transaction of a begun slow commit: its number is n, and it is one of site i that was started
abbrev pub IsNamed : SiteId → Issued → ℕ → Tx → Type 0
IsNamed i numbers n x = (x.slow ≡ n) × (n ≢ 0) × (x.tid.site ≡ i) × IsIssued numbers x.tid

-- none of these slow commits is of this transaction
abbrev pub IsUnbegun : (ℕ → Slow) → Tid → Type 0
IsUnbegun slows tid = (m : ℕ) (y : Tx) → begun (slows m) ≡ Some y → y.tid ≢ tid

-- the transaction is one of these own commits
abbrev pub IsOwn : List Held → Tx → Type 0
IsOwn owned x = (q : ℕ) × (r : Held) × (slice_get owned q ≡ Some r) × (r.tx ≡ x)

-- of site i: its clients' sessions, its slow commits by their numbers, the record in flight, whether it is up, its last
-- slow number, what it has started, and its own commits
pub record IsTidy (i : SiteId) (sess : ℕ → Option Session) (slows : ℕ → Slow) (pend : Option Record) (up : Bool)
    (last : ℕ) (numbers : Issued) (owned : List Held) : Type 0 where
  -- slow numbers count on
  pub number : (n : ℕ) → last < n → slows n ≡ Unused
  pub named : (n : ℕ) (x : Tx) → begun (slows n) ≡ Some x → IsNamed i numbers n x
  -- no transaction has two
  pub apart : (n m : ℕ) (x y : Tx) → begun (slows n) ≡ Some x → begun (slows m) ≡ Some y → x.tid ≡ y.tid → n ≡ m
  -- a session with a slow number is that slow commit's
  pub mine : (c : ℕ) (s : Session) → sess c ≡ Some s → s.slow ≢ 0 → begun (slows s.slow) ≡ Some (tx_of s)
  -- an open one has none yet
  pub open_ : (c : ℕ) (s : Session) → sess c ≡ Some s → s.slow ≡ 0 → IsUnbegun slows s.tid
  -- while the site is up an undecided slow commit has its session
  pub waits : up ≡ true → (n : ℕ) (x : Tx) (asked : List SiteId) → slows n ≡ Undecided x asked
      → (c : ℕ) × (s : Session) × (sess c ≡ Some s) × (s.slow ≡ n)
  -- with a record in flight the site is down and without sessions
  pub down : (r : Record) → pend ≡ Some r → (up ≡ false) × ((c : ℕ) → sess c ≡ None)
  pub flight : (n : ℕ) (x : Tx) → pend ≡ Some (SlowBegin n x)
      → (x.slow ≡ n) × (n ≡ last + 1) × (x.tid.site ≡ i) × IsIssued numbers x.tid × IsUnbegun slows x.tid
  -- what was decided is an own commit
  pub row : (n : ℕ) (x : Tx) → slows n ≡ Decided x → IsOwn owned x

-- how the slow commits of a site may go on: each stays, or ends, with a commit only where it is an own commit then
abbrev pub IsOn : (ℕ → Slow) → (ℕ → Slow) → List Held → Type 0
IsOn slows slows2 owned2 =
    (n : ℕ) → (slows2 n ≡ slows n) ⊎ ((x : Tx) × (asked : List SiteId) × (slows n ≡ Undecided x asked)
    × ((slows2 n ≡ Dropped x asked) ⊎ ((slows2 n ≡ Decided x) × IsOwn owned2 x)))

-- how its sessions may: one that was there, its updates changed while it is open; or a new one
abbrev pub AreFrom : (ℕ → Option Session) → (ℕ → Option Session) → Issued → Type 0
AreFrom sess sess2 numbers =
    (c : ℕ) (s : Session) → sess2 c ≡ Some s
    → ((z : Session) × (sess c ≡ Some z) × (z.tid ≡ s.tid) × (z.slow ≡ s.slow) × (s.slow ≢ 0 → z ≡ s))
    ⊎ ((s.slow ≡ 0) × ¬ IsIssued numbers s.tid)

-- a slow commit that ends as the rules have it goes on
pub on_ended : (slows slows2 : ℕ → Slow) (owned2 : List Held)
    → ((n : ℕ) → (slows2 n ≡ slows n) ⊎ (slows2 n ≡ ended (slows n))) → IsOn slows slows2 owned2
on_ended slows slows2 owned2 how n = elim (how n) [
  | inl same ↦ inl same
  | inr end ↦ elim (slows n) as (λ g. slows2 n ≡ ended g → (slows2 n ≡ g)
      ⊎ ((x : Tx) × (asked : List SiteId) × (g ≡ Undecided x asked)
      × ((slows2 n ≡ Dropped x asked) ⊎ ((slows2 n ≡ Decided x) × IsOwn owned2 x)))) [
        | Unused ↦ λ e. inl e
        | Undecided x asked ↦ λ e. inr (x, asked, refl, inl e)
        | Dropped x asked ↦ λ e. inl e
        | Decided x ↦ λ e. inl e
      ] end
]

pub on_decided : (slows slows2 : ℕ → Slow) (owned2 : List Held)
    → ((n : ℕ) → (slows2 n ≡ slows n)
    ⊎ ((slows2 n ≡ decided (slows n)) × ((x : Tx) (asked : List SiteId) → slows n ≡ Undecided x asked
    → IsOwn owned2 x)))
    → IsOn slows slows2 owned2
on_decided slows slows2 owned2 how n = elim (how n) [
  | inl same ↦ inl same
  | inr end ↦ elim (slows n) as (λ g. slows n ≡ g → slows2 n ≡ decided g → (slows2 n ≡ g)
      ⊎ ((x : Tx) × (asked : List SiteId) × (g ≡ Undecided x asked)
      × ((slows2 n ≡ Dropped x asked) ⊎ ((slows2 n ≡ Decided x) × IsOwn owned2 x)))) [
        | Unused ↦ λ was e. inl e
        | Undecided x asked ↦ λ was e. inr (x, asked, refl, inr (e, end.1 x asked was))
        | Dropped x asked ↦ λ was e. inl e
        | Decided x ↦ λ was e. inl e
      ] refl end.0
]

pub on_begun : (slows slows2 : ℕ → Slow) (owned2 : List Held) → IsOn slows slows2 owned2 → (n : ℕ)
    → begun (slows2 n) ≡ begun (slows n)
on_begun slows slows2 owned2 on n = elim (on n) [
  | inl same ↦ ap begun same
  | inr end ↦ elim end.3 [
    | inl drop ↦ ap begun drop ∙ sym (ap begun end.2)
    | inr done ↦ ap begun done.0 ∙ sym (ap begun end.2)
  ]
]

-- what is undecided was so before
pub on_open : (slows slows2 : ℕ → Slow) (owned2 : List Held) → IsOn slows slows2 owned2
    → (n : ℕ) (x : Tx) (asked : List SiteId)
    → slows2 n ≡ Undecided x asked → slows n ≡ Undecided x asked
on_open slows slows2 owned2 on n x asked h = elim (on n) [
  | inl same ↦ sym same ∙ h
  | inr end ↦ elim end.3 [
    | inl drop ↦ absurd (let f : Undecided x asked ≡ Dropped end.0 end.1 = sym h ∙ drop in cc)
    | inr done ↦ absurd (let f : Undecided x asked ≡ Decided end.0 = sym h ∙ done.0 in cc)
  ]
]

-- at first there are no sessions and no slow commits
pub tidy_at_first : (i : SiteId) (sess : ℕ → Option Session) (slows : ℕ → Slow) (up : Bool) (last : ℕ)
    (numbers : Issued) (owned : List Held)
    → ((c : ℕ) → sess c ≡ None) → ((n : ℕ) → slows n ≡ Unused) → IsTidy i sess slows None up last numbers owned
tidy_at_first i sess slows up last numbers owned none unused =
    let no_session : (c : ℕ) (s : Session) → sess c ≡ Some s
    → ⊥ = λ c s h. let f : ◌≡◌ {A = Option Session} None (Some s) = sym (none c) ∙ h in cc in
    record {
      number = λ n l. unused n;
      named = λ n x h. absurd (not_unused (slows n) x h (unused n));
      apart = λ n m x y a b e. absurd (not_unused (slows n) x a (unused n));
      mine = λ c s h. absurd (no_session c s h);
      open_ = λ c s h. absurd (no_session c s h);
      waits = λ u n x asked o. absurd (not_unused (slows n) x (ap begun o) (unused n));
      down = λ r h. absurd cc;
      flight = λ n x h. absurd cc;
      row = λ n x d. absurd (not_unused (slows n) x (ap begun d) (unused n));
    }

module _ (i : SiteId) (sess : ℕ → Option Session) (slows : ℕ → Slow) (pend : Option Record) (up : Bool) (last : ℕ)
    (numbers : Issued) (owned : List Held) (T : IsTidy i sess slows pend up last numbers owned) where
  -- no slow commit begins
  pub goes_on : (sess2 : ℕ → Option Session) (slows2 : ℕ → Slow) (pend2 : Option Record) (up2 : Bool)
      (numbers2 : Issued) (owned2 : List Held)
      → ((x : Tid) → IsIssued numbers x → IsIssued numbers2 x)
      → ((q : ℕ) (r : Held) → slice_get owned q ≡ Some r → slice_get owned2 q ≡ Some r)
      → IsOn slows slows2 owned2 → AreFrom sess sess2 numbers
      → (up2 ≡ true → (n : ℕ) (x : Tx) (asked : List SiteId) → slows2 n ≡ Undecided x asked
      → (up ≡ true) × ((c : ℕ) (s : Session) → sess c ≡ Some s → s.slow ≡ n → sess2 c ≡ Some s))
      → ((r : Record) → pend2 ≡ Some r → (up2 ≡ false) × ((c : ℕ) → sess2 c ≡ None))
      → ((n : ℕ) (x : Tx) → pend2 ≡ Some (SlowBegin n x)
      → (pend ≡ Some (SlowBegin n x))
      ⊎ ((x.slow ≡ n) × (n ≡ last + 1) × (x.tid.site ≡ i) × IsIssued numbers2 x.tid × IsUnbegun slows x.tid))
      → IsTidy i sess2 slows2 pend2 up2 last numbers2 owned2
  goes_on sess2 slows2 pend2 up2 numbers2 owned2 rise grow on come stay below fly =
      let same = on_begun slows slows2 owned2 on in
      let back : (n : ℕ) (x : Tx) → begun (slows2 n) ≡ Some x → begun (slows n) ≡ Some x = λ n x h. sym (same n) ∙ h in
      record {
        number = λ n l. elim (on n) [
          | inl e ↦ e ∙ T.number n l
          | inr end ↦ absurd (let f : Unused ≡ Undecided end.0 end.1 = sym (T.number n l) ∙ end.2 in cc)
        ];
        named = λ n x h. let o = T.named n x (back n x h) in (o.0, o.1, o.2, rise x.tid o.3);
        apart = λ n m x y a b e. T.apart n m x y (back n x a) (back m y b) e;
        mine = λ c s h some. elim (come c s h) [
          | inl was ↦ let e : was.0 ≡ s = was.4 some in same s.slow ∙ T.mine c s (was.1 ∙ ap (λ z. Some z) e) some
          | inr new ↦ absurd (some new.0)
        ];
        open_ = λ c s h z n x t e. elim (come c s h) [
          | inl was ↦ T.open_ c was.0 was.1 (was.3 ∙ z) n x (back n x t) (e ∙ sym was.2)
          | inr new ↦ new.1 (subst (λ y. IsIssued numbers y) e (T.named n x (back n x t)).3)
        ];
        waits = λ u n x asked o.
            let k = stay u n x asked o in
            let w = T.waits k.0 n x asked (on_open slows slows2 owned2 on n x asked o) in
            (w.0, w.1, k.1 w.0 w.1 w.2 w.3, w.3);
        down = below;
        flight = λ n x h. elim (fly n x h) [
          | inl was ↦ let f = T.flight n x was in (f.0, f.1, f.2, rise x.tid f.3, λ m y t. f.4 m y (back m y t))
          | inr new ↦ (new.0, new.1, new.2, new.3, λ m y t. new.4 m y (back m y t))
        ];
        row = λ n x d. elim (on n) [
          | inl e ↦ let r = T.row n x (sym e ∙ d) in (r.0, r.1, grow r.0 r.1 r.2, r.3)
          | inr end ↦ elim end.3 [
            | inl drop ↦ absurd (let f : Decided x ≡ Dropped end.0 end.1 = sym d ∙ drop in cc)
            | inr done ↦
                let f : Decided end.0 ≡ Decided x = sym done.0 ∙ d in
                let e : end.0 ≡ x = cc in
                (done.1.0, done.1.1, done.1.2, done.1.3 ∙ e)
          ]
        ];
      }

  -- a slow commit begins, and its session has its number
  pub begins_one : (n : ℕ) (x : Tx) (asked : List SiteId) (sess2 : ℕ → Option Session) (slows2 : ℕ → Slow) (up2 : Bool)
      → n ≡ last + 1 → x.slow ≡ n → x.tid.site ≡ i → IsIssued numbers x.tid → IsUnbegun slows x.tid
      → slows2 n ≡ Undecided x asked → ((m : ℕ) → (slows2 m ≡ slows m) ⊎ (m ≡ n))
      → ((c : ℕ) (s : Session) → sess2 c ≡ Some s → ((sess c ≡ Some s) × (s.slow ≡ 0 → x.tid ≢ s.tid)) ⊎ (tx_of s ≡ x))
      → (up2 ≡ true → (up ≡ true) × ((c : ℕ) (s : Session) → sess c ≡ Some s → s.slow ≢ 0 → sess2 c ≡ Some s)
      × ((c : ℕ) × (s : Session) × (sess2 c ≡ Some s) × (s.slow ≡ n)))
      → IsTidy i sess2 slows2 None up2 (last + 1) numbers owned
  begins_one n x asked sess2 slows2 up2 next is site given_ fresh now others come stay =
      let some : n ≢ 0 = λ e. omega (arith, next, e) in
      let unused : slows n ≡ Unused = T.number n (omega (arith, next)) in
      let cases : (m : ℕ) (y : Tx) → begun (slows2 m) ≡ Some y
      → (begun (slows m) ≡ Some y) ⊎ ((m ≡ n) × (x ≡ y)) = λ m y t. elim (others m) [
        | inl same ↦ inl (sym (ap begun same) ∙ t)
        | inr new ↦ inr (
          new,
          let f : ◌≡◌ {A = Option Tx} (Some x) (Some y) = sym (ap begun now)
              ∙ subst (λ k. begun (slows2 k) ≡ Some y) new t in same_Some x y f,
        )
      ] in
      let forth : (m : ℕ) (y : Tx) → begun (slows m) ≡ Some y → begun (slows2 m) ≡ Some y = λ m y t. elim (others m) [
        | inl same ↦ ap begun same ∙ t
        | inr new ↦ absurd (not_unused (slows m) y t (subst (λ k. slows k ≡ Unused) (sym new) unused))
      ] in
      record {
        number = λ m l. elim (others m) [
          | inl same ↦ same ∙ T.number m (omega (arith, l))
          | inr new ↦ absurd (omega (arith, l, new, next))
        ];
        named = λ m y t. elim (cases m y t) [
          | inl old ↦ T.named m y old
          | inr new ↦
              let e = new.1 in (
                subst (λ (z : Tx). z.slow ≡ m) e (is ∙ sym new.0),
                λ z. some (sym new.0 ∙ z),
                subst
                    (λ (z : Tx). z.tid.site ≡ i) e site,
                subst (λ (z : Tx). IsIssued numbers z.tid) e given_,
              )
        ];
        apart = λ m k y z a b e. elim (cases m y a) [
          | inl oa ↦ elim (cases k z b) [
            | inl ob ↦ T.apart m k y z oa ob e
            | inr nb ↦ absurd (fresh m y oa (e ∙ ap (λ (w : Tx). w.tid) (sym nb.1)))
          ]
          | inr na ↦ elim (cases k z b) [
            | inl ob ↦ absurd (fresh k z ob (sym e ∙ ap (λ (w : Tx). w.tid) (sym na.1)))
            | inr nb ↦ na.0 ∙ sym nb.0
          ]
        ];
        mine = λ c s h m. elim (come c s h) [
          | inl was ↦ forth s.slow (tx_of s) (T.mine c s was.0 m)
          | inr new ↦ let e : s.slow ≡ n = ap (λ (w : Tx). w.slow) new ∙ is in
              subst (λ k. begun (slows2 k) ≡ Some (tx_of s)) (sym e) (ap begun now ∙ ap (λ z. Some z) (sym new))
        ];
        open_ = λ c s h z m y t e. elim (come c s h) [
          | inl was ↦ elim (cases m y t) [
            | inl old ↦ T.open_ c s was.0 z m y old e
            | inr new ↦ was.1 z (ap (λ (w : Tx). w.tid) new.1 ∙ e)
          ]
          | inr new ↦ some (sym is ∙ (ap (λ (w : Tx). w.slow) (sym new) ∙ z))
        ];
        waits = λ u m y others2 o.
            let k = stay u in
            elim (others m) [
              | inl same ↦
                  let was : slows m ≡ Undecided y others2 = sym same ∙ o in
                  let w = T.waits k.0 m y others2 was in
                  let nz : w.1.slow ≢ 0 = λ z. (T.named m y (ap begun was)).1 (sym w.3 ∙ z) in
                  (w.0, w.1, k.1 w.0 w.1 w.2 nz, w.3)
              | inr new ↦ let w = k.2 in (w.0, w.1, w.2, w.3 ∙ sym new)
            ];
        down = λ r h. absurd cc;
        flight = λ m y h. absurd cc;
        row = λ m y d. elim (others m) [
          | inl same ↦ T.row m y (sym same ∙ d)
          | inr new ↦ absurd (let f : Undecided x asked ≡ Decided y = sym now
              ∙ subst (λ k. slows2 k ≡ Decided y) new d in cc)
        ];
      }
