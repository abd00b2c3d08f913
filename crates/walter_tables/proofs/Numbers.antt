-- The numbers of what is held: those of each site rise from 1 on, so each stands once; and what a vector that sees one
-- more of them sees.
use Rattle.std.proofs.Common.{◌≡◌, ◌≢◌, ◌+◌, ◌-◌, ◌≤◌, ◌<◌, ℕ, zero, suc, nat_le, Bool, true, false, cond, Some, List, [], ◌∷◌, ◌++◌, length, map, All, option_map, refl, ap, sym, ◌∙◌, subst, inl, inr, arith, if◌then◌else◌}
use Rattle.std.specs.Prelude.{slice_get}
use Rattle.std.specs.List.{range_with_len}
use Rattle.std.proofs.lemmas.Bool.{leb-true, le-leb}
use Rattle.std.proofs.lemmas.List.{length-map}
use Rattle.std.proofs.lemmas.List.FromFn.{length-range_with_len}
use Rattle.std.proofs.lemmas.List.Elements.{All-nil, All-cons, All-weaker}
use Rattle.walter_base.specs.declared.names.SiteId.{SiteId}
use Rattle.walter_base.specs.Names.{same_site}
use Rattle.walter_base.specs.Vectors.{entry_at}
use Rattle.walter_base.proofs.NameTests.{same_site-true, same_site_refl}
use Rattle.walter_rows.specs.Rows.{SeesAlike}
use Rattle.walter_rules.specs.declared.held.Held.{Held}
use Rattle.walter_rules.specs.Knowledge.{from_to}
use Rattle.walter_rules.specs.Learning.{one_more}
use Rattle.walter_rules.specs.Log.{of_site, is_of, commit_at, sees}
use Rattle.walter_agreement.proofs.Cases.{site_cases}

abbrev pub seqs : SiteId → List Held → List ℕ
seqs j log = map (λ (h : Held). h.seq) (of_site j log)

-- how many there are of a site
pub seqs_length : (j : SiteId) (log : List Held) (n : ℕ) → seqs j log ≡ from_to 1 n → length (of_site j log) ≡ n
seqs_length j log n is =
    sym (length-map (of_site j log) (λ (h : Held). h.seq)) ∙ ap length is ∙ length-range_with_len 1 (n + 1 - 1) ∙ omega arith

-- one number more
range_more : (a n : ℕ) → range_with_len a n ++ (a + n) ∷ [] ≡ range_with_len a (n + 1)
range_more a zero = ap (λ (m : ℕ). m ∷ []) (omega arith)
range_more a (suc n) =
    let next : a + suc n ≡ (a + 1) + n = omega arith in
    let long : suc (n + 1) ≡ suc n + 1 = omega arith in
    ap (λ (m : ℕ). a ∷ (range_with_len (a + 1) n ++ m ∷ [])) next ∙ ap (λ ms. a ∷ ms) (range_more (a + 1) n)
    ∙ ap (range_with_len a) long

pub run_more : (n : ℕ) → from_to 1 n ++ (n + 1) ∷ [] ≡ from_to 1 (n + 1)
run_more n =
    let had : n + 1 - 1 ≡ n = omega arith in
    let has : (n + 1) + 1 - 1 ≡ n + 1 = omega arith in
    let next : n + 1 ≡ 1 + n = omega arith in
    ap (λ (m : ℕ). range_with_len 1 m ++ (n + 1) ∷ []) had ∙ ap (λ (m : ℕ). range_with_len 1 n ++ m ∷ []) next
    ∙ range_more 1 n ∙ sym (ap (range_with_len 1) has)

abbrev pub IsBetween : SiteId → ℕ → ℕ → Held → Type 0
IsBetween j a n g = is_of j g ≡ true → (a ≤ g.seq) × (g.seq < a + n)

-- each is one of the run
pub all_between : (j : SiteId) (log : List Held) (a n : ℕ) → seqs j log ≡ range_with_len a n → All (IsBetween j a n) log
all_between j [] a n is = All-nil (IsBetween j a n)
all_between j (h ∷ hs) a n is = by (λ b m rest. all_between j hs b m rest) (is_of j h) refl n is
  where
    by : ((b m : ℕ) → seqs j hs ≡ range_with_len b m → All (IsBetween j b m) hs) → (b : Bool) → is_of j h ≡ b → (n : ℕ)
        → map (λ (g : Held). g.seq) (cond b (h ∷ of_site j hs) (of_site j hs)) ≡ range_with_len a n
        → All (IsBetween j a n) (h ∷ hs)
    by behind false other n is =
        All-cons (IsBetween j a n) h hs (λ its. absurd (let t : false ≡ true = sym other ∙ its in cc)) (behind a n is)
    by behind true own zero is = absurd (cc)
    by behind true own (suc m) is =
        let first : h.seq ≡ a = cc in
        let rest : seqs j hs ≡ range_with_len (a + 1) m = cc in
        All-cons (IsBetween j a (suc m)) h hs (λ t. (omega (arith, first), omega (arith, first)))
        (All-weaker (IsBetween j (a + 1) m) (IsBetween j a (suc m))
        (λ g between of. let within = between of in (omega (arith, within.0), omega (arith, within.1))) hs
        (behind (a + 1) m rest))

-- another one of the site has another number
abbrev pub IsOther : SiteId → ℕ → Held → Type 0
IsOther j seq g = is_of j g ≡ true → g.seq ≢ seq

-- the commit of a number stands once in the log
pub record IsOnce (j : SiteId) (seq place : ℕ) (log : List Held) : Type 0 where
  pub front : List Held
  pub h : Held
  pub back : List Held
  pub split : log ≡ front ++ h ∷ back
  pub here : h.tx.tid.site ≡ j
  pub number : h.seq ≡ seq
  pub at : slice_get (of_site j log) place ≡ Some h
  pub before : All (IsOther j seq) front
  pub behind : All (IsOther j seq) back

stands_once : (j : SiteId) (log : List Held) (a n k : ℕ) → seqs j log ≡ range_with_len a n → k < n → IsOnce j (a + k) k log
stands_once j [] a zero k is within = absurd (omega (arith, within))
stands_once j [] a (suc n) k is within = absurd (cc)
stands_once j (h ∷ hs) a n k is within = by (λ b m q rest less. stands_once j hs b m q rest less) (is_of j h) refl n k is within
  where
    -- behind one that has another number, or is of another site
    later : (seq place : ℕ) → IsOther j seq h → (q : ℕ) → slice_get (of_site j (h ∷ hs)) q ≡ slice_get (of_site j hs) place
        → IsOnce j seq place hs → IsOnce j seq q (h ∷ hs)
    later seq place other q same once = record {
      front = h ∷ once.front;
      h = once.h;
      back = once.back;
      split = ap (λ gs. h ∷ gs) once.split;
      here = once.here;
      number = once.number;
      at = same ∙ once.at;
      before = All-cons (IsOther j seq) h once.front other once.before;
      behind = once.behind;
    }

    by : ((b m q : ℕ) → seqs j hs ≡ range_with_len b m → q < m → IsOnce j (b + q) q hs) → (b : Bool) → is_of j h ≡ b
        → (n k : ℕ) → map (λ (g : Held). g.seq) (cond b (h ∷ of_site j hs) (of_site j hs)) ≡ range_with_len a n
        → k < n → IsOnce j (a + k) k (h ∷ hs)
    by behind false other n k is within =
        later (a + k) k (λ its. absurd (let t : false ≡ true = sym other ∙ its in cc)) k
        (ap (λ b. slice_get (cond b (h ∷ of_site j hs) (of_site j hs)) k) other) (behind a n k is within)
    by behind true own zero k is within = absurd (omega (arith, within))
    by behind true own (suc m) zero is within =
        let first : h.seq ≡ a = cc in
        let rest : seqs j hs ≡ range_with_len (a + 1) m = cc in record {
          front = [];
          h = h;
          back = hs;
          split = refl;
          here = same_site-true h.tx.tid.site j own;
          number = omega (arith, first);
          at = ap (λ b. slice_get (cond b (h ∷ of_site j hs) (of_site j hs)) 0) own;
          before = All-nil (IsOther j (a + 0));
          behind = All-weaker (IsBetween j (a + 1) m) (IsOther j (a + 0))
              (λ g between of same. let within = between of in absurd (omega (arith, within.0, same))) hs
              (all_between j hs (a + 1) m rest);
        }
    by behind true own (suc m) (suc q) is within =
        let first : h.seq ≡ a = cc in
        let rest : seqs j hs ≡ range_with_len (a + 1) m = cc in
        let number : (a + 1) + q ≡ a + suc q = omega arith in
        later (a + suc q) q (λ t same. absurd (omega (arith, first, same))) (suc q)
        (ap (λ b. slice_get (cond b (h ∷ of_site j hs) (of_site j hs)) (suc q)) own)
        (subst (λ (s : ℕ). IsOnce j s q hs) number (behind (a + 1) m q rest (omega (arith, within))))

-- where the numbers of the site are those from 1 on
pub held_once : (j : SiteId) (log : List Held) (n seq : ℕ) → seqs j log ≡ from_to 1 n → 1 ≤ seq → seq ≤ n
    → IsOnce j seq (seq - 1) log
held_once j log n seq is low high =
    let number : 1 + (seq - 1) ≡ seq = omega (arith, low) in
    let as_many : n + 1 - 1 ≡ n = omega arith in
    subst (λ (s : ℕ). IsOnce j s (seq - 1) log) number
    (stands_once j log 1 n (seq - 1) (is ∙ ap (range_with_len 1) as_many) (omega (arith, low, high)))

pub once_commit : (j : SiteId) (seq : ℕ) (log : List Held) (once : IsOnce j seq (seq - 1) log)
    → commit_at j seq log ≡ Some once.h.tx
once_commit j seq log once = ap (option_map (λ (h : Held). h.tx)) once.at

-- ---- vectors

module _ (before after : List ℕ) (counts : SiteId → ℕ) (were : (k : SiteId) → entry_at before k ≡ counts k) (j : SiteId)
    (are : (k : SiteId) → entry_at after k ≡ one_more j counts k) where
  as_many : (h : Held) → h.seq ≢ counts h.tx.tid.site + 1
      → nat_le h.seq (counts h.tx.tid.site + 1) ≡ nat_le h.seq (counts h.tx.tid.site)
  as_many h other = by (nat_le h.seq (counts h.tx.tid.site)) refl
    where
      by : (b : Bool) → nat_le h.seq (counts h.tx.tid.site) ≡ b → nat_le h.seq (counts h.tx.tid.site + 1) ≡ b
      by true is =
          let low = leb-true h.seq (counts h.tx.tid.site) is in
          le-leb h.seq (counts h.tx.tid.site + 1) (omega (arith, low))
      by false is = up (nat_le h.seq (counts h.tx.tid.site + 1)) refl
        where
          up : (b : Bool) → nat_le h.seq (counts h.tx.tid.site + 1) ≡ b → b ≡ false
          up false is2 = refl
          up true is2 =
              let low = leb-true h.seq (counts h.tx.tid.site + 1) is2 in
              let less : h.seq ≤ counts h.tx.tid.site = omega (arith, low, other) in
              absurd (let t = le-leb h.seq (counts h.tx.tid.site) less in cc)

  -- what isn't the commit of the next number is seen as before
  pub sees_as_before : (h : Held) → IsOther j (counts j + 1) h → sees after h ≡ sees before h
  sees_as_before h other =
      let k = h.tx.tid.site in
      ap (nat_le h.seq) (are k) ∙ elim (site_cases j k) [
        | inl same ↦
            ap (λ b. nat_le h.seq (if b then counts k + 1 else counts k)) same.0
            ∙ as_many h (λ is. other (subst (λ (i : SiteId). same_site i j ≡ true) same.1 refl_j) (is ∙ ap (λ (i : SiteId). counts i + 1) (sym same.1)))
        | inr apart ↦ ap (λ b. nat_le h.seq (if b then counts k + 1 else counts k)) apart.0
      ] ∙ sym (ap (nat_le h.seq) (were k))
    where
      refl_j : same_site j j ≡ true
      refl_j = same_site_refl j

  pub all_as_before : (log : List Held) → All (IsOther j (counts j + 1)) log → SeesAlike before after log
  all_as_before log others = All-weaker (IsOther j (counts j + 1)) (λ h. sees after h ≡ sees before h) sees_as_before log others

  -- and that one is now
  pub unseen_before : (h : Held) → h.tx.tid.site ≡ j → h.seq ≡ counts j + 1 → sees before h ≡ false
  unseen_before h here number = by (sees before h) refl
    where
      by : (b : Bool) → sees before h ≡ b → b ≡ false
      by false is = refl
      by true is =
          let low = leb-true h.seq (entry_at before h.tx.tid.site) is in
          let count = were h.tx.tid.site ∙ ap counts here in
          absurd (omega (arith, low, count, number))

  pub seen_behind : (h : Held) → h.tx.tid.site ≡ j → h.seq ≡ counts j + 1 → sees after h ≡ true
  seen_behind h here number =
      let entry : entry_at after h.tx.tid.site ≡ counts j + 1 =
      ap (entry_at after) here ∙ are j ∙ ap (λ b. if b then counts j + 1 else counts j) (same_site_refl j) in
      le-leb h.seq (entry_at after h.tx.tid.site) (omega (arith, number, entry))
