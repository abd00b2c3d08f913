-- Own commits are numbered, and what a site holds of another is a front of that one's commits. Nothing here speaks of
-- a history.
use Rattle.std.proofs.Common.{◌≡◌, ◌≢◌, ℕ, suc, ◌+◌, ◌<◌, ◌≤◌, List, [], ◌∷◌, ◌++◌, length, refl, ap, sym, ◌∙◌, subst, arith, slice_get, Some, inl, inr, ◌⊎◌, if◌then◌else◌}
use Rattle.std.proofs.lemmas.List.{length-append}
use Rattle.walter_base.specs.declared.names.SiteId.{SiteId}
use Rattle.walter_base.specs.Names.{same_site}
use Rattle.walter_base.proofs.NameTests.{same_site_refl}
use Rattle.walter_psi.proofs.Lists.{slice_get-push_cases}
use Rattle.walter_rules.specs.declared.held.Held.{Held}
use Rattle.walter_rules.specs.Log.{is_of, of_site}
use Rattle.walter_agreement.proofs.Lists.{IsPrefix, prefix_refl, prefix_more, prefix_trans, prefix_push, filter_push_kept, filter_push_left}
use Rattle.walter_agreement.proofs.Cases.{site_cases}

-- one more stands at the end of a site's list, and the other lists are as they were
abbrev pub IsPushed : (SiteId → List Held) → (SiteId → List Held) → SiteId → Held → Type 0
IsPushed lists longer s r = (longer s ≡ lists s ++ r ∷ []) × ((i : SiteId) → s ≢ i → longer i ≡ lists i)

-- one more commit of the second site is counted at the first, and the other counts are as they were
abbrev pub IsCounted : (SiteId → SiteId → ℕ) → (SiteId → SiteId → ℕ) → SiteId → SiteId → Type 0
IsCounted counts higher s j =
    (i k : SiteId) → ((s ≡ i → j ≡ k → ⊥) × (higher i k ≡ counts i k))
    ⊎ ((s ≡ i) × (j ≡ k) × (higher i k ≡ suc (counts i k)))

-- own commits are of their site, numbered 1, 2, .., and all committed there
pub record AreOwned (owns : SiteId → List Held) (counts : SiteId → SiteId → ℕ) : Type 0 where
  pub site : (k : SiteId) (p : ℕ) (r : Held) → slice_get (owns k) p ≡ Some r → r.tx.tid.site ≡ k
  pub numbered : (k : SiteId) (p : ℕ) (r : Held) → slice_get (owns k) p ≡ Some r → r.seq ≡ p + 1
  pub counted : (k : SiteId) → counts k k ≡ length (owns k)

-- what a log has of each site is a front of what that one committed, and no less than is committed where the log is
pub record IsLogOf (owns : SiteId → List Held) (count : SiteId → ℕ) (log : List Held) : Type 0 where
  pub fronts : (k : SiteId) → IsPrefix (of_site k log) (owns k)
  pub within : (k : SiteId) → count k ≤ length (of_site k log)

-- so it is at each site, and of itself each has all its own commits
pub record AreNumbered (owns logs : SiteId → List Held) (counts : SiteId → SiteId → ℕ) : Type 0 where
  pub own : AreOwned owns counts
  pub held : (i : SiteId) → IsLogOf owns (counts i) (logs i)
  pub mine : (k : SiteId) → of_site k (logs k) ≡ owns k

-- a list that was changed by a test is one with one more
pub pushed_by_test : (lists longer : SiteId → List Held) (s : SiteId) (r : Held)
    → ((i : SiteId) → longer i ≡ (if same_site s i then lists i ++ r ∷ [] else lists i)) → IsPushed lists longer s r
pushed_by_test lists longer s r is = (
  is s ∙ rw (same_site_refl s) refl,
  λ i apart. elim (site_cases s i) [ inl same ↦ absurd (apart same.1) | inr other ↦ is i ∙ rw other.0 refl ],
)

-- counts that were changed at one place are counted
pub counted_at : (counts higher : SiteId → SiteId → ℕ) (s j : SiteId) → higher s j ≡ suc (counts s j)
    → ((i k : SiteId) → (s ≡ i → j ≡ k → ⊥) → higher i k ≡ counts i k) → IsCounted counts higher s j
counted_at counts higher s j here elsewhere i k =
    elim (site_cases s i) [
      | inl at_s ↦ elim (site_cases j k) [
        | inl of_j ↦
            inr (
              at_s.1,
              of_j.1,
              subst (λ a. higher a k ≡ suc (counts a k)) at_s.1
                  (subst (λ b. higher s b ≡ suc (counts s b)) of_j.1 here),
            )
        | inr other ↦ let apart = λ (a : s ≡ i) (b : j ≡ k). other.1 b in inl (apart, elsewhere i k apart)
      ]
      | inr away ↦ let apart = λ (a : s ≡ i) (b : j ≡ k). away.1 a in inl (apart, elsewhere i k apart)
    ]

-- counts of a site that were changed by a test, the other sites' being as they were
pub counted_one_more : (counts higher : SiteId → SiteId → ℕ) (s j : SiteId)
    → ((k : SiteId) → higher s k ≡ (if same_site j k then counts s k + 1 else counts s k))
    → ((i k : SiteId) → s ≢ i → higher i k ≡ counts i k) → IsCounted counts higher s j
counted_one_more counts higher s j here elsewhere =
    counted_at counts higher s j (here j ∙ (rw (same_site_refl j) (omega arith)))
    (λ i k apart. elim (site_cases s i) [
      | inl same ↦ elim (site_cases j k) [
        | inl its ↦ absurd (apart same.1 its.1)
        | inr other ↦ subst (λ a. higher a k ≡ counts a k) same.1 (here k ∙ rw other.0 refl)
      ]
      | inr away ↦ elsewhere i k away.1
    ])

-- counts rise
pub counted_rise : (counts higher : SiteId → SiteId → ℕ) (s j : SiteId) → IsCounted counts higher s j → (i k : SiteId)
    → counts i k ≤ higher i k
counted_rise counts higher s j c i k =
    elim (c i k) [
      | inl same ↦ omega (arith, same.1)
      | inr more ↦ omega (arith, more.2)
    ]

-- lists are fronts of what they became
pub pushed_prefix : (lists longer : SiteId → List Held) (s : SiteId) (r : Held) → IsPushed lists longer s r
    → (k : SiteId) → IsPrefix (lists k) (longer k)
pushed_prefix lists longer s r push k =
    elim (site_cases s k) [
      | inl same ↦
          subst (λ (j : SiteId). IsPrefix (lists j) (longer j)) same.1
          (subst (λ t. IsPrefix (lists s) t) (sym push.0) (prefix_more (lists s) r))
      | inr apart ↦ subst (λ t. IsPrefix (lists k) t) (sym (push.1 k apart.1)) (prefix_refl (lists k))
    ]

-- what stands in the list of a site stood there, or is the one more
pub pushed_cases : (lists longer : SiteId → List Held) (s : SiteId) (r : Held) → IsPushed lists longer s r
    → (k : SiteId) (p : ℕ) (z : Held) → slice_get (longer k) p ≡ Some z
    → (slice_get (lists k) p ≡ Some z) ⊎ ((s ≡ k) × (p ≡ length (lists k)) × (r ≡ z))
pushed_cases lists longer s r push k p z here =
    elim (site_cases s k) [
      | inl same ↦
          let now : longer k ≡ lists k ++ r ∷ [] = subst (λ (j : SiteId). longer j ≡ lists j ++ r ∷ []) same.1 push.0 in
          elim (slice_get-push_cases (lists k) r z p (ap (λ t. slice_get t p) (sym now) ∙ here)) [
            | inl old ↦ inl old.1
            | inr last ↦ inr (same.1, last.0, last.1)
          ]
      | inr apart ↦ inl (ap (λ t. slice_get t p) (sym (push.1 k apart.1)) ∙ here)
    ]

-- what the logs have of each site
pub pushed_of : (logs longer : SiteId → List Held) (s : SiteId) (r : Held) → IsPushed logs longer s r → (i k : SiteId)
    → ((s ≡ i → r.tx.tid.site ≡ k → ⊥) × (of_site k (longer i) ≡ of_site k (logs i)))
    ⊎ ((s ≡ i) × (r.tx.tid.site ≡ k) × (of_site k (longer i) ≡ of_site k (logs i) ++ r ∷ []))
pushed_of logs longer s r push i k =
    elim (site_cases s i) [
      | inl here ↦
          let now : longer i ≡ logs i ++ r ∷ [] = subst (λ (j : SiteId). longer j ≡ logs j ++ r ∷ []) here.1 push.0 in
          elim (site_cases r.tx.tid.site k) [
            | inl ours ↦ inr (here.1, ours.1, ap (λ t. of_site k t) now ∙ filter_push_kept (is_of k) (logs i) r ours.0)
            | inr theirs ↦ inl (
              λ a b. theirs.1 b,
              ap (λ t. of_site k t) now
                  ∙ filter_push_left (is_of k) (logs i) r theirs.0,
            )
          ]
      | inr away ↦ inl (λ a b. away.1 a, ap (λ t. of_site k t) (push.1 i away.1))
    ]

-- where own commits are those of the site in its log, a log with one more own commit has one more of them
pub owned_pushed : (logs longer : SiteId → List Held) (s : SiteId) (r : Held) → IsPushed logs longer s r
    → r.tx.tid.site ≡ s
    → IsPushed (λ k. of_site k (logs k)) (λ k. of_site k (longer k)) s r
owned_pushed logs longer s r push ours = (
  elim (pushed_of logs longer s r push s s) [ inl stays ↦ absurd (stays.0 refl ours) | inr one ↦ one.2 ],
  λ k apart. ap (λ t. of_site k t) (push.1 k apart),
)

-- and with one more of another site's it has the same
pub owned_kept : (logs longer : SiteId → List Held) (s : SiteId) (r : Held) → IsPushed logs longer s r
    → r.tx.tid.site ≢ s
    → (k : SiteId) → of_site k (longer k) ≡ of_site k (logs k)
owned_kept logs longer s r push theirs k =
    elim (pushed_of logs longer s r push k k) [ inl stays ↦ stays.1 | inr one ↦ absurd (theirs (one.1 ∙ sym one.0)) ]

-- no commits are numbered
pub numbered_none : AreNumbered (λ k. []) (λ i. []) (λ i k. 0)
numbered_none = record {
  own = record { site = λ k p r here. absurd cc; numbered = λ k p r here. absurd cc; counted = λ k. refl };
  held = λ i. record { fronts = λ k. prefix_refl []; within = λ k. omega arith };
  mine = λ k. refl;
}

-- the same own commits, logs and counts are numbered
pub numbered_same : (owns more logs others : SiteId → List Held) (counts higher : SiteId → SiteId → ℕ)
    → ((k : SiteId) → more k ≡ owns k) → ((i : SiteId) → others i ≡ logs i) → ((i k : SiteId) → higher i k ≡ counts i k)
    → AreNumbered owns logs counts → AreNumbered more others higher
numbered_same owns more logs others counts higher same_owns same_logs same_counts n =
    let first : owns ≡ more = (λ t k. sym (same_owns k) t) in
    let second : logs ≡ others = (λ t i. sym (same_logs i) t) in
    let third : counts ≡ higher = (λ t i k. sym (same_counts i k) t) in
    subst (λ f. AreNumbered f others higher) first
    (subst (λ f. AreNumbered owns f higher) second (subst (λ f. AreNumbered owns logs f) third n))

-- a site's own commit is appended to its log
pub numbered_own : (owns more logs longer : SiteId → List Held) (counts higher : SiteId → SiteId → ℕ) (s : SiteId)
    (r : Held)
    → AreNumbered owns logs counts → IsPushed owns more s r → IsPushed logs longer s r → IsCounted counts higher s s
    → r.tx.tid.site ≡ s → r.seq ≡ counts s s + 1 → AreNumbered more longer higher
numbered_own owns more logs longer counts higher s r n push append count ours next =
    let grow = pushed_prefix owns more s r push in
    let whole : (k : SiteId) → of_site k (longer k) ≡ more k = λ k.
    elim (site_cases s k) [
      | inl same ↦
          subst (λ (j : SiteId). of_site j (longer j) ≡ more j) same.1
          (ap (λ t. of_site s t) append.0
          ∙ (filter_push_kept (is_of s) (logs s) r (ap (λ a. same_site a s) ours ∙ same_site_refl s)
          ∙ (ap (λ t. t ++ r ∷ []) (n.mine s) ∙ sym push.0)))
      | inr apart ↦ ap (λ t. of_site k t) (append.1 k apart.1) ∙ (n.mine k ∙ sym (push.1 k apart.1))
    ] in
    record {
      own = record {
        site = λ k p z here. elim (pushed_cases owns more s r push k p z here) [
          | inl old ↦ n.own.site k p z old
          | inr last ↦ ap (λ (t : Held). t.tx.tid.site) (sym last.2) ∙ (ours ∙ last.0)
        ];
        numbered = λ k p z here. elim (pushed_cases owns more s r push k p z here) [
          | inl old ↦ n.own.numbered k p z old
          | inr last ↦
              let place : p ≡ length (owns s) = last.1 ∙ ap (λ j. length (owns j)) (sym last.0) in
              let all = n.own.counted s in
              let its : z.seq ≡ counts s s + 1 = ap (λ (t : Held). t.seq) (sym last.2) ∙ next in
              omega (arith, place, all, its)
        ];
        counted = λ k. elim (site_cases s k) [
          | inl same ↦
              let risen : higher s s ≡ suc (counts s s) =
              elim (count s s) [ inl none ↦ absurd (none.0 refl refl) | inr one ↦ one.2 ] in
              let all = n.own.counted s in
              let size = ap length push.0 ∙ length-append (owns s) (r ∷ []) in
              subst (λ (j : SiteId). higher j j ≡ length (more j)) same.1 (omega (arith, risen, all, size))
          | inr apart ↦
              let same : higher k k ≡ counts k k =
              elim (count k k) [ inl none ↦ none.1 | inr one ↦ absurd (apart.1 one.0) ] in
              same ∙ (n.own.counted k ∙ ap length (sym (push.1 k apart.1)))
        ];
      };
      held = λ i. record {
        fronts = λ k. elim (pushed_of logs longer s r append i k) [
          | inl stays ↦ subst (λ t. IsPrefix t (more k)) (sym stays.1) (prefix_trans ((n.held i).fronts k) (grow k))
          | inr one ↦
              let is : k ≡ i = sym one.1 ∙ (ours ∙ one.0) in
              subst (λ (j : SiteId). IsPrefix (of_site k (longer j)) (more k)) is
              (subst (λ t. IsPrefix t (more k)) (sym (whole k)) (prefix_refl (more k)))
        ];
        within = λ k.
            let before = (n.held i).within k in
            elim (pushed_of logs longer s r append i k) [
              | inl stays ↦
                  let size = ap length stays.1 in
                  elim (count i k) [
                    | inl none ↦ let same = none.1 in omega (arith, before, size, same)
                    | inr one ↦ absurd (stays.0 one.0 (ours ∙ one.1))
                  ]
              | inr one ↦
                  let size = ap length one.2 ∙ length-append (of_site k (logs i)) (r ∷ []) in
                  elim (count i k) [
                    | inl none ↦ let same = none.1 in omega (arith, before, size, same)
                    | inr up ↦ let risen = up.2 in omega (arith, before, size, risen)
                  ]
            ];
      };
      mine = whole;
    }

-- the next commit of another site is appended to a site's log
pub numbered_got : (owns logs longer : SiteId → List Held) (counts : SiteId → SiteId → ℕ) (s j : SiteId) (r : Held)
    → AreNumbered owns logs counts → IsPushed logs longer s r → j ≢ s
    → slice_get (owns j) (length (of_site j (logs s))) ≡ Some r
    → AreNumbered owns longer counts
numbered_got owns logs longer counts s j r n append apart next =
    let theirs = n.own.site j (length (of_site j (logs s))) r next in
    record {
      own = n.own;
      held = λ i. record {
        fronts = λ k. elim (pushed_of logs longer s r append i k) [
          | inl stays ↦ subst (λ t. IsPrefix t (owns k)) (sym stays.1) ((n.held i).fronts k)
          | inr one ↦
              let is : j ≡ k = sym theirs ∙ one.1 in
              let there : slice_get (owns k) (length (of_site k (logs i))) ≡ Some r =
              subst (λ (a : SiteId). slice_get (owns k) (length (of_site k (logs a))) ≡ Some r) one.0
              (subst (λ (b : SiteId). slice_get (owns b) (length (of_site b (logs s))) ≡ Some r) is next) in
              subst (λ t. IsPrefix t (owns k)) (sym one.2)
              (prefix_push (of_site k (logs i)) (owns k) r ((n.held i).fronts k) there)
        ];
        within = λ k.
            let before = (n.held i).within k in
            elim (pushed_of logs longer s r append i k) [
              | inl stays ↦ let size = ap length stays.1 in omega (arith, before, size)
              | inr one ↦ let size = ap length one.2 ∙ length-append (of_site k (logs i)) (r ∷ []) in
                  omega (arith, before, size)
            ];
      };
      mine = λ k. elim (pushed_of logs longer s r append k k) [
        | inl stays ↦ stays.1 ∙ n.mine k
        | inr one ↦ absurd (apart (sym theirs ∙ (one.1 ∙ sym one.0)))
      ];
    }

-- one more commit of another site that a site holds is committed there
pub numbered_seen : (owns logs : SiteId → List Held) (counts higher : SiteId → SiteId → ℕ) (s j : SiteId)
    → AreNumbered owns logs counts → IsCounted counts higher s j → j ≢ s → counts s j < length (of_site j (logs s))
    → AreNumbered owns logs higher
numbered_seen owns logs counts higher s j n count apart low = record {
  own = record {
    site = n.own.site;
    numbered = n.own.numbered;
    counted = λ k. elim (count k k) [
      | inl none ↦ none.1 ∙ n.own.counted k
      | inr one ↦ absurd (apart (one.1 ∙ sym one.0))
    ];
  };
  held = λ i. record {
    fronts = (n.held i).fronts;
    within = λ k.
        let before = (n.held i).within k in
        elim (count i k) [
          | inl none ↦ let same = none.1 in omega (arith, before, same)
          | inr one ↦
              let there : counts i k < length (of_site k (logs i)) =
              subst (λ (a : SiteId). counts a k < length (of_site k (logs a))) one.0
              (subst (λ (b : SiteId). counts s b < length (of_site b (logs s))) one.1 low) in
              let risen = one.2 in
              omega (arith, there, risen)
        ];
  };
  mine = n.mine;
}
