-- What a vote comes to by the tables is what the rules say.
use Rattle.std.proofs.Common.{inl, inr, ◌≡◌, ◌≢◌, ◌+◌, ◌<◌, ℕ, Bool, true, false, not, ◌&&◌, List, [], ◌∷◌, Option, Some, None, refl, ap, sym, ◌∙◌, subst, if◌then◌else◌}
use Rattle.std.specs.List.{list_all}
use Rattle.std.proofs.lemmas.Bool.{cases_Bool}
use Rattle.walter_base.specs.declared.catalog.Catalog.{Catalog}
use Rattle.walter_base.specs.declared.message.Record.TheVariants.{Own}
use Rattle.walter_base.specs.declared.names.SiteId.{SiteId}
use Rattle.walter_base.specs.declared.packet.Answer.{Answer}
use Rattle.walter_base.specs.declared.packet.Answer.TheVariants.{Yes, No, Later}
use Rattle.walter_base.specs.declared.transaction.Conflict.{Conflict}
use Rattle.walter_base.specs.declared.transaction.Conflict.TheVariants.{Modified, Locked as LockedThere, Dead}
use Rattle.walter_base.specs.declared.transaction.Tx.{Tx}
use Rattle.walter_base.proofs.NameTests.{both}
use Rattle.walter_rules.specs.Deliveries.{passes, if_missing, if_asked, votes_by, commits_if_all, ends_slow}
use Rattle.walter_rules.specs.Knowledge.{Knowledge}
use Rattle.walter_rules.specs.Records.{CanFollow}
use Rattle.walter_rules.specs.Slow.{Slow, Unused, Undecided, Dropped, Decided, has_site}
use Rattle.walter_slow.specs.declared.verdict.Verdict.{Verdict}
use Rattle.walter_slow.specs.declared.verdict.Verdict.TheVariants.{Waiting, Commit, Abort, Unknown}
use Rattle.walter_slow.specs.Kept.{Kept, kept_of, waits_for, judged, verdict_of}
use Rattle.walter_slow.specs.Tables.{commit_of}
use Rattle.walter_spread.specs.Propagation.{own}
use Rattle.walter_tables.specs.Planning.{IsUp}
use Rattle.walter_tables.specs.Standing.{Values, StandFor}

module _ (catalog : Catalog) (i : SiteId) (K : Knowledge) (p : SiteId) (n : ℕ) where
  abbrev pub kept : Slow → Option Kept
  kept g = kept_of g (K.said_yes n) (K.said_no n) (K.said_released n)

  -- a YES that isn't missing is passed over
  pub not_missing : (g : Slow) → waits_for (kept g) p ≡ false → passes [] ≡ votes_by catalog i K p n Yes g
  not_missing Unused waits = refl
  not_missing (Dropped tx asked) waits = refl
  not_missing (Decided tx) waits = refl
  not_missing (Undecided tx asked) waits =
      elim (has_site p asked) as (λ a. (a && not (has_site p (K.said_yes n))) ≡ false
      → passes [] ≡ if_asked a catalog i K p n tx asked Yes) [
        | true ↦ λ w. ap (λ m. if_missing m catalog i K p n tx asked) (sym w)
        | false ↦ λ w. refl
      ] waits

  -- the slow commit is being decided, and the YES of the site is missing
  pub record IsMissing (g : Slow) : Type 0 where
    pub tx : Tx
    pub asked : List SiteId
    pub undecided : g ≡ Undecided tx asked
    pub there : has_site p asked ≡ true
    pub unheard : not (has_site p (K.said_yes n)) ≡ true

  pub missing_is : (g : Slow) → waits_for (kept g) p ≡ true → IsMissing g
  missing_is Unused waits = absurd cc
  missing_is (Dropped tx asked) waits = absurd cc
  missing_is (Decided tx) waits = absurd cc
  missing_is (Undecided tx asked) waits =
      let parts = both (has_site p asked) (not (has_site p (K.said_yes n))) waits in
      record { tx = tx; asked = asked; undecided = refl; there = parts.0; unheard = parts.1 }

  -- whether the YES is the last that is missing
  abbrev pub is_last : List SiteId → Bool
  is_last asked = list_all (λ k. has_site k (p ∷ K.said_yes n)) asked

  pub missing_rule : (g : Slow) (m : IsMissing g) → votes_by catalog i K p n Yes g
      ≡ commits_if_all catalog i K m.tx (is_last m.asked)
  missing_rule g m =
      ap (votes_by catalog i K p n Yes) m.undecided
      ∙ ap (λ a. if_asked a catalog i K p n m.tx m.asked Yes) m.there
      ∙ ap (λ b. if_missing b catalog i K p n m.tx m.asked) m.unheard

  pub missing_verdict : (g : Slow) (m : IsMissing g) → verdict_of (kept g) p Yes
      ≡ (if is_last m.asked then Commit else Waiting)
  missing_verdict g m =
      ap (λ (x : Slow). verdict_of (kept x) p Yes) m.undecided
      ∙ ap (λ (a : Bool). if a then (if is_last m.asked then Commit else Waiting) else Unknown) m.there

  last_of : (b : Bool) → (if b then Commit else Waiting) ≡ Commit → b ≡ true
  last_of true is = refl
  last_of false is = absurd cc

  -- the last that is missing decides it
  pub last_rule : (g : Slow) (m : IsMissing g) → verdict_of (kept g) p Yes ≡ Commit
      → votes_by catalog i K p n Yes g ≡ commits_if_all catalog i K m.tx true
  last_rule g m is = missing_rule g m
      ∙ ap (commits_if_all catalog i K m.tx) (last_of (is_last m.asked) (sym (missing_verdict g m) ∙ is))

  -- a NO that counts ends the slow commit, which is being decided
  pub record IsEnding (g : Slow) (answer : Answer) : Type 0 where
    pub tx : Tx
    pub asked : List SiteId
    pub undecided : g ≡ Undecided tx asked
    pub rule : votes_by catalog i K p n answer g ≡ ends_slow catalog i n asked

  abbrev ByVerdict : Slow → Answer → Verdict → Type 0
  ByVerdict g answer (Abort conflict) = IsEnding g answer
  ByVerdict g answer Waiting = votes_by catalog i K p n answer g ≡ passes []
  ByVerdict g answer Commit = ⊥
  ByVerdict g answer Unknown = votes_by catalog i K p n answer g ≡ passes []

  by_conflict : (tx : Tx) (asked : List SiteId) (conflict : Conflict) → has_site p asked ≡ true
      → ByVerdict (Undecided tx asked) (No conflict)
      (judged (record { tx = Some tx; asked = asked; heard = K.said_yes n; no = None }) p (No conflict))
  by_conflict tx asked (Modified oid version) there = record {
    tx = tx;
    asked = asked;
    undecided = refl;
    rule = ap (λ a. if_asked a catalog i K p n tx asked (No (Modified oid version))) there;
  }
  by_conflict tx asked (LockedThere oid owner) there = record {
    tx = tx;
    asked = asked;
    undecided = refl;
    rule = ap (λ a. if_asked a catalog i K p n tx asked (No (LockedThere oid owner))) there;
  }
  by_conflict tx asked Dead there = ap (λ a. if_asked a catalog i K p n tx asked (No Dead)) there

  by_verdict : (conflict : Conflict) (g : Slow) → ByVerdict g (No conflict) (verdict_of (kept g) p (No conflict))
  by_verdict conflict Unused = refl
  by_verdict conflict (Dropped tx asked) = refl
  by_verdict conflict (Decided tx) = refl
  by_verdict conflict (Undecided tx asked) =
      let one : Kept = record { tx = Some tx; asked = asked; heard = K.said_yes n; no = None } in
      elim (cases_Bool (has_site p asked)) [
        | inl there ↦ subst (λ (a : Bool). ByVerdict (Undecided tx asked) (No conflict)
            (if a then judged one p (No conflict) else Unknown)) (sym there) (by_conflict tx asked conflict there)
        | inr out ↦ subst (λ (a : Bool). ByVerdict (Undecided tx asked) (No conflict)
            (if a then judged one p (No conflict) else Unknown)) (sym out)
            (ap (λ a. if_asked a catalog i K p n tx asked (No conflict)) out)
      ]

  by_later : (g : Slow) → ByVerdict g Later (verdict_of (kept g) p Later)
  by_later Unused = refl
  by_later (Dropped tx asked) = refl
  by_later (Decided tx) = refl
  by_later (Undecided tx asked) = elim (cases_Bool (has_site p asked)) [
    | inl there ↦ subst (λ (a : Bool). ByVerdict (Undecided tx asked) Later (if a then Waiting else Unknown)) (sym there)
        (ap (λ a. if_asked a catalog i K p n tx asked Later) there)
    | inr out ↦ subst (λ (a : Bool). ByVerdict (Undecided tx asked) Later (if a then Waiting else Unknown)) (sym out)
        (ap (λ a. if_asked a catalog i K p n tx asked Later) out)
  ]

  pub ends : (answer : Answer) (cause : Conflict) (g : Slow) → answer ≢ Yes → verdict_of (kept g) p answer ≡ Abort cause
      → IsEnding g answer
  ends Yes cause g other is = absurd (other refl)
  ends (No conflict) cause g other is = subst (ByVerdict g (No conflict)) is (by_verdict conflict g)
  ends Later cause g other is = subst (ByVerdict g Later) is (by_later g)

-- what is being decided can be committed under the next number
pub decided_follows : (V : Values) (K : Knowledge) → StandFor V K → IsUp V → (n seq : ℕ) (tx : Tx) (asked : List SiteId)
    → K.slow n ≡ Undecided tx asked → seq ≡ own V.spread + 1 → V.spread.site ≡ V.site
    → CanFollow V.catalog V.site K (Own seq tx)
decided_follows V K S U n seq tx asked undecided next same =
    let one : Kept = record { tx = Some tx; asked = asked; heard = K.said_yes n; no = None } in
    let is : commit_of V.slow n ≡ Some one =
    S.slow.kept n ∙ ap (λ (g : Slow). kept_of g (K.said_yes n) (K.said_no n) (K.said_released n)) undecided in
    let asking = S.sound.asking n tx asked undecided in
    record {
      booted = subst (λ e. 0 < e) S.epoch U.booted;
      next = next ∙ ap (λ (m : ℕ). m + 1) (S.spread.seen V.spread.site ∙ ap K.committed same);
      here = U.own n one tx is refl;
      slow = λ begun. (asked, ap K.slow asking.named ∙ undecided);
      declared = asking.is.declared;
    }
