-- Of two transactions of a legal history that write one object, one has committed at the site of the other when the other
-- starts; so they are nowhere concurrent (PSI Property 2).
use Rattle.std.proofs.Common.{◌≡◌, ◌≢◌, ℕ, ◌<◌, List, [], ◌∷◌, take, refl, ap, sym, ◌∙◌, subst, arith, slice_get, Some, true, false, inl, inr, ◌⊎◌}
use Rattle.std.specs.Prelude.{Contains}
use Rattle.std.proofs.lemmas.Bool.{cases_order}
use Rattle.std.proofs.lemmas.List.Elements.{Contains-append_right, Contains-append_cases}
use Rattle.std.proofs.Math.Logic.{⊎_swap}
use Rattle.walter_base.specs.declared.names.ObjId.{ObjId}
use Rattle.walter_base.specs.declared.names.SiteId.{SiteId}
use Rattle.walter_base.specs.declared.names.Tid.{Tid}
use Rattle.walter_base.specs.declared.update.Update.{Update}
use Rattle.walter_base.specs.Names.{same_tid}
use Rattle.walter_base.specs.Values.{write_set, DoConflict}
use Rattle.walter_base.proofs.NameTests.{same_tid-true, same_tid_refl}
use Rattle.walter_psi.specs.declared.step.Step.{Step}
use Rattle.walter_psi.specs.declared.step.Step.TheVariants.{Commit}
use Rattle.walter_psi.specs.Histories.{log, committed_updates, snapshot, IsCommitted}
use Rattle.walter_psi.specs.Legal.{IsLegal}
use Rattle.walter_psi.specs.Properties.{StartsAt, CommitsAt, CommitsBeforeStart, AreConcurrentAt, AreSomewhereConcurrent, NoConcurrentWriters, AreWritersOrdered}
use Rattle.walter_psi.proofs.Lists.{Contains-nil, Contains-one, contains_at, place_of, slice_get-take}
use Rattle.walter_psi.proofs.OneMore.{legal_take}
use Rattle.walter_psi.proofs.LegalFacts.{committed_updates_of, none_committed, started_once}
use Rattle.walter_psi.proofs.Logs.{committed_logged, logged_committed}
use Rattle.walter_psi.proofs.TimestampFacts.{own_commit_first, one_commit, commit_at, commit_started, start_before, logged_before, snapshot_at}

-- whether a transaction stands in a list
stands_or_not : (x : Tid) (xs : List Tid) → Contains xs x ⊎ ¬ Contains xs x
stands_or_not x [] = inr (Contains-nil x)
stands_or_not x (y ∷ ys) =
    elim (same_tid y x) as (λ b. same_tid y x ≡ b → Contains (y ∷ ys) x ⊎ ¬ Contains (y ∷ ys) x) [
      | true ↦ λ is. inl (contains_at (y ∷ ys) x 0 (ap (λ z. Some z) (same_tid-true y x is)))
      | false ↦ λ is. elim (stands_or_not x ys) [
        | inl there ↦ inl (Contains-append_right (y ∷ []) ys x there)
        | inr nowhere ↦ inr (λ c. elim (Contains-append_cases (y ∷ []) ys x c) [
          | inl here ↦
              let refused = subst (λ z. same_tid z x ≡ false) (Contains-one y x here) is in
              let same = same_tid_refl x in
              absurd cc
          | inr there ↦ nowhere there
        ])
      ]
    ] refl

-- what has written is committed
writer_committed : (steps : List Step) (x : Tid) (oid : ObjId) → IsLegal steps
    → Contains (write_set (committed_updates steps x)) oid → IsCommitted x steps
writer_committed steps x oid legal writes =
    elim (stands_or_not x (log x.site steps)) [
      | inl stands ↦ logged_committed x.site x steps legal stands
      | inr nowhere ↦
          let nothing = none_committed x steps (λ committed. nowhere (committed_logged x steps committed)) in
          absurd (Contains-nil oid (subst (λ us. Contains (write_set us) oid) nothing writes))
    ]

-- of two commits that conflict, the earlier one stands at the site of the later one's transaction before its start
later_writer : (steps : List Step) (x y : Tid) (us vs : List Update) (first second : ℕ) → IsLegal steps → x ≢ y → first < second
    → slice_get steps first ≡ Some (Commit x us) → slice_get steps second ≡ Some (Commit y vs) → DoConflict us vs
    → CommitsBeforeStart steps x y
later_writer steps x y us vs first second legal apart l sooner later conflict =
    let next = legal second (Commit y vs) later in
    let start = start_before steps y second legal next.running.0 in
    elim (stands_or_not x (snapshot y (take second steps))) [
      | inl seen ↦
          let logged = subst (λ all. Contains all x) (snapshot_at steps y start.0 second legal start.2 start.1) seen in
          let before = logged_before y.site steps x start.0 logged in
          record { place = before.0; begun = start.0; commits = before.2; starts = start.2; before = before.1 }
      | inr unseen ↦
          let stands = contains_at (take second steps) (Commit x us) first (slice_get-take steps second first l ∙ sooner) in
          let given = committed_updates_of x us (take second steps) (legal_take second steps legal) stands in
          absurd (next.free (x, (us, stands), apart, subst (λ updates. DoConflict updates vs) (sym given) conflict, unseen))
    ]

-- of two transactions that write one object, one commits at the site of the other before the other starts
pub writers_ordered : (steps : List Step) → IsLegal steps → AreWritersOrdered steps
writers_ordered steps legal x y apart conflict =
    let one = writer_committed steps x conflict.0 legal conflict.1 in
    let other = writer_committed steps y conflict.0 legal conflict.2 in
    let writes : Contains (write_set one.0) conflict.0 = subst (λ us. Contains (write_set us) conflict.0) (committed_updates_of x one.0 steps legal one.1) conflict.1 in
    let overwrites : Contains (write_set other.0) conflict.0 = subst (λ us. Contains (write_set us) conflict.0) (committed_updates_of y other.0 steps legal other.1) conflict.2 in
    let first = place_of steps (Commit x one.0) one.1 in
    let second = place_of steps (Commit y other.0) other.1 in
    elim (in_order first.0 second.0 first.1 second.1) [
      | inl sooner ↦ inl (later_writer steps x y one.0 other.0 first.0 second.0 legal apart sooner first.1 second.1 (conflict.0, writes, overwrites))
      | inr later ↦ inr (later_writer steps y x other.0 one.0 second.0 first.0 legal (λ same. apart (sym same)) later second.1 first.1 (conflict.0, overwrites, writes))
    ]
  where
    in_order : {us vs : List Update} (a b : ℕ) → slice_get steps a ≡ Some (Commit x us) → slice_get steps b ≡ Some (Commit y vs) → (a < b) ⊎ (b < a)
    in_order {us = us} {vs = vs} a b at there =
        elim (cases_order a b) [
          | inl same ↦
              let here : Some (Commit x us) ≡ Some (Commit y vs) = sym at ∙ (ap (λ n. slice_get steps n) same ∙ there) in
              absurd (apart cc)
          | inr ordered ↦ ordered
        ]

-- what commits at a site before another starts isn't concurrent with it there
before_start_apart : (steps : List Step) (x y : Tid) (site : SiteId) (place begun : ℕ) → IsLegal steps
    → CommitsAt steps x site place → StartsAt steps y begun → place < begun → ¬ AreConcurrentAt steps x y site
before_start_apart steps x y site place begun legal stands start l concurrent =
    elim concurrent [
      | inl during ↦
          let same_start = started_once y steps during.begun begun y.site y.site legal during.starts start in
          let same_commit = one_commit steps x site during.between place legal during.commits stands in
          omega (arith, same_start, same_commit, during.after)
      | inr during ↦
          let same_commit = one_commit steps x site during.ended place legal during.ends stands in
          let own_start = commit_started steps y site during.between legal during.commits in
          let same_start = started_once y steps own_start.0 begun y.site y.site legal own_start.2 start in
          omega (arith, same_start, same_commit, own_start.1, during.before)
    ]

-- what commits at the site of another before that starts is nowhere concurrent with it
nowhere_concurrent : (steps : List Step) (x y : Tid) → IsLegal steps → CommitsBeforeStart steps x y → ¬ AreSomewhereConcurrent steps x y
nowhere_concurrent steps x y legal first concurrent =
    elim concurrent [
      | inl at_own ↦
          let own = own_commit_first steps x y.site first.place legal first.commits in
          before_start_apart steps x y x.site own.0 first.begun legal (commit_at steps x own.2 own.0 own.3) first.starts
          (omega (arith, own.1, first.before)) at_own
      | inr at_other ↦ before_start_apart steps x y y.site first.place first.begun legal first.commits first.starts first.before at_other
    ]

-- concurrency doesn't tell the two apart
flip : (steps : List Step) (x y : Tid) → AreSomewhereConcurrent steps x y → AreSomewhereConcurrent steps y x
flip steps x y concurrent = elim concurrent [ inl here ↦ inr (⊎_swap here) | inr here ↦ inl (⊎_swap here) ]

-- no two that are somewhere concurrent write one object
pub no_conflict : (steps : List Step) → IsLegal steps → NoConcurrentWriters steps
no_conflict steps legal x y apart concurrent conflict =
    elim (writers_ordered steps legal x y apart conflict) [
      | inl first ↦ nowhere_concurrent steps x y legal first concurrent
      | inr first ↦ nowhere_concurrent steps y x legal first (flip steps x y concurrent)
    ]
