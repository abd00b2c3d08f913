-- A read of a legal history is answered by what had been committed at its site at the start (PSI Property 1).
use Rattle.std.proofs.Common.{◌≡◌, ℕ, ◌<◌, ◌≤◌, List, ◌++◌, take, ap, sym, ◌∙◌, subst, arith}
use Rattle.std.specs.Prelude.{Contains, flat_map}
use Rattle.std.proofs.lemmas.List.{take-take}
use Rattle.walter_base.specs.declared.names.SiteId.{SiteId}
use Rattle.walter_base.specs.declared.names.Tid.{Tid}
use Rattle.walter_psi.specs.declared.step.Step.{Step}
use Rattle.walter_psi.specs.declared.step.Step.TheVariants.{Read, Commit}
use Rattle.walter_psi.specs.Histories.{log, own_updates, committed_updates, IsCommitted}
use Rattle.walter_psi.specs.Legal.{IsLegal, IsAnswer}
use Rattle.walter_psi.specs.Properties.{site_updates, ReadsSnapshot}
use Rattle.walter_psi.proofs.Lists.{Contains-take, flat_map_agree}
use Rattle.walter_psi.proofs.OneMore.{legal_take}
use Rattle.walter_psi.proofs.LegalFacts.{committed_updates_of, started_once}
use Rattle.walter_psi.proofs.Logs.{logged_committed}
use Rattle.walter_psi.proofs.TimestampFacts.{start_before, snapshot_at}

-- what a transaction has committed after some steps is what it has after more
pub committed_updates-take : (steps : List Step) (x : Tid) (n m : ℕ) → IsLegal steps → n ≤ m → IsCommitted x (take n steps)
    → committed_updates (take m steps) x ≡ committed_updates (take n steps) x
committed_updates-take steps x n m legal l committed =
    let commit = Commit x committed.0 in
    let more = Contains-take (take m steps) n commit (subst (λ front. Contains front commit) (sym (take-take n m steps l)) committed.1) in
    committed_updates_of x committed.0 (take m steps) (legal_take m steps legal) more
    ∙ sym (committed_updates_of x committed.0 (take n steps) (legal_take n steps legal) committed.1)

-- what had been committed at a site after some steps is the same by all that is committed later
pub site_updates_kept : (steps : List Step) (site : SiteId) (n m : ℕ) → IsLegal steps → n ≤ m
    → flat_map (committed_updates (take m steps)) (log site (take n steps)) ≡ site_updates site (take n steps)
site_updates_kept steps site n m legal l =
    flat_map_agree (committed_updates (take m steps)) (committed_updates (take n steps)) (log site (take n steps))
    (λ x stands. committed_updates-take steps x n m legal l (logged_committed site x (take n steps) (legal_take n steps legal) stands))

-- each read is by the snapshot of its transaction
pub reads_snapshot : (steps : List Step) → IsLegal steps → ReadsSnapshot steps
reads_snapshot steps legal x oid answer place at =
    let next = legal place (Read x oid answer) at in
    let first = start_before steps x place legal next.0.0 in (
      first,
      λ begun start.
          let same = started_once x steps first.0 begun x.site x.site legal first.2 start in
          let within : begun < place = omega (arith, same, first.1) in
          let own = own_updates x (take place steps) in
          let seen = ap (λ logged. flat_map (committed_updates (take place steps)) logged ++ own) (snapshot_at steps x begun place legal start within)
          ∙ ap (λ updates. updates ++ own) (site_updates_kept steps x.site begun place legal (omega arith)) in
          subst (λ updates. IsAnswer oid updates answer) seen next.1,
    )
