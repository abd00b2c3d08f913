-- What commits at a site before a transaction of that site starts commits before it everywhere (PSI Property 3).
use Rattle.std.proofs.Common.{◌<◌, List, take, ap, sym, ◌∙◌, subst, arith, Some, inl, inr}
use Rattle.std.specs.Prelude.{Contains}
use Rattle.std.proofs.lemmas.List.Elements.{All-contains}
use Rattle.walter_base.specs.declared.names.SiteId.{SiteId}
use Rattle.walter_psi.specs.declared.step.Step.{Step}
use Rattle.walter_psi.specs.declared.step.Step.TheVariants.{Arrive}
use Rattle.walter_psi.specs.Histories.{log, snapshot}
use Rattle.walter_psi.specs.Legal.{IsLegal}
use Rattle.walter_psi.specs.Properties.{CommitsAt, IsCausal}
use Rattle.walter_psi.proofs.StepFacts.{logged_is}
use Rattle.walter_psi.proofs.LegalFacts.{started_once}
use Rattle.walter_psi.proofs.TimestampFacts.{commit_started, commits_at_take, at_logged, logged_before, snapshot_at}

-- every legal history is causal
pub causal : (steps : List Step) → IsLegal steps → IsCausal steps
causal steps legal x y first site place ends =
    let own = commit_started steps y site place legal ends in
    let same = started_once y steps own.0 first.begun y.site y.site legal own.2 first.starts in
    let within : first.begun < place = omega (arith, same, own.1) in
    elim (logged_is y site ends.step ends.logs) [
      | inl commit ↦ (first.place, omega (arith, first.before), subst (λ (at : SiteId). CommitsAt steps x at first.place) commit.2 first.commits)
      | inr arrive ↦
          let next = legal place (Arrive y site) (ends.here ∙ ap (λ z. Some z) arrive) in
          let stood = commits_at_take steps x y.site first.begun first.place first.before first.commits in
          let logged = at_logged y.site (take first.begun steps) x first.place stood in
          let seen = subst (λ all. Contains all x) (sym (snapshot_at steps y first.begun place legal first.starts within)) logged in
          logged_before site steps x place
          (All-contains (λ z. Contains (log site (take place steps)) z) (snapshot y (take place steps)) x next.causal seen)
    ]
