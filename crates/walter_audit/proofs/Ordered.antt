-- In a run two own commits that conflict are never apart: the start of one sees the other.
use Rattle.std.proofs.Common.{◌≡◌, ◌≢◌, List, [], ◌∷◌, length, take, false, ap, sym, ◌∙◌, subst, inl, inr}
use Rattle.std.specs.Prelude.{Contains, nat_le}
use Rattle.std.proofs.lemmas.Bool.{lt-leb}
use Rattle.std.proofs.Math.Seq.{take-length}
use Rattle.std.proofs.lemmas.Option.{slice_get_within}
use Rattle.walter_base.specs.declared.catalog.Catalog.{Catalog}
use Rattle.walter_base.specs.declared.names.SiteId.{SiteId}
use Rattle.walter_base.specs.declared.names.Tid.{Tid}
use Rattle.walter_base.specs.Values.{DoConflict}
use Rattle.walter_base.specs.Vectors.{entry_at}
use Rattle.walter_psi.specs.declared.step.Step.{Step}
use Rattle.walter_psi.specs.declared.step.Step.TheVariants.{Start}
use Rattle.walter_psi.specs.Histories.{snapshot, committed_updates}
use Rattle.walter_psi.specs.Legal.{IsLegal}
use Rattle.walter_psi.specs.Properties.{CommitsBeforeStart}
use Rattle.walter_psi.proofs.TimestampFacts.{at_logged, commits_at_take, snapshot_at}
use Rattle.walter_psi.proofs.WriterFacts.{writers_ordered}
use Rattle.walter_rules.specs.declared.held.Held.{Held}
use Rattle.walter_rules.specs.Layouts.{Layout}
use Rattle.walter_rules.specs.Log.{sees}
use Rattle.walter_rules.specs.Merges.{Named as InRun}
use Rattle.walter_linked.specs.Catalogs.{IsWhole}
use Rattle.walter_linked.proofs.Agreed.{owns, counts}
use Rattle.walter_linked.proofs.Whole.{whole_agrees, run_homes}
use Rattle.walter_refinement.specs.Spelled.{history}
use Rattle.walter_refinement.proofs.Facts.{row_unseen}
use Rattle.walter_refinement.proofs.Moves.{held, numbers, spent}
use Rattle.walter_refinement.proofs.RunSpells.{run_spells}
use Rattle.walter_runs.specs.Runs.{stands, IsRun}
use Rattle.walter_audit.specs.declared.finding.Named.{Named}
use Rattle.walter_audit.specs.Reasons.{AreUnordered}
use Rattle.walter_audit.proofs.Held.{journals_of, own_made, none_twice}

-- what commits at the site of another before that starts is in the snapshot of that one
in_snapshot : (steps : List Step) (x y : Tid) → IsLegal steps → CommitsBeforeStart steps x y
    → Contains (snapshot y steps) x
in_snapshot steps x y legal c =
    let within = slice_get_within steps c.begun (Start y y.site) c.starts in
    let logged = at_logged y.site (take c.begun steps) x c.place (commits_at_take steps x y.site c.begun c.place c.before c.commits) in
    subst (λ xs. Contains xs x)
    (sym (snapshot_at steps y c.begun (length steps) legal c.starts within) ∙ ap (λ all. snapshot y all) (take-length steps)) logged

module _ (catalog : Catalog) (layouts : SiteId → Layout) (whole : IsWhole catalog) where
  ordered_in : (older : List InRun) (n : InRun) (is : IsRun catalog layouts (n ∷ older)) (a b : Named)
      → ¬ AreUnordered (journals_of catalog (n ∷ older)) a b
  ordered_in older n is a b u =
      let run : List InRun = n ∷ older in
      let o = u.owns in
      let x : Held = record { seq = o.seq; tx = o.x } in
      let y : Held = record { seq = o.other; tx = o.y } in
      let ma = own_made catalog layouts whole run is a.site a.index o.seq o.x o.first in
      let mb = own_made catalog layouts whole run is b.site b.index o.other o.y o.second in
      let own = (whole_agrees catalog layouts whole run is).numbered.own in
      let sp = (run_spells catalog layouts (run_homes catalog layouts whole n older is) run is).spelled in
      let h : List Step = history catalog run in
      let kx = sp.kept a.site ma.0 x ma.1 in
      let ky = sp.kept b.site mb.0 y mb.1 in
      let apart : o.x.tid ≢ o.y.tid = λ e. none_twice catalog layouts whole run is a b (record { owns = o; same = e }) in
      let conflict : DoConflict (committed_updates h o.x.tid) (committed_updates h o.y.tid) =
      subst (λ us. DoConflict us (committed_updates h o.y.tid)) (sym kx.same)
      (subst (λ us. DoConflict o.x.updates us) (sym ky.same) u.conflict) in
      let x_site = own.site a.site ma.0 x ma.1 in
      let y_site = own.site b.site mb.0 y mb.1 in
      let x_unseen : sees o.y.start x ≡ false = ap (λ (j : SiteId). nat_le o.seq (entry_at o.y.start j)) x_site
      ∙ lt-leb o.seq (entry_at o.y.start a.site) u.first_unseen in
      let y_unseen : sees o.x.start y ≡ false = ap (λ (j : SiteId). nat_le o.other (entry_at o.x.start j)) y_site
      ∙ lt-leb o.other (entry_at o.x.start b.site) u.second_unseen in
      let W = stands catalog run in
      elim (writers_ordered h sp.legal o.x.tid o.y.tid apart conflict) [
        | inl first ↦ row_unseen (owns W) (counts W) (numbers W) (held W) (spent W) h own sp o.y.start
            (snapshot o.y.tid h) a.site ma.0 x ky.seen ma.1 x_unseen (in_snapshot h o.x.tid o.y.tid sp.legal first)
        | inr first ↦ row_unseen (owns W) (counts W) (numbers W) (held W) (spent W) h own sp o.x.start
            (snapshot o.x.tid h) b.site mb.0 y kx.seen mb.1 y_unseen (in_snapshot h o.y.tid o.x.tid sp.legal first)
      ]

  pub none_unordered : (run : List InRun) → IsRun catalog layouts run → (a b : Named)
      → ¬ AreUnordered (journals_of catalog run) a b
  none_unordered [] is a b u = absurd (let none = u.owns.first in cc)
  none_unordered (n ∷ older) is a b u = ordered_in older n is a b u
