use Rattle.std.proofs.Common.{◌≢◌, ◌<◌, ◌∙◌, ℕ, length, arith, below_more, subst, sym, ap}
use Rattle.walter_cluster.specs.Meetings.{Begins, HaveLanes}
use Rattle.walter_cluster.proofs.closing.compare_all.Goals as goal

pub compare_with_all-requires-clause-lanes : goal.compare_with_all-requires-clause-lanes
compare_with_all-requires-clause-lanes g c = subst (λ cells. HaveLanes cells) (sym c.loop-to.invariant.same) c.requires.lanes

pub loop-to-preserved : goal.loop-to-preserved
loop-to-preserved g c =
    let at = c.loop-to.invariant in
    let first = c.args.cells.now in
    let l = ap length at.same in record {
      same = c.compare_with_all.ensures.same ∙ at.same;
      begins = λ to from below within apart.
          below_more (λ (i : ℕ). (j : ℕ) → j < length first → i ≢ j → Begins first i j) c.loop-to.to
          (λ i lower j inside other. at.begins i j lower inside other)
          (λ j inside other.
          subst (λ cells. Begins cells c.loop-to.to j) at.same
          (c.compare_with_all.ensures.begins j (omega (arith, inside, l)) other))
          to below from within apart;
    }

pub returns-clause-begins : goal.returns-clause-begins
returns-clause-begins g c to from below within apart =
    let at = c.loop-to.invariant in
    let done = c.loop-to-test.false in
    let l = ap length at.same in
    at.begins to from (omega (arith, below, done, l)) within apart
