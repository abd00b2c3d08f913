use Rattle.std.proofs.Common.{◌≢◌, ◌∙◌, ℕ, length, arith, below_more, subst, sym, ap}
use Rattle.walter_cluster.specs.Meetings.{Begins, HaveLanes}
use Rattle.walter_cluster.proofs.closing.compare_with_all.Goals as goal

pub compare_one-requires-clause-lanes : goal.compare_one-requires-clause-lanes
compare_one-requires-clause-lanes g c = subst (λ cells. HaveLanes cells) (sym c.loop-from.invariant.same) c.requires.lanes

pub loop-from-preserved : goal.loop-from-preserved
loop-from-preserved g c =
    let at = c.loop-from.invariant in record {
      same = c.compare_one.ensures.same ∙ at.same;
      begins = below_more (λ (j : ℕ). c.args.to ≢ j → Begins c.args.cells.now c.args.to j) c.loop-from.from at.begins
          (λ apart. subst (λ cells. Begins cells c.args.to c.loop-from.from) at.same (c.compare_one.ensures.begins apart));
    }

pub returns-clause-begins : goal.returns-clause-begins
returns-clause-begins g c from below apart =
    let at = c.loop-from.invariant in
    let done = c.loop-from-test.false in
    let l = ap length at.same in
    at.begins from (omega (arith, below, done, l)) apart
