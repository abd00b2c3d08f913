-- The records before the place are passed, and so are all where the loop ends.
use Rattle.std.proofs.Common.{◌≡◌, ◌<◌, false, true, length, below_more, arith}
use Rattle.std.proofs.lemmas.Option.{slice_get_within}
use Rattle.walter_audit.proofs.Asked.{not_here}
use Rattle.walter_audit.proofs.question.first_in.Goals as goal

pub loop-index-preserved : goal.loop-index-preserved
loop-index-preserved g c =
    let low : c.loop-index.index < length c.args.records.now = omega arith in
    below_more _ _ c.loop-index.invariant
    (not_here (g.Q.Question.holds c.args.question.now) c.args.site c.args.records.now c.loop-index.index
    c.index-records-index.result low c.index-records-index.is (λ h. let e : false ≡ true = c.if-asks.ensures.1 h in cc))

pub returns-clause-none : goal.returns-clause-none
returns-clause-none g c = λ index so.
    let within = slice_get_within c.args.records.now index so.0 so.1 in
    c.loop-index.invariant index (omega (arith, within)) so
