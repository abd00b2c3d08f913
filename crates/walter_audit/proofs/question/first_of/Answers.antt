-- The sites before are passed, and so are all where the loop ends.
use Rattle.std.proofs.Common.{◌<◌, length, sym, subst, arith}
use Rattle.walter_audit.specs.Firsts.{IsSoAt, IsFirstPlace}
use Rattle.walter_audit.proofs.Asked.{got_at, found_first, none_more, none_at_all}
use Rattle.walter_audit.proofs.question.first_of.Goals as goal

pub returns-in-Some-clause-first : goal.returns-in-Some-clause-first
returns-in-Some-clause-first g c =
    let holds = g.Q.Question.holds c.args.question.now in
    let low : c.loop-number.number < length c.args.journals.now = omega arith in
    let at = got_at c.args.journals.now c.loop-number.number c.index-journals-number.result low c.index-journals-number.is in
    found_first holds c.args.journals.now c.loop-number.number c.index-journals-number.result at c.loop-number.invariant c.in-Some.index
    (subst (λ rs. IsFirstPlace holds (record { 0 = c.loop-number.number }) rs c.in-Some.index) c.records.ensures c.in-Some.ensures.first)

pub loop-number-preserved : goal.loop-number-preserved
loop-number-preserved g c =
    let holds = g.Q.Question.holds c.args.question.now in
    let low : c.loop-number.number < length c.args.journals.now = omega arith in
    let at = got_at c.args.journals.now c.loop-number.number c.index-journals-number.result low c.index-journals-number.is in
    none_more holds c.args.journals.now c.loop-number.number c.index-journals-number.result at c.loop-number.invariant
    (λ index so. c.in_default.ensures.none index
    (subst (λ rs. IsSoAt holds (record { 0 = c.loop-number.number }) rs index) (sym c.records.ensures) so))

pub returns-clause-none : goal.returns-clause-none
returns-clause-none g c = none_at_all (g.Q.Question.holds c.args.question.now) c.args.journals.now c.loop-number.number (omega arith)
    c.loop-number.invariant
