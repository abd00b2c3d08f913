use Rattle.std.proofs.Common.{sym, subst}
use Rattle.std.specs.Prelude.{IfNone}
use Rattle.walter_audit.specs.Firsts.{IsSoPair}
use Rattle.walter_audit.specs.Journals.{journals_of}
use Rattle.walter_audit.specs.declared.finding.Named.{Named}
use Rattle.walter_audit.proofs.Asked.{pair_first, pair_asked, has_beside}
use Rattle.walter_audit.proofs.pairing.first_pair.Goals as goal

pub returns-in_err-a-clause-none : goal.returns-in_err-a-clause-none
returns-in_err-a-clause-none g c =
    let P = g.P.Pairing.pairs c.args.pairing.now in
    let J = journals_of c.args.journals.now in
    subst (λ r. IfNone r ((a b : Named) → ¬ IsSoPair P J a b)) (sym c.from_residual.ensures)
    (pair_asked P J c.in_err-a.ensures.none)

pub returns-in_err-b-clause-none : goal.returns-in_err-b-clause-none
returns-in_err-b-clause-none g c =
    let P = g.P.Pairing.pairs c.args.pairing.now in
    let J = journals_of c.args.journals.now in
    absurd (has_beside P J c.in_ok-a.a c.in_ok-a.ensures.first.so c.in_ok-first.first.now c.in_ok-first.ensures.some
    c.in_err-b.ensures.none)

pub returns-clause-first : goal.returns-clause-first
returns-clause-first g c =
    pair_first (g.P.Pairing.pairs c.args.pairing.now) (journals_of c.args.journals.now) c.in_ok-a.a c.in_ok-a.ensures.first
    c.in_ok-first.first.now c.in_ok-first.ensures.some c.in_ok-b.b c.in_ok-b.ensures.first
