use Rattle.std.proofs.Common.{sym, subst}
use Rattle.std.specs.Prelude.{IsTrue}
use Rattle.walter_audit.specs.Firsts.{IsSo}
use Rattle.walter_audit.specs.Journals.{journals_of}
use Rattle.walter_audit.proofs.Asked.{found_or_none}
use Rattle.walter_audit.proofs.pairing.PairedQuestion.asks.Goals as goal

pub returns : goal.returns
returns g c =
    let J = journals_of c.args.self.now.journals.now in
    let P = IsSo (λ d second. g.P.Pairing.pairs c.args.self.now.pairing.now c.args.at c.args.journaled.now d second) J in
    let either = found_or_none P c.first_of.result c.first_of.ensures.first c.first_of.ensures.none in
    (λ t. either.0 (subst IsTrue c.is_some.ensures t), λ has. subst IsTrue (sym c.is_some.ensures) (either.1 has))
