use Rattle.std.proofs.Common.{not, rules}
use Rattle.std.proofs.lemmas.Fn.{filter_same}
use Rattle.walter_psi_of.specs.Accounts.{is_of}
use Rattle.walter_psi_of.proofs.account.Account.end.Goals as goal

pub returns-clause-ended : goal.returns-clause-ended
returns-clause-ended c =
    filter_same _ (λ s. not (is_of c.args.site c.args.client s)) _ (λ s b f' called. search rules) _ _
    c.retain.ensures.filtered
