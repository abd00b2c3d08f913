use Rattle.std.proofs.Common.{not, rules}
use Rattle.std.proofs.lemmas.Fn.{filter_same}
use Rattle.walter_psi_of.specs.Accounts.{is_at}
use Rattle.walter_psi_of.proofs.account.Account.lose.Goals as goal

pub returns-clause-lost : goal.returns-clause-lost
returns-clause-lost c =
    filter_same _ (λ s. not (is_at c.args.site s)) _ (λ s b f' called. search rules) _ _ c.retain.ensures.filtered
