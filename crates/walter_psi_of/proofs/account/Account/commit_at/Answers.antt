use Rattle.std.proofs.Common.{ap, ◌∙◌, rules, tests}
use Rattle.std.specs.Prelude.{slice_get}
use Rattle.std.proofs.lemmas.Iterator.{YieldsList-from_slice}
use Rattle.std.proofs.lemmas.Iterator.Consumers.{YieldsList-from_filter, nth_from_yields_List}
use Rattle.walter_base.specs.declared.names.Tid.{Tid}
use Rattle.walter_base.specs.Names.{same_site}
use Rattle.walter_psi_of.specs.Accounts.{commits_of}
use Rattle.walter_psi_of.proofs.account.Account.commit_at.Goals as goal

pub returns : goal.returns
returns c =
    let found = nth_from_yields_List c.nth.result c.nth.new.self _ c.nth.ensures.ran
    (YieldsList-from_filter _ (λ (tid : Tid). same_site tid.site c.args.site)
    (YieldsList-from_slice c.args.self.now.commits.items cc) c.filter.ensures.closure
    (λ x r q k. search (rules, tests))) in
    c.copied.ensures
    ∙ (found ∙ ap (slice_get (commits_of c.args.site c.args.self.now.commits.items)) c.saturating_sub-place.ensures)
