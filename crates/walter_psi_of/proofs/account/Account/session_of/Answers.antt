use Rattle.std.proofs.Common.{◌≡◌, Some, None, ap, ◌∙◌, option_map, rules, tests}
use Rattle.std.proofs.lemmas.Iterator.{YieldsList-from_slice}
use Rattle.std.proofs.lemmas.Iterator.Search.{find_from_yields_List}
use Rattle.walter_psi_of.specs.declared.account.Session.{Session}
use Rattle.walter_psi_of.specs.Accounts.{is_of}
use Rattle.walter_psi_of.proofs.Kept.{session_found}
use Rattle.walter_psi_of.proofs.account.Account.session_of.Goals as goal

pub returns-in_err-session : goal.returns-in_err-session
returns-in_err-session c =
    let found = find_from_yields_List (is_of c.args.site c.args.client) _ _ c.find.result c.find.ensures.ran
    (YieldsList-from_slice c.args.self.now.sessions.items cc)
    (λ x b q k. search (rules, tests)) in
    let none : c.find.result ≡ None = c.in_err-session.was in
    c.from_residual.ensures
    ∙ (ap (option_map (λ (s : Session). s.tid)) (rw none at found)
    ∙ session_found c.args.site c.args.client c.args.self.now.sessions.items)

pub returns : goal.returns
returns c =
    let found = find_from_yields_List (is_of c.args.site c.args.client) _ _ c.find.result c.find.ensures.ran
    (YieldsList-from_slice c.args.self.now.sessions.items cc)
    (λ x b q k. search (rules, tests)) in
    let some : c.find.result ≡ Some c.in_ok-session.session = c.in_ok-session.was in
    ap (option_map (λ (s : Session). s.tid)) (rw some at found)
    ∙ session_found c.args.site c.args.client c.args.self.now.sessions.items
