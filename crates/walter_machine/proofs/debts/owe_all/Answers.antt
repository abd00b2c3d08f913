use Rattle.std.proofs.Common.{◌≡◌, ◌+◌, ◌-◌, ℕ, arith, sym, subst, ◌∙◌, ap, drop}
use Rattle.walter_rules.specs.Sessions.{Sessions, session_in}
use Rattle.walter_rules.specs.Standing.{owed}
use Rattle.walter_session.specs.Sessions.{sessions_of}
use Rattle.walter_base.specs.ByClient.{of_client}
use Rattle.walter_machine.proofs.Owing.{owed_more, from_ok}
use Rattle.walter_machine.proofs.debts.owe_all.Goals as goal

pub loop-behind-preserved : goal.loop-behind-preserved
loop-behind-preserved c =
    let sessions : Sessions = sessions_of c.args.lost.now in
    let count = c.len-count.result in
    let behind = c.loop-behind.behind in
    let n : ℕ = count - 1 - behind in
    let front : count - behind ≡ n + 1 = omega (arith, c.loop-behind-test.true) in
    let here : n ≡ count - (behind + 1) = omega (arith, c.loop-behind-test.true) in
    let ok = c.insert.ensures.succeeds (omega (arith, c.loop-behind-test.true, c.requires, c.loop-behind.invariant.room, c.len-count.ensures)) in
    let updates = from_ok c.insert.result _ ok c.insert.ensures.updates in
    record {
      owed = λ client.
          subst (λ (k : ℕ). of_client client c.insert.new.self.entries ≡ owed (session_in client (drop k sessions)) (of_client client c.args.debts.now.entries)) here
          (owed_more sessions n c.in-Some.client c.in-Some.tid client (of_client client c.args.debts.now.entries)
          (of_client client c.loop-behind.debts.entries) (of_client client c.insert.new.self.entries) (sym c.in-Some.ensures) (updates.0 client)
          (c.loop-behind.invariant.owed client ∙ ap (λ (k : ℕ). owed (session_in client (drop k sessions)) (of_client client c.args.debts.now.entries)) front));
      room = omega (arith, c.insert.ensures.spare, c.loop-behind.invariant.room);
    }
