use Rattle.std.proofs.Common.{◌≡◌, ◌≤◌, ◌+◌, ◌-◌, ℕ, drop}
use Rattle.indexmap.specs.IndexMap.{spare}
use Rattle.walter_base.specs.ByClient.{of_client}
use Rattle.walter_rules.specs.Sessions.{session_in}
use Rattle.walter_rules.specs.Standing.{owed}
use Rattle.walter_session.specs.Sessions.{sessions_of}
use Rattle.walter_machine.proofs.debts.owe_all.Given as goal

abbrev pub invariant-loop-behind : goal.invariant-loop-behind
invariant-loop-behind l = record {
  owed : (client : ℕ) → of_client client l.debts.entries
      ≡ owed (session_in client (drop (l.count - l.behind) (sessions_of l.lost))) (of_client client l.initial.debts.entries);
  room : spare l.initial.debts ≤ spare l.debts + l.behind;
}
