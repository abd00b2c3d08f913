use Rattle.std.proofs.Common.{List, subst}
use Rattle.walter_cluster.specs.Builds.{AreUnread}
use Rattle.walter_scenario.specs.declared.scenario.Client.{Client}
use Rattle.walter_tests_threads.proofs.Two.{unarmed, unread}
use Rattle.walter_tests_threads.proofs.working.work.Goals as goal

pub run-bench-requires-clause-connected : goal.run-bench-requires-clause-connected
run-bench-requires-clause-connected g c κs within =
    let lines = c.in_ok-lines.lines.items in
    c.in-Ok.ensures.connected (subst (λ (clients : List Client). AreUnread clients lines) c.as_slice.ensures
    (unread c.as_slice.result.now c.first-item.result c.second-item.result lines c.in_ok-first.first c.in_ok-second.second
    c.first-item.is c.second-item.is c.in-len2.len_at_least c.in_ok-lines.ensures.items c.in_ok-first.ensures c.in_ok-second.ensures))

pub run-bench-requires-clause-first : goal.run-bench-requires-clause-first
run-bench-requires-clause-first g c κs within =
    c.in-Ok.ensures.first (unarmed c.in_ok-disks.disks.items c.new.result c.new-2.result c.in_ok-disks.ensures.items c.new.ensures
    c.new-2.ensures)
