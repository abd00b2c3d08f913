use Rattle.std.proofs.Common.{◌++◌, Some, map, ap, ◌∙◌, sym, arith, rules}
use Rattle.std.proofs.lemmas.Iterator.Adapters.{YieldsList-from_vec}
use Rattle.std.proofs.lemmas.Iterator.Consumers.{YieldsList-turn, YieldsList-end}
use Rattle.std.proofs.lemmas.List.{map-id}
use Rattle.walter_cluster.specs.Benches.{disks_of}
use Rattle.walter_cluster.proofs.Places.{map_lengths}
use Rattle.walter_cluster.proofs.opening.take_disks.Goals as goal

pub push_reserved-requires : goal.push_reserved-requires
push_reserved-requires g c =
    let cells = c.args.cells.items in
    let is = c.loop-cell.invariant in
    let turn = YieldsList-turn (YieldsList-from_vec cells (search rules) (search rules)) c.loop-cell.yielded c.loop-cell.cell-iterator c.loop-cell.yielded_by c.next.result c.next.new.self c.in-Some.cell c.in-Some.is c.next.ensures.steps in
    let long = map_lengths _ _ _ c.loop-cell.back.items c.args.back.now.items c.loop-cell.yielded is.disks in
    omega (arith, turn.0, long, is.room, c.requires, c.loop-cell.back.ok.0)

pub returns-clause-disks : goal.returns-clause-disks
returns-clause-disks g c =
    let cells = c.args.cells.items in
    let is = c.loop-cell.invariant in
    let end = YieldsList-end (YieldsList-from_vec cells (search rules) (search rules)) c.loop-cell.yielded c.loop-cell.cell-iterator c.loop-cell.yielded_by c.next.result c.next.new.self c.in-None.is c.next.ensures.steps in
    is.disks ∙ ap (λ cs. map (λ d. Some d) c.args.back.now.items ++ disks_of cs) (sym (map-id c.loop-cell.yielded) ∙ end.0)
