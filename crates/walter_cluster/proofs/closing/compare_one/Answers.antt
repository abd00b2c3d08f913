use Rattle.std.proofs.Common.{◌≡◌, ◌<◌, length, set}
use Rattle.walter_cell.specs.Cells.{CellValue}
use Rattle.walter_outbox.specs.Lanes.{ring_to, ring_from}
use Rattle.walter_cluster.proofs.Changes.{ChangesTwo, two_at, second_was, two_same}
use Rattle.walter_cluster.proofs.Closings.{begins_at}
use Rattle.walter_cluster.proofs.Meetings.{lane_there}
use Rattle.walter_cluster.proofs.closing.compare_one.Given.{Over}
use Rattle.walter_cluster.proofs.closing.compare_one.Goals.{After-lend_two-receiver}
use Rattle.walter_cluster.proofs.closing.compare_one.Goals as goal

-- the two cells that were lent
module _ (g : Over) (c : After-lend_two-receiver g) where
  abbrev a : CellValue g.row.D.Denot
  a = c.lend_two-receiver.result.0.now

  abbrev b : CellValue g.row.D.Denot
  b = c.lend_two-receiver.result.1.now

  two : (x y : CellValue g.row.D.Denot)
      → ChangesTwo c.args.cells.now (set (set c.args.cells.now c.args.to x) c.args.from y) c.args.to c.args.from a b x y
  two x y =
      let lent = c.lend_two-receiver.ensures in
      two_at c.args.cells.now c.args.to c.args.from a b x y c.if-to-from.true c.requires.to c.requires.from lent.first lent.second

  lane : (c.args.from < length a.ins) × (c.args.to < length b.node.outs) × (ring_to b.node.outs c.args.to ≡ ring_from a.ins c.args.from)
  lane =
      let same = two a b in
      lane_there c.args.cells.now c.args.to c.args.from a b same.first.was (second_was _ _ _ _ _ _ _ _ same) c.requires.lanes

pub compare-requires-clause-from : goal.compare-requires-clause-from
compare-requires-clause-from g c = (lane g (goal.at.compare-requires-clause-from g c).After-lend_two-receiver).0

pub compare-requires-clause-to : goal.compare-requires-clause-to
compare-requires-clause-to g c = (lane g (goal.at.compare-requires-clause-to g c).After-lend_two-receiver).1

pub compare-requires-clause-ring : goal.compare-requires-clause-ring
compare-requires-clause-ring g c = (lane g (goal.at.compare-requires-clause-ring g c).After-lend_two-receiver).2

pub returns-then-to-from-clause-same : goal.returns-then-to-from-clause-same
returns-then-to-from-clause-same g c =
    let at = (goal.at.returns-then-to-from-clause-same g c).After-lend_two-receiver in
    two_same _ _ _ _ _ _ _ _ (two g at c.compare.new.self c.compare.new.sender) c.compare.ensures.same.0 c.compare.ensures.same.1

pub returns-then-to-from-clause-begins : goal.returns-then-to-from-clause-begins
returns-then-to-from-clause-begins g c apart =
    let at = (goal.at.returns-then-to-from-clause-begins g c).After-lend_two-receiver in
    let same = two g at (a g at) (b g at) in
    begins_at c.args.cells.now c.args.to c.args.from (a g at) (b g at) same.first.was (second_was _ _ _ _ _ _ _ _ same) c.requires.lanes
    c.compare.ensures.begins
