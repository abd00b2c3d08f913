use Rattle.std.proofs.Common.{◌≡◌, ◌<◌, length, set}
use Rattle.std.proofs.lemmas.Result.{on_ok_weaker}
use Rattle.walter_cell.specs.Cells.{CellValue}
use Rattle.walter_outbox.specs.Lanes.{ring_to, ring_from}
use Rattle.walter_cluster.proofs.Changes.{ChangesTwo, two_at, second_was}
use Rattle.walter_cluster.proofs.Meetings.{Meets, lane_there, meet_stays, meet_arrives, meet_elsewhere, meet_met}
use Rattle.walter_cluster.proofs.meeting.meet_one.Given.{Over}
use Rattle.walter_cluster.proofs.meeting.meet_one.Goals.{After-lend_two-receiver, After-meet}
use Rattle.walter_cluster.proofs.meeting.meet_one.Goals as goal

-- the two cells that were lent
module _ (g : Over) (c : After-lend_two-receiver g) where
  abbrev a : CellValue g.row.D.Denot
  a = c.lend_two-receiver.result.0.now

  abbrev b : CellValue g.row.D.Denot
  b = c.lend_two-receiver.result.1.now

  two : (x y : CellValue g.row.D.Denot)
      → ChangesTwo c.args.cells.now (set (set c.args.cells.now c.args.to x) c.args.from y) c.args.to c.args.from a b x y
  two x y =
      let lent = c.lend_two-receiver.ensures in
      two_at c.args.cells.now c.args.to c.args.from a b x y c.if-to-from.false c.requires.to c.requires.from lent.first lent.second

  lane : (c.args.from < length a.ins) × (c.args.to < length b.node.outs) × (ring_to b.node.outs c.args.to ≡ ring_from a.ins c.args.from)
  lane =
      let same = two a b in
      lane_there c.args.cells.now c.args.to c.args.from a b same.first.was (second_was _ _ _ _ _ _ _ _ same) c.requires.lanes

-- their ends of the lane have met
module _ (g : Over) (c : After-meet g) where
  meets : Meets g.D.Disk c.args.to c.args.from c.lend_two-receiver.result.0.now c.lend_two-receiver.result.1.now c.meet.new.self c.meet.new.sender
  meets = record { keeps_receiver = c.meet.ensures.keeps.0; keeps_sender = c.meet.ensures.keeps.1; met = c.meet.ensures.met }

pub meet-requires-clause-from : goal.meet-requires-clause-from
meet-requires-clause-from g c = (lane g (goal.at.meet-requires-clause-from g c).After-lend_two-receiver).0

pub meet-requires-clause-to : goal.meet-requires-clause-to
meet-requires-clause-to g c = (lane g (goal.at.meet-requires-clause-to g c).After-lend_two-receiver).1

pub meet-requires-clause-ring : goal.meet-requires-clause-ring
meet-requires-clause-ring g c = (lane g (goal.at.meet-requires-clause-ring g c).After-lend_two-receiver).2

pub returns-clause-stays : goal.returns-clause-stays
returns-clause-stays g c =
    let at = goal.at.returns-clause-stays g c in
    meet_stays g.D.Disk _ _ _ _ _ _ _ _ (two g at.After-lend_two-receiver c.meet.new.self c.meet.new.sender) (meets g at.After-meet)

pub returns-clause-arrives : goal.returns-clause-arrives
returns-clause-arrives g c =
    let at = goal.at.returns-clause-arrives g c in
    on_ok_weaker c.meet.result
    (λ all apart. meet_arrives g.D.Disk _ _ _ _ _ _ _ _ (two g at.After-lend_two-receiver c.meet.new.self c.meet.new.sender) (meets g at.After-meet)
    c.requires.lanes all c.meet.ensures.sound) c.meet.ensures.arrives

pub returns-clause-elsewhere : goal.returns-clause-elsewhere
returns-clause-elsewhere g c i j else_ =
    let at = goal.at.returns-clause-elsewhere g c in
    meet_elsewhere g.D.Disk _ _ _ _ _ _ _ _ (two g at.After-lend_two-receiver c.meet.new.self c.meet.new.sender) (meets g at.After-meet) i j else_

pub returns-clause-met : goal.returns-clause-met
returns-clause-met g c all =
    let at = goal.at.returns-clause-met g c in
    meet_met g.D.Disk _ _ _ _ _ _ _ _ (two g at.After-lend_two-receiver c.meet.new.self c.meet.new.sender) (meets g at.After-meet) all
