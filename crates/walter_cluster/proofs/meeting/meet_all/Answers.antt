use Rattle.std.proofs.Common.{arith}
use Rattle.walter_cluster.proofs.Meetings.{have_stayed_on, lanes_stay, arrived_more, before_more, before_kept, before_all}
use Rattle.walter_cluster.proofs.meeting.meet_all.Goals as goal

pub meet_one-requires-clause-lanes : goal.meet_one-requires-clause-lanes
meet_one-requires-clause-lanes g c = lanes_stay c.args.cells.now c.loop-from.cells c.loop-from.invariant.stays c.requires.lanes

pub returns-in_err-meet_one-clause-stays : goal.returns-in_err-meet_one-clause-stays
returns-in_err-meet_one-clause-stays g c =
    have_stayed_on c.args.cells.now c.loop-from.cells c.meet_one.new.cells c.loop-from.invariant.stays c.meet_one.ensures.stays

pub returns-in_err-meet_one-clause-elsewhere : goal.returns-in_err-meet_one-clause-elsewhere
returns-in_err-meet_one-clause-elsewhere g c =
    before_kept c.args.cells.now c.loop-from.cells c.meet_one.new.cells c.loop-from.invariant.stays c.args.to c.loop-from.from
    c.meet_one.ensures.elsewhere c.loop-from.invariant.elsewhere

pub returns-in_err-meet_one-clause-met : goal.returns-in_err-meet_one-clause-met
returns-in_err-meet_one-clause-met g c all = c.meet_one.ensures.met (c.loop-from.invariant.met all)

pub loop-from-preserved : goal.loop-from-preserved
loop-from-preserved g c =
    let at = c.loop-from.invariant in
    let one = c.in_ok-meet_one.ensures in
    let first = c.args.cells.now in
    let mid = c.loop-from.cells in
    let new = c.meet_one.new.cells in record {
      stays = have_stayed_on first mid new at.stays c.meet_one.ensures.stays;
      arrived = arrived_more first mid new at.stays c.args.to c.loop-from.from c.meet_one.ensures.elsewhere at.arrived one.arrives;
      elsewhere = before_more first mid new at.stays c.args.to c.loop-from.from c.meet_one.ensures.elsewhere at.elsewhere;
      met = λ all. c.meet_one.ensures.met (at.met all);
    }

pub returns-clause-arrives : goal.returns-clause-arrives
returns-clause-arrives g c from below apart =
    let at = c.loop-from.invariant in
    let done = c.loop-from-test.false in
    at.arrived from (let l = at.stays.long in omega (arith, below, done, l)) apart

pub returns-clause-elsewhere : goal.returns-clause-elsewhere
returns-clause-elsewhere g c = before_all c.args.cells.now c.loop-from.cells c.args.to c.loop-from.from c.loop-from.invariant.elsewhere
