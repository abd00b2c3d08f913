use Rattle.std.proofs.Common.{◌<◌, length, arith, Vec, Global}
use Rattle.std.proofs.lemmas.List.{length-map}
use Rattle.walter_lane.specs.Lanes.{Receiving}
use Rattle.walter_cluster.specs.Lanes.{columns_in}
use Rattle.walter_cluster.proofs.Joining.{row_more, columns_pushed}
use Rattle.walter_cluster.proofs.connecting.add_row.Goals as goal

pub loop-to-preserved : goal.loop-to-preserved
loop-to-preserved c =
    let at = c.loop-to.invariant in
    let first = c.args.columns.now.items in
    let vs = c.loop-to.columns.items in
    let k = c.loop-to.to in
    let ends = c.in_ok-outbound.ensures in
    let outbound = c.in_ok-outbound.outbound in
    let inbound = c.in_ok-outbound.inbound in
    let count : k < length first = omega (arith, at.sites, c.loop-to-test.true, c.args.columns.now.ok.0) in
    let below : k < length (columns_in first) = omega (arith, count, length-map first (λ (u : Vec Receiving Global). u.items)) in
    let within : k < length vs = omega (arith, below, at.adds.columns_long, length-map vs (λ (u : Vec Receiving Global). u.items)) in
    let columns = columns_pushed vs k c.index_mut.result.now c.push-in-loop-to.new.self inbound within c.index_mut.ensures.value c.in_ok-push-2.ensures.items in
    record {
      sites = at.sites;
      adds = rw (columns, c.in_ok-push.ensures.items) (row_more (columns_in first) (columns_in vs) c.loop-to.row.items k at.adds outbound inbound below ends.ring ends.empty.0 ends.empty.1 ends.empty.2);
    }
