use Rattle.std.proofs.Common.{◌+◌, drop, flat_map}
use Rattle.walter_inspect.specs.Findings.{item_line}
use Rattle.walter_page.proofs.Going.{cuts, cut_more, goes_from, goes_on, goes_as, goes_err}
use Rattle.walter_page.proofs.Parted.{flat_map-drop_more}
use Rattle.walter_inspect.proofs.writing.put_order.Goals as goal

pub returns-in_err-put_parts : goal.returns-in_err-put_parts
returns-in_err-put_parts g c =
    cuts c.put_parts.new.page c.from_residual.result c.from_residual.ensures.0
    (cut_more (flat_map item_line c.args.order.now) c.in_err-put_parts.ensures)

pub loop-taken-init : goal.loop-taken-init
loop-taken-init g c = goes_from (flat_map item_line c.args.order.now) c.in_ok-put_parts.ensures

pub loop-taken-preserved : goal.loop-taken-preserved
loop-taken-preserved g c =
    goes_on
    (goes_as _
    (flat_map-drop_more item_line c.args.order.now c.loop-taken.taken-index c.taken-item.result c.taken-item.result
    c.loop-taken-test.true c.taken-item.is)
    c.loop-taken.invariant)
    c.in_ok-put_item.ensures

pub returns-in_err-put_item : goal.returns-in_err-put_item
returns-in_err-put_item g c =
    goes_err c.put_item.new.page c.from_residual-in_err-put_item.result c.from_residual-in_err-put_item.ensures.0
    (flat_map item_line (drop (c.loop-taken.taken-index + 1) c.args.order.now))
    (goes_as _
    (flat_map-drop_more item_line c.args.order.now c.loop-taken.taken-index c.taken-item.result c.taken-item.result
    c.loop-taken-test.true c.taken-item.is)
    c.loop-taken.invariant)
    c.in_err-put_item.ensures
