use Rattle.std.proofs.Common.{◌+◌, drop, flat_map}
use Rattle.walter_page.specs.Parts.{part_text}
use Rattle.walter_page.proofs.Going.{goes_first, goes_on, goes_as, goes_err}
use Rattle.walter_page.proofs.Parted.{flat_map-drop_next, parts_text-flat}
use Rattle.walter_page.proofs.parts.put_parts.Goals as goal

pub loop-part-init : goal.loop-part-init
loop-part-init g c =
    goes_as (flat_map part_text c.args.parts.now) (parts_text-flat c.args.parts.now) goes_first

pub loop-part-preserved : goal.loop-part-preserved
loop-part-preserved g c =
    goes_on
    (goes_as _ (flat_map-drop_next part_text c.args.parts.now c.loop-part.part-index _ c.loop-part-test.true)
    c.loop-part.invariant)
    c.in_ok-put_part.ensures

pub returns-in_err-put_part : goal.returns-in_err-put_part
returns-in_err-put_part g c =
    goes_err c.put_part.new.page c.from_residual.result c.from_residual.ensures.0
    (flat_map part_text (drop (c.loop-part.part-index + 1) c.args.parts.now))
    (goes_as _ (flat_map-drop_next part_text c.args.parts.now c.loop-part.part-index _ c.loop-part-test.true)
    c.loop-part.invariant)
    c.in_err-put_part.ensures
