use Rattle.std.proofs.Common.{drop, flat_map}
use Rattle.walter_page.specs.Parts.{part_text, parts_text}
use Rattle.walter_page.proofs.Going.{Goes}
use Rattle.walter_page.proofs.parts.put_parts.Given as goal

abbrev pub invariant-loop-part : goal.invariant-loop-part
invariant-loop-part g l =
    Goes g.K.Sink.holds g.K.Sink.faults l.initial.sink l.sink l.initial.page l.page
    (parts_text l.parts) (flat_map part_text (drop l.part-index l.parts))
