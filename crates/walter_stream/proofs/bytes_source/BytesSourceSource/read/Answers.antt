use Rattle.std.proofs.Common.{Some, ap, sym, ◌∙◌}
use Rattle.std.specs.Arc.{arc_slice_items}
use Rattle.walter_stream.proofs.StreamLemmas.{drop_piece}
use Rattle.walter_stream.proofs.bytes_source.BytesSourceSource.read.Goals as goal

pub returns-clause-taken : goal.returns-clause-taken
returns-clause-taken c =
    let source = c.self.inside in
    let copied = rw c.deref.ensures.value at c.copy_front-count.ensures.copied in
    ap Some (sym c.self.view_is ∙ drop_piece (arc_slice_items source.bytes) _ source.taken c.copy_front-count.result copied)
