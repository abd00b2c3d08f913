use Rattle.std.proofs.Common.{sym, ◌∙◌, append-nil}
use Rattle.walter_page.proofs.Going.{cuts, cut_front}
use Rattle.walter_page.proofs.page.Page.flush.Goals as goal

pub returns-in_err-write_all-clause-put : goal.returns-in_err-write_all-clause-put
returns-in_err-write_all-clause-put g c =
    cuts c.args.self.now c.from_residual.result c.from_residual.ensures.0
    (cut_front c.as_slice.result.now (c.as_slice.ensures.value ∙ c.self.view_is ∙ sym (append-nil c.args.self.now))
    c.in_err-write_all.ensures.front c.in_err-write_all.ensures.cause)
