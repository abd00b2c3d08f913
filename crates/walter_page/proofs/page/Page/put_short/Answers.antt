use Rattle.walter_page.proofs.Going.{goes_first, goes_err}
use Rattle.walter_page.proofs.page.Page.put_short.Goals as goal

pub returns-in_err-flush : goal.returns-in_err-flush
returns-in_err-flush g c =
    goes_err c.flush.new.self c.from_residual.result c.from_residual.ensures.0 c.args.bytes.now goes_first
    c.in_err-flush.ensures.put
