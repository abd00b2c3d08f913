use Rattle.walter_conn.proofs.Standings.{at_the_start, one_more_call, over_keeps, over_whole, breaks_keeps, breaks_cut, lost_keeps, calls_of}
use Rattle.walter_conn.proofs.laws.what_was_called.Goals as goal

pub returns-clause-opens : goal.returns-clause-opens
returns-clause-opens c = at_the_start

pub returns-clause-frame : goal.returns-clause-frame
returns-clause-frame c = one_more_call

pub returns-clause-over : goal.returns-clause-over
returns-clause-over c = over_keeps

pub returns-clause-ended : goal.returns-clause-ended
returns-clause-ended c = over_whole

pub returns-clause-breaks : goal.returns-clause-breaks
returns-clause-breaks c = breaks_keeps

pub returns-clause-cut : goal.returns-clause-cut
returns-clause-cut c = breaks_cut

pub returns-clause-lost : goal.returns-clause-lost
returns-clause-lost c = lost_keeps

pub returns-clause-calls : goal.returns-clause-calls
returns-clause-calls c = calls_of
