use Rattle.std.proofs.Common.{arith}
use Rattle.std.proofs.lemmas.Grind.{common_steps}
use Rattle.walter_stream.proofs.StreamLemmas.{Appends_more}
use Rattle.walter_stream.proofs.writing.write_all.Goals as goal

pub loop-written-preserved : goal.loop-written-preserved
loop-written-preserved g c = record {
  within = grind (arith, common_steps, c.in_ok-written.ensures.within);
  put = Appends_more _ _ _ _ _ _ c.loop-written.invariant.put c.in_ok-written.ensures.appended;
  faultless = cc (c.in_ok-written.ensures.faultless);
}
