use Rattle.std.proofs.Common.{sym, arith}
use Rattle.std.proofs.lemmas.Grind.{common_steps}
use Rattle.std.proofs.lemmas.List.{take_all}
use Rattle.std.proofs.lemmas.List.Elements.{All-more, All-same}
use Rattle.walter_names.specs.Names.{IsObject}
use Rattle.walter_txcode.proofs.objects.write_each.Goals as goal

pub loop-oid-preserved : goal.loop-oid-preserved
loop-oid-preserved c = record {
  bytes = grind (arith, common_steps);
  room = omega arith;
  ranges = All-more IsObject c.args.objects.now c.loop-oid.oid-index _ c.loop-oid-test.true c.loop-oid.invariant.ranges c.write_object.ensures.range;
}

pub returns-clause-ranges : goal.returns-clause-ranges
returns-clause-ranges c = All-same IsObject c.args.objects.now _ (sym (take_all c.loop-oid.oid-index c.args.objects.now c.loop-oid-test.false)) c.loop-oid.invariant.ranges
