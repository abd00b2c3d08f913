use Rattle.std.proofs.Common.{◌≡◌, length}
use Rattle.walter_fields.specs.Cursors.{Takes}
use Rattle.walter_txcode.proofs.Rising.{each_object, AreRead}
use Rattle.walter_txcode.proofs.objects.read_rising.Given as goal

abbrev pub invariant-loop : goal.invariant-loop
invariant-loop l = record {
  taken : Takes l.fn.cursor l.cursor (each_object l.objects.items);
  counted : length l.objects.items ≡ l.counter;
  read : AreRead l.objects.items;
}
