use Rattle.std.proofs.Common.{inl}
use Rattle.walter_cli.proofs.taking.take_scenario.Goals as goal

pub returns-in-Err-Refused-clause-fault : goal.returns-in-Err-Refused-clause-fault
returns-in-Err-Refused-clause-fault g c = record {
  front = c.in-Ok.bytes.items;
  taken = c.in-Ok.ensures.all;
  wrong = inl (c.in-Ok.ensures.end, rw c.in-Err-Refused.field-0-is at c.in-Err-Refused.ensures.fault);
}
