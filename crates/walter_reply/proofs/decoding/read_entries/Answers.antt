use Rattle.std.proofs.Common.{◌++◌, ◌<◌, length, sym, ap, subst, ◌∙◌, arith}
use Rattle.std.specs.Prelude.{flat_map}
use Rattle.walter_fields.specs.Spellings.{number_spelled}
use Rattle.walter_fields.proofs.Exits.{exits_with}
use Rattle.walter_reply.specs.Sets.{entry_spelled, AreEntries, IsAbove}
use Rattle.walter_reply.specs.Stops.{StopsBehind}
use Rattle.walter_reply.proofs.SetStops.{more_entries, takes_more, stops_in}
use Rattle.walter_reply.proofs.decoding.read_entries.Goals as goal
use Rattle.walter_fields.specs.Cursors.{Takes}

pub returns-in_err-entry-clause-stop : goal.returns-in_err-entry-clause-stop
returns-in_err-entry-clause-stop c =
    let n = c.args.n in
    let loop = c.loop in
    let before = c.deref.result.now in
    let fault = c.in_err-entry in
    let few : length before < n = omega (arith, ap length c.deref.ensures.value, loop.invariant.counted, c.loop-test.true) in
    exits_with (StopsBehind 0x83 (number_spelled 4 n ++ c.args.cursor.now.left)) fault.field-0.0 c.from_residual.result c.from_residual.ensures.1
    (stops_in n before c.args.cursor.now.left loop.cursor.left fault.field-0.0 (loop.invariant.taken.front ∙ ap (λ es. flat_map entry_spelled es ++ loop.cursor.left) (sym c.deref.ensures.value)) (fault.ensures.stop n (omega arith) few))

pub loop-preserved : goal.loop-preserved
loop-preserved c =
    let loop = c.loop in
    let entry = c.in_ok-entry in
    let entries = loop.entries.items in
    let next = entry.entry in
    let above = subst (λ es. IsAbove es next.0) c.deref.ensures.value entry.ensures.above in
    record {
      taken = subst (λ es. Takes c.args.cursor.now c.read_entry.new.cursor (flat_map entry_spelled es)) (sym c.in_ok-push.ensures.items) (takes_more c.args.cursor.now loop.cursor c.read_entry.new.cursor entries next loop.invariant.taken entry.ensures.taken);
      counted = omega (arith, c.in_ok-push.ensures.len, loop.invariant.counted);
      right = subst AreEntries (sym c.in_ok-push.ensures.items) (more_entries entries next loop.invariant.right entry.ensures.range above entry.ensures.counted);
    }
