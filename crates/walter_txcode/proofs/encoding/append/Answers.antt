use Rattle.std.proofs.Common.{◌<◌, ◌^◌, sym}
use Rattle.std.proofs.lemmas.List.Elements.{All-same}
use Rattle.walter_txcode.specs.Spelling.{IsUpdate}
use Rattle.walter_txcode.proofs.encoding.append.Goals as goal

pub returns-clause-ranges : goal.returns-clause-ranges
returns-clause-ranges c =
    let head = c.write_head.ensures in
    record { tid = head.tid; slow = head.slow; start = All-same (λ number. number < 2 ^ 64) c.args.tx.now.start _ (sym c.as_slice.ensures.same) head.start; updates = All-same IsUpdate c.args.tx.now.updates _ (sym c.as_slice-2.ensures) c.write_updates.ensures.ranges }
