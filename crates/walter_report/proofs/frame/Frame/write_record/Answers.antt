use Rattle.std.proofs.Common.{◌≡◌, ◌++◌, length, ap, ◌∙◌, arith}
use Rattle.walter_base.specs.Sizes.{size_of_record}
use Rattle.walter_record.specs.Spelling.{record_spelled}
use Rattle.walter_record.proofs.Records.{length-record_spelled}
use Rattle.walter_report.proofs.frame.Frame.write_record.Goals as goal

pub invariant_of-self : goal.invariant_of-self
invariant_of-self c =
    let stable = c.args.stable.now in
    let format = c.args.format in
    let long : length c.append.new.out.bytes ≡ size_of_record format stable =
    ap length (c.append.ensures.bytes ∙ ap (λ t. t ++ record_spelled format stable) c.clear.ensures.bytes)
    ∙ length-record_spelled format stable c.requires.place in
    omega (arith, long, c.append.ensures.room, c.clear.ensures.room, c.self.invariant)
