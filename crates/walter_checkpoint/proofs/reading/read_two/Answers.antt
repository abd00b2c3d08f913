use Rattle.std.proofs.Common.{◌≤◌, ◌-◌, ◌/◌, length, drop, subst, ap, arith}
use Rattle.std.proofs.lemmas.List.{length-take, length-drop}
use Rattle.walter_checkpoint.specs.Areas.{shape_by, IsAreaDamaged}
use Rattle.walter_checkpoint.specs.Books.{IsAreaRead}
use Rattle.walter_checkpoint.specs.Packs.{pack_of}
use Rattle.walter_checkpoint.proofs.Parts.{behind_within, read_live, damaged_live}
use Rattle.walter_checkpoint.proofs.reading.read_two.Goals as goal

pub overflow_add-result : goal.overflow_add-result
overflow_add-result c =
    let read = c.in-Ok.ensures.ok in
    let within = behind_within (pack_of c.args.sites read.packed) c.part_of.result.now read.behind read.content in
    let size : length c.part_of.result.now ≤ length c.args.bytes.now - c.live_part-live.result.1 =
    omega (arith, ap length c.part_of.ensures, length-take ((c.args.capacity - 9) / 2) (drop c.live_part-live.result.1 c.args.bytes.now), length-drop c.live_part-live.result.1 c.args.bytes.now) in
    omega (arith, within, read.place, size)

pub returns-in-Ok-clause-ok : goal.returns-in-Ok-clause-ok
returns-in-Ok-clause-ok c =
    let shape = shape_by c.args.capacity c.args.sites c.args.format in
    let read = subst (λ l. IsAreaRead c.args.sites l c.in-Ok.bodies c.in-Ok.end) c.part_of.ensures c.in-Ok.ensures.ok in
    read_live shape c.args.bytes.now c.requires.least c.requires.long c.requires.header c.live_part-live.result.0 c.live_part-live.result.1 c.in-Ok.bodies c.in-Ok.end c.live_part-live.ensures read

pub returns-in-Err-Damaged-clause-fault : goal.returns-in-Err-Damaged-clause-fault
returns-in-Err-Damaged-clause-fault c =
    let damaged = c.in-Err-Damaged in
    let shape = shape_by c.args.capacity c.args.sites c.args.format in
    let wrong : IsAreaDamaged c.args.sites c.part_of.result.now damaged.at damaged.length = rw damaged.field-0-is at damaged.ensures.fault in
    rw damaged.field-0-is
    record {
      header = c.args.format;
      places = c.requires.places;
      damaged = damaged_live shape c.args.bytes.now c.requires.least c.requires.long c.requires.header c.live_part-live.result.0 c.live_part-live.result.1 damaged.at damaged.length c.live_part-live.ensures
          (subst (λ l. IsAreaDamaged c.args.sites l damaged.at damaged.length) c.part_of.ensures wrong);
    }
