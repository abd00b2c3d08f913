use Rattle.walter_checkpoint.proofs.Packs.{entry_pushed}
use Rattle.walter_checkpoint.proofs.packing.push_entry.Goals as goal

pub returns-in_ok-extend_from_slice-3 : goal.returns-in_ok-extend_from_slice-3
returns-in_ok-extend_from_slice-3 c =
    let some = c.in-Some.ensures.some in
    entry_pushed c.args.sites c.args.entries.now.items c.args.body.now c.write_u32.new.buf c.in-Some.from c.in-Some.end c.push.new.self.items c.extend_from_slice.new.self.items c.extend_from_slice-in-Some.new.self.items c.extend_from_slice-in-Some-2.new.self.items
    c.in_ok-push.ensures.items c.in_ok-extend_from_slice.ensures.items c.in_ok-extend_from_slice-2.ensures.items c.in_ok-extend_from_slice-3.ensures.items some.0 some.1 some.2 some.3 some.4 c.write_u32.ensures
