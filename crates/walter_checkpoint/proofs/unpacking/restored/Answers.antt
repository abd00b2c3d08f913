use Rattle.walter_checkpoint.proofs.Entries.{restored_so}
use Rattle.walter_checkpoint.proofs.unpacking.restored.Goals as goal

pub returns-clause-some : goal.returns-clause-some
returns-clause-some c =
    restored_so c.args.sites c.in-Some.kept c.in-Some.spare c.args.spelled.now c.in_ok-body.body.items c.extend_from_slice.new.self.items c.extend_from_slice-2.new.self.items
    c.in-Some.ensures.some c.in_ok-body.ensures.items c.in_ok-extend_from_slice.ensures.items c.in_ok-extend_from_slice-2.ensures.items
