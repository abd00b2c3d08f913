use Rattle.std.proofs.Common.{ap, ◌∙◌, arith}
use Rattle.walter_disk.specs.Disks.{DiskState}
use Rattle.walter_journal.specs.Zeros.{filled_disk}
use Rattle.walter_checkpoint.proofs.Openings.{two_begun}
use Rattle.walter_checkpoint.proofs.loading.begin_two.Goals as goal

pub returns-clause-header : goal.returns-clause-header
returns-clause-header g c =
    let none = ap (λ (disk : DiskState). disk.size) c.in_ok-reserve.ensures.same ∙ c.requires.empty in
    let done = c.in_ok-sync.ensures.same ∙ c.in_ok-fill.ensures.done ∙ ap (filled_disk c.args.to) c.in_ok-write_at.ensures.done in
    two_begun c.args.format (g.D.Disk.known c.reserve.new.self) (g.D.Disk.known c.sync.new.self) c.deref-2.result.now c.in_ok-front.front.items c.deref.result.now c.min.result c.args.to (g.met.D.Disk.size_is c.reserve.new.self) none done
    (c.deref.ensures.value ∙ c.in_ok-rest.ensures) (c.in_ok-front.ensures.items ∙ c.two_header.ensures) (c.deref-2.ensures.value ∙ c.in_ok-extend_from_slice.ensures.items) (omega (arith, c.min.ensures, c.requires.least)) (omega (arith, c.min.ensures))
