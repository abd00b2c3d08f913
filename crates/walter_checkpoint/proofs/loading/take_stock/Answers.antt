use Rattle.std.proofs.Common.{◌≡◌, length, All, subst, sym, ap, ◌∙◌, arith}
use Rattle.std.proofs.lemmas.List.{length-replicate}
use Rattle.walter_disk.specs.Disks.{DiskState}
use Rattle.walter_journal.specs.Layout.{IsShort}
use Rattle.walter_checkpoint.specs.Areas.{shape_by}
use Rattle.walter_checkpoint.specs.Packs.{renewed_by}
use Rattle.walter_checkpoint.proofs.Booking.{other_is}
use Rattle.walter_checkpoint.proofs.Openings.{read_short, read_fits, zeros_by_length, short_items}
use Rattle.walter_checkpoint.proofs.loading.take_stock.Goals as goal

pub renewal-requires : goal.renewal-requires
renewal-requires g c = record {
  short = short_items (λ body. body.items) c.as_slice.result.now (subst (λ l. All IsShort l) (sym c.as_slice.ensures) (read_short _ _ _ _ _ c.requires.opened.read));
}

pub overflow_add-at : goal.overflow_add-at
overflow_add-at g c =
    let fits = read_fits _ _ _ _ _ c.requires.opened.read c.in_default.not-Whole in
    let is = c.in_ok-renewal.ensures ∙ ap (renewed_by c.args.sites) c.as_slice.ensures in
    omega (arith, ap length is, fits.1, c.other_area-at.ensures, c.len.ensures)

pub returns-clause-ok : goal.returns-clause-ok
returns-clause-ok g c =
    let fits = read_fits _ _ _ _ _ c.requires.opened.read c.in_default.not-Whole in
    let is = c.in_ok-renewal.ensures ∙ ap (renewed_by c.args.sites) c.as_slice.ensures in
    let place = other_is (shape_by c.args.capacity c.args.sites c.args.found.now.format) c.args.found.now.live c.other_area-at.result c.other_area-at.ensures in
    let count : length c.in_ok-zeros.zeros.items ≡ c.min.result = ap length c.in_ok-zeros.ensures ∙ length-replicate c.min.result 0 in
    let size = ap (λ (disk : DiskState). disk.size) c.in_ok-reserve.ensures.same in
    record {
      ready = λ not_whole. is;
      room = λ not_whole. record {
        least = fits.0;
        fits = omega (arith, ap length is, fits.1);
        zeros_are = zeros_by_length c.in_ok-zeros.zeros.items c.min.result c.in_ok-zeros.ensures;
        few = omega (arith, count, c.min.ensures);
        enough = omega (arith, count, c.min.ensures, c.saturating_sub-missing.ensures, c.size.ensures, place, size);
        reaches = omega (arith, c.in_ok-reserve.ensures.room.reaches, c.len.ensures, place);
        calls = omega (arith, c.in_ok-reserve.ensures.room.suffices, c.saturating_sub-missing.ensures, c.size.ensures, place, size);
      };
    }
