use Rattle.std.proofs.Common.{◌≡◌, ◌<◌, map, sym, subst, arith}
use Rattle.walter_audit.specs.Contents.{content_of}
use Rattle.walter_checkpoint.specs.Books.{disk_of}
use Rattle.walter_inspect.specs.Inspections.{IsOnlyRead, IsReadAs}
use Rattle.walter_inspect.proofs.Loaded.{only_loaded, read_as, unread_as, unread_none, untouched}
use Rattle.walter_inspect.proofs.inspecting.read_content.Goals as goal

pub returns-then-size-eq0 : goal.returns-then-size-eq0
returns-then-size-eq0 g c =
    let none : (g.D.Disk.known c.args.disk).size ≡ 0 = grind (arith, c.size.ensures) in record {
      only = untouched g.D.Disk c.args.disk;
      read = tt;
      unread = unread_none g.D.Disk g.met.D.Disk.size_is c.args.capacity c.args.sites c.args.disk none;
    }

pub returns-in-Ok : goal.returns-in-Ok
returns-in-Ok g c =
    let some : 0 < (g.D.Disk.known c.args.disk).size = grind (arith, c.size.ensures) in
    let disk = c.args.disk in
    let book = c.in-Ok.book in
    let load = c.in-Ok.ensures in
    let only = only_loaded g.D.Disk g.met.D.Disk.leaves_what_reads g.met.D.Disk.counts_now disk (disk_of book) c.requires.fresh
    load.arms load.tells (load.any_moment some) in
    let found = map (λ body. body.items) c.into_vec.result.items in
    let holds = read_as g.D.Disk c.args.capacity c.args.sites disk book c.in-Ok.bodies c.format.result found only load.loaded load.shape
    load.places load.whole load.faultless c.format.ensures c.into_vec.ensures in record {
      only = subst (IsOnlyRead g.D.Disk disk) (sym c.into_disk.ensures) only;
      read = subst (λ (d : g.row.D.Denot). IsReadAs g.D.Disk c.args.capacity c.args.sites disk d (content_of c.format.result found))
          (sym c.into_disk.ensures) holds;
      unread = tt;
    }

pub returns-in-Err : goal.returns-in-Err
returns-in-Err g c =
    let some : 0 < (g.D.Disk.known c.args.disk).size = grind (arith, c.size.ensures) in
    let disk = c.args.disk in
    let load = c.in-Err.ensures in record {
      only = only_loaded g.D.Disk g.met.D.Disk.leaves_what_reads g.met.D.Disk.counts_now disk c.in-Err.disk c.requires.fresh
          load.arms load.tells (load.any_moment some);
      read = tt;
      unread = unread_as g.D.Disk c.args.capacity c.args.sites disk c.in-Err.disk c.in-Err.why load.tells c.requires.fresh load.cause;
    }
