use Rattle.std.proofs.Common.{◌++◌, ◌∷◌, [], ℕ, List, Vec, Global, length, refl, sym, subst, rules, arith}
use Rattle.std.specs.Prelude.{IfOk, IfErr}
use Rattle.std.proofs.lemmas.Iterator.Adapters.{YieldsList-from_vec}
use Rattle.std.proofs.lemmas.Iterator.Consumers.{YieldsList-turn}
use Rattle.std.proofs.lemmas.List.{length-append}
use Rattle.std.proofs.lemmas.Option.{slice_get_read}
use Rattle.walter_audit.specs.declared.content.Content.{Content as Kept}
use Rattle.walter_inspect.specs.Inspections.{AreAllRead, AreOnlyRead, IsFirstUnread}
use Rattle.walter_inspect.specs.Nexts.{IsNextUnread}
use Rattle.walter_inspect.proofs.Growing.{all_none, grows, only_more, only_none, only_same, unread_at_first}
use Rattle.walter_inspect.proofs.inspecting.read_contents.Goals as goal

pub returns-in_default-clause-only : goal.returns-in_default-clause-only
returns-in_default-clause-only g c = only_same g.D.Disk c.args.disks.items

pub returns-in_default-clause-unread : goal.returns-in_default-clause-unread
returns-in_default-clause-unread g c = unread_at_first g.D.Disk c.args.capacity c.args.sites c.args.disks.items c.requires.some

pub loop-disk-init : goal.loop-disk-init
loop-disk-init g c =
    let empty = sym c.in-Ok.ensures.items in
    let none = sym c.new-none.ensures.items in
    let room = c.in-Ok.ensures.capacity in
    record {
      only = subst (AreOnlyRead g.D.Disk []) empty (only_none g.D.Disk);
      read = subst (λ (kept : List Kept). AreAllRead g.D.Disk c.args.capacity c.args.sites [] c.in-Ok.back.items kept) none
          (subst (λ (ds : List g.row.D.Denot). AreAllRead g.D.Disk c.args.capacity c.args.sites [] ds []) empty
          (all_none g.D.Disk c.args.capacity c.args.sites));
      unread = tt;
      next = refl;
      room = grind arith;
    }

pub read_next-disk-requires-clause-fresh : goal.read_next-disk-requires-clause-fresh
read_next-disk-requires-clause-fresh g c =
    let disks = c.args.disks.items in
    let done = c.loop-disk.yielded in
    let disk = c.in-Some.disk in
    let turn = YieldsList-turn (YieldsList-from_vec disks (search rules) (search rules)) done c.loop-disk.disk-iterator
    c.loop-disk.yielded_by c.next.result c.next.new.self disk c.in-Some.is c.next.ensures.steps in
    c.requires.fresh (length done) disk (slice_get_read disks (length disks) (length done) disk refl turn.0 turn.1)

pub push_reserved-requires : goal.push_reserved-requires
push_reserved-requires g c =
    let disks = c.args.disks.items in
    let is = c.loop-disk.invariant in
    let turn = YieldsList-turn (YieldsList-from_vec disks (search rules) (search rules)) c.loop-disk.yielded c.loop-disk.disk-iterator
    c.loop-disk.yielded_by c.next.result c.next.new.self c.in-Some.disk c.in-Some.is c.next.ensures.steps in
    let many = is.only.many in
    let room = is.room in
    omega (arith, turn.0, many, room, c.loop-disk.back.ok.0)

pub loop-disk-preserved : goal.loop-disk-preserved
loop-disk-preserved g c =
    let is = c.loop-disk.invariant in
    let old = c.loop-disk.yielded in
    let new = c.loop-disk.back.items in
    let disk = c.in-Some.disk in
    let now = c.read_next-disk.result.0 in
    let read = c.loop-disk.read in
    let so_far = c.read_next-disk.result.1 in
    let e = c.read_next-disk.ensures in
    let back = sym c.push_reserved.ensures.items in
    let unread : IfOk read (λ contents. IfErr so_far (IsNextUnread g.D.Disk c.args.capacity c.args.sites disk now (length old))) =
    subst (λ (n : ℕ). IfOk read (λ contents. IfErr so_far (IsNextUnread g.D.Disk c.args.capacity c.args.sites disk now n))) is.next
    e.unread in
    let grown = grows g.D.Disk c.args.capacity c.args.sites old new disk now is.only.many (λ (v : Vec Kept Global). v.items) read so_far
    is.read is.unread e.next unread e.stays in
    record {
      only = subst (AreOnlyRead g.D.Disk (old ++ disk ∷ [])) back (only_more g.D.Disk old new disk now is.only e.only);
      read = subst (λ (ds : List g.row.D.Denot). IfOk so_far (λ contents.
          AreAllRead g.D.Disk c.args.capacity c.args.sites (old ++ disk ∷ []) ds contents.items)) back grown.0;
      unread = subst (λ (ds : List g.row.D.Denot). IfErr so_far
          (IsFirstUnread g.D.Disk c.args.capacity c.args.sites (old ++ disk ∷ []) ds)) back grown.1;
      next = (let n = is.next in let m = length-append old (disk ∷ []) in omega (arith, n, m));
      room = (let r = is.room in let same = c.push_reserved.ensures.capacity in omega (arith, r, same));
    }
