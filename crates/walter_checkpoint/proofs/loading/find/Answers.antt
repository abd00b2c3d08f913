use Rattle.std.proofs.Common.{◌≡◌, sym, ◌∙◌}
use Rattle.walter_checkpoint.proofs.loading.find.Goals as goal

pub returns-then-size-eq0-clause-header : goal.returns-then-size-eq0-clause-header
returns-then-size-eq0-clause-header g c none = c.begin_book.ensures.header c.args.sites

pub returns-then-size-eq0-clause-first : goal.returns-then-size-eq0-clause-first
returns-then-size-eq0-clause-first g c none = c.begin_book.ensures.first c.args.sites

pub returns-then-size-eq0-clause-device : goal.returns-then-size-eq0-clause-device
returns-then-size-eq0-clause-device g c =
    let none : (g.D.Disk.known c.args.disk.now).size ≡ 0 = sym c.size.ensures ∙ c.if-size-eq0.true in
    rw none (c.begin_book.ensures.device c.args.sites)

pub returns-then-size-eq0-clause-at_most : goal.returns-then-size-eq0-clause-at_most
returns-then-size-eq0-clause-at_most g c =
    let none : (g.D.Disk.known c.args.disk.now).size ≡ 0 = sym c.size.ensures ∙ c.if-size-eq0.true in
    rw none (c.begin_book.ensures.at_most c.args.sites)
