use Rattle.std.proofs.Common.{◌+◌, sym, subst, arith}
use Rattle.walter_audit.specs.Contents.{AreRead, IsUnreadable}
use Rattle.walter_audit.specs.Reading.{held, contents_of}
use Rattle.walter_audit.proofs.Asked.{got_at}
use Rattle.walter_audit.proofs.Readers.{AreReadTo, site_read, site_unread, all_sites_read, held_at, of_ok, of_err}
use Rattle.walter_audit.proofs.reading.read_all.Goals as goal

pub returns-in-Err-clause-unreadable : goal.returns-in-Err-clause-unreadable
returns-in-Err-clause-unreadable c =
    let n = c.loop-number.number in
    let K = contents_of c.args.contents.now in
    let kept = c.index-contents-number.result in
    let at = got_at c.args.contents.now n kept c.loop-number-test.true c.index-contents-number.is in
    let low = c.loop-number-test.true in
    let each = c.requires.each in
    site_unread c.args.catalog.now K n c.loop-number.journals.items c.in-Err.index (omega (arith, low, each))
    (subst (λ content. IsUnreadable c.args.catalog.now (record { 0 = n }) content c.in-Err.index) (sym (held_at c.args.contents.now n kept at))
    (of_err (IsUnreadable c.args.catalog.now (record { 0 = n }) (held kept)) c.in_ok-found.found c.in-Err.index c.in-Err.is
    c.in_ok-found.ensures.unreadable)) c.loop-number.invariant

pub loop-number-preserved : goal.loop-number-preserved
loop-number-preserved c =
    let n = c.loop-number.number in
    let K = contents_of c.args.contents.now in
    let kept = c.index-contents-number.result in
    let at = got_at c.args.contents.now n kept c.loop-number-test.true c.index-contents-number.is in
    subst (λ js. AreReadTo c.args.catalog.now K (n + 1) js) (sym c.in_ok-push-in-Ok.ensures.items)
    (site_read c.args.catalog.now K n c.loop-number.journals.items c.in-Ok.told
    (subst (λ content. AreRead c.args.catalog.now (record { 0 = n }) content c.in-Ok.told) (sym (held_at c.args.contents.now n kept at))
    (of_ok (AreRead c.args.catalog.now (record { 0 = n }) (held kept)) c.in_ok-found.found c.in-Ok.told c.in-Ok.is
    c.in_ok-found.ensures.read)) c.loop-number.invariant)

pub returns-clause-read : goal.returns-clause-read
returns-clause-read c =
    let each = c.requires.each in
    all_sites_read c.args.catalog.now (contents_of c.args.contents.now) c.loop-number.number c.loop-number.journals.items
    (omega (arith, each)) c.loop-number.invariant
