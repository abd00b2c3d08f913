use Rattle.std.proofs.Common.{sym, subst}
use Rattle.std.proofs.lemmas.Result.{IfOk-weaker}
use Rattle.walter_site.specs.Plans.{CanBeAnsweredAny, CanTakeIn}
use Rattle.walter_site.proofs.Readied.{keeps_kept}
use Rattle.walter_rules.specs.declared.event.Input.TheVariants.{Call}
use Rattle.walter_tables.specs.Sites.{site_of, catalog_of}
use Rattle.walter_site.proofs.readying.ready_reply.Goals as goal

pub returns-in_err-reserve_reply-clause-keeps : goal.returns-in_err-reserve_reply-clause-keeps
unfolding site_of catalog_of
returns-in_err-reserve_reply-clause-keeps c =
    let is = c.in_err-reserve_reply.ensures in
    keeps_kept c.args.tables.now c.reserve_reply.new.self is.site is.catalog is.log is.history is.totals is.spread is.durable
    is.locks is.slow

pub returns-clause-keeps : goal.returns-clause-keeps
unfolding site_of catalog_of
returns-clause-keeps c =
    let is = c.in_ok-reserve_reply.ensures in
    keeps_kept c.args.tables.now c.reserve_reply.new.self is.site is.catalog is.log is.history is.totals is.spread is.durable
    is.locks is.slow

pub returns-clause-takes_in : goal.returns-clause-takes_in
returns-clause-takes_in c =
    let new = c.reserve_reply.new.self in
    let call = c.args.call.now in
    let fits = subst (λ o. CanBeAnsweredAny c.args.tables.now (Call c.args.client call) o) c.in-Replied.is c.requires.fits in
    IfOk-weaker c.asked_by.result _ _
    (λ asked by. subst (λ o. CanTakeIn new (Call c.args.client call) o asked) (sym c.in-Replied.is)
    (c.in_ok-reserve_reply.ensures.fits call fits, c.in_ok-reserve_reply.ensures.room, by)) c.asked_by.ensures.asks
