use Rattle.std.proofs.Common.{◌∙◌}
use Rattle.walter_engine.proofs.Bodies.{tells_none, tells_next, unreadable_at}
use Rattle.walter_engine.proofs.replaying.replay_all.Goals as goal

pub returns-in-Err-Unfit-clause-refused : goal.returns-in-Err-Unfit-clause-refused
returns-in-Err-Unfit-clause-refused c =
    let l = c.loop-index in
    unreadable_at (λ body. body.items) c.args.header _ _ c.args.bodies.now l.index c.index-bodies-index.result c.deref.result.now _ l.invariant.catalog_is l.invariant.site_is c.loop-index-test.true c.index-bodies-index.is c.deref.ensures.value l.invariant.tells
    c.in-Err-Unfit.field-0 c.in-Err-Unfit.field-0-is c.in-Err-Unfit.ensures.unfit

pub loop-index-init : goal.loop-index-init
loop-index-init c = record {
  site_is = c.in-Ok-new.ensures.site;
  catalog_is = c.in-Ok-new.ensures.catalog ∙ c.in-Ok.ensures.cases;
  tells = tells_none c.args.header _ _ c.in-Ok-new.tables c.in-Ok-new.ensures.stands;
}

pub loop-index-preserved : goal.loop-index-preserved
loop-index-preserved c =
    let l = c.loop-index in
    record {
      site_is = c.replay_body.ensures.site ∙ l.invariant.site_is;
      catalog_is = c.replay_body.ensures.catalog ∙ l.invariant.catalog_is;
      tells = tells_next (λ body. body.items) c.args.header _ _ c.args.bodies.now l.index c.index-bodies-index.result c.deref.result.now _ l.invariant.catalog_is l.invariant.site_is c.loop-index-test.true c.index-bodies-index.is c.deref.ensures.value l.invariant.tells
          _ c.in-Ok-replay_body.ensures.taken;
    }
