use Rattle.std.proofs.Common.{◌∙◌, ◌++◌, List, take, refl, sym, subst, arith}
use Rattle.std.proofs.lemmas.List.{take_all}
use Rattle.walter_base.specs.declared.message.Record.{Record}
use Rattle.walter_rules.specs.declared.entry.Entry.{Entry}
use Rattle.walter_world.specs.Records.{IsTold, one_of, records_of}
use Rattle.walter_world.proofs.RecordsReplayed.{kept_can, wrote_can, records_more}
use Rattle.walter_world.proofs.replaying.told_by.Goals as goal

pub loop-entry-init : goal.loop-entry-init
loop-entry-init c = record {
  stands = c.in_ok-new.ensures.stands;
  site = c.in_ok-new.ensures.site;
  catalog_is = c.in_ok-new.ensures.catalog ∙ c.in_ok-clone.ensures.cases;
  count = refl;
  countable = omega arith;
}

pub replay_any-requires : goal.replay_any-requires
replay_any-requires c =
    let l = c.loop-entry in (
      c.args.catalog.now,
      c.args.id,
      records_of (take l.entry-index c.args.entries.now),
      l.invariant,
      kept_can c.args.catalog.now c.args.id c.args.entries.now l.entry-index c.entry-item.result c.loop-entry-test.true
          c.entry-item.is c.requires.can,
    )

pub replay_any-requires-in-loop-entry : goal.replay_any-requires-in-loop-entry
replay_any-requires-in-loop-entry c =
    let l = c.loop-entry in
    let e = c.entry-item.result in
    let front = records_of (take l.entry-index c.args.entries.now) in (
      c.args.catalog.now,
      c.args.id,
      front ++ one_of e.came.kept,
      c.in_ok-replay_any.ensures c.args.catalog.now c.args.id front l.invariant,
      wrote_can c.args.catalog.now c.args.id c.args.entries.now l.entry-index e c.loop-entry-test.true c.entry-item.is
          c.requires.can,
    )

pub loop-entry-preserved : goal.loop-entry-preserved
loop-entry-preserved c =
    let l = c.loop-entry in
    let e = c.entry-item.result in
    let front = records_of (take l.entry-index c.args.entries.now) in
    subst (λ (rs : List Record). IsTold c.args.catalog.now c.args.id rs c.replay_any-in-loop-entry.new.told)
    (sym (records_more c.args.catalog.now c.args.id c.args.entries.now l.entry-index e c.loop-entry-test.true
    c.entry-item.is c.requires.can))
    (c.in_ok-replay_any-2.ensures c.args.catalog.now c.args.id (front ++ one_of e.came.kept)
    (c.in_ok-replay_any.ensures c.args.catalog.now c.args.id front l.invariant))

pub returns : goal.returns
returns c =
    subst (λ (es : List Entry). IsTold c.args.catalog.now c.args.id (records_of es) c.loop-entry.told)
    (take_all c.loop-entry.entry-index c.args.entries.now c.loop-entry-test.false) c.loop-entry.invariant
