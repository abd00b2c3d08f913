use Rattle.std.proofs.Common.{◌+◌, sym, subst, arith}
use Rattle.walter_audit.specs.Queues.{IsStartAt}
use Rattle.walter_audit.proofs.Asked.{got_at}
use Rattle.walter_audit.proofs.Queued.{AreStartsTo, starts_begun, start_placed, start_within, starts_other, starts_are, of_some, of_none}
use Rattle.walter_audit.proofs.Standing.{fronts_rise}
use Rattle.walter_audit.proofs.queueing.starts_of.Goals as goal
use Rattle.walter_audit.proofs.queueing.starts_of.Goals.{in-Some+in_ok-put_start, in_default}

pub loop-journaled-init : goal.loop-journaled-init
loop-journaled-init c = starts_begun c.args.catalog.now c.args.site c.args.records.now c.args.fronts.now c.requires.fronts
    c.in_ok-starts.starts.items c.in_ok-starts.ensures.many c.in_ok-starts.ensures.none

pub start_of-requires : goal.start_of-requires
start_of-requires c = fronts_rise c.args.catalog.now.sites c.args.site c.args.records.now c.args.fronts.now c.requires.fronts

pub put_start-requires : goal.put_start-requires
put_start-requires c =
    let start = of_some (λ (x, y). IsStartAt c.args.fronts.now c.journaled-item.result x y) c.in_ok-place.field-0
    (c.in-Some.place, c.in-Some.item) c.in-Some.is c.in_ok-place.ensures.some in
    let within = start_within c.args.fronts.now c.journaled-item.result c.in-Some.place c.in-Some.item start in
    let many = c.loop-journaled.invariant.many in
    let fronts = c.requires.fronts.many in
    omega (arith, within, many, fronts)

pub loop-journaled-preserved : goal.loop-journaled-preserved
loop-journaled-preserved c =
    let upto = c.loop-journaled.journaled-index in
    let at = got_at c.args.records.now upto c.journaled-item.result c.loop-journaled-test.true c.journaled-item.is in
    elim c.match-branch-3.branch [
      | in-Some+in_ok-put_start w ↦
          subst (λ starts. AreStartsTo c.args.catalog.now c.args.site c.args.records.now (upto + 1) starts.items) (sym w.starts-is)
          (start_placed c.args.catalog.now c.args.site c.args.records.now c.args.fronts.now c.requires.fronts c.requires.among upto
          c.loop-journaled.starts.items w.put_start.new.starts.items c.journaled-item.result w.in-Some.place w.in-Some.item at
          (of_some (λ (x, y). IsStartAt c.args.fronts.now c.journaled-item.result x y) c.in_ok-place.field-0
          (w.in-Some.place, w.in-Some.item) w.in-Some.is c.in_ok-place.ensures.some) w.in_ok-put_start.ensures.many
          w.in_ok-put_start.ensures.put c.loop-journaled.invariant)
      | in_default w ↦
          subst (λ starts. AreStartsTo c.args.catalog.now c.args.site c.args.records.now (upto + 1) starts.items) (sym w.starts-is)
          (starts_other c.args.catalog.now c.args.site c.args.records.now c.args.fronts.now c.requires.fronts upto
          c.loop-journaled.starts.items c.journaled-item.result at c.requires.among
          (of_none c.in_ok-place.field-0 w.in_default.not-Some c.in_ok-place.ensures.none) c.loop-journaled.invariant)
    ]

pub returns-clause-each : goal.returns-clause-each
returns-clause-each c = starts_are c.args.catalog.now c.args.site c.args.records.now c.args.fronts.now c.requires.fronts
    c.loop-journaled.journaled-index c.loop-journaled.starts.items (omega arith) c.loop-journaled.invariant
