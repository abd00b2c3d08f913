use Rattle.std.proofs.Common.{◌∙◌, subst, arith, All, take}
use Rattle.std.proofs.lemmas.List.{take_all}
use Rattle.std.proofs.lemmas.List.Elements.{All-more, All-weaker}
use Rattle.walter_cset.specs.Totals.{HasPlace}
use Rattle.walter_cset.proofs.counting.open_all.Goals as goal

pub loop-update-preserved : goal.loop-update-preserved
loop-update-preserved c =
    let old = c.loop-update.totals in
    let new = c.give_place.new.self in
    let updates = c.args.updates.now in
    let one = c.in_ok-give_place.ensures in
    record {
      places = All-more (HasPlace new) updates c.loop-update.update-index c.update-item.result c.loop-update-test.true
          (All-weaker (HasPlace old) (HasPlace new) one.still (take c.loop-update.update-index updates) c.loop-update.invariant.places) (subst (HasPlace new) c.update-item.is one.placed);
      same = λ oid id. one.totals oid id ∙ c.loop-update.invariant.same oid id;
      taken = one.taken ∙ c.loop-update.invariant.taken;
    }

pub returns-clause-places : goal.returns-clause-places
returns-clause-places c =
    let updates = c.args.updates.now in
    let within = c.loop-update.invariant.taken in (
      subst (All (HasPlace c.loop-update.totals)) (take_all c.loop-update.update-index updates c.loop-update-test.false) c.loop-update.invariant.places,
      omega (arith, within, c.taken.ensures.taken, c.taken.ensures.within, c.if-updates-taken.false),
    )
