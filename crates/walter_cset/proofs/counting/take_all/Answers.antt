use Rattle.std.proofs.Common.{ap, ◌∙◌, sym, subst, arith}
use Rattle.std.specs.Prelude.{◌+ℤ◌}
use Rattle.std.proofs.lemmas.Int.{ints}
use Rattle.std.proofs.lemmas.List.{take_all}
use Rattle.std.proofs.lemmas.List.Elements.{All-weaker}
use Rattle.walter_base.specs.Values.{count_of}
use Rattle.walter_cset.specs.Totals.{total_of, HasPlace}
use Rattle.walter_cset.proofs.Steps.{count_next}
use Rattle.walter_cset.proofs.counting.take_all.Goals as goal

pub take-requires-clause-placed : goal.take-requires-clause-placed
take-requires-clause-placed c =
    subst (HasPlace c.loop-update.totals) (sym c.update-item.is) (c.loop-update.invariant.places c.loop-update.update-index c.update-item.result c.loop-update-test.true)

pub take-requires-clause-room : goal.take-requires-clause-room
take-requires-clause-room c = omega (arith, c.loop-update.invariant.taken, c.loop-update-test.true, c.requires.1)

pub loop-update-preserved : goal.loop-update-preserved
loop-update-preserved c =
    let updates = c.args.updates.now in
    let before = c.loop-update.invariant in
    let one = c.take.ensures in
    record {
      counts = λ oid id.
          let more = count_next oid id updates c.loop-update.update-index c.update-item.result c.loop-update-test.true c.update-item.is in
          let had = before.counts oid id in
          let taken = one.totals oid id in
          omega (arith, ints, more, had, taken);
      places = All-weaker (HasPlace c.loop-update.totals) (HasPlace c.take.new.self) one.still updates before.places;
      taken = omega (arith, one.taken, before.taken);
    }

pub returns : goal.returns
returns c = λ oid id.
    c.close_all.ensures oid id ∙ c.loop-update.invariant.counts oid id
    ∙ ap (λ us. total_of c.args.totals.now oid id +ℤ count_of oid id us) (take_all c.loop-update.update-index c.args.updates.now c.loop-update-test.false)
