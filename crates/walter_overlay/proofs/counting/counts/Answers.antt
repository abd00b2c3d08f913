use Rattle.std.proofs.Common.{◌≡◌, Result, Ok, Err, IfOk, sym, subst, arith}
use Rattle.std.proofs.lemmas.Int.{ints}
use Rattle.walter_cset.specs.Tallies.{number_at, number_in}
use Rattle.walter_cset.proofs.Numbers.{same_numbers}
use Rattle.walter_cset.proofs.Steps.{low_count, high_count}
use Rattle.walter_overlay.specs.Laying.{IsRisingFrom}
use Rattle.walter_overlay.proofs.Laid.{number_shown, rising_pairs}
use Rattle.walter_overlay.proofs.counting.counts.Goals as goal

pub laid-requires-clause-rising : goal.laid-requires-clause-rising
laid-requires-clause-rising c = subst (IsRisingFrom 0) (sym c.as_slice.ensures) (rising_pairs _ c.in_ok-changes.ensures.rising)

pub laid-requires-clause-fits : goal.laid-requires-clause-fits
laid-requires-clause-fits c = λ id.
    let shown : number_in c.as_slice.result.now id ≡ number_at c.take_own.new.moves id =
    subst (λ es. number_in es id ≡ number_at c.take_own.new.moves id) (sym c.as_slice.ensures) (number_shown (number_at c.take_own.new.moves) c.in_ok-changes.changes id c.in_ok-changes.ensures) in
    let taken = c.in_ok-take_own.ensures id in
    let base = c.requires.base id in
    let moves = c.requires.moves id in
    let low = low_count c.args.oid id c.args.updates.now in
    let high = high_count c.args.oid id c.args.updates.now in
    (omega (arith, ints, shown, taken, base.0, moves.0, low, c.requires.few), omega (arith, ints, shown, taken, base.1, moves.1, high, c.requires.few))

each_ok : {X E : Type 0} (P Q : X → Type 0) (r : Result X E) → ((x : X) → P x → Q x) → IfOk r P → IfOk r Q
each_ok P Q (Ok x) gives is = gives x is
each_ok P Q (Err e) gives is = tt

pub returns : goal.returns
returns c =
    each_ok _ _ c.laid.result (λ counts are. same_numbers _ _ counts (λ id.
    let shown : number_in c.as_slice.result.now id ≡ number_at c.take_own.new.moves id =
    subst (λ es. number_in es id ≡ number_at c.take_own.new.moves id) (sym c.as_slice.ensures) (number_shown (number_at c.take_own.new.moves) c.in_ok-changes.changes id c.in_ok-changes.ensures) in
    let taken = c.in_ok-take_own.ensures id in
    omega (arith, ints, shown, taken)) are) c.laid.ensures
