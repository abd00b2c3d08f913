use Rattle.std.proofs.Common.{rules, ◌≡◌, ◌∷◌, ℕ, List, drop, to_z, of_z, w64, refl, sym, subst, arith}
use Rattle.std.specs.Prelude.{ℤ, ◌+ℤ◌}
use Rattle.std.proofs.lemmas.Int.{ints}
use Rattle.walter_cset.specs.Tallies.{number_at, number_in, AreNumbers}
use Rattle.walter_cset.proofs.Numbers.{rising_entries}
use Rattle.walter_overlay.specs.Laying.{IsRisingFrom, AreNumbersBelow, AreLaid}
use Rattle.walter_overlay.proofs.Laid.{none_laid, rising_pairs, sum_at, all_laid}
use Rattle.walter_overlay.proofs.laying.laid.Goals as goal

pub loop-id-init : goal.loop-id-init
loop-id-init c =
    let f : ℕ → ℤ = λ id. number_at c.args.base.now id +ℤ number_in c.args.moves.now id in
    let same : c.into_iter-id-iterator.result ≡ c.args.base.now.entries = search rules in
    record {
      within = omega arith;
      laid = record {
        end = 0;
        laid = subst (AreNumbersBelow 0 f) (sym {A = List (ℕ × ℤ)} c.new-items.ensures.items) (none_laid f);
        of_base = subst (IsRisingFrom 0) (sym {A = List (ℕ × ℤ)} same) (rising_pairs c.args.base.now.entries (rising_entries c.args.base.now c.into_iter-id-iterator.ensures.into_iter_gives.5));
        of_moves = c.requires.rising;
        left = λ id more. subst (λ es. f id ≡ number_in es id +ℤ number_in c.args.moves.now id) (sym {A = List (ℕ × ℤ)} same) refl;
      };
    }

pub lay_both-requires-clause-rising : goal.lay_both-requires-clause-rising
lay_both-requires-clause-rising c =
    let f : ℕ → ℤ = λ id. number_at c.args.base.now id +ℤ number_in c.args.moves.now id in
    let step : c.loop-id.id-iterator ≡ (c.in-Some.id.now, c.in-Some.number.now) ∷ c.next.new.self = search rules in
    (c.in_ok-from.ensures.laid f c.in-Some.number.now c.next.new.self
    (subst (λ es. AreLaid f es (drop c.loop-id.place c.args.moves.now) c.loop-id.items.items) step c.loop-id.invariant.laid)).1

pub lay_both-requires-clause-fits : goal.lay_both-requires-clause-fits
lay_both-requires-clause-fits c =
    let f : ℕ → ℤ = λ id. number_at c.args.base.now id +ℤ number_in c.args.moves.now id in
    let id = c.in-Some.id.now in
    let n = c.in-Some.number.now in
    let step : c.loop-id.id-iterator ≡ (id, n) ∷ c.next.new.self = search rules in
    let same : to_z w64 (of_z w64 n) ≡ n = omega (arith, ints) in
    let sum = sum_at f id n c.next.new.self (drop c.in_ok-from.from c.args.moves.now) _
    (c.in_ok-from.ensures.laid f n c.next.new.self
    (subst (λ es. AreLaid f es (drop c.loop-id.place c.args.moves.now) c.loop-id.items.items) step c.loop-id.invariant.laid)).0 in
    let fits = c.requires.fits id in
    (omega (arith, ints, same, sum, fits.0), omega (arith, ints, same, sum, fits.1))

pub returns : goal.returns
returns c =
    let f : ℕ → ℤ = λ id. number_at c.args.base.now id +ℤ number_in c.args.moves.now id in
    subst (AreNumbers f) (sym {A = List (ℕ × ℤ)} c.from.ensures)
    (all_laid f c.lay_rest.new.items.items
    (c.in_ok-lay_rest.ensures f
    (subst (λ es. AreLaid f es (drop c.loop-id.place c.args.moves.now) c.loop-id.items.items) c.in-None.ensures.steps.0 c.loop-id.invariant.laid)))
