use Rattle.std.proofs.Common.{◌≡◌, ◌≤◌, ◌^◌, ◌++◌, ◌∙◌, ℕ, length, Result, Ok, Err, IfOk, ap, sym, arith}
use Rattle.std.specs.Prelude.{◌+ℤ◌}
use Rattle.std.proofs.lemmas.Int.{ints}
use Rattle.walter_base.specs.Values.{count_of}
use Rattle.walter_base.proofs.Counted.{counts_are_one}
use Rattle.walter_cset.specs.Tallies.{number_at}
use Rattle.walter_cset.proofs.Moving.{count_stands, moved_within, moved_behind}
use Rattle.walter_cset.proofs.Numbers.{are_counts}
use Rattle.walter_history.proofs.Standing.{count-append}
use Rattle.std.proofs.lemmas.List.{length-map}
use Rattle.walter_history.specs.declared.steps.Step.{Step}
use Rattle.walter_history.specs.Steps.{told}
use Rattle.walter_history.specs.Lines.{kept_of}
use Rattle.walter_rows.specs.Rows.{rows_in, seen_in}
use Rattle.walter_rows.proofs.ReadRows.{count_held}
use Rattle.walter_rows.proofs.reading.counts_read.Goals as goal

pub counts-requires-clause-base : goal.counts-requires-clause-base
counts-requires-clause-base c = λ id.
    let is = c.base_of-base.ensures.numbers id in
    let within = c.base_of-base.ensures.within id in
    (omega (arith, ints, is, within.0), omega (arith, ints, is, within.1))

pub counts-requires-clause-moves : goal.counts-requires-clause-moves
counts-requires-clause-moves c = λ id.
    let steps = c.steps_between-steps.result.now in
    let few : length steps ≤ 2 ^ 61 = omega arith in
    let is = c.in_ok-moves.ensures id in
    let within = moved_within c.args.committed.now c.args.snapshot.now c.args.oid id (told steps) in
    let long = length-map steps (λ (s : Step). s.row) in
    (omega (arith, ints, is, within.0, few, long), omega (arith, ints, is, within.1, few, long))

each_ok : {X E : Type 0} (P Q : X → Type 0) (r : Result X E) → ((x : X) → P x → Q x) → IfOk r P → IfOk r Q
each_ok P Q (Ok x) gives is = gives x is
each_ok P Q (Err e) gives is = tt

pub returns : goal.returns
returns c = λ catalog log are told.
    let oid = c.args.oid in
    let from = c.args.committed.now in
    let to = c.args.snapshot.now in
    let own = c.args.updates.now in
    let kept = kept_of c.args.history.now oid in
    let base = c.base_of-base.result.now in
    let moves = c.in_ok-moves.moves in
    let each : (id : ℕ) → number_at base id +ℤ number_at moves id ≡ count_of oid id (seen_in to log) = λ id.
    let total = c.base_of-base.ensures.numbers id in
    let committed = told oid id in
    let by = c.in_ok-moves.ensures id in
    let steps = moved_behind from to oid id kept.steps _ c.steps_between-steps.ensures in
    let whole = count_stands oid id c.args.history.now.floor kept (rows_in oid log) (are.stand oid) from to c.requires.committed c.requires.snapshot in
    let held_from = count_held from oid id log in
    let held_to = count_held to oid id log in
    omega (arith, ints, total, committed, by, steps, whole, held_from, held_to)
    in
    each_ok _ _ c.counts.result (λ counts laid. counts_are_one oid (seen_in to log ++ own) counts
    (are_counts (λ id. (number_at base id +ℤ number_at moves id) +ℤ count_of oid id own) oid (seen_in to log ++ own) counts
    (λ id. ap (λ n. n +ℤ count_of oid id own) (each id) ∙ sym (count-append oid id (seen_in to log) own)) laid)) c.counts.ensures
