use Rattle.std.proofs.Common.{◌≡◌, ℕ, ◌<◌, ◌+◌, ◌-◌, List, length, take, drop, get_or, refl, sym, subst, arith, length-drop}
use Rattle.std.specs.Prelude.{ℤ, pos, All}
use Rattle.std.proofs.lemmas.List.{get_or_default, take_all}
use Rattle.walter_psi.proofs.CheckerLists.{pairs_more, pairs_behind}
use Rattle.walter_psi.proofs.checker.answers.are_rising.Goals as goal

-- all that is behind a place
behind : (counts : List (ℕ × ℤ)) (n : ℕ) → take (length counts - n) (drop n counts) ≡ drop n counts
behind counts n = take_all (length counts - n) (drop n counts) (omega (arith, length-drop n counts))

pub loop-place-preserved : goal.loop-place-preserved
loop-place-preserved c =
    let counts = c.args.counts.now in
    let first = get_or counts c.loop-place.place (0, pos 0) in
    pairs_more (λ a b. a.0 < b.0) counts c.loop-place.place first c.loop-place-test.true
    (get_or_default counts c.loop-place.place (0, pos 0) first c.loop-place-test.true) (subst (λ rest. All (λ count. first.0 < count.0) rest) (behind counts (c.loop-place.place + 1)) (c.if-not-is_below_all.ensures.0 refl)) c.loop-place.invariant

pub returns-then-not-is_below_all : goal.returns-then-not-is_below_all
returns-then-not-is_below_all c =
    let counts = c.args.counts.now in
    let first = get_or counts c.loop-place.place (0, pos 0) in (
      λ no. absurd cc,
      λ all. c.if-not-is_below_all.ensures.1 (subst (λ rest. All (λ count. first.0 < count.0) rest) (sym (behind counts (c.loop-place.place + 1))) (pairs_behind (λ a b. a.0 < b.0) counts c.loop-place.place first c.loop-place-test.true
          (get_or_default counts c.loop-place.place (0, pos 0) first c.loop-place-test.true) all)),
    )
