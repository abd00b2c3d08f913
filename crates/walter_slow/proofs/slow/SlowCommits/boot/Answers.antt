use Rattle.std.proofs.Common.{◌<◌, ◌∙◌, ℕ, nat_eq, length, take, slice_get, option_map, false, sym, ap, arith, if◌then◌else◌}
use Rattle.std.specs.List.{list_any}
use Rattle.std.specs.Option.{option_map_or}
use Rattle.std.proofs.lemmas.List.{length-map, take_all}
use Rattle.walter_slow.specs.Kept.{Kept, booted}
use Rattle.walter_slow.specs.Tables.{commit_of, numbers_of, is_number_at}
use Rattle.walter_slow.proofs.Standings.{any_more, booted_more, none_kept, all_booted}
use Rattle.walter_slow.proofs.slow.SlowCommits.boot.Goals as goal

pub loop-place-preserved : goal.loop-place-preserved
loop-place-preserved c =
    let old = c.args.self.now in
    let before = c.loop-place.invariant in
    let place = c.loop-place.place in
    let within : place < length (numbers_of old) = omega (arith, length-map old.commits (λ (e : ℕ × Kept). e.0), c.count-place-end.ensures.count, c.loop-place-test.true) in
    record {
      last = c.boot_at.ensures.last ∙ before.last;
      numbers = c.boot_at.ensures.numbers ∙ before.numbers;
      commits = λ n.
          let some = list_any (nat_eq n) (take place (numbers_of old)) in
          let was = if some then option_map booted (commit_of old n) else commit_of old n in
          c.boot_at.ensures.commits n
          ∙ ap (λ x. if is_number_at c.loop-place.self place n then option_map booted x else x) (before.commits n)
          ∙ ap (λ ns. if option_map_or (nat_eq n) (slice_get ns place) false then option_map booted was else was) before.numbers
          ∙ booted_more some (is_number_at old place n) (commit_of old n)
          ∙ ap (λ b. if b then option_map booted (commit_of old n) else commit_of old n) (sym (any_more (nat_eq n) (numbers_of old) place within));
      room = λ k can. c.boot_at.ensures.room k (before.room k can);
    }

pub returns-clause-commits : goal.returns-clause-commits
returns-clause-commits c n =
    let old = c.args.self.now in
    let numbers = numbers_of old in
    let all = take_all c.loop-place.place numbers (omega (arith, length-map old.commits (λ (e : ℕ × Kept). e.0), c.count-place-end.ensures.count, c.loop-place-test.false)) in
    c.loop-place.invariant.commits n
    ∙ all_booted (list_any (nat_eq n) (take c.loop-place.place numbers)) (commit_of old n) (λ is. none_kept old.commits n (ap (list_any (nat_eq n)) (sym all) ∙ is))
