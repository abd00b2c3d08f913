use Rattle.std.proofs.Common.{◌≡◌, ◌<◌, ◌++◌, ◌+◌, ◌∷◌, [], ℕ, List, map, drop, length, get_or, nat_lt, ap, refl, arith}
use Rattle.std.specs.Fmt.{decimal}
use Rattle.std.proofs.lemmas.Bool.Decides.{nat_tests}
use Rattle.walter_page.specs.Lists.{comma_behind, list_behind}
use Rattle.walter_page.specs.Words.{listed}
use Rattle.walter_page.proofs.Going.{cuts, cut_more, cut_as, put_as, put_last, puts_as, goes_from, goes_on, goes_as, goes_err}
use Rattle.walter_page.proofs.Joined.{listed_behind, list_behind-next}
use Rattle.walter_page.proofs.lists.put_counts.Goals as goal

none : (counts : List ℕ) → length counts ≡ 0 → 45 ∷ [] ≡ listed (map decimal counts)
none [] is = refl
none (n ∷ ns) is = absurd (omega (arith, is))

some : (counts : List ℕ) → 0 < length counts → listed (map decimal counts) ≡ list_behind (nat_lt 0 0) (map decimal counts)
some [] are = absurd (omega arith)
some (n ∷ ns) are = listed_behind (map decimal (n ∷ ns)) (omega arith)

pub returns-in_err-put : goal.returns-in_err-put
returns-in_err-put g c =
    cuts c.put.new.self c.from_residual.result c.from_residual.ensures.0
    (cut_more (listed (map decimal c.args.counts.now))
    (cut_as c.args.word.now c.as_bytes.ensures.value c.in_err-put.ensures))

pub returns-then-is_empty : goal.returns-then-is_empty
returns-then-is_empty g c =
    let counts = c.args.counts.now in
    let empty : length counts ≡ 0 = grind (arith, nat_tests) in
    puts_as g.K.Sink.holds g.K.Sink.faults c.args.sink.now c.put-then-is_empty.new.sink c.args.page.now
    c.put-then-is_empty.new.self c.put-then-is_empty.result (c.args.word.now ++ 45 ∷ [])
    (c.args.word.now ++ listed (map decimal counts)) (ap (λ t. c.args.word.now ++ t) (none counts empty))
    (put_last c.put-then-is_empty.new.sink c.put-then-is_empty.new.self (45 ∷ []) c.put-then-is_empty.result
    (put_as c.args.word.now c.as_bytes.ensures.value c.in_ok-put.ensures) c.put-then-is_empty.ensures)

pub loop-place-init : goal.loop-place-init
loop-place-init g c =
    let counts = c.args.counts.now in
    let there : 0 < length counts = grind (arith, nat_tests) in
    goes_as (list_behind (nat_lt 0 0) (map decimal counts)) (some counts there)
    (goes_from (listed (map decimal counts)) (put_as c.args.word.now c.as_bytes.ensures.value c.in_ok-put.ensures))

pub loop-place-preserved : goal.loop-place-preserved
loop-place-preserved g c =
    let counts = c.args.counts.now in
    let k = c.loop-place.place in
    let one = decimal (get_or counts k 0) in
    goes_on (goes_as _ (list_behind-next decimal counts k 0 c.loop-place-test.true) c.loop-place.invariant)
    (put_as (comma_behind (nat_lt 0 k) ++ one) (ap (λ t. t ++ one) c.comma_behind-comma.ensures)
    c.in_ok-put_parts.ensures)

pub returns-in_err-put_parts : goal.returns-in_err-put_parts
returns-in_err-put_parts g c =
    let counts = c.args.counts.now in
    let k = c.loop-place.place in
    let one = decimal (get_or counts k 0) in
    goes_err c.put_parts.new.page c.from_residual-in_err-put_parts.result c.from_residual-in_err-put_parts.ensures.0
    (list_behind (nat_lt 0 (k + 1)) (map decimal (drop (k + 1) counts)))
    (goes_as _ (list_behind-next decimal counts k 0 c.loop-place-test.true) c.loop-place.invariant)
    (cut_as (comma_behind (nat_lt 0 k) ++ one) (ap (λ t. t ++ one) c.comma_behind-comma.ensures)
    c.in_err-put_parts.ensures)
