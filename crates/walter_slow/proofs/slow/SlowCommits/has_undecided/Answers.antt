use Rattle.std.proofs.Common.{◌≡◌, ◌+◌, ◌∙◌, ◌↔◌, ◌||◌, ℕ, List, true, false, take, get_or, Some, IsTrue, sym, ap, subst}
use Rattle.std.specs.List.{list_any}
use Rattle.std.specs.Option.{option_map_or}
use Rattle.std.proofs.lemmas.List.{take_all}
use Rattle.std.proofs.lemmas.List.Folds.{list_any_at, list_any_more}
use Rattle.walter_base.specs.declared.transaction.Tx.{Tx}
use Rattle.walter_base.specs.Names.{same_tid}
use Rattle.walter_slow.specs.Kept.{Kept, does_decide}
use Rattle.walter_slow.specs.Tables.{commit_of}
use Rattle.walter_slow.proofs.Undecided.{has_any}
use Rattle.walter_slow.proofs.slow.SlowCommits.has_undecided.Goals as goal

pub returns-then-is_of : goal.returns-then-is_of
returns-then-is_of c =
    let now = c.args.self.now in
    let tid = c.args.tid in
    let items = c.busy-slow-items.result.now in
    let test : ℕ → _ = λ n. option_map_or (does_decide tid) (commit_of now n) false in
    subst (λ b. IsTrue b ↔ ((n : ℕ) × (tx : Tx) × (kept : Kept) × (commit_of now n ≡ Some kept) × (kept.tx ≡ Some tx) × (same_tid tid tx.tid ≡ true)))
    (ap (list_any test) (sym c.busy-slow-items.ensures.numbers)
    ∙ list_any_at test items c.loop-slow.slow-index _ c.loop-slow-test.true (sym c.is_of.ensures ∙ c.if-is_of.true))
    (has_any tid now.commits now.busy c.busy-slow-items.ensures.busy)

pub loop-slow-preserved : goal.loop-slow-preserved
loop-slow-preserved c =
    let now = c.args.self.now in
    let tid = c.args.tid in
    let items = c.busy-slow-items.result.now in
    let told = c.busy-slow-items.ensures.numbers in
    let place = c.loop-slow.slow-index in
    let test : ℕ → _ = λ n. option_map_or (does_decide tid) (commit_of now n) false in
    let before = subst (λ (ns : List ℕ). list_any test (take place ns) ≡ false) (sym told) c.loop-slow.invariant in
    subst (λ (ns : List ℕ). list_any test (take (place + 1) ns) ≡ false) told
    (list_any_more test items place 0 c.loop-slow-test.true
    ∙ (ap (λ b. b || test (get_or items place 0)) before ∙ (sym c.is_of.ensures ∙ c.if-is_of.false)))

pub returns : goal.returns
returns c =
    let now = c.args.self.now in
    let tid = c.args.tid in
    let items = c.busy-slow-items.result.now in
    let told = c.busy-slow-items.ensures.numbers in
    let place = c.loop-slow.slow-index in
    let test : ℕ → _ = λ n. option_map_or (does_decide tid) (commit_of now n) false in
    let all = take_all place items c.loop-slow-test.false in
    subst (λ b. IsTrue b ↔ ((n : ℕ) × (tx : Tx) × (kept : Kept) × (commit_of now n ≡ Some kept) × (kept.tx ≡ Some tx) × (same_tid tid tx.tid ≡ true)))
    (ap (list_any test) (sym told) ∙ (sym (ap (list_any test) all)
    ∙ (ap (λ (ns : List ℕ). list_any test (take place ns)) told ∙ c.loop-slow.invariant)))
    (has_any tid now.commits now.busy c.busy-slow-items.ensures.busy)
