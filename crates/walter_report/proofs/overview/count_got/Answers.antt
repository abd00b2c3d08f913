use Rattle.std.proofs.Common.{◌≤◌, ◌+◌, nat_eq, List, All, ℕ, ap, sym, subst, ◌∙◌}
use Rattle.walter_rules.specs.Knowledge.{site_at}
use Rattle.walter_report.specs.Sites.{is_got}
use Rattle.walter_report.proofs.Counted.{counted_one, All-one_more}
use Rattle.walter_report.proofs.overview.count_got.Goals as goal

pub returns-in-Own-clause-counts : goal.returns-in-Own-clause-counts
returns-in-Own-clause-counts c = λ sites recs before.
    let i = site_at c.args.site in
    counted_one (is_got i) recs c.args.stable.now sites c.args.site c.args.got.now c.count_one.new.counts
    (λ k. ap (is_got i (site_at k)) c.in-Own.is) c.count_one.ensures before

pub returns-in-Own-clause-most : goal.returns-in-Own-clause-most
returns-in-Own-clause-most c = λ most all.
    subst (λ (ns : List ℕ). All (λ n. n ≤ most + 1) ns) (sym c.count_one.ensures)
    (All-one_more most c.args.site c.args.got.now all)

pub returns-in-Got-clause-counts : goal.returns-in-Got-clause-counts
returns-in-Got-clause-counts c = λ sites recs before.
    let i = site_at c.args.site in
    counted_one (is_got i) recs c.args.stable.now sites c.from.result c.args.got.now c.count_one-in-Got.new.counts
    (λ k. ap (is_got i (site_at k)) c.in-Got.is ∙ ap (λ p. nat_eq p k) (sym c.from.ensures))
    c.count_one-in-Got.ensures before

pub returns-in-Got-clause-most : goal.returns-in-Got-clause-most
returns-in-Got-clause-most c = λ most all.
    subst (λ (ns : List ℕ). All (λ n. n ≤ most + 1) ns) (sym c.count_one-in-Got.ensures)
    (All-one_more most c.from.result c.args.got.now all)
