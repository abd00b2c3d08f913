use Rattle.std.proofs.Common.{◌∙◌, ◌||◌, ◌++◌, ◌∷◌, [], not, nat_eq, sym, ap, subst}
use Rattle.walter_locks.specs.Intervals.{Numbers, is_among, RiseApart}
use Rattle.std.specs.Prelude.{position}
use Rattle.walter_locks.specs.Adding.{is_before}
use Rattle.walter_locks.proofs.Adding.{adds_at, adds_behind}
use Rattle.walter_locks.proofs.intervals.Intervals.add.Goals as goal

pub invariant_of-self : goal.invariant_of-self
invariant_of-self c =
    let intervals = c.self.inside.intervals.items in
    let found = ap (λ (t : Numbers). t.intervals) c.self.view_is in
    let adds = adds_at c.args.number c.in-Some.place intervals c.self.invariant (ap (λ rs. position (λ interval. not (is_before c.args.number interval)) rs) found ∙ sym c.in-Some.ensures) in
    subst (RiseApart 0) (sym c.put.ensures) adds.apart

pub invariant_of-self-in-None : goal.invariant_of-self-in-None
invariant_of-self-in-None c =
    let intervals = c.self.inside.intervals.items in
    let found = ap (λ (t : Numbers). t.intervals) c.self.view_is in
    let adds = adds_behind c.args.number intervals c.self.invariant (ap (λ rs. position (λ interval. not (is_before c.args.number interval)) rs) found ∙ sym c.in-None.ensures) in
    subst (RiseApart 0) (sym (c.push_reserved.ensures.items ∙ ap (λ interval. intervals ++ interval ∷ []) c.of.ensures)) adds.apart

pub returns-in-Some : goal.returns-in-Some
returns-in-Some c n =
    let intervals = c.self.inside.intervals.items in
    let found = ap (λ (t : Numbers). t.intervals) c.self.view_is in
    let adds = adds_at c.args.number c.in-Some.place intervals c.self.invariant (ap (λ rs. position (λ interval. not (is_before c.args.number interval)) rs) found ∙ sym c.in-Some.ensures) in
    ap (is_among n) c.put.ensures ∙ adds.among n ∙ ap (λ rs. nat_eq c.args.number n || is_among n rs) found
