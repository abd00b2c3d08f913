use Rattle.std.proofs.Common.{◌≡◌, ◌&&◌, ◌||◌, not, ◌∙◌, nat_eq, Bool, filter, ap, sym, subst, rules}
use Rattle.std.specs.List.{list_any}
use Rattle.std.proofs.lemmas.Fn.{filter_same}
use Rattle.walter_slow.specs.Tables.{RiseBetween}
use Rattle.walter_slow.proofs.BusyOnes.{any_without, rise_without}
use Rattle.walter_slow.proofs.busy.settle.Goals as goal

pub returns-clause-any : goal.returns-clause-any
returns-clause-any c n =
    let slow = c.args.slow in
    let old = c.args.busy.now.items in
    let kept : c.retain.new.self.items ≡ filter (λ m. not (nat_eq slow m)) old =
    filter_same _ (λ m. not (nat_eq slow m)) _ (λ x b f' k. search rules) _ _ c.retain.ensures.filtered in
    ap (list_any (nat_eq n)) kept ∙ (any_without n slow old
    ∙ sym (ap (λ (b : Bool). list_any (nat_eq n) old && (b || not (nat_eq slow n))) c.if-is_busy.false))

pub returns-clause-rising : goal.returns-clause-rising
returns-clause-rising c last rise =
    let slow = c.args.slow in
    let old = c.args.busy.now.items in
    let kept : c.retain.new.self.items ≡ filter (λ m. not (nat_eq slow m)) old =
    filter_same _ (λ m. not (nat_eq slow m)) _ (λ x b f' k. search rules) _ _ c.retain.ensures.filtered in
    subst (RiseBetween 0 last) (sym kept) (rise_without (λ m. not (nat_eq slow m)) 0 last old rise)
