use Rattle.std.proofs.Common.{◌≡◌, ◌<◌, ◌+◌, ℕ, List, length, take, get_or, sym, ◌∙◌, subst, arith}
use Rattle.walter_rules.specs.Sending.{Send}
use Rattle.walter_world.proofs.Numbering.{sent_among, passed, counted, sent_here}
use Rattle.walter_world.proofs.posted.nth_to.Goals.{then-eq+else-left-eq1, else-eq}
use Rattle.walter_world.proofs.posted.nth_to.Goals as goal

pub returns-then-left-eq1-clause-found : goal.returns-then-left-eq1-clause-found
returns-then-left-eq1-clause-found c =
    let l = c.loop-site in
    let s = c.loop-site-item.result in
    let sends = c.args.entry.now.came.sends in
    let is : c.as_slice-site-items.result.now ≡ sends = c.as_slice-site-items.ensures in
    let within : l.site-index < length sends = subst (λ (xs : List Send). l.site-index < length xs) is c.loop-site-test.true in
    let at : s ≡ get_or sends l.site-index s = subst (λ (xs : List Send). s ≡ get_or xs l.site-index s) is c.loop-site-item.is in
    sent_here c.args.to c.args.entry.now.stamp sends l.site-index s within at l.left c.args.number (sym c.eq.ensures ∙ c.if-eq.true) c.if-left-eq1.true
    l.invariant.counted

pub loop-site-preserved : goal.loop-site-preserved
loop-site-preserved c =
    let l = c.loop-site in
    let entry = c.args.entry.now in
    let s = c.loop-site-item.result in
    let sends = entry.came.sends in
    let is : c.as_slice-site-items.result.now ≡ sends = c.as_slice-site-items.ensures in
    let within : l.site-index < length sends = subst (λ (xs : List Send). l.site-index < length xs) is c.loop-site-test.true in
    let at : s ≡ get_or sends l.site-index s = subst (λ (xs : List Send). s ≡ get_or xs l.site-index s) is c.loop-site-item.is in
    elim c.if-eq.branch [
      | then-eq+else-left-eq1 w ↦
          let some = l.invariant.some in
          let other = w.if-left-eq1.false in
          let less : c.if-eq.left + 1 ≡ l.left = omega (arith, w.left-is, some) in
          let more : 0 < c.if-eq.left = omega (arith, less, other, some) in
          record {
            some = more;
            counted = counted c.args.to entry.stamp sends l.site-index s within at l.left c.if-eq.left c.args.number
                (sym c.eq.ensures ∙ w.if-eq.true) less l.invariant.counted;
          }
      | else-eq w ↦ record {
        some = subst (λ (n : ℕ). 0 < n) (sym w.left-is) l.invariant.some;
        counted = passed c.args.to entry.stamp sends l.site-index s within at c.if-eq.left c.args.number (sym c.eq.ensures ∙ w.if-eq.false)
            (subst (λ (n : ℕ). n + length (sent_among c.args.to entry.stamp (take l.site-index entry.came.sends))
            ≡ c.args.number) (sym w.left-is) l.invariant.counted);
      }
    ]
