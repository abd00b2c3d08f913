use Rattle.std.proofs.Common.{◌≡◌, ◌+◌, ℕ, [], sym, subst, arith}
use Rattle.walter_durable.specs.Marks.{HoldingsWithRoom, IsHeldAt, own, with_own}
use Rattle.walter_durable.specs.Counted.{kept_in, copies_in, IsCounted}
use Rattle.walter_durable.proofs.Held.{held_beside, counts_own, counts_before}
use Rattle.walter_durable.proofs.durable.Durable.counted_with_own.Goals as goal
use Rattle.walter_durable.proofs.durable.Durable.counted_with_own.Goals.{else-self-next-via-then-self-next+else-is_held_at, else-self-next-via-else-self-next}

pub returns-then-is_held_at : goal.returns-then-is_held_at
returns-then-is_held_at c =
    let d = c.self.inside in
    let preferred = c.args.preferred.now in
    let all : d.counted ≡ own (kept_in d) = omega (arith, c.if-self-next.true, c.own-next.ensures) in
    let held = subst (λ (n : ℕ). IsHeldAt (copies_in d.copies d.acknowledged) (n + 1) preferred) c.own-next.ensures
    (c.is_held_at.ensures.0 c.if-is_held_at.true) in
    let here = held_beside (copies_in d.copies d.acknowledged) d.visible d.durable_floor d.visible_floor
    (own (kept_in d) + 1) preferred held in
    subst (λ (v : HoldingsWithRoom). IsCounted (with_own preferred v.holdings) (c.own-next.result + 1)) c.self.view_is
    (subst (λ (n : ℕ). IsCounted (with_own preferred (kept_in d)) (n + 1)) (sym c.own-next.ensures)
    (counts_own (kept_in d) preferred d.counted c.self.invariant.1 all here))

pub returns-else-self-next : goal.returns-else-self-next
returns-else-self-next c =
    let d = c.self.inside in
    let preferred = c.args.preferred.now in
    let counts = λ (stops : d.counted ≡ own (kept_in d) → ¬ IsHeldAt (kept_in d) (own (kept_in d) + 1) preferred).
    subst (λ (v : HoldingsWithRoom). IsCounted (with_own preferred v.holdings) d.counted) c.self.view_is
    (counts_before (kept_in d) preferred d.counted c.self.invariant.1 stops) in
    elim c.else-self-next.branch [
      | else-self-next-via-then-self-next+else-is_held_at w ↦ counts (λ all held.
          let here = subst (λ (n : ℕ). IsHeldAt (copies_in d.copies d.acknowledged) (n + 1) preferred)
          (sym c.own-next.ensures)
          (held_beside (kept_in d) [] 0 0 (own (kept_in d) + 1) preferred held) in
          let is = w.is_held_at.ensures.1 here in
          absurd (cc (is, w.if-is_held_at.false)))
      | else-self-next-via-else-self-next w ↦ counts (λ all held.
          absurd (omega (arith, all, c.own-next.ensures, w.if-self-next.false)))
    ]
