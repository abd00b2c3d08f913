use Rattle.std.proofs.Common.{◌∙◌, sym, arith}
use Rattle.walter_durable.specs.Counted.{copies_in}
use Rattle.walter_durable.proofs.Held.{holders_few, holders_yes, holders_no}
use Rattle.walter_durable.proofs.copies.Copies.holders.Goals as goal
use Rattle.walter_durable.proofs.copies.Copies.holders.Goals.{then-holds, else-holds}

pub overflow_add-count : goal.overflow_add-count
overflow_add-count c =
    let few = holders_few (copies_in c.args.self.now c.args.acknowledged.now) c.args.q c.loop-site.site in
    omega (arith, c.loop-site.invariant, few)

pub loop-site-preserved : goal.loop-site-preserved
loop-site-preserved c =
    let H = copies_in c.args.self.now c.args.acknowledged.now in
    elim c.if-holds.branch [
      | then-holds w ↦
          let more = holders_yes H c.args.q c.loop-site.site (sym c.holds-holds.ensures ∙ w.if-holds.true) in
          omega (arith, w.count-is, c.loop-site.invariant, more)
      | else-holds w ↦
          let same = holders_no H c.args.q c.loop-site.site (sym c.holds-holds.ensures ∙ w.if-holds.false) in
          omega (arith, w.count-is, c.loop-site.invariant, same)
    ]
