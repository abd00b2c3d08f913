use Rattle.std.proofs.Common.{◌∙◌, sym, arith, rules}
use Rattle.walter_durable.specs.Counted.{copies_in}
use Rattle.walter_durable.proofs.Bits.{all_hold, one_lacks}
use Rattle.walter_durable.proofs.copies.Copies.are_holders.Goals as goal

pub returns-then-not-holds : goal.returns-then-not-holds
returns-then-not-holds c = (
  λ is. absurd (cc is),
  λ all. absurd (one_lacks (copies_in c.args.self.now c.args.acknowledged.now) c.args.q c.requires.some c.requires.here
      c.requires.few c.args.sites.now c.loop-place.place (sym c.has.ensures ∙ c.if-has.true)
      (sym c.holds.ensures ∙ c.if-not-holds.true) all),
)

pub returns : goal.returns
returns c = (
  λ is. all_hold (copies_in c.args.self.now c.args.acknowledged.now) c.args.q c.requires.some c.requires.here
      c.requires.few c.args.sites.now c.loop-place.place (omega (arith, c.loop-place-test.false))
      c.loop-place.invariant,
  λ all. search rules,
)
