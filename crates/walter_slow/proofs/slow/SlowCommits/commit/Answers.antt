use Rattle.std.proofs.Common.{nat_eq, sym, ap, subst}
use Rattle.std.specs.Map.{keys_of}
use Rattle.walter_slow.specs.Tables.{RiseBetween}
use Rattle.walter_slow.proofs.BusyOnes.{committed}
use Rattle.walter_slow.proofs.Numbers.{rise_removed}
use Rattle.walter_slow.proofs.slow.SlowCommits.commit.Goals as goal

pub invariant_of-self : goal.invariant_of-self
invariant_of-self c =
    let s = c.self.inside in (
      subst (RiseBetween 0 s.last) (sym (ap keys_of c.shift_remove.ensures.entries)) (rise_removed 0 s.last (nat_eq c.args.slow) s.commits.entries c.self.invariant.0),
      c.self.invariant.1,
      c.settle.ensures.rising s.last c.self.invariant.2,
      committed s.commits.entries _ c.args.slow s.busy.items _ c.self.invariant.3 c.shift_remove.ensures.updates.0 c.settle.ensures.any,
    )
