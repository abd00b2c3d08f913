use Rattle.std.proofs.Common.{subst, sym}
use Rattle.walter_checkpoint.specs.Faults.{HasNoBody}
use Rattle.walter_checkpoint.proofs.Entries.{if_none, no_whole, no_restored}
use Rattle.walter_checkpoint.proofs.unpacking.body_of.Goals as goal

pub returns-in-0-clause-none : goal.returns-in-0-clause-none
returns-in-0-clause-none c =
    if_none c.whole.result (λ is. subst (λ n. HasNoBody c.args.sites n c.args.spelled.now) (sym c.in-0.is) (no_whole c.args.sites c.args.spelled.now c.requires.short is)) c.whole.ensures.none

pub returns-in-1-clause-none : goal.returns-in-1-clause-none
returns-in-1-clause-none c =
    if_none c.restored.result (λ is. subst (λ n. HasNoBody c.args.sites n c.args.spelled.now) (sym c.in-1.is) (no_restored c.args.sites c.args.spelled.now c.requires.short is)) c.restored.ensures.none
