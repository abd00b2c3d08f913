use Rattle.walter_txcode.proofs.Rising.{last_tells}
use Rattle.walter_txcode.proofs.objects.is_behind.Goals as goal

pub returns-in-Some : goal.returns-in-Some
returns-in-Some c =
    let tells = last_tells c.args.objects.now c.in-Some.last.now c.args.oid c.requires c.in-Some.ensures.value in
    (λ true_is. tells.0 (c.is_before.ensures.0 true_is), λ all. c.is_before.ensures.1 (tells.1 all))
