use Rattle.std.proofs.Common.{ap, sym, ◌∙◌}
use Rattle.std.specs.Option.{option_copied}
use Rattle.walter_base.specs.Values.{value_of}
use Rattle.walter_history.specs.Rows.{seen_updates}
use Rattle.walter_history.proofs.Fronts.{held_none, held_some}
use Rattle.walter_history.proofs.line.value_of.Goals as goal

pub returns-in-Some : goal.returns-in-Some
returns-in-Some c =
    let line = c.args.line.now in
    sym (held_some c.args.oid line.value (seen_updates c.args.by.now line.writes.items) c.in-Some.bytes.now
    (ap (λ rows. value_of c.args.oid (seen_updates c.args.by.now rows)) (sym c.deref.ensures.value) ∙ sym c.last_seen.ensures ∙ ap option_copied c.in-Some.is))

pub returns-in-None : goal.returns-in-None
returns-in-None c =
    let line = c.args.line.now in
    c.as_ref.ensures.value
    ∙ sym (held_none c.args.oid line.value (seen_updates c.args.by.now line.writes.items)
    (ap (λ rows. value_of c.args.oid (seen_updates c.args.by.now rows)) (sym c.deref.ensures.value) ∙ sym c.last_seen.ensures ∙ ap option_copied c.in-None.is))
