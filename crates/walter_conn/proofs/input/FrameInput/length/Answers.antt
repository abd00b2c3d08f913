use Rattle.std.proofs.Common.{◌≤◌, ℕ, Result, take, length, subst, sym, ap, ◌∙◌, arith}
use Rattle.std.proofs.lemmas.List.{length-take-le}
use Rattle.std.specs.Prelude.{IfOk}
use Rattle.walter_fields.specs.Cursors.{Remainder, Takes}
use Rattle.walter_fields.specs.Spellings.{number_spelled}
use Rattle.walter_fields.specs.declared.short.Short.{Short}
use Rattle.walter_conn.proofs.InputLemmas.{number_whole}
use Rattle.walter_conn.proofs.input.FrameInput.length.Goals as goal

pub returns : goal.returns
returns g c =
    let bytes = c.deref.result.now in
    let long : 4 ≤ length bytes = omega (arith, c.deref.ensures.len, c.requires) in
    let taken = subst (λ (r : Result ℕ Short). IfOk r (λ n. Takes c.new.result c.u32.new.self (number_spelled 4 n))) c.unwrap.ensures c.u32.ensures.taken in
    ap (take 4) (sym c.deref.ensures.value)
    ∙ number_whole c.unwrap.result (take 4 bytes) c.u32.new.self.left (length-take-le 4 bytes long) (sym (ap (λ (u : Remainder). u.left) c.new.ensures) ∙ taken.front)
