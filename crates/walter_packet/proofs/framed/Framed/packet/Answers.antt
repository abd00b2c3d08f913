use Rattle.std.proofs.Common.{sym, ◌∙◌}
use Rattle.walter_packet.proofs.Packets.{same_packet}
use Rattle.walter_packet.proofs.framed.Framed.packet.Goals as goal

pub returns-clause-one : goal.returns-clause-one
returns-clause-one c =
    let here = rw c.unwrap.ensures at c.in_ok-decode.ensures.some in
    rw (← c.self.view_is) (λ other framed. same_packet c.self.inside.sites other c.unwrap.result framed.spelled here.0 (sym framed.bytes ∙ sym c.as_slice.ensures ∙ here.1))
