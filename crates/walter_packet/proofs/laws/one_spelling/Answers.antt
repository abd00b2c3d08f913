use Rattle.walter_packet.proofs.Packets.{same_packet}
use Rattle.walter_packet.proofs.laws.one_spelling.Goals as goal

pub returns : goal.returns
returns c = same_packet
