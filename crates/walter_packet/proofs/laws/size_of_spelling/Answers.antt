use Rattle.walter_packet.proofs.Packets.{length-packet_spelled, at_most}
use Rattle.walter_packet.proofs.laws.size_of_spelling.Goals as goal

pub returns-clause-size : goal.returns-clause-size
returns-clause-size c = length-packet_spelled

pub returns-clause-most : goal.returns-clause-most
returns-clause-most c = at_most
