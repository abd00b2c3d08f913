use Rattle.std.proofs.Common.{◌≡◌, map, take}
use Rattle.std.specs.Prelude.{All}
use Rattle.walter_packet.specs.Framed.{frame_of}
use Rattle.walter_packet.specs.Spelling.{HasPacketSpelling}
use Rattle.walter_machine.proofs.preparing.frame_all.Given as goal

abbrev pub invariant-loop-packet : goal.invariant-loop-packet
invariant-loop-packet l = record {
  frames : l.frames.items ≡ map (λ s. frame_of l.sites s.1) (take l.packet-index l.sends);
  spelled : All (λ s. HasPacketSpelling l.sites s.1) (take l.packet-index l.sends);
}
