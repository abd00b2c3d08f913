-- What is framed: the spelling of a packet among so many sites.
use Rattle.std.specs.Prelude.{◌≡◌, ◌≤◌, ℕ, List}
use Rattle.walter_base.specs.Vectors.{most_sites}
use Rattle.walter_base.specs.declared.packet.Packet.{Packet}
use Rattle.walter_packet.specs.Spelling.{packet_spelled, HasPacketSpelling}

pub record FramedBytes : Type 0 where
  pub sites : ℕ
  pub bytes : List ℕ

-- the frame of the packet
abbrev pub frame_of : ℕ → Packet → FramedBytes
frame_of sites packet = record { sites = sites; bytes = packet_spelled packet }

-- the packet is that of the frame
pub record IsFramed (frame : FramedBytes) (packet : Packet) : Type 0 where
  pub spelled : HasPacketSpelling frame.sites packet
  pub bytes : frame.bytes ≡ packet_spelled packet

-- there is such a packet
pub record SpellsPacket (frame : FramedBytes) : Type 0 where
  pub sites : frame.sites ≤ most_sites
  pub packet : Packet
  pub framed : IsFramed frame packet
