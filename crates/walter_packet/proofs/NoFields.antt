-- Where what stands behind the kind of a packet can't be read, no packet of this kind has it.
use Rattle.std.proofs.Common.{◌≡◌, ◌≢◌, ℕ, ◌≤◌, List, ◌++◌, arith}
use Rattle.walter_base.specs.declared.format.Format.TheVariants.{Second}
use Rattle.walter_base.specs.Sending.{kind_of}
use Rattle.walter_base.specs.declared.packet.Packet.{Packet}
use Rattle.walter_base.specs.declared.packet.Packet.TheVariants.{Propagate, Ack, Dsmark, Visible, Prepare, Vote, Release, Released}
use Rattle.walter_fields.specs.Spellings.{number_spelled}
use Rattle.walter_txcode.specs.Faults.{NoneBegins}
use Rattle.walter_txcode.specs.Kinds.{IsSuchOfKind}
use Rattle.walter_txcode.specs.Spelling.{numbered_spelled, IsNumbered}
use Rattle.walter_txcode.proofs.Joined.{IsNumber}
use Rattle.walter_packet.specs.Fields.{fields_spelled, vote_spelled, prepare_spelled, IsVote, IsPrepare}
use Rattle.walter_packet.specs.Spelling.{HasPacketSpelling}
use Rattle.walter_packet.proofs.Packets.{known_kind, spelled_transaction, spelled_prepare}

abbrev pub NoFields : ℕ → ℕ → List ℕ → Type 0
NoFields sites kind left = NoneBegins (IsSuchOfKind (HasPacketSpelling sites) kind_of kind) fields_spelled left

-- the same, packet by packet
abbrev NoPacket : ℕ → ℕ → List ℕ → Type 0
NoPacket sites kind left = (p : Packet) (rest : List ℕ) → IsSuchOfKind (HasPacketSpelling sites) kind_of kind p → left ≢ fields_spelled p ++ rest

pub no_propagate : (sites kind : ℕ) (left : List ℕ) → kind ≡ 1 → NoneBegins (IsNumbered Second sites) (numbered_spelled Second) left → NoFields sites kind left
no_propagate sites kind left is none = record { none = each }
  where
    each : NoPacket sites kind left
    each (Propagate seq tx) rest of e = none.none (seq, tx) rest (spelled_transaction sites seq tx of.1) e
    each p rest of e = omega (arith, is, of.0)

pub no_ack : (sites kind : ℕ) (left : List ℕ) → kind ≡ 2 → NoneBegins IsNumber (number_spelled 8) left → NoFields sites kind left
no_ack sites kind left is none = record { none = each }
  where
    each : NoPacket sites kind left
    each (Ack got) rest of e = none.none got rest of.1.ranges e
    each p rest of e = omega (arith, is, of.0)

pub no_dsmark : (sites kind : ℕ) (left : List ℕ) → kind ≡ 3 → NoneBegins IsNumber (number_spelled 8) left → NoFields sites kind left
no_dsmark sites kind left is none = record { none = each }
  where
    each : NoPacket sites kind left
    each (Dsmark durable) rest of e = none.none durable rest of.1.ranges e
    each p rest of e = omega (arith, is, of.0)

pub no_visible : (sites kind : ℕ) (left : List ℕ) → kind ≡ 4 → NoneBegins IsNumber (number_spelled 8) left → NoFields sites kind left
no_visible sites kind left is none = record { none = each }
  where
    each : NoPacket sites kind left
    each (Visible committed) rest of e = none.none committed rest of.1.ranges e
    each p rest of e = omega (arith, is, of.0)

pub no_prepare : (sites kind : ℕ) (left : List ℕ) → kind ≡ 5 → NoneBegins (IsPrepare sites) prepare_spelled left → NoFields sites kind left
no_prepare sites kind left is none = record { none = each }
  where
    each : NoPacket sites kind left
    each (Prepare slow tid start objects) rest of e = none.none (slow, (tid, (start, objects))) rest (spelled_prepare sites slow tid start objects of.1) e
    each p rest of e = omega (arith, is, of.0)

pub no_vote : (sites kind : ℕ) (left : List ℕ) → kind ≡ 6 → NoneBegins IsVote vote_spelled left → NoFields sites kind left
no_vote sites kind left is none = record { none = each }
  where
    each : NoPacket sites kind left
    each (Vote slow answer) rest of e = none.none (slow, answer) rest of.1.ranges e
    each p rest of e = omega (arith, is, of.0)

pub no_release : (sites kind : ℕ) (left : List ℕ) → kind ≡ 7 → NoneBegins IsNumber (number_spelled 8) left → NoFields sites kind left
no_release sites kind left is none = record { none = each }
  where
    each : NoPacket sites kind left
    each (Release slow) rest of e = none.none slow rest of.1.ranges e
    each p rest of e = omega (arith, is, of.0)

pub no_released : (sites kind : ℕ) (left : List ℕ) → kind ≡ 8 → NoneBegins IsNumber (number_spelled 8) left → NoFields sites kind left
no_released sites kind left is none = record { none = each }
  where
    each : NoPacket sites kind left
    each (Released slow) rest of e = none.none slow rest of.1.ranges e
    each p rest of e = omega (arith, is, of.0)

pub no_such_kind : (sites kind : ℕ) (left : List ℕ) → ((1 ≤ kind) × (kind ≤ 8) → ⊥) → NoFields sites kind left
no_such_kind sites kind left unknown = record { none = λ p rest of e. unknown (omega (arith, of.0, known_kind p), omega (arith, of.0, known_kind p)) }
