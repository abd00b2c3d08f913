-- In which order a site puts out packets at once: by receiver, then by kind, then by number (docs/SITE.md, "What is put
-- out").
use Rattle.std.specs.Prelude.{◌≡◌, ◌⊎◌, ◌<◌, ◌≤◌, ℕ, List, AllPairs}
use Rattle.walter_base.specs.declared.names.SiteId.{SiteId}
use Rattle.walter_base.specs.declared.packet.Packet.{Packet}
use Rattle.walter_base.specs.declared.packet.Packet.TheVariants.{Propagate, Ack, Dsmark, Visible, Prepare, Vote, Release, Released}

abbrev pub kind_of : Packet → ℕ
kind_of (Propagate seq tx) = 1
kind_of (Ack got) = 2
kind_of (Dsmark durable) = 3
kind_of (Visible committed) = 4
kind_of (Prepare slow tid start objects) = 5
kind_of (Vote slow answer) = 6
kind_of (Release slow) = 7
kind_of (Released slow) = 8

-- the number that a packet names
abbrev pub number_of : Packet → ℕ
number_of (Propagate seq tx) = seq
number_of (Ack got) = got
number_of (Dsmark durable) = durable
number_of (Visible committed) = committed
number_of (Prepare slow tid start objects) = slow
number_of (Vote slow answer) = slow
number_of (Release slow) = slow
number_of (Released slow) = slow

-- of one receiver: by kind, and packets of one kind by number
abbrev pub IsSaidFirst : Packet → Packet → Type 0
IsSaidFirst a b = (kind_of a < kind_of b) ⊎ ((kind_of a ≡ kind_of b) × (number_of a ≤ number_of b))

abbrev pub IsSentFirst : SiteId × Packet → SiteId × Packet → Type 0
IsSentFirst a b = (a.0.0 < b.0.0) ⊎ ((a.0 ≡ b.0) × IsSaidFirst a.1 b.1)

abbrev pub AreInOrder : List (SiteId × Packet) → Type 0
AreInOrder sends = AllPairs IsSentFirst sends
