-- A site among others that is up, by its tables.
use Rattle.std.specs.Prelude.{◌≡◌, ◌<◌, ℕ, true, List}
use Rattle.walter_base.specs.declared.catalog.Catalog.{Catalog}
use Rattle.walter_base.specs.declared.format.Format.{Format}
use Rattle.walter_base.specs.declared.names.SiteId.{SiteId}
use Rattle.walter_base.specs.declared.packet.Packet.{Packet}
use Rattle.walter_base.specs.declared.transaction.Tx.{Tx}
use Rattle.walter_base.specs.Sizes.{CanBeSent, IsShortReply}
use Rattle.walter_packet.specs.Spelling.{IsAmong}
use Rattle.walter_rules.specs.declared.event.Event.TheVariants.{Given}
use Rattle.walter_rules.specs.declared.event.Input.{Input}
use Rattle.walter_rules.specs.declared.outcome.Outcome.{Outcome}
use Rattle.walter_rules.specs.declared.outcome.Outcome.TheVariants.{Replied}
use Rattle.walter_rules.specs.Calls.{Expected}
use Rattle.walter_rules.specs.Kinds.{IfDelivery}
use Rattle.walter_rules.specs.Knowledge.{Knowledge}
use Rattle.walter_rules.specs.Rule.{given_rule}
use Rattle.walter_rules.specs.Slow.{Undecided}
use Rattle.walter_rules.specs.Standing.{Standing, unmade}
use Rattle.walter_tables.specs.declared.tables.Tables.{Tables}
use Rattle.walter_tables.specs.Sites.{site_of, Stands}

-- A boot ended what was being decided, and each slow commit that began since is of a transaction of the site.
pub record IsStarted (i : SiteId) (K : Knowledge) : Type 0 where
  pub booted : 0 < K.epoch
  pub own : (n : ℕ) (tx : Tx) (asked : List SiteId) → K.slow n ≡ Undecided tx asked → tx.tid.site ≡ i

-- the tables are those of a site that is up and knows this
pub record Knows (t : Tables) (K : Knowledge) : Type 0 where
  pub stands : Stands t K
  pub started : IsStarted (site_of t) K

-- they are those of a site that is up
abbrev pub IsStanding : Tables → Type 0
IsStanding t = (K : Knowledge) × Knows t K

-- a site that is up and knows this, and owes no client the news of a transaction that was lost
abbrev pub up_with : Knowledge → Standing
up_with K = record unmade { up = true; knows = K }

-- what is to come of an input there, over a journal whose header names this format
abbrev pub input_rule : Format → Catalog → SiteId → Knowledge → Input → Expected
input_rule header catalog i K input = given_rule header catalog i (up_with K) input

-- a packet that can be spelled, of a site among so many
pub record IsSizedPacket (sites : ℕ) (packet : Packet) : Type 0 where
  pub sizes : CanBeSent packet
  pub among : IsAmong sites packet

-- the packet that comes is so
abbrev pub IsSizedInput : ℕ → Input → Type 0
IsSizedInput sites input = IfDelivery (λ from number packet. IsSizedPacket sites packet) (Given input)

-- the reply, if it is one, is short
abbrev pub IsShortOutcome : Outcome → Type 0
IsShortOutcome (Replied reply) = IsShortReply reply
IsShortOutcome outcome = Unit {0}
