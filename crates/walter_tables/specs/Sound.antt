-- What holds of what a site knows, by its records and by what was heard, whatever tables keep it.
use Rattle.std.specs.Prelude.{◌≡◌, ◌≢◌, ◌≤◌, ℕ, List, [], length, map, All, IsTrue, None}
use Rattle.walter_base.specs.declared.catalog.Catalog.{Catalog}
use Rattle.walter_base.specs.declared.names.SiteId.{SiteId}
use Rattle.walter_base.specs.declared.packet.Answer.{Answer}
use Rattle.walter_base.specs.declared.packet.Answer.TheVariants.{Yes, No, Later}
use Rattle.walter_base.specs.declared.packet.Packet.{Packet}
use Rattle.walter_base.specs.declared.packet.Packet.TheVariants.{Propagate, Ack, Dsmark, Visible, Prepare, Vote, Release, Released}
use Rattle.walter_base.specs.declared.transaction.Tx.{Tx}
use Rattle.walter_base.specs.Sizes.{CanBeSpelled}
use Rattle.walter_rules.specs.declared.event.Event.{Event}
use Rattle.walter_rules.specs.declared.event.Event.TheVariants.{Given}
use Rattle.walter_rules.specs.declared.event.Input.TheVariants.{Deliver}
use Rattle.walter_rules.specs.declared.held.Held.{Held}
use Rattle.walter_rules.specs.declared.outcome.Outcome.{Outcome}
use Rattle.walter_rules.specs.declared.outcome.Outcome.TheVariants.{Taken}
use Rattle.walter_rules.specs.Declarations.{are_declared}
use Rattle.walter_rules.specs.Knowledge.{Knowledge, from_to}
use Rattle.walter_rules.specs.Log.{of_site}
use Rattle.walter_rules.specs.Slow.{Slow, Unused, Undecided, Dropped}
use Rattle.walter_alone.proofs.Learned.{IsLearned}

-- a transaction that can be journaled and sent: it has a spelling, its snapshot has a number for each site, and the
-- catalog has what it changes
pub record IsTxOf (catalog : Catalog) (tx : Tx) : Type 0 where
  pub spelled : CanBeSpelled tx
  pub sites : length tx.start ≡ catalog.sites
  pub declared : IsTrue (are_declared catalog tx.updates)

abbrev pub HoldsTx : Catalog → Held → Type 0
HoldsTx catalog h = IsTxOf catalog h.tx

-- an own slow commit that was never begun, and of which nothing was heard
pub record IsUnheard (K : Knowledge) (n : ℕ) : Type 0 where
  pub unused : K.slow n ≡ Unused
  pub yes : K.said_yes n ≡ []
  pub no : K.said_no n ≡ None
  pub released : K.said_released n ≡ []

-- one that is being decided: its number is n, and no NO was heard, and no RELEASED
pub record IsAsking (catalog : Catalog) (K : Knowledge) (n : ℕ) (tx : Tx) : Type 0 where
  pub named : tx.slow ≡ n
  pub is : IsTxOf catalog tx
  pub no : K.said_no n ≡ None
  pub released : K.said_released n ≡ []

pub record IsSound (catalog : Catalog) (i : SiteId) (K : Knowledge) : Type 0 where
  pub learned : IsLearned catalog i K
  -- the own commits are counted, and can be sent, as can those received
  pub counted : length (of_site i K.log) ≡ K.committed i
  -- what is committed was received, and what is held of each site has the numbers from 1 on
  pub received : (j : SiteId) → K.committed j ≤ K.got j
  pub numbered : (j : SiteId) → map (λ h. h.seq) (of_site j K.log) ≡ from_to 1 (K.got j)
  pub held : All (HoldsTx catalog) K.log
  -- own slow commits are those of the numbers that were given
  pub begun : (n : ℕ) → 1 ≤ n → n ≤ K.last → K.slow n ≢ Unused
  pub ahead : (n : ℕ) → ((1 ≤ n) × (n ≤ K.last) → ⊥) → IsUnheard K n
  pub asking : (n : ℕ) (tx : Tx) (asked : List SiteId) → K.slow n ≡ Undecided tx asked → IsAsking catalog K n tx

-- what is taken of what a peer said is of a slow commit that was begun: a YES of any such, a NO and a RELEASED of one that
-- ended without a commit
abbrev pub HasDropped : Slow → Type 0
HasDropped g = (tx : Tx) × (asked : List SiteId) × (g ≡ Dropped tx asked)

abbrev pub IsVoteOf : Slow → Answer → Type 0
IsVoteOf g Yes = g ≢ Unused
IsVoteOf g (No conflict) = HasDropped g
IsVoteOf g Later = ⊥

abbrev pub IsSaidOf : (ℕ → Slow) → Packet → Type 0
IsSaidOf slow (Vote n answer) = IsVoteOf (slow n) answer
IsSaidOf slow (Released n) = HasDropped (slow n)
IsSaidOf slow (Propagate seq tx) = Unit {0}
IsSaidOf slow (Ack got) = Unit {0}
IsSaidOf slow (Dsmark durable) = Unit {0}
IsSaidOf slow (Visible committed) = Unit {0}
IsSaidOf slow (Prepare n tid start objects) = Unit {0}
IsSaidOf slow (Release n) = Unit {0}

abbrev pub IsHeardOf : (ℕ → Slow) → Event → Outcome → Type 0
IsHeardOf slow (Given (Deliver from number packet)) Taken = IsSaidOf slow packet
IsHeardOf slow event outcome = Unit {0}
