-- What a peer says that is taken.
use Rattle.std.specs.Prelude.{◌≡◌, ◌⊎◌, ◌≤◌, ℕ, true, List}
use Rattle.walter_base.specs.declared.names.SiteId.{SiteId}
use Rattle.walter_base.specs.declared.packet.Answer.{Answer}
use Rattle.walter_base.specs.declared.packet.Answer.TheVariants.{Yes, No, Later}
use Rattle.walter_base.specs.declared.packet.Packet.{Packet}
use Rattle.walter_base.specs.declared.packet.Packet.TheVariants.{Propagate, Ack, Dsmark, Visible, Prepare, Vote, Release, Released}
use Rattle.walter_base.specs.declared.transaction.Tx.{Tx}
use Rattle.walter_rules.specs.Knowledge.{Knowledge}
use Rattle.walter_rules.specs.Slow.{Undecided, Dropped, Decided}
use Rattle.walter_slow.specs.Sites.{is_missing}
use Rattle.walter_tables.specs.Sound.{HasDropped}

-- the slow commit is being decided, and the YES of the site is missing; or that YES has just decided it
abbrev pub IsYesOf : Knowledge → SiteId → ℕ → Type 0
IsYesOf K j n = ((tx : Tx) × (asked : List SiteId) × (K.slow n ≡ Undecided tx asked) × (is_missing j asked (K.said_yes n) ≡ true))
    ⊎ ((tx : Tx) × (K.slow n ≡ Decided tx))

-- a vote is a YES that is missing, or the NO that has just ended the slow commit; who is to be asked again has not voted
abbrev pub IsVoteFor : Knowledge → SiteId → ℕ → Answer → Type 0
IsVoteFor K j n Yes = IsYesOf K j n
IsVoteFor K j n (No conflict) = HasDropped (K.slow n)
IsVoteFor K j n Later = ⊥

-- a RELEASED is one that is missing
abbrev pub IsReleasedBy : Knowledge → SiteId → ℕ → Type 0
IsReleasedBy K j n = (tx : Tx) × (asked : List SiteId) × (K.slow n ≡ Dropped tx asked)
    × (is_missing j asked (K.said_released n) ≡ true)

-- numbers of own commits that there are, votes and RELEASEDs that are missing
abbrev pub IsNewsOf : SiteId → Knowledge → SiteId → Packet → Type 0
IsNewsOf i K j (Ack got) = got ≤ K.committed i
IsNewsOf i K j (Visible committed) = committed ≤ K.committed i
IsNewsOf i K j (Vote n answer) = IsVoteFor K j n answer
IsNewsOf i K j (Released n) = IsReleasedBy K j n
IsNewsOf i K j (Propagate seq tx) = Unit {0}
IsNewsOf i K j (Dsmark durable) = Unit {0}
IsNewsOf i K j (Prepare n tid start objects) = Unit {0}
IsNewsOf i K j (Release n) = Unit {0}
