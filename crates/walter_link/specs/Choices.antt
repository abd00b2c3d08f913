-- What becomes of the packets that arrive at a site, by the words of generators (docs/FORMATS.md, "The link").
use Rattle.std.specs.Prelude.{ℕ, zero, suc, ◌+◌, ◌*◌, ◌%◌, nat_lt, Bool, false, if◌then◌else◌}
use Rattle.rand_pcg.specs.Lcg.{Lcg, started, increment_of}
use Rattle.rand_pcg.specs.Pcg.{multiplier_64, pcg32}
use Rattle.walter_base.specs.declared.names.SiteId.{SiteId}
use Rattle.walter_link.specs.declared.chooser.Choice.{Choice}
use Rattle.walter_link.specs.declared.chooser.Rates.{Rates}

-- the generator of what comes to a site from another, before its first word
abbrev pub chooser_of : ℕ → (to from : SiteId) → Lcg
chooser_of seed to from = started 64 multiplier_64 seed (increment_of 64 (16 * to.0 + from.0))

-- the word that a generator gives next, and the generator behind it
abbrev pub word : Lcg → ℕ
word g = (pcg32 g).0

abbrev pub next : Lcg → Lcg
next g = (pcg32 g).1

-- a word says so at this rate of 1,000
abbrev pub falls : ℕ → ℕ → Bool
falls word rate = nat_lt (word % 1000) rate

-- a packet that is lost is put nowhere
abbrev pub lost : Choice
lost = record { copies = 0; front = false }

-- what three words say of a packet: it is lost by the first, comes twice by the second, and to the front by the third
abbrev pub choice_by : Rates → (a b c : ℕ) → Choice
choice_by rates a b c =
    if falls a rates.lose then lost
    else record { copies = if falls b rates.repeat then 2 else 1; front = falls c rates.swap }

-- what becomes of the next packet, and the generator behind its three words
abbrev pub choice_of : Rates → Lcg → Choice
choice_of rates g = choice_by rates (word g) (word (next g)) (word (next (next g)))

abbrev pub behind : Lcg → Lcg
behind g = next (next (next g))

-- behind so many packets
abbrev pub behind_all : ℕ → Lcg → Lcg
behind_all zero g = g
behind_all (suc n) g = behind_all n (behind g)

-- how often the packet of this number, from 1, that arrives at a site from another is put into the site's queue
abbrev pub copies : ℕ → Rates → (to from : SiteId) → ℕ → ℕ
copies seed rates to from zero = 0
copies seed rates to from (suc before) = (choice_of rates (behind_all before (chooser_of seed to from))).copies
