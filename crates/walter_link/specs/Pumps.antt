-- What waits at a site that is pumped, and what comes to it as packets arrive (docs/FORMATS.md, "The link").
use Rattle.std.specs.Prelude.{◌≡◌, ◌≢◌, ◌<◌, ◌≤◌, ◌+◌, ◌-◌, ℕ, zero, suc, List, [], ◌∷◌, ◌++◌, All, length, map, replicate, set, slice_get, Option, Some, None, Bool, true, false}
use Rattle.std.specs.List.{range_with_len}
use Rattle.walter_base.specs.declared.names.SiteId.{SiteId}
use Rattle.walter_base.specs.Names.{same_site}
use Rattle.walter_link.specs.declared.chooser.Choice.{Choice}
use Rattle.walter_link.specs.declared.chooser.Link.{Link}
use Rattle.walter_link.specs.declared.chooser.Rates.{Rates}
use Rattle.walter_link.specs.declared.pump.Sender.{Sender}
use Rattle.walter_link.specs.declared.pump.Waiting.{Waiting}
use Rattle.walter_link.specs.Choices.{chooser_of, choice_of, behind}

-- the site, and by which rates is chosen; of each site how many of its packets were taken, with what chooses of the next;
-- the packets that wait, the first in front; and how many ticks are left
pub record PumpValue : Type 0 where
  pub site : SiteId
  pub rates : Rates
  pub senders : List Sender
  pub waiting : List Waiting
  pub ticks : ℕ

abbrev pub count_in : Option Sender → ℕ
count_in None = 0
count_in (Some sender) = sender.taken

-- how many packets of a site were taken
abbrev pub taken_from : PumpValue → ℕ → ℕ
taken_from pump from = count_in (slice_get pump.senders from)

-- the packet is of another site, and was taken
pub record HasTaken (pump : PumpValue) (waiting : Waiting) : Type 0 where
  pub there : waiting.from.0 < length pump.senders
  pub apart : waiting.from ≢ pump.site
  pub first : 0 < waiting.number
  pub taken : waiting.number ≤ taken_from pump waiting.from.0

-- each that waits was taken
abbrev pub IsPump : PumpValue → Type 0
IsPump pump = All (HasTaken pump) pump.waiting

-- before anything has come
abbrev pub new_sender : Link → SiteId → ℕ → Sender
new_sender link site from = record { chooser = chooser_of link.seed site (record { 0 = from }); taken = 0 }

abbrev pub new_pump : Link → SiteId → (sites ticks : ℕ) → PumpValue
new_pump link site sites ticks = record {
  site = site;
  rates = link.rates;
  senders = map (new_sender link site) (range_with_len 0 sites);
  waiting = [];
  ticks = ticks;
}

-- in front of those that wait, or behind them
abbrev pub put_first : Bool → Waiting → List Waiting → List Waiting
put_first true packet waiting = packet ∷ waiting
put_first false packet waiting = waiting ++ packet ∷ []

-- a packet that isn't lost is put in front or behind, and once more behind where it comes twice
abbrev pub put_copies : ℕ → Waiting → (waiting placed : List Waiting) → List Waiting
put_copies zero packet waiting placed = waiting
put_copies (suc more) packet waiting placed = placed ++ replicate more packet

abbrev pub put_in : Choice → Waiting → List Waiting → List Waiting
put_in choice packet waiting = put_copies choice.copies packet waiting (put_first choice.front packet waiting)

-- behind one more packet of a sender, and behind so many
abbrev pub behind_one : Sender → Sender
behind_one sender = record { chooser = behind sender.chooser; taken = sender.taken + 1 }

abbrev pub sender_behind : ℕ → Sender → Sender
sender_behind zero sender = sender
sender_behind (suc more) sender = sender_behind more (behind_one sender)

-- the next so many packets of a sender are put in, one after another
abbrev pub put_all : ℕ → Rates → SiteId → Sender → List Waiting → List Waiting
put_all zero rates from sender waiting = waiting
put_all (suc more) rates from sender waiting = put_all more rates from (behind_one sender)
    (put_in (choice_of rates sender.chooser) (record { from = from; number = sender.taken + 1 }) waiting)

-- all are taken that have arrived and weren't taken before, where so many have arrived in all
abbrev pub take_of : SiteId → ℕ → PumpValue → Option Sender → PumpValue
take_of from arrived pump None = pump
take_of from arrived pump (Some sender) = record pump {
  senders = set pump.senders from.0 (sender_behind (arrived - sender.taken) sender);
  waiting = put_all (arrived - sender.taken) pump.rates from sender pump.waiting;
}

abbrev pub take_up_to : SiteId → ℕ → PumpValue → PumpValue
take_up_to from arrived pump = take_of from arrived pump (slice_get pump.senders from.0)

-- of another site than this; of the first so many sites, one after another; and of all. So many have arrived of each
abbrev pub take_other : Bool → SiteId → ℕ → PumpValue → PumpValue
take_other true from arrived pump = pump
take_other false from arrived pump = take_up_to from arrived pump

abbrev pub take_below : SiteId → (ℕ → ℕ) → ℕ → PumpValue → PumpValue
take_below i arrived zero pump = pump
take_below i arrived (suc n) pump =
    let from : SiteId = record { 0 = n } in take_other (same_site from i) from (arrived n) (take_below i arrived n pump)

abbrev pub take_arrived : SiteId → (ℕ → ℕ) → PumpValue → PumpValue
take_arrived i arrived pump = take_below i arrived (length pump.senders) pump

-- a pump goes on: no more is taken than has arrived, where no more was
pub record KeepsPump (arrived : ℕ → ℕ) (old new : PumpValue) : Type 0 where
  pub site : new.site ≡ old.site
  pub senders : length new.senders ≡ length old.senders
  pub taken : (from : ℕ) → taken_from old from ≤ arrived from → taken_from new from ≤ arrived from
