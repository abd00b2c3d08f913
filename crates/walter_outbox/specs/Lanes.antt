-- The lanes of a site: what it has put on those to the other sites, and what has arrived on those from them.
use Rattle.std.specs.Prelude.{◌≡◌, ◌≢◌, ◌+◌, ◌<◌, ◌≤◌, ◌⊎◌, nat_eq, max, ℕ, Bool, true, false, List, [], ◌∷◌, ◌++◌, length, map, filter_map, slice_get, slice_index_or, Some, None, if◌then◌else◌}
use denote.RawPtr.{null_ptr}
use Rattle.walter_base.specs.declared.names.SiteId.{SiteId}
use Rattle.walter_base.specs.declared.packet.Packet.{Packet}
use Rattle.walter_base.specs.Names.{same_site}
use Rattle.walter_lane.specs.Lanes.{Sending, Receiving}
use Rattle.walter_lane.specs.Rings.{Ring}
use Rattle.walter_lane.specs.declared.posted.Posted.{Posted}
use Rattle.walter_packet.specs.Framed.{frame_of, IsFramed}
use Rattle.walter_rules.specs.declared.entry.Entry.{Entry}
use Rattle.walter_rules.specs.declared.event.Event.{Event}
use Rattle.walter_rules.specs.declared.event.Event.TheVariants.{Given, Stop, Restart}
use Rattle.walter_rules.specs.declared.event.Input.TheVariants.{Call, Deliver, Advance, Tick, Upgrade}
use Rattle.walter_rules.specs.Knowledge.{site_at}
use Rattle.walter_rules.specs.Merges.{Stamped, put_out_to}
use Rattle.walter_rules.specs.Sending.{Send}
use Rattle.walter_rules.specs.Trails.{clock, lane_places, carried_one}

-- ---- the ends of lanes, by the numbers of the sites

abbrev pub no_ring : Ring
no_ring = record { words = null_ptr; slots = null_ptr; names = (0, (0, 0)) }

abbrev pub out_rings : List Sending → List Ring
out_rings outs = map (λ (s : Sending). s.ring) outs

abbrev pub in_rings : List Receiving → List Ring
in_rings ins = map (λ (r : Receiving). r.ring) ins

abbrev pub ring_to : List Sending → ℕ → Ring
ring_to outs to = slice_index_or (out_rings outs) to no_ring

abbrev pub ring_from : List Receiving → ℕ → Ring
ring_from ins from = slice_index_or (in_rings ins) from no_ring

-- what was put for a site, and what has arrived from one
abbrev pub put_to : List Sending → ℕ → List Posted
put_to outs to = slice_index_or (map (λ (s : Sending). s.put) outs) to []

abbrev pub arrived_from : List Receiving → ℕ → List Posted
arrived_from ins from = slice_index_or (map (λ (r : Receiving). r.arrived) ins) from []

-- how many packets were put for each site when the two ends of its lane last met
abbrev pub mets : List Sending → List ℕ
mets outs = map (λ (s : Sending). s.met) outs

abbrev pub met_to : List Sending → ℕ → ℕ
met_to outs to = slice_index_or (mets outs) to 0

-- ---- what is put on lanes

-- how many packets a lane carries at most
abbrev pub most_packets : ℕ
most_packets = 4294967295

-- a lane that has carried so many is full: 1,024 of them were put since its ends last met, or it carries no more
abbrev pub IsFull : (met carried : ℕ) → Type 0
IsFull met carried = (met + lane_places ≤ carried) ⊎ (carried ≡ most_packets)

-- Of what is to be put out, all is, in order, but what finds its lane full, which is counted.
pub data IsPutWhereFree (met : ℕ → ℕ) : (SiteId → ℕ) → List Send → List Send → ℕ → Type 0 where
  none_left : (carried : SiteId → ℕ) → IsPutWhereFree met carried [] [] 0
  goes_out : (carried : SiteId → ℕ) (send : Send) (planned sends : List Send) (dropped : ℕ)
      → IsPutWhereFree met (carried_one send.0 carried) planned sends dropped
      → IsPutWhereFree met carried (send ∷ planned) (send ∷ sends) dropped
  finds_full : (carried : SiteId → ℕ) (send : Send) (planned sends : List Send) (dropped : ℕ)
      → IsFull (met send.0.0) (carried send.0) → IsPutWhereFree met carried planned sends dropped
      → IsPutWhereFree met carried (send ∷ planned) sends (dropped + 1)

-- a packet with its stamp, as it lies on a lane among so many sites
abbrev pub posted : ℕ → Stamped → Posted
posted sites s = record { stamp = s.0; framed = frame_of sites s.1 }

-- those of the packets that go to a site, with this stamp
abbrev pub stamped_to : ℕ → SiteId → List Send → List Stamped
stamped_to stamp i sends = filter_map (λ (s : Send). if same_site s.0 i then Some (stamp, s.1) else None) sends

-- how many packets were put for each site
abbrev pub carried_by : List Sending → SiteId → ℕ
carried_by outs k = length (put_to outs k.0)

-- a packet was put for a site
pub record HavePutOne (outs new : List Sending) (to : ℕ) (post : Posted) : Type 0 where
  pub rings : out_rings new ≡ out_rings outs
  pub same_mets : mets new ≡ mets outs
  pub each : (k : ℕ) → k < length outs → put_to new k ≡ put_to outs k ++ (if nat_eq to k then post ∷ [] else [])

-- so it is; or the lane to that site is full, and nothing changed
abbrev pub IsPut : (outs new : List Sending) → ℕ → Posted → Bool → Type 0
IsPut outs new to post true = HavePutOne outs new to post
IsPut outs new to post false = (new ≡ outs) × IsFull (met_to outs to) (length (put_to outs to))

-- these packets were put, each for its site, in order
pub record HavePutMore (sites stamp : ℕ) (outs new : List Sending) (sends : List Send) : Type 0 where
  pub rings : out_rings new ≡ out_rings outs
  pub same_mets : mets new ≡ mets outs
  pub each : (k : ℕ) → k < length outs
      → put_to new k ≡ put_to outs k ++ map (posted sites) (stamped_to stamp (site_at k) sends)

-- for each of so many sites all was put that the trail puts out to it, in order
pub record HavePut (sites : ℕ) (trail : List Entry) (outs : List Sending) : Type 0 where
  pub long : length outs ≡ sites
  pub each : (k : ℕ) → k < sites → put_to outs k ≡ map (posted sites) (put_out_to (site_at k) trail)

-- ---- what arrives

-- a packet is the one of its number among those that have arrived from another site; the stamp of its delivery is the
-- next behind that one's and behind the clock
pub record IsArrival (i : SiteId) (ins : List Receiving) (j : SiteId) (number : ℕ) (packet : Packet)
    (clock stamp : ℕ) : Type 0 where
  pub apart : j ≢ i
  pub before : ℕ
  pub number_is : number ≡ before + 1
  pub post : Posted
  pub there : slice_get (arrived_from ins j.0) before ≡ Some post
  pub framed : IsFramed post.framed packet
  pub next : stamp ≡ max clock post.stamp + 1

-- the stamp of an event is the next behind the clock, and a packet that it brings has arrived
abbrev pub IsNext : SiteId → List Receiving → Event → (clock stamp : ℕ) → Type 0
IsNext i ins (Given (Call client call)) clock stamp = stamp ≡ clock + 1
IsNext i ins (Given (Deliver j number packet)) clock stamp = IsArrival i ins j number packet clock stamp
IsNext i ins (Given (Advance j)) clock stamp = stamp ≡ clock + 1
IsNext i ins (Given Tick) clock stamp = stamp ≡ clock + 1
IsNext i ins (Given Upgrade) clock stamp = stamp ≡ clock + 1
IsNext i ins Stop clock stamp = stamp ≡ clock + 1
IsNext i ins Restart clock stamp = stamp ≡ clock + 1

-- so it is with each entry; the newest comes first
abbrev pub AreNext : SiteId → List Receiving → List Entry → Type 0
AreNext i ins [] = Unit {0}
AreNext i ins (e ∷ older) = AreNext i ins older × IsNext i ins e.event (clock older) e.stamp
