-- The merge of the trails of all sites: their entries by stamp, and those of one stamp by site. And which trails are
-- linked.
use Rattle.std.specs.Prelude.{◌≡◌, ℕ, ◌+◌, ◌<◌, nat_eq, nat_lt, nat_le, max, Bool, ◌&&◌, ◌||◌, List, [], ◌∷◌, ◌++◌, map, flat_map, filter_map, slice_get, slice_index_or, take, reverse, Some, None, if◌then◌else◌}
use Rattle.walter_base.specs.declared.names.SiteId.{SiteId}
use Rattle.walter_base.specs.declared.packet.Packet.{Packet}
use Rattle.walter_base.specs.Names.{same_site}
use Rattle.walter_rules.specs.declared.entry.Entry.{Entry}
use Rattle.walter_rules.specs.declared.event.Event.TheVariants.{Given}
use Rattle.walter_rules.specs.declared.event.Input.TheVariants.{Deliver}
use Rattle.walter_rules.specs.Sending.{Send}
use Rattle.walter_rules.specs.Trails.{clock}

-- an entry with its site
abbrev pub Named : Type 0
Named = SiteId × Entry

-- the entries of a site
abbrev pub entries_of : SiteId → List Named → List Entry
entries_of i [] = []
entries_of i (n ∷ ns) = if same_site i n.0 then n.1 ∷ entries_of i ns else entries_of i ns

-- the entries of all trails, each with its site, from this site on
abbrev pub named_from : ℕ → List (List Entry) → List Named
named_from i [] = []
named_from i (trail ∷ trails) = map (λ e. (record { 0 = i }, e)) trail ++ named_from (i + 1) trails

-- whether an entry comes before another: by stamp, then by site
abbrev pub precedes : Named → Named → Bool
precedes a b = nat_lt a.1.stamp b.1.stamp || (nat_eq a.1.stamp b.1.stamp && nat_le a.0.0 b.0.0)

-- the list with one more in its place
abbrev pub placed : Named → List Named → List Named
placed n [] = n ∷ []
placed n (m ∷ ms) = if precedes n m then n ∷ m ∷ ms else m ∷ placed n ms

abbrev pub in_order : List Named → List Named
in_order [] = []
in_order (n ∷ ns) = placed n (in_order ns)

-- the merge of the trails of the sites 0, 1 and so on: all their entries, by stamp and then by site
abbrev pub merge : List (List Entry) → List Named
merge trails = in_order (named_from 0 trails)

-- a packet with the stamp of the entry that put it out
abbrev pub Stamped : Type 0
Stamped = ℕ × Packet

-- what an entry puts out to a site, and what all entries of a trail do, in order
abbrev pub sent_to : SiteId → Entry → List Stamped
sent_to i e = filter_map (λ (s : Send). if same_site s.0 i then Some (e.stamp, s.1) else None) e.came.sends

abbrev pub put_out_to : SiteId → List Entry → List Stamped
put_out_to i trail = flat_map (sent_to i) trail

-- the trail of a site
abbrev pub trail_of : List (List Entry) → SiteId → List Entry
trail_of trails j = slice_index_or trails j.0 []

-- a delivered packet is the one of its number among those that its sender put out to the site, by an entry of a lower
-- stamp, and the stamp of its delivery is the next behind that one and behind the entry before
pub record IsLinked (trails : List (List Entry)) (i j : SiteId) (number : ℕ) (packet : Packet)
    (last stamp : ℕ) : Type 0 where
  pub before : ℕ
  pub number_is : number ≡ before + 1
  pub put : ℕ
  pub source : slice_get (put_out_to i (trail_of trails j)) before ≡ Some (put, packet)
  pub lower : put < stamp
  pub next : stamp ≡ max last put + 1

-- so it is with each delivery of each trail
abbrev pub AreLinked : List (List Entry) → Type 0
AreLinked trails =
    (i : SiteId) (place : ℕ) (e : Entry) (j : SiteId) (number : ℕ) (packet : Packet)
    → slice_get (trail_of trails i) place ≡ Some e → e.event ≡ Given (Deliver j number packet)
    → IsLinked trails i j number packet (clock (reverse (take place (trail_of trails i)))) e.stamp
