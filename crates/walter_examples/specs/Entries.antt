-- How an entry of a trail is written out.
use Rattle.std.specs.Prelude.{ℕ, [], ◌∷◌, Some, None, Ok}
use Rattle.walter_base.specs.declared.message.Record.TheVariants.{Boot, Got, Seen}
use Rattle.walter_base.specs.declared.message.Request.{Request}
use Rattle.walter_base.specs.declared.names.ObjId.{ObjId}
use Rattle.walter_base.specs.declared.names.SiteId.{SiteId}
use Rattle.walter_base.specs.declared.names.Tid.{Tid}
use Rattle.walter_base.specs.declared.names.Version.{Version}
use Rattle.walter_base.specs.declared.packet.Packet.{Packet}
use Rattle.walter_base.specs.declared.packet.Packet.TheVariants.{Ack, Visible}
use Rattle.walter_base.specs.declared.transaction.Tx.{Tx}
use Rattle.walter_rules.specs.declared.entry.Entry.{Entry}
use Rattle.walter_rules.specs.declared.event.Event.{Event}
use Rattle.walter_rules.specs.declared.event.Event.TheVariants.{Given, Restart}
use Rattle.walter_rules.specs.declared.event.Input.TheVariants.{Call, Deliver, Advance}
use Rattle.walter_rules.specs.Calls.{Expected}
use Rattle.walter_rules.specs.Deliveries.{takes}

-- a site, and an object, by their numbers
abbrev pub site : ℕ → SiteId
site k = record { 0 = k }

abbrev pub object : ℕ → ℕ → ObjId
object container local = record { container = container; local = local }

-- the first transaction that a site starts in its first epoch, and the first commit of a site
abbrev pub first_of : ℕ → Tid
first_of k = record { site = site k; epoch = 1; number = 1 }

abbrev pub first_commit_of : ℕ → Version
first_commit_of k = record { site = site k; seq = 1 }

-- an entry of an event that came to this: no record met a fault of the disk, none was kept, and no packet was dropped
abbrev pub entry : ℕ → Event → Expected → Entry
entry stamp event came = record {
  stamp = stamp;
  event = event;
  came = record {
    outcome = came.outcome;
    kept = None;
    wrote = came.wrote;
    flight = None;
    sends =
        came.sends;
    dropped = 0;
  };
}

-- a client's call; a packet of another site, by its number among those that were put out to this one; and the next
-- commit of another site
abbrev pub called : ℕ → ℕ → Request → Expected → Entry
called stamp client request came = entry stamp (Given (Call client (Ok request))) came

abbrev pub delivered : ℕ → ℕ → ℕ → Packet → Expected → Entry
delivered stamp from number packet came = entry stamp (Given (Deliver (site from) number packet)) came

abbrev pub advanced : ℕ → ℕ → Expected → Entry
advanced stamp from came = entry stamp (Given (Advance (site from))) came

-- a site comes up for the first time
abbrev pub opening : Entry
opening = entry 1 Restart (takes (Some (Boot 1)) [])

-- the first commit of a site is received, and acknowledged to it
abbrev pub receives : ℕ → Tx → Expected
receives from tx = takes (Some (Got (site from) 1 tx)) ((site from, Ack 1) ∷ [])

-- it is committed here, and its site is told so
abbrev pub sees : ℕ → Expected
sees from = takes (Some (Seen (site from) 1)) ((site from, Visible 1) ∷ [])
