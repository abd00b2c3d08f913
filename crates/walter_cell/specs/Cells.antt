-- What contracts see of a cell, what holds of it between two events, and what its calls come to.
use Rattle.std.specs.Prelude.{◌≡◌, ◌≢◌, ◌≤◌, ◌+◌, ◌⊎◌, ℕ, true, Option, Some, None, All}
use Rattle.std.specs.Prelude.{List, length, reverse}
use Rattle.walter_base.specs.declared.catalog.Catalog.{Catalog}
use Rattle.walter_base.specs.declared.format.Format.{Format}
use Rattle.walter_base.specs.declared.names.SiteId.{SiteId}
use Rattle.walter_base.specs.declared.packet.Packet.{Packet}
use Rattle.walter_conn.specs.Frames.{Call}
use Rattle.walter_conn.specs.Sequences.{AreCalls, EndWhole, EndCut}
use Rattle.walter_disk.specs.declared.disk.Disk.{Ghosts}
use Rattle.walter_lane.specs.Lanes.{Sending, Receiving}
use Rattle.walter_lane.specs.declared.posted.Posted.{Posted}
use Rattle.walter_machine.specs.Posts.{of_number, stamp_behind}
use Rattle.walter_packet.specs.Framed.{IsFramed}
use Rattle.walter_rules.specs.declared.entry.Entry.{Entry}
use Rattle.walter_rules.specs.declared.event.Event.{Event}
use Rattle.walter_rules.specs.declared.event.Event.TheVariants as event
use Rattle.walter_rules.specs.declared.event.Input.TheVariants as input
use Rattle.walter_rules.specs.Kinds.{IfCall}
use Rattle.walter_trail.specs.Calls.{calls_of}
use Rattle.walter_cell.specs.declared.answers.Acted.{Acted}
use Rattle.walter_cell.specs.declared.answers.Acted.TheVariants as acted
use Rattle.walter_cell.specs.declared.answers.Moved.{Moved}
use Rattle.walter_cell.specs.declared.answers.Moved.TheVariants as moved
use Rattle.walter_cell.specs.declared.answers.Serve.{Serve}
use Rattle.walter_cell.specs.declared.answers.Serve.TheVariants as serve
use Rattle.walter_cell.specs.Entries.{IsSpent, HasPlace, Grows}
use Rattle.walter_outbox.specs.Lanes.{arrived_from, put_to, in_rings, mets, met_to, AreNext}
use Rattle.walter_cell.specs.Builds.{HasOpened}
use Rattle.walter_cell.specs.Nodes.{NodeValue, KeepsNode, IsSameButLanes, MayCall, MayDrop, arms_under, calls_under, capacity_of, is_told}
use Rattle.walter_cell.specs.Lines.{LineValue, is_here, IsLineAt}
use Rattle.walter_cell.specs.Written.{AreWrittenAt}

-- ---- cells

-- the site with its trail and its lanes to all sites; the ends of the lanes from them; and the connections of its
-- clients, by the clients' numbers
pub record CellValue (D : Type 0) : Type 0 where
  pub node : NodeValue D
  pub ins : List Receiving
  pub lines : List (Option LineValue)

module _ {D : Type 0} where
  -- There is a lane from each site, and each packet that was delivered had arrived; each call in the trail is of a client
  -- that is here.
  pub record IsCell (cell : CellValue D) : Type 0 where
    pub ins : length cell.ins ≡ cell.node.catalog.sites
    pub next : AreNext cell.node.site cell.ins (reverse cell.node.trail)
    pub calls : All (λ e. IfCall (λ client call. is_here cell.lines client ≡ true) e.event) cell.node.trail

  -- its trail is as before
  abbrev pub HasSameTrail : (old new : CellValue D) → Type 0
  HasSameTrail old new = new.node.trail ≡ old.node.trail

  module _ (g : Ghosts D) where
    -- What each call keeps: the site, its lanes, what has arrived, and its clients. Of the bytes of a client the calls in the trail were
    -- read, where they were; and what it is sent are the replies to its calls in the trail, behind what was there.
    pub record Keeps (old new : CellValue D) : Type 0 where
      pub node : KeepsNode g old.node new.node
      pub ins : in_rings new.ins ≡ in_rings old.ins
      pub more : (from : ℕ) → length (arrived_from old.ins from) ≤ length (arrived_from new.ins from)
      pub here : (client : ℕ) → is_here new.lines client ≡ is_here old.lines client
      pub connected : (client : ℕ) (bytes : List ℕ) → IsLineAt bytes (calls_of client old.node.trail) old.lines client
          → IsLineAt bytes (calls_of client new.node.trail) new.lines client
      pub answered : (client : ℕ) (first : List ℕ) → AreWrittenAt first client old.node.trail old.lines
          → AreWrittenAt first client new.node.trail new.lines

    -- What a call keeps that may let an event come: nothing arrives, and nothing is armed. Where the disk tells what it
    -- holds, the calls of it are the event's, and only what finds its lane full is dropped.
    pub record Proceeds (old new : CellValue D) : Type 0 where
      pub keeps : Keeps old new
      pub ins : new.ins ≡ old.ins
      pub same_mets : mets new.node.outs ≡ mets old.node.outs
      pub arms : arms_under g new.node.disk ≡ arms_under g old.node.disk
      pub calls : is_told g old.node.disk ≡ true
          → MayCall (capacity_of old.node.layout) old.node.catalog old.node.site old.node.trail new.node.trail
          (calls_under g old.node.disk) (calls_under g new.node.disk)
      pub drops : is_told g old.node.disk ≡ true
          → MayDrop old.node.catalog old.node.site (met_to old.node.outs) old.node.trail new.node.trail

  -- a site began over this disk with these ends of its lanes and these connections
  pub record HasBegun (g : Ghosts D) (catalog : Catalog) (capacity areas : ℕ) (header : Format) (i : SiteId) (disk : D)
      (outs : List Sending) (ins : List Receiving) (lines : List (Option LineValue)) (cell : CellValue D) : Type 0 where
    pub node : HasOpened g catalog capacity areas header i disk outs cell.node
    pub ins_are : cell.ins ≡ ins
    pub lines_are : cell.lines ≡ lines

  -- All that the sender has put for the receiver may have arrived, and nothing else changed. Where what had arrived was
  -- all that had been put when the ends of the lane last met, it is so again.
  pub record HaveMet (to from : ℕ) (old sender new sender' : CellValue D) : Type 0 where
    pub node : new.node ≡ old.node
    pub lines : new.lines ≡ old.lines
    pub other : (j : ℕ) → j ≢ from → arrived_from new.ins j ≡ arrived_from old.ins j
    pub sender_node : IsSameButLanes sender.node sender'.node
    pub sender_ins : sender'.ins ≡ sender.ins
    pub sender_lines : sender'.lines ≡ sender.lines
    pub put : (k : ℕ) → put_to sender'.node.outs k ≡ put_to sender.node.outs k
    pub other_mets : (k : ℕ) → k ≢ to → met_to sender'.node.outs k ≡ met_to sender.node.outs k
    pub met : met_to sender.node.outs to ≡ length (arrived_from old.ins from)
        → met_to sender'.node.outs to ≡ length (arrived_from new.ins from)

-- ---- what calls of a cell come to

-- the next call of a client comes to the trail
abbrev pub CallComes : ℕ → List ℕ → List Entry → List Entry → Type 0
CallComes client bytes old new = (call : Call) × (rest : List ℕ) × Grows (event.Given (input.Call client call)) old new
    × AreCalls bytes (calls_of client new) rest

-- what a client's turn comes to: the trail is spent; or all calls of its bytes are made, and nothing is behind them; or
-- all are made, and a frame is begun; or its next call comes to the trail; or, where its connection has failed, that or
-- nothing
abbrev pub TurnsTo : ℕ → List ℕ → ℕ → (fault : Type 0) → List Entry → List Entry → Serve → Type 0
TurnsTo client bytes clock fault old new serve.Spent = IsSpent (clock + 1) old × (new ≡ old)
TurnsTo client bytes clock fault old new serve.Ended =
    HasPlace (clock + 1) old × EndWhole bytes (calls_of client old) × (new ≡ old)
TurnsTo client bytes clock fault old new serve.Broken =
    HasPlace (clock + 1) old × ((EndCut bytes (calls_of client old) × (new ≡ old))
    ⊎ (fault × ((new ≡ old) ⊎ CallComes client bytes old new)))
TurnsTo client bytes clock fault old new serve.Served =
    HasPlace (clock + 1) old × CallComes client bytes old new

-- what an event that brings nothing comes to: the trail is spent, or has one more entry of it
abbrev pub Acts : Event → ℕ → List Entry → List Entry → Acted → Type 0
Acts event clock old new acted.Spent = IsSpent (clock + 1) old × (new ≡ old)
Acts event clock old new acted.Did = HasPlace (clock + 1) old × Grows event old new

-- the packet of a number that has arrived from a site, if it has
abbrev pub arrival : List Receiving → SiteId → ℕ → Option Posted
arrival ins j number = of_number number (arrived_from ins j.0)

-- the stamp that its delivery would have
abbrev pub stamp_of_arrival : ℕ → Option Posted → ℕ
stamp_of_arrival clock None = clock + 1
stamp_of_arrival clock (Some post) = stamp_behind clock post.stamp

-- no packet of this number has arrived that is one among so many sites
abbrev pub IsMissing : ℕ → Option Posted → Type 0
IsMissing sites None = Unit {0}
IsMissing sites (Some post) = post.framed.sites ≢ sites

-- what a delivery comes to: the trail is spent; or nothing has arrived; or it comes to the trail
abbrev pub MovesTo : SiteId → ℕ → Option Posted → ℕ → ℕ → List Entry → List Entry → Moved → Type 0
MovesTo j number post sites clock old new moved.Spent = IsSpent (stamp_of_arrival clock post) old × (new ≡ old)
MovesTo j number post sites clock old new moved.Nothing =
    HasPlace (stamp_of_arrival clock post) old × IsMissing sites post × (new ≡ old)
MovesTo j number post sites clock old new moved.Did =
    HasPlace (stamp_of_arrival clock post) old × ((there : Posted) × (packet : Packet) × (post ≡ Some there)
    × IsFramed there.framed packet × Grows (event.Given (input.Deliver j number packet)) old new)
