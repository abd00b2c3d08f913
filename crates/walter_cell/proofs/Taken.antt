-- A cell behind one more entry.
use Rattle.std.proofs.Common.{◌≡◌, ◌≤◌, ◌+◌, max, ℕ, length, List, [], ◌∷◌, ◌++◌, true, reverse, refl, ap, sym, ◌∙◌, subst, arith, inl, inr, Option}
use Rattle.std.specs.Prelude.{All}
use Rattle.std.proofs.lemmas.List.{reverse-append, append-nil}
use Rattle.std.proofs.lemmas.List.Concat.{flat_map-append}
use Rattle.std.proofs.lemmas.List.Elements.{All-push, All-weaker}
use Rattle.walter_base.specs.declared.names.SiteId.{SiteId}
use Rattle.walter_conn.specs.Frames.{Call as Called}
use Rattle.walter_disk.specs.declared.disk.Disk.{Ghosts}
use Rattle.walter_lane.specs.Lanes.{Receiving}
use Rattle.walter_outbox.specs.Lanes.{arrived_from, in_rings, out_rings, mets, IsNext, AreNext}
use Rattle.walter_rules.specs.declared.entry.Entry.{Entry}
use Rattle.walter_rules.specs.declared.event.Event.{Event}
use Rattle.walter_rules.specs.declared.event.Event.TheVariants.{Given}
use Rattle.walter_rules.specs.declared.event.Input.TheVariants.{Call, Deliver}
use Rattle.walter_rules.specs.declared.outcome.Outcome.{Outcome}
use Rattle.walter_rules.specs.Kinds.{IfCall}
use Rattle.walter_trail.specs.Calls.{call_by, calls_of}
use Rattle.walter_cell.specs.Cells.{CellValue, IsCell, Keeps, Proceeds}
use Rattle.walter_cell.specs.Entries.{IsPlain, IsSpent, Grows}
use Rattle.walter_cell.specs.Lines.{LineValue, is_here, IsLineAt}
use Rattle.walter_cell.specs.Nodes.{NodeValue, IsSameButRoom, IsSameButDisk, IsSameButLanes, KeepsNode, Takes, entry_by, clock_in, places_in, arms_under, calls_under, is_told}
use Rattle.walter_cell.specs.Written.{AreWritten, AreWrittenAt, framed_for, replies_to}

-- ---- events that bring nothing

pub plain_next : (i : SiteId) (ins : List Receiving) (event : Event) (last stamp : ℕ) → IsPlain event → stamp ≡ last + 1
    → IsNext i ins event last stamp
plain_next i ins (Given (Call client call)) last stamp plain is = absurd plain.0
plain_next i ins (Given (Deliver from number packet)) last stamp plain is = absurd plain.1
plain_next i ins event last stamp plain is = is

-- an event that brings nothing, or a packet, is no client's
abbrev pub IsNoCall : Event → Type 0
IsNoCall event = IfCall (λ client call. ⊥) event

pub if_call : (P Q : ℕ → Called → Type 0) (event : Event) → ((client : ℕ) (call : Called) → P client call → Q client call)
    → IfCall P event → IfCall Q event
if_call P Q (Given (Call client call)) by holds = by client call holds
if_call P Q event by holds = tt

no_call : (client : ℕ) (event : Event) → IsNoCall event → call_by client event ≡ []
no_call client (Given (Call c call)) none = absurd none
no_call client event none = refl

no_reply : (client : ℕ) (event : Event) (outcome : Outcome) → IsNoCall event → framed_for client event outcome ≡ []
no_reply client (Given (Call c call)) outcome none = absurd none
no_reply client event outcome none = refl

-- the calls of a client, and the replies to them, behind an entry that is of no client
pub calls_stay : (client : ℕ) (entries : List Entry) (e : Entry) → IsNoCall e.event
    → calls_of client (entries ++ e ∷ []) ≡ calls_of client entries
calls_stay client entries e none =
    flat_map-append (λ (z : Entry). call_by client z.event) entries (e ∷ [])
    ∙ (ap (λ xs. calls_of client entries ++ xs) (append-nil (call_by client e.event) ∙ no_call client e.event none)
    ∙ append-nil (calls_of client entries))

pub replies_stay : (client : ℕ) (entries : List Entry) (e : Entry) → IsNoCall e.event
    → replies_to client (entries ++ e ∷ []) ≡ replies_to client entries
replies_stay client entries e none =
    flat_map-append (λ (z : Entry). framed_for client z.event z.came.outcome) entries (e ∷ [])
    ∙ (ap (λ xs. replies_to client entries ++ xs)
    (append-nil (framed_for client e.event e.came.outcome) ∙ no_reply client e.event e.came.outcome none)
    ∙ append-nil (replies_to client entries))

-- ---- sites with their trails and lanes

module _ {D : Type 0} (g : Ghosts D) where
  pub keeps_room : (old new : NodeValue D) → IsSameButRoom old new → KeepsNode g old new
  keeps_room old new same = subst (λ (n : NodeValue D). KeepsNode g old n) (sym same.same)
      (record { catalog = refl; site = refl; layout = refl; told = refl; rings = refl; places = omega (arith, same.more) })

  -- what was made ready for an entry takes it as it stood before
  pub ready_takes : (stamp : ℕ) (event : Event) (old mid new : NodeValue D) → IsSameButRoom old mid
      → Takes g stamp event mid new → Takes g stamp event old new
  ready_takes stamp event old mid new same takes =
      let t = subst (λ (m : NodeValue D). Takes g stamp event m new) same.same takes in
      record {
        came = t.came;
        trail = t.trail;
        short = t.short;
        keeps = record {
          catalog = t.keeps.catalog;
          site = t.keeps.site;
          layout = t.keeps.layout;
          told = t.keeps.told;
          rings = t.keeps.rings;
          places = omega (arith, same.more, t.keeps.places);
        };
        same_mets = t.same_mets;
        arms = t.arms;
        calls = t.calls;
        drops = t.drops;
      }

-- ---- cells

module _ {D : Type 0} (old : CellValue D) (node : NodeValue D)
    (lines : List (Option LineValue)) where
  abbrev pub with_node : CellValue D
  with_node = record { node = node; ins = old.ins; lines = lines }

  -- with the same trail
  pub cell_kept : node.catalog ≡ old.node.catalog → node.site ≡ old.node.site → node.trail ≡ old.node.trail
      → ((client : ℕ) → is_here lines client ≡ is_here old.lines client) → IsCell old → IsCell with_node
  cell_kept catalog site trail here cell = record {
    ins = cell.ins ∙ sym (ap (λ c. c.sites) catalog);
    next = subst (λ i. AreNext i old.ins (reverse node.trail)) (sym site)
        (subst (λ (es : List Entry). AreNext old.node.site old.ins (reverse es)) (sym trail) cell.next);
    calls = subst (λ (es : List Entry). All (λ (e : Entry). IfCall (λ client call. is_here lines client ≡ true) e.event) es) (sym trail)
        (All-weaker (λ (e : Entry). IfCall (λ client call. is_here old.lines client ≡ true) e.event)
        (λ (e : Entry). IfCall (λ client call. is_here lines client ≡ true) e.event)
        (λ e called. if_call _ _ e.event (λ client call was. here client ∙ was) called) old.node.trail cell.calls);
  }

  module _ (g : Ghosts D) (stamp : ℕ) (event : Event) (takes : Takes g stamp event old.node node) where
    abbrev own : Entry
    own = entry_by stamp event takes.came

    -- the trail has the entry of the event
    pub grows_taken : Grows event old.node.trail node.trail
    grows_taken = (own, takes.trail, refl)

    pub cell_taken : ((client : ℕ) → is_here lines client ≡ is_here old.lines client)
        → IsNext old.node.site old.ins event (clock_in old.node) stamp
        → IfCall (λ client call. is_here old.lines client ≡ true) event → IsCell old → IsCell with_node
    cell_taken here next called cell =
        let back : reverse node.trail ≡ own ∷ reverse old.node.trail =
        ap reverse takes.trail ∙ reverse-append old.node.trail (own ∷ []) in
        record {
          ins = cell.ins ∙ sym (ap (λ c. c.sites) takes.keeps.catalog);
          next = subst (λ i. AreNext i old.ins (reverse node.trail)) (sym takes.keeps.site)
              (subst (λ (es : List Entry). AreNext old.node.site old.ins es) (sym back) (cell.next, next));
          calls = subst (λ (es : List Entry). All (λ (e : Entry). IfCall (λ client call. is_here lines client ≡ true) e.event) es) (sym takes.trail)
              (All-push (λ (e : Entry). IfCall (λ client call. is_here lines client ≡ true) e.event) old.node.trail own
              (All-weaker (λ (e : Entry). IfCall (λ client call. is_here old.lines client ≡ true) e.event)
              (λ (e : Entry). IfCall (λ client call. is_here lines client ≡ true) e.event)
              (λ e was. if_call _ _ e.event (λ client call is. here client ∙ is) was) old.node.trail cell.calls)
              (if_call _ _ event (λ client call is. here client ∙ is) called));
        }

    -- what an event keeps whose connections are kept
    pub proceeds_taken : ((client : ℕ) → is_here lines client ≡ is_here old.lines client)
        → ((client : ℕ) (bytes : List ℕ) → IsLineAt bytes (calls_of client old.node.trail) old.lines client
        → IsLineAt bytes (calls_of client node.trail) lines client)
        → ((client : ℕ) (first : List ℕ) → AreWrittenAt first client old.node.trail old.lines
        → AreWrittenAt first client node.trail lines)
        → Proceeds g old with_node
    proceeds_taken here connected answered = record {
      keeps = record { node = takes.keeps; ins = refl; more = λ from. omega arith; here = here; connected = connected; answered = answered };
      ins = refl;
      same_mets = takes.same_mets;
      arms = takes.arms;
      calls = takes.calls;
      drops = takes.drops;
    }

-- what a call keeps that leaves the trail and the connections as they were
pub keeps_trail : {D : Type 0} (g : Ghosts D) (old new : CellValue D) → KeepsNode g old.node new.node → in_rings new.ins ≡ in_rings old.ins
    → ((from : ℕ) → length (arrived_from old.ins from) ≤ length (arrived_from new.ins from))
    → new.lines ≡ old.lines → new.node.trail ≡ old.node.trail → Keeps g old new
keeps_trail g old new node ins more lines trail = record {
  node = node;
  ins = ins;
  more = more;
  here = λ client. ap (λ (ls : List (Option LineValue)). is_here ls client) lines;
  connected = λ client bytes is.
      subst (λ (ls : List (Option LineValue)). IsLineAt bytes (calls_of client new.node.trail) ls client) (sym lines)
      (subst (λ (es : List Entry). IsLineAt bytes (calls_of client es) old.lines client) (sym trail) is);
  answered = λ client first are.
      subst (λ (ls : List (Option LineValue)). AreWrittenAt first client new.node.trail ls) (sym lines)
      (subst (λ (es : List Entry). AreWrittenAt first client es old.lines) (sym trail) are);
}

-- a cell whose disk or whose lanes' ends have changed, and nothing else
module _ {D : Type 0} (old : CellValue D) (node : NodeValue D) where
  pub cell_disk : IsSameButDisk old.node node → IsCell old → IsCell (record { node = node; ins = old.ins; lines = old.lines })
  cell_disk same cell = cell_kept old node old.lines (ap (λ (n : NodeValue D). n.catalog) same) (ap (λ (n : NodeValue D). n.site) same)
      (ap (λ (n : NodeValue D). n.trail) same) (λ client. refl) cell

  pub cell_lanes : IsSameButLanes old.node node → IsCell old → IsCell (record { node = node; ins = old.ins; lines = old.lines })
  cell_lanes same cell = cell_kept old node old.lines (ap (λ (n : NodeValue D). n.catalog) same) (ap (λ (n : NodeValue D). n.site) same)
      (ap (λ (n : NodeValue D). n.trail) same) (λ client. refl) cell

  pub keeps_disk : (g : Ghosts D) → IsSameButDisk old.node node → is_told g node.disk ≡ is_told g old.node.disk
      → Keeps g old (record { node = node; ins = old.ins; lines = old.lines })
  keeps_disk g same told = keeps_trail g old (record { node = node; ins = old.ins; lines = old.lines })
      (record {
        catalog = ap (λ (n : NodeValue D). n.catalog) same;
        site = ap (λ (n : NodeValue D). n.site) same;
        layout = ap (λ (n : NodeValue D). n.layout) same;
        told = told;
        rings = ap (λ (n : NodeValue D). out_rings n.outs) same;
        places = let e : places_in node ≡ places_in old.node = ap (λ (n : NodeValue D). places_in n) same in omega (arith, e);
      }) refl (λ from. omega arith) refl (ap (λ (n : NodeValue D). n.trail) same)

  pub keeps_lanes : (g : Ghosts D) → IsSameButLanes old.node node → out_rings node.outs ≡ out_rings old.node.outs
      → Keeps g old (record { node = node; ins = old.ins; lines = old.lines })
  keeps_lanes g same rings = keeps_trail g old (record { node = node; ins = old.ins; lines = old.lines })
      (record {
        catalog = ap (λ (n : NodeValue D). n.catalog) same;
        site = ap (λ (n : NodeValue D). n.site) same;
        layout = ap (λ (n : NodeValue D). n.layout) same;
        told = ap (λ (n : NodeValue D). is_told g n.disk) same;
        rings = rings;
        places = let e : places_in node ≡ places_in old.node = ap (λ (n : NodeValue D). places_in n) same in omega (arith, e);
      }) refl (λ from. omega arith) refl (ap (λ (n : NodeValue D). n.trail) same)

-- an event of no client comes to a cell, whose connections stay
module _ {D : Type 0} (g : Ghosts D) (old : CellValue D) (node : NodeValue D)
    (stamp : ℕ) (event : Event) (takes : Takes g stamp event old.node node) (none : IsNoCall event) where
  calls : (client : ℕ) → calls_of client node.trail ≡ calls_of client old.node.trail
  calls client = ap (λ es. calls_of client es) takes.trail ∙ calls_stay client old.node.trail (entry_by stamp event takes.came) none

  replies : (client : ℕ) → replies_to client node.trail ≡ replies_to client old.node.trail
  replies client = ap (λ es. replies_to client es) takes.trail ∙ replies_stay client old.node.trail (entry_by stamp event takes.came) none

  pub proceeds_alone : Proceeds g old (record { node = node; ins = old.ins; lines = old.lines })
  proceeds_alone =
      proceeds_taken old node old.lines g stamp event takes (λ client. refl)
      (λ client bytes is. subst (λ (cs : List Called). IsLineAt bytes cs old.lines client) (sym (calls client)) is)
      (λ client first are. (are.0, are.1, subst (λ rs. AreWritten first rs are.0.incoming.state are.0.sent) (sym (replies client)) are.2))

  pub cell_alone : IsNext old.node.site old.ins event (clock_in old.node) stamp → IsCell old
      → IsCell (record { node = node; ins = old.ins; lines = old.lines })
  cell_alone next cell = cell_taken old node old.lines g stamp event takes (λ client. refl) next
      (if_call _ _ event (λ client call never. absurd never) none) cell

-- nothing came, and nothing but the memory changed
module _ {D : Type 0} (g : Ghosts D) (old : CellValue D) (node : NodeValue D)
    (same : IsSameButRoom old.node node) where
  pub cell_room : IsCell old → IsCell (record { node = node; ins = old.ins; lines = old.lines })
  cell_room cell = cell_kept old node old.lines (ap (λ (n : NodeValue D). n.catalog) same.same) (ap (λ (n : NodeValue D). n.site) same.same)
      (ap (λ (n : NodeValue D). n.trail) same.same) (λ client. refl) cell

  pub proceeds_room : Proceeds g old (record { node = node; ins = old.ins; lines = old.lines })
  proceeds_room = record {
    keeps = keeps_trail g old (record { node = node; ins = old.ins; lines = old.lines }) (keeps_room g old.node node same) refl (λ from. omega arith) refl
        (ap (λ (n : NodeValue D). n.trail) same.same);
    ins = refl;
    same_mets = ap (λ (n : NodeValue D). mets n.outs) same.same;
    arms = ap (λ (n : NodeValue D). arms_under g n.disk) same.same;
    calls = λ told. inl (ap (λ (n : NodeValue D). n.trail) same.same, ap (λ (n : NodeValue D). calls_under g n.disk) same.same);
    drops = λ told. inl (ap (λ (n : NodeValue D). n.trail) same.same);
  }

-- a trail that is spent for an entry that brings no packet
pub spent_next : (last : ℕ) (trail : List Entry) → IsSpent (max last 0 + 1) trail → IsSpent (last + 1) trail
spent_next last trail (inl many) = inl many
spent_next last trail (inr late) = inr (omega (arith, late))
