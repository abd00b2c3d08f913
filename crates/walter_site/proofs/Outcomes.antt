-- Which outcomes the rules give: a reply to a call alone, and one that takes room to a call that may want memory.
use Rattle.std.proofs.Common.{Bool, true, false, not, if◌then◌else◌, List, Option, Some, None, Result, Ok, Err, ◌&&◌, ◌∷◌, ℕ}
use Rattle.std.specs.FinMap.{get}
use Rattle.std.specs.List.{list_all}
use Rattle.walter_base.specs.declared.catalog.Catalog.{Catalog}
use Rattle.walter_base.specs.declared.containers.Container.{Container}
use Rattle.walter_base.specs.declared.format.Format.{Format}
use Rattle.walter_base.specs.declared.format.Format.TheVariants.{First, Second}
use Rattle.walter_base.specs.declared.message.BadFrame.{BadFrame}
use Rattle.walter_base.specs.declared.message.Refusal.TheVariants.{NotIssued}
use Rattle.walter_base.specs.declared.message.Reply.TheVariants.{Count, Level}
use Rattle.walter_base.specs.declared.message.Request.TheVariants.{Start, Read, Write, SetAdd, SetDel, SetRead, SetReadId, Commit, Abort, Level as LevelAsked}
use Rattle.walter_base.specs.declared.names.Kind.{Kind}
use Rattle.walter_base.specs.declared.names.Kind.TheVariants.{Regular, Cset}
use Rattle.walter_base.specs.declared.names.ObjId.{ObjId}
use Rattle.walter_base.specs.declared.names.SiteId.{SiteId}
use Rattle.walter_base.specs.declared.names.Tid.{Tid}
use Rattle.walter_base.specs.declared.packet.Answer.{Answer}
use Rattle.walter_base.specs.declared.packet.Answer.TheVariants.{Yes, No, Later}
use Rattle.walter_base.specs.declared.packet.Packet.{Packet}
use Rattle.walter_base.specs.declared.packet.Packet.TheVariants.{Propagate, Ack, Dsmark, Visible, Prepare, Vote, Release, Released}
use Rattle.walter_base.specs.declared.transaction.Conflict.{Conflict}
use Rattle.walter_base.specs.declared.transaction.Conflict.TheVariants.{Modified, Locked as LockedThere, Dead}
use Rattle.walter_base.specs.declared.transaction.Tx.{Tx}
use Rattle.walter_base.specs.Names.{same_site}
use Rattle.walter_base.specs.Values.{count_of}
use Rattle.walter_site.specs.Members.{input_rule}
use Rattle.walter_site.specs.Plans.{IsNoReply, IsFor, TakesRoomIn}
use Rattle.walter_rules.specs.declared.event.Event.TheVariants.{Given}
use Rattle.walter_rules.specs.declared.event.Input.{Input}
use Rattle.walter_rules.specs.declared.event.Input.TheVariants.{Call, Deliver, Advance, Tick, Upgrade}
use Rattle.walter_rules.specs.declared.outcome.Outcome.{Outcome}
use Rattle.walter_rules.specs.Calls.{Expected, answers, refuses, call_rule, read_updates, if_cset, if_counted, is_issued, level_of, open_in, with_open}
use Rattle.walter_rules.specs.Conflicts.{first_conflict}
use Rattle.walter_rules.specs.Deliveries.{is_peer, accepts, if_accepted, is_news, if_acknowledged, if_shown, if_greater, prepares, prepares_by, if_lockable, commits_if_all, if_missing, votes, if_asked, votes_by, releases, confirms, packet_rule, if_peer, is_enabled, advances}
use Rattle.walter_rules.specs.Declarations.{are_lockable}
use Rattle.walter_rules.specs.Knowledge.{Knowledge, session_of}
use Rattle.walter_rules.specs.Layouts.{in_force}
use Rattle.walter_rules.specs.Rule.{MayWant, upgrade_rule}
use Rattle.walter_rules.specs.Sessions.{Session}
use Rattle.walter_rules.specs.Slow.{Slow, Unused, Undecided, Dropped, Decided, Part, Free, Locked, Over, has_site}
use Rattle.walter_rules.specs.Trails.{TakesMemory}

module _ (catalog : Catalog) (i : SiteId) (K : Knowledge) where
  accepted_plain : (b : Bool) (j : SiteId) (seq : ℕ) (tx : Tx) → IsNoReply (if_accepted b K j seq tx).outcome
  accepted_plain true j seq tx = tt
  accepted_plain false j seq tx = tt

  acknowledged_plain : (b : Bool) (j : SiteId) (got : ℕ) → IsNoReply (if_acknowledged b catalog i K j got).outcome
  acknowledged_plain true j got = tt
  acknowledged_plain false j got = tt

  greater_plain : (b : Bool) → IsNoReply (if_greater b).outcome
  greater_plain true = tt
  greater_plain false = tt

  shown_plain : (b : Bool) (j : SiteId) (committed : ℕ) → IsNoReply (if_shown b catalog i K j committed).outcome
  shown_plain true j committed = tt
  shown_plain false j committed = tt

  prepares_plain : (j : SiteId) (n : ℕ) (tid : Tid) (start : List ℕ) (objects : List ObjId) (conflict : Option Conflict)
      → IsNoReply (prepares K j n tid start objects conflict).outcome
  prepares_plain j n tid start objects None = tt
  prepares_plain j n tid start objects (Some conflict) = tt

  prepared_plain : (j : SiteId) (n : ℕ) (tid : Tid) (start : List ℕ) (objects : List ObjId) (part : Part)
      → IsNoReply (prepares_by K j n tid start objects part).outcome
  prepared_plain j n tid start objects Free = prepares_plain j n tid start objects (first_conflict K start objects)
  prepared_plain j n tid start objects (Locked owner locked) = tt
  prepared_plain j n tid start objects Over = tt

  lockable_plain : (b : Bool) (j : SiteId) (n : ℕ) (tid : Tid) (start : List ℕ) (objects : List ObjId)
      → IsNoReply (if_lockable b K j n tid start objects).outcome
  lockable_plain true j n tid start objects = prepared_plain j n tid start objects (K.part j n)
  lockable_plain false j n tid start objects = tt

  all_plain : (b : Bool) (tx : Tx) → IsNoReply (commits_if_all catalog i K tx b).outcome
  all_plain true tx = tt
  all_plain false tx = tt

  missing_plain : (b : Bool) (j : SiteId) (n : ℕ) (tx : Tx) (asked : List SiteId)
      → IsNoReply (if_missing b catalog i K j n tx asked).outcome
  missing_plain true j n tx asked = all_plain (list_all (λ k. has_site k (j ∷ K.said_yes n)) asked) tx
  missing_plain false j n tx asked = tt

  refused_plain : (j : SiteId) (n : ℕ) (tx : Tx) (asked : List SiteId) (conflict : Conflict)
      → IsNoReply (votes catalog i K j n tx asked (No conflict)).outcome
  refused_plain j n tx asked (Modified oid version) = tt
  refused_plain j n tx asked (LockedThere oid owner) = tt
  refused_plain j n tx asked Dead = tt

  votes_plain : (j : SiteId) (n : ℕ) (tx : Tx) (asked : List SiteId) (answer : Answer)
      → IsNoReply (votes catalog i K j n tx asked answer).outcome
  votes_plain j n tx asked Yes = missing_plain (not (has_site j (K.said_yes n))) j n tx asked
  votes_plain j n tx asked (No conflict) = refused_plain j n tx asked conflict
  votes_plain j n tx asked Later = tt

  asked_plain : (b : Bool) (j : SiteId) (n : ℕ) (tx : Tx) (asked : List SiteId) (answer : Answer)
      → IsNoReply (if_asked b catalog i K j n tx asked answer).outcome
  asked_plain true j n tx asked answer = votes_plain j n tx asked answer
  asked_plain false j n tx asked answer = tt

  voted_plain : (j : SiteId) (n : ℕ) (answer : Answer) (g : Slow)
      → IsNoReply (votes_by catalog i K j n answer g).outcome
  voted_plain j n answer Unused = tt
  voted_plain j n answer (Undecided tx asked) = asked_plain (has_site j asked) j n tx asked answer
  voted_plain j n answer (Dropped tx asked) = tt
  voted_plain j n answer (Decided tx) = tt

  releases_plain : (j : SiteId) (n : ℕ) (part : Part) → IsNoReply (releases j n part).outcome
  releases_plain j n Free = tt
  releases_plain j n (Locked tid objects) = tt
  releases_plain j n Over = tt

  confirms_plain : (j : SiteId) (n : ℕ) (g : Slow) → IsNoReply (confirms K j n g).outcome
  confirms_plain j n Unused = tt
  confirms_plain j n (Undecided tx asked) = tt
  confirms_plain j n (Dropped tx asked) = greater_plain (has_site j asked && not (has_site j (K.said_released n)))
  confirms_plain j n (Decided tx) = tt

  packet_plain : (j : SiteId) (packet : Packet) → IsNoReply (packet_rule catalog i K j packet).outcome
  packet_plain j (Propagate seq tx) = accepted_plain (accepts catalog K j seq tx) j seq tx
  packet_plain j (Ack got) = acknowledged_plain (is_news i K (K.acknowledged j) got) j got
  packet_plain j (Dsmark durable) = greater_plain _
  packet_plain j (Visible committed) = shown_plain (is_news i K (K.visible j) committed) j committed
  packet_plain j (Prepare n tid start objects) =
      lockable_plain (are_lockable catalog K i objects) j n tid start objects
  packet_plain j (Vote n answer) = voted_plain j n answer (K.slow n)
  packet_plain j (Release n) = releases_plain j n (K.part j n)
  packet_plain j (Released n) = confirms_plain j n (K.slow n)

  peer_plain : (b : Bool) (x : Expected) → IsNoReply x.outcome → IsNoReply (if_peer b x).outcome
  peer_plain true x plain = plain
  peer_plain false x plain = tt

  advances_plain : (b : Bool) (j : SiteId) → IsNoReply (advances K j b).outcome
  advances_plain true j = tt
  advances_plain false j = tt

  upgrade_plain : (format : Format) → IsNoReply (upgrade_rule format).outcome
  upgrade_plain First = tt
  upgrade_plain Second = tt

  -- a call alone is replied to
  pub rule_for : (header : Format) (input : Input) → IsFor input (input_rule header catalog i K input).outcome
  rule_for header (Call client call) = tt
  rule_for header (Deliver from number packet) =
      peer_plain (is_peer catalog i from) (packet_rule catalog i K from packet) (packet_plain from packet)
  rule_for header (Advance from) = advances_plain (is_peer catalog i from && is_enabled K from) from
  rule_for header Tick = tt
  rule_for header Upgrade = upgrade_plain (in_force header K.format)

  -- an outcome of which nothing takes room
  abbrev IsSmall : Outcome → Type 0
  IsSmall outcome = (call : Result _ BadFrame) (client : ℕ) → TakesRoomIn (Call client call) outcome → ⊥

  either_small : (b : Bool) (x y : Expected) → IsSmall x.outcome → IsSmall y.outcome
      → IsSmall (if b then x else y).outcome
  either_small true x y one other = one
  either_small false x y one other = other

  counted_small : (kind : Kind) (x : Expected) → IsSmall x.outcome → IsSmall (if_counted kind x).outcome
  counted_small Regular x small = λ call client room. room
  counted_small Cset x small = small

  cset_small : (container : Option Container) (x : Expected) → IsSmall x.outcome → IsSmall (if_cset container x).outcome
  cset_small None x small = λ call client room. room
  cset_small (Some container) x small = counted_small container.kind x small

  open_small : (o : Option Session) (f : Session → Expected) → ((s : Session) → IsSmall (f s).outcome)
      → IsSmall (with_open o f).outcome
  open_small None f small = λ call client room. room
  open_small (Some s) f small = small s

  call_wants : (client : ℕ) (call : Result _ BadFrame)
      → TakesRoomIn (Call client call) (call_rule catalog i K call (session_of K client)).outcome → MayWant call
  call_wants client (Err bad) room = room
  call_wants client (Ok Start) room = tt
  call_wants client (Ok (Read oid)) room = tt
  call_wants client (Ok (Write oid bytes)) room = tt
  call_wants client (Ok (SetAdd oid id)) room = tt
  call_wants client (Ok (SetDel oid id)) room = tt
  call_wants client (Ok (SetRead oid)) room = tt
  call_wants client (Ok (SetReadId oid id)) room =
      open_small (open_in (session_of K client))
      (λ s. if_cset (get catalog.containers oid.container) (answers (Count (count_of oid id (read_updates K s)))))
      (λ s. cset_small (get catalog.containers oid.container) (answers (Count (count_of oid id (read_updates K s))))
      (λ call client room. room)) (Ok (SetReadId oid id)) client room
  call_wants client (Ok Commit) room = tt
  call_wants client (Ok Abort) room =
      open_small (open_in (session_of K client)) _ (λ s call client room. room) (Ok Abort) client room
  call_wants client (Ok (LevelAsked tid)) room =
      either_small (not (same_site tid.site i)) _ _ (λ call client room. room)
      (either_small (is_issued K tid) (answers (Level (level_of catalog i K tid))) (refuses NotIssued)
      (λ call client room. room) (λ call client room. room)) (Ok (LevelAsked tid)) client room

  -- an answer that takes room is to a call that may want memory
  pub rule_wants_room : (header : Format) (input : Input)
      → TakesRoomIn input (input_rule header catalog i K input).outcome → TakesMemory true (Given input)
  rule_wants_room header (Call client call) room = call_wants client call room
  rule_wants_room header (Deliver from number packet) room = tt
  rule_wants_room header (Advance from) room = tt
  rule_wants_room header Tick room = tt
  rule_wants_room header Upgrade room = tt
