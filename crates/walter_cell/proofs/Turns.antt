-- What a client's turn leaves of a cell.
use Rattle.std.proofs.Common.{◌≡◌, ◌≢◌, ◌<◌, ◌+◌, ◌++◌, ◌∷◌, ◌∙◌, ◌⊎◌, [], ℕ, List, true, Option, Some, None, length, max, slice_get, slice_set, get_or}
use Rattle.std.proofs.Common.{refl, ap, sym, subst, arith, inl, inr, Result, Ok, Err, is_ok, if◌then◌else◌}
use Rattle.std.specs.List.{concat}
use Rattle.std.specs.Prelude.{OnOk, OnErr}
use Rattle.std.proofs.lemmas.Bool.{cases_eq}
use Rattle.std.proofs.lemmas.List.{set-get_or}
use Rattle.std.proofs.lemmas.Option.{slice_get_within, slice_get-get_or}
use Rattle.walter_conn.specs.Calls.{Incoming, TakesCall}
use Rattle.walter_conn.specs.Frames.{Call}
use Rattle.walter_conn.specs.Sequences.{HasCalled}
use Rattle.walter_conn.specs.declared.next.Next.TheVariants.{Frame, Ended, Broken}
use Rattle.walter_conn.specs.declared.state.State.TheVariants as state
use Rattle.walter_conn.proofs.Standings.{one_more_call, over_whole, lost_keeps, calls_of as calls_told}
use Rattle.walter_disk.specs.declared.disk.Disk.{Ghosts}
use Rattle.walter_rules.specs.declared.entry.Entry.{Entry}
use Rattle.walter_rules.specs.declared.event.Event.{Event}
use Rattle.walter_rules.specs.declared.event.Event.TheVariants.{Given}
use Rattle.walter_rules.specs.declared.event.Input.TheVariants.{Call as CallInput}
use Rattle.walter_stream.specs.Streams.{Appends}
use Rattle.walter_trail.specs.Calls.{calls_of}
use Rattle.walter_cell.specs.Cells.{CellValue, IsCell, Proceeds, CallComes, TurnsTo}
use Rattle.walter_cell.specs.declared.answers.Serve.{Serve}
use Rattle.walter_cell.specs.declared.answers.Serve.TheVariants as serve
use Rattle.walter_cell.specs.Entries.{HasPlace}
use Rattle.walter_cell.specs.Lines.{Sent, LineValue, HasFault, HasFaultAt, is_there, is_here, IsLine, IsLineAt}
use Rattle.walter_cell.specs.Nodes.{NodeValue, KeepsNode, IsSameButRoom, Takes, MayCall, MayDrop, clock_in, arms_under, calls_under, capacity_of, is_told as tells}
use Rattle.walter_cell.specs.Turns.{BringsCall, LosesReply, ServesTo, ServesAt, AreSameBut}
use Rattle.walter_cell.specs.Written.{AreWritten, AreWrittenAt, IsCutOff, framed_reply, replies_to}
use Rattle.walter_lane.specs.Lanes.{Receiving}
use Rattle.walter_outbox.specs.Lanes.{arrived_from, mets, met_to, in_rings}
use Rattle.walter_cell.proofs.Lines.{line_next, line_called, not_broken, calls_more, calls_same, set_here, set_there}
use Rattle.walter_cell.proofs.Taken.{with_node, cell_kept, cell_taken, keeps_room}
use Rattle.walter_cell.proofs.Written.{replies_more, replies_same, written_next, written_more, written_short}

-- the connection that is here
pub line_there : {L : Type 0} (o : Option (Option L)) → is_there o ≡ true → (line : L) × (o ≡ Some (Some line))
line_there None here = absurd cc
line_there (Some None) here = absurd cc
line_there (Some (Some line)) here = (line, refl)

pub here_within : {L : Type 0} (lines : List (Option L)) (number : ℕ) → is_here lines number ≡ true → number < length lines
here_within lines number here =
    let there = line_there (slice_get lines number) here in slice_get_within lines number (Some there.0) there.1

-- a connection that was used is here as it was
pub here_set : {L : Type 0} (lines : List (Option L)) (number : ℕ) (line : L) → is_here lines number ≡ true
    → (client : ℕ) → is_here (slice_set lines number (Some line)) client ≡ is_here lines client
here_set lines number line here client = elim (cases_eq client number) [
  | inl same ↦
      ap (λ n. is_here (slice_set lines number (Some line)) n) same
      ∙ (ap is_there (set_here lines number (Some line) (here_within lines number here))
      ∙ (sym here ∙ ap (λ n. is_here lines n) (sym same)))
  | inr apart ↦ ap is_there (set_there lines number client (Some line) apart)
]

-- one that is put back as it was read
pub put_back : {L : Type 0} (lines : List (Option L)) (number : ℕ) (found : Option L) (line other : L)
    → found ≡ get_or lines number found → found ≡ Some line → other ≡ line → slice_set lines number (Some other) ≡ lines
put_back lines number found line other at is same =
    ap (λ x. slice_set lines number x) (ap (λ l. Some l) same ∙ (sym is ∙ at)) ∙ set-get_or lines number found

-- a stamp was found for the next entry, so there is place for it
pub place_found : (clock stamp : ℕ) (trail : List Entry) → (stamp ≡ max clock 0 + 1) × HasPlace stamp trail → HasPlace (clock + 1) trail
place_found clock stamp trail some = (some.1.0, let s = some.0 in let e = some.1.1 in omega (arith, s, e))

-- ---- by what the turn comes to

module _ (client clock : ℕ) (before after : LineValue) (old new : List Entry) where
  -- a call of the client came
  module _ (read : Incoming) (brings : BringsCall client before.incoming read old new) where
    abbrev reply : List (List ℕ)
    reply = framed_reply brings.entry.came.outcome

    calls_now : calls_of client new ≡ calls_of client old ++ brings.call ∷ []
    calls_now = ap (λ es. calls_of client es) brings.trail ∙ calls_more client old brings.entry brings.call brings.event_is

    replies_now : replies_to client new ≡ replies_to client old ++ reply
    replies_now = ap (λ es. replies_to client es) brings.trail ∙ replies_more client old brings.entry brings.call brings.event_is

    read_more : (bytes : List ℕ) → IsLine bytes (calls_of client old) before → HasCalled bytes (calls_of client new) read
    read_more bytes is = subst (λ (cs : List Call). HasCalled bytes cs read) (sym calls_now)
        (one_more_call bytes (calls_of client old) before.incoming read brings.call is.stands brings.takes)

    comes : (bytes : List ℕ) → IsLine bytes (calls_of client old) before → CallComes client bytes old new
    comes bytes is =
        let stands = read_more bytes is in (
          brings.call,
          stands.rest,
          (brings.entry, brings.trail, brings.event_is),
          calls_told bytes (calls_of client new) read stands.rest stands stands.unread,
        )

    module _ (first : List ℕ) (are : AreWritten first (replies_to client old) before.incoming.state before.sent) where
      -- the connection behind the call, and before its reply
      abbrev mid : LineValue
      mid = record { incoming = read; sent = before.sent }

      are_mid : AreWritten first (replies_to client old) read.state before.sent
      are_mid = written_next first (replies_to client old) before mid are (Frame brings.call) brings.takes refl

      unbroken : read.state ≢ state.Broken
      unbroken = not_broken before.incoming read brings.call brings.takes

      written_now : AreWritten first (replies_to client old ++ reply) after.incoming.state after.sent
          → AreWritten first (replies_to client new) after.incoming.state after.sent
      written_now are = subst (λ (rs : List (List ℕ)). AreWritten first rs after.incoming.state after.sent) (sym replies_now) are

      written_whole : Appends before.sent.held after.sent.held (concat reply) → AreWritten first (replies_to client new) after.incoming.state after.sent
      written_whole whole = written_now
          (written_more first (replies_to client old) mid after are_mid unbroken brings.entry.came.outcome whole)

      written_cut : IsCutOff brings.entry.came.outcome after.incoming.state before.sent after.sent
          → AreWritten first (replies_to client new) after.incoming.state after.sent
      written_cut cut = written_now
          (written_short first (replies_to client old) mid after are_mid unbroken brings.entry.came.outcome cut)

  has_fault : LosesReply client before after old new → HasFault after
  has_fault lost = let rose = lost.cut_off.failed in inr (omega (arith, rose))

  -- nothing came to the trail, or a call of the client did
  came : (answer : Serve) → ServesTo client clock before after old new answer
      → (new ≡ old) ⊎ ((read : Incoming) × BringsCall client before.incoming read old new)
  came serve.Spent (spent, trail, same) = inl trail
  came serve.Ended (place, over, none) = inl none.trail
  came serve.Broken (place, inl (breaks, none)) = inl none.trail
  came serve.Broken (place, inr lost) = inr (lost.read, lost.brings)
  came serve.Served (place, gives) = inr (after.incoming, gives.brings)

  others_calls : (answer : Serve) → ServesTo client clock before after old new answer
      → (other : ℕ) → other ≢ client → calls_of other new ≡ calls_of other old
  others_calls answer serves other apart = elim (came answer serves) [
    | inl same ↦ ap (λ es. calls_of other es) same
    | inr (read, brings) ↦
        ap (λ es. calls_of other es) brings.trail ∙ calls_same other client old brings.entry brings.call apart brings.event_is
  ]

  others_replies : (answer : Serve) → ServesTo client clock before after old new answer
      → (other : ℕ) → other ≢ client → replies_to other new ≡ replies_to other old
  others_replies answer serves other apart = elim (came answer serves) [
    | inl same ↦ ap (λ es. replies_to other es) same
    | inr (read, brings) ↦
        ap (λ es. replies_to other es) brings.trail ∙ replies_same other client old brings.entry brings.call apart brings.event_is
  ]

  -- what was read
  module _ (bytes : List ℕ) (is : IsLine bytes (calls_of client old) before) where
    same_line : new ≡ old → IsLine bytes (calls_of client old) after → IsLine bytes (calls_of client new) after
    same_line same is = subst (λ (es : List Entry). IsLine bytes (calls_of client es) after) (sym same) is

    line_served : (answer : Serve) → ServesTo client clock before after old new answer → IsLine bytes (calls_of client new) after
    line_served serve.Spent (spent, trail, same) =
        same_line trail (subst (λ (l : LineValue). IsLine bytes (calls_of client old) l) (sym same) is)
    line_served serve.Ended (place, over, none) =
        same_line none.trail (line_next bytes (calls_of client old) before after is Ended over none.sent).0
    line_served serve.Broken (place, inl (breaks, none)) =
        same_line none.trail (line_next bytes (calls_of client old) before after is Broken breaks none.sent).0
    line_served serve.Broken (place, inr lost) = record {
      stands = subst (λ (x : Incoming). HasCalled bytes (calls_of client new) x) (sym lost.broken)
          (lost_keeps bytes (calls_of client new) lost.read (read_more lost.read lost.brings bytes is));
      broken = λ broken. inl (has_fault lost);
    }
    line_served serve.Served (place, gives) =
        subst (λ (cs : List Call). IsLine bytes cs after) (sym (calls_now after.incoming gives.brings))
        (line_called bytes (calls_of client old) before after is gives.brings.call gives.brings.takes)

    turn_served : (fault : Type 0) → (HasFault after → fault) → (answer : Serve) → ServesTo client clock before after old new answer
        → TurnsTo client bytes clock fault old new answer
    turn_served fault faulty serve.Spent (spent, trail, same) = (spent, trail)
    turn_served fault faulty serve.Ended (place, over, none) =
        (place, over_whole bytes (calls_of client old) before.incoming after.incoming is.stands over, none.trail)
    turn_served fault faulty serve.Broken (place, inl (breaks, none)) = (
      place,
      elim (line_next bytes (calls_of client old) before after is Broken breaks none.sent).1 [
        | inl failed ↦ inr (faulty failed, inl none.trail)
        | inr cut ↦ inl (cut, none.trail)
      ],
    )
    turn_served fault faulty serve.Broken (place, inr lost) =
        (place, inr (faulty (has_fault lost), inr (comes lost.read lost.brings bytes is)))
    turn_served fault faulty serve.Served (place, gives) = (place, comes after.incoming gives.brings bytes is)

  -- what was written
  module _ (first : List ℕ) (are : AreWritten first (replies_to client old) before.incoming.state before.sent) where
    same_written : new ≡ old → AreWritten first (replies_to client old) after.incoming.state after.sent
        → AreWritten first (replies_to client new) after.incoming.state after.sent
    same_written same are = subst (λ (es : List Entry). AreWritten first (replies_to client es) after.incoming.state after.sent) (sym same) are

    written_served : (answer : Serve) → ServesTo client clock before after old new answer
        → AreWritten first (replies_to client new) after.incoming.state after.sent
    written_served serve.Spent (spent, trail, same) =
        same_written trail (subst (λ (l : LineValue). AreWritten first (replies_to client old) l.incoming.state l.sent) (sym same) are)
    written_served serve.Ended (place, over, none) =
        same_written none.trail (written_next first (replies_to client old) before after are Ended over none.sent)
    written_served serve.Broken (place, inl (breaks, none)) =
        same_written none.trail (written_next first (replies_to client old) before after are Broken breaks none.sent)
    written_served serve.Broken (place, inr lost) = written_cut lost.read lost.brings first are lost.cut_off
    written_served serve.Served (place, gives) = written_whole after.incoming gives.brings first are gives.whole

-- ---- cells

-- what else a turn leaves, by what it comes to
module _ {D : Type 0} (g : Ghosts D) (old new : CellValue D) (number : ℕ) (before after : LineValue) (answer : Serve)
    (was : slice_get old.lines number ≡ Some (Some before)) (now : slice_get new.lines number ≡ Some (Some after))
    (serves : ServesTo number (clock_in old.node) before after old.node.trail new.node.trail answer) where
  serves_at : ServesAt number old new answer
  serves_at = (before, was, (after, now, serves))

  -- the connection of the client before
  the_line : (line : LineValue) → slice_get old.lines number ≡ Some (Some line) → line ≡ before
  the_line line at = let same : Some (Some line) ≡ Some (Some before) = sym at ∙ was in cc

  turn_of : (can : Type 0) → (HasFault after → can) → (bytes : List ℕ) → IsLineAt bytes (calls_of number old.node.trail) old.lines number
      → TurnsTo number bytes (clock_in old.node) (HasFaultAt new.lines number × can) old.node.trail new.node.trail answer
  turn_of can by bytes is =
      turn_served number (clock_in old.node) before after old.node.trail new.node.trail bytes
      (subst (λ (l : LineValue). IsLine bytes (calls_of number old.node.trail) l) (the_line is.0 is.1) is.2)
      (HasFaultAt new.lines number × can) (λ failed. ((after, now, failed), by failed)) answer serves

  module _ (others : AreSameBut number old.lines new.lines) where
    here_kept : (client : ℕ) → is_here new.lines client ≡ is_here old.lines client
    here_kept client = elim (cases_eq client number) [
      | inl same ↦
          ap (λ n. is_here new.lines n) same
          ∙ (ap is_there now ∙ (sym (ap is_there was) ∙ ap (λ n. is_here old.lines n) (sym same)))
      | inr apart ↦ ap is_there (others client apart)
    ]

    connected : (client : ℕ) (bytes : List ℕ) → IsLineAt bytes (calls_of client old.node.trail) old.lines client
        → IsLineAt bytes (calls_of client new.node.trail) new.lines client
    connected client bytes is = elim (cases_eq client number) [
      | inl same ↦
          let is : IsLineAt bytes (calls_of number old.node.trail) old.lines number =
          subst (λ (n : ℕ). IsLineAt bytes (calls_of n old.node.trail) old.lines n) same is in
          subst (λ (n : ℕ). IsLineAt bytes (calls_of n new.node.trail) new.lines n) (sym same) (
            after,
            now,
            line_served number (clock_in old.node) before after old.node.trail new.node.trail bytes
                (subst (λ (l : LineValue). IsLine bytes (calls_of number old.node.trail) l) (the_line is.0 is.1) is.2) answer serves,
          )
      | inr apart ↦ (
        is.0,
        others client apart ∙ is.1,
        subst (λ (cs : List Call). IsLine bytes cs is.0)
            (sym (others_calls number (clock_in old.node) before after old.node.trail new.node.trail answer serves client apart)) is.2,
      )
    ]

    answered : (client : ℕ) (first : List ℕ) → AreWrittenAt first client old.node.trail old.lines
        → AreWrittenAt first client new.node.trail new.lines
    answered client first are = elim (cases_eq client number) [
      | inl same ↦
          let are : AreWrittenAt first number old.node.trail old.lines =
          subst (λ (n : ℕ). AreWrittenAt first n old.node.trail old.lines) same are in
          subst (λ (n : ℕ). AreWrittenAt first n new.node.trail new.lines) (sym same) (
            after,
            now,
            written_served number (clock_in old.node) before after old.node.trail new.node.trail first
                (subst (λ (l : LineValue). AreWritten first (replies_to number old.node.trail) l.incoming.state l.sent) (the_line are.0 are.1) are.2)
                answer serves,
          )
      | inr apart ↦ (
        are.0,
        others client apart ∙ are.1,
        subst (λ (rs : List (List ℕ)). AreWritten first rs are.0.incoming.state are.0.sent)
            (sym (others_replies number (clock_in old.node) before after old.node.trail new.node.trail answer serves client apart)) are.2,
      )
    ]

    proceeds_by : KeepsNode g old.node new.node → new.ins ≡ old.ins → mets new.node.outs ≡ mets old.node.outs
        → arms_under g new.node.disk ≡ arms_under g old.node.disk
        → (tells g old.node.disk ≡ true → MayCall (capacity_of old.node.layout) old.node.catalog old.node.site old.node.trail new.node.trail
        (calls_under g old.node.disk) (calls_under g new.node.disk))
        → (tells g old.node.disk ≡ true → MayDrop old.node.catalog old.node.site (met_to old.node.outs) old.node.trail new.node.trail)
        → Proceeds g old new
    proceeds_by node ins met arms calls drops = record {
      keeps = record {
        node = node;
        ins = ap in_rings ins;
        more = λ from. let same = ap (λ (is : List Receiving). length (arrived_from is from)) ins in omega (arith, same);
        here = here_kept;
        connected = connected;
        answered = answered;
      };
      ins = ins;
      same_mets = met;
      arms = arms;
      calls = calls;
      drops = drops;
    }

    -- no call came
    proceeds_idle : IsSameButRoom old.node new.node → new.ins ≡ old.ins → Proceeds g old new
    proceeds_idle same ins =
        proceeds_by (keeps_room g old.node new.node same) ins (ap (λ (n : NodeValue D). mets n.outs) same.same)
        (ap (λ (n : NodeValue D). arms_under g n.disk) same.same)
        (λ told. inl (ap (λ (n : NodeValue D). n.trail) same.same, ap (λ (n : NodeValue D). calls_under g n.disk) same.same))
        (λ told. inl (ap (λ (n : NodeValue D). n.trail) same.same))

    -- a call came
    proceeds_called : (stamp : ℕ) (event : Event) → Takes g stamp event old.node new.node → new.ins ≡ old.ins → Proceeds g old new
    proceeds_called stamp event takes ins = proceeds_by takes.keeps ins takes.same_mets takes.arms takes.calls takes.drops

-- a client's connection was read at its place and is another now, and so may the site be
module _ {D : Type 0} (g : Ghosts D) (told old : CellValue D) (is_told : old ≡ told) (node : NodeValue D) (number : ℕ)
    (found : Option LineValue) (before after : LineValue) (here : is_here told.lines number ≡ true)
    (at : found ≡ get_or old.lines number found) (there : found ≡ Some before) where
  abbrev after_turn : CellValue D
  after_turn = with_node old node (slice_set old.lines number (Some after))

  here_old : is_here old.lines number ≡ true
  here_old = subst (λ (v : CellValue D). is_here v.lines number ≡ true) (sym is_told) here

  was : slice_get old.lines number ≡ Some (Some before)
  was = slice_get-get_or old.lines number found (here_within old.lines number here_old) ∙ ap (λ x. Some x) (sym at ∙ there)

  now : slice_get after_turn.lines number ≡ Some (Some after)
  now = set_here old.lines number (Some after) (here_within old.lines number here_old)

  others_old : AreSameBut number old.lines after_turn.lines
  others_old other apart = set_there old.lines number other (Some after) apart

  pub others_are : AreSameBut number told.lines after_turn.lines
  others_are = subst (λ (v : CellValue D). AreSameBut number v.lines after_turn.lines) is_told others_old

  -- no call came
  pub cell_used : IsSameButRoom old.node node → IsCell old → IsCell after_turn
  cell_used same cell = cell_kept old node after_turn.lines (ap (λ (n : NodeValue D). n.catalog) same.same) (ap (λ (n : NodeValue D). n.site) same.same)
      (ap (λ (n : NodeValue D). n.trail) same.same) (here_set old.lines number after here_old) cell

  -- a call came
  pub cell_served : (call : Call) (stamp : ℕ) → Takes g stamp (Given (CallInput number call)) old.node node
      → stamp ≡ clock_in old.node + 1 → IsCell old → IsCell after_turn
  cell_served call stamp takes next cell =
      cell_taken old node after_turn.lines g stamp (Given (CallInput number call)) takes (here_set old.lines number after here_old) next here_old cell

  module _ (answer : Serve) (serves : ServesTo number (clock_in old.node) before after old.node.trail node.trail answer) where
    pub serves_is : ServesAt number told after_turn answer
    serves_is = subst (λ (v : CellValue D). ServesAt number v after_turn answer) is_told (serves_at g old after_turn number before after answer was now serves)

    pub turn_is : (can : Type 0) → (HasFault after → can) → (bytes : List ℕ) → IsLineAt bytes (calls_of number told.node.trail) told.lines number
        → TurnsTo number bytes (clock_in told.node) (HasFaultAt after_turn.lines number × can) told.node.trail node.trail answer
    turn_is can by = subst
        (λ (v : CellValue D). (bytes : List ℕ) → IsLineAt bytes (calls_of number v.node.trail) v.lines number
        → TurnsTo number bytes (clock_in v.node) (HasFaultAt after_turn.lines number × can) v.node.trail node.trail answer) is_told
        (turn_of g old after_turn number before after answer was now serves can by)

    pub proceeds_used : IsSameButRoom old.node node → Proceeds g told after_turn
    proceeds_used same = subst (λ (v : CellValue D). Proceeds g v after_turn) is_told
        (proceeds_idle g old after_turn number before after answer was now serves others_old same refl)

    pub proceeds_served : (stamp : ℕ) (event : Event) → Takes g stamp event old.node node → Proceeds g told after_turn
    proceeds_served stamp event takes = subst (λ (v : CellValue D). Proceeds g v after_turn) is_told
        (proceeds_called g old after_turn number before after answer was now serves others_old stamp event takes refl)

-- a reply that was given to a connection behind its call: it was written, or cut off
pub answer_put : {X E : Type 0} (r : Result X E) (client clock : ℕ) (before read after : LineValue) (old new : List Entry)
    → HasPlace (clock + 1) old → read.sent ≡ before.sent → (brings : BringsCall client before.incoming read.incoming old new)
    → OnOk r (Appends read.sent.held after.sent.held (concat (framed_reply brings.entry.came.outcome)))
    → OnOk r (after.sent.faults ≡ read.sent.faults) → OnOk r (after.incoming ≡ read.incoming)
    → OnErr r (IsCutOff brings.entry.came.outcome after.incoming.state read.sent after.sent)
    → OnErr r (after.incoming ≡ record read.incoming { state = state.Broken })
    → ServesTo client clock before after old new (if is_ok r then serve.Served else serve.Broken)
answer_put (Ok done) client clock before read after old new place sent brings whole faultless same cut broken = (
  place,
  record {
    brings = record {
      call = brings.call;
      takes = subst (λ (x : Incoming). TakesCall before.incoming x brings.call) (sym same) brings.takes;
      entry = brings.entry;
      trail = brings.trail;
      event_is = brings.event_is;
    };
    whole = subst (λ (x : Sent). Appends x.held after.sent.held (concat (framed_reply brings.entry.came.outcome))) sent whole;
    faultless = faultless ∙ ap (λ (x : Sent). x.faults) sent;
  },
)
answer_put (Err e) client clock before read after old new place sent brings whole faultless same cut broken = (
  place,
  inr (record {
    read = read.incoming;
    brings = brings;
    cut_off = subst (λ (x : Sent). IsCutOff brings.entry.came.outcome after.incoming.state x after.sent) sent cut;
    broken = broken;
  }),
)
