-- What the rules say of an input, by what holds of a site that is up: its record can follow and has a spelling, what is
-- put out can be sent, what is taken of a peer is news, and the site stays up.
use Rattle.std.proofs.Common.{◌≡◌, ◌≢◌, ◌≤◌, ℕ, true, [], Option, Some, Result, Ok, Err, IfSome, refl, sym, subst}
use Rattle.std.specs.Prelude.{All, IsSome}
use Rattle.std.proofs.lemmas.List.Elements.{All-nil}
use Rattle.walter_base.specs.declared.catalog.Catalog.{Catalog}
use Rattle.walter_base.specs.declared.format.Format.{Format}
use Rattle.walter_base.specs.declared.format.Format.TheVariants.{First, Second}
use Rattle.walter_base.specs.declared.message.BadFrame.{BadFrame}
use Rattle.walter_base.specs.declared.message.Request.{Request}
use Rattle.walter_base.specs.declared.message.Request.TheVariants.{Start, Read, Write, SetAdd, SetDel, SetRead, SetReadId, Commit, Abort, Level as LevelAsked}
use Rattle.walter_base.specs.declared.names.SiteId.{SiteId}
use Rattle.walter_base.specs.Vectors.{most_sites}
use Rattle.walter_base.proofs.ByClient.{all_of_client}
use Rattle.walter_rules.specs.declared.event.Event.TheVariants.{Given}
use Rattle.walter_rules.specs.declared.event.Input.{Input}
use Rattle.walter_rules.specs.declared.event.Input.TheVariants.{Call, Deliver, Advance, Tick, Upgrade}
use Rattle.walter_rules.specs.declared.outcome.Outcome.{Outcome}
use Rattle.walter_rules.specs.declared.outcome.Outcome.TheVariants.{Replied}
use Rattle.walter_rules.specs.Allowed.{IsKind}
use Rattle.walter_rules.specs.Calls.{call_rule}
use Rattle.walter_rules.specs.Knowledge.{Knowledge, session_of}
use Rattle.walter_rules.specs.Learning.{recorded, after}
use Rattle.walter_rules.specs.Records.{CanFollow, IsRecordAmong}
use Rattle.walter_rules.specs.Layouts.{in_force}
use Rattle.walter_rules.specs.Rule.{MayWant, upgrade_rule}
use Rattle.walter_rules.specs.Sessions.{Session}
use Rattle.walter_rules.specs.Trails.{TakesMemory}
use Rattle.walter_rules.proofs.RulesAllowed.{rule_allowed}
use Rattle.walter_alone.proofs.Followed.{record_follows}
use Rattle.walter_tables.specs.Open.{IsOpenAt, AreOpenAt}
use Rattle.walter_tables.specs.Sound.{IsSound}
use Rattle.walter_tables.proofs.Fair.{IsFair, ruled_fair, fair_short}
use Rattle.walter_site.specs.Members.{IsStarted, up_with, input_rule, IsSizedPacket, IsSizedInput, IsShortOutcome}
use Rattle.walter_site.specs.Plans.{IsNewsIn, IsFromWithin}
use Rattle.walter_site.proofs.RuledCalls.{IsNoCommit, nothing_called}
use Rattle.walter_site.proofs.RuledKinds.{IsOfCall, IsNoCall, kind_of_call, kind_recorded, kind_started, kind_wants}
use Rattle.walter_site.proofs.RuledNews.{deliver_news, deliver_within}
use Rattle.walter_site.proofs.RuledSent.{IsSizedSend, AreAllSized, commit_sized, deliver_sized, advance_sized, again_sized}

-- what is no call has no reply, and so no long one
unanswered_short : (input : Input) (outcome : Outcome) → IsOfCall outcome input → IsNoCall input
    → IsShortOutcome outcome
unanswered_short (Call client call) (Replied reply) of none = absurd none
unanswered_short input (Replied reply) of none = absurd of
unanswered_short input outcome of none = tt

module _ (header : Format) (catalog : Catalog) (i : SiteId) (K : Knowledge) (S : IsSound catalog i K)
    (A : AreOpenAt catalog i K.sessions) (U : IsStarted i K) (most : catalog.sites ≤ most_sites) where
  -- each session may be open
  opens : (client : ℕ) (s : Session) → session_of K client ≡ Some s → IsOpenAt catalog i s
  opens client s is = subst (λ o. IfSome o (IsOpenAt catalog i)) is
      (all_of_client (IsOpenAt catalog i) client K.sessions A.each)

  session_is : (client : ℕ) → IfSome (session_of K client) (IsOpenAt catalog i)
  session_is client = all_of_client (IsOpenAt catalog i) client K.sessions A.each

  -- what comes is of a kind
  kind_is : (input : Input) → IsKind catalog i (up_with K) (Given input) (input_rule header catalog i K input).wrote
      (input_rule header catalog i K input).outcome
  kind_is input = (rule_allowed header catalog i (up_with K) (Given input)).0.kind

  pub rule_follows : (input : Input) → IfSome (input_rule header catalog i K input).wrote (CanFollow catalog i K)
  rule_follows input = record_follows catalog i (up_with K) S.learned
      (λ client s is. let open_ = opens client s is in (open_.here, open_.declared))
      (λ n tx asked undecided. ((S.asking n tx asked undecided).named, U.own n tx asked undecided))
      (λ up. U.booted) (Given input) (input_rule header catalog i K input).wrote
      (input_rule header catalog i K input).outcome (kind_is input)

  pub rule_recorded : (input : Input) → IsSizedInput catalog.sites input
      → IfSome (input_rule header catalog i K input).wrote (IsRecordAmong catalog.sites)
  rule_recorded input sizes = kind_recorded catalog i (up_with K) S opens most (Given input)
      (input_rule header catalog i K input).wrote (input_rule header catalog i K input).outcome (kind_is input) sizes

  -- a call but a Commit puts out nothing
  quiet_sized : (client : ℕ) (call : Result Request BadFrame) → IsNoCommit call
      → AreAllSized catalog i (input_rule header catalog i K (Call client call)).sends
  quiet_sized client call none = subst (AreAllSized catalog i)
      (sym (nothing_called catalog i K (session_of K client) call none)) (All-nil (IsSizedSend catalog.sites))

  call_sized : (client : ℕ) (call : Result Request BadFrame)
      → AreAllSized catalog i (input_rule header catalog i K (Call client call)).sends
  call_sized client (Ok Commit) = commit_sized catalog i K S most (session_of K client) (opens client)
  call_sized client (Err bad) = quiet_sized client (Err bad) tt
  call_sized client (Ok Start) = quiet_sized client (Ok Start) tt
  call_sized client (Ok (Read oid)) = quiet_sized client (Ok (Read oid)) tt
  call_sized client (Ok (Write oid bytes)) = quiet_sized client (Ok (Write oid bytes)) tt
  call_sized client (Ok (SetAdd oid id)) = quiet_sized client (Ok (SetAdd oid id)) tt
  call_sized client (Ok (SetDel oid id)) = quiet_sized client (Ok (SetDel oid id)) tt
  call_sized client (Ok (SetRead oid)) = quiet_sized client (Ok (SetRead oid)) tt
  call_sized client (Ok (SetReadId oid id)) = quiet_sized client (Ok (SetReadId oid id)) tt
  call_sized client (Ok Abort) = quiet_sized client (Ok Abort) tt
  call_sized client (Ok (LevelAsked tid)) = quiet_sized client (Ok (LevelAsked tid)) tt

  -- nor does an upgrade
  upgrade_sized : (format : Format) → AreAllSized catalog i (upgrade_rule format).sends
  upgrade_sized First = All-nil (IsSizedSend catalog.sites)
  upgrade_sized Second = All-nil (IsSizedSend catalog.sites)

  pub rule_sent : (input : Input) → IsSizedInput catalog.sites input
      → All (λ s. IsSizedPacket catalog.sites s.1) (input_rule header catalog i K input).sends
  rule_sent (Call client call) sizes = call_sized client call
  rule_sent (Deliver from number packet) sizes = deliver_sized catalog i K S from packet
  rule_sent (Advance from) sizes = advance_sized catalog i K S from
  rule_sent Tick sizes = again_sized catalog i K S
  rule_sent Upgrade sizes = upgrade_sized (in_force header K.format)

  pub rule_short : (input : Input) → IsShortOutcome (input_rule header catalog i K input).outcome
  rule_short (Call client call) =
      short_of call (session_of K client) (call_rule catalog i K call (session_of K client)).outcome
      (ruled_fair catalog i K S.held call (session_of K client) (session_is client))
    where
      short_of : (call : Result Request BadFrame) (session : Option Session) (outcome : Outcome)
          → IsFair catalog i K call session outcome → IsShortOutcome outcome
      short_of call session (Replied reply) fair = fair_short catalog i K call session reply fair
      short_of call session outcome fair = tt
  rule_short (Deliver from number packet) = unanswered_short (Deliver from number packet)
      (input_rule header catalog i K (Deliver from number packet)).outcome
      (kind_of_call catalog i (up_with K) (Given (Deliver from number packet)) _ _
      (kind_is (Deliver from number packet))) tt
  rule_short (Advance from) = unanswered_short (Advance from) (input_rule header catalog i K (Advance from)).outcome
      (kind_of_call catalog i (up_with K) (Given (Advance from)) _ _ (kind_is (Advance from))) tt
  rule_short Tick = tt
  rule_short Upgrade = unanswered_short Upgrade (input_rule header catalog i K Upgrade).outcome
      (kind_of_call catalog i (up_with K) (Given Upgrade) _ _ (kind_is Upgrade)) tt

  -- what is taken is news behind the record
  pub rule_news : (input : Input)
      → IsNewsIn i (recorded catalog i (input_rule header catalog i K input).wrote K) input
      (input_rule header catalog i K input).outcome
  rule_news (Deliver from number packet) = deliver_news catalog i K S from number packet
  rule_news (Call client call) = tt
  rule_news (Advance from) = tt
  rule_news Tick = tt
  rule_news Upgrade = tt

  pub rule_within : (input : Input) → IsFromWithin catalog input (input_rule header catalog i K input).outcome
  rule_within (Deliver from number packet) = deliver_within catalog i K from number packet
  rule_within (Call client call) = tt
  rule_within (Advance from) = tt
  rule_within Tick = tt
  rule_within Upgrade = tt

  pub rule_started : (input : Input) → IsStarted i
      (after catalog i K (Given input) (input_rule header catalog i K input).outcome
      (input_rule header catalog i K input).wrote)
  rule_started input =
      let is = kind_started catalog i (up_with K) U refl (λ client s session. (opens client s session).here)
      (Given input) (input_rule header catalog i K input).wrote (input_rule header catalog i K input).outcome
      (kind_is input) in
      record { booted = is.booted; own = is.own }

  -- a record and packets come of inputs alone that may want memory
  pub rule_wants_record : (input : Input) → IsSome (input_rule header catalog i K input).wrote
      → TakesMemory true (Given input)
  rule_wants_record input is = kind_wants catalog i (up_with K) refl (Given input)
      (input_rule header catalog i K input).wrote (input_rule header catalog i K input).outcome (kind_is input) is

  -- a call but a Commit puts out nothing
  quiet_wants : (client : ℕ) (call : Result Request BadFrame) → IsNoCommit call
      → (input_rule header catalog i K (Call client call)).sends ≢ [] → MayWant call
  quiet_wants client call none some = absurd (some (nothing_called catalog i K (session_of K client) call none))

  pub rule_wants_sends : (input : Input) → (input_rule header catalog i K input).sends ≢ []
      → TakesMemory true (Given input)
  rule_wants_sends (Call client (Ok Commit)) some = tt
  rule_wants_sends (Call client (Err bad)) some = quiet_wants client (Err bad) tt some
  rule_wants_sends (Call client (Ok (SetReadId oid id))) some = quiet_wants client (Ok (SetReadId oid id)) tt some
  rule_wants_sends (Call client (Ok Abort)) some = quiet_wants client (Ok Abort) tt some
  rule_wants_sends (Call client (Ok (LevelAsked tid))) some = quiet_wants client (Ok (LevelAsked tid)) tt some
  rule_wants_sends input some = tt
