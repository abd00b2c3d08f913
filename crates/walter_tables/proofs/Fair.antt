-- What the rule for a call brings, where all sessions may be open and all transactions of the log are held rightly.
use Rattle.std.proofs.Common.{◌≡◌, ℕ, zero, suc, ◌<◌, ◌≤◌, Bool, true, false, not, ◌&&◌, nat_lt, nat_le, List, [], ◌∷◌, ◌++◌, length, All, filter, flat_map, Option, Some, None, IfSome, Result, Ok, Err, refl, ap, ◌∙◌, arith, if◌then◌else◌, ℤ}
use Rattle.std.specs.Prelude.{IsSomeAnd}
use Rattle.std.specs.FinMap.{get}
use Rattle.std.specs.Option.{option_map_or}
use Rattle.std.proofs.lemmas.Bool.Decides.{nat_tests}
use Rattle.std.proofs.lemmas.List.{length-append}
use Rattle.std.proofs.lemmas.List.Elements.{All-nil, All-head, All-tail, All-push, All-append, All-filter}
use Rattle.std.proofs.lemmas.List.Folds.{list_all-append}
use Rattle.walter_base.specs.declared.catalog.Catalog.{Catalog}
use Rattle.walter_base.specs.declared.containers.Container.{Container}
use Rattle.walter_base.specs.declared.message.BadFrame.{BadFrame}
use Rattle.walter_base.specs.declared.message.Refusal.TheVariants.{TxFull, NoTx, SetTooWide, TooLong, SessionsFull, WrongSite, NotIssued}
use Rattle.walter_base.specs.declared.message.Reply.{Reply}
use Rattle.walter_base.specs.declared.message.Reply.TheVariants.{Started, Value, Done, Set, Count, Committed, Aborted, Deciding, Level, Ended, Unsure, Refused}
use Rattle.walter_base.specs.declared.message.Request.{Request}
use Rattle.walter_base.specs.declared.message.Request.TheVariants.{Start, Read, Write, SetAdd, SetDel, SetRead, SetReadId, Commit, Abort, Level as LevelAsked}
use Rattle.walter_base.specs.declared.names.Kind.{Kind}
use Rattle.walter_base.specs.declared.names.Kind.TheVariants.{Regular, Cset}
use Rattle.walter_base.specs.declared.names.ObjId.{ObjId}
use Rattle.walter_base.specs.declared.names.SiteId.{SiteId}
use Rattle.walter_base.specs.declared.names.Tid.{Tid}
use Rattle.walter_base.specs.declared.transaction.Cause.TheVariants.{Asked}
use Rattle.walter_base.specs.declared.transaction.Conflict.{Conflict}
use Rattle.walter_base.specs.declared.update.Update.{Update}
use Rattle.walter_base.specs.declared.update.Update.TheVariants.{Write as WriteOf, Add, Del}
use Rattle.walter_base.specs.Names.{same_object, same_site}
use Rattle.walter_base.specs.Sizes.{HasShortValue, IsShortReply, size_of_updates}
use Rattle.walter_base.specs.Values.{held_after, value_from, value_of, count_of, counts_of}
use Rattle.walter_rules.specs.declared.held.Held.{Held}
use Rattle.walter_rules.specs.declared.outcome.Outcome.{Outcome}
use Rattle.walter_rules.specs.declared.outcome.Outcome.TheVariants.{Replied}
use Rattle.walter_rules.specs.Calls.{Expected, answers, refuses, call_rule, level_of, starts_new, read_updates, if_regular, if_whole, if_cset, if_counted, updates_with, writes, shows, has_place, if_local, decides, commits_open, commits_by, tells_cause, tells_version, tells_decision, seq_of, next_tid, is_issued, tells_level, if_open, open_in, with_open}
use Rattle.walter_rules.specs.Conflicts.{first_conflict}
use Rattle.walter_rules.specs.Declarations.{same_kind, is_of_kind, is_declared, are_declared}
use Rattle.walter_rules.specs.Knowledge.{Knowledge}
use Rattle.walter_rules.specs.Learning.{updated}
use Rattle.walter_rules.specs.Log.{sees}
use Rattle.walter_rules.specs.Objects.{objects_at, are_local}
use Rattle.walter_rules.specs.Sessions.{Session, with_update}
use Rattle.walter_rules.specs.Slow.{Slow, Unused, Undecided, Dropped, Decided}
use Rattle.walter_tables.specs.Open.{IsOpenAt}
use Rattle.walter_tables.specs.Sound.{HoldsTx}

-- a value of at most 4,096 bytes, if there is one
abbrev IsShort : Option (List ℕ) → Type 0
IsShort value = IfSome value (λ bytes. length bytes ≤ 4096)

short_after : (oid : ObjId) (held : Option (List ℕ)) (update : Update) → IsShort held → HasShortValue update
    → IsShort (held_after oid held update)
short_after oid held (WriteOf at bytes) short one =
    elim (same_object at oid) as (λ b. IsShort (if b then Some bytes else held)) [ true ↦ one | false ↦ short ]
short_after oid held (Add at id) short one = short
short_after oid held (Del at id) short one = short

short_from : (oid : ObjId) (held : Option (List ℕ)) (updates : List Update) → IsShort held → All HasShortValue updates
    → IsShort (value_from held oid updates)
short_from oid held [] short all = short
short_from oid held (u ∷ us) short all =
    short_from oid (held_after oid held u) us (short_after oid held u short (All-head HasShortValue u us all))
    (All-tail HasShortValue u us all)

short_held : (catalog : Catalog) (held : List Held) → All (HoldsTx catalog) held
    → All HasShortValue (flat_map (λ h. h.tx.updates) held)
short_held catalog [] all = All-nil HasShortValue
short_held catalog (h ∷ hs) all =
    All-append HasShortValue h.tx.updates (flat_map (λ o. o.tx.updates) hs)
    (All-head (HoldsTx catalog) h hs all).spelled.updates.values
    (short_held catalog hs (All-tail (HoldsTx catalog) h hs all))

short_read : (catalog : Catalog) (K : Knowledge) (s : Session) → All (HoldsTx catalog) K.log
    → All HasShortValue s.updates → All HasShortValue (read_updates K s)
short_read catalog K s held own =
    All-append HasShortValue (flat_map (λ h. h.tx.updates) (filter (sees s.snapshot) K.log)) s.updates
    (short_held catalog (filter (sees s.snapshot) K.log) (All-filter (sees s.snapshot) (HoldsTx catalog) K.log held))
    own

-- what is asked of an outcome: a value in it is short; a transaction that starts has the next name, its client has
-- none, and there are fewer than 256; one that takes an update may be open with it
abbrev pub IsFair : Catalog → SiteId → Knowledge → Result Request BadFrame → Option Session → Outcome → Type 0
IsFair catalog i K call session (Replied (Started tid)) =
    (session ≡ None) × (tid ≡ next_tid i K) × (length K.sessions < 256)
IsFair catalog i K call session (Replied Done) = IsSomeAnd session (λ s. IsOpenAt catalog i (updated call s))
IsFair catalog i K call session (Replied reply) = IsShortReply reply
IsFair catalog i K call session outcome = Unit {0}

if_regular-fair : (P : Outcome → Type 0) (container : Option Container) (expected : Expected)
    → ((c : Container) → container ≡ Some c → c.kind ≡ Regular → P expected.outcome)
    → P (if_regular None expected).outcome → P (if_whole Cset expected).outcome
    → P (if_regular container expected).outcome
if_regular-fair P None expected regular none cset = none
if_regular-fair P (Some c) expected regular none cset =
    elim c.kind as (λ k. c.kind ≡ k → P (if_whole k expected).outcome) [
      | Regular ↦ λ is. regular c refl is
      | Cset ↦ λ is. cset
    ] refl

if_cset-fair : (P : Outcome → Type 0) (container : Option Container) (expected : Expected)
    → ((c : Container) → container ≡ Some c → c.kind ≡ Cset → P expected.outcome)
    → P (if_cset None expected).outcome → P (if_counted Regular expected).outcome
    → P (if_cset container expected).outcome
if_cset-fair P None expected counted none regular = none
if_cset-fair P (Some c) expected counted none regular =
    elim c.kind as (λ k. c.kind ≡ k → P (if_counted k expected).outcome) [
      | Regular ↦ λ is. regular
      | Cset ↦ λ is. counted c refl is
    ] refl

itself_kind : (kind : Kind) → same_kind kind kind ≡ true
itself_kind Regular = refl
itself_kind Cset = refl

-- an object of a container of this kind
of_kind : (catalog : Catalog) (kind : Kind) (oid : ObjId) (c : Container)
    → get catalog.containers oid.container ≡ Some c → c.kind ≡ kind → is_of_kind catalog kind oid ≡ true
of_kind catalog kind oid c at is =
    ap (λ o. option_map_or (λ container. same_kind container.kind kind) o false) at
    ∙ ap (λ k. same_kind k kind) is ∙ itself_kind kind

-- one more that is declared
declared_more : (catalog : Catalog) (updates : List Update) (update : Update) → are_declared catalog updates ≡ true
    → is_declared catalog update ≡ true → are_declared catalog (updates ++ update ∷ []) ≡ true
declared_more catalog updates update all one =
    list_all-append (is_declared catalog) updates (update ∷ [])
    ∙ (λ t. all t && (one t && true))

-- an update that the transaction has a place for
open_updated : (catalog : Catalog) (i : SiteId) (s : Session) (update : Update) → IsOpenAt catalog i s
    → is_declared catalog update ≡ true → HasShortValue update → has_place s.updates update ≡ true
    → IsOpenAt catalog i (with_update update s)
open_updated catalog i s update is one value place =
    let parts =
    both (nat_lt (length s.updates) 256) (nat_le (size_of_updates (s.updates ++ update ∷ [])) 60000) place in
    record {
      here = is.here;
      sites = is.sites;
      declared = declared_more catalog s.updates update is.declared one;
      small = record {
        few = let l = length-append s.updates (update ∷ []) in grind (arith, nat_tests, parts.0, l);
        values = All-push HasShortValue s.updates update is.small.values value;
        size = grind (arith, nat_tests, parts.1);
      };
    }
  where
    both : (a b : Bool) → (a && b) ≡ true → (a ≡ true) × (b ≡ true)
    both true b h = (refl, h)
    both false b h = absurd (cc)

fair_updated : (P : Outcome → Type 0) (s : Session) (update : Update)
    → (has_place s.updates update ≡ true → P (Replied Done)) → P (Replied (Refused TxFull))
    → P (updates_with s update).outcome
fair_updated P s update done full =
    let yes : Expected = answers Done in
    elim (has_place s.updates update)
    as (λ b. has_place s.updates update ≡ b → P (if b then yes else refuses TxFull).outcome) [
      | true ↦ λ place. done place
      | false ↦ λ none. full
    ] refl

fair_write : (catalog : Catalog) (i : SiteId) (K : Knowledge) (s : Session) (oid : ObjId) (bytes : List ℕ)
    (c : Container) → IsOpenAt catalog i s → get catalog.containers oid.container ≡ Some c → c.kind ≡ Regular
    → IsFair catalog i K (Ok (Write oid bytes)) (Some s) (writes s oid bytes).outcome
fair_write catalog i K s oid bytes c is at kind =
    let P : Outcome → Type 0 = λ o. IsFair catalog i K (Ok (Write oid bytes)) (Some s) o in
    let write = WriteOf oid bytes in
    elim (nat_lt 4096 (length bytes))
    as (λ b. nat_lt 4096 (length bytes) ≡ b → P (if b then refuses TooLong else updates_with s write).outcome) [
      | true ↦ λ long. tt
      | false ↦ λ short.
          let value : length bytes ≤ 4096 = grind (arith, nat_tests, short) in
          fair_updated P s write (open_updated catalog i s write is (of_kind catalog Regular oid c at kind) value) tt
    ] refl

fair_shown : (P : Outcome → Type 0) (counts : List (ℕ × ℤ)) → (length counts ≤ 4095 → P (Replied (Set counts)))
    → P (Replied (Refused SetTooWide)) → P (shows counts).outcome
fair_shown P counts shown wide =
    let yes : Expected = answers (Set counts) in
    elim (nat_lt 4095 (length counts))
    as (λ b. nat_lt 4095 (length counts) ≡ b → P (if b then refuses SetTooWide else yes).outcome) [
      | true ↦ λ long. wide
      | false ↦ λ short. shown (grind (arith, nat_tests, short))
    ] refl

fair_start : (catalog : Catalog) (i : SiteId) (K : Knowledge)
    → IsFair catalog i K (Ok Start) None (starts_new i K).outcome
fair_start catalog i K =
    let yes : Expected = answers (Started (next_tid i K)) in
    elim (nat_lt (length K.sessions) 256)
    as (λ b. nat_lt (length K.sessions) 256 ≡ b
    → IsFair catalog i K (Ok Start) None (if b then yes else refuses SessionsFull).outcome) [
      | true ↦ λ few. (refl, refl, grind (arith, nat_tests, few))
      | false ↦ λ full. tt
    ] refl

fair_decided : (catalog : Catalog) (i : SiteId) (K : Knowledge) (s : Session) (conflict : Option Conflict)
    → IsFair catalog i K (Ok Commit) (Some s) (decides catalog i K s conflict).outcome
fair_decided catalog i K s None =
    elim (are_local catalog K i s.updates)
    as (λ b. IsFair catalog i K (Ok Commit) (Some s) (if_local b catalog i K s).outcome) [ true ↦ tt | false ↦ tt ]
fair_decided catalog i K s (Some conflict) = tt

fair_open : (catalog : Catalog) (i : SiteId) (K : Knowledge) (s : Session) (updates : List Update)
    → IsFair catalog i K (Ok Commit) (Some s) (commits_open catalog i K s updates).outcome
fair_open catalog i K s [] = tt
fair_open catalog i K s (u ∷ us) =
    fair_decided catalog i K s (first_conflict K s.snapshot (objects_at catalog K i s.updates))

fair_cause : (catalog : Catalog) (i : SiteId) (K : Knowledge) (s : Session) (conflict : Option Conflict)
    → IsFair catalog i K (Ok Commit) (Some s) (tells_cause conflict).outcome
fair_cause catalog i K s None = tt
fair_cause catalog i K s (Some conflict) = tt

fair_version : (catalog : Catalog) (i : SiteId) (K : Knowledge) (s : Session) (seq : Option ℕ)
    → IsFair catalog i K (Ok Commit) (Some s) (tells_version i seq).outcome
fair_version catalog i K s None = tt
fair_version catalog i K s (Some seq) = tt

fair_begun : (catalog : Catalog) (i : SiteId) (K : Knowledge) (s : Session) (slow : Slow)
    → IsFair catalog i K (Ok Commit) (Some s) (tells_decision i K s slow).outcome
fair_begun catalog i K s Unused = tt
fair_begun catalog i K s (Undecided tx asked) = tt
fair_begun catalog i K s (Dropped tx asked) = fair_cause catalog i K s (K.said_no s.slow)
fair_begun catalog i K s (Decided tx) = fair_version catalog i K s (seq_of i K s.tid)

fair_commit : (catalog : Catalog) (i : SiteId) (K : Knowledge) (s : Session) (n : ℕ)
    → IsFair catalog i K (Ok Commit) (Some s) (commits_by catalog i K s n).outcome
fair_commit catalog i K s zero = fair_open catalog i K s s.updates
fair_commit catalog i K s (suc n) = fair_begun catalog i K s (K.slow (suc n))

fair_level : (catalog : Catalog) (i : SiteId) (K : Knowledge) (tid : Tid) (session : Option Session)
    → IsFair catalog i K (Ok (LevelAsked tid)) session (tells_level catalog i K tid).outcome
fair_level catalog i K tid session =
    let P : Outcome → Type 0 = λ o. IsFair catalog i K (Ok (LevelAsked tid)) session o in
    let told : Expected = answers (Level (level_of catalog i K tid)) in
    elim (same_site tid.site i)
    as (λ b. P (if not b then refuses WrongSite else if is_issued K tid then told else refuses NotIssued).outcome) [
      | true ↦
          elim (is_issued K tid) as (λ b. P (if b then told else refuses NotIssued).outcome) [ true ↦ tt | false ↦ tt ]
      | false ↦ tt
    ]

-- what needs an open transaction
when_open : (P : Outcome → Type 0) (s : Session) (f : Session → Expected) → P (Replied (Refused NoTx)) → P (f s).outcome
    → P (with_open (open_in (Some s)) f).outcome
when_open P s f none some = by s.slow
  where
    by : (n : ℕ) → P (with_open (if_open n s) f).outcome
    by zero = some
    by (suc n) = none

-- the outcome that the rule gives is fair
module _ (catalog : Catalog) (i : SiteId) (K : Knowledge) (held : All (HoldsTx catalog) K.log) where
  -- what the outcome of this call, of this session, is to be
  abbrev IsFairOf : Request → Session → Outcome → Type 0
  IsFairOf request s outcome = IsFair catalog i K (Ok request) (Some s) outcome

  short_value : (value : Option (List ℕ)) → IsShort value → IsShortReply (Value value)
  short_value None short = tt
  short_value (Some bytes) short = short

  pub ruled_fair : (call : Result Request BadFrame) (session : Option Session) → IfSome session (IsOpenAt catalog i)
      → IsFair catalog i K call session (call_rule catalog i K call session).outcome
  ruled_fair (Err bad) session is = tt
  ruled_fair (Ok Start) None is = fair_start catalog i K
  ruled_fair (Ok Start) (Some s) is = tt
  ruled_fair (Ok (Read oid)) None is = tt
  ruled_fair (Ok (Read oid)) (Some s) is =
      let value = value_of oid (read_updates K s) in
      let short = short_from oid None (read_updates K s) tt (short_read catalog K s held is.small.values) in
      let P = IsFairOf (Read oid) s in
      when_open P s
      (λ o. if_regular (get catalog.containers oid.container) (answers (Value (value_of oid (read_updates K o))))) tt
      (if_regular-fair P (get catalog.containers oid.container) (answers (Value value))
      (λ c at kind. short_value value short) tt tt)
  ruled_fair (Ok (Write oid bytes)) None is = tt
  ruled_fair (Ok (Write oid bytes)) (Some s) is =
      let P = IsFairOf (Write oid bytes) s in
      when_open P s (λ o. if_regular (get catalog.containers oid.container) (writes o oid bytes)) tt
      (if_regular-fair P (get catalog.containers oid.container) (writes s oid bytes)
      (λ c at kind. fair_write catalog i K s oid bytes c is at kind) tt tt)
  ruled_fair (Ok (SetAdd oid id)) None is = tt
  ruled_fair (Ok (SetAdd oid id)) (Some s) is =
      let P = IsFairOf (SetAdd oid id) s in
      when_open P s (λ o. if_cset (get catalog.containers oid.container) (updates_with o (Add oid id))) tt
      (if_cset-fair P (get catalog.containers oid.container) (updates_with s (Add oid id))
      (λ c at kind. fair_updated P s (Add oid id)
      (open_updated catalog i s (Add oid id) is (of_kind catalog Cset oid c at kind) tt) tt) tt tt)
  ruled_fair (Ok (SetDel oid id)) None is = tt
  ruled_fair (Ok (SetDel oid id)) (Some s) is =
      let P = IsFairOf (SetDel oid id) s in
      when_open P s (λ o. if_cset (get catalog.containers oid.container) (updates_with o (Del oid id))) tt
      (if_cset-fair P (get catalog.containers oid.container) (updates_with s (Del oid id))
      (λ c at kind. fair_updated P s (Del oid id)
      (open_updated catalog i s (Del oid id) is (of_kind catalog Cset oid c at kind) tt) tt) tt tt)
  ruled_fair (Ok (SetRead oid)) None is = tt
  ruled_fair (Ok (SetRead oid)) (Some s) is =
      let P = IsFairOf (SetRead oid) s in
      let counts = counts_of oid (read_updates K s) in
      when_open P s (λ o. if_cset (get catalog.containers oid.container) (shows (counts_of oid (read_updates K o)))) tt
      (if_cset-fair P (get catalog.containers oid.container) (shows counts)
      (λ c at kind. fair_shown P counts (λ short. short) tt) tt tt)
  ruled_fair (Ok (SetReadId oid id)) None is = tt
  ruled_fair (Ok (SetReadId oid id)) (Some s) is =
      let P = IsFairOf (SetReadId oid id) s in
      when_open P s
      (λ o. if_cset (get catalog.containers oid.container) (answers (Count (count_of oid id (read_updates K o))))) tt
      (if_cset-fair P (get catalog.containers oid.container) (answers (Count (count_of oid id (read_updates K s))))
      (λ c at kind. tt) tt tt)
  ruled_fair (Ok Commit) None is = tt
  ruled_fair (Ok Commit) (Some s) is = fair_commit catalog i K s s.slow
  ruled_fair (Ok Abort) None is = tt
  ruled_fair (Ok Abort) (Some s) is = when_open (IsFairOf Abort s) s (λ o. answers (Aborted Asked)) tt tt
  ruled_fair (Ok (LevelAsked tid)) session is = fair_level catalog i K tid session

-- a value in a fair reply is short
pub fair_short : (catalog : Catalog) (i : SiteId) (K : Knowledge) (call : Result Request BadFrame)
    (session : Option Session) (reply : Reply) → IsFair catalog i K call session (Replied reply) → IsShortReply reply
fair_short catalog i K call session (Started tid) fair = tt
fair_short catalog i K call session Done fair = tt
fair_short catalog i K call session (Value value) fair = fair
fair_short catalog i K call session (Set counts) fair = fair
fair_short catalog i K call session (Count count) fair = tt
fair_short catalog i K call session (Committed version) fair = tt
fair_short catalog i K call session (Aborted cause) fair = tt
fair_short catalog i K call session (Level level) fair = tt
fair_short catalog i K call session Ended fair = tt
fair_short catalog i K call session (Deciding tid) fair = tt
fair_short catalog i K call session (Unsure tid) fair = tt
fair_short catalog i K call session (Refused refusal) fair = tt
