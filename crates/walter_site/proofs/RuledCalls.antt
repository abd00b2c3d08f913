-- What the rule says of a client's call: it is answered shortly, and only a Commit writes, or puts something out.
use Rattle.std.proofs.Common.{◌≡◌, ℕ, ℤ, nat_lt, Bool, true, false, not, List, [], length, Option, Some, None, Result, Ok, Err, if◌then◌else◌, refl}
use Rattle.std.specs.FinMap.{get}
use Rattle.walter_base.specs.declared.catalog.Catalog.{Catalog}
use Rattle.walter_base.specs.declared.containers.Container.{Container}
use Rattle.walter_base.specs.declared.message.BadFrame.{BadFrame}
use Rattle.walter_base.specs.declared.message.Refusal.TheVariants.{WrongSite, NotIssued, TxFull, TooLong, SetTooWide, SessionsFull}
use Rattle.walter_base.specs.declared.message.Reply.TheVariants.{Level, Value, Count, Aborted, Done, Set, Started}
use Rattle.walter_base.specs.declared.message.Request.{Request}
use Rattle.walter_base.specs.declared.message.Request.TheVariants.{Start, Read, Write, SetAdd, SetDel, SetRead, SetReadId, Commit, Abort, Level as LevelAsked}
use Rattle.walter_base.specs.declared.names.Kind.{Kind}
use Rattle.walter_base.specs.declared.names.Kind.TheVariants.{Regular, Cset}
use Rattle.walter_base.specs.declared.names.ObjId.{ObjId}
use Rattle.walter_base.specs.declared.names.SiteId.{SiteId}
use Rattle.walter_base.specs.declared.transaction.Cause.TheVariants.{Asked}
use Rattle.walter_base.specs.declared.update.Update.{Update}
use Rattle.walter_base.specs.declared.update.Update.TheVariants.{Write as WriteOf, Add, Del}
use Rattle.walter_base.specs.Names.{same_site}
use Rattle.walter_base.specs.Values.{value_of, count_of, counts_of}
use Rattle.walter_rules.specs.Calls.{Expected, answers, refuses, read_updates, call_rule, starts_for, if_whole, if_regular, if_counted, if_cset, has_place, updates_with, writes, shows, open_in, with_open, is_issued, level_of, next_tid}
use Rattle.walter_rules.specs.Knowledge.{Knowledge}
use Rattle.walter_rules.specs.Sessions.{Session}

-- nothing is put out
abbrev pub PutsNothing : Expected → Type 0
PutsNothing x = x.sends ≡ []

open_or : (o : Option Session) (f : Session → Expected) → ((s : Session) → PutsNothing (f s))
    → PutsNothing (with_open o f)
open_or None f each = refl
open_or (Some s) f each = each s

regular_or : (o : Option Container) (x : Expected) → PutsNothing x → PutsNothing (if_regular o x)
regular_or None x nothing = refl
regular_or (Some c) x nothing = by c.kind
  where
    by : (kind : Kind) → PutsNothing (if_whole kind x)
    by Regular = nothing
    by Cset = refl

cset_or : (o : Option Container) (x : Expected) → PutsNothing x → PutsNothing (if_cset o x)
cset_or None x nothing = refl
cset_or (Some c) x nothing = by c.kind
  where
    by : (kind : Kind) → PutsNothing (if_counted kind x)
    by Regular = refl
    by Cset = nothing

either : (test : Bool) (x y : Expected) → PutsNothing x → PutsNothing y → PutsNothing (if test then x else y)
either true x y first second = first
either false x y first second = second

nothing_updated : (s : Session) (update : Update) → PutsNothing (updates_with s update)
nothing_updated s update = either (has_place s.updates update) (answers Done) (refuses TxFull) refl refl

nothing_written : (s : Session) (oid : ObjId) (bytes : List ℕ) → PutsNothing (writes s oid bytes)
nothing_written s oid bytes =
    either (nat_lt 4096 (length bytes)) (refuses TooLong) (updates_with s (WriteOf oid bytes)) refl
    (nothing_updated s (WriteOf oid bytes))

nothing_shown : (counts : List (ℕ × ℤ)) → PutsNothing (shows counts)
nothing_shown counts = either (nat_lt 4095 (length counts)) (refuses SetTooWide) (answers (Set counts)) refl refl

-- a call that isn't a Commit
abbrev pub IsNoCommit : Result Request BadFrame → Type 0
IsNoCommit (Ok Commit) = ⊥
IsNoCommit call = Unit {0}

module _ (catalog : Catalog) (i : SiteId) (K : Knowledge) (session : Option Session) where
  -- nothing is put out but by a Commit
  pub nothing_called : (call : Result Request BadFrame) → IsNoCommit call
      → PutsNothing (call_rule catalog i K call session)
  nothing_called (Err bad) none = refl
  nothing_called (Ok Start) none = by session
    where
      by : (o : Option Session) → PutsNothing (starts_for i K o)
      by None =
          either (nat_lt (length K.sessions) 256) (answers (Started (next_tid i K))) (refuses SessionsFull) refl refl
      by (Some s) = refl
  nothing_called (Ok (Read oid)) none = open_or (open_in session) _
      (λ s. regular_or (get catalog.containers oid.container) (answers (Value (value_of oid (read_updates K s)))) refl)
  nothing_called (Ok (Write oid bytes)) none = open_or (open_in session) _
      (λ s. regular_or (get catalog.containers oid.container) (writes s oid bytes) (nothing_written s oid bytes))
  nothing_called (Ok (SetAdd oid id)) none = open_or (open_in session) _
      (λ s. cset_or (get catalog.containers oid.container) (updates_with s (Add oid id))
      (nothing_updated s (Add oid id)))
  nothing_called (Ok (SetDel oid id)) none = open_or (open_in session) _
      (λ s. cset_or (get catalog.containers oid.container) (updates_with s (Del oid id))
      (nothing_updated s (Del oid id)))
  nothing_called (Ok (SetRead oid)) none = open_or (open_in session) _
      (λ s. cset_or (get catalog.containers oid.container) (shows (counts_of oid (read_updates K s)))
      (nothing_shown (counts_of oid (read_updates K s))))
  nothing_called (Ok (SetReadId oid id)) none = open_or (open_in session) _
      (λ s. cset_or (get catalog.containers oid.container) (answers (Count (count_of oid id (read_updates K s)))) refl)
  nothing_called (Ok Commit) none = absurd none
  nothing_called (Ok Abort) none = open_or (open_in session) (λ s. answers (Aborted Asked)) (λ s. refl)
  nothing_called (Ok (LevelAsked tid)) none =
      either (not (same_site tid.site i)) (refuses WrongSite)
      (if is_issued K tid then answers (Level (level_of catalog i K tid)) else refuses NotIssued) refl
      (either (is_issued K tid) (answers (Level (level_of catalog i K tid))) (refuses NotIssued) refl refl)
