-- What a site has of slow commits: of its own, and of those that ask for its objects (docs/SITE.md, "Slow commits" and
-- "Locks").
use Rattle.std.specs.Prelude.{ℕ, nat_eq, Bool, false, ◌&&◌, List, Option, Some, None}
use Rattle.std.specs.List.{list_any}
use Rattle.walter_base.specs.declared.names.ObjId.{ObjId}
use Rattle.walter_base.specs.declared.names.SiteId.{SiteId}
use Rattle.walter_base.specs.declared.names.Tid.{Tid}
use Rattle.walter_base.specs.declared.transaction.Tx.{Tx}
use Rattle.walter_base.specs.Names.{same_site, same_object}

-- an own slow commit, by its number: it isn't begun; it is being decided, and these sites are asked; it ended without a
-- commit, after these sites were asked; or it committed
pub data Slow : Type 0 where
  Unused : Slow
  Undecided : Tx → List SiteId → Slow
  Dropped : Tx → List SiteId → Slow
  Decided : Tx → Slow

-- what a site has of the slow commit of a coordinator, itself or another: nothing, a lock on these objects for its
-- transaction, or that it is over
pub data Part : Type 0 where
  Free : Part
  Locked : Tid → List ObjId → Part
  Over : Part

-- the transaction of a slow commit that was begun
abbrev pub begun : Slow → Option Tx
begun Unused = None
begun (Undecided tx asked) = Some tx
begun (Dropped tx asked) = Some tx
begun (Decided tx) = Some tx

-- without a commit it ends, where it is being decided
abbrev pub ended : Slow → Slow
ended Unused = Unused
ended (Undecided tx asked) = Dropped tx asked
ended (Dropped tx asked) = Dropped tx asked
ended (Decided tx) = Decided tx

-- with a commit
abbrev pub decided : Slow → Slow
decided Unused = Unused
decided (Undecided tx asked) = Decided tx
decided (Dropped tx asked) = Dropped tx asked
decided (Decided tx) = Decided tx

-- the two name the same slow commit, by coordinator and number
abbrev pub is_slow : SiteId → ℕ → SiteId → ℕ → Bool
is_slow j n k m = same_site j k && nat_eq n m

abbrev pub has_site : SiteId → List SiteId → Bool
has_site site sites = list_any (same_site site) sites

abbrev pub has_object : ObjId → List ObjId → Bool
has_object oid objects = list_any (same_object oid) objects

-- whether the part is a lock that has the object
abbrev pub does_lock : Part → ObjId → Bool
does_lock Free oid = false
does_lock (Locked tid objects) oid = has_object oid objects
does_lock Over oid = false

-- without its lock
abbrev pub unlocked : Part → Part
unlocked Free = Free
unlocked (Locked tid objects) = Free
unlocked Over = Over
