-- What the table of locks has of slow commits, as the rules' parts (docs/SITE.md, "Locks").
use Rattle.std.specs.Prelude.{◌≡◌, ◌<◌, ◌≤◌, ℕ, nat_eq, Bool, true, false, not, ◌&&◌, List, [], ◌∷◌, filter, slice_get, Option, Some, None, IsSome, if◌then◌else◌}
use Rattle.std.specs.List.{list_any}
use Rattle.std.specs.Map.{lookup}
use Rattle.std.specs.Option.{option_map_or}
use Rattle.walter_base.specs.declared.names.ObjId.{ObjId}
use Rattle.walter_base.specs.declared.names.SiteId.{SiteId}
use Rattle.walter_base.specs.declared.names.Tid.{Tid}
use Rattle.walter_base.specs.Names.{same_site, same_object}
use Rattle.walter_locks.specs.declared.lock.Lock.{Lock}
use Rattle.walter_locks.specs.declared.lock.SlowId.{SlowId}
use Rattle.walter_rules.specs.Slow.{Part, Free, Locked, Over, has_object}
use Rattle.walter_locks.specs.Intervals.{Numbers, is_among}

-- the locks by their slow commits, and for each coordinator the numbers that are over; for how many more objects and
-- locks there is room without memory
pub record Table : Type 0 where
  pub locks : List (SlowId × Lock)
  pub dead : List Numbers
  pub objects : ℕ
  pub places : ℕ

abbrev pub same_slow : SlowId → SlowId → Bool
same_slow a b = same_site a.coordinator b.coordinator && nat_eq a.slow b.slow

-- the number of the coordinator is over
abbrev pub is_dead : List Numbers → SiteId → ℕ → Bool
is_dead dead j n = option_map_or (λ numbers. is_among n numbers.intervals) (slice_get dead j.0) false

abbrev pub lock_of : List (SlowId × Lock) → SiteId → ℕ → Option Lock
lock_of locks j n = lookup (same_slow (record { coordinator = j; slow = n })) locks

-- what there is here of a slow commit: by the locks, else by the numbers that are over
abbrev pub part_of : Table → SiteId → ℕ → Part
part_of table j n =
    option_map_or (λ lock. Locked lock.owner lock.objects) (lock_of table.locks j n)
    (if is_dead table.dead j n then Over else Free)

-- the owner of the lock that has the object
abbrev pub owner_in : List (SlowId × Lock) → ObjId → Option Tid
owner_in [] oid = None
owner_in (e ∷ es) oid = if has_object oid e.1.objects then Some e.1.owner else owner_in es oid

abbrev pub owner_of : Table → ObjId → Option Tid
owner_of table oid = owner_in table.locks oid

-- whether the lock is of the coordinator, and has the object
abbrev pub is_lock_by : SiteId → SlowId × Lock → ObjId → Bool
is_lock_by coordinator e oid = same_site coordinator e.0.coordinator && has_object oid e.1.objects

abbrev pub is_locked_by : SiteId → List (SlowId × Lock) → ObjId → Bool
is_locked_by coordinator locks oid = list_any (λ e. is_lock_by coordinator e oid) locks

-- the locks of other coordinators
abbrev pub of_others : SiteId → List (SlowId × Lock) → List (SlowId × Lock)
of_others coordinator locks = filter (λ e. not (same_site coordinator e.0.coordinator)) locks

-- a lock of so many objects can be taken without memory
abbrev pub CanLock : Table → ℕ → Type 0
CanLock table objects = (objects ≤ table.objects) × (0 < table.places)

-- for how many more intervals of a coordinator there is room without memory
abbrev pub room_of : List Numbers → ℕ → ℕ
room_of dead place = option_map_or (λ numbers. numbers.room) (slice_get dead place) 0

-- a slow commit of the coordinator can be released without memory
abbrev pub CanRelease : Table → SiteId → Type 0
CanRelease table j = 0 < room_of table.dead j.0

-- each slow commit has one lock, and each object is in one lock
abbrev pub AreSingle : List (SlowId × Lock) → Type 0
AreSingle [] = Unit {0}
AreSingle (e ∷ es) =
    (lookup (same_slow e.0) es ≡ None) × ((oid : ObjId) → has_object oid e.1.objects ≡ true → owner_in es oid ≡ None)
    × AreSingle es

-- the owners are those of the locks, and what is locked isn't over
pub record AreLinked (owners : List (ObjId × Tid)) (locks : List (SlowId × Lock)) (dead : List Numbers) : Type 0 where
  pub owned : (oid : ObjId) → lookup (same_object oid) owners ≡ owner_in locks oid
  pub single : AreSingle locks
  pub alive : (j : SiteId) (n : ℕ) → IsSome (lock_of locks j n) → is_dead dead j n ≡ false
