-- Tests on names, each true exactly at equal names (proofs/NameTests); and the order of objects.
use Rattle.std.specs.Prelude.{◌≡◌, ◌<◌, ◌⊎◌, Bool, ◌&&◌, nat_eq, List, AllPairs}
use Rattle.walter_base.specs.declared.names.ObjId.{ObjId}
use Rattle.walter_base.specs.declared.names.SiteId.{SiteId}
use Rattle.walter_base.specs.declared.names.Tid.{Tid}

abbrev pub same_site : SiteId → SiteId → Bool
same_site a b = nat_eq a.0 b.0

abbrev pub same_object : ObjId → ObjId → Bool
same_object a b = nat_eq a.container b.container && nat_eq a.local b.local

abbrev pub same_tid : Tid → Tid → Bool
same_tid a b = same_site a.site b.site && (nat_eq a.epoch b.epoch && nat_eq a.number b.number)

-- by container, and in one container by number
abbrev pub IsBefore : ObjId → ObjId → Type 0
IsBefore a b = (a.container < b.container) ⊎ ((a.container ≡ b.container) × (a.local < b.local))

-- objects that rise, so that none stands twice
abbrev pub AreRising : List ObjId → Type 0
AreRising objects = AllPairs IsBefore objects
