-- What of a transaction is preferred at a site: whether it may be locked there, and what of it is.
use Rattle.std.specs.Prelude.{◌≡◌, ℕ, true, List, slice_get, Some, Contains}
use Rattle.walter_base.specs.declared.names.ObjId.{ObjId}
use Rattle.walter_base.specs.declared.names.SiteId.{SiteId}
use Rattle.walter_base.specs.declared.names.Tid.{Tid}
use Rattle.walter_base.specs.declared.transaction.Tx.{Tx}
use Rattle.walter_base.specs.declared.update.Update.{Update}
use Rattle.walter_base.specs.Values.{write_set}
use Rattle.walter_rules.specs.declared.held.Held.{Held}
use Rattle.walter_rules.specs.Log.{sees}
use Rattle.walter_rules.specs.Slow.{Part, Locked}

-- the objects written are all preferred at this site
abbrev pub AreLocal : (ObjId → SiteId) → SiteId → List Update → Type 0
AreLocal preferred i updates = (oid : ObjId) → Contains (write_set updates) oid → preferred oid ≡ i

-- each version of one of these objects that is preferred here is seen
abbrev pub IsUnmodified : (ObjId → SiteId) → SiteId → List ℕ → List ObjId → List Held → Type 0
IsUnmodified preferred i vector objects log =
    (r : Held) (p : ℕ) (oid : ObjId) → slice_get log p ≡ Some r → Contains (write_set r.tx.updates) oid
    → Contains objects oid
    → preferred oid ≡ i → sees vector r ≡ true

-- none of them that is preferred here is locked
abbrev pub IsUnlocked : (ObjId → SiteId) → SiteId → (SiteId → ℕ → Part) → List ObjId → Type 0
IsUnlocked preferred i locks objects =
    (j : SiteId) (n : ℕ) (owner : Tid) (locked : List ObjId) (oid : ObjId) → locks j n ≡ Locked owner locked
    → Contains locked oid → Contains objects oid → preferred oid ≡ i → ⊥

-- of what is preferred at site p the list has what the transaction writes
abbrev pub AgreesAt : (ObjId → SiteId) → SiteId → Tx → List ObjId → Type 0
AgreesAt preferred p x objects =
    (oid : ObjId) → preferred oid ≡ p
    → (Contains objects oid → Contains (write_set x.updates) oid)
    × (Contains (write_set x.updates) oid → Contains objects oid)
