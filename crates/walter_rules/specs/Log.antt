-- The transactions that a site holds, its own and received ones, in order, and what a vector sees of them.
use Rattle.std.specs.Prelude.{ℕ, ◌-◌, nat_le, Bool, false, List, filter, filter_map, slice_get, Option, Some, None, option_map, if◌then◌else◌}
use Rattle.std.specs.List.{list_any}
use Rattle.std.specs.Option.{option_map_or}
use Rattle.walter_base.specs.declared.names.ObjId.{ObjId}
use Rattle.walter_base.specs.declared.names.SiteId.{SiteId}
use Rattle.walter_base.specs.declared.names.Tid.{Tid}
use Rattle.walter_base.specs.declared.names.Version.{Version}
use Rattle.walter_base.specs.declared.transaction.Tx.{Tx}
use Rattle.walter_base.specs.Names.{same_site, same_object, same_tid}
use Rattle.walter_base.specs.Values.{write_set}
use Rattle.walter_base.specs.Vectors.{entry_at}
use Rattle.walter_rules.specs.declared.held.Held.{Held}

abbrev pub version_of : Held → Version
version_of h = record { site = h.tx.tid.site; seq = h.seq }

abbrev pub is_of : SiteId → Held → Bool
is_of site h = same_site h.tx.tid.site site

-- those of one site
abbrev pub of_site : SiteId → List Held → List Held
of_site site log = filter (is_of site) log

-- the commit of this number of a site, counted from 1
abbrev pub commit_at : SiteId → ℕ → List Held → Option Tx
commit_at site seq log = option_map (λ h. h.tx) (slice_get (of_site site log) (seq - 1))

-- the number of the site's first commit that is this transaction, if there is one
abbrev pub seq_in : SiteId → List Held → Tid → Option ℕ
seq_in site log tid = slice_get (filter_map (λ h. if same_tid tid h.tx.tid then Some h.seq else None) (of_site site log)) 0

-- whether the vector sees it
abbrev pub sees : List ℕ → Held → Bool
sees vector h = nat_le h.seq (entry_at vector h.tx.tid.site)

-- whether the log has this transaction, under a number that the vector sees
abbrev pub has_seen : List ℕ → Tid → List Held → Bool
has_seen vector tid log = option_map_or (λ seq. nat_le seq (entry_at vector tid.site)) (seq_in tid.site log tid) false

abbrev pub wrote : ObjId → Held → Bool
wrote oid h = list_any (same_object oid) (write_set h.tx.updates)

-- the row of an object: the transactions that wrote it, in order
abbrev pub row : ObjId → List Held → List Held
row oid log = filter (wrote oid) log
