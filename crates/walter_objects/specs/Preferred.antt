-- At which sites objects are preferred, by the catalog alone: whatever a site knows, so far it is the catalog's.
use Rattle.std.specs.Prelude.{Bool, not, ◌&&◌, List, map, filter}
use Rattle.std.specs.List.{list_any, list_all}
use Rattle.walter_base.specs.declared.catalog.Catalog.{Catalog}
use Rattle.walter_base.specs.declared.names.Kind.TheVariants.{Regular}
use Rattle.walter_base.specs.declared.names.ObjId.{ObjId}
use Rattle.walter_base.specs.declared.names.SiteId.{SiteId}
use Rattle.walter_base.specs.declared.update.Update.{Update}
use Rattle.walter_base.specs.Names.{same_site}
use Rattle.walter_base.specs.Values.{object_of}
use Rattle.walter_rules.specs.Declarations.{is_of_kind}
use Rattle.walter_rules.specs.Knowledge.{fresh, preferred, peers}

-- the site at which an object is preferred
abbrev pub home : Catalog → ObjId → SiteId
home catalog oid = preferred catalog fresh oid

-- by update, the site at which what it changes is preferred
abbrev pub homes_of : Catalog → List Update → List SiteId
homes_of catalog updates = map (λ update. home catalog (object_of update)) updates

-- those of the objects that are preferred at a site
abbrev pub objects_among : Catalog → SiteId → List ObjId → List ObjId
objects_among catalog site objects = filter (λ oid. same_site (home catalog oid) site) objects

-- whether all are
abbrev pub are_local_among : Catalog → SiteId → List ObjId → Bool
are_local_among catalog site objects = list_all (λ oid. same_site (home catalog oid) site) objects

-- whether one of them is
abbrev pub is_home_among : Catalog → List ObjId → SiteId → Bool
is_home_among catalog objects site = list_any (λ oid. same_site (home catalog oid) site) objects

-- whether it is another site, at which one of them is
abbrev pub takes_part : Catalog → SiteId → List ObjId → SiteId → Bool
takes_part catalog i objects k = not (same_site k i) && is_home_among catalog objects k

-- the other sites at which some are
abbrev pub participants_among : Catalog → SiteId → List ObjId → List SiteId
participants_among catalog i objects = filter (is_home_among catalog objects) (peers catalog i)

abbrev pub is_lockable_at : Catalog → SiteId → ObjId → Bool
is_lockable_at catalog i oid = is_of_kind catalog Regular oid && same_site (home catalog oid) i

-- whether all objects are regular, and preferred at the site
abbrev pub are_lockable_at : Catalog → SiteId → List ObjId → Bool
are_lockable_at catalog i objects = list_all (is_lockable_at catalog i) objects
