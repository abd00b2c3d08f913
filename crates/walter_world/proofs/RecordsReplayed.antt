-- The records of a trail, replayed entry by entry.
use Rattle.std.proofs.Common.{◌≡◌, ℕ, ◌+◌, ◌<◌, ◌^◌, List, [], ◌∷◌, ◌++◌, length, take, drop, get_or, Some, ap, sym, ◌∙◌, subst}
use Rattle.std.specs.Prelude.{All}
use Rattle.std.proofs.lemmas.List.{append_assoc, length-append, take_more, take-append-drop}
use Rattle.std.proofs.lemmas.List.Concat.{flat_map-append}
use Rattle.std.proofs.lemmas.List.Elements.{All-nil, All-cons, All-head, All-tail, All-contains, Contains-push}
use Rattle.walter_alone.proofs.TrailJournaled.{replayed-push}
use Rattle.walter_base.specs.declared.catalog.Catalog.{Catalog}
use Rattle.walter_base.specs.declared.message.Record.{Record}
use Rattle.walter_base.specs.declared.names.SiteId.{SiteId}
use Rattle.walter_psi.proofs.Lists.{flat_map-push}
use Rattle.walter_rules.specs.declared.entry.Entry.{Entry}
use Rattle.walter_rules.specs.Knowledge.{Knowledge, fresh}
use Rattle.walter_rules.specs.Learning.{recorded}
use Rattle.walter_rules.specs.Records.{CanFollow, CanAllFollow, IsRecordAmong, replayed}
use Rattle.walter_tables.specs.Sites.{site_of, catalog_of, Stands}
use Rattle.walter_world.specs.declared.replaying.Recovery.{Recovery}
use Rattle.walter_world.specs.Records.{CanBeReplayed, IsTold, one_of, records_of}

-- ---- one more record

-- the last of some follows those before it, and has its sizes
follow-last : (catalog : Catalog) (i : SiteId) (K : Knowledge) (records : List Record) (rec : Record)
    → CanAllFollow catalog i K (records ++ rec ∷ []) → CanFollow catalog i (replayed catalog i K records) rec
follow-last catalog i K [] rec all = all.0
follow-last catalog i K (first ∷ records) rec all =
    follow-last catalog i (recorded catalog i (Some first) K) records rec all.1

pub last_follows : (catalog : Catalog) (i : SiteId) (records : List Record) (rec : Record) (told : Recovery)
    → IsTold catalog i records told → CanBeReplayed catalog i (records ++ rec ∷ [])
    → CanFollow (catalog_of told.tables) (site_of told.tables) (replayed catalog i fresh records) rec
last_follows catalog i records rec told is can =
    subst (λ (k : SiteId). CanFollow (catalog_of told.tables) k (replayed catalog i fresh records) rec) (sym is.site)
    (subst (λ (c : Catalog). CanFollow c i (replayed catalog i fresh records) rec) (sym is.catalog_is)
    (follow-last catalog i fresh records rec can.follow))

pub last_sized : (catalog : Catalog) (i : SiteId) (records : List Record) (rec : Record) (told : Recovery)
    → IsTold catalog i records told → CanBeReplayed catalog i (records ++ rec ∷ [])
    → IsRecordAmong (catalog_of told.tables).sites rec
last_sized catalog i records rec told is can =
    subst (λ (c : Catalog). IsRecordAmong c.sites rec) (sym is.catalog_is)
    (All-contains (IsRecordAmong catalog.sites) (records ++ rec ∷ []) rec can.sizes (Contains-push records rec))

-- it is told with those before it
pub told_more : (catalog : Catalog) (i : SiteId) (records : List Record) (rec : Record) (old new : Recovery)
    → IsTold catalog i records old
    → Stands new.tables (recorded (catalog_of old.tables) (site_of old.tables) (Some rec) (replayed catalog i fresh records))
    → site_of new.tables ≡ site_of old.tables → catalog_of new.tables ≡ catalog_of old.tables
    → new.count ≡ old.count + 1 → new.count + 1 < 2 ^ 64 → IsTold catalog i (records ++ rec ∷ []) new
told_more catalog i records rec old new is stands site catalog_same count countable = record {
  stands = subst (λ (K : Knowledge). Stands new.tables K) (sym (replayed-push catalog i fresh records rec))
      (subst (λ (k : SiteId). Stands new.tables (recorded catalog k (Some rec) (replayed catalog i fresh records))) is.site
      (subst (λ (c : Catalog). Stands new.tables (recorded c (site_of old.tables) (Some rec) (replayed catalog i fresh records)))
      is.catalog_is stands));
  site = site ∙ is.site;
  catalog_is = catalog_same ∙ is.catalog_is;
  count = count ∙ (ap (λ (n : ℕ). n + 1) is.count ∙ sym (length-append records (rec ∷ [])));
  countable = countable;
}

-- ---- some of them

all_front : {X : Type 0} (P : X → Type 0) (front rest : List X) → All P (front ++ rest) → All P front
all_front P [] rest all = All-nil P
all_front P (x ∷ front) rest all =
    All-cons P x front (All-head P x (front ++ rest) all) (all_front P front rest (All-tail P x (front ++ rest) all))

follow-front : (catalog : Catalog) (i : SiteId) (K : Knowledge) (front rest : List Record)
    → CanAllFollow catalog i K (front ++ rest) → CanAllFollow catalog i K front
follow-front catalog i K [] rest all = tt
follow-front catalog i K (rec ∷ front) rest all =
    (all.0, follow-front catalog i (recorded catalog i (Some rec) K) front rest all.1)

front_can : (catalog : Catalog) (i : SiteId) (front rest : List Record) → CanBeReplayed catalog i (front ++ rest)
    → CanBeReplayed catalog i front
front_can catalog i front rest can = record {
  follow = follow-front catalog i fresh front rest can.follow;
  sizes = all_front (IsRecordAmong catalog.sites) front rest can.sizes;
}

-- an entry at its place
module _ (catalog : Catalog) (i : SiteId) (trail : List Entry) (place : ℕ) (e : Entry) (within : place < length trail)
    (at : e ≡ get_or trail place e) (can : CanBeReplayed catalog i (records_of trail)) where
  abbrev front : List Record
  front = records_of (take place trail)

  pub records_more : records_of (take (place + 1) trail) ≡ (front ++ one_of e.came.kept) ++ one_of e.came.wrote
  records_more =
      ap records_of (take_more trail place e within ∙ ap (λ (x : Entry). take place trail ++ x ∷ []) (sym at))
      ∙ (flat_map-push (λ (x : Entry). one_of x.came.kept ++ one_of x.came.wrote) (take place trail) e
      ∙ sym (append_assoc front (one_of e.came.kept) (one_of e.came.wrote)))

  -- its records can be replayed behind those before it
  pub wrote_can : CanBeReplayed catalog i ((front ++ one_of e.came.kept) ++ one_of e.came.wrote)
  wrote_can = subst (CanBeReplayed catalog i) records_more
      (front_can catalog i (records_of (take (place + 1) trail)) (records_of (drop (place + 1) trail))
      (subst (CanBeReplayed catalog i)
      (ap records_of (sym (take-append-drop (place + 1) trail))
      ∙ flat_map-append (λ (x : Entry). one_of x.came.kept ++ one_of x.came.wrote) (take (place + 1) trail)
      (drop (place + 1) trail)) can))

  pub kept_can : CanBeReplayed catalog i (front ++ one_of e.came.kept)
  kept_can = front_can catalog i (front ++ one_of e.came.kept) (one_of e.came.wrote) wrote_can
