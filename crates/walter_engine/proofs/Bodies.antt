-- The bodies of a journal, and the records that they spell.
use Rattle.std.proofs.Common.{◌≡◌, ℕ, zero, suc, ◌+◌, ◌<◌, List, [], ◌∷◌, ◌++◌, length, map, take, get_or, true, false, Option, Some, Result, Ok, Err, refl, ap, sym, ◌∙◌, subst}
use Rattle.std.specs.Prelude.{◌≢◌, All, IfSome, IfErr, OnOk, slice_get, option_map}
use Rattle.std.specs.List.{AllByRecursion}
use Rattle.std.proofs.lemmas.List.{take-map, map_more}
use Rattle.std.proofs.lemmas.List.Elements.{All-nil, recursion_from_All}
use Rattle.std.proofs.lemmas.Option.{slice_get-map, slice_get-get_or}
use Rattle.walter_alone.proofs.TrailJournaled.{follow-push, replayed-push}
use Rattle.walter_base.specs.declared.catalog.Catalog.{Catalog}
use Rattle.walter_base.specs.declared.format.Format.{Format}
use Rattle.walter_base.specs.declared.message.Record.{Record}
use Rattle.walter_base.specs.declared.names.SiteId.{SiteId}
use Rattle.walter_record.specs.Spelling.{record_spelled, HasRecordSpelling}
use Rattle.walter_record.proofs.Records.{same_record}
use Rattle.walter_rules.proofs.Placed.{format_told}
use Rattle.walter_rules.specs.Knowledge.{Knowledge, fresh}
use Rattle.walter_rules.specs.Layouts.{in_force, placed, format_at}
use Rattle.walter_rules.specs.Learning.{format_behind, recorded}
use Rattle.walter_rules.specs.Records.{CanFollow, CanAllFollow, replayed}
use Rattle.walter_engine.specs.Contents.{spelled, says_again, CanStandIn, HasSpellingThere}
use Rattle.walter_engine.specs.Replays.{Takes, SpellsNone, IsUnfit, Tells, format_in}
use Rattle.walter_engine.specs.Effects.{Tell, IsUnreadable}
use Rattle.walter_engine.proofs.Spelled.{sized_among, spelled-push, have_more}
use Rattle.walter_tables.specs.declared.replay.ReplayFault.{ReplayFault}
use Rattle.walter_tables.specs.declared.replay.ReplayFault.TheVariants.{Unfit, NoMemory}
use Rattle.walter_tables.specs.declared.tables.Tables.{Tables}
use Rattle.walter_tables.specs.Replaying.{IsReplayFault}
use Rattle.walter_tables.specs.Sites.{values_of, site_of, catalog_of, Stands, Follows}

pub some_is : {A : Type 0} (P : A → Type 0) (o : Option A) (x : A) → o ≡ Some x → IfSome o P → P x
some_is P o x is holds = subst (λ o. IfSome o P) is holds

-- a body whose record is not replayed
pub unfit : (header : Format) (tables : Tables) (body : List ℕ) (rec : Record) {A : Type 0} (result : Result A ReplayFault)
    → HasRecordSpelling (format_in header tables) (catalog_of tables).sites rec
    → body ≡ record_spelled (format_in header tables) rec
    → IfErr result (IsReplayFault tables rec) → IfErr result (IsUnfit header tables body)
unfit header tables body rec (Ok x) has is wrong = tt
unfit header tables body rec (Err Unfit) has is wrong = λ K stands.
    let none : Format → Type 0 = λ format. (other : Record) → CanStandIn (in_force header format) (catalog_of tables).sites other
    → body ≡ record_spelled (in_force header format) other → ¬ CanFollow (catalog_of tables) (site_of tables) K other in
    subst none stands.format (λ other other_has other_is follows.
    wrong K stands (subst (λ r. CanFollow (catalog_of tables) (site_of tables) K r)
    (same_record (format_in header tables) (catalog_of tables).sites other rec other_has.spelling has (sym other_is ∙ is)) follows))
unfit header tables body rec (Err NoMemory) has is wrong = tt

-- one whose record says again that the second format begins
pub again : (header : Format) (tables : Tables) (body : List ℕ) (rec : Record)
    → HasRecordSpelling (format_in header tables) (catalog_of tables).sites rec
    → body ≡ record_spelled (format_in header tables) rec → says_again rec (format_in header tables) ≡ true
    → IsUnfit header tables body Unfit
again header tables body rec has is says = λ K stands.
    let none : Format → Type 0 = λ format. (other : Record) → CanStandIn (in_force header format) (catalog_of tables).sites other
    → body ≡ record_spelled (in_force header format) other → ¬ CanFollow (catalog_of tables) (site_of tables) K other in
    subst none stands.format (λ other other_has other_is follows.
    let same = same_record (format_in header tables) (catalog_of tables).sites other rec other_has.spelling has (sym other_is ∙ is) in
    let once : says_again rec (format_in header tables) ≡ false =
    subst (λ r. says_again r (format_in header tables) ≡ false) same other_has.once in
    cc)

-- one that spells none
pub none_spelled : (header : Format) (tables : Tables) (body : List ℕ)
    → ((rec : Record) → HasRecordSpelling (format_in header tables) (catalog_of tables).sites rec
    → body ≢ record_spelled (format_in header tables) rec) → IsUnfit header tables body Unfit
none_spelled header tables body none = λ K stands.
    let none_in : Format → Type 0 = λ format. (other : Record) → CanStandIn (in_force header format) (catalog_of tables).sites other
    → body ≡ record_spelled (in_force header format) other → ¬ CanFollow (catalog_of tables) (site_of tables) K other in
    subst none_in stands.format (λ other other_has other_is follows. none other other_has.spelling other_is)

-- one whose record is replayed
takes : (header : Format) (old new : Tables) (body : List ℕ) (rec : Record)
    → CanStandIn (format_in header old) (catalog_of old).sites rec → body ≡ record_spelled (format_in header old) rec
    → ((K : Knowledge) → Stands old K → CanFollow (catalog_of old) (site_of old) K rec) → Follows old rec new
    → Takes header old body new
takes header old new body rec has is follows leaves = record {
  rec = rec;
  stands = has;
  is = is;
  follows = follows;
  leaves = λ K stands.
      leaves K stands (follows K stands) (sized_among (format_in header old) (catalog_of old).sites rec has.spelling);
}

pub taken_if : (header : Format) (old new : Tables) (body : List ℕ) (rec : Record) {A E : Type 0} (result : Result A E)
    → CanStandIn (format_in header old) (catalog_of old).sites rec → body ≡ record_spelled (format_in header old) rec
    → OnOk result ((K : Knowledge) → Stands old K → CanFollow (catalog_of old) (site_of old) K rec)
    → OnOk result (Follows old rec new) → OnOk result (Takes header old body new)
taken_if header old new body rec (Ok x) has is follows leaves = takes header old new body rec has is follows leaves
taken_if header old new body rec (Err e) has is follows leaves = tt

-- no body yet
pub tells_none : (header : Format) (catalog : Catalog) (i : SiteId) (tables : Tables) → Stands tables fresh
    → Tells header catalog i [] tables
tells_none header catalog i tables stands = record {
  records = [];
  tell = record { spell = refl; spellings = All-nil (HasSpellingThere catalog.sites); follow = tt };
  stands = stands;
}

-- one body more
tells_more : (header : Format) (catalog : Catalog) (i : SiteId) (old new : Tables) (front : List (List ℕ)) (body : List ℕ)
    → catalog_of old ≡ catalog → site_of old ≡ i → Tells header catalog i front old → Takes header old body new
    → Tells header catalog i (front ++ body ∷ []) new
tells_more header catalog i old new front body same_catalog same_site tells takes =
    let K = replayed catalog i fresh tells.records in
    let rec = takes.rec in
    let there : format_in header old ≡ format_at header tells.records =
    ap (in_force header) tells.stands.format ∙ format_told header catalog i tells.records in
    let there_stands : CanStandIn (format_at header tells.records) catalog.sites rec =
    subst (λ (f : Format). CanStandIn f catalog.sites rec) there
    (subst (λ (c : Catalog). CanStandIn (format_in header old) c.sites rec) same_catalog takes.stands) in
    let follows : CanFollow catalog i K rec =
    subst (λ (c : Catalog). CanFollow c i K rec) same_catalog
    (subst (λ (k : SiteId). CanFollow (catalog_of old) k K rec) same_site (takes.follows K tells.stands)) in
    let leaves : Stands new (recorded catalog i (Some rec) K) =
    subst (λ (c : Catalog). Stands new (recorded c i (Some rec) K)) same_catalog
    (subst (λ (k : SiteId). Stands new (recorded (catalog_of old) k (Some rec) K)) same_site
    (takes.leaves K tells.stands)) in
    record {
      records = tells.records ++ rec ∷ [];
      tell = record {
        spell = ap (λ l. l ++ body ∷ []) tells.tell.spell
            ∙ ap (λ b. spelled header tells.records ++ b ∷ []) (takes.is ∙ ap (λ (f : Format). record_spelled f rec) there)
            ∙ sym (spelled-push header tells.records rec);
        spellings = have_more header catalog.sites tells.records rec tells.tell.spellings there_stands;
        follow = follow-push catalog i fresh tells.records rec tells.tell.follow follows;
      };
      stands = subst (λ (k : Knowledge). Stands new k) (sym (replayed-push catalog i fresh tells.records rec)) leaves;
    }

unreadable : (header : Format) (catalog : Catalog) (i : SiteId) (bodies : List (List ℕ)) (index : ℕ) (body : List ℕ)
    (tables : Tables) → catalog_of tables ≡ catalog → site_of tables ≡ i
    → Tells header catalog i (take index bodies) tables → slice_get bodies index ≡ Some body
    → IsUnfit header tables body Unfit → IsUnreadable header catalog i bodies index
unreadable header catalog i bodies index body tables same_catalog same_site tells within none =
    let K = replayed catalog i fresh tells.records in
    record {
      records = tells.records;
      body = body;
      front = tells.tell;
      within = within;
      wrong = subst (λ (c : Catalog). SpellsNone header c i K body) same_catalog
          (subst (λ (k : SiteId). SpellsNone header (catalog_of tables) k K body) same_site (none K tells.stands));
    }

-- the body at a place of those that a loop goes over
module _ {A : Type 0} (f : A → List ℕ) (header : Format) (catalog : Catalog) (i : SiteId) (bodies : List A) (index : ℕ)
    (x : A) (body : List ℕ) (tables : Tables) (same_catalog : catalog_of tables ≡ catalog) (same_site : site_of tables ≡ i)
    (within : index < length bodies) (at : x ≡ get_or bodies index x) (is : body ≡ f x)
    (tells : Tells header catalog i (map f (take index bodies)) tables) where
  pub tells_next : (new : Tables) → Takes header tables body new
      → Tells header catalog i (map f (take (index + 1) bodies)) new
  tells_next new takes =
      let more = map_more f bodies index x within
      ∙ ap (λ b. map f (take index bodies) ++ b ∷ []) (ap f (sym at) ∙ sym is) in
      subst (λ bodies. Tells header catalog i bodies new) (sym more)
      (tells_more header catalog i tables new (map f (take index bodies)) body same_catalog same_site tells takes)

  pub unreadable_at : (fault : ReplayFault) → fault ≡ Unfit → IsUnfit header tables body fault
      → IsUnreadable header catalog i (map f bodies) index
  unreadable_at fault unfit wrong =
      unreadable header catalog i (map f bodies) index body tables same_catalog same_site
      (subst (λ bodies. Tells header catalog i bodies tables) (sym (take-map f index bodies)) tells)
      (slice_get-map f bodies index ∙ ap (option_map f) (slice_get-get_or bodies index x within)
      ∙ ap (λ b. Some b) (ap f (sym at) ∙ sym is))
      (subst (λ fault. IsUnfit header tables body fault) unfit wrong)

-- bodies spell one list of records
module _ (sites : ℕ) where
  abbrev AllThere : Format → List Record → Type 0
  AllThere format records = AllByRecursion (HasSpellingThere sites) (placed format records)

  one_by : (format : Format) (a b : List Record) → AllThere format a → AllThere format b
      → spelled format a ≡ spelled format b → a ≡ b
  one_by format [] [] all_a all_b e = refl
  one_by format [] (y ∷ b) all_a all_b e = cc
  one_by format (x ∷ a) [] all_a all_b e = cc
  one_by format (x ∷ a) (y ∷ b) all_a all_b e =
      let first : record_spelled format x ≡ record_spelled format y = cc in
      let others : spelled (format_behind x format) a ≡ spelled (format_behind y format) b = cc in
      let same = same_record format sites x y all_a.0.spelling all_b.0.spelling first in
      let back : format_behind y format ≡ format_behind x format = ap (λ r. format_behind r format) (sym same) in
      let rest = one_by (format_behind x format) a b all_a.1 (subst (λ f. AllThere f b) back all_b.1)
      (others ∙ ap (λ f. spelled f b) back) in
      (λ i. same i ∷ rest i)

  pub one_list : (format : Format) (a b : List Record) → All (HasSpellingThere sites) (placed format a)
      → All (HasSpellingThere sites) (placed format b) → spelled format a ≡ spelled format b → a ≡ b
  one_list format a b all_a all_b e =
      one_by format a b (recursion_from_All (HasSpellingThere sites) (placed format a) all_a)
      (recursion_from_All (HasSpellingThere sites) (placed format b) all_b) e

  all_take : (format : Format) (n : ℕ) (records : List Record) → AllThere format records
      → AllThere format (take n records)
  all_take format zero [] all = tt
  all_take format zero (rec ∷ records) all = tt
  all_take format (suc n) [] all = tt
  all_take format (suc n) (rec ∷ records) all = (all.0, all_take (format_behind rec format) n records all.1)

spelled_take : (format : Format) (n : ℕ) (records : List Record)
    → take n (spelled format records) ≡ spelled format (take n records)
spelled_take format zero [] = refl
spelled_take format zero (rec ∷ records) = refl
spelled_take format (suc n) [] = refl
spelled_take format (suc n) (rec ∷ records) =
    ap (λ t. record_spelled format rec ∷ t) (spelled_take (format_behind rec format) n records)

-- what a record at a place of a list that can stand is, and that it can follow
record IsRecordAt (format : Format) (catalog : Catalog) (i : SiteId) (K : Knowledge) (body : List ℕ) : Type 0 where
  rec : Record
  stands : CanStandIn format catalog.sites rec
  is : body ≡ record_spelled format rec
  follows : CanFollow catalog i K rec

record_at : (catalog : Catalog) (i : SiteId) (format : Format) (K : Knowledge) (records : List Record) (index : ℕ)
    (body : List ℕ) → AllThere catalog.sites format records → CanAllFollow catalog i K records
    → slice_get (spelled format records) index ≡ Some body
    → IsRecordAt (format_at format (take index records)) catalog i (replayed catalog i K (take index records)) body
record_at catalog i format K [] index body all follow within = cc
record_at catalog i format K (rec ∷ records) zero body all follow within =
    let is : body ≡ record_spelled format rec = cc in
    record { rec = rec; stands = all.0; is = is; follows = follow.0 }
record_at catalog i format K (rec ∷ records) (suc index) body all follow within =
    record_at catalog i (format_behind rec format) (recorded catalog i (Some rec) K) records index body all.1 follow.1 within

-- bodies whose records can stand are readable
pub readable : (header : Format) (catalog : Catalog) (i : SiteId) (bodies : List (List ℕ)) (index : ℕ)
    (records : List Record) → Tell header catalog i bodies records → IsUnreadable header catalog i bodies index → ⊥
readable header catalog i bodies index records tell bad =
    let all = recursion_from_All (HasSpellingThere catalog.sites) (placed header records) tell.spellings in
    let at = record_at catalog i header fresh records index bad.body all tell.follow (ap (λ l. slice_get l index) (sym tell.spell) ∙ bad.within) in
    let front : spelled header bad.records ≡ spelled header (take index records) =
    sym bad.front.spell ∙ ap (take index) tell.spell ∙ spelled_take header index records in
    let same = one_by catalog.sites header bad.records (take index records)
    (recursion_from_All (HasSpellingThere catalog.sites) (placed header bad.records) bad.front.spellings)
    (all_take catalog.sites header index records all) front in
    let there : in_force header (replayed catalog i fresh bad.records).format ≡ format_at header (take index records) =
    format_told header catalog i bad.records ∙ ap (format_at header) same in
    bad.wrong at.rec (subst (λ f. CanStandIn f catalog.sites at.rec) (sym there) at.stands)
    (at.is ∙ ap (λ f. record_spelled f at.rec) (sym there))
    (subst (λ rs. CanFollow catalog i (replayed catalog i fresh rs) at.rec) (sym same) at.follows)
