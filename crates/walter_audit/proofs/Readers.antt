-- Journals are read body by body, and site by site.
use Rattle.std.proofs.Common.{◌≡◌, ◌+◌, ◌<◌, ◌≤◌, ℕ, zero, suc, List, [], ◌∷◌, ◌++◌, length, map, take, get_or, slice_get, Some, Result, Ok, Err, refl, ap, sym, ◌∙◌, subst, arith, inl, inr}
use Rattle.std.specs.Prelude.{IfOk, IfErr, unwrap_or, option_map}
use Rattle.std.proofs.lemmas.List.{take-take, length-append}
use Rattle.std.proofs.lemmas.Option.{slice_get-map}
use Rattle.walter_base.specs.declared.catalog.Catalog.{Catalog}
use Rattle.walter_base.specs.declared.format.Format.{Format}
use Rattle.walter_base.specs.declared.message.Record.{Record}
use Rattle.walter_base.specs.declared.message.Record.TheVariants.{Boot, Own, Got, Seen, Prepared, Released, SlowBegin, SlowEnd, Marks, Format as FormatRecord}
use Rattle.walter_base.specs.declared.names.SiteId.{SiteId}
use Rattle.walter_record.specs.Spelling.{record_spelled, HasRecordSpelling}
use Rattle.walter_record.proofs.Records.{same_record}
use Rattle.walter_psi.proofs.Lists.{slice_get-push_cases}
use Rattle.walter_rules.specs.Knowledge.{Knowledge, fresh, site_at}
use Rattle.walter_rules.specs.Layouts.{format_at}
use Rattle.walter_rules.specs.Learning.{recorded, format_behind}
use Rattle.walter_rules.specs.Records.{CanFollow, CanAllFollow, IsRecordAmong, replayed}
use Rattle.walter_alone.proofs.TrailJournaled.{replayed-push}
use Rattle.walter_tables.specs.declared.replay.ReplayFault.{ReplayFault}
use Rattle.walter_tables.specs.declared.replay.ReplayFault.TheVariants.{Unfit, NoMemory}
use Rattle.walter_tables.specs.declared.tables.Tables.{Tables}
use Rattle.walter_tables.specs.Replaying.{IsReplayFault}
use Rattle.walter_tables.specs.Sites.{site_of, catalog_of, Stands, Follows}
use Rattle.walter_audit.specs.Contents.{Content, Contents, content_of, front_of, as_sent, CanStandIn, AreRead, IsUnreadable, AreAllRead}
use Rattle.walter_audit.specs.Firsts.{IsFirst}
use Rattle.walter_audit.specs.Journals.{journals_of}
use Rattle.walter_audit.specs.declared.content.Content.{Content as Kept}
use Rattle.walter_audit.specs.Reading.{held, held_if, contents_of, tolerating, Spells, Takes, IsUnfit, IsUnreadableAt}
use Rattle.walter_audit.proofs.Asked.{got_at, journal_at}
use Rattle.walter_audit.proofs.Readings.{front_read}
use Rattle.walter_audit.proofs.Written.{take_all}
use Rattle.walter_audit.proofs.Bodies.{read_none, read_more, unreadable_at, map-push}

-- a record that is read as it was sent has the sizes of a record
pub sized : (format : Format) (sites : ℕ) (rec : Record) → HasRecordSpelling format sites rec
    → IsRecordAmong sites (as_sent rec)
sized format sites (Own seq tx) has = (has.among, has.sizes)
sized format sites (Got from seq tx) has =
    (has.among, record { sites = has.sizes.sites; some = has.sizes.some; updates = has.sizes.updates })
sized format sites (SlowBegin slow tx) has = (has.among, has.sizes)
sized format sites rec has = has.sizes

-- a body whose record isn't replayed
pub unfit : (old : Tables) (format : Format) (body : List ℕ) (rec sent : Record) (fault : ReplayFault)
    → Spells (catalog_of old).sites format body rec → sent ≡ as_sent rec
    → IsReplayFault old sent fault → IsUnfit old format body fault
unfit old format body rec sent Unfit spells is wrong = λ K stands other spelled follows.
    let same : other ≡ rec = same_record format (catalog_of old).sites other rec spelled.has spells.has (sym spelled.is ∙ spells.is) in
    wrong K stands (subst (λ r. CanFollow (catalog_of old) (site_of old) K r) (ap as_sent same ∙ sym is) follows)
unfit old format body rec sent NoMemory spells is wrong = tt

-- or can't stand in the format
pub spells_none : (sites : ℕ) (format : Format) (body : List ℕ) (rec : Record) → HasRecordSpelling format sites rec
    → body ≡ record_spelled format rec → (CanStandIn rec format → ⊥) → (other : Record) → ¬ Spells sites format body other
spells_none sites format body rec has is never other spelled =
    let same : other ≡ rec = same_record format sites other rec spelled.has has (sym spelled.is ∙ is) in
    never (subst (λ r. CanStandIn r format) same spelled.stands)

-- one whose record is replayed
pub takes : (old new : Tables) (format : Format) (body : List ℕ) (rec sent : Record)
    → Spells (catalog_of old).sites format body rec → sent ≡ as_sent rec
    → ((K : Knowledge) → Stands old K → CanFollow (catalog_of old) (site_of old) K sent) → Follows old sent new
    → Takes old format body rec new
takes old new format body rec sent spells is follows leaves =
    let can : (K : Knowledge) → Stands old K → CanFollow (catalog_of old) (site_of old) K (as_sent rec) = λ K stands.
    subst (λ r. CanFollow (catalog_of old) (site_of old) K r) is (follows K stands) in
    let behind = subst (λ r. Follows old r new) is leaves in
    record {
      spells = spells;
      follows = can;
      leaves = λ K stands. behind K stands (can K stands) (sized format (catalog_of old).sites rec spells.has);
    }

format_push : (format : Format) (records : List Record) (rec : Record)
    → format_at format (records ++ rec ∷ []) ≡ format_behind rec (format_at format records)
format_push format [] rec = refl
format_push format (first ∷ records) rec = format_push (format_behind first format) records rec

-- the bodies up to a place tell these records, and the tables stand for what they tell
pub record IsReadTo (catalog : Catalog) (i : SiteId) (header : Format) (bodies : List (List ℕ)) (upto : ℕ)
    (tables : Tables) (format : Format) (records : List Record) : Type 0 where
  pub whose : catalog_of tables ≡ catalog
  pub site : site_of tables ≡ i
  pub in_force : format ≡ format_at header records
  pub stands : Stands tables (replayed catalog i fresh (map as_sent records))
  pub read : AreRead catalog i (front_of upto (content_of header bodies)) records

pub reads_begun : (tables : Tables) (header : Format) (bodies : List (List ℕ)) → Stands tables fresh
    → IsReadTo (catalog_of tables) (site_of tables) header bodies 0 tables header []
reads_begun tables header bodies stands = record {
  whose = refl;
  site = refl;
  in_force = refl;
  stands = stands;
  read = read_none (catalog_of tables) (site_of tables) (content_of header bodies);
}

module _ (catalog : Catalog) (i : SiteId) (header : Format) (bodies : List (List ℕ)) (upto : ℕ) (body : List ℕ)
    (at : slice_get bodies upto ≡ Some body) (old : Tables) (format : Format) (records : List Record)
    (R : IsReadTo catalog i header bodies upto old format records) where
  abbrev told : Knowledge
  told = replayed catalog i fresh (map as_sent records)

  -- of the tables' site and catalog it is of these
  here : (P : Catalog → SiteId → Type 0) → P (catalog_of old) (site_of old) → P catalog i
  here P p = subst (λ c. P c i) R.whose (subst (λ k. P (catalog_of old) k) R.site p)

  pub reads_more : (rec : Record) (new : Tables) (behind : Format) → Takes old format body rec new
      → behind ≡ format_behind rec format → catalog_of new ≡ catalog_of old → site_of new ≡ site_of old
      → IsReadTo catalog i header bodies (upto + 1) new behind (records ++ rec ∷ [])
  reads_more rec new behind T is same_catalog same_site =
      let spells : Spells catalog.sites (format_at header records) body rec =
      subst (λ f. Spells catalog.sites f body rec) R.in_force (subst (λ (c : Catalog). Spells c.sites format body rec) R.whose T.spells) in
      let follows : CanFollow catalog i told (as_sent rec) = here (λ c k. CanFollow c k told (as_sent rec)) (T.follows told R.stands) in
      let stands : Stands new (recorded catalog i (Some (as_sent rec)) told) =
      here (λ c k. Stands new (recorded c k (Some (as_sent rec)) told)) (T.leaves told R.stands) in
      record {
        whose = same_catalog ∙ R.whose;
        site = same_site ∙ R.site;
        in_force = is ∙ (ap (λ f. format_behind rec f) R.in_force ∙ sym (format_push header records rec));
        stands = subst (λ K. Stands new K)
            (sym (ap (λ rs. replayed catalog i fresh rs) (map-push as_sent records rec) ∙ replayed-push catalog i fresh (map as_sent records) (as_sent rec)))
            stands;
        read = read_more catalog i (content_of header bodies) upto body at records R.read rec spells.has spells.is spells.stands follows;
      }

  pub reads_none : IsUnfit old format body Unfit → IsUnreadable catalog i (content_of header bodies) upto
  reads_none none = unreadable_at catalog i (content_of header bodies) upto body at records R.read
      (λ rec has is stands follows.
      here (λ c k. (other : Record) → Spells c.sites format body other → ¬ CanFollow c k told (as_sent other)) (none told R.stands) rec
      (subst (λ f. Spells catalog.sites f body rec) (sym R.in_force) (record { has = has; is = is; stands = stands })) follows)

-- all bodies
pub reads_all : (catalog : Catalog) (i : SiteId) (header : Format) (bodies : List (List ℕ)) (upto : ℕ) (tables : Tables)
    (format : Format) (records : List Record) → length bodies ≤ upto → IsReadTo catalog i header bodies upto tables format records
    → AreRead catalog i (content_of header bodies) records
reads_all catalog i header bodies upto tables format records past R =
    subst (λ bs. AreRead catalog i (content_of header bs) records) (take_all bodies upto past) R.read

-- What can follow doesn't ask how many sites may be lost.
module _ (catalog : Catalog) (t s : ℕ) (i : SiteId) where
  follow_too : (K : Knowledge) (rec : Record) → CanFollow (tolerating catalog t) i K rec → CanFollow (tolerating catalog s) i K rec
  follow_too K (Boot epoch) f = f
  follow_too K (Own seq tx) f =
      record { booted = f.booted; next = f.next; here = f.here; slow = f.slow; declared = f.declared }
  follow_too K (Got j seq tx) f = record {
    booted = f.booted;
    peer = f.peer;
    sender = f.sender;
    next = f.next;
    covered = f.covered;
    declared = f.declared;
  }
  follow_too K (Seen j seq) f =
      record { booted = f.booted; peer = f.peer; next = f.next; received = f.received; covered = f.covered }
  follow_too K (Prepared j n tid objects) f =
      record { booted = f.booted; peer = f.peer; free = f.free; here = f.here; unlocked = f.unlocked }
  follow_too K (Released j n) f = record { booted = f.booted; peer = f.peer; alive = f.alive }
  follow_too K (SlowBegin n tx) f =
      record { booted = f.booted; next = f.next; named = f.named; unlocked = f.unlocked; declared = f.declared }
  follow_too K (SlowEnd n) f = f
  follow_too K (Marks durable visible) f = f
  follow_too K FormatRecord f = f

  recorded_too : (K : Knowledge) (rec : Record)
      → recorded (tolerating catalog t) i (Some rec) K ≡ recorded (tolerating catalog s) i (Some rec) K
  recorded_too K (Boot epoch) = refl
  recorded_too K (Own seq tx) = refl
  recorded_too K (Got j seq tx) = refl
  recorded_too K (Seen j seq) = refl
  recorded_too K (Prepared j n tid objects) = refl
  recorded_too K (Released j n) = refl
  recorded_too K (SlowBegin n tx) = refl
  recorded_too K (SlowEnd n) = refl
  recorded_too K (Marks durable visible) = refl
  recorded_too K FormatRecord = refl

  all_follow_too : (K : Knowledge) (records : List Record) → CanAllFollow (tolerating catalog t) i K records
      → CanAllFollow (tolerating catalog s) i K records
  all_follow_too K [] f = tt
  all_follow_too K (rec ∷ records) f = (
    follow_too K rec f.0,
    subst (λ L. CanAllFollow (tolerating catalog s) i L records) (recorded_too K rec)
        (all_follow_too (recorded (tolerating catalog t) i (Some rec) K) records f.1),
  )

  pub read_too : (content : Content) (records : List Record) → AreRead (tolerating catalog t) i content records
      → AreRead (tolerating catalog s) i content records
  read_too content records r = record {
    spelled = record { is = r.spelled.is; can = r.spelled.can };
    follow = all_follow_too fresh (map as_sent records) r.follow;
    formats = r.formats;
  }

pub unreadable_too : (catalog : Catalog) (t s : ℕ) (i : SiteId) (content : Content) (index : ℕ)
    → IsUnreadable (tolerating catalog t) i content index → IsUnreadable (tolerating catalog s) i content index
unreadable_too catalog t s i content index u = record {
  within = u.within;
  records = u.records;
  before = read_too catalog t s i (front_of index content) u.records u.before;
  wrong = λ more r. u.wrong more (read_too catalog s t i (front_of (index + 1) content) more r);
}

-- The journals of all sites are read site by site.
module _ (catalog : Catalog) (contents : Contents) where
  -- each site before this one was read
  pub record AreReadTo (upto : ℕ) (all : List (List Record)) : Type 0 where
    pub many : length all ≡ upto
    pub each : (k : ℕ) (rs : List Record) → slice_get all k ≡ Some rs → AreRead catalog (site_at k) (contents (site_at k)) rs

  pub site_read : (upto : ℕ) (all : List (List Record)) (rs : List Record)
      → AreRead catalog (site_at upto) (contents (site_at upto)) rs → AreReadTo upto all → AreReadTo (upto + 1) (all ++ rs ∷ [])
  site_read upto all rs read R = record {
    many = (let many = R.many in omega (arith, length-append all (rs ∷ []), many));
    each = λ k ts get. elim (slice_get-push_cases all rs ts k get) [
      | inl before ↦ R.each k ts before.1
      | inr last ↦
          let place = last.0 in
          let many = R.many in
          let here : k ≡ upto = omega (arith, place, many) in
          subst (λ n. AreRead catalog (site_at n) (contents (site_at n)) ts) (sym here)
          (subst (λ us. AreRead catalog (site_at upto) (contents (site_at upto)) us) last.1 read)
    ];
  }

  has_one : {X : Type 0} (xs : List X) (n : ℕ) → n < length xs → (x : X) × (slice_get xs n ≡ Some x)
  has_one [] n low = absurd (omega (arith, low))
  has_one (x ∷ xs) zero low = (x, refl)
  has_one (x ∷ xs) (suc n) low = has_one xs n (omega (arith, low))

  journal_read : (upto : ℕ) (all : List (List Record)) → AreReadTo upto all → (k : ℕ) → k < upto
      → AreRead catalog (site_at k) (contents (site_at k)) (journals_of all (site_at k))
  journal_read upto all R k low =
      let many = R.many in
      let one = has_one all k (omega (arith, many, low)) in
      subst (λ rs. AreRead catalog (site_at k) (contents (site_at k)) rs) (sym (journal_at all k one.0 one.1)) (R.each k one.0 one.1)

  pub all_sites_read : (upto : ℕ) (all : List (List Record)) → upto ≡ catalog.sites → AreReadTo upto all
      → AreAllRead catalog contents (journals_of all)
  all_sites_read upto all sites R = record {
    each = λ i low. journal_read upto all R i.0 (omega (arith, low, sites));
    no_others = λ i out. none all i.0 (let many = R.many in omega (arith, many, out, sites));
  }
    where
      none : (xs : List (List Record)) (n : ℕ) → length xs ≤ n → unwrap_or (slice_get xs n) [] ≡ []
      none [] n past = refl
      none (x ∷ xs) zero past = absurd (omega (arith, past))
      none (x ∷ xs) (suc n) past = none xs n (omega (arith, past))

  -- a body that can't be read, behind sites that were
  pub site_unread : (upto : ℕ) (all : List (List Record)) (index : ℕ) → upto < catalog.sites
      → IsUnreadable catalog (site_at upto) (contents (site_at upto)) index → AreReadTo upto all
      → IsFirst (IsUnreadableAt catalog contents) (record { site = site_at upto; index = index })
  site_unread upto all index low bad R = record {
    so = (low, bad);
    least = λ c other earlier. elim earlier [
      | inl sooner ↦ readable catalog c.site (contents c.site) (journals_of all c.site) c.index (journal_read upto all R c.site.0 sooner) other.1
      | inr same ↦
          let there : IsUnreadable catalog (site_at upto) (contents (site_at upto)) c.index =
          subst (λ i. IsUnreadable catalog i (contents i) c.index) same.0 other.1 in
          let content = contents (site_at upto) in
          let less = same.1 in
          let front = front_read catalog (site_at upto) (front_of index content) bad.records bad.before (c.index + 1) in
          let bodies : take (c.index + 1) (take index content.bodies) ≡ take (c.index + 1) content.bodies =
          take-take (c.index + 1) index content.bodies (omega (arith, less)) in
          there.wrong (take (c.index + 1) bad.records)
          (subst (λ bs. AreRead catalog (site_at upto) (content_of content.header bs) (take (c.index + 1) bad.records)) bodies front)
    ];
  }
    where
      readable : (catalog : Catalog) (i : SiteId) (content : Content) (records : List Record) (index : ℕ)
          → AreRead catalog i content records → IsUnreadable catalog i content index → ⊥
      readable catalog i content records index read u =
          u.wrong (take (index + 1) records) (front_read catalog i content records read (index + 1))

-- the body at a place, as numbers
pub body_at : {A : Type 0} (f : A → List ℕ) (bodies : List A) (index : ℕ) (x : A) (body : List ℕ) → index < length bodies
    → x ≡ get_or bodies index x → body ≡ f x → slice_get (map f bodies) index ≡ Some body
body_at f bodies index x body low at is =
    slice_get-map f bodies index ∙ (ap (option_map f) (got_at bodies index x low at) ∙ ap Some (sym is))

-- what a site holds
pub held_at : (all : List Kept) (n : ℕ) (kept : Kept) → slice_get all n ≡ Some kept → contents_of all (site_at n) ≡ held kept
held_at all n kept at = ap held_if at

-- of a catalog that tolerates none it is of this one
pub of_catalog : (P : Catalog → SiteId → Type 0) (catalog copy : Catalog) (site : SiteId) (tables : Tables)
    → catalog_of tables ≡ copy → copy ≡ tolerating catalog 0 → site_of tables ≡ site → P (catalog_of tables) (site_of tables)
    → P (tolerating catalog 0) site
of_catalog P catalog copy site tables whose is here p =
    subst (λ c. P c site) (whose ∙ is) (subst (λ k. P (catalog_of tables) k) here p)

pub of_ok : {A E : Type 0} (P : A → Type 0) (r : Result A E) (x : A) → r ≡ Ok x → IfOk r P → P x
of_ok P r x is holds = subst (λ z. IfOk z P) is holds

pub of_err : {A E : Type 0} (P : E → Type 0) (r : Result A E) (e : E) → r ≡ Err e → IfErr r P → P e
of_err P r e is holds = subst (λ z. IfErr z P) is holds
