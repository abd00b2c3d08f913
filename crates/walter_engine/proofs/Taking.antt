-- What an event that loads no journal comes to at an engine.
use Rattle.std.proofs.Common.{◌≡◌, List, Bool, true, false, Option, Some, None, refl, ap, sym, ◌∙◌, subst, inl, inr}
use Rattle.std.specs.Prelude.{IfSome, is_some}
use Rattle.walter_base.specs.declared.catalog.Catalog.{Catalog}
use Rattle.walter_base.specs.declared.format.Format.{Format}
use Rattle.walter_base.specs.declared.message.Record.{Record}
use Rattle.walter_base.specs.declared.names.SiteId.{SiteId}
use Rattle.walter_disk.specs.declared.disk.Disk.{Ghosts}
use Rattle.walter_engine.specs.declared.engine.Engine.{Engine}
use Rattle.walter_engine.specs.Contents.{AreSpelled, MayHaveRecords}
use Rattle.walter_engine.specs.Stores.{IsStored}
use Rattle.walter_checkpoint.specs.declared.book.Book.{Book}
use Rattle.walter_engine.proofs.Spelled.{Behind, spelled_after}
use Rattle.walter_engine.proofs.Written.{holds_none}
use Rattle.walter_engine.specs.Effects.{HasCome}
use Rattle.walter_engine.specs.Engines.{Stands, catalog_in, layout_in}
use Rattle.walter_rules.specs.declared.entry.Came.{Came}
use Rattle.walter_rules.specs.declared.event.Event.{Event}
use Rattle.walter_rules.specs.declared.event.Event.TheVariants.{Stop, Restart}
use Rattle.walter_machine.specs.Machines.{HasStanding, IsCounted}
use Rattle.walter_machine.specs.declared.machine.Machine.{Machine}
use Rattle.walter_rules.proofs.RulesAllowed.{rule_allowed}
use Rattle.walter_rules.specs.declared.outcome.Outcome.{Outcome}
use Rattle.walter_rules.specs.declared.outcome.Outcome.TheVariants.{Full}
use Rattle.walter_rules.specs.Allowed.{IsKind, boots}
use Rattle.walter_rules.specs.Layouts.{Layout, header_of}
use Rattle.walter_rules.specs.Rule.{rule, stop_rule}
use Rattle.walter_rules.specs.Standing.{Standing, settled, stands_after, records_after, flight_after}
use Rattle.walter_rules.specs.Trails.{Comes, IsFound}

-- what is so of equal parts
pub same_parts : (P : Catalog → SiteId → Type 0) (catalog catalog' : Catalog) (i i' : SiteId) → catalog' ≡ catalog
    → i' ≡ i → P catalog i → P catalog' i'
same_parts P catalog catalog' i i' same_catalog same_site is =
    subst (λ (k : SiteId). P catalog' k) (sym same_site) (subst (λ (x : Catalog). P x i) (sym same_catalog) is)

-- what holds of each with itself
pub if_twice : {A : Type 0} (o : Option A) (R : A → A → Type 0) → ((x : A) → R x x)
    → IfSome o (λ before. IfSome o (λ now. R before now))
if_twice None R so = tt
if_twice (Some x) R so = so x

-- a stop brings no record
pub stop_brings : (header : Format) (catalog : Catalog) (i : SiteId) (S : Standing)
    → (rule header catalog i S Stop).wrote ≡ None
stop_brings header catalog i S = at S.up
  where
    at : (up : Bool) → (stop_rule up).wrote ≡ None
    at true = refl
    at false = refl

abbrev pub is_full : Outcome → Bool
is_full (Full need left) = true
is_full outcome = false

kind_fits : (catalog : Catalog) (i : SiteId) (S : Standing) (event : Event) (wrote : Option Record)
    (outcome : Outcome) → IsKind catalog i S event wrote outcome → is_full outcome ≡ false
kind_fits catalog i S event wrote outcome (boots down) = refl
kind_fits catalog i S event wrote outcome kind = refl

pub rule_fits : (header : Format) (catalog : Catalog) (i : SiteId) (S : Standing) (event : Event)
    → is_full (rule header catalog i S event).outcome ≡ false
rule_fits header catalog i S event =
    kind_fits catalog i S event (rule header catalog i S event).wrote (rule header catalog i S event).outcome
    (rule_allowed header catalog i S event).0.kind

flight_stays : (outcome : Outcome) (old : Option Record) → is_full outcome ≡ false
    → flight_after None None outcome old ≡ old
flight_stays (Full need left) old fits = absurd (cc)
flight_stays outcome old fits = refl

module _ {D : Type 0} {g : Ghosts D} where
  stored_as : (layout : Layout) (S T : Standing) (book : Option (Book D g)) (bare : Option D) → is_some book ≡ false
      → T.records ≡ S.records → T.flight ≡ S.flight → IsStored layout S book bare → IsStored layout T book bare
  stored_as layout S T None None closed records flight is = is
  stored_as layout S T (Some book) bare closed records flight is = absurd (cc)
  stored_as layout S T None (Some disk) closed records flight is = record {
    told = is.told;
    begun = is.begun;
    images = λ image left.
        subst (λ (rs : List Record). MayHaveRecords layout rs T.flight image) (sym records)
        (subst (λ (f : Option Record). MayHaveRecords layout S.records f image) (sym flight) (is.images image left));
  }

  -- what comes without a record to a site that is down leaves the records where they are
  pub stands_same : (engine : Engine D g) (catalog : Catalog) (i : SiteId) (S : Standing) (event : Event) (came : Came)
      → HasStanding engine.machine (stands_after catalog i S event came)
      → (layout : Layout) → layout_in engine ≡ layout → AreSpelled (header_of layout) (catalog_in engine).sites S
      → IsStored layout S engine.book engine.disk → is_some engine.book ≡ false
      → came.wrote ≡ None → came.flight ≡ None
      → is_full came.outcome ≡ false → Stands engine (stands_after catalog i S event came)
  stands_same engine catalog i S event came standing layout same spellings stored closed wrote flight fits = record {
    machine = standing;
    spellings = subst (λ (l : Layout). AreSpelled (header_of l) (catalog_in engine).sites (stands_after catalog i S event came)) (sym same)
        (spelled_after (header_of layout) (catalog_in engine).sites catalog i S event came spellings
        (holds_none (Behind (header_of layout) (catalog_in engine).sites S.records None) came.wrote wrote)
        (holds_none (Behind (header_of layout) (catalog_in engine).sites S.records came.wrote) came.flight flight));
    stored = subst (λ (l : Layout). IsStored l (stands_after catalog i S event came) engine.book engine.disk) (sym same)
        (stored_as layout S (stands_after catalog i S event came) engine.book engine.disk closed
        (ap (λ (w : Option Record). records_after w S.records) wrote)
        ((λ j. flight_after (flight j) (wrote j) came.outcome S.flight)
        ∙ flight_stays came.outcome S.flight fits)
        stored);
  }

  -- nothing was found, and no restart was refused
  pub come_as : (catalog : Catalog) (layout : Layout) (i : SiteId) (S : Standing) (event : Event) (came : Came)
      (engine : Engine D g) → came.kept ≡ None → (S.up ≡ false → event ≡ Restart → ⊥)
      → Comes catalog layout i S event came → Stands engine (stands_after catalog i S event came)
      → HasCome catalog layout i S event came None engine
  come_as catalog layout i S event came engine kept never comes stands = record {
    found = subst (λ (k : Option Record). IfSome k (IsFound S event)) (sym kept) tt;
    comes = inr (subst (λ (k : Option Record). Comes catalog layout i (settled catalog i k S) event came) (sym kept) comes);
    stands = subst (λ (k : Option Record). Stands engine (stands_after catalog i (settled catalog i k S) event came)) (sym kept)
        stands;
    last = tt;
    takes_none = λ down restart. absurd (never down restart);
  }

-- how many records there are is known at a site that is up
pub counted_up : (m : Machine) (S : Standing) (o : Option Record) → S.up ≡ true → HasStanding m S → IsCounted m S o
counted_up m S None up standing = tt
counted_up m S (Some rec) up standing = standing.count (inl up)

pub none_of : {A : Type 0} (o : Option A) → is_some o ≡ false → o ≡ None
none_of None is = refl
none_of (Some x) is = absurd (cc)
