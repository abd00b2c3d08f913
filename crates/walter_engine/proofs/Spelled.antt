-- Which records have a spelling, and how they are spelled behind each other.
use Rattle.std.proofs.Common.{◌≡◌, ◌≤◌, ℕ, suc, List, [], ◌∷◌, ◌++◌, length, map, Option, Some, None, refl, ap, sym, ◌∙◌, subst, arith}
use Rattle.std.specs.Prelude.{All, IfSome}
use Rattle.std.proofs.lemmas.List.{length-map, map-append}
use Rattle.std.proofs.lemmas.List.Elements.{All-push}
use Rattle.walter_base.specs.declared.catalog.Catalog.{Catalog}
use Rattle.walter_base.specs.declared.format.Format.{Format}
use Rattle.walter_base.specs.declared.format.Format.TheVariants.{First, Second}
use Rattle.walter_base.specs.declared.message.Record.{Record}
use Rattle.walter_base.specs.declared.message.Record.TheVariants.{Own, Got, SlowBegin}
use Rattle.walter_base.specs.declared.names.SiteId.{SiteId}
use Rattle.walter_base.specs.Sizes.{most_in}
use Rattle.walter_engine.specs.Contents.{AreSpelled, CanStandIn, HaveSpellings, HasSpellingThere, spelled, spelled_there}
use Rattle.walter_record.specs.Spelling.{record_spelled, HasRecordSpelling, AreInRange}
use Rattle.walter_machine.specs.States.{AreTold}
use Rattle.walter_rules.proofs.Placed.{placed-push, format_told}
use Rattle.walter_rules.specs.Knowledge.{Knowledge}
use Rattle.walter_rules.specs.Layouts.{in_force, placed, format_at}
use Rattle.walter_rules.specs.Learning.{format_behind}
use Rattle.walter_rules.specs.declared.entry.Came.{Came}
use Rattle.walter_rules.specs.declared.event.Event.{Event}
use Rattle.walter_rules.specs.declared.outcome.Outcome.{Outcome}
use Rattle.walter_rules.specs.declared.outcome.Outcome.TheVariants.{Full}
use Rattle.walter_rules.specs.Records.{IsRecordAmong}
use Rattle.walter_rules.specs.Standing.{Standing, records_after, flight_after, settled, stands_after}

-- what has a spelling among so many sites has the sizes of a record among them
pub sized_among : (format : Format) (sites : ℕ) (rec : Record) → HasRecordSpelling format sites rec → IsRecordAmong sites rec
sized_among format sites (Own seq tx) has = (has.among, has.sizes)
sized_among format sites (Got from seq tx) has = (has.among, has.sizes)
sized_among format sites (SlowBegin slow tx) has = (has.among, has.sizes)
sized_among format sites rec has = has.sizes

-- and what has these sizes, and numbers in their ranges, has a spelling where so many sites have a place
pub spelled_among : (format : Format) (sites : ℕ) (rec : Record) → sites ≤ most_in format → IsRecordAmong sites rec
    → AreInRange rec → HasRecordSpelling format sites rec
spelled_among format sites (Own seq tx) fits is ranges =
    record { fits = fits; among = is.0; sizes = is.1; ranges = ranges }
spelled_among format sites (Got from seq tx) fits is ranges =
    record { fits = fits; among = is.0; sizes = is.1; ranges = ranges }
spelled_among format sites (SlowBegin slow tx) fits is ranges =
    record { fits = fits; among = is.0; sizes = is.1; ranges = ranges }
spelled_among format sites rec fits is ranges = record { fits = fits; among = tt; sizes = is; ranges = ranges }

-- the format in force has a place for as many sites as the header's
pub enough_in : (header told : Format) {sites : ℕ} → sites ≤ most_in header → sites ≤ most_in (in_force header told)
enough_in First First few = few
enough_in First Second few = omega (arith, few)
enough_in Second told few = few

-- by what its records tell, the format in force at a site is the one behind them
pub told_format : (header : Format) (catalog : Catalog) (i : SiteId) (S : Standing) → AreTold catalog i S
    → in_force header S.knows.format ≡ format_at header S.records
told_format header catalog i S told =
    ap (λ (K : Knowledge). in_force header K.format) told.tell ∙ format_told header catalog i S.records

-- one more body is that of the record in the format behind the others
pub spelled-push : (header : Format) (records : List Record) (rec : Record)
    → spelled header (records ++ rec ∷ []) ≡ spelled header records ++ record_spelled (format_at header records) rec ∷ []
spelled-push header records rec =
    ap (map spelled_there) (placed-push header records rec)
    ∙ map-append spelled_there (placed header records) ((format_at header records, rec) ∷ [])

pub length-spelled : (header : Format) (records : List Record) → length (spelled header records) ≡ length records
length-spelled header records = length-map (placed header records) spelled_there ∙ length-placed header records
  where
    length-placed : (format : Format) (rs : List Record) → length (placed format rs) ≡ length rs
    length-placed format [] = refl
    length-placed format (rec ∷ rs) = ap (λ n. suc n) (length-placed (format_behind rec format) rs)

pub have_more : (header : Format) (sites : ℕ) (records : List Record) (rec : Record) → HaveSpellings header sites records
    → CanStandIn (format_at header records) sites rec → HaveSpellings header sites (records ++ rec ∷ [])
have_more header sites records rec all is =
    subst (All (HasSpellingThere sites)) (sym (placed-push header records rec))
    (All-push (HasSpellingThere sites) (placed header records) (format_at header records, rec) all is)

module _ (header : Format) (sites : ℕ) (records : List Record) where
  -- can stand behind the records, and behind the one that was written too
  abbrev pub Behind : Option Record → Record → Type 0
  Behind wrote rec = CanStandIn (format_at header (records_after wrote records)) sites rec

  all_after : (wrote : Option Record) → HaveSpellings header sites records → IfSome wrote (Behind None)
      → HaveSpellings header sites (records_after wrote records)
  all_after None all is = all
  all_after (Some rec) all is = have_more header sites records rec all is

  flight_is : (flight wrote : Option Record) (outcome : Outcome) (old : Option Record) → IfSome flight (Behind wrote)
      → IfSome old (Behind None) → IfSome (flight_after flight wrote outcome old) (Behind wrote)
  flight_is (Some rec) wrote outcome old is was = is
  flight_is None (Some rec) outcome old is was = tt
  flight_is None None (Full need left) old is was = tt
  flight_is None None outcome old is was = was

-- behind an event, where what came of it has its spelling
pub spelled_after : (header : Format) (sites : ℕ) (catalog : Catalog) (i : SiteId) (S : Standing) (event : Event)
    (came : Came) → AreSpelled header sites S → IfSome came.wrote (Behind header sites S.records None)
    → IfSome came.flight (Behind header sites S.records came.wrote)
    → AreSpelled header sites (stands_after catalog i S event came)
spelled_after header sites catalog i S event came all wrote flight = record {
  records = all_after header sites S.records came.wrote all.records wrote;
  flight = flight_is header sites S.records came.flight came.wrote came.outcome S.flight flight all.flight;
}

-- and where the one in flight was found
pub spelled_settled : (header : Format) (sites : ℕ) (catalog : Catalog) (i : SiteId) (S : Standing) (kept : Option Record)
    → AreSpelled header sites S → IfSome kept (Behind header sites S.records None)
    → AreSpelled header sites (settled catalog i kept S)
spelled_settled header sites catalog i S None all is = all
spelled_settled header sites catalog i S (Some rec) all is =
    record { records = have_more header sites S.records rec all.records is; flight = tt }
