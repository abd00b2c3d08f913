-- In a run no record changes the format where the second is in force already.
use Rattle.std.proofs.Common.{◌≡◌, ◌≢◌, true, false, List, [], ◌∷◌, Some, None, IfSome, refl, sym, subst}
use Rattle.std.specs.Prelude.{All, Bool, Option}
use Rattle.std.proofs.lemmas.List.Elements.{All-nil, All-cons, All-head, All-tail, All-append}
use Rattle.walter_base.specs.declared.catalog.Catalog.{Catalog}
use Rattle.walter_base.specs.declared.format.Format.{Format}
use Rattle.walter_base.specs.declared.format.Format.TheVariants.{First, Second}
use Rattle.walter_base.specs.declared.message.Record.{Record}
use Rattle.walter_base.specs.declared.message.Record.TheVariants.{Format as FormatRecord}
use Rattle.walter_base.specs.declared.names.SiteId.{SiteId}
use Rattle.walter_rules.specs.declared.entry.Came.{Came}
use Rattle.walter_rules.specs.declared.entry.Entry.{Entry}
use Rattle.walter_rules.specs.declared.event.Event.{Event}
use Rattle.walter_rules.specs.declared.event.Event.TheVariants.{Given, Stop, Restart}
use Rattle.walter_rules.specs.declared.event.Input.TheVariants.{Call, Deliver, Advance, Tick, Upgrade}
use Rattle.walter_rules.specs.declared.outcome.Outcome.{Outcome}
use Rattle.walter_rules.specs.declared.outcome.Outcome.TheVariants.{Full}
use Rattle.walter_rules.specs.Allowed.{IsKind, upgrades}
use Rattle.walter_rules.specs.Knowledge.{Knowledge, fresh}
use Rattle.walter_rules.specs.Layouts.{Layout, placed, header_of}
use Rattle.walter_rules.specs.Learning.{recorded, format_behind}
use Rattle.walter_rules.specs.Merges.{Named as InRun, entries_of}
use Rattle.walter_rules.specs.Records.{CanFollow, CanAllFollow}
use Rattle.walter_rules.specs.Rule.{rule_where, rule}
use Rattle.walter_rules.specs.Standing.{Standing, records_after, settled, flight_after}
use Rattle.walter_rules.specs.Trails.{standing, Comes, ruled, met_fault, unread, no_memory, full, IsFound, AreRight}
use Rattle.walter_rules.proofs.RulesAllowed.{rule_allowed}
use Rattle.walter_linked.specs.Catalogs.{IsWhole}
use Rattle.walter_linked.proofs.Runs.{run_right}
use Rattle.walter_runs.specs.Runs.{IsRun}
use Rattle.walter_audit.specs.Contents.{CanStandIn, CanStand}
use Rattle.walter_audit.proofs.Held.{journals_of, follow}

-- where a journal begins in the first format, its records tell the one in force
pub first_stand : (catalog : Catalog) (i : SiteId) (K : Knowledge) (records : List Record)
    → CanAllFollow catalog i K records → All CanStand (placed K.format records)
first_stand catalog i K [] f = All-nil CanStand
first_stand catalog i K (rec ∷ records) f = All-cons CanStand (K.format, rec) (placed (format_behind rec K.format) records)
    (one rec f.0) (first_stand catalog i (recorded catalog i (Some rec) K) records f.1)
  where
    one : (r : Record) → CanFollow catalog i K r → CanStandIn r K.format
    one FormatRecord can = can.first
    one r can = tt

-- a record that doesn't change the format
abbrev pub IsPlain : Record → Type 0
IsPlain FormatRecord = ⊥
IsPlain rec = Unit {0}

-- such records can all stand in the second
second_stand : (records : List Record) → All IsPlain records → All CanStand (placed Second records)
second_stand [] plain = All-nil CanStand
second_stand (rec ∷ records) plain = All-cons CanStand (Second, rec) (placed (format_behind rec Second) records)
    (one rec (All-head IsPlain rec records plain))
    (subst (λ f. All CanStand (placed f records)) (sym (stays rec)) (second_stand records (All-tail IsPlain rec records plain)))
  where
    one : (r : Record) → IsPlain r → CanStandIn r Second
    one FormatRecord p = absurd p
    one r p = tt

    stays : (r : Record) → format_behind r Second ≡ Second
    stays FormatRecord = refl
    stays r = refl

-- an upgrade alone changes the format
kind_plain : (catalog : Catalog) (i : SiteId) (S : Standing) (event : Event) (wrote : Option Record) (outcome : Outcome)
    → IsKind catalog i S event wrote outcome → event ≢ Given Upgrade → IfSome wrote IsPlain
kind_plain catalog i S event wrote outcome (upgrades up first) other = absurd (other refl)
kind_plain catalog i S event wrote outcome kind other = tt

module _ (catalog : Catalog) (i : SiteId) where
  -- and none does where the header names the second
  rule_plain : (S : Standing) (event : Event) → IfSome (rule Second catalog i S event).wrote IsPlain
  rule_plain S (Given Upgrade) = elim S.up as (λ up. IfSome (rule_where up Second catalog i S Upgrade).wrote IsPlain) [
    | true ↦ tt
    | false ↦ tt
  ]
  rule_plain S (Given (Call client call)) = kind_plain catalog i S (Given (Call client call)) _ _
      (rule_allowed Second catalog i S (Given (Call client call))).0.kind (λ e. cc)
  rule_plain S (Given (Deliver from number packet)) = kind_plain catalog i S (Given (Deliver from number packet)) _ _
      (rule_allowed Second catalog i S (Given (Deliver from number packet))).0.kind (λ e. cc)
  rule_plain S (Given (Advance from)) = kind_plain catalog i S (Given (Advance from)) _ _
      (rule_allowed Second catalog i S (Given (Advance from))).0.kind (λ e. cc)
  rule_plain S (Given Tick) = tt_of S.up
    where
      tt_of : (up : Bool) → IfSome (rule_where up Second catalog i S Tick).wrote IsPlain
      tt_of true = tt
      tt_of false = tt
  rule_plain S Stop = kind_plain catalog i S Stop _ _ (rule_allowed Second catalog i S Stop).0.kind (λ e. cc)
  rule_plain S Restart = kind_plain catalog i S Restart _ _ (rule_allowed Second catalog i S Restart).0.kind (λ e. cc)

  abbrev IsPlainIf : Option Record → Type 0
  IsPlainIf rec = IfSome rec IsPlain

  comes_plain : (layout : Layout) → header_of layout ≡ Second → (S : Standing) (event : Event) (came : Came)
      → Comes catalog layout i S event came → IsPlainIf came.wrote × IsPlainIf came.flight
  comes_plain layout second S event came comes = by (subst (λ h. IsPlainIf (rule h catalog i S event).wrote) (sym second) (rule_plain S event)) comes
    where
      by : IsPlainIf (rule (header_of layout) catalog i S event).wrote → Comes catalog layout i S event came
          → IsPlainIf came.wrote × IsPlainIf came.flight
      by plain (ruled fits is) = (subst IsPlainIf (sym is.wrote) plain, subst IsPlainIf (sym is.flight) tt)
      by plain (met_fault rec is fits only) =
          (subst IsPlainIf (sym only.wrote) tt, subst IsPlainIf (sym only.flight_is) (subst IsPlainIf is plain))
      by plain (unread restart down only) = (subst IsPlainIf (sym only.wrote) tt, subst IsPlainIf (sym only.flight_is) tt)
      by plain (no_memory takes only) = (subst IsPlainIf (sym only.wrote) tt, subst IsPlainIf (sym only.flight_is) tt)
      by plain (full rec is low only) = (subst IsPlainIf (sym only.wrote) tt, subst IsPlainIf (sym only.flight_is) tt)

  -- neither the records of a site nor the one in flight change the format
  pub record StandsPlain (S : Standing) : Type 0 where
    pub records : All IsPlain S.records
    pub flight : IfSome S.flight IsPlain

  records_plain : (wrote : Option Record) (records : List Record) → IsPlainIf wrote → All IsPlain records
      → All IsPlain (records_after wrote records)
  records_plain None records one all = all
  records_plain (Some rec) records one all = All-append IsPlain records (rec ∷ []) all
      (All-cons IsPlain rec [] one (All-nil IsPlain))

  flight_plain : (flight wrote : Option Record) (outcome : Outcome) (old : Option Record) → IsPlainIf flight → IsPlainIf old
      → IsPlainIf (flight_after flight wrote outcome old)
  flight_plain (Some rec) wrote outcome old new was = new
  flight_plain None (Some rec) outcome old new was = tt
  flight_plain None None (Full need left) old new was = tt
  flight_plain None None outcome old new was = was

  settled_plain : (S : Standing) (event : Event) (kept : Option Record) → IfSome kept (IsFound S event) → StandsPlain S
      → StandsPlain (settled catalog i kept S)
  settled_plain S event None found P = P
  settled_plain S event (Some rec) found P = record {
    records = records_plain (Some rec) S.records (subst IsPlainIf found.in_flight P.flight) P.records;
    flight = tt;
  }

  right_plain : (layout : Layout) → header_of layout ≡ Second → (older : List Entry) → AreRight catalog layout i older
      → StandsPlain (standing catalog i older)
  right_plain layout second [] right = record { records = All-nil IsPlain; flight = tt }
  right_plain layout second (e ∷ older) right =
      let T : Standing = settled catalog i e.came.kept (standing catalog i older) in
      let before = settled_plain (standing catalog i older) e.event e.came.kept right.1.kept
      (right_plain layout second older right.0) in
      let now = comes_plain layout second T e.event e.came right.1.comes in
      record {
        records = records_plain e.came.wrote T.records now.0 before.records;
        flight = flight_plain e.came.flight e.came.wrote e.came.outcome T.flight now.1 before.flight;
      }

-- the records of each site of a run can stand where they do
pub run_stands : (catalog : Catalog) (layouts : SiteId → Layout) (whole : IsWhole catalog) (run : List InRun)
    → IsRun catalog layouts run → (i : SiteId) → All CanStand (placed (header_of (layouts i)) (journals_of catalog run i))
run_stands catalog layouts whole run is i = by (header_of (layouts i)) refl
  where
    by : (header : Format) → header_of (layouts i) ≡ header → All CanStand (placed header (journals_of catalog run i))
    by First first = first_stand catalog i fresh (journals_of catalog run i) (follow catalog layouts whole run is i)
    by Second second = second_stand (journals_of catalog run i)
        (right_plain catalog i (layouts i) second (entries_of i run) (run_right catalog layouts run is i)).records
