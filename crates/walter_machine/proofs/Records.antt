-- The records of a site, once one more stands behind them, or as many as before.
use Rattle.std.proofs.Common.{◌≡◌, ◌∙◌, ◌<◌, ◌++◌, ◌∷◌, [], ℕ, List, Option, Some, None, true, false, refl, sym, ap, subst, arith}
use Rattle.std.specs.Prelude.{IfSome, All}
use Rattle.std.proofs.lemmas.List.Elements.{All-push, All-nil}
use Rattle.walter_alone.proofs.Followed.{follow_lost}
use Rattle.walter_base.specs.declared.catalog.Catalog.{Catalog}
use Rattle.walter_base.specs.declared.message.Record.{Record}
use Rattle.walter_base.specs.declared.message.Record.TheVariants.{Boot, Own, Got, Seen, Prepared, Released, SlowBegin, SlowEnd, Marks, Format as FormatRecord}
use Rattle.walter_base.specs.declared.names.SiteId.{SiteId}
use Rattle.walter_base.specs.Sizes.{CanBeRecorded}
use Rattle.walter_machine.specs.States.{AreTold, CanBeNext}
use Rattle.walter_rules.specs.Knowledge.{Knowledge, fresh}
use Rattle.walter_rules.specs.Learning.{lost, recorded}
use Rattle.walter_rules.specs.Records.{CanFollow, CanAllFollow, IsRecordAmong, replayed}
use Rattle.walter_rules.specs.Standing.{Standing, unmade}
use Rattle.walter_alone.proofs.Followed.{lost_recorded}
use Rattle.walter_alone.proofs.TrailJournaled.{follow-push, replayed-push}
use Rattle.walter_rules.specs.declared.event.Event.{Event}
use Rattle.walter_rules.specs.declared.outcome.Outcome.{Outcome}
use Rattle.walter_rules.specs.Learning.{after, epoch_after}

-- what has the sizes of a record among so many sites can be recorded
pub recordable : (sites : ℕ) (rec : Record) → IsRecordAmong sites rec → CanBeRecorded rec
recordable sites (Boot epoch) among = among
recordable sites (Own seq tx) among = among.1
recordable sites (Got from seq tx) among = among.1
recordable sites (Seen from seq) among = among
recordable sites (Prepared from slow tid objects) among = among
recordable sites (Released from slow) among = among
recordable sites (SlowBegin slow tx) among = among.1
recordable sites (SlowEnd slow) among = among
recordable sites (Marks durable visible) among = among
recordable sites FormatRecord among = among

pub recordable_if : (sites : ℕ) (rec : Option Record) → IfSome rec (IsRecordAmong sites) → IfSome rec CanBeRecorded
recordable_if sites None among = tt
recordable_if sites (Some rec) among = recordable sites rec among

-- what is left behind an event goes by its record alone
pub lost_after : (catalog : Catalog) (i : SiteId) (K : Knowledge) (event : Event) (outcome : Outcome)
    (wrote : Option Record) → lost (after catalog i K event outcome wrote) ≡ recorded catalog i wrote (lost K)
lost_after catalog i K event outcome None = refl
lost_after catalog i K event outcome (Some rec) = lost_recorded catalog i K rec

-- a site that has had an epoch has one behind a record that can follow
pub booted_behind : (catalog : Catalog) (i : SiteId) (K : Knowledge) (rec : Record) → CanFollow catalog i K rec
    → 0 < K.epoch → 0 < epoch_after (Some rec) K.epoch
booted_behind catalog i K (Boot epoch) follows booted = omega (arith, follows)
booted_behind catalog i K (Own seq tx) follows booted = booted
booted_behind catalog i K (Got from seq tx) follows booted = booted
booted_behind catalog i K (Seen from seq) follows booted = booted
booted_behind catalog i K (Prepared from slow tid objects) follows booted = booted
booted_behind catalog i K (Released from slow) follows booted = booted
booted_behind catalog i K (SlowBegin slow tx) follows booted = booted
booted_behind catalog i K (SlowEnd slow) follows booted = booted
booted_behind catalog i K (Marks durable visible) follows booted = booted
booted_behind catalog i K FormatRecord follows booted = booted

module _ (catalog : Catalog) (i : SiteId) (S T : Standing) (all : AreTold catalog i S) where
  -- one more record stands behind them
  pub told_more : (rec : Record) → CanBeNext catalog i S rec → T.records ≡ S.records ++ rec ∷ []
      → lost T.knows ≡ recorded catalog i (Some rec) (lost S.knows) → T.flight ≡ None
      → (T.up ≡ true → 0 < T.knows.epoch) → (T.up ≡ false → lost T.knows ≡ T.knows) → AreTold catalog i T
  told_more rec can records knows flight booted rests = record {
    sizes = subst (λ (rs : List Record). All (IsRecordAmong catalog.sites) rs) (sym records)
        (All-push (IsRecordAmong catalog.sites) S.records rec all.sizes can.sizes);
    follow = subst (λ (rs : List Record). CanAllFollow catalog i fresh rs) (sym records)
        (follow-push catalog i fresh S.records rec all.follow
        (subst (λ (K : Knowledge). CanFollow catalog i K rec) all.tell (follow_lost catalog i S.knows rec can.follows)));
    tell = knows ∙ (ap (λ (K : Knowledge). recorded catalog i (Some rec) K) all.tell
        ∙ (sym (replayed-push catalog i fresh S.records rec) ∙ ap (λ (rs : List Record). replayed catalog i fresh rs) (sym records)));
    in_flight = subst (λ (f : Option Record). IfSome f (CanBeNext catalog i T)) (sym flight) tt;
    booted = booted;
    rests = rests;
  }

  -- as many as before
  pub told_same : T.records ≡ S.records → lost T.knows ≡ lost S.knows → IfSome T.flight (CanBeNext catalog i T)
      → (T.up ≡ true → 0 < T.knows.epoch) → (T.up ≡ false → lost T.knows ≡ T.knows) → AreTold catalog i T
  told_same records knows flight booted rests = record {
    sizes = subst (λ (rs : List Record). All (IsRecordAmong catalog.sites) rs) (sym records) all.sizes;
    follow = subst (λ (rs : List Record). CanAllFollow catalog i fresh rs) (sym records) all.follow;
    tell = knows ∙ (all.tell ∙ ap (λ (rs : List Record). replayed catalog i fresh rs) (sym records));
    in_flight = flight;
    booted = booted;
    rests = rests;
  }

  -- what could be the next still can, where the site's records tell the same
  pub still_can : (flight : Option Record) → lost T.knows ≡ lost S.knows → T.knows ≡ S.knows
      → IfSome flight (CanBeNext catalog i S) → IfSome flight (CanBeNext catalog i T)
  still_can None same is can = tt
  still_can (Some rec) same is can = record {
    sizes = can.sizes;
    follows = subst (λ (K : Knowledge). CanFollow catalog i K rec) (sym is) can.follows;
  }

-- the records of a site before its first event
pub told_unmade : (catalog : Catalog) (i : SiteId) → AreTold catalog i unmade
told_unmade catalog i = record {
  sizes = All-nil (IsRecordAmong catalog.sites);
  follow = tt;
  tell = refl;
  in_flight = tt;
  booted = λ up. cc;
  rests = λ down. refl;
}
