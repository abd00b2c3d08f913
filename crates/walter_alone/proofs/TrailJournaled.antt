-- What a site knows by right entries, without its clients' transactions and what its peers have said, is what its
-- records tell, each of which can follow those before it.
use Rattle.std.proofs.Common.{◌≡◌, ◌<◌, Bool, true, false, List, [], ◌∷◌, ◌++◌, Some, None, IfSome, refl, ap, sym, ◌∙◌, subst, if◌then◌else◌}
use Rattle.std.specs.Prelude.{Option}
use Rattle.walter_base.specs.declared.catalog.Catalog.{Catalog}
use Rattle.walter_base.specs.declared.message.Record.{Record}
use Rattle.walter_base.specs.declared.names.SiteId.{SiteId}
use Rattle.walter_rules.specs.declared.entry.Came.{Came}
use Rattle.walter_rules.specs.declared.entry.Entry.{Entry}
use Rattle.walter_rules.specs.declared.event.Event.{Event}
use Rattle.walter_rules.specs.declared.outcome.Outcome.{Outcome}
use Rattle.walter_rules.specs.Knowledge.{Knowledge, fresh}
use Rattle.walter_rules.specs.Layouts.{Layout}
use Rattle.walter_rules.specs.Learning.{recorded, after, lost}
use Rattle.walter_rules.specs.Records.{CanFollow, CanAllFollow, replayed}
use Rattle.walter_rules.specs.Standing.{Standing, records_after, settled, goes_down, knows_after}
use Rattle.walter_rules.specs.Trails.{standing, IsFound, AreRight}
use Rattle.walter_alone.specs.Journaled.{IsJournaled}
use Rattle.walter_alone.proofs.Alone.{issued_by}
use Rattle.walter_alone.proofs.Followed.{follow_lost, lost_recorded, kind_follows}
use Rattle.walter_alone.proofs.Kept.{IsKept}
use Rattle.walter_alone.proofs.KeptSteps.{settled_kept, right_kept}
use Rattle.walter_runs.proofs.Steps.{IsStep, stable, flies, unread_step, wants, finds_full, step_of}

-- one record more
pub replayed-push : (catalog : Catalog) (i : SiteId) (K : Knowledge) (records : List Record) (rec : Record)
    → replayed catalog i K (records ++ rec ∷ []) ≡ recorded catalog i (Some rec) (replayed catalog i K records)
replayed-push catalog i K [] rec = refl
replayed-push catalog i K (first ∷ records) rec = replayed-push catalog i
    (recorded catalog i (Some first) K) records rec

pub follow-push : (catalog : Catalog) (i : SiteId) (K : Knowledge) (records : List Record) (rec : Record)
    → CanAllFollow catalog i K records
    → CanFollow catalog i (replayed catalog i K records) rec → CanAllFollow catalog i K (records ++ rec ∷ [])
follow-push catalog i K [] rec all one = (one, tt)
follow-push catalog i K (first ∷ records) rec all one =
    (all.0, follow-push catalog i (recorded catalog i (Some first) K) records rec all.1 one)

-- these records, and what they tell
abbrev pub Tells : Catalog → SiteId → List Record → Knowledge → Type 0
Tells catalog i records K = CanAllFollow catalog i fresh records × (lost K ≡ replayed catalog i fresh records)

tells_more : (catalog : Catalog) (i : SiteId) (records : List Record) (K : Knowledge) (rec : Record)
    → Tells catalog i records K → CanFollow catalog i K rec
    → Tells catalog i (records ++ rec ∷ []) (recorded catalog i (Some rec) K)
tells_more catalog i records K rec are follow = (
  follow-push catalog i fresh records rec are.0 (subst (λ (L : Knowledge). CanFollow catalog i L rec) are.1
      (follow_lost catalog i K rec follow)),
  lost_recorded catalog i K rec ∙ (ap (recorded catalog i (Some rec)) are.1
      ∙ sym (replayed-push catalog i fresh records rec)),
)

tells_then : (catalog : Catalog) (i : SiteId) (records : List Record) (K : Knowledge) (wrote : Option Record)
    → Tells catalog i records K → IfSome wrote (CanFollow catalog i K)
    → Tells catalog i (records_after wrote records) (recorded catalog i wrote K)
tells_then catalog i records K None are follow = are
tells_then catalog i records K (Some rec) are follow = tells_more catalog i records K rec are follow

-- what is left behind an event, and behind a fall, goes by its record
left_after : (catalog : Catalog) (i : SiteId) (wrote : Option Record) (K : Knowledge) (event : Event)
    (outcome : Outcome)
    → lost (knows_after event outcome (after catalog i K event outcome wrote)) ≡ lost (recorded catalog i wrote K)
left_after catalog i wrote K event outcome = by (goes_down event outcome)
  where
    by : (down : Bool) → lost
        (if down then lost (after catalog i K event outcome wrote) else after catalog i K event outcome wrote) ≡ lost
        (recorded catalog i wrote K)
    by true = refl
    by false = refl

-- the record of a step can follow
step_follows : (catalog : Catalog) (i : SiteId) (S : Standing) (event : Event) (came : Came)
    → IsKept catalog i S.up S.knows S.flight → IsStep catalog i S event came
    → IfSome came.wrote (CanFollow catalog i S.knows)
step_follows catalog i S event came I (stable kind none said) = kind_follows catalog i S
    (issued_by S.up S.knows) I.learned I.sound I.tidy I.booted event came.wrote came.outcome kind
step_follows catalog i S event came I (flies rec outcome kind only) = subst
    (λ (w : Option Record). IfSome w (CanFollow catalog i S.knows)) (sym only.wrote) tt
step_follows catalog i S event came I (unread_step restart down only) = subst
    (λ (w : Option Record). IfSome w (CanFollow catalog i S.knows)) (sym only.wrote) tt
step_follows catalog i S event came I (wants takes only) = subst
    (λ (w : Option Record). IfSome w (CanFollow catalog i S.knows)) (sym only.wrote) tt
step_follows catalog i S event came I (finds_full rec outcome need left kind only) = subst
    (λ (w : Option Record). IfSome w (CanFollow catalog i S.knows)) (sym only.wrote) tt

-- a restart found the record in flight
settled_tells : (catalog : Catalog) (i : SiteId) (S : Standing) (event : Event) (kept : Option Record)
    → IfSome kept (IsFound S event) → IsKept catalog i S.up S.knows S.flight
    → Tells catalog i S.records S.knows → Tells catalog i (settled catalog i kept S).records
    (settled catalog i kept S).knows
settled_tells catalog i S event None found I are = are
settled_tells catalog i S event (Some rec) found I are =
    tells_more catalog i S.records S.knows rec are (subst
    (λ f. IfSome f (CanFollow catalog i S.knows)) found.in_flight I.flies)

right_tells : (catalog : Catalog) (layout : Layout) (i : SiteId) → i.0 < catalog.sites → (older : List Entry)
    → AreRight catalog layout i older
    → Tells catalog i (standing catalog i older).records (standing catalog i older).knows
right_tells catalog layout i below [] right = (tt, refl)
right_tells catalog layout i below (e ∷ older) right =
    let S : Standing = standing catalog i older in
    let T : Standing = settled catalog i e.came.kept S in
    let I = right_kept catalog layout i below older right.0 in
    let J = settled_kept catalog i below S e.event e.came.kept right.1.kept I in
    let before = settled_tells catalog i S e.event e.came.kept right.1.kept I
    (right_tells catalog layout i below older right.0) in
    let now = tells_then catalog i T.records T.knows e.came.wrote before
    (step_follows catalog i T e.event e.came J (step_of catalog layout i T e.event e.came right.1.comes)) in
    (now.0, left_after catalog i e.came.wrote T.knows e.event e.came.outcome ∙ now.1)

pub right_journaled : (catalog : Catalog) (layout : Layout) (i : SiteId) → i.0 < catalog.sites → (older : List Entry)
    → AreRight catalog layout i older
    → IsJournaled catalog i (standing catalog i older)
right_journaled catalog layout i below older right =
    let are = right_tells catalog layout i below older right in
    record { follow = are.0; flight = (right_kept catalog layout i below older right).flies; told = are.1 }
