-- What the records of a site tell goes on by records alone: replies, what is heard and a stop leave it.
use Rattle.std.proofs.Common.{◌≡◌, true, false, refl, ◌∙◌, Some, None, if◌then◌else◌}
use Rattle.std.specs.Prelude.{Option}
use Rattle.walter_base.specs.declared.catalog.Catalog.{Catalog}
use Rattle.walter_base.specs.declared.message.Record.{Record}
use Rattle.walter_base.specs.declared.names.SiteId.{SiteId}
use Rattle.walter_rules.specs.declared.entry.Came.{Came}
use Rattle.walter_rules.specs.declared.event.Event.{Event}
use Rattle.walter_rules.specs.declared.outcome.Outcome.{Outcome}
use Rattle.walter_rules.specs.Knowledge.{Knowledge}
use Rattle.walter_rules.specs.Learning.{recorded, after, lost}
use Rattle.walter_alone.proofs.Followed.{lost_recorded as one_recorded}
use Rattle.walter_rules.specs.Standing.{Standing, settled, goes_down, knows_after, stands_after}

-- what is lost and then recorded, if anything is, is recorded and then lost
pub lost_recorded : (catalog : Catalog) (i : SiteId) (rec : Option Record) (K : Knowledge)
    → lost (recorded catalog i rec K) ≡ recorded catalog i rec (lost K)
lost_recorded catalog i None K = refl
lost_recorded catalog i (Some r) K = one_recorded catalog i K r

-- what records tell after an event
pub lost_after : (catalog : Catalog) (i : SiteId) (K : Knowledge) (event : Event) (outcome : Outcome)
    (wrote : Option Record)
    → lost (after catalog i K event outcome wrote) ≡ recorded catalog i wrote (lost K)
lost_after catalog i K event outcome wrote = lost_recorded catalog i wrote K

pub lost_knows : (event : Event) (outcome : Outcome) (K : Knowledge) → lost (knows_after event outcome K) ≡ lost K
lost_knows event outcome K = elim (goes_down event outcome) as
    (λ b. lost (if b then lost K else K) ≡ lost K) [ true ↦ refl | false ↦ refl ]

pub lost_stands : (catalog : Catalog) (i : SiteId) (S : Standing) (event : Event) (came : Came)
    → lost (stands_after catalog i S event came).knows ≡ recorded catalog i came.wrote (lost S.knows)
lost_stands catalog i S event came = lost_knows event came.outcome
    (after catalog i S.knows event came.outcome came.wrote) ∙ lost_after catalog i S.knows event came.outcome came.wrote

-- and after what a restart found
pub lost_settled : (catalog : Catalog) (i : SiteId) (kept : Option Record) (S : Standing)
    → lost (settled catalog i kept S).knows ≡ recorded catalog i kept (lost S.knows)
lost_settled catalog i None S = refl
lost_settled catalog i (Some r) S = lost_recorded catalog i (Some r) S.knows
