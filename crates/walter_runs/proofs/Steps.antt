-- What an entry that is right may be: one of the kinds, whose record is stable; one whose record is in flight; or one
-- of which nothing came.
use Rattle.std.proofs.Common.{◌≡◌, ℕ, false, List, [], ◌∷◌, sym, subst, Some, None, inl, inr}
use Rattle.std.specs.Prelude.{Option, Contains}
use Rattle.std.proofs.lemmas.List.Elements.{Contains-append_left, Contains-append_right, Contains-append_cases}
use Rattle.walter_base.specs.declared.catalog.Catalog.{Catalog}
use Rattle.walter_base.specs.declared.message.Record.{Record}
use Rattle.walter_base.specs.declared.names.SiteId.{SiteId}
use Rattle.walter_base.specs.declared.packet.Packet.{Packet}
use Rattle.walter_rules.specs.declared.entry.Came.{Came}
use Rattle.walter_rules.specs.declared.event.Event.{Event}
use Rattle.walter_rules.specs.declared.event.Event.TheVariants.{Restart}
use Rattle.walter_rules.specs.declared.outcome.Outcome.{Outcome}
use Rattle.walter_rules.specs.declared.outcome.Outcome.TheVariants.{Failed}
use Rattle.walter_rules.specs.Allowed.{IsKind, IsTrueOf}
use Rattle.walter_rules.specs.Layouts.{Layout, header_of}
use Rattle.walter_rules.specs.Learning.{after}
use Rattle.walter_rules.specs.Rule.{rule}
use Rattle.walter_rules.specs.Sending.{Send}
use Rattle.walter_rules.specs.Standing.{Standing}
use Rattle.walter_rules.proofs.RulesAllowed.{rule_allowed}
use Rattle.walter_rules.specs.Trails.{IsPutOut, all_out, put_out, drops, Comes, ruled, met_fault, unread, no_memory, full, IsOnly, TakesMemory, failure, fullness, want}

-- what came of an event at a site that stands so, behind what was kept
pub data IsStep (catalog : Catalog) (i : SiteId) (S : Standing) (event : Event) (came : Came) : Type 0 where
  -- it is of a kind; its record is stable, and what was put out is so
  stable : IsKind catalog i S event came.wrote came.outcome → came.flight ≡ None
      → ((to : SiteId) (packet : Packet) → Contains came.sends (to, packet)
      → IsTrueOf catalog i S.knows event (after catalog i S.knows event came.outcome came.wrote) to packet)
      → IsStep catalog i S event came
  -- it is of a kind, and its record is in flight
  flies : (rec : Record) (outcome : Outcome) → IsKind catalog i S event (Some rec) outcome
      → IsOnly came (failure event rec) (Some rec) → IsStep catalog i S event came
  -- the journal wasn't read
  unread_step : event ≡ Restart → S.up ≡ false → IsOnly came Failed None → IsStep catalog i S event came
  -- memory ran out, where it may
  wants : TakesMemory S.up event → IsOnly came (want event) None → IsStep catalog i S event came
  -- the record of a kind found no place
  finds_full : (rec : Record) (outcome : Outcome) (need left : ℕ) → IsKind catalog i S event (Some rec) outcome
      → IsOnly came (fullness event need left) None → IsStep catalog i S event came

-- what is put out was to be put out
planned : (carried : SiteId → ℕ) (all sends : List Send) (dropped : ℕ) (s : Send) → IsPutOut carried all sends dropped
    → Contains sends s → Contains all s
planned carried all sends dropped s (all_out counts) c = c
planned carried all sends dropped s (put_out counts one rest more lost is) c =
    elim (Contains-append_cases (one ∷ []) more s c) [
      | inl first ↦ Contains-append_left (one ∷ []) rest s first
      | inr later ↦ Contains-append_right (one ∷ []) rest s (planned _ rest more lost s is later)
    ]
planned carried all sends dropped s (drops counts one rest more lost low is) c =
    Contains-append_right (one ∷ []) rest s (planned counts rest more lost s is c)

-- each of what an event may come to is such a step
pub step_of : (catalog : Catalog) (layout : Layout) (i : SiteId) (S : Standing) (event : Event) (came : Came)
    → Comes catalog layout i S event came → IsStep catalog i S event came
step_of catalog layout i S event came (ruled fits is) =
    let all = (rule_allowed (header_of layout) catalog i S event).0 in
    stable
    (subst (λ (w : Option Record). IsKind catalog i S event w came.outcome) (sym is.wrote)
    (subst (λ (o : Outcome). IsKind catalog i S event (rule (header_of layout) catalog i S event).wrote o) (sym is.outcome) all.kind))
    is.flight
    (λ to packet c.
    subst (λ (w : Option Record). IsTrueOf catalog i S.knows event
    (after catalog i S.knows event came.outcome w) to packet) (sym is.wrote)
    (subst (λ (o : Outcome). IsTrueOf catalog i S.knows event
    (after catalog i S.knows event o (rule (header_of layout) catalog i S event).wrote) to packet) (sym is.outcome)
    (all.sent to packet (planned S.carried (rule (header_of layout) catalog i S event).sends came.sends came.dropped
    (to, packet) is.sends c))))
step_of catalog layout i S event came (met_fault rec is fits only) =
    let kind = (rule_allowed (header_of layout) catalog i S event).0.kind in
    flies rec (rule (header_of layout) catalog i S event).outcome
    (subst (λ (w : Option Record). IsKind catalog i S event w (rule (header_of layout) catalog i S event).outcome) is kind) only
step_of catalog layout i S event came (unread restart down only) = unread_step restart down only
step_of catalog layout i S event came (no_memory takes only) = wants takes only
step_of catalog layout i S event came (full rec is low only) =
    let kind = (rule_allowed (header_of layout) catalog i S event).0.kind in
    finds_full rec (rule (header_of layout) catalog i S event).outcome _ _
    (subst (λ (w : Option Record). IsKind catalog i S event w (rule (header_of layout) catalog i S event).outcome) is kind) only
