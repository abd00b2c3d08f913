-- What comes alone is sized, and what leaves a site up tells of no fault.
use Rattle.std.proofs.Common.{◌≡◌, ◌∙◌, ℕ, false, [], refl, sym, ap, subst, ◌⊎◌, inl, inr}
use Rattle.std.specs.Prelude.{All}
use Rattle.std.proofs.lemmas.List.Elements.{All-nil}
use Rattle.walter_base.specs.declared.message.Reply.{Reply}
use Rattle.walter_base.specs.declared.message.Reply.TheVariants.{Unsure}
use Rattle.walter_base.specs.declared.names.Tid.{Tid}
use Rattle.walter_machine.specs.Comings.{IsOutcomeAlone, IsSized, is_faulty}
use Rattle.walter_packet.specs.Spelling.{HasPacketSpelling}
use Rattle.walter_rules.specs.declared.entry.Came.{Came}
use Rattle.walter_rules.specs.declared.event.Event.{Event}
use Rattle.walter_rules.specs.declared.outcome.Outcome.{Outcome}
use Rattle.walter_rules.specs.declared.outcome.Outcome.TheVariants.{Replied, Taken, Passed, Failed, Full, Memory, Down, Refused}
use Rattle.walter_rules.specs.Sending.{Send}
use Rattle.walter_rules.specs.Standing.{goes_down}
use Rattle.walter_rules.specs.Trails.{only}
use Rattle.walter_site.specs.Members.{IsShortOutcome}

-- of no packets each has a spelling
pub none_sent : (sites : ℕ) → All (λ (s : Send). HasPacketSpelling sites s.1) []
none_sent sites = All-nil (λ (s : Send). HasPacketSpelling sites s.1)

-- an outcome alone
pub sized_only : (sites : ℕ) (outcome : Outcome) → IsShortOutcome outcome → IsSized sites (only outcome)
sized_only sites outcome short =
    record { outcome = short; kept = tt; wrote = tt; flight = tt; sends = none_sent sites }

-- what is an outcome alone is its own
pub only_alone : (came : Came) (outcome : Outcome) → came ≡ only outcome → IsOutcomeAlone came
only_alone came outcome is = is ∙ sym (ap (λ (x : Came). only x.outcome) is)

unsure_or_not : (reply : Reply) → ((tid : Tid) × (reply ≡ Unsure tid)) ⊎ (is_faulty (Replied reply) ≡ false)
unsure_or_not (Unsure tid) = inl (tid, refl)
unsure_or_not reply = inr refl

-- what leaves a site up tells of no fault
pub faultless : (event : Event) (outcome : Outcome) → goes_down event outcome ≡ false → is_faulty outcome ≡ false
faultless event (Replied reply) stays = elim (unsure_or_not reply) [
  | inl unsure ↦
      let falls : goes_down event (Replied (Unsure unsure.0)) ≡ false =
      subst (λ (r : Reply). goes_down event (Replied r) ≡ false) unsure.1 stays in
      absurd cc
  | inr sure ↦ sure
]
faultless event Taken stays = refl
faultless event Passed stays = refl
faultless event Failed stays = absurd cc
faultless event (Full need left) stays = refl
faultless event Memory stays = refl
faultless event Down stays = refl
faultless event Refused stays = refl
