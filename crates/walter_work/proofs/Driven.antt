-- What is driven is so by less too: where fewer sites are told, and where connections don't fail.
use Rattle.std.proofs.Common.{ℕ, ◌<◌, List, ◌⊎◌, inl, inr, ap, slice_get, ◌≡◌, Some}
use Rattle.walter_base.specs.declared.names.SiteId.{SiteId}
use Rattle.walter_rules.specs.declared.entry.Entry.{Entry}
use Rattle.walter_rules.specs.Knowledge.{site_at}
use Rattle.walter_rules.specs.Merges.{trail_of}
use Rattle.walter_scenario.specs.declared.scenario.Client.{Client}
use Rattle.walter_scenario.specs.declared.scenario.Scenario.{Scenario}
use Rattle.walter_work.specs.Driven.{HasAllCalled, IsDriven, IsIdleAt, IsSpentAt}

pub idle_fewer : (told fewer : Type 0) → (fewer → told) → (t : Scenario) (trails : List (List Entry)) (i : SiteId)
    → IsIdleAt told t trails i → IsIdleAt fewer t trails i
idle_fewer told fewer so t trails i idle = record {
  ticks = idle.ticks;
  packets = idle.packets;
  up = λ is. idle.up (so is);
  none_enabled = λ is. idle.none_enabled (so is);
}

pub driven_fewer : (told fewer : ℕ → Type 0) (fails may_fail : Type 0) → ((i : ℕ) → fewer i → told i) → (fails → may_fail)
    → (t : Scenario) (trails : List (List Entry)) → IsDriven told fails t trails → IsDriven fewer may_fail t trails
driven_fewer told fewer fails may_fail so failed t trails driven = record {
  worked = λ i below.
      let worked = driven.worked i below in
      record { events = λ is. worked.events (so i is); packets = worked.packets; ticks = worked.ticks };
  calls = λ number client at. elim (driven.calls number client at) [
    | inl has ↦ inl (failed has)
    | inr all ↦ inr all
  ];
  pumps = λ i below. elim (driven.pumps i below) [
    | inl spent ↦ inl spent
    | inr idle ↦ inr (idle_fewer (told i) (fewer i) (so i) t trails (site_at i) idle)
  ];
}
