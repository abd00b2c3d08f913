-- How the trail of a site that works stands to what waits there.
use Rattle.std.specs.Prelude.{◌≡◌, ◌+◌, ℕ, nat_eq, nat_le, ◌&&◌, List, count_by, reverse, slice_get, Some, if◌then◌else◌}
use Rattle.walter_base.specs.declared.names.SiteId.{SiteId}
use Rattle.walter_base.specs.Names.{same_site}
use Rattle.walter_link.specs.declared.chooser.Link.{Link}
use Rattle.walter_link.specs.declared.pump.Sender.{Sender}
use Rattle.walter_link.specs.declared.pump.Waiting.{Waiting}
use Rattle.walter_link.specs.Choices.{copies}
use Rattle.walter_link.specs.Pumps.{PumpValue, new_sender, sender_behind, taken_from}
use Rattle.walter_rules.specs.declared.entry.Entry.{Entry}
use Rattle.walter_scenario.specs.declared.scenario.Scenario.{Scenario}
use Rattle.walter_work.specs.Worked.{HaveCome, deliveries_of, ticks_in}

-- how often a site's packet of this number waits
abbrev pub waits_of : SiteId → ℕ → List Waiting → ℕ
waits_of from number waiting = count_by (λ (w : Waiting). same_site from w.from && nat_eq number w.number) waiting

-- how often it was put in by now: as often as the link copies it, once it was taken
abbrev pub copies_taken : Link → SiteId → PumpValue → SiteId → ℕ → ℕ
copies_taken link i pump from number =
    if nat_le number (taken_from pump from.0) then copies link.seed link.rates i from number else 0

-- A site works: each event might come where it did, where the site is told; each packet was delivered or waits as often
-- as it was put in; the ticks that were made and those that are left are the scenario's; and the link chooses as it says.
pub record IsWorking (told : Type 0) (t : Scenario) (i : SiteId) (trail : List Entry) (pump : PumpValue) : Type 0 where
  pub events : told → HaveCome t.catalog i (reverse trail)
  pub packets : (from : SiteId) (number : ℕ)
      → deliveries_of from number trail + waits_of from number pump.waiting ≡ copies_taken t.link i pump from number
  pub ticks : ticks_in trail + pump.ticks ≡ t.ticks
  pub rates : pump.rates ≡ t.link.rates
  pub senders : (from : ℕ) (sender : Sender) → slice_get pump.senders from ≡ Some sender
      → sender ≡ sender_behind sender.taken (new_sender t.link i from)
