-- The holdings as the code keeps them: how far the own commits are held is counted.
use Rattle.std.specs.Prelude.{◌+◌, ◌<◌, ℕ, List, []}
use Rattle.walter_durable.specs.declared.copies.Copies.{Copies}
use Rattle.walter_durable.specs.declared.durable.Durable.TheInside.{Inside}
use Rattle.walter_durable.specs.Marks.{Holdings, own, IsHeld, AreHeld}

abbrev pub kept_in : Inside → Holdings
kept_in d = record {
  site = d.copies.site;
  sites = d.copies.sites;
  tolerated = d.copies.tolerated;
  preferred = d.copies.preferred.items;
  acknowledged = d.acknowledged;
  visible = d.visible;
  durable_floor = d.durable_floor;
  visible_floor = d.visible_floor;
}

-- the own commits, and how many of them each peer has acknowledged, alone
abbrev pub copies_in : Copies → List ℕ → Holdings
copies_in copies acknowledged = record {
  site = copies.site;
  sites = copies.sites;
  tolerated = copies.tolerated;
  preferred = copies.preferred.items;
  acknowledged = acknowledged;
  visible = [];
  durable_floor = 0;
  visible_floor = 0;
}

-- the own commits up to m are held, and the next is not
pub record IsCounted (H : Holdings) (m : ℕ) : Type 0 where
  pub held : AreHeld H m
  pub stops : m < own H → ¬ IsHeld H (m + 1)
