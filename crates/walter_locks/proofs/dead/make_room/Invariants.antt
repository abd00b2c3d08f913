use Rattle.std.proofs.Common.{◌≡◌, ◌<◌, ◌≤◌, ℕ, length}
use Rattle.walter_base.specs.declared.names.SiteId.{SiteId}
use Rattle.walter_locks.specs.Parts.{is_dead, room_of}
use Rattle.walter_locks.proofs.dead.make_room.Given as goal

abbrev pub invariant-loop-place : goal.invariant-loop-place
invariant-loop-place l = record {
  sites : length l.dead.items ≡ length l.initial.dead.items;
  enough : (k : ℕ) → k < l.place → 0 < room_of l.dead.items k;
  dead : (j : SiteId) (n : ℕ) → is_dead l.dead.items j n ≡ is_dead l.initial.dead.items j n;
  more : (k : ℕ) → room_of l.initial.dead.items k ≤ room_of l.dead.items k;
}
