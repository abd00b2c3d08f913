use Rattle.std.proofs.Common.{◌≡◌, ◌≤◌, drop, max, vec_len, vec_capacity}
use Rattle.walter_disk_memory.specs.Contents.{filled}
use Rattle.walter_disk_memory.specs.Rooms.{reach}
use Rattle.walter_disk_memory.proofs.content.fill_places.Given as goal

abbrev pub invariant-loop-place : goal.invariant-loop-place
invariant-loop-place l = record {
  same : filled l.byte (drop l.place-index l.places) l.bytes.items ≡ filled l.byte l.places l.initial.bytes.items;
  nearer : reach (drop l.place-index l.places) ≤ reach l.places;
  len : vec_len l.bytes ≤ max (vec_len l.initial.bytes) (reach l.places);
  capacity : vec_capacity l.initial.bytes ≤ vec_capacity l.bytes;
}
