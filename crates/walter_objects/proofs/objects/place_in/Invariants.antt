use Rattle.std.proofs.Common.{◌≡◌, ◌+◌, ◌-◌, ◌≤◌, length, drop}
use Rattle.walter_objects.specs.Onto.{place_in}
use Rattle.walter_objects.proofs.objects.place_in.Given as goal

-- those so far stand before it
abbrev pub invariant-loop-place : goal.invariant-loop-place
invariant-loop-place l = record {
  so_far : place_in l.fn.oid l.objects ≡ l.place + place_in l.fn.oid (drop l.place l.objects);
  within : l.place ≤ length l.objects;
}

abbrev pub decreases-loop-place : goal.decreases-loop-place
decreases-loop-place l = length l.objects - l.place
