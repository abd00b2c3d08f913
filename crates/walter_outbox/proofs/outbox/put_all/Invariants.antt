use Rattle.std.proofs.Common.{◌≡◌, ◌≤◌, ◌++◌, ℕ, List, length, map}
use Rattle.std.specs.Vec.Iter.{into_iter_items}
use Rattle.walter_rules.specs.Sending.{Send}
use Rattle.walter_packet.specs.Framed.{frame_of}
use Rattle.walter_outbox.proofs.Putting.{IsPutting, HavePutFront}
use Rattle.walter_outbox.proofs.outbox.put_all.Given as goal

abbrev pub invariant-loop-framed : goal.invariant-loop-framed
invariant-loop-framed l = record {
  can_next : (goal.iterator-loop-framed).can_next l.framed-iterator;
  finite : (goal.iterator-loop-framed).is_finite l.framed-iterator;
  yielded : l.yielded ++ into_iter_items l.framed-iterator ≡ l.fn.frames.items;
  few : l.dropped ≤ length l.yielded;
  front : List Send;
  at : IsPutting l.fn.outs l.outs l.fn.sends l.sends.items front l.count (length l.yielded) l.dropped;
  posts : (sites : ℕ) → l.fn.frames.items ≡ map (λ s. frame_of sites s.1) l.fn.sends
      → HavePutFront sites l.stamp l.fn.outs l.outs front;
}
