use Rattle.std.proofs.Common.{◌≡◌, ◌-◌, ◌≤◌, take, vec_len, vec_capacity}
use Rattle.walter_conn.specs.Inputs.{held_by, unread_by}
use Rattle.walter_conn.proofs.input.FrameInput.fill.Given as goal

abbrev pub invariant-loop-self : goal.invariant-loop-self
invariant-loop-self g l = record {
  room : 65540 ≤ vec_capacity l.self.buffer;
  made : l.wanted ≤ vec_len l.self.buffer;
  within : l.self.held ≤ l.wanted;
  grows : l.fn.self.held ≤ l.self.held;
  kept : take l.fn.self.held l.self.buffer.items ≡ held_by l.fn.self;
  unread : unread_by g.S.Source.left l.self ≡ unread_by g.S.Source.left l.fn.self;
  faultless : g.S.Source.faults l.self.source ≡ g.S.Source.faults l.fn.self.source;
}

abbrev pub decreases-loop-self : goal.decreases-loop-self
decreases-loop-self g l = l.wanted - l.self.held
