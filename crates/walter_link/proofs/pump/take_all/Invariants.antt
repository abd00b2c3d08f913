use Rattle.std.proofs.Common.{◌≡◌, ◌≤◌, ◌+◌, ◌-◌, ◌*◌}
use Rattle.std.specs.VecDeque.{deque_len, deque_capacity}
use Rattle.walter_link.specs.Pumps.{put_all, sender_behind}
use Rattle.walter_link.proofs.pump.take_all.Given as goal

-- what is to be taken still leaves what all leaves, and has room
abbrev pub invariant-loop-number : goal.invariant-loop-number
invariant-loop-number l = record {
  taken : l.sender.taken ≡ l.number;
  room : deque_len l.waiting + 2 * (l.last - l.number) ≤ deque_capacity l.waiting;
  sender : sender_behind (l.last - l.number) l.sender
      ≡ sender_behind (l.last - l.initial.sender.taken) l.initial.sender;
  waiting : put_all (l.last - l.number) l.rates l.from l.sender l.waiting.items
      ≡ put_all (l.last - l.initial.sender.taken) l.rates l.from l.initial.sender l.initial.waiting.items;
}
