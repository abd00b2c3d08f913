use Rattle.std.proofs.Common.{◌≡◌, ℕ, nat_eq, take, option_map, if◌then◌else◌}
use Rattle.std.specs.List.{list_any}
use Rattle.walter_slow.specs.Kept.{booted}
use Rattle.walter_slow.specs.Tables.{commit_of, numbers_of, CanBegin}
use Rattle.walter_slow.proofs.slow.SlowCommits.boot.Given as goal

abbrev pub invariant-loop-place : goal.invariant-loop-place
invariant-loop-place l = record {
  last : l.self.last ≡ l.initial.self.last;
  numbers : numbers_of l.self ≡ numbers_of l.initial.self;
  commits : (n : ℕ) → commit_of l.self n ≡ (if list_any (nat_eq n) (take l.place (numbers_of l.initial.self)) then option_map booted (commit_of l.initial.self n) else commit_of l.initial.self n);
  room : (k : ℕ) → CanBegin l.initial.self k → CanBegin l.self k;
}
