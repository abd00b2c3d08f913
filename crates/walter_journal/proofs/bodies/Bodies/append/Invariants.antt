use Rattle.std.proofs.Common.{◌≡◌, ◌++◌, map}
use Rattle.walter_journal.proofs.bodies.Bodies.append.Given as goal

abbrev pub invariant-loop-body : goal.invariant-loop-body
invariant-loop-body l =
    map (λ body. body.items) l.self-inside.items.items ≡ map (λ body. body.items) l.initial.self-inside.items.items ++ map (λ body. body.items) l.yielded
