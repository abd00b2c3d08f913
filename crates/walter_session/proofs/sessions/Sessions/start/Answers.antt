use Rattle.std.proofs.Common.{◌≡◌, ◌≤◌, ◌<◌, ◌∙◌, ◌↔◌, ℕ, Bool, true, false, IsTrue, IsSome, nat_eq, nat_lt, refl, ap, sym, subst, true≢false}
use borrow.Author.Tests.{ltb-true, ltb-false}
use Rattle.std.specs.Map.{lookup}
use Rattle.walter_session.specs.Sessions.{session_of}
use Rattle.walter_session.proofs.Links.{found, no_session}
use Rattle.walter_session.proofs.sessions.Sessions.start.Goals as goal

-- what isn't full has place for one more
not_full : {full : Bool} {n : ℕ} → IsTrue full ↔ (256 ≤ n) → full ≡ false → n < 256
not_full {full} {n} is below = elim (nat_lt n 256) as (λ b. nat_lt n 256 ≡ b → n < 256) [
  | true ↦ λ yes. ltb-true n 256 yes
  | false ↦ λ more. let so : full ≡ true = is.1 (ltb-false n 256 more) in absurd (cc)
] refl

pub returns-then-contains_key-clause-fault : goal.returns-then-contains_key-clause-fault
returns-then-contains_key-clause-fault c =
    let there = found c.self.inside.slots c.self.inside.keys.entries c.args.client c.self.invariant.each ∙ sym c.contains_key.ensures ∙ c.if-contains_key.true in
    subst (λ table. IsSome (session_of table c.args.client)) c.self.view_is there

pub returns-then-is_full-clause-fault : goal.returns-then-is_full-clause-fault
returns-then-is_full-clause-fault c =
    let none = no_session c.self.inside.slots c.self.inside.keys.entries c.args.client c.self.invariant.each (sym c.contains_key.ensures ∙ c.if-contains_key.false) in
    (ap (λ table. session_of table c.args.client) (sym c.self.view_is) ∙ none, c.is_full.ensures.full.0 c.if-is_full.true)

pub put-requires-clause-none : goal.put-requires-clause-none
put-requires-clause-none c =
    let none = no_session c.self.inside.slots c.self.inside.keys.entries c.args.client c.self.invariant.each (sym c.contains_key.ensures ∙ c.if-contains_key.false) in
    ap (lookup (nat_eq c.args.client)) c.reserve_start.ensures.sessions ∙ ap (λ table. session_of table c.args.client) (sym c.self.view_is) ∙ none

pub returns-clause-free : goal.returns-clause-free
returns-clause-free c =
    let none = no_session c.self.inside.slots c.self.inside.keys.entries c.args.client c.self.invariant.each (sym c.contains_key.ensures ∙ c.if-contains_key.false) in
    (ap (λ table. session_of table c.args.client) (sym c.self.view_is) ∙ none, not_full c.is_full.ensures.full c.if-is_full.false)

pub returns-in_default-clause-fault : goal.returns-in_default-clause-fault
returns-in_default-clause-fault c =
    let none = no_session c.self.inside.slots c.self.inside.keys.entries c.args.client c.self.invariant.each (sym c.contains_key.ensures ∙ c.if-contains_key.false) in
    (ap (λ table. session_of table c.args.client) (sym c.self.view_is) ∙ none, not_full c.is_full.ensures.full c.if-is_full.false, λ can. true≢false (sym (c.in_default.ensures.had can)))
