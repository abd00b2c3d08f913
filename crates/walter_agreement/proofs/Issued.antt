-- Which transactions a site has started, or may have: in an epoch that is over, or with a number that was given.
use Rattle.std.proofs.Common.{◌≡◌, ◌+◌, ◌<◌, ◌≤◌, ◌⊎◌, ℕ, refl, arith, inl, inr}
use Rattle.walter_base.specs.declared.names.SiteId.{SiteId}
use Rattle.walter_base.specs.declared.names.Tid.{Tid}

-- the epoch of a site, and how many transactions it has started in it
pub record Issued : Type 0 where
  pub epoch : ℕ
  pub starts : ℕ

-- the transaction was, or may have been, started: an epoch that is over, or a number that was given
abbrev pub IsIssued : Issued → Tid → Type 0
IsIssued held x = (x.epoch < held.epoch) ⊎ ((x.epoch ≡ held.epoch) × (x.number ≤ held.starts))

-- one more is started
abbrev pub with_start : Issued → Issued
with_start held = record { epoch = held.epoch; starts = held.starts + 1 }

-- the transaction that is started next
abbrev pub next_tid : SiteId → Issued → Tid
next_tid i held = record { site = i; epoch = held.epoch; number = held.starts + 1 }

-- what was started stays so
pub issued_by_start : (held : Issued) (x : Tid) → IsIssued held x → IsIssued (with_start held) x
issued_by_start held x h = elim h [
  | inl over ↦ inl over
  | inr here ↦ inr (here.0, let l = here.1 in omega (arith, l))
]

-- the next one wasn't started yet, and is then
pub next_not_issued : (i : SiteId) (held : Issued) → ¬ IsIssued held (next_tid i held)
next_not_issued i held h = elim h [
  | inl over ↦ omega (arith, over)
  | inr here ↦ let l = here.1 in omega (arith, l)
]

pub next_issued : (i : SiteId) (held : Issued) → IsIssued (with_start held) (next_tid i held)
next_issued i held = inr (refl, omega arith)
