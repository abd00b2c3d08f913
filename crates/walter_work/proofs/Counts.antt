-- How often a packet waits.
use Rattle.std.proofs.Common.{◌≡◌, ◌+◌, ◌*◌, ℕ, zero, suc, List, [], ◌∷◌, ◌++◌, Bool, true, false, arith, if◌then◌else◌}
use Rattle.std.specs.Prelude.{count_by, replicate}
use Rattle.std.proofs.lemmas.List.Folds.{sum_by-replicate}
use Rattle.std.proofs.lemmas.List.Sums.{sum_by-append, sum_by-cons, sum_by_push}
use Rattle.walter_link.specs.declared.chooser.Choice.{Choice}
use Rattle.walter_link.specs.declared.pump.Waiting.{Waiting}
use Rattle.walter_link.specs.Pumps.{put_copies, put_first, put_in}

-- with one more at the end
pub count_push : {X : Type 0} (p : X → Bool) (xs : List X) (x : X)
    → count_by p (xs ++ x ∷ []) ≡ count_by p xs + (if p x then 1 else 0)
count_push p xs x = sum_by_push (λ y. if p y then 1 else 0) xs x

-- with one more in front
pub count_cons : {X : Type 0} (p : X → Bool) (x : X) (xs : List X)
    → count_by p (x ∷ xs) ≡ (if p x then 1 else 0) + count_by p xs
count_cons p x xs = sum_by-cons (λ y. if p y then 1 else 0) x xs

none_counted : (b : Bool) → ◌≡◌ {A = ℕ} (if b then 0 else 0) 0
none_counted true = omega arith
none_counted false = omega arith

one_counted : (b : Bool) (n : ℕ) → (if b then suc n else 0) ≡ (if b then 1 else 0) + n * (if b then 1 else 0)
one_counted true n = omega arith
one_counted false n = omega arith

module _ (p : Waiting → Bool) (x : Waiting) where
  count_first : (front : Bool) (waiting : List Waiting)
      → count_by p (put_first front x waiting) ≡ count_by p waiting + (if p x then 1 else 0)
  count_first true waiting = let more = count_cons p x waiting in omega (arith, more)
  count_first false waiting = count_push p waiting x

  count_copies : (n : ℕ) (front : Bool) (waiting : List Waiting)
      → count_by p (put_copies n x waiting (put_first front x waiting)) ≡ count_by p waiting + (if p x then n else 0)
  count_copies zero front waiting = let none = none_counted (p x) in omega (arith, none)
  count_copies (suc n) front waiting =
      let both = sum_by-append (λ y. if p y then 1 else 0) (put_first front x waiting) (replicate n x) in
      let first = count_first front waiting in
      let again = sum_by-replicate (λ y. if p y then 1 else 0) n x in
      let all = one_counted (p x) n in
      omega (arith, both, first, again, all)

  -- a packet that is put in waits as often as is chosen
  pub count_in_put : (choice : Choice) (waiting : List Waiting)
      → count_by p (put_in choice x waiting) ≡ count_by p waiting + (if p x then choice.copies else 0)
  count_in_put choice waiting = count_copies choice.copies choice.front waiting
