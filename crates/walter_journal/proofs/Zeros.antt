-- A disk while zeros are written behind its last byte, with no sync between the writes.
use Rattle.std.proofs.Common.{◌≡◌, inl, inr, ⊎_elim, ◌+◌, ◌-◌, ◌≤◌, max, ℕ, List, ◌++◌, length, take, drop, Option, Some, None, option_map, sym, ap, ◌∙◌, arith, append_assoc, length-append}
use Rattle.std.proofs.lemmas.List.{take-take, take_all, drop_all, append-nil, length-replicate, replicate-append-replicate}
use Rattle.std.specs.Prelude.{IfSome}
use Rattle.walter_disk.specs.Disks.{DiskState, laid, written}
use Rattle.walter_disk.specs.Images.{Torn, Follows, Elapses, LeavesOnly}
use Rattle.walter_disk.proofs.Moments.{joined}
use Rattle.walter_journal.specs.Zeros.{zeros, filled, filled_disk, Grows, HasGrown}

module _ {D : Type 0} (moment : D → ℕ) (left_since : D → ℕ → List ℕ → Type 0) (may_leave : D → List ℕ → Type 0) (only_now : (disk : D) (image : List ℕ) → left_since disk (moment disk) image → may_leave disk image) where
  -- what holds of each image, and lasts over a step, holds of each image behind it
  pub lasts : (old new : D) (P : List ℕ → Type 0) (step : List ℕ → List ℕ → Type 0) → ((image : List ℕ) → may_leave old image → P image) → ((a b : List ℕ) → P a → step a b → P b)
      → Follows step (may_leave old) (may_leave new) → (image : List ℕ) → may_leave new image → P image
  lasts old new P step had keeps follows image left = let from = follows image left in keeps from.0 image (had from.0 from.1) from.2

  -- and of each since
  pub lasting : (old new : D) (P : List ℕ → Type 0) (step : List ℕ → List ℕ → Type 0) → ((image : List ℕ) → may_leave old image → P image) → ((a b : List ℕ) → P a → step a b → P b)
      → Follows step (may_leave old) (may_leave new) → Elapses (moment old) (moment new) (left_since old) (left_since new) (may_leave new) → LeavesOnly moment left_since old new P
  lasting old new P step had keeps follows time = record {
    later = time.later;
    each = λ image left. ⊎_elim (λ was. had image (only_now old image was)) (λ is. lasts old new P step had keeps follows image is) (time.nothing_else (moment old) image (omega arith) left);
    before = λ t image le left. ⊎_elim (λ was. inl was) (λ is. inr (lasts old new P step had keeps follows image is)) (time.nothing_else t image le left);
  }

  -- and where no step is made
  pub resting : (disk : D) (P : List ℕ → Type 0) → ((image : List ℕ) → may_leave disk image → P image) → LeavesOnly moment left_since disk disk P
  resting disk P had = record { later = omega arith; each = λ image left. had image (only_now disk image left); before = λ t image le left. inl left }

grown_torn : (place end at count : ℕ) (images : List ℕ → Type 0) → place ≤ at → at + count ≤ end → (a b : List ℕ) → HasGrown place end images a → Torn at count a b → HasGrown place end images b
grown_torn place end at count images behind within a b grown torn = (
  grown.0,
  grown.1,
  record {
    front = sym (take-take place at b behind) ∙ ap (take place) torn.before ∙ take-take place at a behind ∙ grown.2.front;
    size = ⊎_elim (λ same. omega (arith, same, grown.2.size)) (λ more. omega (arith, more, grown.2.size, within)) torn.size;
  },
)

-- one more write of zeros
module _ {D : Type 0} (moment : D → ℕ) (left_since : D → ℕ → List ℕ → Type 0) (may_leave : D → List ℕ → Type 0) (only_now : (disk : D) (image : List ℕ) → left_since disk (moment disk) image → may_leave disk image) (place end at count : ℕ)
    (behind : place ≤ at) (within : at + count ≤ end) (old mid new : D) (had : Follows (Grows place end) (may_leave old) (may_leave mid)) (step : Follows (Torn at count) (may_leave mid) (may_leave new)) where
  pub grown_more : Follows (Grows place end) (may_leave old) (may_leave new)
  grown_more = lasts moment left_since may_leave only_now mid new (HasGrown place end (may_leave old)) (Torn at count) had (grown_torn place end at count (may_leave old) behind within) step

  pub grown_since : LeavesOnly moment left_since old mid (HasGrown place end (may_leave old)) → Elapses (moment mid) (moment new) (left_since mid) (left_since new) (may_leave new)
      → LeavesOnly moment left_since old new (HasGrown place end (may_leave old))
  grown_since run time =
      joined moment left_since old mid new (HasGrown place end (may_leave old)) run
      (lasting moment left_since may_leave only_now mid new (HasGrown place end (may_leave old)) (Torn at count) had (grown_torn place end at count (may_leave old) behind within) step time)

-- what reads behind them
filled_more : (at count : ℕ) (bytes : List ℕ) → length bytes ≤ at → laid at (zeros count) (filled at bytes) ≡ filled (at + count) bytes
filled_more at count bytes le =
    let behind : List ℕ = zeros (at - length bytes) in
    let size : length (filled at bytes) ≡ at = omega (arith, length-append bytes behind, length-replicate {A = ℕ} (at - length bytes) 0, le) in
    let more : (at - length bytes) + count ≡ (at + count) - length bytes = omega (arith, le) in
    ap (λ l. l ++ zeros count ++ drop (at + length (zeros count)) (filled at bytes)) (take_all at (filled at bytes) (omega (arith, size)))
    ∙ ap (λ l. filled at bytes ++ zeros count ++ l) (drop_all (at + length (zeros count)) (filled at bytes) (omega (arith, size)))
    ∙ append-nil (filled at bytes ++ zeros count)
    ∙ append_assoc bytes behind (zeros count)
    ∙ ap (λ l. bytes ++ l) (replicate-append-replicate (at - length bytes) count 0)
    ∙ ap (λ n. bytes ++ zeros n) more

pub filled_on : (old mid new : DiskState) (at count : ℕ) (over : List ℕ) → IfSome old.reads (λ bytes. old.size ≡ length bytes) → old.size ≤ at → mid ≡ filled_disk at old → over ≡ zeros count → new ≡ written at over mid
    → new ≡ filled_disk (at + count) old
filled_on old mid new at count over size le is is_zeros done = done ∙ ap (λ disk. written at over disk) is ∙ ap (λ l. written at l (filled_disk at old)) is_zeros ∙ more old.reads size
  where
    sizes : max (max old.size at) (at + length (zeros count)) ≡ max old.size (at + count)
    sizes = omega (arith, length-replicate {A = ℕ} count 0)

    more : (reads : Option (List ℕ)) → IfSome reads (λ bytes. old.size ≡ length bytes)
        → record old { reads = option_map (laid at (zeros count)) (option_map (filled at) reads); size = max (max old.size at) (at + length (zeros count)) } ≡ record old { reads = option_map (filled (at + count)) reads; size = max old.size (at + count) }
    more None told = ap (λ n. record old { reads = None; size = n }) sizes
    more (Some bytes) told =
        ap (λ n. record old { reads = Some (laid at (zeros count) (filled at bytes)); size = n }) sizes
        ∙ ap (λ l. record old { reads = Some l; size = max old.size (at + count) }) (filled_more at count bytes (omega (arith, told, le)))
