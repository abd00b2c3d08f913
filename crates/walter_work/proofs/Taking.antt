-- What is taken of a sender waits as often as the link copies it.
use Rattle.std.proofs.Common.{◌≡◌, ◌≢◌, ◌<◌, ◌≤◌, ◌+◌, ◌-◌, ◌&&◌, nat_eq, nat_le, ℕ, zero, suc, List, length, map, set, slice_get, refl, ap, sym, ◌∙◌, subst, arith, Option, Some, None, Bool, true, false, inl, inr, if◌then◌else◌}
use Rattle.std.specs.List.{range_with_len}
use Rattle.std.specs.Option.{option_map}
use Rattle.std.proofs.lemmas.Bool.{cases_eq, cases_lt, eq-eqb, ne_eqb, le-leb, lt-leb}
use Rattle.std.proofs.lemmas.List.{length-set}
use Rattle.std.proofs.lemmas.List.FromFn.{get_or-map-range_with_len, length-map-range_with_len}
use Rattle.std.proofs.lemmas.Option.{slice_get-get_or, slice_get-map, slice_get_within, get_or_from_slice_get}
use Rattle.walter_base.specs.declared.names.SiteId.{SiteId}
use Rattle.walter_base.specs.Names.{same_site}
use Rattle.walter_link.specs.declared.chooser.Choice.{Choice}
use Rattle.walter_link.specs.declared.chooser.Link.{Link}
use Rattle.walter_link.specs.declared.chooser.Rates.{Rates}
use Rattle.walter_link.specs.declared.pump.Sender.{Sender}
use Rattle.walter_link.specs.declared.pump.Waiting.{Waiting}
use Rattle.walter_link.specs.Choices.{behind_all, choice_of, chooser_of, copies}
use Rattle.walter_link.specs.Pumps.{PumpValue, behind_one, count_in, new_pump, new_sender, put_all, put_in, sender_behind, take_arrived, take_below, take_of, take_other, taken_from}
use Rattle.walter_link.proofs.Taking.{set_here, set_there, taken_behind}
use Rattle.walter_work.specs.Working.{copies_taken, waits_of}
use Rattle.walter_work.proofs.Counts.{count_in_put}

-- ---- senders

chooser_behind : (n : ℕ) (s : Sender) → (sender_behind n s).chooser ≡ behind_all n s.chooser
chooser_behind zero s = refl
chooser_behind (suc n) s = chooser_behind n (behind_one s)

-- behind so many, and so many more
behind_more : (k n : ℕ) (s : Sender) → sender_behind n (sender_behind k s) ≡ sender_behind (k + n) s
behind_more zero n s = let e : n ≡ 0 + n = omega arith in ap (λ m. sender_behind m s) e
behind_more (suc k) n s =
    let e : suc (k + n) ≡ suc k + n = omega arith in
    behind_more k n (behind_one s) ∙ ap (λ m. sender_behind m s) e

-- where a sender is as far as was taken of it, it is so behind some more
stays_behind : (n : ℕ) (s first : Sender) → s ≡ sender_behind s.taken first
    → sender_behind n s ≡ sender_behind (sender_behind n s).taken first
stays_behind n s first is =
    ap (sender_behind n) is
    ∙ (behind_more s.taken n first ∙ ap (λ m. sender_behind m first) (sym (taken_behind n s)))

-- ---- what is due

-- nothing is due of a sender of which nothing was taken
pub none_due : (seed : ℕ) (rates : Rates) (to from : SiteId) (number taken : ℕ) → taken ≡ 0
    → (if nat_le number taken then copies seed rates to from number else 0) ≡ 0
none_due seed rates to from zero taken none = rw (le-leb 0 taken (omega arith)) refl
none_due seed rates to from (suc before) taken none =
    rw (lt-leb (suc before) taken (omega (arith, none))) refl

-- what is due of a packet, where this is its sender
abbrev due_here : Bool → (ℕ → ℕ) → (number taken : ℕ) → ℕ
due_here here copied number taken = if here then if nat_le number taken then copied number else 0 else 0

-- one more is due where one more is taken
one_more_due : (here : Bool) (copied : ℕ → ℕ) (number taken : ℕ)
    → (if here && nat_eq number (taken + 1) then copied (taken + 1) else 0) + due_here here copied number taken
    ≡ due_here here copied number (taken + 1)
one_more_due false copied number taken = omega arith
one_more_due true copied number taken = elim (cases_eq number (taken + 1)) [
  | inl same ↦
      let now = ap copied same in
      let before = lt-leb number taken (omega (arith, same)) in
      let behind = le-leb number (taken + 1) (omega (arith, same)) in
      rw (eq-eqb number (taken + 1) same, before, behind) (omega (arith, now))
  | inr other ↦ elim (cases_lt taken number) [
    | inl later ↦
        let later_still = lt-leb number (taken + 1) (omega (arith, other, later)) in
        rw (ne_eqb number (taken + 1) other, lt-leb number taken later, later_still) (omega arith)
    | inr before ↦
        let before_too = le-leb number (taken + 1) (omega (arith, before)) in
        rw (ne_eqb number (taken + 1) other, le-leb number taken before, before_too) (omega arith)
  ]
]

module _ (link : Link) (i from f : SiteId) (m : ℕ) where
  abbrev pub copied : ℕ → ℕ
  copied = copies link.seed link.rates i from

  abbrev pub due_by : ℕ → ℕ
  due_by = due_here (same_site f from) copied m

  -- what waits and what is due grow alike
  pub waits_more : (n : ℕ) (s : Sender) (waiting : List Waiting)
      → s ≡ sender_behind s.taken (new_sender link i from.0)
      → waits_of f m (put_all n link.rates from s waiting) + due_by s.taken
      ≡ waits_of f m waiting + due_by (s.taken + n)
  waits_more zero s waiting far =
      let e : s.taken ≡ s.taken + 0 = omega arith in ap (λ k. waits_of f m waiting + due_by k) e
  waits_more (suc n) s waiting far =
      let x : Waiting = record { from = from; number = s.taken + 1 } in
      let p : Waiting → Bool = λ (w : Waiting). same_site f w.from && nat_eq m w.number in
      let choice : Choice = choice_of link.rates s.chooser in
      let placed = count_in_put p x choice waiting in
      let first : Sender = new_sender link i from.0 in
      let here : s.chooser ≡ behind_all s.taken (chooser_of link.seed i from) =
      ap (λ (y : Sender). y.chooser) far ∙ chooser_behind s.taken first in
      let number : suc s.taken ≡ s.taken + 1 = omega arith in
      let chosen : choice.copies ≡ copied (s.taken + 1) =
      ap (λ g. (choice_of link.rates g).copies) here ∙ ap copied number in
      let weight = ap (λ (c : ℕ). if p x then c else 0) chosen in
      let on = waits_more n (behind_one s) (put_in choice x waiting) (stays_behind 1 s first far) in
      let one = one_more_due (same_site f from) copied m s.taken in
      let sum : s.taken + 1 + n ≡ s.taken + suc n = omega arith in
      let last = ap due_by sum in
      omega (arith, placed, weight, on, one, last)

-- ---- a pump

module _ (link : Link) (i : SiteId) (pump : PumpValue) (from : SiteId) (n : ℕ) (s : Sender)
    (at : slice_get pump.senders from.0 ≡ Some s) where
  abbrev senders : List Sender
  senders = set pump.senders from.0 (sender_behind n s)

  found_here : slice_get senders from.0 ≡ Some (sender_behind n s)
  found_here = set_here pump.senders from.0 (sender_behind n s) (slice_get_within pump.senders from.0 s at)

  found_there : (k : ℕ) → k ≢ from.0 → slice_get senders k ≡ slice_get pump.senders k
  found_there = set_there pump.senders from.0 (sender_behind n s)

  -- of this sender so many more are due, and of another none
  pub due_more : (f : SiteId) (m : ℕ) (after : PumpValue) → after.senders ≡ senders
      → copies_taken link i after f m + due_by link i from f m s.taken
      ≡ copies_taken link i pump f m + due_by link i from f m (s.taken + n)
  due_more f m after is =
      let of : ℕ → ℕ = λ (k : ℕ). if nat_le m k then copies link.seed link.rates i f m else 0 in
      let kept : taken_from after f.0 ≡ count_in (slice_get senders f.0) = ap (λ ss. count_in (slice_get ss f.0)) is in
      elim (cases_eq f.0 from.0) [
        | inl same ↦
            let so_far = ap count_in found_here ∙ taken_behind n s in
            let now = ap of (kept ∙ (ap (λ k. count_in (slice_get senders k)) same ∙ so_far)) in
            let was = ap of (ap (taken_from pump) same ∙ ap count_in at) in
            let own : from ≡ f = ap (λ (k : ℕ). record { 0 = k }) (sym same) in
            let first = here same own s.taken in
            let last = here same own (s.taken + n) in
            omega (arith, now, was, first, last)
        | inr other ↦
            let now = ap of (kept ∙ ap count_in (found_there f.0 other)) in
            let first = there other s.taken in
            let last = there other (s.taken + n) in
            omega (arith, now, first, last)
      ]
    where
      here : f.0 ≡ from.0 → from ≡ f → (k : ℕ)
          → due_by link i from f m k ≡ (if nat_le m k then copies link.seed link.rates i f m else 0)
      here same own k =
          ap (λ b. due_here b (copies link.seed link.rates i from) m k) (eq-eqb f.0 from.0 same)
          ∙ ap (λ (j : SiteId). if nat_le m k then copies link.seed link.rates i j m else 0) own

      there : f.0 ≢ from.0 → (k : ℕ) → due_by link i from f m k ≡ 0
      there other k = ap (λ b. due_here b (copies link.seed link.rates i from) m k) (ne_eqb f.0 from.0 other)

  -- each sender is as far as was taken of it
  pub senders_behind : ((k : ℕ) (x : Sender) → slice_get pump.senders k ≡ Some x
      → x ≡ sender_behind x.taken (new_sender link i k))
      → (k : ℕ) (x : Sender) → slice_get senders k ≡ Some x → x ≡ sender_behind x.taken (new_sender link i k)
  senders_behind far k x is = elim (cases_eq k from.0) [
    | inl same ↦
        let found : Some (sender_behind n s) ≡ Some x = sym found_here ∙ (sym (ap (slice_get senders) same) ∙ is) in
        let one : sender_behind n s ≡ x = cc in
        let so : x ≡ sender_behind x.taken (new_sender link i from.0) =
        subst (λ (y : Sender). y ≡ sender_behind y.taken (new_sender link i from.0)) one
        (stays_behind n s (new_sender link i from.0) (far from.0 s at)) in
        so ∙ ap (λ j. sender_behind x.taken (new_sender link i j)) (sym same)
    | inr other ↦ far k x (sym (found_there k other) ∙ is)
  ]

-- ---- a pump to which nothing has come

module _ (link : Link) (i : SiteId) (sites ticks : ℕ) where
  pub new_taken : (k : ℕ) → taken_from (new_pump link i sites ticks) k ≡ 0
  new_taken k =
      ap count_in (slice_get-map (new_sender link i) (range_with_len 0 sites) k)
      ∙ none (slice_get (range_with_len 0 sites) k)
    where
      none : (o : Option ℕ) → count_in (option_map (new_sender link i) o) ≡ 0
      none None = refl
      none (Some j) = refl

  pub new_senders : (k : ℕ) (x : Sender) → slice_get (new_pump link i sites ticks).senders k ≡ Some x
      → x ≡ sender_behind x.taken (new_sender link i k)
  new_senders k x is =
      let all : List Sender = map (new_sender link i) (range_with_len 0 sites) in
      let long = length-map-range_with_len (new_sender link i) 0 sites in
      let within = slice_get_within all k x is in
      let same : x ≡ new_sender link i k =
      sym (get_or_from_slice_get all k x x is)
      ∙ get_or-map-range_with_len (new_sender link i) 0 sites k k x (omega (arith, long, within)) (omega arith) in
      let none : x.taken ≡ 0 = ap (λ (y : Sender). y.taken) same in
      same ∙ ap (λ n. sender_behind n (new_sender link i k)) (sym none)

-- ---- all that has arrived

module _ (i : SiteId) (arrived : ℕ → ℕ) where
  -- what is taken of one sender
  of_long : (p : PumpValue) (from : SiteId) (o : Option Sender)
      → length (take_of from (arrived from.0) p o).senders ≡ length p.senders
  of_long p from None = refl
  of_long p from (Some s) = length-set p.senders from.0 (sender_behind (arrived from.0 - s.taken) s)

  of_other : (p : PumpValue) (from : SiteId) (o : Option Sender) (k : ℕ) → k ≢ from.0
      → taken_from (take_of from (arrived from.0) p o) k ≡ taken_from p k
  of_other p from None k other = refl
  of_other p from (Some s) k other =
      ap count_in (set_there p.senders from.0 (sender_behind (arrived from.0 - s.taken) s) k other)

  of_here : (p : PumpValue) (from : SiteId) (o : Option Sender) → slice_get p.senders from.0 ≡ o
      → from.0 < length p.senders → arrived from.0 ≤ taken_from (take_of from (arrived from.0) p o) from.0
  of_here p from None at within =
      let there = slice_get-get_or p.senders from.0 (record { chooser = chooser_of 0 from from; taken = 0 }) within in
      absurd cc
  of_here p from (Some s) at within =
      let n = arrived from.0 - s.taken in
      let now = ap count_in (set_here p.senders from.0 (sender_behind n s) within) ∙ taken_behind n s in
      omega (arith, now)

  other_long : (own : Bool) (p : PumpValue) (from : SiteId)
      → length (take_other own from (arrived from.0) p).senders ≡ length p.senders
  other_long true p from = refl
  other_long false p from = of_long p from (slice_get p.senders from.0)

  other_other : (own : Bool) (p : PumpValue) (from : SiteId) (k : ℕ) → k ≢ from.0
      → taken_from (take_other own from (arrived from.0) p) k ≡ taken_from p k
  other_other true p from k other = refl
  other_other false p from k other = of_other p from (slice_get p.senders from.0) k other

  below_long : (n : ℕ) (p : PumpValue) → length (take_below i arrived n p).senders ≡ length p.senders
  below_long zero p = refl
  below_long (suc n) p =
      let from : SiteId = record { 0 = n } in
      other_long (same_site from i) (take_below i arrived n p) from ∙ below_long n p

  below_taken : (n : ℕ) (p : PumpValue) (k : ℕ) → k < n → k ≢ i.0 → k < length p.senders
      → arrived k ≤ taken_from (take_below i arrived n p) k
  below_taken zero p k under apart within = absurd (omega (arith, under))
  below_taken (suc n) p k under apart within =
      let from : SiteId = record { 0 = n } in
      let mid : PumpValue = take_below i arrived n p in
      elim (cases_eq k n) [
        | inl here ↦
            let long = below_long n p in
            let own = ne_eqb n i.0 (λ e. apart (here ∙ e)) in
            let all = of_here mid from (slice_get mid.senders n) refl (omega (arith, within, here, long)) in
            let now = ap (λ b. taken_from (take_other b from (arrived n) mid) n) own in
            let same = ap (taken_from (take_below i arrived (suc n) p)) here in
            let some = ap arrived here in
            omega (arith, all, now, same, some)
        | inr before ↦
            let all = below_taken n p k (omega (arith, under, before)) apart within in
            let kept = other_other (same_site from i) mid from k before in
            omega (arith, all, kept)
      ]

  -- all that has arrived of another site is taken
  pub all_taken : (p : PumpValue) (from : SiteId) → from ≢ i → from.0 < length p.senders
      → arrived from.0 ≤ taken_from (take_arrived i arrived p) from.0
  all_taken p from apart within =
      below_taken (length p.senders) p from.0 within (λ e. apart (ap (λ (n : ℕ). record { 0 = n }) e)) within
