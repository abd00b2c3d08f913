-- What is taken of a sender's packets, one after another.
use Rattle.std.proofs.Common.{◌≡◌, ◌≢◌, ◌<◌, ◌≤◌, ◌+◌, ◌-◌, ℕ, zero, suc, List, length, set, slice_get, refl, ap, sym, ◌∙◌, arith, Option, Some, None, Bool, true, false, inl, inr}
use Rattle.std.specs.Prelude.{All, replicate}
use Rattle.std.proofs.lemmas.Bool.{cases_lt, cases_eq}
use Rattle.std.proofs.lemmas.List.{length-set, get_or-set_same, get_or-set_other}
use Rattle.std.proofs.lemmas.List.Elements.{All-append, All-cons, All-push, All-replicate}
use Rattle.std.proofs.lemmas.Option.{slice_get-get_or, slice_get_past, slice_get_within}
use Rattle.walter_base.specs.declared.names.SiteId.{SiteId}
use Rattle.walter_link.specs.declared.chooser.Choice.{Choice}
use Rattle.walter_link.specs.declared.chooser.Rates.{Rates}
use Rattle.walter_link.specs.declared.pump.Sender.{Sender}
use Rattle.walter_link.specs.declared.pump.Waiting.{Waiting}
use Rattle.walter_link.specs.Choices.{choice_of}
use Rattle.walter_link.specs.Pumps.{PumpValue, HasTaken, IsPump, KeepsPump, behind_one, count_in, put_all, put_copies, put_first, put_in, sender_behind, take_of, take_up_to, taken_from}

-- one more is taken first
pub one_more : (n m : ℕ) (rates : Rates) (from : SiteId) (s now : Sender) (choice : Choice) (waiting after : List Waiting)
    → m ≡ suc n → now ≡ behind_one s → choice ≡ choice_of rates s.chooser
    → after ≡ put_in choice (record { from = from; number = s.taken + 1 }) waiting
    → (sender_behind n now ≡ sender_behind m s) × (put_all n rates from now after ≡ put_all m rates from s waiting)
one_more n m rates from s now choice waiting after more later chosen placed = (
  ap (sender_behind n) later ∙ sym (ap (λ k. sender_behind k s) more),
  ap (λ (x : Sender). put_all n rates from x after) later
      ∙ (ap (put_all n rates from (behind_one s))
      (placed ∙ ap (λ (c : Choice). put_in c (record { from = from; number = s.taken + 1 }) waiting) chosen)
      ∙ sym (ap (λ k. put_all k rates from s waiting) more)),
)

-- how many are taken then
pub taken_behind : (n : ℕ) (s : Sender) → (sender_behind n s).taken ≡ s.taken + n
taken_behind zero s = omega arith
taken_behind (suc n) s = taken_behind n (behind_one s) ∙ omega arith

module _ (P : Waiting → Type 0) where
  all_first : (front : Bool) (x : Waiting) (waiting : List Waiting) → P x → All P waiting → All P (put_first front x waiting)
  all_first true x waiting is all = All-cons P x waiting is all
  all_first false x waiting is all = All-push P waiting x all is

  all_copies : (n : ℕ) (x : Waiting) (waiting placed : List Waiting) → P x → All P waiting → All P placed → All P (put_copies n x waiting placed)
  all_copies zero x waiting placed is all more = all
  all_copies (suc n) x waiting placed is all more = All-append P placed (replicate n x) more (All-replicate P n x is)

  -- what is so of those that wait, and of each that is taken, is so of all that wait then
  all_put : (n : ℕ) (rates : Rates) (from : SiteId) (s : Sender) (waiting : List Waiting)
      → ((k : ℕ) → s.taken < k → k ≤ s.taken + n → P (record { from = from; number = k }))
      → All P waiting → All P (put_all n rates from s waiting)
  all_put zero rates from s waiting each all = all
  all_put (suc n) rates from s waiting each all =
      let x : Waiting = record { from = from; number = s.taken + 1 } in
      let is = each (s.taken + 1) (omega arith) (omega arith) in
      all_put n rates from (behind_one s) (put_in (choice_of rates s.chooser) x waiting)
      (λ k more most. each k (omega (arith, more)) (omega (arith, most)))
      (all_copies (choice_of rates s.chooser).copies x waiting (put_first (choice_of rates s.chooser).front x waiting) is all
      (all_first (choice_of rates s.chooser).front x waiting is all))

module _ (xs : List Sender) (k : ℕ) (x : Sender) where
  pub set_here : k < length xs → slice_get (set xs k x) k ≡ Some x
  set_here within =
      slice_get-get_or (set xs k x) k x (let l = length-set xs k x in omega (arith, within, l))
      ∙ ap (λ y. Some y) (get_or-set_same xs k x x within)

  pub set_there : (other : ℕ) → other ≢ k → slice_get (set xs k x) other ≡ slice_get xs other
  set_there other apart =
      let l = length-set xs k x in
      elim (cases_lt other (length xs)) [
        | inl within ↦
            slice_get-get_or (set xs k x) other x (omega (arith, within, l))
            ∙ (ap (λ y. Some y) (get_or-set_other xs k other x x apart) ∙ sym (slice_get-get_or xs other x within))
        | inr past ↦ slice_get_past (set xs k x) other (omega (arith, past, l)) ∙ sym (slice_get_past xs other past)
      ]

-- each that waits was taken, once more of a sender's are
pub pump_taken : (p : PumpValue) (from : SiteId) (arrived : ℕ) (s : Sender) → slice_get p.senders from.0 ≡ Some s
    → from ≢ p.site → IsPump p → IsPump (take_of from arrived p (Some s))
pump_taken p from arrived s at apart all =
    let n = arrived - s.taken in
    let T = take_of from arrived p (Some s) in
    let within = slice_get_within p.senders from.0 s at in
    let long = length-set p.senders from.0 (sender_behind n s) in
    let now : taken_from T from.0 ≡ s.taken + n = ap count_in (set_here p.senders from.0 (sender_behind n s) within) ∙ taken_behind n s in
    let was : taken_from p from.0 ≡ s.taken = ap count_in at in
    let kept : (w : Waiting) → HasTaken p w → HasTaken T w = λ w has. record {
      there = (let there = has.there in omega (arith, long, there));
      apart = has.apart;
      first = has.first;
      taken = elim (cases_eq w.from.0 from.0) [
        | inl same ↦
            let most = has.taken in
            let here = ap (taken_from T) same in
            let before = ap (taken_from p) same in
            omega (arith, most, here, before, now, was)
        | inr other ↦
            let most = has.taken in
            let same = ap count_in (set_there p.senders from.0 (sender_behind n s) w.from.0 other) in
            omega (arith, most, same)
      ];
    } in
    all_put (HasTaken T) n p.rates from s p.waiting
    (λ k more most. record {
      there = omega (arith, long, within);
      apart = apart;
      first = omega (arith, more);
      taken = omega (arith, most, now);
    })
    (λ k d lt. kept _ (all k d lt))

-- ---- what a pump keeps

pub keeps_self : (arrived : ℕ → ℕ) (p : PumpValue) → KeepsPump arrived p p
keeps_self arrived p = record { site = refl; senders = refl; taken = λ from most. most }

pub keeps_on : (arrived : ℕ → ℕ) (a b c : PumpValue) → KeepsPump arrived a b → KeepsPump arrived b c → KeepsPump arrived a c
keeps_on arrived a b c first second = record {
  site = second.site ∙ first.site;
  senders = second.senders ∙ first.senders;
  taken = λ from most. second.taken from (first.taken from most);
}

take_keeps_of : (arrived : ℕ → ℕ) (from : SiteId) (p : PumpValue) (o : Option Sender) → slice_get p.senders from.0 ≡ o
    → KeepsPump arrived p (take_of from (arrived from.0) p o)
take_keeps_of arrived from p None at = keeps_self arrived p
take_keeps_of arrived from p (Some s) at =
    let n = arrived from.0 - s.taken in
    let within = slice_get_within p.senders from.0 s at in
    record {
      site = refl;
      senders = length-set p.senders from.0 (sender_behind n s);
      taken = λ k most. elim (cases_eq k from.0) [
        | inl here ↦
            let now = ap count_in (set_here p.senders from.0 (sender_behind n s) within) ∙ taken_behind n s in
            let was = ap count_in at in
            let same = ap (taken_from p) here in
            let other = ap (taken_from (take_of from (arrived from.0) p (Some s))) here in
            let some = ap arrived here in
            omega (arith, most, now, was, same, other, some)
        | inr other ↦
            let same = ap count_in (set_there p.senders from.0 (sender_behind n s) k other) in
            omega (arith, most, same)
      ];
    }

-- taking all that has arrived of one sender
pub take_keeps : (arrived : ℕ → ℕ) (from : SiteId) (p : PumpValue) → KeepsPump arrived p (take_up_to from (arrived from.0) p)
take_keeps arrived from p = take_keeps_of arrived from p (slice_get p.senders from.0) refl
