-- What is given by the elements of a list, counted by its number, element by element.
use Rattle.std.proofs.Common.{◌≡◌, ℕ, zero, suc, ◌+◌, ◌-◌, ◌<◌, ◌≤◌, Bool, true, false, List, [], ◌∷◌, ◌++◌, length, take, drop, get_or, slice_get, Some, None, ap, sym, ◌∙◌, arith, if◌then◌else◌}
use Rattle.std.specs.Prelude.{filter_map}
use Rattle.std.specs.List.{cons_option}
use Rattle.std.proofs.lemmas.List.{append-nil, append_assoc, length-append, take_more, take_all, take-append-drop}
use Rattle.std.proofs.lemmas.List.Concat.{flat_map-append}
use Rattle.std.proofs.lemmas.List.Elements.{filter_map-append}
use Rattle.std.proofs.lemmas.Option.{slice_get_past}
use Rattle.walter_base.specs.declared.names.SiteId.{SiteId}
use Rattle.walter_base.specs.Names.{same_site}
use Rattle.walter_psi.proofs.Lists.{slice_get-append_left}
use Rattle.walter_rules.specs.declared.entry.Entry.{Entry}
use Rattle.walter_rules.specs.Merges.{Stamped, sent_to, put_out_to}
use Rattle.walter_rules.specs.Sending.{Send}
use Rattle.walter_machine.specs.Posts.{of_number}

-- what stands behind a list stands at its place behind it
slice_get-behind : {X : Type 0} (front rest : List X) (n : ℕ) → slice_get (front ++ rest) (length front + n) ≡ slice_get rest n
slice_get-behind [] rest n = ap (slice_get rest) (let e : 0 + n ≡ n = omega arith in e)
slice_get-behind (x ∷ front) rest n =
    ap (slice_get (x ∷ (front ++ rest))) (let e : length (x ∷ front) + n ≡ suc (length front + n) = omega arith in e)
    ∙ slice_get-behind front rest n

-- the packet of a number that isn't 0
pub packet_numbered : (sent : List Stamped) (number : ℕ) → 0 < number → of_number number sent ≡ slice_get sent (number - 1)
packet_numbered sent (suc before) some = ap (slice_get sent) (let e : before ≡ suc before - 1 = omega arith in e)
packet_numbered sent zero some = absurd (omega (arith, some))

-- ---- by one element more

module _ {X Y : Type 0} (given : List X → List Y) (both : (xs ys : List X) → given (xs ++ ys) ≡ given xs ++ given ys)
    (xs : List X) (place : ℕ) (x : X) (within : place < length xs) (at : x ≡ get_or xs place x) where
  abbrev before : List Y
  before = given (take place xs)

  abbrev own : List Y
  own = given (x ∷ [])

  given_more : given (take (place + 1) xs) ≡ before ++ own
  given_more =
      ap given (take_more xs place x within ∙ ap (λ (y : X). take place xs ++ y ∷ []) (sym at))
      ∙ both (take place xs) (x ∷ [])

  given_whole : given xs ≡ before ++ (own ++ given (drop (place + 1) xs))
  given_whole =
      ap given (sym (take-append-drop (place + 1) xs))
      ∙ (both (take (place + 1) xs) (drop (place + 1) xs)
      ∙ (ap (λ (ys : List Y). ys ++ given (drop (place + 1) xs)) given_more
      ∙ append_assoc before own (given (drop (place + 1) xs))))

  -- how many are left behind it
  pub left_more : (left rest number : ℕ) → left + length before ≡ number → rest + length own ≡ left
      → rest + length (given (take (place + 1) xs)) ≡ number
  left_more left rest number was now =
      let long = ap length given_more ∙ length-append before own in omega (arith, was, now, long)

  -- the one that it gives at a place
  pub given_here : (left number : ℕ) (y : Y) → 0 < left → left + length before ≡ number
      → slice_get own (left - 1) ≡ Some y → slice_get (given xs) (number - 1) ≡ Some y
  given_here left number y some was here =
      let place_is : number - 1 ≡ length before + (left - 1) = omega (arith, some, was) in
      ap (slice_get (given xs)) place_is
      ∙ (ap (λ (ys : List Y). slice_get ys (length before + (left - 1))) given_whole
      ∙ (slice_get-behind before (own ++ given (drop (place + 1) xs)) (left - 1)
      ∙ slice_get-append_left own (given (drop (place + 1) xs)) y (left - 1) here))

-- the packets to a site among these, with a stamp
abbrev pub sent_among : SiteId → ℕ → List Send → List Stamped
sent_among i stamp sends = filter_map (λ (s : Send). if same_site s.0 i then Some (stamp, s.1) else None) sends

abbrev pub sent_both : (i : SiteId) (stamp : ℕ) (xs ys : List Send)
    → sent_among i stamp (xs ++ ys) ≡ sent_among i stamp xs ++ sent_among i stamp ys
sent_both i stamp = filter_map-append (λ (s : Send). if same_site s.0 i then Some (stamp, s.1) else None)

one_sent : (i : SiteId) (stamp : ℕ) (s : Send) (b : Bool) → same_site s.0 i ≡ b
    → sent_among i stamp (s ∷ []) ≡ cons_option (if b then Some (stamp, s.1) else None) []
one_sent i stamp s b is = ap (λ (c : Bool). cons_option (if c then Some (stamp, s.1) else None) []) is

module _ (i : SiteId) (stamp : ℕ) (sends : List Send) (place : ℕ) (s : Send) (within : place < length sends)
    (at : s ≡ get_or sends place s) where
  -- one to another site changes nothing
  pub passed : (left number : ℕ) → same_site s.0 i ≡ false
      → left + length (sent_among i stamp (take place sends)) ≡ number
      → left + length (sent_among i stamp (take (place + 1) sends)) ≡ number
  passed left number other was =
      left_more (sent_among i stamp) (sent_both i stamp) sends place s within at left left number was
      (let none = ap length (one_sent i stamp s false other) in omega (arith, none))

  -- one to this site is counted
  pub counted : (left rest number : ℕ) → same_site s.0 i ≡ true → rest + 1 ≡ left
      → left + length (sent_among i stamp (take place sends)) ≡ number
      → rest + length (sent_among i stamp (take (place + 1) sends)) ≡ number
  counted left rest number same less was =
      left_more (sent_among i stamp) (sent_both i stamp) sends place s within at left rest number was
      (let one = ap length (one_sent i stamp s true same) in omega (arith, one, less))

  -- the one that is wanted
  pub sent_here : (left number : ℕ) → same_site s.0 i ≡ true → left ≡ 1
      → left + length (sent_among i stamp (take place sends)) ≡ number
      → slice_get (sent_among i stamp sends) (number - 1) ≡ Some (stamp, s.1)
  sent_here left number same one was =
      given_here (sent_among i stamp) (sent_both i stamp) sends place s within at left number (stamp, s.1)
      (omega (arith, one)) was
      (ap (λ (ys : List Stamped). slice_get ys (left - 1)) (one_sent i stamp s true same)
      ∙ ap (slice_get ((stamp, s.1) ∷ [])) (let e : left - 1 ≡ 0 = omega (arith, one) in e))

-- ---- entry by entry

module _ (i : SiteId) (trail : List Entry) (place : ℕ) (e : Entry) (within : place < length trail)
    (at : e ≡ get_or trail place e) where
  put_own : put_out_to i (e ∷ []) ≡ sent_to i e
  put_own = append-nil (sent_to i e)

  -- what an entry puts out is counted
  pub put_counted : (left rest number : ℕ) → left + length (put_out_to i (take place trail)) ≡ number
      → rest + length (sent_to i e) ≡ left → rest + length (put_out_to i (take (place + 1) trail)) ≡ number
  put_counted left rest number was less =
      left_more (put_out_to i) (flat_map-append (sent_to i)) trail place e within at left rest number was
      (let own = ap length put_own in omega (arith, own, less))

  -- the one that is wanted
  pub put_here : (left number : ℕ) (put : Stamped) → 0 < left
      → left + length (put_out_to i (take place trail)) ≡ number → slice_get (sent_to i e) (left - 1) ≡ Some put
      → of_number number (put_out_to i trail) ≡ Some put
  put_here left number put some was here =
      packet_numbered (put_out_to i trail) number (omega (arith, some, was))
      ∙ given_here (put_out_to i) (flat_map-append (sent_to i)) trail place e within at left number put some was
      (ap (λ (ys : List Stamped). slice_get ys (left - 1)) put_own ∙ here)

-- all were fewer
pub none_put : (i : SiteId) (trail : List Entry) (place left number : ℕ) → 0 < left → length trail ≤ place
    → left + length (put_out_to i (take place trail)) ≡ number → of_number number (put_out_to i trail) ≡ None
none_put i trail place left number some past was =
    let all = ap (λ (es : List Entry). length (put_out_to i es)) (take_all place trail past) in
    packet_numbered (put_out_to i trail) number (omega (arith, some, was))
    ∙ slice_get_past (put_out_to i trail) (number - 1) (omega (arith, some, was, all))
