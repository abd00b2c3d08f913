-- Connections come to their places, one after another.
use Rattle.std.proofs.Common.{◌≡◌, ◌≢◌, ℕ, zero, suc, ◌<◌, ◌≤◌, ◌+◌, ◌⊎◌, List, [], ◌∷◌, ◌++◌, Vec, Option, Some, None, length, get_or, replicate, set, slice_get, ap, sym, ◌∙◌, inl, inr, arith, length-append}
use Rattle.std.specs.declared.alloc.Global.{Global}
use Rattle.std.proofs.lemmas.Bool.{cases_lt, cases_eq}
use Rattle.std.proofs.lemmas.List.{get_or-set_same, get_or-set_other, get_or_append_left, get_or_at, length-replicate, length-set, map-append, map-set, get_or-map}
use Rattle.std.proofs.lemmas.Option.{same_Some, slice_get-get_or, slice_get_within, get_or_from_slice_get}
use Rattle.walter_scenario.specs.declared.scenario.Client.{Client}
use Rattle.walter_cluster.specs.Seats.{lists_in, list_of, HavePlaces, AreSeated, AreEmpty, AreAtHome}
use Rattle.walter_cluster.proofs.Changes.{set_there}
use Rattle.walter_cluster.proofs.Joining.{each_more}

module _ {X : Type 0} where
  slice_get-set_same : (xs : List X) (i : ℕ) (x : X) → i < length xs → slice_get (set xs i x) i ≡ Some x
  slice_get-set_same xs i x lt = slice_get-get_or (set xs i x) i x (omega (arith, lt, length-set xs i x)) ∙ ap (λ y. Some y) (get_or-set_same xs i x x lt)

  slice_get-set_other : (xs : List X) (i j : ℕ) (x y : X) → (j ≡ i → ⊥) → slice_get xs j ≡ Some y → slice_get (set xs i x) j ≡ Some y
  slice_get-set_other xs i j x y apart is =
      let lt = slice_get_within xs j y is in
      slice_get-get_or (set xs i x) j y (omega (arith, lt, length-set xs i x)) ∙ ap (λ z. Some z) (get_or-set_other xs i j x y apart ∙ get_or_from_slice_get xs j y y is)

-- the connection of a client comes to its place
module _ {X : Type 0} (lists : List (List (Option X))) (home number : ℕ) (line : X) (sites count : ℕ) (h : HavePlaces sites count lists) (at_home : home < sites) (within : number < count) where
  here : list_of (set lists home (set (list_of lists home) number (Some line))) home ≡ set (list_of lists home) number (Some line)
  here = get_or-set_same lists home (set (list_of lists home) number (Some line)) [] (omega (arith, at_home, h.lists_long))

  elsewhere : (i : ℕ) → (i ≡ home → ⊥) → list_of (set lists home (set (list_of lists home) number (Some line))) i ≡ list_of lists i
  elsewhere i apart = get_or-set_other lists home i (set (list_of lists home) number (Some line)) [] apart

  long_at : (i : ℕ) → (i ≡ home) ⊎ (i ≡ home → ⊥) → i < sites → length (list_of (set lists home (set (list_of lists home) number (Some line))) i) ≡ count
  long_at i (inl is) lt =
      ap (λ n. length (list_of (set lists home (set (list_of lists home) number (Some line))) n)) is
      ∙ ap length here ∙ length-set (list_of lists home) number (Some line) ∙ h.list_long home at_home
  long_at i (inr apart) lt = ap length (elsewhere i apart) ∙ h.list_long i lt

  pub places_kept : HavePlaces sites count (set lists home (set (list_of lists home) number (Some line)))
  places_kept = record {
    lists_long = length-set lists home (set (list_of lists home) number (Some line)) ∙ h.lists_long;
    list_long = λ i lt. long_at i (cases_eq i home) lt;
  }

  seated_here : (n : ℕ) → n ≡ number → slice_get (list_of (set lists home (set (list_of lists home) number (Some line))) home) n ≡ Some (Some line)
  seated_here n is =
      ap (λ m. slice_get (list_of (set lists home (set (list_of lists home) number (Some line))) home) m) is
      ∙ ap (λ l. slice_get l number) here ∙ slice_get-set_same (list_of lists home) number (Some line) (omega (arith, within, h.list_long home at_home))

  seated_before : (n i : ℕ) (other : X) → (i ≡ home) ⊎ (i ≡ home → ⊥) → n < number → slice_get (list_of lists i) n ≡ Some (Some other)
      → slice_get (list_of (set lists home (set (list_of lists home) number (Some line))) i) n ≡ Some (Some other)
  seated_before n i other (inl is) lt had =
      let had_here = ap (λ j. slice_get (list_of lists j) n) (sym is) ∙ had in
      let apart : n ≡ number → ⊥ = λ e. absurd (omega (arith, e, lt)) in
      ap (λ j. slice_get (list_of (set lists home (set (list_of lists home) number (Some line))) j) n) is
      ∙ ap (λ l. slice_get l n) here ∙ slice_get-set_other (list_of lists home) number n (Some line) (Some other) apart had_here
  seated_before n i other (inr apart) lt had = ap (λ l. slice_get l n) (elsewhere i apart) ∙ had

  pub seated_more : (clients : List Client) (conns : List X) (client : Client) → slice_get clients number ≡ Some client → client.site.0 ≡ home → slice_get conns number ≡ Some line
      → AreSeated number clients conns lists → AreSeated (number + 1) clients conns (set lists home (set (list_of lists home) number (Some line)))
  seated_more clients conns client there is came had n other its lt at by = step (cases_lt n number)
    where
      step : (n < number) ⊎ (number ≤ n) → slice_get (list_of (set lists home (set (list_of lists home) number (Some line))) other.site.0) n ≡ Some (Some its)
      step (inl before) = seated_before n other.site.0 its (cases_eq other.site.0 home) before (had n other its before at by)
      step (inr past) =
          let same : n ≡ number = omega (arith, past, lt) in
          let who : other ≡ client = same_Some other client (sym at ∙ ap (slice_get clients) same ∙ there) in
          let what : line ≡ its = same_Some line its (sym came ∙ ap (slice_get conns) (sym same) ∙ by) in
          ap (λ (c : Client). slice_get (list_of (set lists home (set (list_of lists home) number (Some line))) c.site.0) n) who
          ∙ ap (λ j. slice_get (list_of (set lists home (set (list_of lists home) number (Some line))) j) n) is
          ∙ seated_here n same ∙ ap (λ x. Some (Some x)) what

  home_at : (clients : List Client) (client : Client) → slice_get clients number ≡ Some client → client.site.0 ≡ home → AreAtHome clients lists
      → (i n : ℕ) (other : X) → (i ≡ home) ⊎ (i ≢ home) → (n ≡ number) ⊎ (n ≢ number)
      → slice_get (list_of (set lists home (set (list_of lists home) number (Some line))) i) n ≡ Some (Some other)
      → (c : Client) × (slice_get clients n ≡ Some c) × (c.site.0 ≡ i)
  home_at clients client there his had i n other (inl is) (inl same) at = (client, ap (slice_get clients) same ∙ there, his ∙ sym is)
  home_at clients client there his had i n other (inl is) (inr apart) at =
      had i n other (
      ap (λ (j : ℕ). slice_get (list_of lists j) n) is
      ∙ (sym (set_there (list_of lists home) number n (Some line) apart)
      ∙ (sym (ap (λ (l : List (Option X)). slice_get l n) here)
      ∙ (sym (ap (λ (j : ℕ). slice_get (list_of (set lists home (set (list_of lists home) number (Some line))) j) n) is)
      ∙ at)))
      )
  home_at clients client there his had i n other (inr apart) _ at =
      had i n other (sym (ap (λ (l : List (Option X)). slice_get l n) (elsewhere i apart)) ∙ at)

  pub home_more : (clients : List Client) (client : Client) → slice_get clients number ≡ Some client → client.site.0 ≡ home
      → AreAtHome clients lists → AreAtHome clients (set lists home (set (list_of lists home) number (Some line)))
  home_more clients client there his had i n other at = home_at clients client there his had i n other (cases_eq i home) (cases_eq n number) at

-- lists without connections, one after another
module _ {X : Type 0} where
  none_there : (n k : ℕ) (line : X) → slice_get (replicate n None) k ≢ Some (Some line)
  none_there zero k line at = absurd cc
  none_there (suc n) zero line at = absurd cc
  none_there (suc n) (suc k) line at = none_there n k line at

  pub empty_begins : (vs : List (Vec (Option X) Global)) → vs ≡ [] → AreEmpty (lists_in vs)
  empty_begins vs none i k line at =
      let e : None ≡ Some (Some line) = sym (ap (λ (us : List (Vec (Option X) Global)). slice_get (list_of (lists_in us) i) k) none) ∙ at in
      absurd cc

  -- a list more
  module _ (vs us : List (Vec (Option X) Global)) (v : Vec (Option X) Global) (is : us ≡ vs ++ v ∷ []) (count : ℕ) (none : v.items ≡ replicate count None) where
    more : lists_in us ≡ lists_in vs ++ v.items ∷ []
    more = ap (λ (ws : List (Vec (Option X) Global)). lists_in ws) is ∙ map-append (λ (u : Vec (Option X) Global). u.items) vs (v ∷ [])

    pub empty_more : AreEmpty (lists_in vs) → AreEmpty (lists_in us)
    empty_more empty i k line at =
        each_more (λ (l : List (Option X)). (n : ℕ) (x : X) → slice_get l n ≢ Some (Some x)) [] v.items (lists_in vs) empty
        (λ n x here. none_there count n x (ap (λ (l : List (Option X)). slice_get l n) (sym none) ∙ here)) i k line
        (ap (λ (ls : List (List (Option X))). slice_get (list_of ls i) k) (sym more) ∙ at)

    long_by : (n : ℕ) → HavePlaces n count (lists_in vs) → (i : ℕ) → (i < n) ⊎ (n ≤ i) → i < n + 1 → length (list_of (lists_in vs ++ v.items ∷ []) i) ≡ count
    long_by n h i (inl before) lt =
        ap length (get_or_append_left (lists_in vs) (v.items ∷ []) [] i (omega (arith, before, h.lists_long))) ∙ h.list_long i before
    long_by n h i (inr past) lt =
        ap length (get_or_at (lists_in vs) v.items [] [] i (omega (arith, past, lt, h.lists_long))) ∙ (ap length none ∙ length-replicate count None)

    pub places_more : (n : ℕ) → HavePlaces n count (lists_in vs) → HavePlaces (n + 1) count (lists_in us)
    places_more n h = record {
      lists_long = ap length more ∙ omega (arith, h.lists_long, length-append (lists_in vs) (v.items ∷ []));
      list_long = λ i lt. ap (λ (ls : List (List (Option X))). length (list_of ls i)) more ∙ long_by n h i (cases_lt i n) lt;
    }

-- a write to a place of one of the vectors
pub lists_set : {X : Type 0} (vs : List (Vec (Option X) Global)) (i : ℕ) (v w : Vec (Option X) Global) (number : ℕ) (x : Option X) → i < length vs → v ≡ get_or vs i v → w.items ≡ set v.items number x
    → lists_in (set vs i w) ≡ set (lists_in vs) i (set (list_of (lists_in vs) i) number x)
lists_set {X = X} vs i v w number x below is e =
    let items : Vec (Option X) Global → List (Option X) = λ u. u.items in
    map-set items vs i w ∙ ap (set (lists_in vs) i) (e ∙ ap (λ l. set l number x) (sym (get_or-map items vs i v [] below ∙ ap items (sym is))))
