-- Which own commits are held, where the holdings change.
use Rattle.std.proofs.Common.{◌≡◌, ◌∙◌, ◌+◌, ◌-◌, ◌<◌, ◌≤◌, ℕ, Bool, true, false, cond, nat_eq, nat_le, List, [], ◌∷◌, count_by, get_or, inl, inr, refl, ap, sym, subst, arith}
use Rattle.std.proofs.Math.Seq.{get_or-append_seam}
use Rattle.std.proofs.lemmas.Bool.{cases_lt, leb-true, le-leb, or_cases, or_left, or_right}
use Rattle.std.proofs.lemmas.List.{get_or_append_left, length-append}
use Rattle.std.proofs.lemmas.List.FromFn.{length-map-range_with_len, sum_by-map-range_with_len_more}
use Rattle.std.proofs.lemmas.List.Sums.{count_by-le-length, sum_by-le-sum_by}
use Rattle.walter_base.specs.declared.names.SiteId.{SiteId}
use Rattle.walter_base.specs.Vectors.{entry_at}
use Rattle.walter_durable.specs.Marks.{Holdings, own, site_at, all_sites, holds, IsHeldAt, IsHeld, AreHeld, IsGreatest, with_own}
use Rattle.walter_durable.specs.Counted.{IsCounted}

-- no more sites hold an own commit than there are
pub holders_few : (H : Holdings) (q n : ℕ) → count_by (holds H q) (all_sites n) ≤ n
holders_few H q n = omega (arith, count_by-le-length (holds H q) (all_sites n), length-map-range_with_len site_at 0 n)

-- one more site that holds it, or doesn't
holders_more : (H : Holdings) (q n : ℕ)
    → count_by (holds H q) (all_sites (n + 1)) ≡ count_by (holds H q) (all_sites n) + cond (holds H q (site_at n)) 1 0
holders_more H q n =
    sum_by-map-range_with_len_more (λ site. cond (holds H q site) 1 0) site_at 0 n n (omega arith)

pub holders_yes : (H : Holdings) (q n : ℕ) → holds H q (site_at n) ≡ true
    → count_by (holds H q) (all_sites (n + 1)) ≡ count_by (holds H q) (all_sites n) + 1
holders_yes H q n is = holders_more H q n ∙ ap (λ b. count_by (holds H q) (all_sites n) + cond b 1 0) is

pub holders_no : (H : Holdings) (q n : ℕ) → holds H q (site_at n) ≡ false
    → count_by (holds H q) (all_sites (n + 1)) ≡ count_by (holds H q) (all_sites n)
holders_no H q n is =
    let more = holders_more H q n ∙ ap (λ b. count_by (holds H q) (all_sites n) + cond b 1 0) is in
    omega (arith, more)

-- a greater vector holds what a smaller one does
module _ (H : Holdings) (acknowledged : List ℕ)
    (more : (site : SiteId) → entry_at H.acknowledged site ≤ entry_at acknowledged site) where
  abbrev after : Holdings
  after = record H { acknowledged = acknowledged }

  still_holds : (q : ℕ) (site : SiteId) → holds H q site ≡ true → holds after q site ≡ true
  still_holds q site is = elim (or_cases (nat_eq site.0 H.site.0) (nat_le q (entry_at H.acknowledged site)) is) [
    | inl own ↦ or_left (nat_eq site.0 H.site.0) (nat_le q (entry_at acknowledged site)) own
    | inr told ↦
        let q_le : q ≤ entry_at H.acknowledged site = leb-true q (entry_at H.acknowledged site) told in
        or_right (nat_eq site.0 H.site.0) (nat_le q (entry_at acknowledged site))
        (le-leb q (entry_at acknowledged site) (omega (arith, q_le, more site)))
  ]

  as_many : (a b : Bool) → (a ≡ true → b ≡ true) → cond a 1 0 ≤ cond b 1 0
  as_many true b so = subst (λ c. 1 ≤ cond c 1 0) (sym (so refl)) (omega arith)
  as_many false b so = omega arith

  still_held : (q : ℕ) (sites : List SiteId) → IsHeldAt H q sites → IsHeldAt after q sites
  still_held q sites held = record {
    enough =
        let grown = sum_by-le-sum_by (λ site. cond (holds H q site) 1 0) (λ site. cond (holds after q site) 1 0)
        (all_sites H.sites) (λ site. as_many (holds H q site) (holds after q site) (still_holds q site)) in
        omega (arith, held.enough, grown);
    preferred = λ k d within. still_holds q (get_or sites k d) (held.preferred k d within);
  }

  pub still_are_held : (m : ℕ) → AreHeld H m → AreHeld after m
  still_are_held m held = record {
    within = held.within;
    each = λ q some le. still_held q (get_or H.preferred (q - 1) []) (held.each q some le);
  }

-- one more is held
pub held_more : (H : Holdings) (m : ℕ) → AreHeld H m → m < own H → IsHeld H (m + 1) → AreHeld H (m + 1)
held_more H m held room next = record {
  within = omega (arith, room);
  each = λ q some le. elim (cases_lt q (m + 1)) [
    | inl lt ↦ held.each q some (omega (arith, lt))
    | inr ge ↦ let same : m + 1 ≡ q = omega (arith, ge, le) in subst (IsHeld H) same next
  ];
}

-- what is counted is the greatest number such that the own commits up to it are held
pub greatest : (H : Holdings) (m : ℕ) → IsCounted H m → IsGreatest (AreHeld H) m
greatest H m counted = record {
  one = counted.held;
  most = λ k held. elim (cases_lt m k) [
    | inl lt ↦
        absurd (counted.stops (omega (arith, lt, held.within)) (held.each (m + 1) (omega arith) (omega (arith, lt))))
    | inr ge ↦ ge
  ];
}

-- what peers have called visible, and the floors, tell nothing of the copies
module _ (H : Holdings) (visible : List ℕ) (durable_floor visible_floor : ℕ) where
  abbrev beside : Holdings
  beside = record H { visible = visible; durable_floor = durable_floor; visible_floor = visible_floor }

  pub held_beside : (q : ℕ) (sites : List SiteId) → IsHeldAt H q sites → IsHeldAt beside q sites
  held_beside q sites held = record { enough = held.enough; preferred = held.preferred }

  pub are_held_beside : (m : ℕ) → AreHeld H m → AreHeld beside m
  are_held_beside m held = record {
    within = held.within;
    each = λ q some le. held_beside q (get_or H.preferred (q - 1) []) (held.each q some le);
  }

  pub counted_beside : (m : ℕ) → IsCounted H m → IsCounted beside m
  counted_beside m counted = record {
    held = are_held_beside m counted.held;
    stops = λ room held. counted.stops room (record { enough = held.enough; preferred = held.preferred });
  }

-- with one more own commit the others are held as before
module _ (H : Holdings) (preferred : List SiteId) where
  kept_preferred : (q : ℕ) → 1 ≤ q → q ≤ own H
      → get_or (with_own preferred H).preferred (q - 1) [] ≡ get_or H.preferred (q - 1) []
  kept_preferred q some le = get_or_append_left H.preferred (preferred ∷ []) [] (q - 1) (omega (arith, some, le))

  to_own : (q : ℕ) (sites : List SiteId) → IsHeldAt H q sites → IsHeldAt (with_own preferred H) q sites
  to_own q sites held = record { enough = held.enough; preferred = held.preferred }

  held_before : (m : ℕ) → AreHeld H m → AreHeld (with_own preferred H) m
  held_before m held = record {
    within = omega (arith, held.within, length-append H.preferred (preferred ∷ []));
    each = λ q some le.
        subst (IsHeldAt (with_own preferred H) q) (sym (kept_preferred q some (omega (arith, le, held.within))))
        (to_own q (get_or H.preferred (q - 1) []) (held.each q some le));
  }

  next_preferred : get_or (with_own preferred H).preferred (own H + 1 - 1) [] ≡ preferred
  next_preferred =
      let place : own H + 1 - 1 ≡ own H = omega arith in
      ap (λ k. get_or (with_own preferred H).preferred k []) place ∙ get_or-append_seam H.preferred preferred [] []

  -- the one more is held too
  pub counts_own : (m : ℕ) → IsCounted H m → m ≡ own H → IsHeldAt H (own H + 1) preferred
      → IsCounted (with_own preferred H) (own H + 1)
  counts_own m counted all held = record {
    held = held_more (with_own preferred H) (own H) (held_before (own H) (subst (AreHeld H) all counted.held))
        (omega (arith, length-append H.preferred (preferred ∷ [])))
        (subst (IsHeldAt (with_own preferred H) (own H + 1)) (sym next_preferred) (to_own (own H + 1) preferred held));
    stops = λ room _. absurd (omega (arith, room, length-append H.preferred (preferred ∷ [])));
  }

  -- or it isn't, or one before it isn't
  pub counts_before : (m : ℕ) → IsCounted H m → (m ≡ own H → ¬ IsHeldAt H (own H + 1) preferred)
      → IsCounted (with_own preferred H) m
  counts_before m counted stops = record {
    held = held_before m counted.held;
    stops = λ room held. elim (cases_lt m (own H)) [
      | inl lt ↦
          let was = subst (IsHeldAt (with_own preferred H) (m + 1))
          (kept_preferred (m + 1) (omega arith) (omega (arith, lt))) held in
          counted.stops lt (record { enough = was.enough; preferred = was.preferred })
      | inr ge ↦
          let all : m ≡ own H = omega (arith, ge, counted.held.within) in
          let here = subst (λ n. IsHeldAt (with_own preferred H) (n + 1)
          (get_or (with_own preferred H).preferred (n + 1 - 1) [])) all held in
          let was = subst (IsHeldAt (with_own preferred H) (own H + 1)) next_preferred here in
          stops all (record { enough = was.enough; preferred = was.preferred })
    ];
  }
