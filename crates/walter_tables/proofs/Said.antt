-- What is put out by the tables is what the rules put out.
use Rattle.std.proofs.Common.{◌≡◌, ◌≢◌, ◌+◌, ◌-◌, ◌≤◌, ◌<◌, ℕ, zero, suc, nat_eq, Bool, true, false, cond, not, ◌&&◌, ◌||◌, ◌⊎◌, Option, Some, None, List, [], ◌∷◌, ◌++◌, map, take, get_or, append_assoc, refl, ap, sym, ◌∙◌, subst, inl, inr, arith, if◌then◌else◌}
use Rattle.std.specs.Prelude.{Contains, filter, flat_map, length, option_and_then, is_some}
use Rattle.std.specs.List.{list_any, list_all, range_with_len}
use Rattle.std.specs.Option.{option_map_or}
use Rattle.std.proofs.lemmas.Bool.{cases_Bool, cases_eq, eqb-true, eq-eqb}
use Rattle.std.proofs.lemmas.List.{map-append, append-nil, take_more}
use Rattle.std.proofs.lemmas.List.Elements.{filter_map-append}
use Rattle.std.proofs.lemmas.List.FromFn.{filter_of_map_range_with_len_more}
use Rattle.std.proofs.lemmas.Grind.{flat_map-append}
use Rattle.walter_base.specs.declared.catalog.Catalog.{Catalog}
use Rattle.walter_base.specs.declared.names.SiteId.{SiteId}
use Rattle.walter_base.specs.declared.packet.Packet.{Packet}
use Rattle.walter_base.specs.declared.packet.Packet.TheVariants.{Release}
use Rattle.walter_base.specs.Names.{same_site}
use Rattle.walter_base.proofs.NameTests.{same_site-true}
use Rattle.walter_psi.proofs.Lists.{Contains-nil, flat_map-push}
use Rattle.walter_rules.proofs.Membership.{in_cases, one_passes}
use Rattle.walter_slow.specs.Kept.{Kept, is_busy, waits_for, owes}
use Rattle.walter_slow.specs.Sites.{is_missing}
use Rattle.walter_slow.specs.Tables.{Table as SlowCommits, commit_of, AreBusy, RiseBetween}
use Rattle.walter_rules.specs.Knowledge.{fresh, site_at, from_to}
use Rattle.walter_rules.specs.Slow.{has_site}
use Rattle.walter_rules.specs.Sending.{Send, to_each, prepare_of}
use Rattle.walter_tables.specs.Packets.{to_one, commits_of, prepare_kept, release_kept}
use Rattle.walter_tables.specs.Standing.{Values}

-- more packets behind others to the same site
pub put_more : (k : SiteId) (sends middle later : List Send) (some more : List Packet) → middle ≡ sends ++ to_one k some
    → later ≡ middle ++ to_one k more → later ≡ sends ++ to_one k (some ++ more)
put_more k sends middle later some more before after =
    after ∙ ap (λ ss. ss ++ to_one k more) before ∙ append_assoc sends (to_one k some) (to_one k more)
    ∙ ap (λ ss. sends ++ ss) (sym (map-append (λ (packet : Packet). (k, packet)) some more))

-- numbers from a first one on, and one more
range_more : (a n : ℕ) → range_with_len a (suc n) ≡ range_with_len a n ++ (a + n) ∷ []
range_more a zero = ap (λ (m : ℕ). m ∷ []) (omega arith)
range_more a (suc n) =
    ap (λ ms. a ∷ ms) (range_more (a + 1) n)
    ∙ ap (λ (m : ℕ). a ∷ (range_with_len (a + 1) n ++ m ∷ [])) (omega arith)

pub from_to_more : (first before : ℕ) → first ≤ before + 1
    → from_to first (before + 1) ≡ from_to first before ++ (before + 1) ∷ []
from_to_more first before le =
    let one_longer : before + 1 + 1 - first ≡ suc (before + 1 - first) = omega (arith, le) in
    let last : first + (before + 1 - first) ≡ before + 1 = omega (arith, le) in
    ap (range_with_len first) one_longer ∙ range_more first (before + 1 - first)
    ∙ ap (λ (m : ℕ). range_with_len first (before + 1 - first) ++ m ∷ []) last

pub commits_more : (V : Values) (first before : ℕ) → first ≤ before + 1
    → commits_of V (from_to first (before + 1)) ≡ commits_of V (from_to first before) ++ commits_of V ((before + 1) ∷ [])
commits_more V first before le =
    ap (commits_of V) (from_to_more first before le)
    ∙ filter_map-append _ (from_to first before) ((before + 1) ∷ [])

-- what is made of the numbers up to a place, and of the one there
pub one_more_number : (f : ℕ → List Packet) (numbers : List ℕ) (place d : ℕ) → place < length numbers
    → flat_map f (take (place + 1) numbers) ≡ flat_map f (take place numbers) ++ f (get_or numbers place d)
one_more_number f numbers place d within =
    ap (flat_map f) (take_more numbers place d within) ∙ flat_map-push f (take place numbers) (get_or numbers place d)

-- nothing is made of numbers of which none makes something
none_made : (f : ℕ → List Packet) (a n : ℕ) → ((m : ℕ) → a ≤ m → f m ≡ []) → flat_map f (range_with_len a n) ≡ []
none_made f a zero none = refl
none_made f a (suc n) none =
    ap (λ ps. ps ++ flat_map f (range_with_len (a + 1) n)) (none a (omega arith))
    ∙ none_made f (a + 1) n (λ m le. none m (omega (arith, le)))

-- numbers rise to the last one, and each is above the first
rise_to : (first last : ℕ) (numbers : List ℕ) → RiseBetween first last numbers → first ≤ last
rise_to first last [] rising = rising
rise_to first last (n ∷ ns) rising =
    let rest = rise_to n last ns rising.1 in
    let low = rising.0 in
    omega (arith, rest, low)

rising_from : (first last : ℕ) (numbers : List ℕ) → RiseBetween first last numbers → (j : ℕ)
    → Contains (first ∷ numbers) j → first ≤ j
rising_from first last [] rising j within = elim (in_cases first [] j within) [
  | inl same ↦ omega (arith, same)
  | inr later ↦ absurd (Contains-nil j later)
]
rising_from first last (n ∷ ns) rising j within = elim (in_cases first (n ∷ ns) j within) [
  | inl same ↦ omega (arith, same)
  | inr later ↦ let high = rising_from n last ns rising.1 j later in let low = rising.0 in omega (arith, high, low)
]

-- what is made of numbers that rise is what is made of all numbers, where no other makes something
walked : (f : ℕ → List Packet) (n first last : ℕ) (numbers : List ℕ) → last ≡ first + n → RiseBetween first last numbers
    → ((m : ℕ) → first < m → ¬ Contains numbers m → f m ≡ []) → flat_map f (range_with_len (first + 1) n) ≡ flat_map f numbers
walked f n first last [] far rising none =
    none_made f (first + 1) n (λ m le. none m (omega (arith, le)) (λ within. Contains-nil m within))
walked f zero first last (m ∷ ms) far rising none =
    absurd (let rest = rise_to m last ms rising.1 in let low = rising.0 in omega (arith, rest, low, far))
walked f (suc n) first last (m ∷ ms) far rising none = elim (cases_eq (first + 1) m) [
  | inl here ↦
      let rest = walked f n m last ms (omega (arith, far, here)) rising.1
      (λ j above out. none j (let low = rising.0 in omega (arith, above, low))
      (λ within. elim (in_cases m ms j within) [
        | inl same ↦ omega (arith, above, same)
        | inr later ↦ out later
      ])) in
      ap (λ (j : ℕ). f j ++ flat_map f (range_with_len (j + 1) n)) here
      ∙ ap (λ ps. f m ++ ps) rest
  | inr apart ↦
      let low = rising.0 in
      let before : first + 1 < m = omega (arith, low, apart) in
      let least : (j : ℕ) → Contains (m ∷ ms) j → m ≤ j = rising_from m last ms rising.1 in
      ap (λ ps. ps ++ flat_map f (range_with_len (first + 1 + 1) n))
      (none (first + 1) (omega arith) (λ within. let high = least (first + 1) within in omega (arith, before, high)))
      ∙ walked f n (first + 1) last (m ∷ ms) (omega (arith, far)) (before, rising.1)
      (λ j above out. none j (omega (arith, above)) out)
]

pub rising_made : (f : ℕ → List Packet) (last : ℕ) (numbers : List ℕ) → RiseBetween 0 last numbers
    → ((m : ℕ) → ¬ Contains numbers m → f m ≡ []) → flat_map f numbers ≡ flat_map f (from_to 1 last)
rising_made f last numbers rising none =
    sym (walked f last 0 last numbers (omega arith) rising (λ m above out. none m out))
    ∙ ap (λ (n : ℕ). flat_map f (range_with_len 1 n)) (let same : last ≡ last + 1 - 1 = omega arith in same)

-- who is asked and heard isn't missing
heard_front : (site k : SiteId) (heard ks : List SiteId) (same has : Bool) → same_site site k ≡ same → has_site k heard ≡ has
    → (list_all (λ m. has_site m heard) ks ≡ true → is_missing site ks heard ≡ false)
    → (has && list_all (λ m. has_site m heard) ks) ≡ true → ((same || has_site site ks) && not (has_site site heard)) ≡ false
heard_front site k heard ks true true same has behind all =
    ap not (subst (λ (m : SiteId). has_site m heard ≡ true) (sym (same_site-true site k same)) has)
heard_front site k heard ks true false same has behind all = absurd cc
heard_front site k heard ks false true same has behind all = behind all
heard_front site k heard ks false false same has behind all = absurd cc

all_heard : (site : SiteId) (heard asked : List SiteId) → list_all (λ k. has_site k heard) asked ≡ true → is_missing site asked heard ≡ false
all_heard site heard [] all = refl
all_heard site heard (k ∷ ks) all =
    heard_front site k heard ks (same_site site k) (has_site k heard) refl refl (all_heard site heard ks) all

not_not : (b : Bool) → not b ≡ false → b ≡ true
not_not true is = refl
not_not false is = absurd cc

-- one that isn't busy puts out nothing
module _ (o : Option Kept) (rests : is_busy o ≡ false) where
  neither : (a b : Bool) → (a || b) ≡ false → (a ≡ false) × (b ≡ false)
  neither true b is = absurd cc
  neither false b is = (refl, is)

  waits_none : (site : SiteId) (x : Option Kept) → is_busy x ≡ false → waits_for x site ≡ false
  waits_none site None is = refl
  waits_none site (Some kept) is = ap (λ b. b && is_missing site kept.asked kept.heard) (neither (is_some kept.tx) _ is).0

  owes_none : (site : SiteId) (x : Option Kept) → is_busy x ≡ false → owes x site ≡ false
  owes_none site None is = refl
  owes_none site (Some kept) is =
      let n = neither (is_some kept.tx) (not (list_all (λ k. has_site k kept.heard) kept.asked)) is in
      ap (λ b. not b && is_missing site kept.asked kept.heard) n.0
      ∙ all_heard site kept.heard kept.asked (not_not (list_all (λ k. has_site k kept.heard) kept.asked) n.1)

  pub prepares_none : (catalog : Catalog) (k : SiteId) (n : ℕ) → prepare_kept catalog k n o ≡ []
  prepares_none catalog k n =
      ap (λ b. if b then option_map_or (λ tx. prepare_of catalog fresh n tx k ∷ []) (option_and_then (λ slow. slow.tx) o) [] else [])
      (waits_none k o rests)

  pub releases_none : (k : SiteId) (n : ℕ) → release_kept k n o ≡ []
  releases_none k n = ap (λ b. if b then Release n ∷ [] else []) (owes_none k o rests)

-- and what isn't among the busy numbers isn't busy
pub rests_out : (table : SlowCommits) → AreBusy table.commits table.busy → (n : ℕ) → ¬ Contains table.busy n → is_busy (commit_of table n) ≡ false
rests_out table are n out = sym (are n) ∙ none_among (cases_Bool (list_any (nat_eq n) table.busy))
  where
    none_among : (list_any (nat_eq n) table.busy ≡ true) ⊎ (list_any (nat_eq n) table.busy ≡ false) → list_any (nat_eq n) table.busy ≡ false
    none_among (inl some) =
        let one = one_passes (nat_eq n) table.busy some in
        absurd (out (subst (λ (m : ℕ). Contains table.busy m) (sym (eqb-true n one.0 one.2)) one.1))
    none_among (inr none) = none

-- six times packets are put to the same site
pub six_put : (k : SiteId) (s0 s1 s2 s3 s4 s5 s6 : List Send) (p1 p2 p3 p4 p5 p6 : List Packet)
    → s1 ≡ s0 ++ to_one k p1 → s2 ≡ s1 ++ to_one k p2 → s3 ≡ s2 ++ to_one k p3 → s4 ≡ s3 ++ to_one k p4
    → s5 ≡ s4 ++ to_one k p5 → s6 ≡ s5 ++ to_one k p6
    → s6 ≡ s0 ++ to_one k (p1 ++ (p2 ++ (p3 ++ (p4 ++ (p5 ++ p6)))))
six_put k s0 s1 s2 s3 s4 s5 s6 p1 p2 p3 p4 p5 p6 e1 e2 e3 e4 e5 e6 =
    put_more k s0 s1 s6 p1 (p2 ++ (p3 ++ (p4 ++ (p5 ++ p6)))) e1
    (put_more k s1 s2 s6 p2 (p3 ++ (p4 ++ (p5 ++ p6))) e2
    (put_more k s2 s3 s6 p3 (p4 ++ (p5 ++ p6)) e3
    (put_more k s3 s4 s6 p4 (p5 ++ p6) e4 (put_more k s4 s5 s6 p5 p6 e5 e6))))

-- the sites below a number, but this one
abbrev pub peers_below : ℕ → SiteId → List SiteId
peers_below n i = filter (λ k. not (same_site k i)) (map site_at (range_with_len 0 n))

module _ (i : SiteId) (packets : SiteId → List Packet) (n : ℕ) (sends later : List Send) where
  one_more_peer : to_each (peers_below (n + 1) i) packets
      ≡ to_each (peers_below n i) packets ++ to_each (cond (not (same_site (site_at n) i)) (site_at n ∷ []) []) packets
  one_more_peer =
      ap (λ ks. to_each ks packets) (filter_of_map_range_with_len_more (λ k. not (same_site k i)) site_at 0 n n (omega arith))
      ∙ flat_map-append (λ k. to_one k (packets k)) (peers_below n i) (cond (not (same_site (site_at n) i)) (site_at n ∷ []) [])

  -- one more site is served, and the own one is left out
  pub peer_served : n ≢ i.0 → sends ≡ to_each (peers_below n i) packets
      → later ≡ sends ++ to_one (site_at n) (packets (site_at n)) → later ≡ to_each (peers_below (n + 1) i) packets
  peer_served apart before after =
      let other : same_site (site_at n) i ≡ false = elim (cases_Bool (nat_eq n i.0)) [
        | inl same ↦ absurd (apart (eqb-true n i.0 same))
        | inr is ↦ is
      ] in
      after ∙ ap (λ ss. ss ++ to_one (site_at n) (packets (site_at n))) before
      ∙ ap (λ ss. to_each (peers_below n i) packets ++ ss) (sym (append-nil (to_one (site_at n) (packets (site_at n)))))
      ∙ ap (λ b. to_each (peers_below n i) packets ++ to_each (cond (not b) (site_at n ∷ []) []) packets) (sym other)
      ∙ sym one_more_peer

  pub own_left_out : n ≡ i.0 → sends ≡ to_each (peers_below n i) packets → later ≡ sends
      → later ≡ to_each (peers_below (n + 1) i) packets
  own_left_out same before after =
      after ∙ before ∙ sym (append-nil (to_each (peers_below n i) packets))
      ∙ ap (λ b. to_each (peers_below n i) packets ++ to_each (cond (not b) (site_at n ∷ []) []) packets)
      (sym (eq-eqb n i.0 same))
      ∙ sym one_more_peer
