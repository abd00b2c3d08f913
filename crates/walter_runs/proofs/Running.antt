-- Right and linked trails, merged and taken newest first, are a run.
use Rattle.std.proofs.Common.{◌≡◌, ℕ, zero, suc, ◌<◌, ◌≤◌, true, false, List, [], ◌∷◌, ◌++◌, length, reverse, refl, ap, sym, ◌∙◌, subst, arith, if◌then◌else◌, slice_get, Some, inl, inr}
use Rattle.std.specs.Prelude.{Contains, Option, None, filter_map, slice_index_or}
use Rattle.std.specs.List.{cons_option}
use Rattle.std.proofs.lemmas.Bool.Decides.{leb_tells}
use Rattle.std.proofs.lemmas.List.{append-nil, append_assoc, reverse-append, reverse-reverse}
use Rattle.std.proofs.lemmas.List.Elements.{Contains-append_left, Contains-append_right, Contains-append_cases}
use Rattle.walter_base.specs.declared.catalog.Catalog.{Catalog}
use Rattle.walter_base.specs.declared.names.SiteId.{SiteId}
use Rattle.walter_base.specs.declared.packet.Packet.{Packet}
use Rattle.walter_base.specs.Names.{same_site}
use Rattle.walter_base.proofs.NameTests.{same_site-true, same_site_refl}
use Rattle.walter_psi.proofs.Lists.{Contains-nil, Contains-one, place_of, contains_at, Contains-flat_map_from}
use Rattle.walter_rules.specs.declared.entry.Entry.{Entry}
use Rattle.walter_rules.specs.declared.event.Event.{Event}
use Rattle.walter_rules.specs.declared.event.Event.TheVariants.{Given, Stop, Restart}
use Rattle.walter_rules.specs.declared.event.Input.TheVariants.{Call, Deliver, Advance, Tick, Upgrade}
use Rattle.walter_rules.specs.Layouts.{Layout}
use Rattle.walter_rules.specs.Merges.{Named, entries_of, named_from, merge, Stamped, sent_to, put_out_to, trail_of}
use Rattle.walter_rules.specs.Sending.{Send}
use Rattle.walter_rules.specs.Trails.{clock, IsNextStamp, IsRightEntry, AreRight}
use Rattle.walter_runs.specs.Runs.{IsNext, IsRun, AreRightTrails}
use Rattle.walter_runs.proofs.Merging.{Rises, Leads, IsInOrder, in_order_is, leads_behind, no_greater, entries_of-append, entries_of-reverse, merged_of}

-- a next stamp is above the last one
next_above : (event : Event) (last stamp : ℕ) → IsNextStamp event last stamp → last < stamp
next_above (Given (Call client call)) last stamp is = omega (arith, is)
next_above (Given (Deliver from number packet)) last stamp is = is
next_above (Given (Advance from)) last stamp is = omega (arith, is)
next_above (Given Tick) last stamp is = omega (arith, is)
next_above (Given Upgrade) last stamp is = omega (arith, is)
next_above Stop last stamp is = omega (arith, is)
next_above Restart last stamp is = omega (arith, is)

-- the stamps of right entries rise, the oldest first, where those behind them do
rises_behind : (catalog : Catalog) (layout : Layout) (i : SiteId) (newest_first later : List Entry)
    → AreRight catalog layout i newest_first → Rises (clock newest_first) later
    → Rises 0 (reverse newest_first ++ later)
rises_behind catalog layout i [] later right rises = rises
rises_behind catalog layout i (e ∷ older) later right rises =
    let above = next_above e.event (clock older) e.stamp right.1.stamp in
    let all = rises_behind catalog layout i older (e ∷ later) right.0 (above, rises) in
    subst (λ es. Rises 0 es) (sym (ap (λ es. es ++ later) (reverse-append (e ∷ []) older)
    ∙ append_assoc (reverse older) (e ∷ []) later)) all

-- the stamps of a right trail rise
pub right_rises : (catalog : Catalog) (layout : Layout) (i : SiteId) (trail : List Entry)
    → AreRight catalog layout i (reverse trail) → Rises 0 trail
right_rises catalog layout i trail right =
    subst (λ es. Rises 0 es) (append-nil (reverse (reverse trail)) ∙ reverse-reverse trail)
    (rises_behind catalog layout i (reverse trail) [] right tt)

-- those before an entry are right, and it is right after them
right_from : (catalog : Catalog) (layout : Layout) (i : SiteId) (newer older : List Entry) (e : Entry)
    → AreRight catalog layout i (newer ++ e ∷ older) → IsRightEntry catalog layout i older e
right_from catalog layout i [] older e right = right.1
right_from catalog layout i (n ∷ newer) older e right = right_from catalog layout i newer older e right.0

no_split : (front rest : List Entry) (e : Entry) → [] ≡ front ++ e ∷ rest → ⊥
no_split [] rest e is = cc
no_split (f ∷ front) rest e is = cc

-- a trail with an entry is one of the trails
one_of_trails : (trails : List (List Entry)) (place : ℕ) (front rest : List Entry) (e : Entry)
    → slice_index_or trails place [] ≡ front ++ e ∷ rest → place < length trails
one_of_trails [] place front rest e is = absurd (no_split front rest e is)
one_of_trails (trail ∷ trails) zero front rest e is = omega arith
one_of_trails (trail ∷ trails) (suc place) front rest e is = let l = one_of_trails trails place front rest e is in
    omega (arith, l)

-- what stands in the middle of a list, and what is before it
at_middle : {X : Type 0} (front rest : List X) (x : X) → slice_get (front ++ x ∷ rest) (length front) ≡ Some x
at_middle [] rest x = refl
at_middle (f ∷ front) rest x = at_middle front rest x

-- an entry of a site stands in the list with its site
named_entry : (j : SiteId) (ns : List Named) (e : Entry) → Contains (entries_of j ns) e → Contains ns (j, e)
named_entry j [] e c = absurd (Contains-nil e c)
named_entry j (n ∷ ns) e c =
    elim (same_site j n.0) as (λ b. same_site j n.0 ≡ b
    → Contains (if b then n.1 ∷ entries_of j ns else entries_of j ns) e → Contains (n ∷ ns) (j, e)) [
      | true ↦ λ here stands. elim (Contains-append_cases (n.1 ∷ []) (entries_of j ns) e stands) [
        | inl first ↦
            let one : n.1 ≡ e = Contains-one n.1 e first in
            let site = same_site-true j n.0 here in
            subst (λ (m : Named). Contains (n ∷ ns) m) (λ t. (sym site t, one t)) (contains_at (n ∷ ns) n 0 refl)
        | inr later ↦ Contains-append_right (n ∷ []) ns (j, e) (named_entry j ns e later)
      ]
      | false ↦ λ other stands. Contains-append_right (n ∷ []) ns (j, e) (named_entry j ns e stands)
    ] refl c

-- what an entry puts out to a site with its stamp
abbrev stamped_for : SiteId → ℕ → Send → Option Stamped
stamped_for i stamp s = if same_site s.0 i then Some (stamp, s.1) else None

-- it stands among what the entry puts out
sent_by : (i : SiteId) (stamp : ℕ) (sends : List Send) (put : ℕ) (packet : Packet)
    → Contains (filter_map (stamped_for i stamp) sends) (put, packet) → (stamp ≡ put) × Contains sends (i, packet)
sent_by i stamp [] put packet c = absurd (Contains-nil (put, packet) c)
sent_by i stamp (s ∷ sends) put packet c = elim (same_site s.0 i) as (λ b. same_site s.0 i ≡ b
    → Contains (cons_option (if b then Some (stamp, s.1) else None) (filter_map (stamped_for i stamp) sends))
    (put, packet) → (stamp ≡ put) × Contains (s ∷ sends) (i, packet)) [
      | true ↦ λ here stands. elim (Contains-append_cases ((stamp, s.1) ∷ []) (filter_map (stamped_for i stamp) sends)
          (put, packet) stands) [
            | inl first ↦
                let one : (stamp, s.1) ≡ (put, packet) = Contains-one (stamp, s.1) (put, packet) first in (
                  ap (λ (z : Stamped). z.0) one,
                  subst (λ (z : Send). Contains (s ∷ sends) z)
                      (λ t. (same_site-true s.0 i here t, (one t).1)) (contains_at (s ∷ sends) s 0 refl),
                )
            | inr later ↦ let rest = sent_by i stamp sends put packet later in
                (rest.0, Contains-append_right (s ∷ []) sends (i, packet) rest.1)
          ]
      | false ↦ λ other stands. let rest = sent_by i stamp sends put packet stands in
          (rest.0, Contains-append_right (s ∷ []) sends (i, packet) rest.1)
    ] refl c

-- in order, an entry of a lower stamp stands before one of a higher
stands_before : (front rest : List Named) (n m : Named) → IsInOrder (front ++ n ∷ rest)
    → Contains (front ++ n ∷ rest) m → m.1.stamp < n.1.stamp → Contains front m
stands_before front rest n m order stands lower = elim (Contains-append_cases front (n ∷ rest) m stands) [
  | inl before ↦ before
  | inr here ↦ elim (Contains-append_cases (n ∷ []) rest m here) [
    | inl same ↦ let one : n ≡ m = Contains-one n m same in let e : n.1.stamp ≡ m.1.stamp =
        ap (λ (z : Named). z.1.stamp) one in absurd (omega (arith, e, lower))
    | inr later ↦ let p = place_of rest m later in let l = led rest p.0 (leads_behind front rest n order) p.1 in
        absurd (omega (arith, l, lower))
  ]
]
  where
    led : (ms : List Named) (place : ℕ) → Leads n ms → slice_get ms place ≡ Some m → n.1.stamp ≤ m.1.stamp
    led [] place leads at = cc
    led (k ∷ ms) zero leads at = let one : k ≡ m = cc in subst (λ (z : Named). n.1.stamp ≤ z.1.stamp) one
        (no_greater n k leads.0)
    led (k ∷ ms) (suc place) leads at = led ms place leads.1 at

-- what stands in a list stands in its reverse
in_reverse : {X : Type 0} (xs : List X) (x : X) → Contains xs x → Contains (reverse xs) x
in_reverse [] x c = absurd (Contains-nil x c)
in_reverse (y ∷ xs) x c = subst (λ zs. Contains zs x) (sym (reverse-append (y ∷ []) xs))
    (elim (Contains-append_cases (y ∷ []) xs x c) [
      | inl first ↦ Contains-append_right (reverse xs) (y ∷ []) x first
      | inr later ↦ Contains-append_left (reverse xs) (y ∷ []) x (in_reverse xs x later)
    ])

module _ (catalog : Catalog) (layouts : SiteId → Layout) (trails : List (List Entry))
    (are : AreRightTrails catalog layouts trails) where
  -- those of a site that is none of them have no entry, so the merge has of each its trail
  rises_at : (i : SiteId) → Rises 0 (trail_of trails i)
  rises_at i = elim (leb_tells (suc i.0) (length trails)) [
    | inl below ↦ right_rises catalog (layouts i) i (trail_of trails i)
        (are.right i (let l = below.1 in let n = are.one_each in omega (arith, l, n))).right
    | inr above ↦ subst (λ es. Rises 0 es) (sym (none_past trails i.0 (let l = above.1 in omega (arith, l)))) tt
  ]
    where
      none_past : (ts : List (List Entry)) (place : ℕ) → length ts ≤ place → slice_index_or ts place [] ≡ []
      none_past [] place past = refl
      none_past (t ∷ ts) zero past = absurd (omega (arith, past))
      none_past (t ∷ ts) (suc place) past = none_past ts place (omega (arith, past))

  -- an entry of the merge may follow those before it
  next : (older rest : List Named) (n : Named) → reverse older ++ n ∷ rest ≡ merge trails
      → IsNext catalog layouts older n
  next older rest n is =
      let mine : trail_of trails n.0 ≡ reverse (entries_of n.0 older) ++ n.1 ∷ entries_of n.0 rest =
      sym (merged_of n.0 trails (rises_at n.0)) ∙ ap (λ ns. entries_of n.0 ns) (sym is)
      ∙ entries_of-append n.0 (reverse older) (n ∷ rest)
      ∙ (λ t. entries_of-reverse n.0 older t ++
      (if same_site_refl n.0 t then n.1 ∷ entries_of n.0 rest else entries_of n.0 rest)) in
      let below : n.0.0 < catalog.sites = let l = one_of_trails trails n.0.0 (reverse (entries_of n.0 older))
      (entries_of n.0 rest) n.1 mine in subst (λ k. n.0.0 < k) are.one_each l in
      let right = subst (λ es. AreRight catalog (layouts n.0) n.0 (reverse es)) mine (are.right n.0 below).right in
      let behind : reverse (reverse (entries_of n.0 older) ++ n.1 ∷ entries_of n.0 rest) ≡ reverse
      (entries_of n.0 rest) ++ n.1 ∷ entries_of n.0 older =
      reverse-append (reverse (entries_of n.0 older)) (n.1 ∷ entries_of n.0 rest)
      ∙ (λ t. reverse-append (n.1 ∷ []) (entries_of n.0 rest) t ++ reverse-reverse (entries_of n.0 older) t)
      ∙ append_assoc (reverse (entries_of n.0 rest)) (n.1 ∷ []) (entries_of n.0 older) in
      record {
        below = below;
        right = right_from catalog (layouts n.0) n.0 (reverse (entries_of n.0 rest)) (entries_of n.0 older) n.1
            (subst (λ es. AreRight catalog (layouts n.0) n.0 es) behind right);
        put = λ j number packet event.
            let place = length (reverse (entries_of n.0 older)) in
            let at : slice_get (trail_of trails n.0) place ≡ Some n.1 = ap (λ es. slice_get es place) mine
            ∙ at_middle (reverse (entries_of n.0 older)) (entries_of n.0 rest) n.1 in
            let link = are.linked n.0 place n.1 j number packet at event in
            let made = Contains-flat_map_from (sent_to n.0) (trail_of trails j) (link.put, packet)
            (contains_at (put_out_to n.0 (trail_of trails j)) (link.put, packet) link.before link.source) in
            let sent = sent_by n.0 made.0.stamp made.0.came.sends link.put packet made.2 in
            let stands : Contains (merge trails) (j, made.0) =
            named_entry j (merge trails) made.0
            (subst (λ es. Contains es made.0) (sym (merged_of j trails (rises_at j))) made.1) in
            let lower : made.0.stamp < n.1.stamp = let l = link.lower in let e = sent.0 in omega (arith, l, e) in
            let before = stands_before (reverse older) rest n (j, made.0)
            (subst (λ ns. IsInOrder ns) (sym is) (in_order_is (named_from 0 trails)))
            (subst (λ ns. Contains ns (j, made.0)) (sym is) stands) lower in
            record {
              entry = made.0;
              here = subst (λ ns. Contains ns (j, made.0)) (reverse-reverse older)
                  (in_reverse (reverse older) (j, made.0) before);
              sent = sent.1;
            };
      }

  run_from : (older rest : List Named) → reverse older ++ rest ≡ merge trails → IsRun catalog layouts older
      → IsRun catalog layouts (reverse (merge trails))
  run_from older [] is run = subst (λ ns. IsRun catalog layouts ns) (sym (reverse-reverse older)
      ∙ ap (λ ns. reverse ns) (sym (append-nil (reverse older)) ∙ is)) run
  run_from older (n ∷ rest) is run =
      run_from (n ∷ older) rest (ap (λ ns. ns ++ rest) (reverse-append (n ∷ []) older)
      ∙ append_assoc (reverse older) (n ∷ []) rest ∙ is) (run, next older rest n is)

  pub merged_run : IsRun catalog layouts (reverse (merge trails))
  merged_run = run_from [] (merge trails) refl tt
