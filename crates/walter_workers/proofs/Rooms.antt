-- How much room trails have as one of them grows.
use Rattle.std.proofs.Common.{◌≡◌, ◌≢◌, ◌<◌, ◌+◌, ◌-◌, ◌∷◌, ◌⊎◌, ℕ, zero, suc, Bool, true, false, List, [], length, refl, ap, sym, ◌∙◌, arith, inl, inr, Some}
use Rattle.std.proofs.lemmas.Bool.{cases_eq, cases_lt}
use Rattle.std.proofs.lemmas.List.{length-append}
use Rattle.std.proofs.lemmas.Option.{slice_get-get_or, slice_get_past}
use Rattle.walter_base.specs.declared.names.SiteId.{SiteId}
use Rattle.walter_cell.specs.Entries.{Grows}
use Rattle.walter_cluster.specs.Moments.{Moment, ChangesAt}
use Rattle.walter_cluster.proofs.Changes.{same_places}
use Rattle.walter_rules.specs.declared.entry.Entry.{Entry}
use Rattle.walter_rules.specs.declared.event.Event.{Event}
use Rattle.walter_rules.specs.Knowledge.{site_at}
use Rattle.walter_rules.specs.Merges.{trail_of}
use Rattle.walter_workers.specs.Rounds.{Moves, room_below, room_in}

-- trails of as many sites that are the same one by one are the same
pub trails_same : (old new : List (List Entry)) → length new ≡ length old
    → ((j : SiteId) → trail_of new j ≡ trail_of old j) → new ≡ old
trails_same old new long same = same_places new old (λ k. elim (cases_lt k (length old)) [
  | inl within ↦
      slice_get-get_or new k [] (omega (arith, within, long))
      ∙ (ap (λ es. Some es) (same (site_at k)) ∙ sym (slice_get-get_or old k [] within))
  | inr past ↦ slice_get_past new k (omega (arith, past, long)) ∙ sym (slice_get_past old k past)
])

apart_sites : (i k : ℕ) → k ≢ i → site_at k ≢ site_at i
apart_sites i k apart same = apart (ap (λ (s : SiteId). s.0) same)

-- the rooms of the first sites are the same where their trails are
room_same : (n : ℕ) (old new : List (List Entry))
    → ((k : ℕ) → k < n → trail_of new (site_at k) ≡ trail_of old (site_at k)) → room_below n new ≡ room_below n old
room_same zero old new same = refl
room_same (suc n) old new same =
    let front = room_same n old new (λ k below. same k (omega (arith, below))) in
    let last = ap length (same n (omega arith)) in
    omega (arith, front, last)

-- where one trail is another
room_changed : (n i : ℕ) (old new : List (List Entry)) → i < n
    → ((j : SiteId) → j ≢ site_at i → trail_of new j ≡ trail_of old j)
    → room_below n new + (100000 - length (trail_of old (site_at i)))
    ≡ room_below n old + (100000 - length (trail_of new (site_at i)))
room_changed zero i old new below others = absurd (omega (arith, below))
room_changed (suc n) i old new below others = elim (cases_eq i n) [
  | inl here ↦
      let front = room_same n old new (λ k under. others (site_at k) (apart_sites i k (omega (arith, under, here)))) in
      let was = ap (λ k. length (trail_of old (site_at k))) here in
      let now = ap (λ k. length (trail_of new (site_at k))) here in
      omega (arith, front, was, now)
  | inr before ↦
      let front = room_changed n i old new (omega (arith, below, before)) others in
      let last = ap length (others (site_at n) (apart_sites i n (λ e. before (sym e)))) in
      omega (arith, front, last)
]

module _ (fails : Type 0) (i : SiteId) (old new : Moment) (changes : ChangesAt i old new) where
  changed : i.0 < length old.trails → room_in new.trails + (100000 - length (trail_of old.trails i))
      ≡ room_in old.trails + (100000 - length (trail_of new.trails i))
  changed within =
      let all = room_changed (length old.trails) i.0 old.trails new.trails within changes.others in
      let long = ap (λ n. room_below n new.trails) changes.sites in
      omega (arith, all, long)

  longer : (event : Event) → Grows event (trail_of old.trails i) (trail_of new.trails i)
      → length (trail_of new.trails i) ≡ length (trail_of old.trails i) + 1
  longer event grows = ap length grows.1 ∙ length-append (trail_of old.trails i) (grows.0 ∷ [])

  -- an entry has come for which there was place
  pub moves_grown : (event : Event) → i.0 < length old.trails → length (trail_of old.trails i) < 100000
      → Grows event (trail_of old.trails i) (trail_of new.trails i) → Moves fails old.trails new.trails true
  moves_grown event within place grows =
      let all = changed within in
      let more = longer event grows in
      record {
        no_more = omega (arith, all, more, place);
        fewer = λ moved. omega (arith, all, more, place);
        same = λ not_so. absurd cc;
      }

  -- one has come, unseen, to a connection that has failed
  pub moves_failed : (event : Event) → i.0 < length old.trails → fails
      → Grows event (trail_of old.trails i) (trail_of new.trails i) → Moves fails old.trails new.trails false
  moves_failed event within failed grows =
      let all = changed within in
      let more = longer event grows in
      record {
        no_more = omega (arith, all, more);
        fewer = λ so. absurd cc;
        same = λ still. inl failed;
      }

  -- none has
  pub moves_still : trail_of new.trails i ≡ trail_of old.trails i → Moves fails old.trails new.trails false
  moves_still same =
      let all : new.trails ≡ old.trails = trails_same old.trails new.trails changes.sites (λ j. elim (cases_eq j.0 i.0) [
        | inl here ↦
            let is : j ≡ i = ap (λ k. site_at k) here in
            ap (trail_of new.trails) is ∙ (same ∙ ap (trail_of old.trails) (sym is))
        | inr apart ↦ changes.others j (λ e. apart (ap (λ (s : SiteId). s.0) e))
      ]) in
      let room = ap room_in all in
      record {
        no_more = omega (arith, room);
        fewer = λ so. absurd cc;
        same = λ still. inr all;
      }

-- ---- one after another

pub moves_self : (fails : Type 0) (trails : List (List Entry)) → Moves fails trails trails false
moves_self fails trails = record { no_more = omega arith; fewer = λ so. absurd cc; same = λ still. inr refl }

pub moves_on : (fails : Type 0) (a b c : List (List Entry)) (first second both : Bool)
    → (both ≡ false → (first ≡ false) × (second ≡ false)) → (both ≡ true → (first ≡ true) ⊎ (second ≡ true))
    → Moves fails a b first → Moves fails b c second → Moves fails a c both
moves_on fails a b c first second both neither some before after = record {
  no_more = (let m = before.no_more in let n = after.no_more in omega (arith, m, n));
  fewer = λ so. elim (some so) [
    | inl one ↦ let m = before.fewer one in let n = after.no_more in omega (arith, m, n)
    | inr other ↦ let m = before.no_more in let n = after.fewer other in omega (arith, m, n)
  ];
  same = λ still. elim (before.same (neither still).0) [
    | inl failed ↦ inl failed
    | inr kept ↦ elim (after.same (neither still).1) [
      | inl failed ↦ inl failed
      | inr too ↦ inr (too ∙ kept)
    ]
  ];
}
