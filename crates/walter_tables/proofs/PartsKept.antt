-- How each table goes on as what the site knows does.
use Rattle.std.proofs.Common.{◌≡◌, ◌≢◌, ◌+◌, ◌-◌, ◌≤◌, ◌<◌, ℕ, zero, suc, Bool, true, false, Option, Some, None, List, [], ◌∷◌, ◌++◌, length, slice_get, slice_index_or, option_map, refl, ap, sym, ◌∙◌, inl, inr, arith, if◌then◌else◌}
use Rattle.std.specs.Prelude.{max, slice_set}
use Rattle.std.proofs.lemmas.List.{get_or-set_same, get_or-set_other, get_or_append_left, length_push}
use Rattle.std.proofs.Math.Seq.{get_or-append_seam}
use Rattle.std.proofs.lemmas.Option.{same_Some, slice_get_within}
use Rattle.walter_base.specs.declared.catalog.Catalog.{Catalog}
use Rattle.walter_base.specs.declared.names.SiteId.{SiteId}
use Rattle.walter_base.specs.declared.transaction.Conflict.{Conflict}
use Rattle.walter_base.specs.declared.transaction.Tx.{Tx}
use Rattle.walter_base.specs.Names.{same_site}
use Rattle.walter_base.specs.Vectors.{entry_at}
use Rattle.walter_psi.proofs.Lists.{slice_get-append_left, slice_get-push}
use Rattle.walter_durable.specs.Marks.{Holdings, own, preferred_of, with_own as with_own_kept}
use Rattle.walter_objects.specs.Preferred.{homes_of}
use Rattle.walter_rules.specs.declared.held.Held.{Held}
use Rattle.walter_rules.specs.Learning.{one_more, risen, part_over}
use Rattle.walter_rules.specs.Log.{of_site, commit_at}
use Rattle.walter_rules.specs.Slow.{Slow, Unused, Undecided, Dropped, Decided, ended, decided, Part, Free, Locked, Over, is_slow, unlocked}
use Rattle.walter_agreement.proofs.Cases.{site_cases, slow_cases, low_or}
use Rattle.walter_slow.specs.Kept.{kept_of, booted}
use Rattle.walter_tables.specs.Parts.{without_decided, is_free}
use Rattle.walter_tables.proofs.SoundKept.{own_more, other_more}

-- an entry of a vector that was set
pub set_entry : (v : List ℕ) (j k : SiteId) (n : ℕ) → j.0 < length v
    → entry_at (slice_set v j.0 n) k ≡ (if same_site j k then n else entry_at v k)
set_entry v j k n within = elim (site_cases j k) [
  | inl same ↦
      ap (λ (s : SiteId). entry_at (slice_set v j.0 n) s) (sym same.1)
      ∙ get_or-set_same v j.0 n 0 within ∙ sym (ap (λ b. if b then n else entry_at v k) same.0)
  | inr other ↦
      get_or-set_other v j.0 k.0 n 0 (λ e. other.1 (sym (λ t. record { 0 = e t })))
      ∙ sym (ap (λ b. if b then n else entry_at v k) other.0)
]

-- one more of a site, and a number that rose
pub one_more_entry : (v : List ℕ) (counts : SiteId → ℕ) → ((k : SiteId) → entry_at v k ≡ counts k) → (j k : SiteId)
    → j.0 < length v → entry_at (slice_set v j.0 (entry_at v j + 1)) k ≡ one_more j counts k
one_more_entry v counts same j k within = set_entry v j k (entry_at v j + 1) within ∙ elim (site_cases j k) [
  | inl is ↦ ap (λ b. if b then entry_at v j + 1 else entry_at v k) is.0
      ∙ ap (λ (n : ℕ). n + 1) (ap (entry_at v) is.1 ∙ same k) ∙ sym (ap (λ b. if b then counts k + 1 else counts k) is.0)
  | inr other ↦ ap (λ b. if b then entry_at v j + 1 else entry_at v k) other.0 ∙ same k
      ∙ sym (ap (λ b. if b then counts k + 1 else counts k) other.0)
]

pub risen_entry : (v : List ℕ) (said : SiteId → ℕ) → ((k : SiteId) → entry_at v k ≡ said k) → (j : SiteId) (n : ℕ) (k : SiteId)
    → j.0 < length v → entry_at (slice_set v j.0 (max (entry_at v j) n)) k ≡ risen j n said k
risen_entry v said same j n k within = set_entry v j k (max (entry_at v j) n) within ∙ elim (site_cases j k) [
  | inl is ↦ ap (λ b. if b then max (entry_at v j) n else entry_at v k) is.0
      ∙ ap (λ (m : ℕ). max m n) (ap (entry_at v) is.1 ∙ same k) ∙ sym (ap (λ b. if b then max (said k) n else said k) is.0)
  | inr other ↦ ap (λ b. if b then max (entry_at v j) n else entry_at v k) other.0 ∙ same k
      ∙ sym (ap (λ b. if b then max (said k) n else said k) other.0)
]

-- the own commits, one more of them
commit_within : (i : SiteId) (q : ℕ) (log : List Held) (tx : Tx) → commit_at i q log ≡ Some tx → q - 1 < length (of_site i log)
commit_within i q log tx is = by (slice_get (of_site i log) (q - 1)) refl is
  where
    by : (o : Option Held) → slice_get (of_site i log) (q - 1) ≡ o → option_map (λ (h : Held). h.tx) o ≡ Some tx
        → q - 1 < length (of_site i log)
    by None here is = absurd cc
    by (Some h) here is = slice_get_within (of_site i log) (q - 1) h here

-- an own commit that was there is the same behind one more
commit_before : (i : SiteId) (q : ℕ) (log : List Held) (h : Held) → h.tx.tid.site ≡ i → q - 1 < length (of_site i log)
    → commit_at i q (log ++ h ∷ []) ≡ commit_at i q log
commit_before i q log h here within = by (slice_get (of_site i log) (q - 1)) refl
  where
    by : (o : Option Held) → slice_get (of_site i log) (q - 1) ≡ o → commit_at i q (log ++ h ∷ []) ≡ commit_at i q log
    by None none = absurd (slice_get_there (of_site i log) (q - 1) within none)
      where
        slice_get_there : (xs : List Held) (n : ℕ) → n < length xs → slice_get xs n ≢ None
        slice_get_there [] n within = λ e. omega (arith, within)
        slice_get_there (x ∷ xs) zero within = λ e. cc
        slice_get_there (x ∷ xs) (suc n) within = slice_get_there xs n (omega (arith, within))
    by (Some g) there =
        ap (λ xs. option_map (λ (x : Held). x.tx) (slice_get xs (q - 1))) (own_more i log h here)
        ∙ ap (option_map (λ (x : Held). x.tx)) (slice_get-append_left (of_site i log) (h ∷ []) g (q - 1) there ∙ sym there)

-- and the one more is the last
pub commit_last : (i : SiteId) (q : ℕ) (log : List Held) (h : Held) → h.tx.tid.site ≡ i → q - 1 ≡ length (of_site i log)
    → commit_at i q (log ++ h ∷ []) ≡ Some h.tx
commit_last i q log h here last =
    ap (λ xs. option_map (λ (x : Held). x.tx) (slice_get xs (q - 1))) (own_more i log h here)
    ∙ ap (λ (n : ℕ). option_map (λ (x : Held). x.tx) (slice_get (of_site i log ++ h ∷ []) n)) last
    ∙ ap (option_map (λ (x : Held). x.tx)) (slice_get-push (of_site i log) h)

pub other_commits : (i : SiteId) (q : ℕ) (log : List Held) (h : Held) → same_site h.tx.tid.site i ≡ false
    → commit_at i q (log ++ h ∷ []) ≡ commit_at i q log
other_commits i q log h other = ap (λ xs. option_map (λ (x : Held). x.tx) (slice_get xs (q - 1))) (other_more i log h other)

-- the preferred sites of what own commits changed, one more of them
pub homes_then : (catalog : Catalog) (i : SiteId) (H : Holdings) (log : List Held) (h : Held)
    → own H ≡ length (of_site i log) → h.tx.tid.site ≡ i
    → ((q : ℕ) (tx : Tx) → 1 ≤ q → commit_at i q log ≡ Some tx → preferred_of H q ≡ homes_of catalog tx.updates)
    → (q : ℕ) (tx : Tx) → 1 ≤ q → commit_at i q (log ++ h ∷ []) ≡ Some tx
    → preferred_of (with_own_kept (homes_of catalog h.tx.updates) H) q ≡ homes_of catalog tx.updates
homes_then catalog i H log h count here before q tx low is =
    let within = commit_within i q (log ++ h ∷ []) tx is in
    let longer : length (of_site i (log ++ h ∷ [])) ≡ length (of_site i log) + 1 =
    ap length (own_more i log h here) ∙ length_push (of_site i log) h in
    elim (low_or (q - 1) (length (of_site i log))) [
      | inl old ↦
          get_or_append_left H.preferred (homes_of catalog h.tx.updates ∷ []) [] (q - 1) (omega (arith, old, count))
          ∙ before q tx low (sym (commit_before i q log h here old) ∙ is)
      | inr new ↦
          let last : q - 1 ≡ length (of_site i log) = omega (arith, new, within, longer) in
          let one : h.tx ≡ tx = same_Some h.tx tx (sym (commit_last i q log h here last) ∙ is) in
          ap (λ (n : ℕ). slice_index_or (H.preferred ++ homes_of catalog h.tx.updates ∷ []) n []) (last ∙ sym count)
          ∙ get_or-append_seam H.preferred (homes_of catalog h.tx.updates) [] []
          ∙ ap (λ (x : Tx). homes_of catalog x.updates) one
    ]

-- what is kept of a slow commit: behind a boot, an end, and a commit
pub kept_booted : (g : Slow) (agreed : List SiteId) (refused : Option Conflict) (released : List SiteId)
    → ((tx : Tx) (asked : List SiteId) → g ≡ Undecided tx asked → (refused ≡ None) × (released ≡ []))
    → option_map booted (kept_of g agreed refused released) ≡ kept_of (ended g) agreed refused released
kept_booted Unused agreed refused released silent = refl
kept_booted (Undecided tx asked) agreed refused released silent =
    let none = silent tx asked refl in
    λ t. Some (record { tx = None; asked = asked; heard = sym none.1 t; no = sym none.0 t })
kept_booted (Dropped tx asked) agreed refused released silent = refl
kept_booted (Decided tx) agreed refused released silent = refl

-- one that is committed is kept no more
pub kept_decided : (g : Slow) (agreed : List SiteId) (refused : Option Conflict) (released : List SiteId)
    → without_decided (kept_of g agreed refused released) ≡ kept_of (decided g) agreed refused released
kept_decided Unused agreed refused released = refl
kept_decided (Undecided tx asked) agreed refused released = refl
kept_decided (Dropped tx asked) agreed refused released = refl
kept_decided (Decided tx) agreed refused released = refl

-- what is free of an own slow commit stays so where another's changes
pub free_apart : (j i : SiteId) (m n : ℕ) (a b : Part) → j ≢ i → is_free b ≡ true
    → is_free (if is_slow j m i n then a else b) ≡ true
free_apart j i m n a b apart free = elim (slow_cases j m i n) [
  | inl same ↦ absurd (apart same.1)
  | inr other ↦ ap (λ t. is_free (if t then a else b)) other.0 ∙ free
]

pub free_over : (j i : SiteId) (m n : ℕ) (part : SiteId → ℕ → Part) → j ≢ i → is_free (part i n) ≡ true
    → is_free (part_over j m part i n) ≡ true
free_over j i zero n part apart free = free
free_over j i (suc m) n part apart free = free_apart j i (suc m) n Over (part i n) apart free

-- and so it does where a lock goes
pub free_unlocked : (b : Bool) (part : Part) → is_free part ≡ true → is_free (if b then unlocked part else part) ≡ true
free_unlocked true Free free = refl
free_unlocked true (Locked tid objects) free = refl
free_unlocked true Over free = free
free_unlocked false part free = free
