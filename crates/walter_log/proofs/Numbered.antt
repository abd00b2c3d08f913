-- The first number of an own transaction, as one more is held.
use Rattle.std.proofs.Common.{◌≡◌, ◌≢◌, ◌⊎◌, ◌∙◌, ◌++◌, ℕ, true, false, List, [], ◌∷◌, filter_map, slice_get, Option, Some, None, refl, ap, sym, subst, inl, inr, if◌then◌else◌}
use Rattle.std.specs.List.{cons_option}
use Rattle.std.specs.Option.{option_or}
use Rattle.std.proofs.lemmas.List.Elements.{filter-append, filter_map-append}
use Rattle.walter_base.specs.declared.names.SiteId.{SiteId}
use Rattle.walter_base.specs.declared.names.Tid.{Tid}
use Rattle.walter_base.specs.Names.{same_site, same_tid}
use Rattle.walter_base.proofs.NameTests.{same_site-true, same_site_refl, same_tid-false}
use Rattle.walter_rules.specs.declared.held.Held.{Held}
use Rattle.walter_rules.specs.Log.{is_of, of_site, seq_in}
use Rattle.walter_log.specs.Own.{named_seq}

first_append : (front more : List ℕ) → slice_get (front ++ more) 0 ≡ option_or (slice_get front 0) (slice_get more 0)
first_append [] more = refl
first_append (x ∷ front) more = refl

-- the number of a transaction, where it has the name
abbrev seq_if : Tid → Held → Option ℕ
seq_if tid h = if same_tid tid h.tx.tid then Some h.seq else None

at_most_one : (number : Option ℕ) → slice_get (cons_option number []) 0 ≡ number
at_most_one None = refl
at_most_one (Some seq) = refl

-- two sites are the same or not, by their test too
site_cases : (a b : SiteId) → ((same_site a b ≡ true) × (a ≡ b)) ⊎ ((same_site a b ≡ false) × (a ≢ b))
site_cases a b = elim (same_site a b) as (λ c. same_site a b ≡ c
    → ((same_site a b ≡ true) × (a ≡ b)) ⊎ ((same_site a b ≡ false) × (a ≢ b))) [
      | true ↦ λ is. inl (is, same_site-true a b is)
      | false ↦ λ is. inr (
        is,
        λ e. let t = same_site_refl a in
            let f : same_site a a ≡ false = subst (λ z. same_site a z ≡ false) (sym e) is in
            let clash : true ≡ false = sym t ∙ f in cc,
      )
    ] refl

one_number : (h : Held) (tid : Tid)
    → slice_get (filter_map (seq_if tid) (of_site tid.site (h ∷ []))) 0 ≡ named_seq h.tx.tid h.seq tid
one_number h tid = elim (site_cases h.tx.tid.site tid.site) [
  | inl same ↦ ap (λ b. slice_get (filter_map (seq_if tid) (if b then h ∷ [] else [])) 0) same.0
      ∙ at_most_one (seq_if tid h)
  | inr apart ↦ ap (λ b. slice_get (filter_map (seq_if tid) (if b then h ∷ [] else [])) 0) apart.0
      ∙ sym (ap (λ b. if b then Some h.seq else None)
      (same_tid-false tid h.tx.tid (λ e. apart.1 (ap (λ (t : Tid). t.site) (sym e)))))
]

-- one more transaction has the number of its name where none of those before has one
pub seq_in_more : (log : List Held) (h : Held) (tid : Tid)
    → seq_in tid.site (log ++ h ∷ []) tid ≡ option_or (seq_in tid.site log tid) (named_seq h.tx.tid h.seq tid)
seq_in_more log h tid =
    let site = tid.site in
    ap (λ hs. slice_get (filter_map (seq_if tid) hs) 0) (filter-append (is_of site) log (h ∷ []))
    ∙ ap (λ numbers. slice_get numbers 0) (filter_map-append (seq_if tid) (of_site site log) (of_site site (h ∷ [])))
    ∙ first_append (filter_map (seq_if tid) (of_site site log)) (filter_map (seq_if tid) (of_site site (h ∷ [])))
    ∙ ap (option_or (seq_in site log tid)) (one_number h tid)

-- of another site's name no own commit is
pub not_own : (site : SiteId) (tid : Tid) (log : List Held) → tid.site ≢ site → seq_in site log tid ≡ None
not_own site tid [] apart = refl
not_own site tid (h ∷ log) apart = elim (site_cases h.tx.tid.site site) [
  | inl same ↦
      let other : same_tid tid h.tx.tid ≡ false =
      same_tid-false tid h.tx.tid (λ e. apart (ap (λ (t : Tid). t.site) e ∙ same.1)) in
      ap (λ b. slice_get (filter_map (seq_if tid) (if b then h ∷ of_site site log else of_site site log)) 0) same.0
      ∙ (ap (λ b. slice_get (cons_option (if b then Some h.seq else None) (filter_map (seq_if tid) (of_site site log))) 0)
      other ∙ not_own site tid log apart)
  | inr away ↦
      ap (λ b. slice_get (filter_map (seq_if tid) (if b then h ∷ of_site site log else of_site site log)) 0) away.0
      ∙ not_own site tid log apart
]
