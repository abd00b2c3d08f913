-- How what a site holds changes by a call, key by key.
use Rattle.std.proofs.Common.{◌≡◌, ◌≢◌, ℕ, nat_eq, [], ◌∷◌, ◌++◌, refl, ap, sym, ◌∙◌, subst, Some, None, true, false, inl, inr, ◌⊎◌}
use Rattle.std.specs.Prelude.{Option, option_map}
use Rattle.std.specs.Map.{lookup}
use Rattle.std.proofs.lemmas.Bool.{eqb-true, eq-eqb}
use Rattle.std.proofs.lemmas.Option.{same_Some}
use Rattle.walter_base.specs.declared.names.SiteId.{SiteId}
use Rattle.walter_base.specs.ByClient.{changed, without}
use Rattle.walter_base.proofs.ByClient.{lookup-changed, lookup-without, lookup-behind}
use Rattle.walter_rules.specs.Sessions.{Session, Sessions}
use Rattle.walter_rules.specs.Standing.{Standing}
use Rattle.walter_linked.proofs.Agreed.{Stands, at_site}
use Rattle.walter_refinement.proofs.Entries.{IsWith, IsWithout}
use Rattle.walter_refinement.proofs.Moves.{held_by, held, views}
use Rattle.walter_refinement.proofs.Spelled.{Key}

-- two clients are one or not, by their test too
client_cases : (a b : ℕ) → ((nat_eq a b ≡ true) × (a ≡ b)) ⊎ ((nat_eq a b ≡ false) × (a ≢ b))
client_cases a b = elim (nat_eq a b) as (λ t. nat_eq a b ≡ t → ((nat_eq a b ≡ true) × (a ≡ b))
    ⊎ ((nat_eq a b ≡ false) × (a ≢ b))) [
      | true ↦ λ is. inl (is, eqb-true a b is)
      | false ↦ λ is. inr (is, λ e. let t = eq-eqb a b e in absurd (let f : true ≡ false = sym t ∙ is in cc))
    ] refl

-- one session more, of a client that had none
pub opened_cases : (client c : ℕ) (new t : Session) (ss : Sessions) → lookup (nat_eq client) ss ≡ None
    → lookup (nat_eq c) (ss ++ (client, new) ∷ []) ≡ Some t
    → ((client ≡ c) × (new ≡ t)) ⊎ ((client ≢ c) × (lookup (nat_eq c) ss ≡ Some t))
opened_cases client c new t ss none has = elim (client_cases client c) [
  | inl same ↦ inl (same.1, same_Some new t (sym (lookup-behind client c new ss none ∙ rw same.0 refl) ∙ has))
  | inr other ↦ inr (other.1, sym (lookup-behind client c new ss none ∙ rw other.0 refl) ∙ has)
]

-- that of one client is another now
pub changed_cases : (client c : ℕ) (f : Session → Session) (s t : Session) (ss : Sessions)
    → lookup (nat_eq client) ss ≡ Some s → lookup (nat_eq c) (changed client f ss) ≡ Some t
    → ((client ≡ c) × (f s ≡ t)) ⊎ ((client ≢ c) × (lookup (nat_eq c) ss ≡ Some t))
changed_cases client c f s t ss is has = elim (client_cases client c) [
  | inl same ↦
      let now : lookup (nat_eq c) (changed client f ss) ≡ Some (f s) =
      lookup-changed client c f ss
      ∙ (rw same.0 (ap (λ o. option_map f o) (ap (λ k. lookup (nat_eq k) ss) (sym same.1) ∙ is))) in
      inl (same.1, same_Some (f s) t (sym now ∙ has))
  | inr other ↦ inr (other.1, sym (lookup-changed client c f ss ∙ rw other.0 refl) ∙ has)
]

-- that of one client is gone
pub without_cases : (client c : ℕ) (t : Session) (ss : Sessions) → lookup (nat_eq c) (without client ss) ≡ Some t
    → (client ≢ c) × (lookup (nat_eq c) ss ≡ Some t)
without_cases client c t ss has = elim (client_cases client c) [
  | inl same ↦ absurd (let none : ◌≡◌ {A = Option Session} None (Some t) =
      sym (lookup-without client c ss ∙ rw same.0 refl) ∙ has in cc)
  | inr other ↦ (other.1, sym (lookup-without client c ss ∙ rw other.0 refl) ∙ has)
]

module _ (W : Stands) (i : SiteId) (S : Standing) (who : ℕ) where
  abbrev pub key : Key
  key = record { site = i; who = who }

  -- what one site holds at a key is this now, and nothing else is new
  pub with_by : (mine : Session) → ((w : ℕ) (t : Session) → held_by w S ≡ Some t → ((who ≡ w) × (mine ≡ t))
      ⊎ ((who ≢ w) × (held_by w (W i) ≡ Some t)))
      → IsWith key mine (held W) (held (at_site i S W))
  with_by mine is d t has = elim (views W i S (held_by d.who) d.site) [
    | inl here ↦ elim (is d.who t (sym here.1 ∙ has)) [
      | inl now ↦ inl ((λ j. record { site = here.0 j; who = now.0 j }), now.1)
      | inr was ↦ inr (λ e. was.0 (ap (λ (k : Key). k.who) e), subst (λ k. held_by d.who (W k) ≡ Some t) here.0 was.1)
    ]
    | inr away ↦ inr (λ e. away.0 (ap (λ (k : Key). k.site) e), ap (λ z. held_by d.who z) (sym away.1) ∙ has)
  ]

  -- and it holds nothing there now, and nothing new
  pub without_by : ((w : ℕ) (t : Session) → held_by w S ≡ Some t → (who ≢ w) × (held_by w (W i) ≡ Some t))
      → IsWithout key (held W) (held (at_site i S W))
  without_by is d t has = elim (views W i S (held_by d.who) d.site) [
    | inl here ↦
        let was = is d.who t (sym here.1 ∙ has) in
        (λ e. was.0 (ap (λ (k : Key). k.who) e), subst (λ k. held_by d.who (W k) ≡ Some t) here.0 was.1)
    | inr away ↦ (λ e. away.0 (ap (λ (k : Key). k.site) e), ap (λ z. held_by d.who z) (sym away.1) ∙ has)
  ]
