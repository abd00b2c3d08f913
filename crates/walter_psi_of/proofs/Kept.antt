-- What stays of sessions where one comes, where those of a client go, and where a site loses all of its own.
use Rattle.std.proofs.Common.{◌≡◌, ℕ, Bool, true, false, cond, not, nat_eq, ◌&&◌, List, [], ◌∷◌, map, filter, Some, refl, ap, sym, ◌∙◌, option_map}
use Rattle.std.specs.List.{find}
use Rattle.walter_base.specs.declared.names.SiteId.{SiteId}
use Rattle.walter_base.specs.declared.names.Tid.{Tid}
use Rattle.walter_base.specs.ByClient.{of_client, without}
use Rattle.walter_base.specs.Names.{same_site}
use Rattle.walter_base.proofs.NameTests.{same_site-true}
use Rattle.walter_psi_of.specs.declared.account.Session.{Session as SessionAt}
use Rattle.walter_psi_of.specs.Accounts.{is_at, is_of, by_client, sessions_at}

-- of sessions that stay or go by their client and transaction alone
sessions_left : (i : SiteId) (p : SessionAt → Bool) (q : ℕ × Tid → Bool) (ss : List SessionAt)
    → ((s : SessionAt) → is_at i s ≡ true → p s ≡ q (by_client s))
    → sessions_at i (filter p ss) ≡ filter q (sessions_at i ss)
sessions_left i p q [] agree = refl
sessions_left i p q (s ∷ ss) agree = by (sessions_left i p q ss agree) (p s) refl (is_at i s) refl
  where
    by : sessions_at i (filter p ss) ≡ filter q (sessions_at i ss)
        → (stays : Bool) → p s ≡ stays → (here : Bool) → is_at i s ≡ here
        → sessions_at i (cond stays (s ∷ filter p ss) (filter p ss))
        ≡ filter q (map by_client (cond here (s ∷ filter (is_at i) ss) (filter (is_at i) ss)))
    by rest true stays true here =
        ap (λ b. map by_client (cond b (s ∷ filter (is_at i) (filter p ss)) (filter (is_at i) (filter p ss)))) here
        ∙ (ap (λ l. by_client s ∷ l) rest
        ∙ sym (ap (λ b. cond b (by_client s ∷ filter q (sessions_at i ss)) (filter q (sessions_at i ss)))
        (sym (agree s here) ∙ stays)))
    by rest true stays false here =
        ap (λ b. map by_client (cond b (s ∷ filter (is_at i) (filter p ss)) (filter (is_at i) (filter p ss)))) here
        ∙ rest
    by rest false goes true here =
        rest
        ∙ sym (ap (λ b. cond b (by_client s ∷ filter q (sessions_at i ss)) (filter q (sessions_at i ss)))
        (sym (agree s here) ∙ goes))
    by rest false goes false here = rest

all_stay : {X : Type 0} (xs : List X) → filter (λ x. true) xs ≡ xs
all_stay [] = refl
all_stay (x ∷ xs) = ap (λ l. x ∷ l) (all_stay xs)

none_stays : {X : Type 0} (xs : List X) → filter (λ x. false) xs ≡ []
none_stays [] = refl
none_stays (x ∷ xs) = none_stays xs

-- what is at a site isn't at another
elsewhere : (i other at : SiteId) → same_site i other ≡ false → same_site at other ≡ true → same_site at i ≡ false
elsewhere i other at apart there = elim (same_site at i) as (λ b. same_site at i ≡ b → b ≡ false) [
  | true ↦ λ here.
      let same : same_site i other ≡ true = ap (λ k. same_site k other) (sym (same_site-true at i here)) ∙ there in
      absurd (cc)
  | false ↦ λ away. refl
] refl

-- the sessions of a client at a site go
pub ended_here : (i : SiteId) (client : ℕ) (ss : List SessionAt)
    → sessions_at i (filter (λ s. not (is_of i client s)) ss) ≡ without client (sessions_at i ss)
ended_here i client ss =
    sessions_left i (λ s. not (is_of i client s)) (λ e. not (nat_eq client e.0)) ss
    (λ s here. ap (λ b. not (b && nat_eq client s.client)) here)

pub ended_there : (i other : SiteId) (client : ℕ) (ss : List SessionAt) → same_site i other ≡ false
    → sessions_at other (filter (λ s. not (is_of i client s)) ss) ≡ sessions_at other ss
ended_there i other client ss apart =
    sessions_left other (λ s. not (is_of i client s)) (λ e. true) ss
    (λ s there. ap (λ b. not (b && nat_eq client s.client)) (elsewhere i other s.site apart there))
    ∙ all_stay (sessions_at other ss)

-- all of a site go
pub lost_here : (i : SiteId) (ss : List SessionAt) → sessions_at i (filter (λ s. not (is_at i s)) ss) ≡ []
lost_here i ss =
    sessions_left i (λ s. not (is_at i s)) (λ e. false) ss (λ s here. ap not here) ∙ none_stays (sessions_at i ss)

pub lost_there : (i other : SiteId) (ss : List SessionAt) → same_site i other ≡ false
    → sessions_at other (filter (λ s. not (is_at i s)) ss) ≡ sessions_at other ss
lost_there i other ss apart =
    sessions_left other (λ s. not (is_at i s)) (λ e. true) ss (λ s there. ap not (elsewhere i other s.site apart there))
    ∙ all_stay (sessions_at other ss)

-- the transaction of a client is that of its first session
pub session_found : (i : SiteId) (client : ℕ) (ss : List SessionAt)
    → option_map (λ s. s.tid) (find (is_of i client) ss) ≡ of_client client (sessions_at i ss)
session_found i client [] = refl
session_found i client (s ∷ ss) = by (is_at i s) (session_found i client ss)
  where
    by : (here : Bool) → option_map (λ o. o.tid) (find (is_of i client) ss) ≡ of_client client (sessions_at i ss)
        → option_map (λ o. o.tid) (cond (here && nat_eq client s.client) (Some s) (find (is_of i client) ss))
        ≡ of_client client (map by_client (cond here (s ∷ filter (is_at i) ss) (filter (is_at i) ss)))
    by true rest =
        elim (nat_eq client s.client) as (λ b. option_map (λ o. o.tid) (cond b (Some s) (find (is_of i client) ss))
        ≡ cond b (Some s.tid) (of_client client (sessions_at i ss))) [ true ↦ refl | false ↦ rest ]
    by false rest = rest
