-- The clients of a scenario.
use Rattle.std.proofs.Common.{◌≡◌, ℕ, zero, suc, ◌+◌, ◌*◌, ◌<◌, ◌≤◌, Bool, true, false, cond, List, [], ◌∷◌, ◌++◌, length, take, drop, All, refl, sym, ap, ◌∙◌, subst, arith, zero-add, add-one, inl, inr}
use Rattle.std.specs.Prelude.{count_by, nat_eq}
use Rattle.std.specs.List.{HoldsAt}
use Rattle.std.proofs.lemmas.Bool.{eqb-true, eq-eqb, cases_lt}
use Rattle.std.proofs.lemmas.List.{length_push, get_or_push, take-append-drop}
use Rattle.std.proofs.lemmas.List.Elements.{All-push, All-take, All-head, All-tail}
use Rattle.std.proofs.lemmas.List.Sums.{sum_by-append}
use Rattle.hex.specs.Hex.{decode_of}
use Rattle.serde_json.specs.Data.{Data, null, string}
use Rattle.walter_scenario.specs.declared.place.Place.TheVariants.{Clients}
use Rattle.walter_scenario.specs.declared.scenario.Client.{Client}
use Rattle.walter_scenario.specs.Faults.{IsItem, HaveClients}
use Rattle.walter_scenario.specs.Fronts.{MayFollow}
use Rattle.walter_scenario.specs.Parts.{list, whole, SpellsClient, SpellClients, AreClients}
use Rattle.walter_scenario.proofs.Wrong.{first_wrong}

-- a value spells one client
same_client : (value : Data) (a b : Client) → SpellsClient value a → SpellsClient value b → a ≡ b
same_client value a b s t =
    let e : list (whole a.site.0 ∷ string s.hex ∷ []) ≡ list (whole b.site.0 ∷ string t.hex ∷ []) =
    sym s.spelled ∙ t.spelled in
    let site : a.site.0 ≡ b.site.0 = cc in
    let hex : s.hex ≡ t.hex = cc in
    let decoded = sym s.bytes ∙ ap (λ h. decode_of h) hex ∙ t.bytes in
    let bytes : a.bytes ≡ b.bytes = cc in
    λ i. record { site = record { 0 = site i }; bytes = bytes i }

-- and values one list of clients
pub same_clients : (values : List Data) (a b : List Client) → SpellClients values a → SpellClients values b → a ≡ b
same_clients [] [] [] s t = refl
same_clients [] [] (y ∷ b) s t = absurd t
same_clients [] (x ∷ a) b s t = absurd s
same_clients (v ∷ values) [] b s t = absurd s
same_clients (v ∷ values) (x ∷ a) [] s t = absurd t
same_clients (v ∷ values) (x ∷ a) (y ∷ b) s t =
    let here = same_client v x y s.0 t.0 in
    let there = same_clients values a b s.1 t.1 in
    λ i. here i ∷ there i

spelled_more : (values : List Data) (i : ℕ) (cs : List Client) (c : Client) → i < length values
    → SpellClients (take i values) cs
    → HoldsAt (λ d. SpellsClient d c) values i → SpellClients (take (suc i) values) (cs ++ c ∷ [])
spelled_more [] i cs c h s at = absurd (omega arith)
spelled_more (v ∷ values) zero [] c h s at = (at v, tt)
spelled_more (v ∷ values) zero (x ∷ cs) c h s at = absurd s
spelled_more (v ∷ values) (suc i) [] c h s at = absurd s
spelled_more (v ∷ values) (suc i) (x ∷ cs) c h s at = (s.0, spelled_more values i cs c (omega arith) s.1 at)

-- the last of the clients that values spell
last_client : (values : List Data) (i : ℕ) (cs ds : List Client) → i < length values → SpellClients (take i values) cs
    → SpellClients (take (suc i) values) ds
    → (c : Client) × (ds ≡ cs ++ c ∷ []) × HoldsAt (λ d. SpellsClient d c) values i
last_client [] i cs ds h s t = absurd (omega arith)
last_client (v ∷ values) i cs [] h s t = absurd t
last_client (v ∷ values) zero [] (y ∷ []) h s t = (y, refl, λ d. t.0)
last_client (v ∷ values) zero [] (y ∷ z ∷ ds) h s t = absurd t.1
last_client (v ∷ values) zero (x ∷ cs) (y ∷ ds) h s t = absurd s
last_client (v ∷ values) (suc i) [] (y ∷ ds) h s t = absurd s
last_client (v ∷ values) (suc i) (x ∷ cs) (y ∷ ds) h s t =
    let last = last_client values i cs ds (omega arith) s.1 t.1 in
    let here = same_client v y x t.0 s.0 in
    let there = last.1 in
    (last.0, (λ j. here j ∷ there j), last.2)

count_more : (p : Client → Bool) (cs : List Client) (c : Client)
    → count_by p (cs ++ c ∷ []) ≡ count_by p cs + cond (p c) 1 0
count_more p cs c =
    sum_by-append (λ x. cond (p x) 1 0) cs (c ∷ []) ∙ ap (λ n. count_by p cs + n) (zero-add (cond (p c) 1 0))

few_more : (cs : List Client) (c : Client) → ((site : ℕ) → count_by (λ other. nat_eq other.site.0 site) cs ≤ 1024)
    → count_by (λ other. nat_eq other.site.0 c.site.0) cs < 1024 → (site : ℕ)
    → count_by (λ other. nat_eq other.site.0 site) (cs ++ c ∷ []) ≤ 1024
few_more cs c few room site = by_test (nat_eq c.site.0 site) refl
  where
    by_test : (b : Bool) → nat_eq c.site.0 site ≡ b → count_by (λ other. nat_eq other.site.0 site) (cs ++ c ∷ []) ≤ 1024
    by_test true is =
        let same : c.site.0 ≡ site = eqb-true _ _ is in
        let there : count_by (λ other. nat_eq other.site.0 site) cs < 1024 =
        subst (λ s. count_by (λ other. nat_eq other.site.0 s) cs < 1024) same room in
        let more =
        count_more (λ other. nat_eq other.site.0 site) cs c
        ∙ ap (λ b. count_by (λ other. nat_eq other.site.0 site) cs + cond b 1 0) is in
        omega (arith, more, there)
    by_test false is =
        let before = few site in
        let more =
        count_more (λ other. nat_eq other.site.0 site) cs c
        ∙ ap (λ b. count_by (λ other. nat_eq other.site.0 site) cs + cond b 1 0) is in
        omega (arith, more, before)

-- one more client was read
pub client_more : (sites : ℕ) (values : List Data) (i : ℕ) (cs : List Client) (c : Client) → i < length values
    → AreClients sites (take i values) cs
    → MayFollow sites cs c → HoldsAt (λ d. SpellsClient d c) values i
    → AreClients sites (take (i + 1) values) (cs ++ c ∷ [])
client_more sites values i cs c h are may at = record {
  spelled = rw add-one (spelled_more values i cs c h are.spelled at);
  within = All-push (λ client. client.site.0 < sites) cs c are.within may.there;
  few = few_more cs c are.few may.room;
}

may_follow : (sites : ℕ) (values : List Data) (cs : List Client) (c : Client) → AreClients sites values (cs ++ c ∷ [])
    → MayFollow sites cs c
may_follow sites values cs c are =
    let last = get_or_push cs c c (length cs) refl in
    let within = are.within (length cs) c (omega (arith, length_push cs c)) in
    let all = are.few c.site.0 in
    let more = count_more (λ other. nat_eq other.site.0 c.site.0) cs c
    ∙ ap (λ b. count_by (λ other. nat_eq other.site.0 c.site.0) cs + cond b 1 0) (eq-eqb c.site.0 c.site.0 refl) in
    record { there = subst (λ (client : Client). client.site.0 < sites) last within; room = omega (arith, more, all) }

-- the value at the place spells no client that may stand there
pub client_wrong : (sites : ℕ) (value : Data) (values : List Data) (i : ℕ) (cs : List Client) → value ≡ list values
    → i < length values
    → AreClients sites (take i values) cs
    → HoldsAt (λ d. (c : Client) → MayFollow sites cs c → ¬ SpellsClient d c) values i
    → IsItem Clients (HaveClients sites) value (Clients i)
client_wrong sites value values i cs e h are none = record {
  index = i;
  named = refl;
  wrong = first_wrong (HaveClients sites) value values i e h (cs, are)
      (λ more.
      let last = last_client values i cs more.0 h are.spelled (rw add-one at more.1.spelled) in
      none null last.0 (may_follow sites (take (i + 1) values) cs last.0
      (subst (AreClients sites (take (i + 1) values)) last.1 more.1)) (last.2 null));
}

spelled_front : (n : ℕ) (values : List Data) (cs : List Client) → SpellClients values cs
    → SpellClients (take n values) (take n cs)
spelled_front zero values cs s = tt
spelled_front (suc n) [] [] s = tt
spelled_front (suc n) [] (c ∷ cs) s = absurd s
spelled_front (suc n) (v ∷ values) [] s = absurd s
spelled_front (suc n) (v ∷ values) (c ∷ cs) s = (s.0, spelled_front n values cs s.1)

pub clients_closed : (sites n : ℕ) (values : List Data) → HaveClients sites values → HaveClients sites (take n values)
clients_closed sites n values have = (
  take n have.0,
  record {
    spelled = spelled_front n values have.0 have.1.spelled;
    within = All-take (λ client. client.site.0 < sites) n have.0 have.1.within;
    few = λ site.
        let all = have.1.few site in
        let less = count_front (λ other. nat_eq other.site.0 site) n have.0 in
        omega (arith, all, less);
  },
)
  where
    count_front : (p : Client → Bool) (n : ℕ) (cs : List Client) → count_by p (take n cs) ≤ count_by p cs
    count_front p n cs =
        let both = sum_by-append (λ x. cond (p x) 1 0) (take n cs) (drop n cs) in
        let whole = ap (λ xs. count_by p xs) (take-append-drop n cs) in
        omega (arith, both, whole)

-- how many clients the sites below a number have
abbrev clients_below : ℕ → List Client → ℕ
clients_below zero cs = 0
clients_below (suc n) cs = clients_below n cs + count_by (λ other. nat_eq other.site.0 n) cs

count_first : (n : ℕ) (c : Client) (cs : List Client)
    → count_by (λ other. nat_eq other.site.0 n) (c ∷ cs)
    ≡ cond (nat_eq c.site.0 n) 1 0 + count_by (λ other. nat_eq other.site.0 n) cs
count_first n c cs =
    sum_by-append (λ x. cond (nat_eq x.site.0 n) 1 0) (c ∷ []) cs
    ∙ ap (λ m. m + count_by (λ other. nat_eq other.site.0 n) cs) (zero-add (cond (nat_eq c.site.0 n) 1 0))

no_fewer : (n : ℕ) (c : Client) (cs : List Client) → clients_below n cs ≤ clients_below n (c ∷ cs)
no_fewer zero c cs = omega arith
no_fewer (suc n) c cs = omega (arith, no_fewer n c cs, count_first n c cs)

counted_once : (n : ℕ) (c : Client) (cs : List Client) → c.site.0 < n → clients_below n cs < clients_below n (c ∷ cs)
counted_once zero c cs h = absurd (omega (arith, h))
counted_once (suc n) c cs h =
    elim (cases_lt c.site.0 n) [
      | inl less ↦ omega (arith, counted_once n c cs less, count_first n c cs)
      | inr least ↦
          let here : c.site.0 ≡ n = omega (arith, least, h) in
          let one = ap {B = ℕ} (λ b. cond b 1 0) (eq-eqb c.site.0 n here) in
          omega (arith, no_fewer n c cs, count_first n c cs, one)
    ]

each_counted : (n : ℕ) (cs : List Client) → All (λ client. client.site.0 < n) cs → length cs ≤ clients_below n cs
each_counted n [] all = omega arith
each_counted n (c ∷ cs) all =
    let here = counted_once n c cs (All-head (λ client. client.site.0 < n) c cs all) in
    let later = each_counted n cs (All-tail (λ client. client.site.0 < n) c cs all) in
    omega (arith, here, later)

few_below : (n : ℕ) (cs : List Client) → ((site : ℕ) → count_by (λ other. nat_eq other.site.0 site) cs ≤ 1024)
    → clients_below n cs ≤ n * 1024
few_below zero cs few = omega arith
few_below (suc n) cs few = omega (arith, few_below n cs few, few n)

-- all clients of all sites are few
pub all_sites : (sites : ℕ) (values : List Data) (cs : List Client) → AreClients sites values cs
    → length cs ≤ sites * 1024
all_sites sites values cs are = omega (arith, each_counted sites cs are.within, few_below sites cs are.few)
