-- A drawing behind some calls.
use Rattle.std.proofs.Common.{◌≡◌, ◌≤◌, ◌+◌, ℕ, zero, suc, List, [], ◌∷◌, ◌++◌, All, slice_index, refl, ap, ◌∙◌, arith}
use Rattle.std.proofs.lemmas.List.Elements.{All-set, All-head, All-tail}
use Rattle.walter_make.specs.Calls.{Drawing, caller, count, call_of, behind_call, calls_from}

abbrev pub behind_calls : ℕ → Drawing → Drawing
behind_calls zero d = d
behind_calls (suc n) d = behind_calls n (behind_call d)

behind_one_more : (n : ℕ) (d : Drawing) → behind_calls (suc n) d ≡ behind_call (behind_calls n d)
behind_one_more zero d = refl
behind_one_more (suc n) d = behind_one_more n (behind_call d)

one_more_from : (n : ℕ) (d : Drawing) → calls_from (suc n) d ≡ calls_from n d ++ call_of (behind_calls n d) ∷ []
one_more_from zero d = refl
one_more_from (suc n) d = ap (λ calls. call_of d ∷ calls) (one_more_from n (behind_call d))

next_is : (n : ℕ) → n + 1 ≡ suc n
next_is n = omega arith

pub behind_calls-more : (n : ℕ) (d : Drawing) → behind_calls (n + 1) d ≡ behind_call (behind_calls n d)
behind_calls-more n d = ap (λ m. behind_calls m d) (next_is n) ∙ behind_one_more n d

pub calls_from-more : (n : ℕ) (d : Drawing) → calls_from (n + 1) d ≡ calls_from n d ++ call_of (behind_calls n d) ∷ []
calls_from-more n d = ap (λ m. calls_from m d) (next_is n) ∙ one_more_from n d

index_few : (most : ℕ) (ns : List ℕ) (i : ℕ) → All (λ n. n ≤ most) ns → slice_index ns i ≤ most
index_few most [] i all = omega arith
index_few most (n ∷ ns) zero all = All-head (λ m. m ≤ most) n ns all
index_few most (n ∷ ns) (suc i) all = index_few most ns i (All-tail (λ m. m ≤ most) n ns all)

-- one call more counts one more
pub counts_few : (most : ℕ) (d : Drawing) → All (λ n. n ≤ most) d.counts
    → All (λ n. n ≤ most + 1) (behind_call d).counts
counts_few most d all =
    All-set (λ n. n ≤ most + 1) d.counts (caller d) (count d + 1)
    (omega (arith, index_few most d.counts (caller d) all))
    (λ i e within. omega (arith, all i e within))
