-- The vector of what is committed at a site has the count of each site.
use Rattle.std.proofs.Common.{◌≡◌, ℕ, zero, suc, ◌+◌, ◌<◌, ◌≤◌, List, [], ◌∷◌, map, refl, ap, sym, ◌∙◌, arith, inl, inr}
use Rattle.std.specs.Prelude.{slice_index}
use Rattle.std.specs.List.{range_with_len}
use Rattle.walter_base.specs.declared.catalog.Catalog.{Catalog}
use Rattle.walter_base.specs.declared.names.SiteId.{SiteId}
use Rattle.walter_base.specs.Vectors.{entry_at}
use Rattle.walter_rules.specs.Knowledge.{vector_of, site_at}
use Rattle.walter_rules.specs.Standing.{Standing}
use Rattle.walter_agreement.proofs.Cases.{low_or}
use Rattle.walter_alone.proofs.Alone.{IsAlone}

-- a number made of each of a range
made_at : (f : ℕ → ℕ) (from n k : ℕ) → k < n → slice_index (map f (range_with_len from n)) k ≡ f (from + k)
made_at f from zero k below = absurd (omega (arith, below))
made_at f from (suc n) zero below = ap f (omega arith)
made_at f from (suc n) (suc k) below = made_at f (from + 1) n k (omega (arith, below)) ∙ ap f (omega arith)

made_past : (f : ℕ → ℕ) (from n k : ℕ) → n ≤ k → slice_index (map f (range_with_len from n)) k ≡ 0
made_past f from zero k past = refl
made_past f from (suc n) zero past = absurd (omega (arith, past))
made_past f from (suc n) (suc k) past = made_past f (from + 1) n k (omega (arith, past))

twice : {X Y Z : Type 0} (g : Y → Z) (f : X → Y) (xs : List X) → map g (map f xs) ≡ map (λ x. g (f x)) xs
twice g f [] = refl
twice g f (x ∷ xs) = ap (λ ys. g (f x) ∷ ys) (twice g f xs)

pub vector_is : (catalog : Catalog) (i : SiteId) (S : Standing) → IsAlone catalog i S → i.0 < catalog.sites
    → (k : SiteId) → entry_at (vector_of catalog S.knows) k ≡ S.knows.committed k
vector_is catalog i S A below k =
    let all = ap (λ v. slice_index v k.0) (twice S.knows.committed site_at (range_with_len 0 catalog.sites)) in
    elim (low_or k.0 catalog.sites) [
      | inl low ↦ all ∙ (made_at (λ n. S.knows.committed (site_at n)) 0 catalog.sites k.0 low
          ∙ ap (λ n. S.knows.committed (site_at n)) (omega arith))
      | inr past ↦ all ∙ (made_past (λ n. S.knows.committed (site_at n)) 0 catalog.sites k.0 past
          ∙ sym (A.outside k past).1)
    ]
