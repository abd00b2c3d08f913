-- Lists whose elements became others, by a relation that is so of each with itself and goes on.
use Rattle.std.proofs.Common.{◌≡◌, ℕ, List, length, map, refl, ap, sym, ◌∙◌, subst, arith, inl, inr}
use Rattle.std.specs.Prelude.{slice_index_or}
use Rattle.std.proofs.lemmas.Bool.{cases_lt}
use Rattle.std.proofs.lemmas.Option.{slice_get_within}
use Rattle.walter_cluster.specs.Benches.{EachBecomes}
use Rattle.walter_cluster.proofs.Changes.{there_is, one_there, field_at, field_past}

module _ {X : Type 0} (R : (old new : X) → Type 0) where
  pub become_self : ((x : X) → R x x) → (xs : List X) → EachBecomes R xs xs
  become_self self xs = record {
    long = refl;
    each = λ i a b at is. subst (λ (c : X). R a c) (one_there xs i a b at is) (self a);
  }

  pub become_on : ((a b c : X) → R a b → R b c → R a c) → (old mid new : List X) → EachBecomes R old mid → EachBecomes R mid new
      → EachBecomes R old new
  become_on on old mid new first second = record {
    long = second.long ∙ first.long;
    each = λ i a c at is.
        let within = slice_get_within old i a at in
        let l = first.long in
        let m = there_is mid i (omega (arith, within, l)) in
        on a m.0 c (first.each i a m.0 at m.1) (second.each i m.0 c m.1 is);
  }

  -- what each has as before is so everywhere
  pub become_same : (old new : List X) → EachBecomes R old new → {Y Z : Type 0} (f : X → Y) (h : Y → Z) (e : Y)
      → ((a b : X) → R a b → h (f b) ≡ h (f a)) → (n : ℕ)
      → h (slice_index_or (map f new) n e) ≡ h (slice_index_or (map f old) n e)
  become_same old new all f h e same n = elim (cases_lt n (length old)) [
    | inl within ↦
        let l = all.long in
        let a = there_is old n within in
        let b = there_is new n (omega (arith, within, l)) in
        ap h (field_at f new n b.0 e b.1) ∙ (same a.0 b.0 (all.each n a.0 b.0 a.1 b.1) ∙ ap h (sym (field_at f old n a.0 e a.1)))
    | inr past ↦
        let l = all.long in
        ap h (field_past f new n e (omega (arith, past, l))) ∙ ap h (sym (field_past f old n e past))
  ]
