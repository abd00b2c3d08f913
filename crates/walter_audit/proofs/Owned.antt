-- Own commits by their numbers, and what is asked of records for the reasons.
use Rattle.std.proofs.Common.{◌≡◌, ℕ, zero, suc, List, [], ◌∷◌, ◌++◌, length, take, slice_get, Some, None, refl, ap, sym, ◌∙◌, arith, inl, inr}
use Rattle.std.specs.Prelude.{Option, flat_map}
use Rattle.std.proofs.lemmas.Option.{same_Some}
use Rattle.std.proofs.lemmas.Bool.{cases_order}
use Rattle.walter_base.specs.declared.message.Record.{Record}
use Rattle.walter_base.specs.declared.message.Record.TheVariants.{Own, Got, Seen}
use Rattle.walter_base.specs.declared.names.SiteId.{SiteId}
use Rattle.walter_base.specs.declared.names.Tid.{Tid}
use Rattle.walter_base.specs.declared.transaction.Tx.{Tx}
use Rattle.walter_audit.specs.declared.finding.Named.{Named}
use Rattle.walter_audit.specs.Firsts.{IsSo, IsSoPair}
use Rattle.walter_audit.specs.Journals.{Journals, HasOwn, own_of, made_in, AreNumbered, AreAtHome}
use Rattle.walter_audit.specs.Questions.{Lacks, IsOther, DoDiffer, AreOneTwice, AreApart, DoConflictUnseen}
use Rattle.walter_audit.specs.Reasons.{IsMissing, IsDifferent, AreTwice, AreUnordered}

-- how many own commits a record is
abbrev pub owned_one : Record → ℕ
owned_one (Own seq tx) = 1
owned_one rec = 0

-- the own commit at a place is the one behind those before it
pub own_at_place : (records : List Record) (index seq : ℕ) (tx : Tx) → slice_get records index ≡ Some (Own seq tx)
    → slice_get (flat_map own_of records) (length (flat_map own_of (take index records))) ≡ Some tx
own_at_place [] index seq tx at = absurd cc
own_at_place (rec ∷ records) zero seq tx at = ap (λ z. slice_get (own_of z ++ flat_map own_of records) 0)
    (same_Some rec (Own seq tx) at)
own_at_place (rec ∷ records) (suc index) seq tx at = by rec (own_at_place records index seq tx at)
  where
    by : (r : Record) → slice_get (flat_map own_of records) (length (flat_map own_of (take index records))) ≡ Some tx
        → slice_get (own_of r ++ flat_map own_of records) (length (own_of r ++ flat_map own_of (take index records))) ≡ Some tx
    by (Own m z) rest = rest
    by r rest = rest

-- each of them stands at a place
abbrev pub StandsOwn : List Record → ℕ → Tx → Type 0
StandsOwn records place tx = (index seq : ℕ) × (slice_get records index ≡ Some (Own seq tx))
    × (length (flat_map own_of (take index records)) ≡ place)

place_behind : (r : Record) (records : List Record) (tx : Tx)
    → ((n : ℕ) → slice_get (flat_map own_of records) n ≡ Some tx → StandsOwn records n tx)
    → (n : ℕ) → slice_get (own_of r ++ flat_map own_of records) n ≡ Some tx → StandsOwn (r ∷ records) n tx
place_behind (Own m z) records tx rest zero e = (0, m, (λ t. Some (Own m (same_Some z tx e t))), refl)
place_behind (Own m z) records tx rest (suc n) e = let p = rest n e in (suc p.0, p.1, p.2, (let q = p.3 in omega (arith, q)))
place_behind r records tx rest n e = let p = rest n e in (suc p.0, p.1, p.2, p.3)

pub place_of_own : (records : List Record) (place : ℕ) (tx : Tx) → slice_get (flat_map own_of records) place ≡ Some tx
    → StandsOwn records place tx
place_of_own [] place tx at = absurd cc
place_of_own (rec ∷ records) place tx at = place_behind rec records tx (λ n e. place_of_own records n tx e) place at

module _ (J : Journals) (numbered : AreNumbered J) where
  pub made_there : (i : SiteId) (index seq : ℕ) (tx : Tx) → slice_get (J i) index ≡ Some (Own seq tx)
      → made_in (J i) seq ≡ Some tx
  made_there i index seq tx at =
      let n = length (flat_map own_of (take index (J i))) in
      let e : seq ≡ suc n = (let number = numbered i index seq tx at in omega (arith, number)) in
      ap (λ m. made_in (J i) m) e ∙ own_at_place (J i) index seq tx at

  pub there_made : (i : SiteId) (seq : ℕ) (tx : Tx) → made_in (J i) seq ≡ Some tx
      → (index : ℕ) × (slice_get (J i) index ≡ Some (Own seq tx))
  there_made i zero tx at = absurd cc
  there_made i (suc place) tx at =
      let p = place_of_own (J i) place tx at in
      let number = numbered i p.0 p.1 tx p.2 in
      let sums = p.3 in
      let e : p.1 ≡ suc place = omega (arith, number, sums) in
      (p.0, p.2 ∙ ap (λ m. Some (Own m tx)) e)

  -- no own commit has the number exactly where none was made
  unmade : (i : SiteId) (seq : ℕ) → ¬ HasOwn J i seq → made_in (J i) seq ≡ None
  unmade i seq none = by (made_in (J i) seq) refl
    where
      by : (o : Option Tx) → made_in (J i) seq ≡ o → o ≡ None
      by None e = refl
      by (Some tx) e = absurd (let p = there_made i seq tx e in none (p.0, tx, p.1))

  pub none_made : (i : SiteId) (seq : ℕ) → made_in (J i) seq ≡ None → ¬ HasOwn J i seq
  none_made i seq none has = (let e : ◌≡◌ {A = Option Tx} None (Some has.1) = sym none ∙ made_there i has.0 seq has.1 has.2 in cc)

  pub is_missing : (a : Named) → IsSo (λ at rec. Lacks J rec) J a → IsMissing J a
  is_missing a (Got j m x, at, lacks) = record { from = j; seq = m; told = inl (x, at); unmade = none_made j m lacks }
  is_missing a (Seen j m, at, lacks) = record { from = j; seq = m; told = inr at; unmade = none_made j m lacks }
  is_missing a (rec, at, lacks) = absurd lacks

  pub missing_so : (a : Named) → IsMissing J a → IsSo (λ at rec. Lacks J rec) J a
  missing_so a m = elim m.told [
    | inl got ↦ (Got m.from m.seq got.0, got.1, unmade m.from m.seq m.unmade)
    | inr seen ↦ (Seen m.from m.seq, seen, unmade m.from m.seq m.unmade)
  ]

  -- what differs is found where it was received
  pub different_so : (a b : Named) → IsDifferent J a b → IsSo (λ at rec. IsOther J rec) J a
  different_so a b d = (Got b.site d.seq d.received, d.here, (d.made, made_there b.site b.index d.seq d.made d.there, d.apart))

pub is_different : (J : Journals) (a b : Named) → IsSoPair DoDiffer J a b → IsDifferent J a b
is_different J a b (Got j m x, at, (Own n y, there, differ)) = record {
  seq = n;
  received = x;
  made = y;
  here = at ∙ (λ t. Some (Got (differ.0 t) (differ.1 t) x));
  there = there;
  apart = differ.2;
}
is_different J a b (Got j m x, at, (rec, there, differ)) = absurd differ
is_different J a b (rec, at, (other, there, differ)) = absurd differ

pub different_pair : (J : Journals) (a b : Named) → IsDifferent J a b → IsSoPair DoDiffer J a b
different_pair J a b d = (Got b.site d.seq d.received, d.here, (Own d.seq d.made, d.there, (refl, refl, d.apart)))

pub is_twice : (J : Journals) (a b : Named) → IsSoPair AreOneTwice J a b → AreTwice J a b
is_twice J a b (Own m x, at, (Own n y, there, twice)) = record {
  owns = record { seq = m; other = n; x = x; y = y; first = at; second = there; apart = twice.0 };
  same = twice.1;
}
is_twice J a b (Own m x, at, (rec, there, twice)) = absurd twice
is_twice J a b (rec, at, (other, there, twice)) = absurd twice

pub twice_pair : (J : Journals) (a b : Named) → AreTwice J a b → IsSoPair AreOneTwice J a b
twice_pair J a b t = (Own t.owns.seq t.owns.x, t.owns.first, (Own t.owns.other t.owns.y, t.owns.second, (t.owns.apart, t.same)))

pub is_unordered : (J : Journals) (a b : Named) → IsSoPair DoConflictUnseen J a b → AreUnordered J a b
is_unordered J a b (Own m x, at, (Own n y, there, c)) = record {
  owns = record { seq = m; other = n; x = x; y = y; first = at; second = there; apart = c.0 };
  conflict = c.1;
  first_unseen = c.2;
  second_unseen = c.3;
}
is_unordered J a b (Own m x, at, (rec, there, c)) = absurd c
is_unordered J a b (rec, at, (other, there, c)) = absurd c

pub unordered_pair : (J : Journals) (a b : Named) → AreUnordered J a b → IsSoPair DoConflictUnseen J a b
unordered_pair J a b u = (
  Own u.owns.seq u.owns.x,
  u.owns.first,
  (Own u.owns.other u.owns.y, u.owns.second, (u.owns.apart, u.conflict, u.first_unseen, u.second_unseen)),
)

-- where the own commits of each site are of different transactions, and are of their site, none stands twice
pub none_twice_apart : (J : Journals) → AreAtHome J → ((k : SiteId) → AreApart (J k)) → (a b : Named) → ¬ AreTwice J a b
none_twice_apart J home apart a b t =
    let o = t.owns in
    let site : a.site ≡ b.site = sym (home a.site a.index o.seq o.x o.first) ∙ (ap (λ (z : Tid). z.site) t.same
    ∙ home b.site b.index o.other o.y o.second) in
    let there : slice_get (J a.site) b.index ≡ Some (Own o.other o.y) = ap (λ k. slice_get (J k) b.index) site ∙ o.second in
    elim (cases_order a.index b.index) [
      | inl same ↦ o.apart (λ z. record { site = site z; index = same z })
      | inr rest ↦ elim rest [
        | inl less ↦ apart a.site a.index b.index o.seq o.other o.x o.y less o.first there t.same
        | inr more ↦ apart a.site b.index a.index o.other o.seq o.y o.x more there o.first (sym t.same)
      ]
    ]
