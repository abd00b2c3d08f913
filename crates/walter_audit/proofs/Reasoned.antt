-- What is found of journals stands of the contents that they were read of, since these are read in one way.
use Rattle.std.proofs.Common.{◌≡◌, ◌+◌, ◌≤◌, ℕ, zero, suc, take, refl, ap, sym, ◌∙◌, subst, arith, inl, inr}
use Rattle.std.proofs.lemmas.Bool.{cases_order}
use Rattle.walter_base.specs.declared.catalog.Catalog.{Catalog}
use Rattle.walter_base.specs.declared.names.SiteId.{SiteId}
use Rattle.walter_agreement.proofs.Cases.{low_or}
use Rattle.walter_audit.specs.declared.finding.Named.{Named}
use Rattle.walter_audit.specs.declared.finding.Reason.{Reason}
use Rattle.walter_audit.specs.declared.finding.Reason.TheVariants.{Unreadable, Missing, Differs, Twice, Start, Conflict, Cycle}
use Rattle.walter_audit.specs.Contents.{Contents, AreAllRead, Stands}
use Rattle.walter_audit.specs.Findings.{rank, NoneBefore}
use Rattle.walter_audit.specs.Firsts.{IsEarlier, IsFirst, IsFirstPair}
use Rattle.walter_audit.specs.Journals.{Journals}
use Rattle.walter_audit.specs.Reading.{IsUnreadableAt}
use Rattle.walter_audit.proofs.Readings.{one_reading, front_read}

pub not_itself : (a : Named) → ¬ IsEarlier a a
not_itself a e = elim e [
  | inl low ↦ omega (arith, low)
  | inr same ↦ let low = same.1 in omega (arith, low)
]

-- of one record, the pair is of it twice
single : (P : Named → Type 0) (a : Named) → IsFirst P a → IsFirstPair (λ c d. (c ≡ d) × P c) a a
single P a first = record {
  so = (refl, first.so);
  least = λ c d p before. elim before [
    | inl earlier ↦ first.least c p.1 earlier
    | inr same ↦ first.least c p.1 (subst (λ z. IsEarlier z a) (sym p.0) same.1)
  ];
}

module _ (catalog : Catalog) (contents : Contents) (J : Journals) (read : AreAllRead catalog contents J) where
  -- other journals that are read are these
  pub one_journals : (H : Journals) → AreAllRead catalog contents H → H ≡ J
  one_journals H other = λ t i. each i t
    where
      each : (i : SiteId) → H i ≡ J i
      each i = elim (low_or i.0 catalog.sites) [
        | inl low ↦ one_reading catalog (contents i) (H i) (J i) (other.each i low).spelled (read.each i low).spelled
        | inr out ↦ other.no_others i out ∙ sym (read.no_others i out)
      ]

  module _ (P : Journals → Named → Named → Type 0) where
    abbrev Is : Named → Named → Type 0
    Is c d = (H : Journals) × AreAllRead catalog contents H × P H c d

    here : (c d : Named) → Is c d → P J c d
    here c d s = subst (λ H. P H c d) (one_journals s.0 s.1) s.2

    pub pair_stands : (a b : Named) → IsFirstPair (P J) a b → IsFirstPair Is a b
    pair_stands a b first = record { so = (J, read, first.so); least = λ c d s. first.least c d (here c d s) }

    pub no_pair_stands : ((a b : Named) → ¬ P J a b) → (a b : Named) → ¬ Is a b
    no_pair_stands none a b s = none a b (here a b s)

  module _ (P : Journals → Named → Type 0) where
    abbrev IsOf : Named → Type 0
    IsOf c = (H : Journals) × AreAllRead catalog contents H × P H c

    there : (c : Named) → IsOf c → P J c
    there c s = subst (λ H. P H c) (one_journals s.0 s.1) s.2

    pub one_stands : (a : Named) → IsFirst (P J) a → IsFirstPair (λ c d. (c ≡ d) × IsOf c) a a
    one_stands a first = single IsOf a
        (record { so = (J, read, first.so); least = λ c s. first.least c (there c s) })

    pub none_stands : ((a : Named) → ¬ P J a) → (a b : Named) → ¬ ((a ≡ b) × IsOf a)
    none_stands none a b s = none a (there a s.1)

  -- all can be read
  pub all_readable : (a b : Named) → ¬ Stands catalog contents Unreadable a b
  all_readable a b s =
      let u = s.2 in
      u.wrong (take (a.index + 1) (J a.site))
      (front_read catalog a.site (contents a.site) (J a.site) (read.each a.site s.1) (a.index + 1))

pub unreadable_stands : (catalog : Catalog) (contents : Contents) (a : Named) → IsFirst (IsUnreadableAt catalog contents) a
    → IsFirstPair (Stands catalog contents Unreadable) a a
unreadable_stands catalog contents a first =
    let one = single (IsUnreadableAt catalog contents) a first in
    record { so = (refl, first.so.0, first.so.1); least = λ c d s before. one.least c d (s.0, (s.1, s.2)) before }

-- reasons by their rank
abbrev ranked : ℕ → Reason
ranked zero = Unreadable
ranked (suc zero) = Missing
ranked (suc (suc zero)) = Differs
ranked (suc (suc (suc zero))) = Twice
ranked (suc (suc (suc (suc zero)))) = Start
ranked (suc (suc (suc (suc (suc zero))))) = Conflict
ranked (suc (suc (suc (suc (suc (suc n)))))) = Cycle

of_rank : (r : Reason) → ranked (rank r) ≡ r
of_rank Unreadable = refl
of_rank Missing = refl
of_rank Differs = refl
of_rank Twice = refl
of_rank Start = refl
of_rank Conflict = refl
of_rank Cycle = refl

module _ (catalog : Catalog) (contents : Contents) where
  pub none_first : NoneBefore catalog contents Unreadable
  none_first other c d low = absurd (omega (arith, low))

  -- where none before a reason stands, and that one doesn't, none before the next stands
  pub none_next : (reason next : Reason) → rank next ≡ rank reason + 1 → NoneBefore catalog contents reason
      → ((a b : Named) → ¬ Stands catalog contents reason a b) → NoneBefore catalog contents next
  none_next reason next is before none other c d low = elim (cases_order (rank other) (rank reason)) [
    | inl same ↦
        let one : other ≡ reason = sym (of_rank other) ∙ (ap ranked same ∙ of_rank reason) in
        λ s. none c d (subst (λ r. Stands catalog contents r c d) one s)
    | inr apart ↦ elim apart [
      | inl less ↦ before other c d less
      | inr more ↦ absurd (omega (arith, is, low, more))
    ]
  ]

  -- where none before the last stands, and that one doesn't, none does
  pub none_at_all : NoneBefore catalog contents Cycle → ((a b : Named) → ¬ Stands catalog contents Cycle a b)
      → (reason : Reason) (a b : Named) → ¬ Stands catalog contents reason a b
  none_at_all before none reason a b = elim (cases_order (rank reason) 6) [
    | inl same ↦
        let one : reason ≡ Cycle = sym (of_rank reason) ∙ ap ranked same in
        λ s. none a b (subst (λ r. Stands catalog contents r a b) one s)
    | inr apart ↦ elim apart [
      | inl less ↦ before reason a b less
      | inr more ↦ absurd (let most = at_most reason in omega (arith, most, more))
    ]
  ]
    where
      at_most : (r : Reason) → rank r ≤ 6
      at_most Unreadable = omega arith
      at_most Missing = omega arith
      at_most Differs = omega arith
      at_most Twice = omega arith
      at_most Start = omega arith
      at_most Conflict = omega arith
      at_most Cycle = omega arith
