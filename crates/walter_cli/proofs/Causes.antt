-- Why no site can begin with bytes: there is one cause at most, and none where they hold no record.
use Rattle.std.proofs.Common.{◌≡◌, ◌≢◌, ◌<◌, ◌^◌, ℕ, List, [], length, ap, sym, ◌∙◌, refl, subst, arith, inl, inr}
use Rattle.walter_checkpoint.proofs.Contents.{one_book}
use Rattle.walter_checkpoint.proofs.Damages.{content_or_foreign, content_or_damaged, foreign_or_damaged, one_damaged}
use Rattle.walter_checkpoint.specs.Areas.{Shape, HasContent, IsDamaged, IsForeign}
use Rattle.walter_checkpoint.specs.Faults.{IsDamagedBook}
use Rattle.walter_engine.specs.Begins.{HasNoRecord}
use Rattle.walter_engine.specs.Contents.{HasBook}
use Rattle.walter_cli.specs.declared.ended.JournalCause.{JournalCause}
use Rattle.walter_cli.specs.declared.ended.JournalCause.TheVariants.{Foreign, Damaged, Used}
use Rattle.walter_cli.specs.Racks.{HasCause}

-- a book, whole or damaged, has bytes
content_some : (shape : Shape) (bodies : List (List ℕ)) → HasContent shape [] bodies → ⊥
content_some shape bodies (inl one) = omega (arith, ap length one.is)
content_some shape bodies (inr two) = omega (arith, ap length two.is)

damage_some : (shape : Shape) (at claimed : ℕ) → IsDamaged shape [] at claimed → ⊥
damage_some shape at claimed (inl one) = omega (arith, ap length one.is)
damage_some shape at claimed (inr two) = omega (arith, ap length two.is)

cause_of_none : (shape : Shape) (cause : JournalCause) (place : ℕ) → HasCause shape cause place [] → ⊥
cause_of_none shape Foreign place why = why.2 refl
cause_of_none shape (Damaged claimed) place why = damage_some _ place claimed why.damaged
cause_of_none shape Used place why = content_some _ why.1.0 why.1.1.content

pub none_has_cause : (shape : Shape) (cause : JournalCause) (place : ℕ) (bytes : List ℕ) → HasCause shape cause place bytes
    → bytes ≡ [] → ⊥
none_has_cause shape cause place bytes why none =
    cause_of_none shape cause place (subst (λ (b : List ℕ). HasCause shape cause place b) none why)

-- by a shape whose capacity is that of a disk
module _ (shape : Shape) (small : shape.capacity < 2 ^ 64) where
  -- whole books and damaged ones, by the laws of books
  book_or_foreign : (bytes : List ℕ) (bodies : List (List ℕ)) → HasBook shape bytes bodies
      → IsForeign shape.capacity shape.sites bytes → ⊥
  book_or_foreign bytes bodies book foreign = content_or_foreign _ bytes bodies book.places book.content foreign

  book_or_damaged : (bytes : List ℕ) (bodies : List (List ℕ)) (at claimed : ℕ) → HasBook shape bytes bodies
      → IsDamagedBook shape.capacity shape.sites bytes at claimed → ⊥
  book_or_damaged bytes bodies at claimed book damaged =
      content_or_damaged shape.capacity shape.sites book.header bytes bodies at claimed small book.content damaged

  one_of_books : (bytes : List ℕ) (a b : List (List ℕ)) → HasBook shape bytes a → HasBook shape bytes b → a ≡ b
  one_of_books bytes a b one other =
      (one_book shape.capacity shape.sites one.header other.header bytes a b small one.content other.content).1

  content_has_none : (cause : JournalCause) (place : ℕ) (bytes : List ℕ) → HasCause shape cause place bytes
      → HasBook shape bytes [] → ⊥
  content_has_none Foreign place bytes why book = book_or_foreign bytes [] book why.1
  content_has_none (Damaged claimed) place bytes why book = book_or_damaged bytes [] place claimed book why
  content_has_none Used place bytes why book = why.1.2 (one_of_books bytes why.1.0 [] why.1.1 book)

  pub cause_has_record : (cause : JournalCause) (place : ℕ) (bytes : List ℕ) → HasCause shape cause place bytes
      → HasNoRecord shape bytes → ⊥
  cause_has_record cause place bytes why (inl none) = none_has_cause shape cause place bytes why none
  cause_has_record cause place bytes why (inr content) = content_has_none cause place bytes why content

  pub one_cause : (a b : JournalCause) (p q : ℕ) (bytes : List ℕ) → HasCause shape a p bytes → HasCause shape b q bytes
      → (a ≡ b) × (p ≡ q)
  one_cause Foreign Foreign p q bytes x y = (refl, x.0 ∙ sym y.0)
  one_cause Foreign (Damaged n) p q bytes x y = absurd (foreign_or_damaged shape.capacity shape.sites bytes q n x.1 y)
  one_cause Foreign Used p q bytes x y = absurd (book_or_foreign bytes y.1.0 y.1.1 x.1)
  one_cause (Damaged m) Foreign p q bytes x y = absurd (foreign_or_damaged shape.capacity shape.sites bytes p m y.1 x)
  one_cause (Damaged m) (Damaged n) p q bytes x y =
      let same = one_damaged shape.capacity shape.sites bytes p m q n small x y in (ap (λ k. Damaged k) same.1, same.0)
  one_cause (Damaged m) Used p q bytes x y = absurd (book_or_damaged bytes y.1.0 p m y.1.1 x)
  one_cause Used Foreign p q bytes x y = absurd (book_or_foreign bytes x.1.0 x.1.1 y.1)
  one_cause Used (Damaged n) p q bytes x y = absurd (book_or_damaged bytes x.1.0 q n x.1.1 y)
  one_cause Used Used p q bytes x y = (refl, x.0 ∙ sym y.0)
