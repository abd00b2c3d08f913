-- A disk of no bytes while a journal is begun on it.
use Rattle.std.proofs.Common.{◌≡◌, ◌≤◌, inl, inr, ⊎_elim, ℕ, List, [], ◌∷◌, ◌++◌, length, Option, None, Some, ap, arith}
use Rattle.std.specs.Prelude.{IfSome}
use Rattle.std.proofs.lemmas.List.Elements.{All-nil}
use Rattle.walter_base.specs.declared.format.Format.{Format}
use Rattle.walter_disk.specs.Images.{Torn, Only, Narrows, Elapses, LeavesOnly}
use Rattle.walter_disk.proofs.Moments.{weaker, joined}
use Rattle.walter_journal.specs.Layout.{header_in, IsShort, HasContent}

-- a write of so many bytes on none leaves no more than these
torn_none : (count : ℕ) (image : List ℕ) → Torn 0 count [] image → length image ≤ count
torn_none count image torn = ⊎_elim (λ old. omega (arith, old)) (λ new. omega (arith, new)) torn.size

module _ {D : Type 0} (moment : D → ℕ) (left_since : D → ℕ → List ℕ → Type 0) (may_leave : D → List ℕ → Type 0) (only_now : (disk : D) (image : List ℕ) → left_since disk (moment disk) image → may_leave disk image) where
  -- room is made, which writes nothing, and then so many bytes are written
  pub begun : (old mid new : D) (count : ℕ) → Only [] (may_leave old) → Narrows (may_leave old) (may_leave mid)
      → Elapses (moment old) (moment mid) (left_since old) (left_since mid) (may_leave mid)
      → LeavesOnly moment left_since mid new (Torn 0 count []) → LeavesOnly moment left_since old new (λ image. length image ≤ count)
  begun old mid new count only narrows elapses run =
      let empty : (image : List ℕ) → may_leave old image → length image ≤ count = λ image left. omega (arith, ap length (only image left)) in
      let room : LeavesOnly moment left_since old mid (λ image. length image ≤ count) = record {
        later = elapses.later;
        each = λ image left. ⊎_elim (λ was. empty image (only_now old image was)) (λ is. empty image (narrows image is)) (elapses.nothing_else (moment old) image (omega arith) left);
        before = λ t image le left. ⊎_elim (λ was. inl was) (λ is. inr (empty image (narrows image is))) (elapses.nothing_else t image le left);
      } in
      joined moment left_since old mid new _ room (weaker moment left_since mid new _ _ (torn_none count) run)

-- the bytes of a new journal have no body
pub new_content : (format : Format) (reads : Option (List ℕ)) → IfSome reads (λ bytes. bytes ≡ header_in format ++ 0 ∷ []) → IfSome reads (λ bytes. HasContent format bytes [])
new_content format None told = tt
new_content format (Some bytes) told = record { gate = 0; rest = []; is = told; closed = omega arith; fit = All-nil IsShort }
