-- Spellings one behind another: which no spelling begins, and where none begins the bytes.
use Rattle.std.proofs.Common.{◌≡◌, ◌≢◌, ℕ, ◌^◌, ◌<◌, List, [], ◌++◌, length, sym, ap, ◌∙◌, append_assoc, arith}
use Rattle.std.proofs.lemmas.List.{append-nil, length-append}
use Rattle.std.specs.Prelude.{All}
use Rattle.walter_base.specs.declared.format.Format.{Format}
use Rattle.walter_fields.specs.Spellings.{number_spelled}
use Rattle.walter_fields.proofs.Numbers.{length-number_spelled, same_number}
use Rattle.walter_names.specs.Names.{object_spelled, tid_spelled, version_spelled, IsObject, IsTid, IsVersion}
use Rattle.walter_names.proofs.Lengths.{length-object_spelled, length-tid_spelled, length-version_spelled}
use Rattle.walter_names.proofs.Prefixes.{regrouped, same_object, same_tid, same_version}
use Rattle.walter_txcode.specs.Faults.{NoneBegins}
use Rattle.walter_txcode.specs.Spelling.{vector_spelled, spelling, HasSpelling, numbered_spelled, IsNumbered, objects_spelled, AreSpelledObjects}
use Rattle.walter_txcode.proofs.Prefixes.{same_vector, same_transaction}
use Rattle.walter_txcode.proofs.Rising.{same_objects}

-- of the spellings of such values none begins that of another
pub record IsPrefixFree {A : Type 0} (IsSuch : A → Type 0) (spelled : A → List ℕ) : Type 0 where
  pub same : (a b : A) (x y : List ℕ) → IsSuch a → IsSuch b → spelled a ++ x ≡ spelled b ++ y → (a ≡ b) × (x ≡ y)

module _ {A B : Type 0} where
  -- one value, and another
  abbrev pub Both : (A → Type 0) → (B → Type 0) → A × B → Type 0
  Both IsOne IsOther both = IsOne both.0 × IsOther both.1

  abbrev pub both_spelled : (A → List ℕ) → (B → List ℕ) → A × B → List ℕ
  both_spelled one other both = one both.0 ++ other both.1

-- ---- two spellings

pub free_both : {A B : Type 0} {IsOne : A → Type 0} {IsOther : B → Type 0} {one : A → List ℕ} {other : B → List ℕ} → IsPrefixFree IsOne one → IsPrefixFree IsOther other
    → IsPrefixFree (Both IsOne IsOther) (both_spelled one other)
free_both {one = one} {other = other} first second = record {
  same = λ a b x y is_a is_b e.
      let front = first.same a.0 b.0 (other a.1 ++ x) (other b.1 ++ y) is_a.0 is_b.0 (regrouped (one a.0) (other a.1) x (one b.0) (other b.1) y e) in
      let back = second.same a.1 b.1 x y is_a.1 is_b.1 front.1 in
      ((λ i. (front.0 i, back.0 i)), back.1);
}

pub no_first : {A B : Type 0} {IsOne : A → Type 0} {one : A → List ℕ} (IsOther : B → Type 0) (other : B → List ℕ) {left : List ℕ} → NoneBegins IsOne one left
    → NoneBegins (Both IsOne IsOther) (both_spelled one other) left
no_first {one = one} IsOther other none = record { none = λ both rest is e. none.none both.0 (other both.1 ++ rest) is.0 (e ∙ append_assoc (one both.0) (other both.1) rest) }

pub no_second : {A B : Type 0} {IsOne : A → Type 0} {one : A → List ℕ} {IsOther : B → Type 0} {other : B → List ℕ} → IsPrefixFree IsOne one → {left mid : List ℕ} (found : A) → IsOne found
    → left ≡ one found ++ mid → NoneBegins IsOther other mid → NoneBegins (Both IsOne IsOther) (both_spelled one other) left
no_second {one = one} {other = other} free {mid = mid} found is_found front none = record {
  none = λ both rest is e. none.none both.1 rest is.1 (free.same found both.0 mid (other both.1 ++ rest) is_found is.0 (sym front ∙ e ∙ append_assoc (one both.0) (other both.1) rest)).1;
}

-- ---- a value, and the end

-- nothing is spelled where nothing begins the bytes
pub spells_none : {A : Type 0} {IsSuch : A → Type 0} {spelled : A → List ℕ} {left bytes : List ℕ} → left ≡ bytes → NoneBegins IsSuch spelled left → (value : A) → IsSuch value → bytes ≢ spelled value
spells_none {spelled = spelled} same none value is e = none.none value [] is (same ∙ e ∙ sym (append-nil (spelled value)))

-- nor where bytes are behind what begins them
pub more_behind : {A : Type 0} {IsSuch : A → Type 0} {spelled : A → List ℕ} → IsPrefixFree IsSuch spelled → {left bytes after : List ℕ} → left ≡ bytes → (found : A) → IsSuch found → left ≡ spelled found ++ after → after ≢ []
    → (value : A) → IsSuch value → bytes ≢ spelled value
more_behind {spelled = spelled} free {after = after} same found is_found front some value is e =
    some (free.same found value after [] is_found is (sym front ∙ same ∙ e ∙ sym (append-nil (spelled value)))).1

pub spells_whole : {left bytes after spelled : List ℕ} → left ≡ bytes → left ≡ spelled ++ after → after ≡ [] → bytes ≡ spelled
spells_whole {spelled = spelled} same front ended = sym same ∙ front ∙ ap (λ t. spelled ++ t) ended ∙ append-nil spelled

-- ---- numbers, names, vectors, transactions, objects

-- fewer bytes than each spelling has
pub none_short : {A : Type 0} (IsSuch : A → Type 0) (spelled : A → List ℕ) (n : ℕ) {left : List ℕ} → ((value : A) → length (spelled value) ≡ n) → length left < n → NoneBegins IsSuch spelled left
none_short IsSuch spelled n long few = record { none = λ value rest is e. omega (arith, ap length e, length-append (spelled value) rest, long value, few) }

abbrev pub IsNumber : ℕ → Type 0
IsNumber n = n < 2 ^ 64

pub no_number : {left : List ℕ} → length left < 8 → NoneBegins IsNumber (number_spelled 8) left
no_number few = none_short IsNumber (number_spelled 8) 8 (λ n. length-number_spelled 8 n) few

pub no_tid : {left : List ℕ} → length left < 13 → NoneBegins IsTid tid_spelled left
no_tid few = none_short IsTid tid_spelled 13 length-tid_spelled few

pub no_version : {left : List ℕ} → length left < 9 → NoneBegins IsVersion version_spelled left
no_version few = none_short IsVersion version_spelled 9 length-version_spelled few

pub no_object : {left : List ℕ} → length left < 12 → NoneBegins IsObject object_spelled left
no_object few = none_short IsObject object_spelled 12 length-object_spelled few

-- a vector of n sites
abbrev pub IsVector : ℕ → List ℕ → Type 0
IsVector n vector = (length vector ≡ n) × All (λ number. number < 2 ^ 64) vector

pub no_vector : (format : Format) (n : ℕ) {left : List ℕ} → ((v rest : List ℕ) → length v ≡ n → All (λ number. number < 2 ^ 64) v → left ≢ vector_spelled format v ++ rest) → NoneBegins (IsVector n) (vector_spelled format) left
no_vector format n none = record { none = λ v rest is e. none v rest is.0 is.1 e }

pub free_numbers : IsPrefixFree IsNumber (number_spelled 8)
free_numbers = record { same = λ a b x y is_a is_b e. same_number 8 a b x y (omega (arith, is_a)) (omega (arith, is_b)) e }

pub free_tids : IsPrefixFree IsTid tid_spelled
free_tids = record { same = same_tid }

pub free_versions : IsPrefixFree IsVersion version_spelled
free_versions = record { same = same_version }

pub free_names : IsPrefixFree IsObject object_spelled
free_names = record { same = same_object }

pub free_vectors : (format : Format) (n : ℕ) → IsPrefixFree (IsVector n) (vector_spelled format)
free_vectors format n = record { same = λ v w x y is_v is_w e. same_vector format v w x y (is_v.0 ∙ sym is_w.0) is_v.1 is_w.1 e }

pub free_transactions : (format : Format) (sites : ℕ) → IsPrefixFree (HasSpelling format sites) (spelling format)
free_transactions format sites = record { same = same_transaction format sites }

pub free_objects : IsPrefixFree AreSpelledObjects objects_spelled
free_objects = record { same = same_objects }

pub free_numbered : (format : Format) (sites : ℕ) → IsPrefixFree (IsNumbered format sites) (numbered_spelled format)
free_numbered format sites = free_both free_numbers (free_transactions format sites)
