-- The calls of a made scenario, by the words of a generator (docs/FORMATS.md, "Made scenarios and summaries").
use Rattle.std.specs.Prelude.{ℕ, zero, suc, ◌+◌, ◌/◌, ◌%◌, nat_eq, Bool, List, [], ◌∷◌, slice_index, slice_set, if◌then◌else◌}
use Rattle.rand_pcg.specs.Lcg.{Lcg, started, increment_of}
use Rattle.rand_pcg.specs.Pcg.{multiplier_64}
use Rattle.walter_base.specs.declared.message.Request.{Request}
use Rattle.walter_base.specs.declared.message.Request.TheVariants.{Start, Read, Write, SetAdd, SetDel, SetRead, Commit}
use Rattle.walter_base.specs.declared.names.ObjId.{ObjId}
use Rattle.walter_fields.specs.Spellings.{number_spelled}
use Rattle.walter_link.specs.Choices.{word, next}
use Rattle.walter_make.specs.declared.draws.ClientCall.{ClientCall}

-- the generator of a number, before its first word
abbrev pub generator_of : ℕ → Lcg
generator_of number = started 64 multiplier_64 number (increment_of 64 0)

abbrev pub is_odd : ℕ → Bool
is_odd n = nat_eq (n % 2) 1

-- the object that the next two words name: one of 4 in a container from 1 to 6
abbrev pub object_at : Lcg → ObjId
object_at g = record { container = 1 + word g % 6; local = word (next g) % 4 }

-- the object is read; it is regular where the number of its container is odd, and a set otherwise
abbrev pub read_of : ObjId → Request
read_of oid = if is_odd oid.container then Read oid else SetRead oid

-- it is updated by a word: it gets the word's four bytes; of an id of a set there is one less where the word is odd, and
-- else one more
abbrev pub update_of : ObjId → ℕ → Request
update_of oid v =
    if is_odd oid.container then Write oid (number_spelled 4 v)
    else if is_odd v then SetDel oid (v / 2 % 8)
    else SetAdd oid (v / 2 % 8)

-- what a client asks that called so often before, and the generator behind the words that are drawn for it: it starts,
-- reads, updates twice and commits, and so on
abbrev pub request_of : ℕ → Lcg → Request × Lcg
request_of before g =
    if nat_eq (before % 5) 0 then (Start, g)
    else if nat_eq (before % 5) 1 then (read_of (object_at g), next (next g))
    else if nat_eq (before % 5) 4 then (Commit, g)
    else (update_of (object_at g) (word (next (next g))), next (next (next g)))

-- the generator, and how often each client called
pub record Drawing : Type 0 where
  pub words : Lcg
  pub counts : List ℕ

-- before the first call
abbrev pub drawing_of : ℕ → Drawing
drawing_of number = record { words = generator_of number; counts = 0 ∷ 0 ∷ 0 ∷ 0 ∷ 0 ∷ 0 ∷ [] }

-- the client of the next call, and how often it called before
abbrev pub caller : Drawing → ℕ
caller d = word d.words % 6

abbrev pub count : Drawing → ℕ
count d = slice_index d.counts (caller d)

-- the next call
abbrev pub call_of : Drawing → ClientCall
call_of d = record { client = caller d; request = (request_of (count d) (next d.words)).0 }

abbrev pub behind_call : Drawing → Drawing
behind_call d = record {
  words = (request_of (count d) (next d.words)).1;
  counts = slice_set d.counts (caller d) (count d + 1);
}

-- so many calls from there on
abbrev pub calls_from : ℕ → Drawing → List ClientCall
calls_from zero d = []
calls_from (suc n) d = call_of d ∷ calls_from n (behind_call d)

-- so many calls of a number
abbrev pub made_calls : (number calls : ℕ) → List ClientCall
made_calls number calls = calls_from calls (drawing_of number)
