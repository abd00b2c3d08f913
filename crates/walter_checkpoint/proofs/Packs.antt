-- A pack is never longer than the gates and records that it stands for.
use Rattle.std.proofs.Common.{◌≡◌, ◌+◌, ◌-◌, ◌≤◌, ℕ, Bool, true, false, sym, append_assoc, List, [], ◌∷◌, ◌++◌, length, take, drop, get_or, if◌then◌else◌, ap, ◌∙◌, arith, length-append}
use Rattle.std.proofs.lemmas.List.{length-take, length-drop, take_all}
use Rattle.std.proofs.lemmas.List.Sums.{sum_by-cons}
use Rattle.std.proofs.lemmas.Grind.{flat_map-append}
use Rattle.std.specs.Prelude.{sum_by}
use Rattle.byteorder.specs.Endian.{big_bytes}
use Rattle.walter_journal.specs.Layout.{record_of}
use Rattle.walter_checkpoint.specs.Areas.{Shape, area_size, HasArea}
use Rattle.walter_checkpoint.specs.Packs.{start_end, kept_in, cut, is_cut, entry_of, entries, pack_of}

pub length-cut : (sites : ℕ) (body : List ℕ) → length (cut sites body) ≤ length body
length-cut sites body =
    let e = start_end (get_or body 0 0) in
    omega (arith, length-append (take (kept_in sites body) body) (drop e body), length-take (kept_in sites body) body, length-drop e body)

pub length-record : (body : List ℕ) → length (record_of body) ≡ 4 + length body
length-record body = length-append (big_bytes 4 (length body)) body

pub length-entry : (sites : ℕ) (body : List ℕ) → length (entry_of sites body) ≤ 5 + length body
length-entry sites body = either (is_cut sites body)
  where
    either : (b : Bool) → length (if b then 1 ∷ record_of (cut sites body) else 0 ∷ record_of body) ≤ 5 + length body
    either true = omega (arith, length-record (cut sites body), length-cut sites body)
    either false = omega (arith, length-record body)

pub length-entries : (sites : ℕ) (bodies : List (List ℕ)) → length (entries sites bodies) ≤ sum_by (λ body. 5 + length body) bodies
length-entries sites [] = omega arith
length-entries sites (body ∷ bodies) =
    omega (arith, length-append (entry_of sites body) (entries sites bodies), length-entry sites body, length-entries sites bodies, sum_by-cons (λ body. 5 + length body) body bodies)

pub length-pack : (sites : ℕ) (bodies : List (List ℕ)) → length (pack_of sites bodies) ≡ 8 + length (entries sites bodies)
length-pack sites bodies = length-append (big_bytes 8 (length (entries sites bodies))) (entries sites bodies)

-- where an area has bodies, a pack of all of them and a closed gate stand within an area
pub pack_within : (shape : Shape) (bytes : List ℕ) (bodies : List (List ℕ)) → HasArea shape bytes bodies → length (pack_of shape.sites bodies) + 1 ≤ area_size shape
pack_within shape bytes bodies area =
    let split = ap (entries shape.sites) area.are ∙ flat_map-append (entry_of shape.sites) area.packed area.behind in
    omega (arith, length-pack shape.sites bodies, length-pack shape.sites area.packed, ap length split, length-append (entries shape.sites area.packed) (entries shape.sites area.behind), length-entries shape.sites area.behind, area.within)

pub entry_cut : (sites : ℕ) (old body size : List ℕ) (from end : ℕ) → is_cut sites body ≡ true → from ≡ kept_in sites body → end ≡ start_end (get_or body 0 0) → from ≤ end → end ≤ length body
    → size ≡ big_bytes 4 (length body - (end - from)) → old ++ 1 ∷ [] ++ size ++ take from body ++ drop end body ≡ old ++ entry_of sites body
entry_cut sites old body size from end is from_is end_is le within size_is =
    let c : cut sites body ≡ take from body ++ drop end body = ap (λ n. take n body ++ drop (start_end (get_or body 0 0)) body) (sym from_is) ∙ ap (λ n. take from body ++ drop n body) (sym end_is) in
    let count : length (cut sites body) ≡ length body - (end - from) =
    ap length c ∙ omega (arith, length-append (take from body) (drop end body), length-take from body, length-drop end body, le, within) in
    let entry : entry_of sites body ≡ 1 ∷ record_of (cut sites body) = ap (λ b. if b then 1 ∷ record_of (cut sites body) else 0 ∷ record_of body) is in
    let spelled : 1 ∷ record_of (cut sites body) ≡ 1 ∷ (size ++ (take from body ++ drop end body)) =
    ap (λ n. 1 ∷ (big_bytes 4 n ++ cut sites body)) count ∙ ap (λ s. 1 ∷ (s ++ cut sites body)) (sym size_is) ∙ ap (λ l. 1 ∷ (size ++ l)) c in
    append_assoc (old ++ 1 ∷ [] ++ size) (take from body) (drop end body)
    ∙ append_assoc (old ++ 1 ∷ []) size (take from body ++ drop end body)
    ∙ append_assoc old (1 ∷ []) (size ++ (take from body ++ drop end body))
    ∙ ap (λ l. old ++ l) (sym (entry ∙ spelled))

-- step by step
pub entry_pushed : (sites : ℕ) (old body size : List ℕ) (from end : ℕ) (a b c d : List ℕ) → a ≡ old ++ 1 ∷ [] → b ≡ a ++ size → c ≡ b ++ take from body → d ≡ c ++ take (length body - end) (drop end body)
    → is_cut sites body ≡ true → from ≡ kept_in sites body → end ≡ start_end (get_or body 0 0) → from ≤ end → end ≤ length body
    → size ≡ big_bytes 4 (length body - (end - from)) → d ≡ old ++ entry_of sites body
entry_pushed sites old body size from end a b c d ea eb ec ed is from_is end_is le within size_is =
    ed ∙ ap (λ l. c ++ l) (take_all (length body - end) (drop end body) (omega (arith, length-drop end body))) ∙ ap (λ l. l ++ drop end body) (ec ∙ ap (λ l. l ++ take from body) (eb ∙ ap (λ l. l ++ size) ea))
    ∙ entry_cut sites old body size from end is from_is end_is le within size_is
