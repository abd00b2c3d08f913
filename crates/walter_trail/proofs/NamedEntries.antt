-- The entries of trails, each with its site, trail by trail.
use Rattle.std.proofs.Common.{◌≡◌, ℕ, suc, ◌+◌, ◌<◌, ◌≤◌, List, ◌∷◌, ◌++◌, length, map, drop, get_or, add-one, append_assoc, append-nil, ap, sym, ◌∙◌}
use Rattle.std.proofs.Math.Seq.{drop-cons}
use Rattle.std.proofs.lemmas.List.{drop_all}
use Rattle.walter_rules.specs.declared.entry.Entry.{Entry}
use Rattle.walter_rules.specs.Merges.{Named, named_from}

-- the entries of one more trail
pub named_more : (all done more : List Named) (trails : List (List Entry)) (i : ℕ) (trail : List Entry) → i < length trails → trail ≡ get_or trails i trail
    → done ++ named_from i (drop i trails) ≡ all → more ≡ done ++ map (λ e. (record { 0 = i }, e)) trail → more ++ named_from (i + 1) (drop (i + 1) trails) ≡ all
named_more all done more trails i trail within here before is =
    let rest = drop (i + 1) trails in
    let next : drop i trails ≡ trail ∷ rest = drop-cons trails i trail within ∙ ap (λ t. t ∷ drop (suc i) trails) (sym here) ∙ ap (λ n. trail ∷ drop n trails) (sym (add-one i)) in
    ap (λ ns. ns ++ named_from (i + 1) rest) is
    ∙ append_assoc done (map (λ e. (record { 0 = i }, e)) trail) (named_from (i + 1) rest)
    ∙ ap (λ ts. done ++ named_from i ts) (sym next) ∙ before

-- the entries of all trails
pub named_all : (all done : List Named) (trails : List (List Entry)) (i : ℕ) → length trails ≤ i → done ++ named_from i (drop i trails) ≡ all → done ≡ all
named_all all done trails i past is = sym (append-nil done) ∙ ap (λ ts. done ++ named_from i ts) (sym (drop_all i trails past)) ∙ is
