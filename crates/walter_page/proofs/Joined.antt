-- Lists with commas, as they are put piece by piece.
use Rattle.std.proofs.Common.{◌≡◌, ℕ, ◌<◌, ◌+◌, Bool, true, false, nat_lt, List, [], ◌∷◌, ◌++◌, length, map, drop, get_or, refl, sym, ap, ◌∙◌, append_assoc, append-nil, arith}
use Rattle.std.specs.List.{join_with_byte}
use Rattle.std.proofs.lemmas.Bool.{lt-ltb}
use Rattle.std.proofs.lemmas.List.{drop_more}
use Rattle.walter_page.specs.Lists.{comma_behind, has_pieces, list_behind}
use Rattle.walter_page.specs.Words.{comma, listed}

join_behind : (x : List ℕ) (xs : List (List ℕ)) → join_with_byte comma (x ∷ xs) ≡ x ++ list_behind true xs
join_behind x [] = sym (append-nil x)
join_behind x (y ∷ ys) = ap (λ t. x ++ comma ∷ t) (join_behind y ys)

-- pieces of which there are some
pub listed_behind : (pieces : List (List ℕ)) → 0 < length pieces → listed pieces ≡ list_behind false pieces
listed_behind [] some = absurd (omega arith)
listed_behind (x ∷ xs) some = join_behind x xs

-- pieces behind others
pub list_behind-append : (some : Bool) (xs ys : List (List ℕ))
    → list_behind some (xs ++ ys) ≡ list_behind some xs ++ list_behind (has_pieces some xs) ys
list_behind-append some [] ys = refl
list_behind-append some (x ∷ xs) ys =
    ap (λ t. (comma_behind some ++ x) ++ t)
    (list_behind-append true xs ys ∙ ap (λ b. list_behind true xs ++ list_behind b ys) (always xs))
    ∙ sym (append_assoc (comma_behind some ++ x) (list_behind true xs) (list_behind true ys))
  where
    always : (zs : List (List ℕ)) → has_pieces true zs ≡ true
    always [] = refl
    always (z ∷ zs) = refl

-- the pieces from one element on
pub list_behind-next : {X : Type 0} (f : X → List ℕ) (xs : List X) (i : ℕ) (d : X) → i < length xs
    → list_behind (nat_lt 0 i) (map f (drop i xs))
    ≡ (comma_behind (nat_lt 0 i) ++ f (get_or xs i d)) ++ list_behind (nat_lt 0 (i + 1)) (map f (drop (i + 1) xs))
list_behind-next f xs i d within =
    let some : true ≡ nat_lt 0 (i + 1) = sym (lt-ltb 0 (i + 1) (omega arith)) in
    ap (λ ys. list_behind (nat_lt 0 i) (map f ys)) (drop_more xs i d within)
    ∙ ap (λ b. (comma_behind (nat_lt 0 i) ++ f (get_or xs i d)) ++ list_behind b (map f (drop (i + 1) xs))) some
