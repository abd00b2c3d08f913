-- What the finite map of a list of entries under numbers has.
use Rattle.std.proofs.Common.{◌≡◌, ℕ, List, [], ◌∷◌, Option, Some, cond, refl, ap, sym, ◌∙◌}
use Rattle.std.specs.Ordering.{nat_cmp}
use Rattle.std.specs.Cmp.{nat_cmp_total, eq_by_cmp_equiv}
use Rattle.std.specs.FinMap.{get, insert, find, from_entries, get-from_entries, get-insert, same_map, nat_cmp-IsAntisymmetric}
use Rattle.std.specs.BTreeMap.{is_at}
use Rattle.std.specs.Map.{lookup}

-- what a search from the front finds
abbrev pub entry_at : {X : Type 0} → List (ℕ × X) → ℕ → Option X
entry_at entries number = lookup (is_at (nat_cmp number)) entries

find_entry : {X : Type 0} (es : List (ℕ × X)) (q : ℕ) → find nat_cmp q es ≡ entry_at es q
find_entry [] q = refl
find_entry (e ∷ es) q = ap (cond (is_at (nat_cmp q) e.0) (Some e.1)) (find_entry es q)

-- what the map that the entries make has
pub get_entry : {X : Type 0} (es : List (ℕ × X)) (q : ℕ) → get (from_entries {R = nat_cmp} es) q ≡ entry_at es q
get_entry es q = get-from_entries nat_cmp_total es q ∙ find_entry es q

-- entries that differ at one number make maps that differ there
pub one_given : {X : Type 0} (es fs : List (ℕ × X)) (k : ℕ) (x : X) → ((q : ℕ) → entry_at fs q ≡ cond (is_at (nat_cmp k) q) (Some x) (entry_at es q))
    → from_entries {R = nat_cmp} fs ≡ insert (from_entries es) k x
one_given es fs k x h = same_map nat_cmp_total nat_cmp-IsAntisymmetric _ _ (λ q.
    get_entry fs q ∙ h q ∙ ap (λ b. cond b (Some x) (entry_at es q)) ((eq_by_cmp_equiv nat_cmp_total).symm k q)
    ∙ sym (get-insert nat_cmp_total (from_entries es) k x q ∙ ap (cond (is_at (nat_cmp q) k) (Some x)) (get_entry es q)))
