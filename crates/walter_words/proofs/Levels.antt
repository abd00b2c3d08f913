-- What the program is at its own level, and at those of its commands.
use Rattle.std.proofs.Common.{◌≡◌, ◌⊎◌, ◌∙◌, ◌==◌, ℕ, Bool, true, false, List, [], ◌∷◌, ◌++◌, Option, Some, None, codes, fold, refl, sym, ap, inl, inr, subst, append-nil, append_assoc, is_some}
use Rattle.std.specs.Str.{bytes_eq}
use Rattle.std.proofs.lemmas.Slice.Eq.{bytes_eq-Decides}
use Rattle.clap.specs.Walk.{Held, Names, Rule, Text, Walk, finished, settled, walk_from, arg_by_long, arg_by_short, idle, nothing_held, rows_after, subcommand_met, takes_values, walked}
use Rattle.clap.specs.Simple.{Shape, filled, help_rule, version_rule, built, built_leaf, entered, inherited, marked_built, names_of, subcommand_of, with_leaf_noted}
use Rattle.clap.specs.declared.error.kind.ErrorKind.TheVariants.{DisplayHelp, DisplayVersion}
use Rattle.clap.specs.Kinds.{Kinds, or_else}
use Rattle.clap.specs.Faults.{check_fault, defaults_fault, entered_fault, fault_of, level_fault, long_fault, react_fault, settle_fault, walk_fault}
use Rattle.clap.proofs.OnLiterals.{clap_on_literals}
use Rattle.walter_words.specs.Lines.{audit_line, driven_line, load_line, walter_line}
use Rattle.walter_words.proofs.Longs.{same_some}
use Rattle.walter_words.proofs.Turns.{both_empty, hyphens, idle_turn, one_word}

abbrev above : Shape
above = with_leaf_noted (marked_built walter_line.top)

-- the level of the command of this name that takes `--trace` and `--disks`
abbrev pub driven_level : Text → Shape
driven_level command = built_leaf (inherited above (driven_line command).top)

abbrev pub load_level : Shape
load_level = built_leaf (inherited above load_line.top)

abbrev pub audit_level : Shape
audit_level = built_leaf (inherited above audit_line.top)

abbrev pub top_level : Shape
top_level = (built walter_line).top

abbrev pub top_names : Names
top_names = names_of (built walter_line)

or_else_none : (a : Kinds) → or_else a [] ≡ a
or_else_none [] = refl
or_else_none (k ∷ ks) = refl

-- past a subcommand the walk only gathers words
gathers : (c : List Rule) (names : Names) (w : Walk) (name : Text) (words rest : List Text)
    → fold (walked c names) (record w { stopped = Some (name, words) }) rest ≡ record w { stopped = Some (name, words ++ rest) }
unfolding walked
gathers c names w name words [] = ap (λ t. record w { stopped = Some (name, t) }) (sym (append-nil words))
gathers c names w name words (x ∷ rest) = gathers c names w name (words ++ x ∷ []) rest ∙ ap (λ t. record w { stopped = Some (name, t) }) (append_assoc words (x ∷ []) rest)

no_fault_past : (s : Shape) (names : Names) (w : Walk) (name : Text) (words rest : List Text)
    → walk_fault s names (record w { stopped = Some (name, words) }) rest ≡ []
unfolding walk_fault walked
no_fault_past s names w name words [] = refl
no_fault_past s names w name words (x ∷ rest) = no_fault_past s names w name (words ++ x ∷ []) rest

-- what the whole parse fails by, where the walk ends so
abbrev ends_by : List Text → Walk → Kinds
ends_by words w = or_else (walk_fault top_level top_names (walk_from nothing_held) words)
    (or_else (entered_fault (built walter_line) w.stopped) (or_else (settle_fault top_level.rules top_level.args_override_self w.held)
    (or_else (defaults_fault (settled top_level.rules w.held).rows top_level.rules)
    (check_fault top_level (finished top_level.rules w.held) (is_some (entered (built walter_line) w.stopped))))))

pub play_fault : (rest : List Text) → fault_of walter_line (codes "play" ∷ rest) ≡ level_fault (driven_level (codes "play")) [] nothing_held rest false []
unfolding clap_on_literals
play_fault rest =
    ap (ends_by (codes "play" ∷ rest)) (gathers top_level.rules top_names (walk_from nothing_held) (codes "play") [] rest)
    ∙ (ap (λ x. or_else x (or_else (level_fault (driven_level (codes "play")) [] nothing_held rest false []) [])) (no_fault_past top_level top_names (walk_from nothing_held) (codes "play") [] rest)
    ∙ or_else_none _)

pub run_fault : (rest : List Text) → fault_of walter_line (codes "run" ∷ rest) ≡ level_fault (driven_level (codes "run")) [] nothing_held rest false []
unfolding clap_on_literals
run_fault rest =
    ap (ends_by (codes "run" ∷ rest)) (gathers top_level.rules top_names (walk_from nothing_held) (codes "run") [] rest)
    ∙ (ap (λ x. or_else x (or_else (level_fault (driven_level (codes "run")) [] nothing_held rest false []) [])) (no_fault_past top_level top_names (walk_from nothing_held) (codes "run") [] rest)
    ∙ or_else_none _)

pub load_fault : (rest : List Text) → fault_of walter_line (codes "load" ∷ rest) ≡ level_fault load_level [] nothing_held rest false []
unfolding clap_on_literals
load_fault rest =
    ap (ends_by (codes "load" ∷ rest)) (gathers top_level.rules top_names (walk_from nothing_held) (codes "load") [] rest)
    ∙ (ap (λ x. or_else x (or_else (level_fault load_level [] nothing_held rest false []) [])) (no_fault_past top_level top_names (walk_from nothing_held) (codes "load") [] rest)
    ∙ or_else_none _)

pub audit_fault : (rest : List Text) → fault_of walter_line (codes "audit" ∷ rest) ≡ level_fault audit_level [] nothing_held rest false []
unfolding clap_on_literals
audit_fault rest =
    ap (ends_by (codes "audit" ∷ rest)) (gathers top_level.rules top_names (walk_from nothing_held) (codes "audit") [] rest)
    ∙ (ap (λ x. or_else x (or_else (level_fault audit_level [] nothing_held rest false []) [])) (no_fault_past top_level top_names (walk_from nothing_held) (codes "audit") [] rest)
    ∙ or_else_none _)

pub play_rows : (rest : List Text) → subcommand_of walter_line (codes "play" ∷ rest) ≡ Some (codes "play", rows_after (driven_level (codes "play")).rules [] rest)
unfolding clap_on_literals
play_rows rest = ap (λ (w : Walk). entered (built walter_line) w.stopped) (gathers top_level.rules top_names (walk_from nothing_held) (codes "play") [] rest)

pub run_rows : (rest : List Text) → subcommand_of walter_line (codes "run" ∷ rest) ≡ Some (codes "run", rows_after (driven_level (codes "run")).rules [] rest)
unfolding clap_on_literals
run_rows rest = ap (λ (w : Walk). entered (built walter_line) w.stopped) (gathers top_level.rules top_names (walk_from nothing_held) (codes "run") [] rest)

pub load_rows : (rest : List Text) → subcommand_of walter_line (codes "load" ∷ rest) ≡ Some (codes "load", rows_after load_level.rules [] rest)
unfolding clap_on_literals
load_rows rest = ap (λ (w : Walk). entered (built walter_line) w.stopped) (gathers top_level.rules top_names (walk_from nothing_held) (codes "load") [] rest)

pub audit_rows : (rest : List Text) → subcommand_of walter_line (codes "audit" ∷ rest) ≡ Some (codes "audit", rows_after audit_level.rules [] rest)
unfolding clap_on_literals
audit_rows rest = ap (λ (w : Walk). entered (built walter_line) w.stopped) (gathers top_level.rules top_names (walk_from nothing_held) (codes "audit") [] rest)

pub no_words : fault_of walter_line [] ≡ [] → ⊥
unfolding clap_on_literals
no_words e = cc

-- ---- flags that ask for a text

abbrev pub help_flag : Rule
help_flag = filled help_rule

abbrev version_flag : Rule
version_flag = filled version_rule

-- a flag that asks for a text fails
abbrev pub IsRequest : Shape → Rule → Type 0
IsRequest s a = (takes_values a ≡ false) × ((h : Held) → react_fault s.rules s.args_override_self a [] h ≡ [] → ⊥)

pub help_request : (s : Shape) → IsRequest s help_flag
help_request s = (refl, λ h e. let shown : DisplayHelp ∷ [] ≡ [] = (both_empty (settle_fault s.rules s.args_override_self h) (DisplayHelp ∷ []) e).1 in cc)

version_request : (s : Shape) → IsRequest s version_flag
version_request s = (refl, λ h e. let shown : DisplayVersion ∷ [] ≡ [] = (both_empty (settle_fault s.rules s.args_override_self h) (DisplayVersion ∷ []) e).1 in cc)

pub is_request : (s : Shape) (a b : Rule) → IsRequest s a → Some a ≡ Some b → IsRequest s b
is_request s a b h e = subst (IsRequest s) (same_some _ _ e) h

pub request_fails : (s : Shape) (a : Rule) (v : Option Text) (h : Held) → IsRequest s a → long_fault s.rules s.args_override_self (Some a) v h ≡ [] → ⊥
request_fails s a None h request e = request.1 h (rw request.0 at e)
request_fails s a (Some v) h request e = let bad : _ ≡ [] = rw request.0 at e in cc

-- ---- the first word

top_shorts : (x : ℕ) (a : Rule) (h : Held) → arg_by_short top_level.rules x ≡ Some a → (takes_values a ≡ false) × (react_fault top_level.rules top_level.args_override_self a [] h ≡ [] → ⊥)
top_shorts x a h e = go (104 == x) refl
  where
    second : (b : Bool) → (104 == x) ≡ false → (86 == x) ≡ b → (takes_values a ≡ false) × (react_fault top_level.rules top_level.args_override_self a [] h ≡ [] → ⊥)
    second true first is = let r = is_request top_level version_flag a (version_request top_level) (rw (first, is) at e) in (r.0, r.1 h)
    second false first is = let bad : None ≡ Some a = rw (first, is) at e in cc

    go : (b : Bool) → (104 == x) ≡ b → (takes_values a ≡ false) × (react_fault top_level.rules top_level.args_override_self a [] h ≡ [] → ⊥)
    go true is = let r = is_request top_level help_flag a (help_request top_level) (rw is at e) in (r.0, r.1 h)
    go false is = second (86 == x) is refl

top_flags : (name : Text) (a : Rule) → arg_by_long top_level.rules name ≡ Some a → IsRequest top_level a
top_flags name a e = go (bytes_eq (codes "help") name) refl
  where
    second : (b : Bool) → bytes_eq (codes "help") name ≡ false → bytes_eq (codes "version") name ≡ b → IsRequest top_level a
    second true first is = is_request top_level version_flag a (version_request top_level) (rw (first, is) at e)
    second false first is = let bad : None ≡ Some a = rw (first, is) at e in cc

    go : (b : Bool) → bytes_eq (codes "help") name ≡ b → IsRequest top_level a
    go true is = is_request top_level help_flag a (help_request top_level) (rw is at e)
    go false is = second (bytes_eq (codes "version") name) is refl

hyphens_first : (rest : List Text) → fault_of walter_line (hyphens ∷ rest) ≡ [] → ⊥
unfolding clap_on_literals
hyphens_first [] e = cc
hyphens_first (next ∷ rest) e = cc

help_first : (rest : List Text) → fault_of walter_line (codes "help" ∷ rest) ≡ [] → ⊥
unfolding clap_on_literals
help_first rest e = cc

-- a first word that is no command fails
no_command : (word : Text) (rest : List Text) → subcommand_met top_names idle word ≡ None → fault_of walter_line (word ∷ rest) ≡ [] → ⊥
no_command word rest none e =
    let one = one_word top_level top_names (walk_from nothing_held) word rest (both_empty (walk_fault top_level top_names (walk_from nothing_held) (word ∷ rest)) _ e).0 in
    elim (idle_turn top_level refl top_shorts top_names word [] None none one.0) [
      | inl end ↦ hyphens_first rest (rw end at e)
      | inr read ↦ request_fails top_level read.1 read.0.1 nothing_held (top_flags read.0.0 read.1 read.3) read.4
    ]

-- what passes has one of the four commands first
abbrev pub IsCommandFirst : List Text → Type 0
IsCommandFirst words = (rest : List Text) × ((words ≡ codes "play" ∷ rest) ⊎ (words ≡ codes "run" ∷ rest) ⊎ (words ≡ codes "load" ∷ rest)
    ⊎ (words ≡ codes "audit" ∷ rest))

pub first_word : (words : List Text) → fault_of walter_line words ≡ [] → IsCommandFirst words
first_word [] e = absurd (no_words e)
first_word (word ∷ rest) e = go (bytes_eq (codes "play") word) refl
  where
    is_word : (name : Text) → bytes_eq name word ≡ true → word ∷ rest ≡ name ∷ rest
    is_word name is = ap (λ w. w ∷ rest) (sym ((bytes_eq-Decides _ _).0 is))

    fifth : (b : Bool) → bytes_eq (codes "play") word ≡ false → bytes_eq (codes "run") word ≡ false → bytes_eq (codes "load") word ≡ false
        → bytes_eq (codes "audit") word ≡ false → bytes_eq (codes "help") word ≡ b → IsCommandFirst (word ∷ rest)
    fifth true first second third fourth is = absurd (help_first rest (subst (λ w. fault_of walter_line w ≡ []) (is_word (codes "help") is) e))
    fifth false first second third fourth is = absurd (no_command word rest (rw (first, second, third, fourth, is) refl) e)

    fourth : (b : Bool) → bytes_eq (codes "play") word ≡ false → bytes_eq (codes "run") word ≡ false → bytes_eq (codes "load") word ≡ false
        → bytes_eq (codes "audit") word ≡ b → IsCommandFirst (word ∷ rest)
    fourth true first second third is = (rest, inr (inr (inr (is_word (codes "audit") is))))
    fourth false first second third is = fifth (bytes_eq (codes "help") word) first second third is refl

    third : (b : Bool) → bytes_eq (codes "play") word ≡ false → bytes_eq (codes "run") word ≡ false → bytes_eq (codes "load") word ≡ b → IsCommandFirst (word ∷ rest)
    third true first second is = (rest, inr (inr (inl (is_word (codes "load") is))))
    third false first second is = fourth (bytes_eq (codes "audit") word) first second is refl

    second : (b : Bool) → bytes_eq (codes "play") word ≡ false → bytes_eq (codes "run") word ≡ b → IsCommandFirst (word ∷ rest)
    second true first is = (rest, inr (inl (is_word (codes "run") is)))
    second false first is = third (bytes_eq (codes "load") word) first is refl

    go : (b : Bool) → bytes_eq (codes "play") word ≡ b → IsCommandFirst (word ∷ rest)
    go true is = (rest, inl (is_word (codes "play") is))
    go false is = second (bytes_eq (codes "run") word) is refl
