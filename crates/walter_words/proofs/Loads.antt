-- What stands behind `load`.
use Rattle.std.proofs.Common.{◌≡◌, ◌⊎◌, ◌∙◌, ◌==◌, ℕ, Bool, true, false, not, List, [], ◌∷◌, ◌++◌, Option, Some, None, codes, fold, refl, sym, ap, ap₂, inl, inr, subst}
use Rattle.std.specs.Str.{bytes_eq}
use Rattle.std.proofs.lemmas.Slice.Eq.{bytes_eq-Decides}
use Rattle.clap.specs.Lexer.{long_of, short_of}
use Rattle.clap.specs.Walk.{Held, Row, Rule, Step, Text, Waiting, Walk, after_step, arg_by_long, arg_by_short, finished, idle, nothing_held, option, plain_word, positional, rows_after, settled, takes_values, used, walked, with_default, word_met}
use Rattle.clap.specs.Simple.{filled}
use Rattle.clap.specs.Values.{IsUnsignedIn, refused_kind}
use Rattle.clap.specs.ValueTests.{accepts}
use Rattle.clap.proofs.ValueTestLemmas.{Accepts-accepts, accepts-Accepts}
use Rattle.clap.specs.declared.builder.value_parser.ValueParser.{ValueParser}
use Rattle.clap.specs.declared.builder.value_parser.ValueParser.TheVariants.{Unsigned}
use Rattle.clap.specs.Kinds.{Kinds, or_else, value_kinds}
use Rattle.clap.specs.Faults.{check_fault, defaults_fault, level_fault, long_fault, react_fault, repeat_fault, settle_fault, turn_fault, use_fault, walk_fault}
use Rattle.clap.proofs.OnLiterals.{clap_on_literals}
use Rattle.clap.specs.declared.parser.matches.ValueSource.TheVariants.{CommandLine}
use Rattle.clap.specs.declared.builder.value_parser.Reading.TheVariants.{AsWritten}
use Rattle.walter_words.specs.Lines.{calls_rule, seed_rule}
use Rattle.walter_words.specs.Words.{BeginsBy, IsEnd}
use Rattle.walter_words.proofs.Longs.{long_with, long_without, same_some}
use Rattle.walter_words.proofs.Levels.{IsRequest, help_flag, help_request, is_request, load_level, request_fails}
use Rattle.walter_words.proofs.Turns.{at_word, both_empty, hyphens, idle_turn, one_word, value_fails, waiting_turn}

-- the seed, or the number of calls
abbrev pub name_of : Bool → Text
name_of true = codes "seed"
name_of false = codes "calls"

abbrev pub option_of : Bool → Rule
option_of true = filled seed_rule
option_of false = filled calls_rule

abbrev pub held : List Row → Option (Text × List Text) → Held
held rows pending = record { rows = rows; pending = pending; skip = 0 }

abbrev pub settled_rows : List Row → Option (Text × List Text) → List Row
settled_rows rows pending = (settled load_level.rules (held rows pending)).rows

abbrev settle : List Row → Option (Text × List Text) → Kinds
settle rows pending = settle_fault load_level.rules false (held rows pending)

load_shorts : (x : ℕ) (a : Rule) (h : Held) → arg_by_short load_level.rules x ≡ Some a → (takes_values a ≡ false) × (react_fault load_level.rules load_level.args_override_self a [] h ≡ [] → ⊥)
load_shorts x a h e = go (104 == x) refl
  where
    go : (b : Bool) → (104 == x) ≡ b → (takes_values a ≡ false) × (react_fault load_level.rules load_level.args_override_self a [] h ≡ [] → ⊥)
    go true is = let r = is_request load_level help_flag a (help_request load_level) (rw is at e) in (r.0, r.1 h)
    go false is = let bad : None ≡ Some a = rw is at e in cc

load_flags : (name : Text) (a : Rule) → arg_by_long load_level.rules name ≡ Some a → ((b : Bool) × (name ≡ name_of b) × (a ≡ option_of b)) ⊎ IsRequest load_level a
load_flags name a e = go (bytes_eq (codes "seed") name) refl
  where
    third : (b : Bool) → bytes_eq (codes "seed") name ≡ false → bytes_eq (codes "calls") name ≡ false → bytes_eq (codes "help") name ≡ b
        → ((b : Bool) × (name ≡ name_of b) × (a ≡ option_of b)) ⊎ IsRequest load_level a
    third true first second is = inr (is_request load_level help_flag a (help_request load_level) (rw (first, second, is) at e))
    third false first second is = let bad : None ≡ Some a = rw (first, second, is) at e in cc

    second : (b : Bool) → bytes_eq (codes "seed") name ≡ false → bytes_eq (codes "calls") name ≡ b
        → ((b : Bool) × (name ≡ name_of b) × (a ≡ option_of b)) ⊎ IsRequest load_level a
    second true first is = inl (false, sym ((bytes_eq-Decides _ _).0 is), sym (same_some _ _ (rw (first, is) at e)))
    second false first is = third (bytes_eq (codes "help") name) first is refl

    go : (b : Bool) → bytes_eq (codes "seed") name ≡ b → ((b : Bool) × (name ≡ name_of b) × (a ≡ option_of b)) ⊎ IsRequest load_level a
    go true is = inl (true, sym ((bytes_eq-Decides _ _).0 is), sym (same_some _ _ (rw is at e)))
    go false is = second (bytes_eq (codes "calls") name) is refl

-- what the end of the words asks
abbrev Ends : Walk → Type 0
Ends w = (settle_fault load_level.rules false w.held ≡ []) × (check_fault load_level (finished load_level.rules w.held) false ≡ [])

abbrev after : List Row → Option (Text × List Text) → List Text → Walk
after rows pending words = fold (walked load_level.rules []) (at_word rows pending idle false) words

-- an option is read, and the words go on behind it
abbrev Reads : List Row → Option (Text × List Text) → List Text → Type 0
Reads rows pending words = (b : Bool) × (v : Text) × (rest : List Text) × (rows2 : List Row) × (pending2 : Option (Text × List Text))
    × BeginsBy (name_of b) v words rest
    × (settle rows pending ≡ [])
    × (settle rows2 pending2 ≡ [] → use_fault false (option_of b) (v ∷ []) (settled_rows rows pending) ≡ [])
    × (settled_rows rows2 pending2 ≡ used (option_of b) (v ∷ []) (settled_rows rows pending))
    × (walk_fault load_level [] (at_word rows2 pending2 idle false) rest ≡ [])
    × (after rows pending words ≡ after rows2 pending2 rest)

load_no_more : (rest : List Text) (rows : List Row) (pending : Option (Text × List Text)) (waiting : Waiting) → walk_fault load_level [] (at_word rows pending waiting true) rest ≡ [] → rest ≡ []
load_no_more [] rows pending waiting e = refl
load_no_more (word ∷ rest) rows pending waiting e =
    absurd (value_fails load_level refl load_shorts (held rows pending) (one_word load_level [] (at_word rows pending waiting true) word rest e).0)

-- an option that has no value yet fails
waits : (b : Bool) (rows : List Row) → settle rows (Some (name_of b, [])) ≡ [] → ⊥
waits true rows e = cc
waits false rows e = cc

-- ---- `--name=value`

joined_step : (b : Bool) (word name x : Text) (a : Rule) (rows : List Row) (pending : Option (Text × List Text)) → bytes_eq word hyphens ≡ false
    → long_of word ≡ Some (name, Some x) → arg_by_long load_level.rules name ≡ Some a → a ≡ option_of b
    → walked load_level.rules [] (at_word rows pending idle false) word ≡ at_word (used (option_of b) (x ∷ []) (settled_rows rows pending)) None idle false
unfolding walked
joined_step true word name x a rows pending unlike long found is = rw (unlike, long, found, is) refl
joined_step false word name x a rows pending unlike long found is = rw (unlike, long, found, is) refl

joined_fault : (b : Bool) (x : Text) (rows : List Row) (pending : Option (Text × List Text))
    → long_fault load_level.rules false (Some (option_of b)) (Some x) (held rows pending) ≡ []
    → (settle rows pending ≡ []) × (use_fault false (option_of b) (x ∷ []) (settled_rows rows pending) ≡ [])
joined_fault true x rows pending e = both_empty (settle rows pending) (use_fault false (option_of true) (x ∷ []) (settled_rows rows pending)) e
joined_fault false x rows pending e = both_empty (settle rows pending) (use_fault false (option_of false) (x ∷ []) (settled_rows rows pending)) e

joined : (b : Bool) (word name x : Text) (a : Rule) (rest : List Text) (rows : List Row) (pending : Option (Text × List Text)) → bytes_eq word hyphens ≡ false
    → long_of word ≡ Some (name, Some x) → arg_by_long load_level.rules name ≡ Some a → name ≡ name_of b → a ≡ option_of b
    → long_fault load_level.rules false (Some a) (Some x) (held rows pending) ≡ []
    → walk_fault load_level [] (walked load_level.rules [] (at_word rows pending idle false) word) rest ≡ []
    → Reads rows pending (word ∷ rest)
joined b word name x a rest rows pending unlike long found named is fault onward =
    let step = joined_step b word name x a rows pending unlike long found is in
    let faults = joined_fault b x rows pending (rw is at fault) in (
      b,
      x,
      rest,
      used (option_of b) (x ∷ []) (settled_rows rows pending),
      None,
      inl (ap (λ w. w ∷ rest) (long_with word name x long ∙ ap (λ n. 45 ∷ 45 ∷ (n ++ 61 ∷ x)) named)),
      faults.0,
      λ none. faults.1,
      refl,
      subst (λ w. walk_fault load_level [] w rest ≡ []) step onward,
      ap (λ w. fold (walked load_level.rules []) w rest) step,
    )

-- ---- `--name value`

parted_step : (b : Bool) (word name : Text) (a : Rule) (rows : List Row) (pending : Option (Text × List Text)) → bytes_eq word hyphens ≡ false
    → long_of word ≡ Some (name, None) → arg_by_long load_level.rules name ≡ Some a → a ≡ option_of b
    → walked load_level.rules [] (at_word rows pending idle false) word ≡ at_word (settled_rows rows pending) (Some (name_of b, [])) (option (name_of b)) false
unfolding walked
parted_step true word name a rows pending unlike long found is = rw (unlike, long, found, is) refl
parted_step false word name a rows pending unlike long found is = rw (unlike, long, found, is) refl

value_step : (b : Bool) (v : Text) (rows : List Row) → word_met load_level.rules [] false (option (name_of b)) 1 v (held rows (Some (name_of b, [])))
    ≡ plain_word load_level.rules (option (name_of b)) v (held rows (Some (name_of b, [])))
    → walked load_level.rules [] (at_word rows (Some (name_of b, [])) (option (name_of b)) false) v ≡ at_word rows (Some (name_of b, v ∷ [])) idle false
unfolding walked
value_step true v rows e = ap (λ (m : Held × Step). after_step load_level.rules v (at_word rows (Some (name_of true, [])) (option (name_of true)) false) m.0 m.1) e
value_step false v rows e = ap (λ (m : Held × Step). after_step load_level.rules v (at_word rows (Some (name_of false, [])) (option (name_of false)) false) m.0 m.1) e

hyphens_step : (rows : List Row) (pending : Option (Text × List Text)) (waiting : Waiting) → walked load_level.rules [] (at_word rows pending waiting false) hyphens ≡ at_word rows pending waiting true
unfolding walked
hyphens_step rows pending idle = refl
hyphens_step rows pending (option id) = refl
hyphens_step rows pending positional = refl

pushed_faults : (b : Bool) (v : Text) (rows : List Row) → settle rows (Some (name_of b, v ∷ [])) ≡ use_fault false (option_of b) (v ∷ []) rows
pushed_faults true v rows = refl
pushed_faults false v rows = refl

pushed_rows : (b : Bool) (v : Text) (rows : List Row) → settled_rows rows (Some (name_of b, v ∷ [])) ≡ used (option_of b) (v ∷ []) rows
pushed_rows true v rows = refl
pushed_rows false v rows = refl

parted_fault : (b : Bool) (rows : List Row) (pending : Option (Text × List Text))
    → long_fault load_level.rules false (Some (option_of b)) None (held rows pending) ≡ [] → settle rows pending ≡ []
parted_fault true rows pending e = e
parted_fault false rows pending e = e

parted : (b : Bool) (word name : Text) (a : Rule) (rest : List Text) (rows : List Row) (pending : Option (Text × List Text)) → bytes_eq word hyphens ≡ false
    → long_of word ≡ Some (name, None) → arg_by_long load_level.rules name ≡ Some a → name ≡ name_of b → a ≡ option_of b
    → long_fault load_level.rules false (Some a) None (held rows pending) ≡ []
    → walk_fault load_level [] (walked load_level.rules [] (at_word rows pending idle false) word) rest ≡ []
    → Ends (after rows pending (word ∷ rest))
    → Reads rows pending (word ∷ rest)
parted b word name a [] rows pending unlike long found named is fault onward end =
    let step = parted_step b word name a rows pending unlike long found is in
    absurd (waits b (settled_rows rows pending) (subst Ends step end).0)
parted b word name a (v ∷ rest) rows pending unlike long found named is fault onward end =
    let step = parted_step b word name a rows pending unlike long found is in
    let now = settled_rows rows pending in
    let waiting = at_word now (Some (name_of b, [])) (option (name_of b)) false in
    let one = one_word load_level [] waiting v rest (subst (λ w. walk_fault load_level [] w (v ∷ rest) ≡ []) step onward) in
    let is_word = long_without word name long ∙ ap (λ n. 45 ∷ 45 ∷ n) named in
    elim (waiting_turn load_level refl load_shorts (name_of b) v now (Some (name_of b, [])) (waits b now) one.0) [
      | inl hyphen ↦
          let go = hyphens_step now (Some (name_of b, [])) (option (name_of b)) in
          let on : walk_fault load_level [] (at_word now (Some (name_of b, [])) (option (name_of b)) true) rest ≡ [] =
          subst (λ w. walk_fault load_level [] w rest ≡ []) (ap (walked load_level.rules [] waiting) hyphen ∙ go) one.1 in
          let none = load_no_more rest now (Some (name_of b, [])) (option (name_of b)) on in
          let last : after rows pending (word ∷ v ∷ rest) ≡ at_word now (Some (name_of b, [])) (option (name_of b)) true =
          ap (λ w. fold (walked load_level.rules []) (walked load_level.rules [] w v) rest) step
          ∙ (ap (λ w. fold (walked load_level.rules []) w rest) (ap (walked load_level.rules [] waiting) hyphen ∙ go)
          ∙ ap (λ r. fold (walked load_level.rules []) (at_word now (Some (name_of b, [])) (option (name_of b)) true) r) none) in
          absurd (waits b now (subst Ends last end).0)
      | inr value ↦
          let next = value_step b v now value in (
            b,
            v,
            rest,
            now,
            Some (name_of b, v ∷ []),
            inr (ap (λ w. w ∷ v ∷ rest) is_word),
            parted_fault b rows pending (rw is at fault),
            λ none. sym (pushed_faults b v now) ∙ none,
            pushed_rows b v now,
            subst (λ w. walk_fault load_level [] w rest ≡ []) next one.1,
            ap (λ w. fold (walked load_level.rules []) (walked load_level.rules [] w v) rest) step ∙ ap (λ w. fold (walked load_level.rules []) w rest) next,
          )
    ]

-- ---- the options one behind the other

option_case : (b : Bool) (word name : Text) (v : Option Text) (a : Rule) (rest : List Text) (rows : List Row) (pending : Option (Text × List Text)) → bytes_eq word hyphens ≡ false
    → long_of word ≡ Some (name, v) → arg_by_long load_level.rules name ≡ Some a → name ≡ name_of b → a ≡ option_of b
    → long_fault load_level.rules false (Some a) v (held rows pending) ≡ []
    → walk_fault load_level [] (walked load_level.rules [] (at_word rows pending idle false) word) rest ≡ []
    → Ends (after rows pending (word ∷ rest))
    → Reads rows pending (word ∷ rest)
option_case b word name None a rest rows pending unlike long found named is fault onward end = parted b word name a rest rows pending unlike long found named is fault onward end
option_case b word name (Some x) a rest rows pending unlike long found named is fault onward end = joined b word name x a rest rows pending unlike long found named is fault onward

load_option : (words : List Text) (rows : List Row) (pending : Option (Text × List Text)) → walk_fault load_level [] (at_word rows pending idle false) words ≡ []
    → Ends (after rows pending words) → IsEnd words ⊎ Reads rows pending words
load_option [] rows pending e end = inl (inl refl)
load_option (word ∷ rest) rows pending e end =
    let one = one_word load_level [] (at_word rows pending idle false) word rest e in
    elim (idle_turn load_level refl load_shorts [] word rows pending refl one.0) [
      | inl hyphen ↦
          let on : walk_fault load_level [] (at_word rows pending idle true) rest ≡ [] =
          subst (λ w. walk_fault load_level [] w rest ≡ []) (ap (walked load_level.rules [] (at_word rows pending idle false)) hyphen ∙ hyphens_step rows pending idle) one.1 in
          inl (inr (ap (λ w. w ∷ rest) hyphen ∙ ap (λ r. hyphens ∷ r) (load_no_more rest rows pending idle on)))
      | inr read ↦ elim (load_flags read.0.0 read.1 read.3) [
        | inl known ↦ inr (option_case known.0 word read.0.0 read.0.1 read.1 rest rows pending read.5 read.2 read.3 known.1 known.2 read.4 one.1 end)
        | inr request ↦ absurd (request_fails load_level read.1 read.0.1 (held rows pending) request read.4)
      ]
    ]

-- what holds where the words end
abbrev EndsAt : List Row → Option (Text × List Text) → Type 0
EndsAt rows pending = (settle rows pending ≡ []) × (check_fault load_level (fold with_default (settled_rows rows pending) load_level.rules) false ≡ [])

ends_at : (rest : List Text) (rows : List Row) (pending : Option (Text × List Text)) → IsEnd rest → Ends (after rows pending rest) → EndsAt rows pending
ends_at rest rows pending (inl none) end = subst (λ r. Ends (after rows pending r)) none end
ends_at rest rows pending (inr hyphen) end = subst Ends (hyphens_step rows pending idle) (subst (λ r. Ends (after rows pending r)) hyphen end)

settles : (words : List Text) (rows : List Row) (pending : Option (Text × List Text)) → walk_fault load_level [] (at_word rows pending idle false) words ≡ []
    → Ends (after rows pending words) → settle rows pending ≡ []
settles words rows pending e end = elim (load_option words rows pending e end) [
  | inl over ↦ (ends_at words rows pending over end).0
  | inr read ↦ read.6
]

abbrev pub row : Bool → Text → Row
row b v = record { id = name_of b; values = v ∷ []; count = None; source = Some CommandLine; reading = AsWritten }

first_row : (b : Bool) (v : Text) → used (option_of b) (v ∷ []) [] ≡ row b v ∷ []
first_row true v = refl
first_row false v = refl

second_row : (b : Bool) (v u : Text) → used (option_of (not b)) (u ∷ []) (row b v ∷ []) ≡ row b v ∷ row (not b) u ∷ []
second_row true v u = refl
second_row false v u = refl

none_missing : check_fault load_level (fold with_default [] load_level.rules) false ≡ [] → ⊥
none_missing e = cc

one_missing : (b : Bool) (v : Text) → check_fault load_level (fold with_default (row b v ∷ []) load_level.rules) false ≡ [] → ⊥
one_missing true v e = cc
one_missing false v e = cc

another : (b c : Bool) (v u : Text) → use_fault false (option_of c) (u ∷ []) (row b v ∷ []) ≡ [] → c ≡ not b
another true true v u e = cc
another true false v u e = refl
another false true v u e = refl
another false false v u e = cc

no_third : (b c : Bool) (v u t : Text) → use_fault false (option_of c) (t ∷ []) (row b v ∷ row (not b) u ∷ []) ≡ [] → ⊥
no_third true true v u t e = cc
no_third true false v u t e = cc
no_third false true v u t e = cc
no_third false false v u t e = cc

-- ---- all that stands behind `load`

abbrev pub most : Bool → ℕ
most true = 18446744073709551615
most false = 20000

value_accepted : (p : ValueParser) (v : Text) → value_kinds false p v ≡ [] → accepts false p v ≡ true
value_accepted p v e = go (accepts false p v) refl
  where
    go : (b : Bool) → accepts false p v ≡ b → accepts false p v ≡ true
    go true is = is
    go false is = let bad : refused_kind p ∷ [] ≡ [] = rw is at e in cc

number_passes : (b : Bool) (v : Text) (rows : List Row) → use_fault false (option_of b) (v ∷ []) rows ≡ [] → IsUnsignedIn 0 (most b) v
number_passes true v rows e =
    accepts-Accepts false (Unsigned 0 (most true)) v (value_accepted (Unsigned 0 (most true)) v
    (both_empty (value_kinds false (Unsigned 0 (most true)) v) [] (both_empty (repeat_fault false (codes "seed") rows) (or_else (value_kinds false (Unsigned 0 (most true)) v) []) e).1).0)
number_passes false v rows e =
    accepts-Accepts false (Unsigned 0 (most false)) v (value_accepted (Unsigned 0 (most false)) v
    (both_empty (value_kinds false (Unsigned 0 (most false)) v) [] (both_empty (repeat_fault false (codes "calls") rows) (or_else (value_kinds false (Unsigned 0 (most false)) v) []) e).1).0)

ends_held : (rest : List Text) (rows : List Row) (pending : Option (Text × List Text)) → IsEnd rest → (after rows pending rest).held ≡ held rows pending
ends_held rest rows pending (inl none) = ap (λ r. (after rows pending r).held) none
ends_held rest rows pending (inr hyphen) = ap (λ r. (after rows pending r).held) hyphen ∙ ap (λ (w : Walk). w.held) (hyphens_step rows pending idle)

no_defaults : (b : Bool) (v u : Text) → fold with_default (row b v ∷ row (not b) u ∷ []) load_level.rules ≡ row b v ∷ row (not b) u ∷ []
no_defaults true v u = refl
no_defaults false v u = refl

-- the two options, once each, and what the matches have of them
abbrev pub TwoOptions : List Text → Type 0
TwoOptions words = (b : Bool) × (v : Text) × (u : Text) × (between : List Text) × (rest : List Text)
    × BeginsBy (name_of b) v words between × BeginsBy (name_of (not b)) u between rest × IsEnd rest
    × IsUnsignedIn 0 (most b) v × IsUnsignedIn 0 (most (not b)) u × (rows_after load_level.rules [] words ≡ row b v ∷ row (not b) u ∷ [])

ending : (words between rest : List Text) (b c : Bool) (v u : Text) (rows2 rows3 : List Row) (pending2 pending3 : Option (Text × List Text))
    → BeginsBy (name_of b) v words between → BeginsBy (name_of c) u between rest → IsEnd rest → c ≡ not b
    → use_fault false (option_of b) (v ∷ []) [] ≡ [] → use_fault false (option_of c) (u ∷ []) (row b v ∷ []) ≡ []
    → settled_rows rows3 pending3 ≡ used (option_of c) (u ∷ []) (row b v ∷ []) → after [] None words ≡ after rows3 pending3 rest → TwoOptions words
ending words between rest b c v u rows2 rows3 pending2 pending3 first second over other use1 use2 rows_are walk_is =
    let last : rows_after load_level.rules [] words ≡ fold with_default (settled_rows rows3 pending3) load_level.rules =
    ap (λ (h : Held). finished load_level.rules h) (ap (λ (w : Walk). w.held) walk_is ∙ ends_held rest rows3 pending3 over) in
    let both : settled_rows rows3 pending3 ≡ row b v ∷ row (not b) u ∷ [] =
    rows_are ∙ (ap (λ d. used (option_of d) (u ∷ []) (row b v ∷ [])) other ∙ second_row b v u) in (
      b,
      v,
      u,
      between,
      rest,
      first,
      subst (λ d. BeginsBy (name_of d) u between rest) other second,
      over,
      number_passes b v [] use1,
      number_passes (not b) u (row b v ∷ []) (subst (λ d. use_fault false (option_of d) (u ∷ []) (row b v ∷ []) ≡ []) other use2),
      last ∙ (ap (λ rows. fold with_default rows load_level.rules) both ∙ no_defaults b v u),
    )

two_options : (words : List Text) → walk_fault load_level [] (at_word [] None idle false) words ≡ [] → Ends (after [] None words) → TwoOptions words
two_options words e end = elim (load_option words [] None e end) [
  | inl over ↦ absurd (none_missing (ends_at words [] None over end).1)
  | inr one ↦
      let b = one.0 in
      let v = one.1 in
      let end1 = subst Ends one.10 end in
      let use1 = one.7 (settles one.2 one.3 one.4 one.9 end1) in
      let rows1 : settled_rows one.3 one.4 ≡ row b v ∷ [] = one.8 ∙ first_row b v in
      elim (load_option one.2 one.3 one.4 one.9 end1) [
        | inl over ↦ absurd (one_missing b v (subst (λ rows. check_fault load_level (fold with_default rows load_level.rules) false ≡ []) rows1 (ends_at one.2 one.3 one.4 over end1).1))
        | inr two ↦
            let u = two.1 in
            let end2 = subst Ends two.10 end1 in
            let use2 : use_fault false (option_of two.0) (u ∷ []) (row b v ∷ []) ≡ [] =
            subst (λ rows. use_fault false (option_of two.0) (u ∷ []) rows ≡ []) rows1 (two.7 (settles two.2 two.3 two.4 two.9 end2)) in
            let other = another b two.0 v u use2 in
            let rows2 : settled_rows two.3 two.4 ≡ used (option_of two.0) (u ∷ []) (row b v ∷ []) = two.8 ∙ ap (λ rows. used (option_of two.0) (u ∷ []) rows) rows1 in
            elim (load_option two.2 two.3 two.4 two.9 end2) [
              | inl over ↦ ending words one.2 two.2 b two.0 v u one.3 two.3 one.4 two.4 one.5 two.5 over other use1 use2 rows2 (one.10 ∙ two.10)
              | inr three ↦
                  let rows3 : settled_rows two.3 two.4 ≡ row b v ∷ row (not b) u ∷ [] = rows2 ∙ (ap (λ d. used (option_of d) (u ∷ []) (row b v ∷ [])) other ∙ second_row b v u) in
                  absurd (no_third b three.0 v u three.1 (subst (λ rows. use_fault false (option_of three.0) (three.1 ∷ []) rows ≡ []) rows3
                  (three.7 (settles three.2 three.3 three.4 three.9 (subst Ends three.10 end2)))))
            ]
      ]
]

-- the words behind `load` that it takes
pub behind_load : (words : List Text) → level_fault load_level [] nothing_held words false [] ≡ [] → TwoOptions words
behind_load words e =
    let last = after [] None words in
    let first = both_empty (walk_fault load_level [] (at_word [] None idle false) words)
    (or_else [] (or_else (settle_fault load_level.rules false last.held) (or_else (defaults_fault (settled load_level.rules last.held).rows load_level.rules)
    (check_fault load_level (finished load_level.rules last.held) false)))) e in
    let second = both_empty (settle_fault load_level.rules false last.held) (or_else (defaults_fault (settled load_level.rules last.held).rows load_level.rules)
    (check_fault load_level (finished load_level.rules last.held) false)) first.1 in
    let checked = both_empty (defaults_fault (settled load_level.rules last.held).rows load_level.rules) (check_fault load_level (finished load_level.rules last.held) false) second.1 in
    two_options words first.0 (second.0, checked.1)

-- ---- and that it takes them

-- what makes a word no flag
abbrev pub IsNoFlag : Text → Type 0
IsNoFlag v = (bytes_eq v hyphens ≡ false) × (long_of v ≡ None) × (short_of v ≡ None)

abbrev Passes : Bool → Text → List Row → Option (Text × List Text) → List Text → List Text → Type 0
Passes b v rows pending words rest = (rows2 : List Row) × (pending2 : Option (Text × List Text))
    × (settle rows2 pending2 ≡ []) × (settled_rows rows2 pending2 ≡ used (option_of b) (v ∷ []) (settled_rows rows pending))
    × (walk_fault load_level [] (at_word rows pending idle false) words ≡ walk_fault load_level [] (at_word rows2 pending2 idle false) rest)
    × (after rows pending words ≡ after rows2 pending2 rest)

-- a walk over a word that passes
past : (w : Walk) (word : Text) (rest : List Text) (next : Walk) → turn_fault load_level [] w word ≡ [] → walked load_level.rules [] w word ≡ next
    → walk_fault load_level [] w (word ∷ rest) ≡ walk_fault load_level [] next rest
unfolding walk_fault
past w word rest next turn step =
    ap (λ k. or_else k (walk_fault load_level [] (walked load_level.rules [] w word) rest)) turn ∙ ap (λ x. walk_fault load_level [] x rest) step

joined_turn : (b : Bool) (v : Text) (rows : List Row) (pending : Option (Text × List Text)) → settle rows pending ≡ []
    → use_fault false (option_of b) (v ∷ []) (settled_rows rows pending) ≡ []
    → turn_fault load_level [] (at_word rows pending idle false) (45 ∷ 45 ∷ (name_of b ++ 61 ∷ v)) ≡ []
joined_turn true v rows pending none fit = ap₂ (λ x y. or_else (or_else x y) []) none fit
joined_turn false v rows pending none fit = ap₂ (λ x y. or_else (or_else x y) []) none fit

joined_walk : (b : Bool) (v : Text) (rows : List Row) (pending : Option (Text × List Text))
    → walked load_level.rules [] (at_word rows pending idle false) (45 ∷ 45 ∷ (name_of b ++ 61 ∷ v)) ≡ at_word (used (option_of b) (v ∷ []) (settled_rows rows pending)) None idle false
unfolding walked
joined_walk true v rows pending = refl
joined_walk false v rows pending = refl

parted_turn : (b : Bool) (rows : List Row) (pending : Option (Text × List Text)) → settle rows pending ≡ []
    → turn_fault load_level [] (at_word rows pending idle false) (45 ∷ 45 ∷ name_of b) ≡ []
parted_turn true rows pending none = ap (λ x. or_else x []) none
parted_turn false rows pending none = ap (λ x. or_else x []) none

parted_walk : (b : Bool) (rows : List Row) (pending : Option (Text × List Text))
    → walked load_level.rules [] (at_word rows pending idle false) (45 ∷ 45 ∷ name_of b) ≡ at_word (settled_rows rows pending) (Some (name_of b, [])) (option (name_of b)) false
unfolding walked
parted_walk true rows pending = refl
parted_walk false rows pending = refl

value_turn : (b : Bool) (v : Text) (rows : List Row) → IsNoFlag v → turn_fault load_level [] (at_word rows (Some (name_of b, [])) (option (name_of b)) false) v ≡ []
value_turn true v rows plain = rw (plain.0, plain.1, plain.2) refl
value_turn false v rows plain = rw (plain.0, plain.1, plain.2) refl

value_met : (b : Bool) (v : Text) (rows : List Row) → IsNoFlag v → word_met load_level.rules [] false (option (name_of b)) 1 v (held rows (Some (name_of b, [])))
    ≡ plain_word load_level.rules (option (name_of b)) v (held rows (Some (name_of b, [])))
value_met b v rows plain = rw (plain.0, plain.1, plain.2) refl

option_passes : (b : Bool) (v : Text) (rows : List Row) (pending : Option (Text × List Text)) (words rest : List Text) → BeginsBy (name_of b) v words rest → IsNoFlag v
    → settle rows pending ≡ [] → use_fault false (option_of b) (v ∷ []) (settled_rows rows pending) ≡ [] → Passes b v rows pending words rest
option_passes b v rows pending words rest (inl is) plain none fit =
    let step = joined_walk b v rows pending in
    let now = used (option_of b) (v ∷ []) (settled_rows rows pending) in (
      now,
      None,
      refl,
      refl,
      ap (λ w. walk_fault load_level [] (at_word rows pending idle false) w) is ∙ past _ _ rest (at_word now None idle false) (joined_turn b v rows pending none fit) step,
      ap (λ w. after rows pending w) is ∙ ap (λ w. fold (walked load_level.rules []) w rest) step,
    )
option_passes b v rows pending words rest (inr is) plain none fit =
    let now = settled_rows rows pending in
    let waiting = at_word now (Some (name_of b, [])) (option (name_of b)) false in
    let step = parted_walk b rows pending in
    let next = value_step b v now (value_met b v now plain) in (
      now,
      Some (name_of b, v ∷ []),
      pushed_faults b v now ∙ fit,
      pushed_rows b v now,
      ap (λ w. walk_fault load_level [] (at_word rows pending idle false) w) is ∙ (past _ _ (v ∷ rest) waiting (parted_turn b rows pending none) step
          ∙ past waiting v rest (at_word now (Some (name_of b, v ∷ [])) idle false) (value_turn b v now plain) next),
      ap (λ w. after rows pending w) is ∙ (ap (λ w. fold (walked load_level.rules []) (walked load_level.rules [] w v) rest) step
          ∙ ap (λ w. fold (walked load_level.rules []) w rest) next),
    )

number_use : (b : Bool) (v : Text) → IsUnsignedIn 0 (most b) v → use_fault false (option_of b) (v ∷ []) [] ≡ []
number_use true v h = rw (Accepts-accepts false (Unsigned 0 (most true)) v h) refl
number_use false v h = rw (Accepts-accepts false (Unsigned 0 (most false)) v h) refl

second_use : (b : Bool) (v u : Text) → IsUnsignedIn 0 (most (not b)) u → use_fault false (option_of (not b)) (u ∷ []) (row b v ∷ []) ≡ []
second_use true v u h = rw (Accepts-accepts false (Unsigned 0 (most false)) u h) refl
second_use false v u h = rw (Accepts-accepts false (Unsigned 0 (most true)) u h) refl

end_passes : (rest : List Text) (rows : List Row) (pending : Option (Text × List Text)) → IsEnd rest → walk_fault load_level [] (at_word rows pending idle false) rest ≡ []
unfolding walk_fault
end_passes rest rows pending (inl none) = ap (λ r. walk_fault load_level [] (at_word rows pending idle false) r) none
end_passes rest rows pending (inr hyphen) = ap (λ r. walk_fault load_level [] (at_word rows pending idle false) r) hyphen

nothing_missing : (b : Bool) (v u : Text) → or_else (defaults_fault (row b v ∷ row (not b) u ∷ []) load_level.rules)
    (check_fault load_level (fold with_default (row b v ∷ row (not b) u ∷ []) load_level.rules) false) ≡ []
unfolding clap_on_literals
nothing_missing true v u = refl
nothing_missing false v u = refl

-- two options with numbers that fit are taken
pub load_passes : (b : Bool) (v u : Text) (words between rest : List Text) → BeginsBy (name_of b) v words between → BeginsBy (name_of (not b)) u between rest → IsEnd rest
    → IsNoFlag v → IsNoFlag u → IsUnsignedIn 0 (most b) v → IsUnsignedIn 0 (most (not b)) u
    → (level_fault load_level [] nothing_held words false [] ≡ []) × (rows_after load_level.rules [] words ≡ row b v ∷ row (not b) u ∷ [])
load_passes b v u words between rest first second over plain plain2 fits fits2 =
    let one = option_passes b v [] None words between first plain refl (number_use b v fits) in
    let rows1 : settled_rows one.0 one.1 ≡ row b v ∷ [] = one.3 ∙ first_row b v in
    let use2 : use_fault false (option_of (not b)) (u ∷ []) (settled_rows one.0 one.1) ≡ [] =
    ap (λ rows. use_fault false (option_of (not b)) (u ∷ []) rows) rows1 ∙ second_use b v u fits2 in
    let two = option_passes (not b) u one.0 one.1 between rest second plain2 one.2 use2 in
    let rows2 : settled_rows two.0 two.1 ≡ row b v ∷ row (not b) u ∷ [] = two.3 ∙ (ap (λ rows. used (option_of (not b)) (u ∷ []) rows) rows1 ∙ second_row b v u) in
    let walk_is : walk_fault load_level [] (at_word [] None idle false) words ≡ [] = one.4 ∙ (two.4 ∙ end_passes rest two.0 two.1 over) in
    let held_is : (after [] None words).held ≡ held two.0 two.1 = ap (λ (w : Walk). w.held) (one.5 ∙ two.5) ∙ ends_held rest two.0 two.1 over in
    let behind : Held → Kinds = λ h. or_else (settle_fault load_level.rules false h) (or_else (defaults_fault (settled load_level.rules h).rows load_level.rules)
    (check_fault load_level (finished load_level.rules h) false)) in (
      ap₂ (λ x (h : Held). or_else x (behind h)) walk_is held_is
          ∙ (ap₂ (λ x rows. or_else x (or_else (defaults_fault rows load_level.rules) (check_fault load_level (fold with_default rows load_level.rules) false))) two.2 rows2
          ∙ nothing_missing b v u),
      ap (λ (h : Held). finished load_level.rules h) held_is ∙ (ap (λ rows. fold with_default rows load_level.rules) rows2 ∙ no_defaults b v u),
    )
