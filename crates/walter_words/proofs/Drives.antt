-- What stands behind `play` and `run`.
use Rattle.std.proofs.Common.{◌≡◌, ◌⊎◌, ◌∙◌, ◌==◌, ◌<◌, ℕ, Bool, true, false, List, [], ◌∷◌, ◌++◌, length, Option, Some, None, codes, fold, refl, sym, ap, ap₂, inl, inr, subst}
use Rattle.std.specs.Str.{bytes_eq}
use Rattle.std.proofs.lemmas.Slice.Eq.{bytes_eq-Decides}
use Rattle.clap.specs.Lexer.{long_of}
use Rattle.clap.specs.Walk.{Held, Row, Rule, Step, Text, Waiting, Walk, after_step, arg_by_long, arg_by_short, finished, idle, nothing_held, option, positional, rows_after, settled, takes_values, used, walked, with_default}
use Rattle.clap.specs.Simple.{Shape, filled}
use Rattle.clap.specs.Values.{refused_kind}
use Rattle.clap.specs.ValueTests.{accepts}
use Rattle.clap.proofs.ValueTestLemmas.{Accepts-accepts, accepts-Accepts}
use Rattle.clap.specs.declared.builder.value_parser.ValueParser.TheVariants.{NonEmptyString}
use Rattle.clap.specs.Kinds.{Kinds, or_else, value_kinds}
use Rattle.clap.specs.Faults.{check_fault, defaults_fault, level_fault, long_fault, react_fault, repeat_fault, settle_fault, turn_fault, use_fault, walk_fault}
use Rattle.clap.proofs.OnLiterals.{clap_on_literals}
use Rattle.clap.specs.declared.error.kind.ErrorKind.TheVariants.{TooManyValues}
use Rattle.clap.specs.declared.parser.matches.ValueSource.TheVariants.{CommandLine}
use Rattle.clap.specs.declared.builder.value_parser.Reading.TheVariants.{AsWritten}
use Rattle.walter_words.specs.Lines.{disks_rule, trace_rule}
use Rattle.walter_words.specs.Words.{AreRunOptions, HasOptions, IsEnd, IsPlainWord}
use Rattle.walter_words.proofs.Longs.{long_with, long_without, same_some}
use Rattle.walter_words.proofs.Levels.{IsRequest, driven_level, help_flag, help_request, is_request, request_fails}
use Rattle.walter_words.proofs.Turns.{at_word, both_empty, hyphens, idle_turn, one_word, plain_met, plain_turn, value_fails, waiting_plain}

-- `--trace`, or `--disks` with a folder
abbrev option_of : Option Text → Rule
option_of None = filled trace_rule
option_of (Some folder) = filled disks_rule

abbrev values_of : Option Text → List Text
values_of None = []
values_of (Some folder) = folder ∷ []

abbrev Begins : Option Text → List Text → List Text → Type 0
Begins None words rest = words ≡ codes "--trace" ∷ rest
Begins (Some folder) words rest =
    (words ≡ (codes "--disks=" ++ folder) ∷ rest) ⊎ ((words ≡ codes "--disks" ∷ folder ∷ rest) × IsPlainWord folder)

abbrev held : List Row → Option (Text × List Text) → Held
held rows pending = record { rows = rows; pending = pending; skip = 0 }

abbrev row : Option Text → Row
row None = record { id = codes "trace"; values = codes "true" ∷ []; count = None; source = Some CommandLine; reading = AsWritten }
row (Some folder) = record { id = codes "disks"; values = folder ∷ []; count = None; source = Some CommandLine; reading = AsWritten }

-- the one where the other isn't
abbrev IsOther : Option Text → Option Text → Type 0
IsOther None (Some folder) = Unit {0}
IsOther (Some folder) None = Unit {0}
IsOther _ _ = ⊥

first_row : (o : Option Text) → used (option_of o) (values_of o) [] ≡ row o ∷ []
first_row None = refl
first_row (Some folder) = refl

second_row : (o p : Option Text) → IsOther o p → used (option_of p) (values_of p) (row o ∷ []) ≡ row o ∷ row p ∷ []
second_row None (Some folder) other = refl
second_row (Some folder) None other = refl
second_row None None other = absurd other
second_row (Some a) (Some b) other = absurd other

another : (o p : Option Text) → use_fault false (option_of p) (values_of p) (row o ∷ []) ≡ [] → IsOther o p
another None None e = cc
another None (Some folder) e = tt
another (Some folder) None e = tt
another (Some a) (Some b) e = cc

no_third : (o p q : Option Text) → IsOther o p → use_fault false (option_of q) (values_of q) (row o ∷ row p ∷ []) ≡ [] → ⊥
no_third None (Some folder) None other e = cc
no_third None (Some folder) (Some more) other e = cc
no_third (Some folder) None None other e = cc
no_third (Some folder) None (Some more) other e = cc
no_third None None q other e = absurd other
no_third (Some a) (Some b) q other e = absurd other

accepted : (v : Text) → value_kinds false NonEmptyString v ≡ [] → accepts false NonEmptyString v ≡ true
accepted v e = go (accepts false NonEmptyString v) refl
  where
    go : (b : Bool) → accepts false NonEmptyString v ≡ b → accepts false NonEmptyString v ≡ true
    go true is = is
    go false is = let bad : refused_kind NonEmptyString ∷ [] ≡ [] = rw is at e in cc

-- a folder that is taken isn't empty
pub is_named : (v : Text) (rows : List Row) → use_fault false (option_of (Some v)) (v ∷ []) rows ≡ [] → 0 < length v
is_named v rows e =
    accepts-Accepts false NonEmptyString v (accepted v
    (both_empty (value_kinds false NonEmptyString v) [] (both_empty (repeat_fault false (codes "disks") rows) (or_else (value_kinds false NonEmptyString v) []) e).1).0)

-- and one that isn't empty is taken, once
abbrev IsNamed : Option Text → Type 0
IsNamed None = Unit {0}
IsNamed (Some folder) = 0 < length folder

first_use : (o : Option Text) → IsNamed o → use_fault false (option_of o) (values_of o) [] ≡ []
first_use None named = refl
first_use (Some v) named = rw (Accepts-accepts false NonEmptyString v named) refl

second_use : (o p : Option Text) → IsOther o p → IsNamed p → use_fault false (option_of p) (values_of p) (row o ∷ []) ≡ []
second_use None (Some v) other named = rw (Accepts-accepts false NonEmptyString v named) refl
second_use (Some v) None other named = refl
second_use None None other named = absurd other
second_use (Some a) (Some b) other named = absurd other

-- whether it is `--trace`, and the folder of the two
abbrev is_trace : Option Text → Bool
is_trace None = true
is_trace (Some folder) = false

abbrev the_folder : Option Text → Option Text → Option Text
the_folder None p = p
the_folder (Some folder) p = Some folder

module _ (command : Text) where
  abbrev level : Shape
  level = driven_level command

  abbrev settled_rows : List Row → Option (Text × List Text) → List Row
  settled_rows rows pending = (settled level.rules (held rows pending)).rows

  abbrev settle : List Row → Option (Text × List Text) → Kinds
  settle rows pending = settle_fault level.rules false (held rows pending)

  shorts : (x : ℕ) (a : Rule) (h : Held) → arg_by_short level.rules x ≡ Some a → (takes_values a ≡ false) × (react_fault level.rules level.args_override_self a [] h ≡ [] → ⊥)
  shorts x a h e = go (104 == x) refl
    where
      go : (b : Bool) → (104 == x) ≡ b → (takes_values a ≡ false) × (react_fault level.rules level.args_override_self a [] h ≡ [] → ⊥)
      go true is = let r = is_request level help_flag a (help_request level) (rw is at e) in (r.0, r.1 h)
      go false is = let bad : None ≡ Some a = rw is at e in cc

  abbrev IsKnown : Text → Rule → Type 0
  IsKnown name a = ((name ≡ codes "trace") × (a ≡ filled trace_rule)) ⊎ ((name ≡ codes "disks") × (a ≡ filled disks_rule)) ⊎ IsRequest level a

  flags : (name : Text) (a : Rule) → arg_by_long level.rules name ≡ Some a → IsKnown name a
  flags name a e = go (bytes_eq (codes "trace") name) refl
    where
      third : (b : Bool) → bytes_eq (codes "trace") name ≡ false → bytes_eq (codes "disks") name ≡ false → bytes_eq (codes "help") name ≡ b → IsKnown name a
      third true first second is = inr (inr (is_request level help_flag a (help_request level) (rw (first, second, is) at e)))
      third false first second is = let bad : None ≡ Some a = rw (first, second, is) at e in cc

      second : (b : Bool) → bytes_eq (codes "trace") name ≡ false → bytes_eq (codes "disks") name ≡ b → IsKnown name a
      second true first is = inr (inl (sym ((bytes_eq-Decides _ _).0 is), sym (same_some _ _ (rw (first, is) at e))))
      second false first is = third (bytes_eq (codes "help") name) first is refl

      go : (b : Bool) → bytes_eq (codes "trace") name ≡ b → IsKnown name a
      go true is = inl (sym ((bytes_eq-Decides _ _).0 is), sym (same_some _ _ (rw is at e)))
      go false is = second (bytes_eq (codes "disks") name) is refl

  -- what the end of the words asks
  abbrev Ends : Walk → Type 0
  Ends w = settle_fault level.rules false w.held ≡ []

  abbrev after : List Row → Option (Text × List Text) → List Text → Walk
  after rows pending words = fold (walked level.rules []) (at_word rows pending idle false) words

  -- an option is read, and the words go on behind it
  record Reads (rows : List Row) (pending : Option (Text × List Text)) (words : List Text) : Type 0 where
    which : Option Text
    rest : List Text
    rows2 : List Row
    pending2 : Option (Text × List Text)
    begins : Begins which words rest
    settles : settle rows pending ≡ []
    fits : settle rows2 pending2 ≡ [] → use_fault false (option_of which) (values_of which) (settled_rows rows pending) ≡ []
    rows_are : settled_rows rows2 pending2 ≡ used (option_of which) (values_of which) (settled_rows rows pending)
    onward : walk_fault level [] (at_word rows2 pending2 idle false) rest ≡ []
    same : after rows pending words ≡ after rows2 pending2 rest

  no_more : (rest : List Text) (rows : List Row) (pending : Option (Text × List Text)) (waiting : Waiting) → walk_fault level [] (at_word rows pending waiting true) rest ≡ [] → rest ≡ []
  no_more [] rows pending waiting e = refl
  no_more (word ∷ rest) rows pending waiting e =
      absurd (value_fails level refl shorts (held rows pending) (one_word level [] (at_word rows pending waiting true) word rest e).0)

  -- an option that has no value yet fails
  waits : (rows : List Row) → settle rows (Some (codes "disks", [])) ≡ [] → ⊥
  waits rows e = cc

  hyphens_step : (rows : List Row) (pending : Option (Text × List Text)) (waiting : Waiting) → walked level.rules [] (at_word rows pending waiting false) hyphens ≡ at_word rows pending waiting true
  unfolding walked
  hyphens_step rows pending idle = refl
  hyphens_step rows pending (option id) = refl
  hyphens_step rows pending positional = refl

  -- ---- `--trace`

  trace_step : (word name : Text) (a : Rule) (rows : List Row) (pending : Option (Text × List Text)) → bytes_eq word hyphens ≡ false
      → long_of word ≡ Some (name, None) → arg_by_long level.rules name ≡ Some a → a ≡ option_of None
      → walked level.rules [] (at_word rows pending idle false) word ≡ at_word (used (option_of None) [] (settled_rows rows pending)) None idle false
  unfolding walked
  trace_step word name a rows pending unlike long found is = rw (unlike, long, found, is) refl

  trace_read : (word name : Text) (v : Option Text) (a : Rule) (rest : List Text) (rows : List Row) (pending : Option (Text × List Text)) → bytes_eq word hyphens ≡ false
      → long_of word ≡ Some (name, v) → arg_by_long level.rules name ≡ Some a → name ≡ codes "trace" → a ≡ option_of None
      → long_fault level.rules false (Some a) v (held rows pending) ≡ []
      → walk_fault level [] (walked level.rules [] (at_word rows pending idle false) word) rest ≡ []
      → Reads rows pending (word ∷ rest)
  trace_read word name (Some x) a rest rows pending unlike long found named is fault onward = let bad : TooManyValues ∷ [] ≡ [] = rw is at fault in cc
  trace_read word name None a rest rows pending unlike long found named is fault onward =
      let step = trace_step word name a rows pending unlike long found is in
      let faults = both_empty (settle rows pending) (use_fault false (option_of None) [] (settled_rows rows pending)) (rw is at fault) in record {
        which = None;
        rest = rest;
        rows2 = used (option_of None) [] (settled_rows rows pending);
        pending2 = None;
        begins = ap (λ w. w ∷ rest) (long_without word name long ∙ ap (λ n. 45 ∷ 45 ∷ n) named);
        settles = faults.0;
        fits = λ none. faults.1;
        rows_are = refl;
        onward = subst (λ w. walk_fault level [] w rest ≡ []) step onward;
        same = ap (λ w. fold (walked level.rules []) w rest) step;
      }

  -- ---- `--disks=DIR`

  joined_step : (word name x : Text) (a : Rule) (rows : List Row) (pending : Option (Text × List Text)) → bytes_eq word hyphens ≡ false
      → long_of word ≡ Some (name, Some x) → arg_by_long level.rules name ≡ Some a → a ≡ option_of (Some x)
      → walked level.rules [] (at_word rows pending idle false) word ≡ at_word (used (option_of (Some x)) (x ∷ []) (settled_rows rows pending)) None idle false
  unfolding walked
  joined_step word name x a rows pending unlike long found is = rw (unlike, long, found, is) refl

  joined : (word name x : Text) (a : Rule) (rest : List Text) (rows : List Row) (pending : Option (Text × List Text)) → bytes_eq word hyphens ≡ false
      → long_of word ≡ Some (name, Some x) → arg_by_long level.rules name ≡ Some a → name ≡ codes "disks" → a ≡ option_of (Some x)
      → long_fault level.rules false (Some a) (Some x) (held rows pending) ≡ []
      → walk_fault level [] (walked level.rules [] (at_word rows pending idle false) word) rest ≡ []
      → Reads rows pending (word ∷ rest)
  joined word name x a rest rows pending unlike long found named is fault onward =
      let step = joined_step word name x a rows pending unlike long found is in
      let faults = both_empty (settle rows pending) (use_fault false (option_of (Some x)) (x ∷ []) (settled_rows rows pending)) (rw is at fault) in record {
        which = Some x;
        rest = rest;
        rows2 = used (option_of (Some x)) (x ∷ []) (settled_rows rows pending);
        pending2 = None;
        begins = inl (ap (λ w. w ∷ rest) (long_with word name x long ∙ ap (λ n. 45 ∷ 45 ∷ (n ++ 61 ∷ x)) named));
        settles = faults.0;
        fits = λ none. faults.1;
        rows_are = refl;
        onward = subst (λ w. walk_fault level [] w rest ≡ []) step onward;
        same = ap (λ w. fold (walked level.rules []) w rest) step;
      }

  -- ---- `--disks DIR`

  abbrev waiting_at : List Row → Walk
  waiting_at rows = at_word rows (Some (codes "disks", [])) (option (codes "disks")) false

  parted_step : (word name : Text) (a : Rule) (rows : List Row) (pending : Option (Text × List Text)) → bytes_eq word hyphens ≡ false
      → long_of word ≡ Some (name, None) → arg_by_long level.rules name ≡ Some a → a ≡ filled disks_rule
      → walked level.rules [] (at_word rows pending idle false) word ≡ waiting_at (settled_rows rows pending)
  unfolding walked
  parted_step word name a rows pending unlike long found is = rw (unlike, long, found, is) refl

  value_step : (v : Text) (rows : List Row) → IsPlainWord v
      → walked level.rules [] (waiting_at rows) v ≡ at_word rows (Some (codes "disks", v ∷ [])) idle false
  unfolding walked
  value_step v rows plain =
      ap (λ (m : Held × Step). after_step level.rules v (waiting_at rows) m.0 m.1)
      (plain_met level refl shorts (codes "disks") v rows (Some (codes "disks", [])) plain)

  parted : (word name : Text) (a : Rule) (rest : List Text) (rows : List Row) (pending : Option (Text × List Text)) → bytes_eq word hyphens ≡ false
      → long_of word ≡ Some (name, None) → arg_by_long level.rules name ≡ Some a → name ≡ codes "disks" → a ≡ filled disks_rule
      → long_fault level.rules false (Some a) None (held rows pending) ≡ []
      → walk_fault level [] (walked level.rules [] (at_word rows pending idle false) word) rest ≡ []
      → Ends (after rows pending (word ∷ rest))
      → Reads rows pending (word ∷ rest)
  parted word name a [] rows pending unlike long found named is fault onward end =
      let step = parted_step word name a rows pending unlike long found is in
      absurd (waits (settled_rows rows pending) (subst Ends step end))
  parted word name a (v ∷ rest) rows pending unlike long found named is fault onward end =
      let step = parted_step word name a rows pending unlike long found is in
      let now = settled_rows rows pending in
      let one = one_word level [] (waiting_at now) v rest (subst (λ w. walk_fault level [] w (v ∷ rest) ≡ []) step onward) in
      let is_word = long_without word name long ∙ ap (λ n. 45 ∷ 45 ∷ n) named in
      elim (waiting_plain level refl shorts (codes "disks") v now (Some (codes "disks", [])) (waits now) one.0) [
        | inl hyphen ↦
            let go = hyphens_step now (Some (codes "disks", [])) (option (codes "disks")) in
            let on : walk_fault level [] (at_word now (Some (codes "disks", [])) (option (codes "disks")) true) rest ≡ [] =
            subst (λ w. walk_fault level [] w rest ≡ []) (ap (walked level.rules [] (waiting_at now)) hyphen ∙ go) one.1 in
            let none = no_more rest now (Some (codes "disks", [])) (option (codes "disks")) on in
            let last : after rows pending (word ∷ v ∷ rest) ≡ at_word now (Some (codes "disks", [])) (option (codes "disks")) true =
            ap (λ w. fold (walked level.rules []) (walked level.rules [] w v) rest) step
            ∙ (ap (λ w. fold (walked level.rules []) w rest) (ap (walked level.rules [] (waiting_at now)) hyphen ∙ go)
            ∙ ap (λ r. fold (walked level.rules []) (at_word now (Some (codes "disks", [])) (option (codes "disks")) true) r) none) in
            absurd (waits now (subst Ends last end))
        | inr plain ↦
            let next = value_step v now plain in record {
              which = Some v;
              rest = rest;
              rows2 = now;
              pending2 = Some (codes "disks", v ∷ []);
              begins = inr (ap (λ w. w ∷ v ∷ rest) is_word, plain);
              settles = rw is at fault;
              fits = λ none. none;
              rows_are = refl;
              onward = subst (λ w. walk_fault level [] w rest ≡ []) next one.1;
              same = ap (λ w. fold (walked level.rules []) (walked level.rules [] w v) rest) step ∙ ap (λ w. fold (walked level.rules []) w rest) next;
            }
      ]

  disks_read : (word name : Text) (v : Option Text) (a : Rule) (rest : List Text) (rows : List Row) (pending : Option (Text × List Text)) → bytes_eq word hyphens ≡ false
      → long_of word ≡ Some (name, v) → arg_by_long level.rules name ≡ Some a → name ≡ codes "disks" → a ≡ filled disks_rule
      → long_fault level.rules false (Some a) v (held rows pending) ≡ []
      → walk_fault level [] (walked level.rules [] (at_word rows pending idle false) word) rest ≡ []
      → Ends (after rows pending (word ∷ rest))
      → Reads rows pending (word ∷ rest)
  disks_read word name None a rest rows pending unlike long found named is fault onward end = parted word name a rest rows pending unlike long found named is fault onward end
  disks_read word name (Some x) a rest rows pending unlike long found named is fault onward end = joined word name x a rest rows pending unlike long found named is fault onward

  -- ---- the options one behind the other

  next_option : (words : List Text) (rows : List Row) (pending : Option (Text × List Text)) → walk_fault level [] (at_word rows pending idle false) words ≡ []
      → Ends (after rows pending words) → IsEnd words ⊎ Reads rows pending words
  next_option [] rows pending e end = inl (inl refl)
  next_option (word ∷ rest) rows pending e end =
      let one = one_word level [] (at_word rows pending idle false) word rest e in
      elim (idle_turn level refl shorts [] word rows pending refl one.0) [
        | inl hyphen ↦
            let on : walk_fault level [] (at_word rows pending idle true) rest ≡ [] =
            subst (λ w. walk_fault level [] w rest ≡ []) (ap (walked level.rules [] (at_word rows pending idle false)) hyphen ∙ hyphens_step rows pending idle) one.1 in
            inl (inr (ap (λ w. w ∷ rest) hyphen ∙ ap (λ r. hyphens ∷ r) (no_more rest rows pending idle on)))
        | inr read ↦ elim (flags read.0.0 read.1 read.3) [
          | inl trace ↦ inr (trace_read word read.0.0 read.0.1 read.1 rest rows pending read.5 read.2 read.3 trace.0 trace.1 read.4 one.1)
          | inr (inl disks) ↦ inr (disks_read word read.0.0 read.0.1 read.1 rest rows pending read.5 read.2 read.3 disks.0 disks.1 read.4 one.1 end)
          | inr (inr request) ↦ absurd (request_fails level read.1 read.0.1 (held rows pending) request read.4)
        ]
      ]

  ends_held : (rest : List Text) (rows : List Row) (pending : Option (Text × List Text)) → IsEnd rest → (after rows pending rest).held ≡ held rows pending
  ends_held rest rows pending (inl none) = ap (λ r. (after rows pending r).held) none
  ends_held rest rows pending (inr hyphen) = ap (λ r. (after rows pending r).held) hyphen ∙ ap (λ (w : Walk). w.held) (hyphens_step rows pending idle)

  settles_by : (words : List Text) (rows : List Row) (pending : Option (Text × List Text)) → walk_fault level [] (at_word rows pending idle false) words ≡ []
      → Ends (after rows pending words) → settle rows pending ≡ []
  settles_by words rows pending e end = elim (next_option words rows pending e end) [
    | inl over ↦ ap (settle_fault level.rules false) (sym (ends_held words rows pending over)) ∙ end
    | inr read ↦ read.settles
  ]

  -- what may stand behind the name
  abbrev pub AreTaken : List Text → Type 0
  AreTaken words = (trace : Bool) × (disks : Option Text) × (rest : List Text) × AreRunOptions trace disks words rest × IsEnd rest

  one_taken : (o : Option Text) (words rest : List Text) → Begins o words rest → use_fault false (option_of o) (values_of o) [] ≡ [] → IsEnd rest → AreTaken words
  one_taken None words rest begins fit over = (true, None, rest, (rest, inl (begins, refl)), over)
  one_taken (Some v) words rest begins fit over = (false, Some v, rest, (words, inl (refl, (is_named v [] fit, begins))), over)

  two_taken : (o p : Option Text) (words between rest : List Text) → IsOther o p → Begins o words between → Begins p between rest
      → use_fault false (option_of o) (values_of o) [] ≡ [] → use_fault false (option_of p) (values_of p) (row o ∷ []) ≡ [] → IsEnd rest → AreTaken words
  two_taken None (Some v) words between rest other first second fit fit2 over = (true, Some v, rest, (between, inl (first, (is_named v (row None ∷ []) fit2, second))), over)
  two_taken (Some v) None words between rest other first second fit fit2 over = (true, Some v, rest, (between, inr ((is_named v [] fit, first), second)), over)
  two_taken None None words between rest other first second fit fit2 over = absurd other
  two_taken (Some a) (Some b) words between rest other first second fit fit2 over = absurd other

  -- the words that it takes
  options_taken : (words : List Text) → walk_fault level [] (at_word [] None idle false) words ≡ [] → Ends (after [] None words) → AreTaken words
  options_taken words e end = elim (next_option words [] None e end) [
    | inl over ↦ (false, None, words, (words, inl (refl, refl)), over)
    | inr one ↦
        let end1 = subst Ends one.same end in
        let use1 = one.fits (settles_by one.rest one.rows2 one.pending2 one.onward end1) in
        let rows1 : settled_rows one.rows2 one.pending2 ≡ row one.which ∷ [] = one.rows_are ∙ first_row one.which in
        elim (next_option one.rest one.rows2 one.pending2 one.onward end1) [
          | inl over ↦ one_taken one.which words one.rest one.begins use1 over
          | inr two ↦
              let end2 = subst Ends two.same end1 in
              let use2 : use_fault false (option_of two.which) (values_of two.which) (row one.which ∷ []) ≡ [] =
              subst (λ rows. use_fault false (option_of two.which) (values_of two.which) rows ≡ []) rows1
              (two.fits (settles_by two.rest two.rows2 two.pending2 two.onward end2)) in
              let other = another one.which two.which use2 in
              elim (next_option two.rest two.rows2 two.pending2 two.onward end2) [
                | inl over ↦ two_taken one.which two.which words one.rest two.rest other one.begins two.begins use1 use2 over
                | inr three ↦
                    let rows2 : settled_rows two.rows2 two.pending2 ≡ row one.which ∷ row two.which ∷ [] = two.rows_are
                    ∙ (ap (λ rows. used (option_of two.which) (values_of two.which) rows) rows1 ∙ second_row one.which two.which other) in
                    absurd (no_third one.which two.which three.which other
                    (subst (λ rows. use_fault false (option_of three.which) (values_of three.which) rows ≡ []) rows2
                    (three.fits (settles_by three.rest three.rows2 three.pending2 three.onward (subst Ends three.same end2)))))
              ]
        ]
  ]

  pub behind_name : (words : List Text) → level_fault level [] nothing_held words false [] ≡ [] → AreTaken words
  behind_name words e =
      let last = after [] None words in
      let first = both_empty (walk_fault level [] (at_word [] None idle false) words)
      (or_else [] (or_else (settle_fault level.rules false last.held) (or_else (defaults_fault (settled level.rules last.held).rows level.rules)
      (check_fault level (finished level.rules last.held) false)))) e in
      let second = both_empty (settle_fault level.rules false last.held) (or_else (defaults_fault (settled level.rules last.held).rows level.rules)
      (check_fault level (finished level.rules last.held) false)) first.1 in
      options_taken words first.0 second.0

  -- ---- and that it takes them

  -- an option passes, and the words go on behind it
  record Passes (o : Option Text) (rows : List Row) (pending : Option (Text × List Text)) (words rest : List Text) : Type 0 where
    rows2 : List Row
    pending2 : Option (Text × List Text)
    settles : settle rows2 pending2 ≡ []
    rows_are : settled_rows rows2 pending2 ≡ used (option_of o) (values_of o) (settled_rows rows pending)
    faults : walk_fault level [] (at_word rows pending idle false) words ≡ walk_fault level [] (at_word rows2 pending2 idle false) rest
    same : after rows pending words ≡ after rows2 pending2 rest

  -- a walk over a word that passes
  past : (w : Walk) (word : Text) (rest : List Text) (next : Walk) → turn_fault level [] w word ≡ [] → walked level.rules [] w word ≡ next
      → walk_fault level [] w (word ∷ rest) ≡ walk_fault level [] next rest
  unfolding walk_fault
  past w word rest next turn step =
      ap (λ k. or_else k (walk_fault level [] (walked level.rules [] w word) rest)) turn ∙ ap (λ x. walk_fault level [] x rest) step

  trace_turn : (rows : List Row) (pending : Option (Text × List Text)) → settle rows pending ≡ []
      → use_fault false (option_of None) [] (settled_rows rows pending) ≡ [] → turn_fault level [] (at_word rows pending idle false) (codes "--trace") ≡ []
  trace_turn rows pending none fit = ap₂ (λ x y. or_else (or_else x y) []) none fit

  trace_walk : (rows : List Row) (pending : Option (Text × List Text))
      → walked level.rules [] (at_word rows pending idle false) (codes "--trace") ≡ at_word (used (option_of None) [] (settled_rows rows pending)) None idle false
  unfolding walked
  trace_walk rows pending = refl

  joined_turn : (v : Text) (rows : List Row) (pending : Option (Text × List Text)) → settle rows pending ≡ []
      → use_fault false (option_of (Some v)) (v ∷ []) (settled_rows rows pending) ≡ []
      → turn_fault level [] (at_word rows pending idle false) (codes "--disks=" ++ v) ≡ []
  joined_turn v rows pending none fit = ap₂ (λ x y. or_else (or_else x y) []) none fit

  joined_walk : (v : Text) (rows : List Row) (pending : Option (Text × List Text))
      → walked level.rules [] (at_word rows pending idle false) (codes "--disks=" ++ v) ≡ at_word (used (option_of (Some v)) (v ∷ []) (settled_rows rows pending)) None idle false
  unfolding walked
  joined_walk v rows pending = refl

  parted_turn : (rows : List Row) (pending : Option (Text × List Text)) → settle rows pending ≡ []
      → turn_fault level [] (at_word rows pending idle false) (codes "--disks") ≡ []
  parted_turn rows pending none = ap (λ x. or_else x []) none

  parted_walk : (rows : List Row) (pending : Option (Text × List Text))
      → walked level.rules [] (at_word rows pending idle false) (codes "--disks") ≡ waiting_at (settled_rows rows pending)
  unfolding walked
  parted_walk rows pending = refl

  passes : (o : Option Text) (rows : List Row) (pending : Option (Text × List Text)) (words rest : List Text) → Begins o words rest
      → settle rows pending ≡ [] → use_fault false (option_of o) (values_of o) (settled_rows rows pending) ≡ [] → Passes o rows pending words rest
  passes None rows pending words rest is none fit =
      let step = trace_walk rows pending in record {
        rows2 = used (option_of None) [] (settled_rows rows pending);
        pending2 = None;
        settles = refl;
        rows_are = refl;
        faults = ap (λ w. walk_fault level [] (at_word rows pending idle false) w) is ∙ past _ _ rest _ (trace_turn rows pending none fit) step;
        same = ap (λ w. after rows pending w) is ∙ ap (λ w. fold (walked level.rules []) w rest) step;
      }
  passes (Some v) rows pending words rest (inl is) none fit =
      let step = joined_walk v rows pending in record {
        rows2 = used (option_of (Some v)) (v ∷ []) (settled_rows rows pending);
        pending2 = None;
        settles = refl;
        rows_are = refl;
        faults = ap (λ w. walk_fault level [] (at_word rows pending idle false) w) is ∙ past _ _ rest _ (joined_turn v rows pending none fit) step;
        same = ap (λ w. after rows pending w) is ∙ ap (λ w. fold (walked level.rules []) w rest) step;
      }
  passes (Some v) rows pending words rest (inr is) none fit =
      let now = settled_rows rows pending in
      let step = parted_walk rows pending in
      let next = value_step v now is.1 in record {
        rows2 = now;
        pending2 = Some (codes "disks", v ∷ []);
        settles = fit;
        rows_are = refl;
        faults = ap (λ w. walk_fault level [] (at_word rows pending idle false) w) is.0 ∙ (past _ _ (v ∷ rest) (waiting_at now) (parted_turn rows pending none) step
            ∙ past (waiting_at now) v rest _ (plain_turn level refl shorts (codes "disks") v now (Some (codes "disks", [])) is.1) next);
        same = ap (λ w. after rows pending w) is.0 ∙ (ap (λ w. fold (walked level.rules []) (walked level.rules [] w v) rest) step
            ∙ ap (λ w. fold (walked level.rules []) w rest) next);
      }

  end_passes : (rest : List Text) (rows : List Row) (pending : Option (Text × List Text)) → IsEnd rest → walk_fault level [] (at_word rows pending idle false) rest ≡ []
  unfolding walk_fault
  end_passes rest rows pending (inl none) = ap (λ r. walk_fault level [] (at_word rows pending idle false) r) none
  end_passes rest rows pending (inr hyphen) = ap (λ r. walk_fault level [] (at_word rows pending idle false) r) hyphen

  -- what is asked of the rows at the end, and what they say
  abbrev EndsWell : Bool → Option Text → List Row → Type 0
  EndsWell trace disks rows = (or_else (defaults_fault rows level.rules) (check_fault level (fold with_default rows level.rules) false) ≡ [])
      × HasOptions trace disks (fold with_default rows level.rules)

  none_ends : EndsWell false None []
  unfolding clap_on_literals
  none_ends = (refl, (refl, refl))

  one_ends : (o : Option Text) → EndsWell (is_trace o) o (row o ∷ [])
  unfolding clap_on_literals
  one_ends None = (refl, (refl, refl))
  one_ends (Some v) = (refl, (refl, refl))

  two_ends : (o p : Option Text) → IsOther o p → EndsWell true (the_folder o p) (row o ∷ row p ∷ [])
  unfolding clap_on_literals
  two_ends None (Some v) other = (refl, (refl, refl))
  two_ends (Some v) None other = (refl, (refl, refl))
  two_ends None None other = absurd other
  two_ends (Some a) (Some b) other = absurd other

  -- the level takes the words, and keeps what they ask for
  abbrev pub IsTaken : Bool → Option Text → List Text → Type 0
  IsTaken trace disks words = (level_fault level [] nothing_held words false [] ≡ []) × HasOptions trace disks (rows_after level.rules [] words)

  ending : (trace : Bool) (disks : Option Text) (words rest : List Text) (rows : List Row) (pending : Option (Text × List Text)) (last : List Row)
      → IsEnd rest → settle rows pending ≡ [] → settled_rows rows pending ≡ last → EndsWell trace disks last
      → walk_fault level [] (at_word [] None idle false) words ≡ walk_fault level [] (at_word rows pending idle false) rest
      → after [] None words ≡ after rows pending rest → IsTaken trace disks words
  ending trace disks words rest rows pending last over none are well faults same =
      let walk_is : walk_fault level [] (at_word [] None idle false) words ≡ [] = faults ∙ end_passes rest rows pending over in
      let held_is : (after [] None words).held ≡ held rows pending = ap (λ (w : Walk). w.held) same ∙ ends_held rest rows pending over in
      let behind : Held → Kinds = λ h. or_else (settle_fault level.rules false h) (or_else (defaults_fault (settled level.rules h).rows level.rules)
      (check_fault level (finished level.rules h) false)) in
      let rows_end : rows_after level.rules [] words ≡ fold with_default last level.rules =
      ap (λ (h : Held). finished level.rules h) held_is ∙ ap (λ l. fold with_default l level.rules) are in (
        ap₂ (λ x (h : Held). or_else x (behind h)) walk_is held_is
            ∙ (ap₂ (λ x l. or_else x (or_else (defaults_fault l level.rules) (check_fault level (fold with_default l level.rules) false))) none are ∙ well.0),
        subst (HasOptions trace disks) (sym rows_end) well.1,
      )

  one_passes : (o : Option Text) (words rest : List Text) → IsNamed o → Begins o words rest → IsEnd rest → IsTaken (is_trace o) o words
  one_passes o words rest named begins over =
      let one = passes o [] None words rest begins refl (first_use o named) in
      ending (is_trace o) o words rest one.rows2 one.pending2 (row o ∷ []) over one.settles (one.rows_are ∙ first_row o) (one_ends o) one.faults one.same

  two_pass : (o p : Option Text) (words between rest : List Text) → IsOther o p → IsNamed o → IsNamed p → Begins o words between → Begins p between rest → IsEnd rest
      → IsTaken true (the_folder o p) words
  two_pass o p words between rest other named named2 first second over =
      let one = passes o [] None words between first refl (first_use o named) in
      let rows1 : settled_rows one.rows2 one.pending2 ≡ row o ∷ [] = one.rows_are ∙ first_row o in
      let two = passes p one.rows2 one.pending2 between rest second one.settles
      (ap (λ rows. use_fault false (option_of p) (values_of p) rows) rows1 ∙ second_use o p other named2) in
      ending true (the_folder o p) words rest two.rows2 two.pending2 (row o ∷ row p ∷ []) over two.settles
      (two.rows_are ∙ (ap (λ rows. used (option_of p) (values_of p) rows) rows1 ∙ second_row o p other)) (two_ends o p other)
      (one.faults ∙ two.faults) (one.same ∙ two.same)

  -- the options that may be asked for pass
  pub options_pass : (trace : Bool) (disks : Option Text) (words rest : List Text) → AreRunOptions trace disks words rest → IsEnd rest → IsTaken trace disks words
  options_pass false None words rest (between, inl (first, second)) over =
      ending false None words rest [] None [] over refl refl none_ends
      (ap (λ w. walk_fault level [] (at_word [] None idle false) w) (first ∙ second)) (ap (λ w. after [] None w) (first ∙ second))
  options_pass false None words rest (between, inr (first, second)) over =
      ending false None words rest [] None [] over refl refl none_ends
      (ap (λ w. walk_fault level [] (at_word [] None idle false) w) (first ∙ second)) (ap (λ w. after [] None w) (first ∙ second))
  options_pass true None words rest (between, inl (first, second)) over =
      one_passes None words rest tt (first ∙ ap (λ r. codes "--trace" ∷ r) second) over
  options_pass true None words rest (between, inr (first, second)) over = one_passes None words rest tt (first ∙ second) over
  options_pass false (Some v) words rest (between, inl (first, second)) over =
      one_passes (Some v) words rest second.0 (subst (λ w. Begins (Some v) w rest) (sym first) second.1) over
  options_pass false (Some v) words rest (between, inr (first, second)) over =
      one_passes (Some v) words rest first.0 (subst (λ w. Begins (Some v) words w) second first.1) over
  options_pass true (Some v) words rest (between, inl (first, second)) over =
      two_pass None (Some v) words between rest tt tt second.0 first second.1 over
  options_pass true (Some v) words rest (between, inr (first, second)) over =
      two_pass (Some v) None words between rest tt first.0 tt first.1 second over
