-- What a word may be at a level that has no positionals, and whose short flags all ask for a text.
use Rattle.std.proofs.Common.{◌≡◌, ◌⊎◌, ℕ, Bool, true, false, List, [], ◌∷◌, length, drop, Option, Some, None, is_some, refl, sym, ap₂, ◌∙◌, inl, inr}
use Rattle.std.specs.Prelude.{slice_get, encode_utf8, if◌then◌else◌, option_and_then}
use Rattle.std.specs.Str.{bytes_eq, chars}
use Rattle.std.proofs.lemmas.Slice.Eq.{bytes_eq-Decides}
use Rattle.clap.specs.Lexer.{long_of, short_of}
use Rattle.clap.specs.Walk.{Held, Names, Row, Rule, Step, Text, Waiting, Walk, after_flag, arg_by_index, arg_by_long, arg_by_short, attached_value, bundle_met, bundle_step, idle, option, long_or_other, plain, plain_word, reacted, short_or_plain, settled, subcommand_met, takes_values, trailing, value, walked, word_met}
use Rattle.clap.specs.Simple.{Shape}
use Rattle.std.specs.Option.{option_map_or}
use Rattle.clap.specs.declared.error.kind.ErrorKind.TheVariants.{InvalidSubcommand, TooManyValues, UnknownArgument}
use Rattle.clap.specs.Kinds.{Kinds, or_else}
use Rattle.walter_words.specs.Words.{IsPlainWord}
use Rattle.clap.specs.Faults.{bundle_fault, bundle_step_fault, flag_word_fault, flags_fault, long_fault, option_fault, react_fault, settle_fault, short_fault, step_fault, turn_fault, use_fault, walk_fault}

pub both_empty : (a b : Kinds) → or_else a b ≡ [] → (a ≡ []) × (b ≡ [])
both_empty [] b e = (refl, e)
both_empty (k ∷ ks) b e = cc

-- a walk over a word and others
pub one_word : (s : Shape) (names : Names) (w : Walk) (word : Text) (rest : List Text) → walk_fault s names w (word ∷ rest) ≡ []
    → (turn_fault s names w word ≡ []) × (walk_fault s names (walked s.rules names w word) rest ≡ [])
unfolding walk_fault
one_word s names w word rest e = both_empty (turn_fault s names w word) (walk_fault s names (walked s.rules names w word) rest) e

no_characters : slice_get (chars []) 0 ≡ None
unfolding chars
no_characters = refl

-- texts that differ are found to
bytes_differ : (a b : Text) → (a ≡ b → ⊥) → bytes_eq a b ≡ false
bytes_differ a b differ = go (bytes_eq a b) refl
  where
    go : (x : Bool) → bytes_eq a b ≡ x → bytes_eq a b ≡ false
    go true is = absurd (differ ((bytes_eq-Decides a b).0 is))
    go false is = is

-- the two hyphens that end the options
abbrev pub hyphens : Text
hyphens = 45 ∷ 45 ∷ []

-- where the walk stands between two words
abbrev pub at_word : List Row → Option (Text × List Text) → Waiting → Bool → Walk
at_word rows pending waiting is_trailing = record {
  held = record { rows = rows; pending = pending; skip = 0 };
  waiting = waiting;
  position = 1;
  is_trailing = is_trailing;
  stopped = None;
}

-- a long flag of the level
abbrev pub IsFlagRead : Shape → Held → Text → Type 0
IsFlagRead s h word = (p : Text × Option Text) × (a : Rule) × (long_of word ≡ Some p) × (arg_by_long s.rules p.0 ≡ Some a)
    × (long_fault s.rules s.args_override_self (Some a) p.1 h ≡ []) × (bytes_eq word hyphens ≡ false)

stray : (leaf : Bool) → (if leaf then UnknownArgument ∷ [] else UnknownArgument ∷ InvalidSubcommand ∷ []) ≡ [] → ⊥
stray true e = cc
stray false e = cc

module _ (s : Shape) (values : arg_by_index s.rules 1 ≡ None)
    (shorts : (x : ℕ) (a : Rule) (h : Held) → arg_by_short s.rules x ≡ Some a
    → (takes_values a ≡ false) × (react_fault s.rules s.args_override_self a [] h ≡ [] → ⊥)) where
  pub value_fails : (h : Held) → step_fault s 1 h value ≡ [] → ⊥
  value_fails h e = stray s.is_leaf (rw values at e)

  -- a character of a bundle that names a flag fails
  character_fails : (o : Option Rule) (x : ℕ) (rest : Text) (h : Held) (next : Held → Kinds) → arg_by_short s.rules x ≡ o
      → short_fault s.rules s.args_override_self o rest h next ≡ [] → ⊥
  character_fails None x rest h next is e = cc
  character_fails (Some a) x rest h next is e =
      let one = shorts x a h is in
      one.1 (both_empty _ _ (rw one.0 at e)).0

  bundle_fails : (flags word : Text) (h : Held) (k : ℕ) (o : Option ℕ)
      → or_else (bundle_step_fault s.rules s.args_override_self o flags 0 h (flags_fault s.rules s.args_override_self k))
      (step_fault s 1 (after_flag s.rules idle word (bundle_step s.rules o flags 0 plain h (bundle_met s.rules k)).0 (bundle_step s.rules o flags 0 plain h (bundle_met s.rules k)).1).0
      (after_flag s.rules idle word (bundle_step s.rules o flags 0 plain h (bundle_met s.rules k)).0 (bundle_step s.rules o flags 0 plain h (bundle_met s.rules k)).1).1) ≡ [] → ⊥
  bundle_fails flags word h k None e = value_fails h e
  bundle_fails flags word h k (Some x) e = character_fails (arg_by_short s.rules x) x _ h _ refl (both_empty _ _ e).0

  -- what a word that is a short flag, or none, comes to where nothing waits
  short_fails : (word : Text) (o : Option Text) (rows : List Row) (pending : Option (Text × List Text))
      → let h : Held = record { rows = rows; pending = pending; skip = 0 } in
      or_else (option_map_or (λ flags. bundle_fault s.rules s.args_override_self flags h) o [])
      (step_fault s 1 (short_or_plain s.rules idle word o h).0 (short_or_plain s.rules idle word o h).1) ≡ [] → ⊥
  unfolding flags_fault bundle_met
  short_fails word None rows pending e = value_fails (record { rows = rows; pending = pending; skip = 0 }) e
  short_fails word (Some []) rows pending e = value_fails (record { rows = rows; pending = pending; skip = 0 }) e
  short_fails word (Some (f ∷ fs)) rows pending e = bundle_fails (f ∷ fs) word (record { rows = rows; pending = pending; skip = 0 }) (length fs) (slice_get (chars (f ∷ fs)) 0) e

  -- a word at which nothing waits, and which is no subcommand, is the two hyphens or a long flag of the level
  long_read : (word : Text) (o : Option (Text × Option Text)) (rows : List Row) (pending : Option (Text × List Text))
      → let h : Held = record { rows = rows; pending = pending; skip = 0 } in
      or_else (flag_word_fault s.rules s.args_override_self o word h)
      (step_fault s 1 (long_or_other s.rules idle word o h).0 (long_or_other s.rules idle word o h).1) ≡ []
      → (p : Text × Option Text) × (a : Rule) × (o ≡ Some p) × (arg_by_long s.rules p.0 ≡ Some a) × (long_fault s.rules s.args_override_self (Some a) p.1 h ≡ [])
  long_read word None rows pending e = absurd (short_fails word (short_of word) rows pending e)
  long_read word (Some p) rows pending e = go (arg_by_long s.rules p.0) refl (both_empty _ _ e).0
    where
      go : (o : Option Rule) → arg_by_long s.rules p.0 ≡ o → long_fault s.rules s.args_override_self o p.1 (record { rows = rows; pending = pending; skip = 0 }) ≡ []
          → (q : Text × Option Text) × (a : Rule) × (Some p ≡ Some q) × (arg_by_long s.rules q.0 ≡ Some a)
          × (long_fault s.rules s.args_override_self (Some a) q.1 (record { rows = rows; pending = pending; skip = 0 }) ≡ [])
      go None is f = cc
      go (Some a) is f = (p, a, refl, is, f)

  pub idle_turn : (names : Names) (word : Text) (rows : List Row) (pending : Option (Text × List Text)) → subcommand_met names idle word ≡ None
      → turn_fault s names (at_word rows pending idle false) word ≡ []
      → (word ≡ hyphens) ⊎ IsFlagRead s (record { rows = rows; pending = pending; skip = 0 }) word
  idle_turn names word rows pending none e = go (bytes_eq word hyphens) refl (rw none at e)
    where
      go : (b : Bool) → bytes_eq word hyphens ≡ b
          → (let h : Held = record { rows = rows; pending = pending; skip = 0 } in
          let met : Held × Step = if bytes_eq word hyphens then (h, trailing 1) else long_or_other s.rules idle word (long_of word) h in
          or_else (if bytes_eq word hyphens then [] else flag_word_fault s.rules s.args_override_self (long_of word) word h) (step_fault s 1 met.0 met.1)) ≡ []
          → (word ≡ hyphens) ⊎ IsFlagRead s (record { rows = rows; pending = pending; skip = 0 }) word
      go true is f = inl ((bytes_eq-Decides _ _).0 is)
      go false is f =
          let r = long_read word (long_of word) rows pending (rw is at f) in
          inr (r.0, r.1, r.2, r.3, r.4, is)

  -- where an option waits for a value, and the fault of having none is there, no flag passes
  reacts : (a : Rule) (vs : List Text) (h : Held) → (settle_fault s.rules s.args_override_self h ≡ [] → ⊥) → react_fault s.rules s.args_override_self a vs h ≡ [] → ⊥
  reacts a vs h waits e = waits (both_empty (settle_fault s.rules s.args_override_self h) (use_fault s.args_override_self a vs (settled s.rules h).rows) e).0

  options : (a : Rule) (v : Option Text) (h : Held) → (settle_fault s.rules s.args_override_self h ≡ [] → ⊥) → option_fault s.rules s.args_override_self a v h ≡ [] → ⊥
  options a None h waits e = waits e
  options a (Some x) h waits e = reacts a (x ∷ []) h waits e

  longs_wait : (o : Option Rule) (v : Option Text) (h : Held) → (settle_fault s.rules s.args_override_self h ≡ [] → ⊥) → long_fault s.rules s.args_override_self o v h ≡ [] → ⊥
  longs_wait None v h waits e = cc
  longs_wait (Some a) v h waits e = go (takes_values a) v e
    where
      go : (b : Bool) (v : Option Text) → (if b then option_fault s.rules s.args_override_self a v h
          else (if is_some v then TooManyValues ∷ [] else react_fault s.rules s.args_override_self a [] h)) ≡ [] → ⊥
      go true v f = options a v h waits f
      go false None f = reacts a [] h waits f
      go false (Some x) f = cc

  shorts_wait : (o : Option Rule) (rest : Text) (h : Held) (next : Held → Kinds) → (settle_fault s.rules s.args_override_self h ≡ [] → ⊥)
      → short_fault s.rules s.args_override_self o rest h next ≡ [] → ⊥
  shorts_wait None rest h next waits e = cc
  shorts_wait (Some a) rest h next waits e = go (takes_values a) e
    where
      go : (b : Bool) → (if b then option_fault s.rules s.args_override_self a (attached_value rest) h
          else or_else (react_fault s.rules s.args_override_self a [] h) (next (reacted s.rules a [] h))) ≡ [] → ⊥
      go true f = options a (attached_value rest) h waits f
      go false f = reacts a [] h waits (both_empty (react_fault s.rules s.args_override_self a [] h) (next (reacted s.rules a [] h)) f).0

  bundle_waits : (id flags word : Text) (h : Held) (k : ℕ) (o : Option ℕ) → (settle_fault s.rules s.args_override_self h ≡ [] → ⊥)
      → bundle_step_fault s.rules s.args_override_self o flags 0 h (flags_fault s.rules s.args_override_self k) ≡ []
      → after_flag s.rules (option id) word (bundle_step s.rules o flags 0 plain h (bundle_met s.rules k)).0 (bundle_step s.rules o flags 0 plain h (bundle_met s.rules k)).1
      ≡ plain_word s.rules (option id) word h
  bundle_waits id flags word h k None waits e = refl
  bundle_waits id flags word h k (Some x) waits e = absurd (shorts_wait (arg_by_short s.rules x) (drop (length (encode_utf8 x)) flags) h
      (flags_fault s.rules s.args_override_self k (drop (length (encode_utf8 x)) flags) 0) waits e)

  short_waits : (id word : Text) (o : Option Text) (rows : List Row) (pending : Option (Text × List Text))
      → let h : Held = record { rows = rows; pending = pending; skip = 0 } in
      (settle_fault s.rules s.args_override_self h ≡ [] → ⊥)
      → option_map_or (λ flags. bundle_fault s.rules s.args_override_self flags h) o [] ≡ []
      → short_or_plain s.rules (option id) word o h ≡ plain_word s.rules (option id) word h
  unfolding flags_fault bundle_met
  short_waits id word None rows pending waits e = refl
  short_waits id word (Some []) rows pending waits e = refl
  short_waits id word (Some (f ∷ fs)) rows pending waits e =
      bundle_waits id (f ∷ fs) word (record { rows = rows; pending = pending; skip = 0 }) (length fs) (slice_get (chars (f ∷ fs)) 0) waits e

  long_waits : (id word : Text) (o : Option (Text × Option Text)) (rows : List Row) (pending : Option (Text × List Text))
      → let h : Held = record { rows = rows; pending = pending; skip = 0 } in
      (settle_fault s.rules s.args_override_self h ≡ [] → ⊥) → flag_word_fault s.rules s.args_override_self o word h ≡ []
      → long_or_other s.rules (option id) word o h ≡ plain_word s.rules (option id) word h
  long_waits id word None rows pending waits e = short_waits id word (short_of word) rows pending waits e
  long_waits id word (Some p) rows pending waits e = absurd (longs_wait (arg_by_long s.rules p.0) p.1 (record { rows = rows; pending = pending; skip = 0 }) waits e)

  -- so the word is the two hyphens, or the value
  pub waiting_turn : (id word : Text) (rows : List Row) (pending : Option (Text × List Text))
      → let h : Held = record { rows = rows; pending = pending; skip = 0 } in
      (settle_fault s.rules s.args_override_self h ≡ [] → ⊥) → turn_fault s [] (at_word rows pending (option id) false) word ≡ []
      → (word ≡ hyphens) ⊎ (word_met s.rules [] false (option id) 1 word h ≡ plain_word s.rules (option id) word h)
  waiting_turn id word rows pending waits e = go (bytes_eq word hyphens) refl e
    where
      go : (b : Bool) → bytes_eq word hyphens ≡ b → turn_fault s [] (at_word rows pending (option id) false) word ≡ []
          → (word ≡ hyphens) ⊎ (word_met s.rules [] false (option id) 1 word (record { rows = rows; pending = pending; skip = 0 })
          ≡ plain_word s.rules (option id) word (record { rows = rows; pending = pending; skip = 0 }))
      go true is f = inl ((bytes_eq-Decides _ _).0 is)
      go false is f =
          let h : Held = record { rows = rows; pending = pending; skip = 0 } in
          let other : or_else (flag_word_fault s.rules s.args_override_self (long_of word) word h)
          (step_fault s 1 (long_or_other s.rules (option id) word (long_of word) h).0 (long_or_other s.rules (option id) word (long_of word) h).1) ≡ [] = rw is at f in
          inr (rw is (long_waits id word (long_of word) rows pending waits (both_empty (flag_word_fault s.rules s.args_override_self (long_of word) word h) _ other).0))

  -- a word that may be a value of an option passes where one waits, and is it
  short_plain : (id word : Text) (o : Option Text) (rows : List Row) (pending : Option (Text × List Text))
      → let h : Held = record { rows = rows; pending = pending; skip = 0 } in
      option_and_then (λ flags. slice_get (chars flags) 0) o ≡ None
      → (short_or_plain s.rules (option id) word o h ≡ plain_word s.rules (option id) word h)
      × (option_map_or (λ flags. bundle_fault s.rules s.args_override_self flags h) o [] ≡ [])
  unfolding flags_fault bundle_met
  short_plain id word None rows pending none = (refl, refl)
  short_plain id word (Some []) rows pending none = (refl, refl)
  short_plain id word (Some (f ∷ fs)) rows pending none = (rw none refl, rw none refl)

  pub plain_met : (id word : Text) (rows : List Row) (pending : Option (Text × List Text)) → IsPlainWord word
      → let h : Held = record { rows = rows; pending = pending; skip = 0 } in
      word_met s.rules [] false (option id) 1 word h ≡ plain_word s.rules (option id) word h
  plain_met id word rows pending it =
      rw (bytes_differ word hyphens it.0, it.1) (short_plain id word (short_of word) rows pending it.2).0

  pub plain_turn : (id word : Text) (rows : List Row) (pending : Option (Text × List Text)) → IsPlainWord word
      → turn_fault s [] (at_word rows pending (option id) false) word ≡ []
  plain_turn id word rows pending it =
      let h : Held = record { rows = rows; pending = pending; skip = 0 } in
      let short = short_plain id word (short_of word) rows pending it.2 in
      rw (bytes_differ word hyphens it.0, it.1)
      (ap₂ (λ x (m : Held × Step). or_else x (step_fault s 1 m.0 m.1)) short.1 short.0)

  -- and a word that passes there is such a one, or the two hyphens
  first_none : (o : Option Text) (rows : List Row) (pending : Option (Text × List Text))
      → let h : Held = record { rows = rows; pending = pending; skip = 0 } in
      (settle_fault s.rules s.args_override_self h ≡ [] → ⊥)
      → option_map_or (λ flags. bundle_fault s.rules s.args_override_self flags h) o [] ≡ []
      → option_and_then (λ flags. slice_get (chars flags) 0) o ≡ None
  unfolding flags_fault
  first_none None rows pending waits e = refl
  first_none (Some []) rows pending waits e = no_characters
  first_none (Some (f ∷ fs)) rows pending waits e = go (slice_get (chars (f ∷ fs)) 0) refl e
    where
      go : (o : Option ℕ) → slice_get (chars (f ∷ fs)) 0 ≡ o
          → bundle_step_fault s.rules s.args_override_self o (f ∷ fs) 0 (record { rows = rows; pending = pending; skip = 0 }) (flags_fault s.rules s.args_override_self (length fs)) ≡ []
          → slice_get (chars (f ∷ fs)) 0 ≡ None
      go None is step = is
      go (Some x) is step = absurd (shorts_wait (arg_by_short s.rules x) (drop (length (encode_utf8 x)) (f ∷ fs))
          (record { rows = rows; pending = pending; skip = 0 }) (flags_fault s.rules s.args_override_self (length fs) (drop (length (encode_utf8 x)) (f ∷ fs)) 0) waits step)

  long_none : (word : Text) (o : Option (Text × Option Text)) (rows : List Row) (pending : Option (Text × List Text))
      → let h : Held = record { rows = rows; pending = pending; skip = 0 } in
      (settle_fault s.rules s.args_override_self h ≡ [] → ⊥) → flag_word_fault s.rules s.args_override_self o word h ≡ []
      → (o ≡ None) × (option_and_then (λ flags. slice_get (chars flags) 0) (short_of word) ≡ None)
  long_none word None rows pending waits e = (refl, first_none (short_of word) rows pending waits e)
  long_none word (Some p) rows pending waits e = absurd (longs_wait (arg_by_long s.rules p.0) p.1 (record { rows = rows; pending = pending; skip = 0 }) waits e)

  pub waiting_plain : (id word : Text) (rows : List Row) (pending : Option (Text × List Text))
      → let h : Held = record { rows = rows; pending = pending; skip = 0 } in
      (settle_fault s.rules s.args_override_self h ≡ [] → ⊥) → turn_fault s [] (at_word rows pending (option id) false) word ≡ []
      → (word ≡ hyphens) ⊎ IsPlainWord word
  waiting_plain id word rows pending waits e = go (bytes_eq word hyphens) refl e
    where
      go : (b : Bool) → bytes_eq word hyphens ≡ b → turn_fault s [] (at_word rows pending (option id) false) word ≡ []
          → (word ≡ hyphens) ⊎ IsPlainWord word
      go true is f = inl ((bytes_eq-Decides _ _).0 is)
      go false is f =
          let h : Held = record { rows = rows; pending = pending; skip = 0 } in
          let other : or_else (flag_word_fault s.rules s.args_override_self (long_of word) word h)
          (step_fault s 1 (long_or_other s.rules (option id) word (long_of word) h).0 (long_or_other s.rules (option id) word (long_of word) h).1) ≡ [] = rw is at f in
          let none = long_none word (long_of word) rows pending waits (both_empty (flag_word_fault s.rules s.args_override_self (long_of word) word h) _ other).0 in
          inr (λ same. (let bad : true ≡ false = sym ((bytes_eq-Decides word hyphens).1 same) ∙ is in cc), none.0, none.1)
