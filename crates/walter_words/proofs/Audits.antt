-- What stands behind `audit`.
use Rattle.std.proofs.Common.{◌≡◌, ◌⊎◌, ◌∙◌, ◌==◌, ◌<◌, ℕ, Bool, true, false, List, [], ◌∷◌, ◌++◌, length, Option, Some, None, codes, fold, refl, sym, ap, ap₂, inl, inr, subst}
use Rattle.std.specs.Str.{bytes_eq}
use Rattle.std.proofs.lemmas.Slice.Eq.{bytes_eq-Decides}
use Rattle.clap.specs.Lexer.{long_of}
use Rattle.clap.specs.Walk.{Held, Row, Rule, Step, Text, Waiting, Walk, after_step, arg_by_long, arg_by_short, finished, idle, nothing_held, option, positional, rows_after, settled, takes_values, used, walked, with_default}
use Rattle.clap.specs.Words.{first_of}
use Rattle.clap.specs.Simple.{Shape, filled}
use Rattle.clap.proofs.ValueTestLemmas.{Accepts-accepts}
use Rattle.clap.specs.declared.builder.value_parser.ValueParser.TheVariants.{NonEmptyString}
use Rattle.clap.specs.Kinds.{Kinds, or_else}
use Rattle.clap.specs.Faults.{check_fault, defaults_fault, level_fault, long_fault, react_fault, settle_fault, turn_fault, use_fault, walk_fault}
use Rattle.clap.proofs.OnLiterals.{clap_on_literals}
use Rattle.clap.specs.declared.parser.matches.ValueSource.TheVariants.{CommandLine}
use Rattle.clap.specs.declared.builder.value_parser.Reading.TheVariants.{AsWritten}
use Rattle.walter_words.specs.Lines.{disks_rule}
use Rattle.walter_words.specs.Words.{HasDisks, IsEnd, IsPlainWord}
use Rattle.walter_words.proofs.Longs.{long_with, long_without, same_some}
use Rattle.walter_words.proofs.Levels.{IsRequest, audit_level, help_flag, help_request, is_request, request_fails}
use Rattle.walter_words.proofs.Drives.{is_named}
use Rattle.walter_words.proofs.Turns.{at_word, both_empty, hyphens, idle_turn, one_word, plain_met, plain_turn, value_fails, waiting_plain}

abbrev folder_rule : Rule
folder_rule = filled disks_rule

-- `--disks` with a folder
abbrev Begins : Text → List Text → List Text → Type 0
Begins folder words rest =
    (words ≡ (codes "--disks=" ++ folder) ∷ rest) ⊎ ((words ≡ codes "--disks" ∷ folder ∷ rest) × IsPlainWord folder)

abbrev held : List Row → Option (Text × List Text) → Held
held rows pending = record { rows = rows; pending = pending; skip = 0 }

abbrev row : Text → Row
row folder = record { id = codes "disks"; values = folder ∷ []; count = None; source = Some CommandLine; reading = AsWritten }

abbrev fault_in : Text → List Row → Kinds
fault_in folder rows = use_fault false folder_rule (folder ∷ []) rows

first_row : (folder : Text) → used folder_rule (folder ∷ []) [] ≡ row folder ∷ []
first_row folder = refl

-- one folder is named at most
no_second : (folder more : Text) → fault_in more (row folder ∷ []) ≡ [] → ⊥
no_second folder more e = cc

-- a folder that isn't empty is taken
first_use : (folder : Text) → 0 < length folder → fault_in folder [] ≡ []
first_use folder named = rw (Accepts-accepts false NonEmptyString folder named) refl

abbrev level : Shape
level = audit_level

abbrev settled_rows : List Row → Option (Text × List Text) → List Row
settled_rows rows pending = (settled level.rules (held rows pending)).rows

abbrev settle : List Row → Option (Text × List Text) → Kinds
settle rows pending = settle_fault level.rules false (held rows pending)

shorts : (x : ℕ) (a : Rule) (h : Held) → arg_by_short level.rules x ≡ Some a → (takes_values a ≡ false) × (react_fault level.rules level.args_override_self a [] h ≡ [] → ⊥)
shorts x a h e = go (104 == x) refl
  where
    go : (b : Bool) → (104 == x) ≡ b → (takes_values a ≡ false) × (react_fault level.rules level.args_override_self a [] h ≡ [] → ⊥)
    go true is = let r = is_request level help_flag a (help_request level) (rw is at e) in (r.0, r.1 h)
    go false is = let bad : None ≡ Some a = rw is at e in cc

abbrev IsKnown : Text → Rule → Type 0
IsKnown name a = ((name ≡ codes "disks") × (a ≡ folder_rule)) ⊎ IsRequest level a

flags : (name : Text) (a : Rule) → arg_by_long level.rules name ≡ Some a → IsKnown name a
flags name a e = go (bytes_eq (codes "disks") name) refl
  where
    second : (b : Bool) → bytes_eq (codes "disks") name ≡ false → bytes_eq (codes "help") name ≡ b → IsKnown name a
    second true first is = inr (is_request level help_flag a (help_request level) (rw (first, is) at e))
    second false first is = let bad : None ≡ Some a = rw (first, is) at e in cc

    go : (b : Bool) → bytes_eq (codes "disks") name ≡ b → IsKnown name a
    go true is = inl (sym ((bytes_eq-Decides _ _).0 is), sym (same_some _ _ (rw is at e)))
    go false is = second (bytes_eq (codes "help") name) is refl

-- what the end of the words asks
abbrev Ends : Walk → Type 0
Ends w = settle_fault level.rules false w.held ≡ []

abbrev after : List Row → Option (Text × List Text) → List Text → Walk
after rows pending words = fold (walked level.rules []) (at_word rows pending idle false) words

-- the folder is read, and the words go on behind it
record Reads (rows : List Row) (pending : Option (Text × List Text)) (words : List Text) : Type 0 where
  folder : Text
  rest : List Text
  rows2 : List Row
  pending2 : Option (Text × List Text)
  begins : Begins folder words rest
  settles : settle rows pending ≡ []
  fits : settle rows2 pending2 ≡ [] → fault_in folder (settled_rows rows pending) ≡ []
  rows_are : settled_rows rows2 pending2 ≡ used folder_rule (folder ∷ []) (settled_rows rows pending)
  onward : walk_fault level [] (at_word rows2 pending2 idle false) rest ≡ []
  same : after rows pending words ≡ after rows2 pending2 rest

no_more : (rest : List Text) (rows : List Row) (pending : Option (Text × List Text)) (waiting : Waiting) → walk_fault level [] (at_word rows pending waiting true) rest ≡ [] → rest ≡ []
no_more [] rows pending waiting e = refl
no_more (word ∷ rest) rows pending waiting e =
    absurd (value_fails level refl shorts (held rows pending) (one_word level [] (at_word rows pending waiting true) word rest e).0)

-- an option that has no value yet fails
waits : (rows : List Row) → settle rows (Some (codes "disks", [])) ≡ [] → ⊥
waits rows e = cc

hyphens_step : (rows : List Row) (pending : Option (Text × List Text)) (waiting : Waiting) → walked level.rules [] (at_word rows pending waiting false) hyphens ≡ at_word rows pending waiting true
unfolding walked
hyphens_step rows pending idle = refl
hyphens_step rows pending (option id) = refl
hyphens_step rows pending positional = refl

-- ---- `--disks=DIR`

joined_step : (word name x : Text) (a : Rule) (rows : List Row) (pending : Option (Text × List Text)) → bytes_eq word hyphens ≡ false
    → long_of word ≡ Some (name, Some x) → arg_by_long level.rules name ≡ Some a → a ≡ folder_rule
    → walked level.rules [] (at_word rows pending idle false) word ≡ at_word (used folder_rule (x ∷ []) (settled_rows rows pending)) None idle false
unfolding walked
joined_step word name x a rows pending unlike long found is = rw (unlike, long, found, is) refl

joined : (word name x : Text) (a : Rule) (rest : List Text) (rows : List Row) (pending : Option (Text × List Text)) → bytes_eq word hyphens ≡ false
    → long_of word ≡ Some (name, Some x) → arg_by_long level.rules name ≡ Some a → name ≡ codes "disks" → a ≡ folder_rule
    → long_fault level.rules false (Some a) (Some x) (held rows pending) ≡ []
    → walk_fault level [] (walked level.rules [] (at_word rows pending idle false) word) rest ≡ []
    → Reads rows pending (word ∷ rest)
joined word name x a rest rows pending unlike long found named is fault onward =
    let step = joined_step word name x a rows pending unlike long found is in
    let faults = both_empty (settle rows pending) (fault_in x (settled_rows rows pending)) (rw is at fault) in record {
      folder = x;
      rest = rest;
      rows2 = used folder_rule (x ∷ []) (settled_rows rows pending);
      pending2 = None;
      begins = inl (ap (λ w. w ∷ rest) (long_with word name x long ∙ ap (λ n. 45 ∷ 45 ∷ (n ++ 61 ∷ x)) named));
      settles = faults.0;
      fits = λ none. faults.1;
      rows_are = refl;
      onward = subst (λ w. walk_fault level [] w rest ≡ []) step onward;
      same = ap (λ w. fold (walked level.rules []) w rest) step;
    }

-- ---- `--disks DIR`

abbrev waiting_at : List Row → Walk
waiting_at rows = at_word rows (Some (codes "disks", [])) (option (codes "disks")) false

parted_step : (word name : Text) (a : Rule) (rows : List Row) (pending : Option (Text × List Text)) → bytes_eq word hyphens ≡ false
    → long_of word ≡ Some (name, None) → arg_by_long level.rules name ≡ Some a → a ≡ folder_rule
    → walked level.rules [] (at_word rows pending idle false) word ≡ waiting_at (settled_rows rows pending)
unfolding walked
parted_step word name a rows pending unlike long found is = rw (unlike, long, found, is) refl

value_step : (v : Text) (rows : List Row) → IsPlainWord v
    → walked level.rules [] (waiting_at rows) v ≡ at_word rows (Some (codes "disks", v ∷ [])) idle false
unfolding walked
value_step v rows plain =
    ap (λ (m : Held × Step). after_step level.rules v (waiting_at rows) m.0 m.1)
    (plain_met level refl shorts (codes "disks") v rows (Some (codes "disks", [])) plain)

parted : (word name : Text) (a : Rule) (rest : List Text) (rows : List Row) (pending : Option (Text × List Text)) → bytes_eq word hyphens ≡ false
    → long_of word ≡ Some (name, None) → arg_by_long level.rules name ≡ Some a → name ≡ codes "disks" → a ≡ folder_rule
    → long_fault level.rules false (Some a) None (held rows pending) ≡ []
    → walk_fault level [] (walked level.rules [] (at_word rows pending idle false) word) rest ≡ []
    → Ends (after rows pending (word ∷ rest))
    → Reads rows pending (word ∷ rest)
parted word name a [] rows pending unlike long found named is fault onward end =
    let step = parted_step word name a rows pending unlike long found is in
    absurd (waits (settled_rows rows pending) (subst Ends step end))
parted word name a (v ∷ rest) rows pending unlike long found named is fault onward end =
    let step = parted_step word name a rows pending unlike long found is in
    let now = settled_rows rows pending in
    let one = one_word level [] (waiting_at now) v rest (subst (λ w. walk_fault level [] w (v ∷ rest) ≡ []) step onward) in
    let is_word = long_without word name long ∙ ap (λ n. 45 ∷ 45 ∷ n) named in
    elim (waiting_plain level refl shorts (codes "disks") v now (Some (codes "disks", [])) (waits now) one.0) [
      | inl hyphen ↦
          let go = hyphens_step now (Some (codes "disks", [])) (option (codes "disks")) in
          let on : walk_fault level [] (at_word now (Some (codes "disks", [])) (option (codes "disks")) true) rest ≡ [] =
          subst (λ w. walk_fault level [] w rest ≡ []) (ap (walked level.rules [] (waiting_at now)) hyphen ∙ go) one.1 in
          let none = no_more rest now (Some (codes "disks", [])) (option (codes "disks")) on in
          let last : after rows pending (word ∷ v ∷ rest) ≡ at_word now (Some (codes "disks", [])) (option (codes "disks")) true =
          ap (λ w. fold (walked level.rules []) (walked level.rules [] w v) rest) step
          ∙ (ap (λ w. fold (walked level.rules []) w rest) (ap (walked level.rules [] (waiting_at now)) hyphen ∙ go)
          ∙ ap (λ r. fold (walked level.rules []) (at_word now (Some (codes "disks", [])) (option (codes "disks")) true) r) none) in
          absurd (waits now (subst Ends last end))
      | inr plain ↦
          let next = value_step v now plain in record {
            folder = v;
            rest = rest;
            rows2 = now;
            pending2 = Some (codes "disks", v ∷ []);
            begins = inr (ap (λ w. w ∷ v ∷ rest) is_word, plain);
            settles = rw is at fault;
            fits = λ none. none;
            rows_are = refl;
            onward = subst (λ w. walk_fault level [] w rest ≡ []) next one.1;
            same = ap (λ w. fold (walked level.rules []) (walked level.rules [] w v) rest) step ∙ ap (λ w. fold (walked level.rules []) w rest) next;
          }
    ]

disks_read : (word name : Text) (v : Option Text) (a : Rule) (rest : List Text) (rows : List Row) (pending : Option (Text × List Text)) → bytes_eq word hyphens ≡ false
    → long_of word ≡ Some (name, v) → arg_by_long level.rules name ≡ Some a → name ≡ codes "disks" → a ≡ folder_rule
    → long_fault level.rules false (Some a) v (held rows pending) ≡ []
    → walk_fault level [] (walked level.rules [] (at_word rows pending idle false) word) rest ≡ []
    → Ends (after rows pending (word ∷ rest))
    → Reads rows pending (word ∷ rest)
disks_read word name None a rest rows pending unlike long found named is fault onward end = parted word name a rest rows pending unlike long found named is fault onward end
disks_read word name (Some x) a rest rows pending unlike long found named is fault onward end = joined word name x a rest rows pending unlike long found named is fault onward

-- ---- what it takes

next_option : (words : List Text) (rows : List Row) (pending : Option (Text × List Text)) → walk_fault level [] (at_word rows pending idle false) words ≡ []
    → Ends (after rows pending words) → IsEnd words ⊎ Reads rows pending words
next_option [] rows pending e end = inl (inl refl)
next_option (word ∷ rest) rows pending e end =
    let one = one_word level [] (at_word rows pending idle false) word rest e in
    elim (idle_turn level refl shorts [] word rows pending refl one.0) [
      | inl hyphen ↦
          let on : walk_fault level [] (at_word rows pending idle true) rest ≡ [] =
          subst (λ w. walk_fault level [] w rest ≡ []) (ap (walked level.rules [] (at_word rows pending idle false)) hyphen ∙ hyphens_step rows pending idle) one.1 in
          inl (inr (ap (λ w. w ∷ rest) hyphen ∙ ap (λ r. hyphens ∷ r) (no_more rest rows pending idle on)))
      | inr read ↦ elim (flags read.0.0 read.1 read.3) [
        | inl disks ↦ inr (disks_read word read.0.0 read.0.1 read.1 rest rows pending read.5 read.2 read.3 disks.0 disks.1 read.4 one.1 end)
        | inr request ↦ absurd (request_fails level read.1 read.0.1 (held rows pending) request read.4)
      ]
    ]

ends_held : (rest : List Text) (rows : List Row) (pending : Option (Text × List Text)) → IsEnd rest → (after rows pending rest).held ≡ held rows pending
ends_held rest rows pending (inl none) = ap (λ r. (after rows pending r).held) none
ends_held rest rows pending (inr hyphen) = ap (λ r. (after rows pending r).held) hyphen ∙ ap (λ (w : Walk). w.held) (hyphens_step rows pending idle)

settles_by : (words : List Text) (rows : List Row) (pending : Option (Text × List Text)) → walk_fault level [] (at_word rows pending idle false) words ≡ []
    → Ends (after rows pending words) → settle rows pending ≡ []
settles_by words rows pending e end = elim (next_option words rows pending e end) [
  | inl over ↦ ap (settle_fault level.rules false) (sym (ends_held words rows pending over)) ∙ end
  | inr read ↦ read.settles
]

-- what may stand behind the name
abbrev pub AreTaken : List Text → Type 0
AreTaken words = (disks : Option Text) × (rest : List Text) × HasDisks disks words rest × IsEnd rest

folder_taken : (words : List Text) → walk_fault level [] (at_word [] None idle false) words ≡ [] → Ends (after [] None words) → AreTaken words
folder_taken words e end = elim (next_option words [] None e end) [
  | inl over ↦ (None, words, refl, over)
  | inr one ↦
      let end1 = subst Ends one.same end in
      let use1 = one.fits (settles_by one.rest one.rows2 one.pending2 one.onward end1) in
      let rows1 : settled_rows one.rows2 one.pending2 ≡ row one.folder ∷ [] = one.rows_are ∙ first_row one.folder in
      elim (next_option one.rest one.rows2 one.pending2 one.onward end1) [
        | inl over ↦ (Some one.folder, one.rest, (is_named one.folder [] use1, one.begins), over)
        | inr two ↦
            let end2 = subst Ends two.same end1 in
            absurd (no_second one.folder two.folder (subst (λ rows. fault_in two.folder rows ≡ []) rows1
            (two.fits (settles_by two.rest two.rows2 two.pending2 two.onward end2))))
      ]
]

pub behind_audit : (words : List Text) → level_fault level [] nothing_held words false [] ≡ [] → AreTaken words
behind_audit words e =
    let last = after [] None words in
    let first = both_empty (walk_fault level [] (at_word [] None idle false) words)
    (or_else [] (or_else (settle_fault level.rules false last.held) (or_else (defaults_fault (settled level.rules last.held).rows level.rules)
    (check_fault level (finished level.rules last.held) false)))) e in
    let second = both_empty (settle_fault level.rules false last.held) (or_else (defaults_fault (settled level.rules last.held).rows level.rules)
    (check_fault level (finished level.rules last.held) false)) first.1 in
    folder_taken words first.0 second.0

-- ---- and that it takes it

-- a walk over a word that passes
past : (w : Walk) (word : Text) (rest : List Text) (next : Walk) → turn_fault level [] w word ≡ [] → walked level.rules [] w word ≡ next
    → walk_fault level [] w (word ∷ rest) ≡ walk_fault level [] next rest
unfolding walk_fault
past w word rest next turn step =
    ap (λ k. or_else k (walk_fault level [] (walked level.rules [] w word) rest)) turn ∙ ap (λ x. walk_fault level [] x rest) step

joined_turn : (v : Text) → 0 < length v → turn_fault level [] (at_word [] None idle false) (codes "--disks=" ++ v) ≡ []
joined_turn v named = ap (λ y. or_else (or_else [] y) []) (first_use v named)

joined_walk : (v : Text) → walked level.rules [] (at_word [] None idle false) (codes "--disks=" ++ v) ≡ at_word (row v ∷ []) None idle false
unfolding walked
joined_walk v = refl

parted_turn : turn_fault level [] (at_word [] None idle false) (codes "--disks") ≡ []
parted_turn = refl

parted_walk : walked level.rules [] (at_word [] None idle false) (codes "--disks") ≡ waiting_at []
unfolding walked
parted_walk = refl

end_passes : (rest : List Text) (rows : List Row) (pending : Option (Text × List Text)) → IsEnd rest → walk_fault level [] (at_word rows pending idle false) rest ≡ []
unfolding walk_fault
end_passes rest rows pending (inl none) = ap (λ r. walk_fault level [] (at_word rows pending idle false) r) none
end_passes rest rows pending (inr hyphen) = ap (λ r. walk_fault level [] (at_word rows pending idle false) r) hyphen

-- what is asked of the rows at the end, and what they say
abbrev EndsWell : Option Text → List Row → Type 0
EndsWell disks rows = (or_else (defaults_fault rows level.rules) (check_fault level (fold with_default rows level.rules) false) ≡ [])
    × (first_of (codes "disks") (fold with_default rows level.rules) ≡ disks)

none_ends : EndsWell None []
unfolding clap_on_literals
none_ends = (refl, refl)

one_ends : (v : Text) → EndsWell (Some v) (row v ∷ [])
unfolding clap_on_literals
one_ends v = (refl, refl)

-- the level takes the words, and keeps what they name
abbrev pub IsTaken : Option Text → List Text → Type 0
IsTaken disks words = (level_fault level [] nothing_held words false [] ≡ []) × (first_of (codes "disks") (rows_after level.rules [] words) ≡ disks)

ending : (disks : Option Text) (words rest : List Text) (rows : List Row) (pending : Option (Text × List Text)) (last : List Row)
    → IsEnd rest → settle rows pending ≡ [] → settled_rows rows pending ≡ last → EndsWell disks last
    → walk_fault level [] (at_word [] None idle false) words ≡ walk_fault level [] (at_word rows pending idle false) rest
    → after [] None words ≡ after rows pending rest → IsTaken disks words
ending disks words rest rows pending last over none are well faults same =
    let walk_is : walk_fault level [] (at_word [] None idle false) words ≡ [] = faults ∙ end_passes rest rows pending over in
    let held_is : (after [] None words).held ≡ held rows pending = ap (λ (w : Walk). w.held) same ∙ ends_held rest rows pending over in
    let behind : Held → Kinds = λ h. or_else (settle_fault level.rules false h) (or_else (defaults_fault (settled level.rules h).rows level.rules)
    (check_fault level (finished level.rules h) false)) in
    let rows_end : rows_after level.rules [] words ≡ fold with_default last level.rules =
    ap (λ (h : Held). finished level.rules h) held_is ∙ ap (λ l. fold with_default l level.rules) are in (
      ap₂ (λ x (h : Held). or_else x (behind h)) walk_is held_is
          ∙ (ap₂ (λ x l. or_else x (or_else (defaults_fault l level.rules) (check_fault level (fold with_default l level.rules) false))) none are ∙ well.0),
      subst (λ found. first_of (codes "disks") found ≡ disks) (sym rows_end) well.1,
    )

-- the folder that may be named passes
pub folder_passes : (disks : Option Text) (words rest : List Text) → HasDisks disks words rest → IsEnd rest → IsTaken disks words
folder_passes None words rest is over =
    ending None words rest [] None [] over refl refl none_ends
    (ap (λ w. walk_fault level [] (at_word [] None idle false) w) is) (ap (λ w. after [] None w) is)
folder_passes (Some v) words rest (named, inl is) over =
    ending (Some v) words rest (row v ∷ []) None (row v ∷ []) over refl refl (one_ends v)
    (ap (λ w. walk_fault level [] (at_word [] None idle false) w) is ∙ past _ _ rest _ (joined_turn v named) (joined_walk v))
    (ap (λ w. after [] None w) is ∙ ap (λ w. fold (walked level.rules []) w rest) (joined_walk v))
folder_passes (Some v) words rest (named, inr is) over =
    let next = value_step v [] is.1 in
    ending (Some v) words rest [] (Some (codes "disks", v ∷ [])) (row v ∷ []) over (first_use v named) refl (one_ends v)
    (ap (λ w. walk_fault level [] (at_word [] None idle false) w) is.0 ∙ (past _ _ (v ∷ rest) (waiting_at []) parted_turn parted_walk
    ∙ past (waiting_at []) v rest _ (plain_turn level refl shorts (codes "disks") v [] (Some (codes "disks", [])) is.1) next))
    (ap (λ w. after [] None w) is.0 ∙ (ap (λ w. fold (walked level.rules []) (walked level.rules [] w v) rest) parted_walk
    ∙ ap (λ w. fold (walked level.rules []) w rest) next))
