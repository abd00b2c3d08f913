-- The words ask for a run or an audit where clap takes them, and only there.
use Rattle.std.proofs.Common.{◌≡◌, ◌⊎◌, ◌∙◌, ◌==◌, ◌<◌, ◌≤◌, ◌^◌, ℕ, Bool, true, false, List, [], ◌∷◌, Option, Some, None, codes, refl, sym, ap, inl, inr, subst, arith, Result, Ok, Err}
use Rattle.std.specs.Str.Parse.{IsNumeral, ParsesUnsigned, digits_value, without_leading_plus}
use Rattle.std.proofs.lemmas.Bool.{eqb-true}
use Rattle.clap.specs.Matches.{ReadsOne}
use Rattle.clap.specs.Values.{IsUnsignedIn}
use Rattle.clap.specs.declared.error.kind.ErrorKind.{ErrorKind}
use Rattle.clap.specs.declared.error.kind.ErrorKind.TheVariants.{DisplayHelp, DisplayVersion, OutOfMemory}
use Rattle.walter_words.specs.declared.asked.WordsFault.{WordsFault}
use Rattle.walter_words.specs.declared.asked.WordsFault.TheVariants.{Usage, Memory}
use Rattle.clap.specs.Walk.{Row, Text, nothing_held, rows_after}
use Rattle.clap.specs.Simple.{is_simple, subcommand_of}
use Rattle.clap.specs.Kinds.{IsAmong, Kinds}
use Rattle.clap.specs.Faults.{fault_of, is_simple_and_free, level_fault}
use Rattle.clap.proofs.OnLiterals.{clap_on_literals}
use Rattle.walter_words.specs.declared.asked.Command.{Command}
use Rattle.walter_words.specs.declared.asked.Command.TheVariants.{Play, Run, Load, Audit, Say}
use Rattle.walter_words.specs.Lines.{walter_line}
use Rattle.walter_words.specs.Words.{AsksFor, AsksForText, FollowsFrom, IsAuditLine, IsEntered, IsGiven, IsLoad, IsReadAs, IsRunLine, IsSaid, IsText, IsTextKind, IsTold, NamesFolder, SpellsNumber, folder_of}
use Rattle.walter_words.proofs.Levels.{audit_fault, audit_rows, driven_level, first_word, load_fault, load_rows, play_fault, play_rows, run_fault, run_rows}
use Rattle.walter_words.proofs.Drives.{behind_name, options_pass}
use Rattle.walter_words.proofs.Audits.{behind_audit, folder_passes}
use Rattle.walter_words.proofs.Loads.{IsNoFlag, TwoOptions, behind_load, load_passes, row}

-- a number is no flag
no_flag : (v : Text) (n : ℕ) → SpellsNumber v n → IsNoFlag v
no_flag [] n h = absurd (omega (arith, h.0.0))
no_flag (d ∷ ds) n h = go (d == 45) refl
  where
    go : (b : Bool) → (d == 45) ≡ b → IsNoFlag (d ∷ ds)
    go true is =
        let minus : IsNumeral 10 (without_leading_plus (45 ∷ ds)) = rw (eqb-true d 45 is) at h.0 in
        absurd (omega (arith, minus.1.0))
    go false is = (rw is refl, rw is refl, rw is refl)

fits : (v : Text) (n most : ℕ) → SpellsNumber v n → n < 2 ^ 64 → n ≤ most → IsUnsignedIn 0 most v
fits v n most h low high = (h.0, rw h.1 low, omega arith, rw h.1 high)

-- ---- play and run

-- what is behind this name is left to its level
abbrev IsEnteredBy : Text → Type 0
IsEnteredBy name = (rest : List Text) → (fault_of walter_line (name ∷ rest) ≡ level_fault (driven_level name) [] nothing_held rest false [])
    × (subcommand_of walter_line (name ∷ rest) ≡ Some (name, rows_after (driven_level name).rules [] rest))

play_entered : IsEnteredBy (codes "play")
play_entered rest = (play_fault rest, play_rows rest)

run_entered : IsEnteredBy (codes "run")
run_entered rest = (run_fault rest, run_rows rest)

run_line_takes : (name : Text) (trace : Bool) (disks : Option Text) (words : List Text) → IsEnteredBy name → IsRunLine name trace disks words
    → (fault_of walter_line words ≡ []) × IsEntered name trace disks (subcommand_of walter_line words)
run_line_takes name trace disks words enters (options, rest, is, are, over) =
    let takes = options_pass name trace disks options rest are over in
    let enter = enters options in
    subst (λ w. (fault_of walter_line w ≡ []) × IsEntered name trace disks (subcommand_of walter_line w)) (sym is)
    (enter.0 ∙ takes.0, (rows_after (driven_level name).rules [] options, enter.1, takes.1))

run_line_only : (name : Text) (words rest : List Text) → IsEnteredBy name → words ≡ name ∷ rest → fault_of walter_line words ≡ []
    → (trace : Bool) × (disks : Option Text) × IsRunLine name trace disks words
run_line_only name words rest enters is e =
    let taken = behind_name name rest (sym (enters rest).0 ∙ subst (λ w. fault_of walter_line w ≡ []) is e) in
    (taken.0, taken.1, (rest, taken.2, is, taken.3, taken.4))

-- ---- load

number : Text → ℕ
number v = digits_value 10 (without_leading_plus v)

load_asked : (options : List Text) → TwoOptions options → (seed : ℕ) × (calls : ℕ) × IsLoad seed calls (codes "load" ∷ options)
unfolding number
load_asked options (true, v, u, between, rest, first, second, over, fit, fit2, rows) =
    (number v, number u, (v, u, options, rest, refl, (between, inl (first, second)), over, (fit.0, refl), (fit2.0, refl), fit.1, fit2.3))
load_asked options (false, v, u, between, rest, first, second, over, fit, fit2, rows) =
    (number u, number v, (u, v, options, rest, refl, (between, inr (first, second)), over, (fit2.0, refl), (fit.0, refl), fit2.1, fit.3))

load_takes : (seed calls : ℕ) (words : List Text) → IsLoad seed calls words → (fault_of walter_line words ≡ []) × IsReadAs (subcommand_of walter_line words) (Load seed calls)
load_takes seed calls words (s, c, options, rest, is, options_are, over, wrote, wrote2, low, high) =
    let fit = fits s seed 18446744073709551615 wrote low (omega (arith, low)) in
    let fit2 = fits c calls 20000 wrote2 (omega (arith, high)) high in
    let done : (fault_of walter_line (codes "load" ∷ options) ≡ []) × IsReadAs (subcommand_of walter_line (codes "load" ∷ options)) (Load seed calls) =
    elim options_are.1 [
      | inl parts ↦
          let passes = load_passes true s c options options_are.0 rest parts.0 parts.1 over (no_flag s seed wrote) (no_flag c calls wrote2) fit fit2 in
          (load_fault options ∙ passes.0, (row true s ∷ row false c ∷ [], s, c, load_rows options ∙ ap (λ rows. Some (codes "load", rows)) passes.1, refl, refl, wrote, wrote2, low, high))
      | inr parts ↦
          let passes = load_passes false c s options options_are.0 rest parts.0 parts.1 over (no_flag c calls wrote2) (no_flag s seed wrote) fit2 fit in
          (load_fault options ∙ passes.0, (row false c ∷ row true s ∷ [], s, c, load_rows options ∙ ap (λ rows. Some (codes "load", rows)) passes.1, refl, refl, wrote, wrote2, low, high))
    ] in
    subst (λ w. (fault_of walter_line w ≡ []) × IsReadAs (subcommand_of walter_line w) (Load seed calls)) (sym is) done

-- ---- audit

audit_takes : (disks : Option Text) (words : List Text) → IsAuditLine disks words → (fault_of walter_line words ≡ []) × IsReadAs (subcommand_of walter_line words) (Audit disks)
audit_takes disks words (options, rest, is, named, over) =
    let takes = folder_passes disks options rest named over in
    subst (λ w. (fault_of walter_line w ≡ []) × IsReadAs (subcommand_of walter_line w) (Audit disks)) (sym is)
    (audit_fault options ∙ takes.0, (_, audit_rows options, takes.1))

audit_asked : (words rest : List Text) → words ≡ codes "audit" ∷ rest → fault_of walter_line words ≡ [] → (disks : Option Text) × IsAuditLine disks words
audit_asked words rest is e =
    let taken = behind_audit rest (sym (audit_fault rest) ∙ subst (λ w. fault_of walter_line w ≡ []) is e) in
    (taken.0, (rest, taken.1, is, taken.2, taken.3))

-- ---- all four

-- clap takes the words that ask for a run or an audit, and its matches are read as that
pub taken : (command : Command) (words : List Text) → AsksFor command words → (fault_of walter_line words ≡ []) × IsReadAs (subcommand_of walter_line words) command
taken (Play trace disks) words asks = run_line_takes (codes "play") trace disks words play_entered asks
taken (Run trace disks) words asks = run_line_takes (codes "run") trace disks words run_entered asks
taken (Load seed calls) words asks = load_takes seed calls words asks
taken (Audit disks) words asks = audit_takes disks words asks
taken (Say text) words asks = absurd asks

-- and it takes no others
pub asked : (words : List Text) → fault_of walter_line words ≡ [] → (command : Command) × AsksFor command words
asked words e =
    let first = first_word words e in
    elim first.1 [
      | inl play ↦
          let command = run_line_only (codes "play") words first.0 play_entered play e in
          (Play command.0 command.1, command.2)
      | inr (inl run) ↦
          let command = run_line_only (codes "run") words first.0 run_entered run e in
          (Run command.0 command.1, command.2)
      | inr (inr (inl load)) ↦
          let command = load_asked first.0 (behind_load first.0 (sym (load_fault first.0) ∙ subst (λ w. fault_of walter_line w ≡ []) load e)) in
          (Load command.0 command.1, subst (IsLoad command.0 command.1) (sym load) command.2)
      | inr (inr (inr audit)) ↦
          let command = audit_asked words first.0 audit e in
          (Audit command.0, command.1)
    ]

-- ---- answers

pub is_free_line : is_simple_and_free walter_line ≡ true
unfolding clap_on_literals
is_free_line = refl

pub is_simple_line : is_simple walter_line ≡ true
unfolding clap_on_literals
is_simple_line = refl

-- where nothing fails the command that is read is one that the words ask for
pub read_back : (words : List Text) (entered : Option (Text × List Row)) (result : Option Command) → fault_of walter_line words ≡ []
    → entered ≡ subcommand_of walter_line words → ((command : Command) → IsReadAs entered command → result ≡ Some command)
    → (command : Command) × AsksFor command words × (result ≡ Some command)
read_back words entered result none is reads =
    let a = asked words none in
    (a.0, a.1, reads a.0 (subst (λ e. IsReadAs e a.0) (sym is) (taken a.0 words a.1).1))

pub command_follows : (command : Command) (words : List Text) (kinds : Kinds) → AsksFor command words → kinds ≡ [] → FollowsFrom kinds (Ok command)
command_follows (Play trace disks) words kinds asks e = e
command_follows (Run trace disks) words kinds asks e = e
command_follows (Load seed calls) words kinds asks e = e
command_follows (Audit disks) words kinds asks e = e
command_follows (Say text) words kinds asks e = absurd asks

pub text_kinds : (words : List Text) → AsksForText words → (kind : ErrorKind) × IsTextKind kind × (fault_of walter_line words ≡ kind ∷ [])
unfolding clap_on_literals
text_kinds words (inl is) = (DisplayHelp, inl refl, ap (λ w. fault_of walter_line w) is)
text_kinds words (inr (inl is)) = (DisplayHelp, inl refl, ap (λ w. fault_of walter_line w) is)
text_kinds words (inr (inr (inl is))) = (DisplayHelp, inl refl, ap (λ w. fault_of walter_line w) is)
text_kinds words (inr (inr (inr (inl is)))) = (DisplayHelp, inl refl, ap (λ w. fault_of walter_line w) is)
text_kinds words (inr (inr (inr (inr (inl is))))) = (DisplayHelp, inl refl, ap (λ w. fault_of walter_line w) is)
text_kinds words (inr (inr (inr (inr (inr is))))) = (DisplayVersion, inr refl, ap (λ w. fault_of walter_line w) is)

not_text : IsTextKind OutOfMemory → ⊥
not_text (inl e) = cc
not_text (inr e) = cc

no_run : (command : Command) (kind : ErrorKind) (r : Result Command WordsFault) → kind ≡ OutOfMemory → IsTold kind r → IsGiven command r
no_run command kind (Ok c) is told = absurd (not_text (subst IsTextKind is told.1))
no_run command kind (Err (Usage text)) is told = absurd (told.1 is)
no_run command kind (Err Memory) is told = refl

-- what is said for an error of clap's
pub told_given : (command : Command) (words : List Text) (kind : ErrorKind) (r : Result Command WordsFault) → AsksFor command words
    → (kind ≡ OutOfMemory) ⊎ IsAmong kind (fault_of walter_line words) → IsTold kind r → IsGiven command r
told_given command words kind r asks (inl is) told = no_run command kind r is told
told_given command words kind r asks (inr among) told = absurd (subst (λ kinds. IsAmong kind kinds) (taken command words asks).0 among)

pub told_said : (words : List Text) (kind : ErrorKind) (r : Result Command WordsFault) → AsksForText words
    → (kind ≡ OutOfMemory) ⊎ IsAmong kind (fault_of walter_line words) → IsTold kind r → IsSaid r
told_said words kind (Ok c) asks has told = told.0
told_said words kind (Err Memory) asks has told = refl
told_said words kind (Err (Usage text)) asks (inl is) told = absurd (told.1 is)
told_said words kind (Err (Usage text)) asks (inr among) told =
    let t = text_kinds words asks in
    elim (subst (λ kinds. IsAmong kind kinds) t.2 among) [
      | inl is ↦ absurd (told.0 (subst IsTextKind (sym is) t.1))
      | inr none ↦ absurd none
    ]

pub told_follows : (kinds : Kinds) (kind : ErrorKind) (r : Result Command WordsFault) → (kind ≡ OutOfMemory) ⊎ IsAmong kind kinds → IsTold kind r → FollowsFrom kinds r
told_follows kinds kind (Ok (Play trace disks)) has told = absurd told.0
told_follows kinds kind (Ok (Run trace disks)) has told = absurd told.0
told_follows kinds kind (Ok (Load seed calls)) has told = absurd told.0
told_follows kinds kind (Ok (Audit disks)) has told = absurd told.0
told_follows kinds kind (Ok (Say text)) (inl is) told = absurd (not_text (subst IsTextKind is told.1))
told_follows kinds kind (Ok (Say text)) (inr among) told = elim told.1 [
  | inl help ↦ inl (subst (λ k. IsAmong k kinds) help among)
  | inr version ↦ inr (subst (λ k. IsAmong k kinds) version among)
]
told_follows kinds kind (Err Memory) has told = tt
told_follows kinds kind (Err (Usage text)) (inl is) told = absurd (told.1 is)
told_follows kinds kind (Err (Usage text)) (inr among) told = (kind, among, told.0)

-- the folder of the one command that the words ask for is the one that they name
pub names : (command : Command) (words : List Text) → AsksFor command words ⊎ IsText command
    → ((other : Command) → AsksFor other words → command ≡ other) → NamesFolder (folder_of command) words
names (Play trace None) words asks only = λ other line. ap folder_of (sym (only other line))
names (Play trace (Some folder)) words asks only = elim asks [
  | inl line ↦ (Play trace (Some folder), line, refl)
  | inr text ↦ absurd text
]
names (Run trace None) words asks only = λ other line. ap folder_of (sym (only other line))
names (Run trace (Some folder)) words asks only = elim asks [
  | inl line ↦ (Run trace (Some folder), line, refl)
  | inr text ↦ absurd text
]
names (Load seed calls) words asks only = λ other line. ap folder_of (sym (only other line))
names (Audit None) words asks only = λ other line. ap folder_of (sym (only other line))
names (Audit (Some folder)) words asks only = elim asks [
  | inl line ↦ (Audit (Some folder), line, refl)
  | inr text ↦ absurd text
]
names (Say text) words asks only = λ other line. ap folder_of (sym (only other line))

-- a number that fits is read
pub number_read : (E : Type 0) (G : List ℕ → Result ℕ E → Type 0) (k : ℕ) (t : Text) (n : ℕ) (r : Option ℕ) → ReadsOne G t r
    → ((u : Text) (x : Result ℕ E) → G u x → ParsesUnsigned k 10 u x) → SpellsNumber t n → n < 2 ^ k → r ≡ Some n
number_read E G k t n (Some v) reads only wrote low = ap (λ m. Some m) ((only t (Ok v) reads).1 ∙ wrote.1)
number_read E G k t n None reads only wrote low = absurd (only t (Err reads.0) reads.1 (wrote.0, rw wrote.1 low))
