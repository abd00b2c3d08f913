-- What the words behind the program's name ask for.
use Rattle.std.specs.Prelude.{◌≡◌, ◌≢◌, ◌⊎◌, ◌≤◌, ◌<◌, ◌^◌, ◌++◌, ℕ, Bool, List, [], ◌∷◌, codes, ⊤}
use Rattle.std.specs.Prelude.{if◌then◌else◌, Option, Some, None, Result, Ok, Err, MatchResult}
use Rattle.std.specs.Prelude.{length, option_and_then, slice_get}
use Rattle.std.specs.Str.{chars}
use Rattle.std.specs.Str.Parse.{IsNumeral, digits_value, without_leading_plus}
use Rattle.clap.specs.Lexer.{long_of, short_of}
use Rattle.clap.specs.Words.{Row, Text, first_of, one_of}
use Rattle.clap.specs.Kinds.{IsAmong, Kinds}
use Rattle.clap.specs.declared.error.kind.ErrorKind.{ErrorKind}
use Rattle.clap.specs.declared.error.kind.ErrorKind.TheVariants.{DisplayHelp, DisplayVersion, OutOfMemory}
use Rattle.walter_words.specs.declared.asked.WordsFault.{WordsFault}
use Rattle.walter_words.specs.declared.asked.WordsFault.TheVariants.{Usage, Memory}
use Rattle.walter_words.specs.declared.asked.Command.{Command}
use Rattle.walter_words.specs.declared.asked.Command.TheVariants.{Play, Run, Load, Audit, Say}

-- the text is decimal digits, behind a plus or not, that write the number
abbrev pub SpellsNumber : Text → ℕ → Type 0
SpellsNumber text n = IsNumeral 10 (without_leading_plus text) × (digits_value 10 (without_leading_plus text) ≡ n)

-- the first words are `--name=value`, or `--name` and `value`
abbrev pub BeginsBy : Text → Text → List Text → List Text → Type 0
BeginsBy name value words rest =
    (words ≡ (45 ∷ 45 ∷ (name ++ 61 ∷ value)) ∷ rest) ⊎ (words ≡ (45 ∷ 45 ∷ name) ∷ value ∷ rest)

-- nothing more, or `--`
abbrev pub IsEnd : List Text → Type 0
IsEnd words = (words ≡ []) ⊎ (words ≡ codes "--" ∷ [])

abbrev pub trace_words : Bool → List Text → List Text
trace_words trace rest = if trace then codes "--trace" ∷ rest else rest

-- clap reads no flag in the word: it isn't `--`, it is no `--name`, and no character stands behind a first hyphen
abbrev pub IsPlainWord : Text → Type 0
IsPlainWord word = (word ≢ codes "--") × (long_of word ≡ None)
    × (option_and_then (λ flags. slice_get (chars flags) 0) (short_of word) ≡ None)

-- the first words are `--disks=DIR`, or `--disks` and `DIR`, where this is no flag; DIR isn't empty
abbrev pub BeginsByDisks : Text → List Text → List Text → Type 0
BeginsByDisks folder words rest = (0 < length folder)
    × ((words ≡ (codes "--disks=" ++ folder) ∷ rest) ⊎ ((words ≡ codes "--disks" ∷ folder ∷ rest) × IsPlainWord folder))

-- so they are where a folder is named; else nothing is
abbrev pub HasDisks : Option Text → List Text → List Text → Type 0
HasDisks None words rest = words ≡ rest
HasDisks (Some folder) words rest = BeginsByDisks folder words rest

-- the two options, each once where it is asked for, in any order
abbrev pub AreRunOptions : Bool → Option Text → List Text → List Text → Type 0
AreRunOptions trace disks words rest = (between : List Text)
    × (((words ≡ trace_words trace between) × HasDisks disks between rest)
    ⊎ (HasDisks disks words between × (between ≡ trace_words trace rest)))

-- the name of a command, and behind it `--trace` and `--disks DIR`, where they are asked for
abbrev pub IsRunLine : Text → Bool → Option Text → List Text → Type 0
IsRunLine name trace disks words = (options : List Text) × (rest : List Text)
    × (words ≡ name ∷ options) × AreRunOptions trace disks options rest × IsEnd rest

-- the two options once each, in any order
abbrev pub AreOptions : Text → Text → List Text → List Text → Type 0
AreOptions seed calls words rest = (between : List Text)
    × ((BeginsBy (codes "seed") seed words between × BeginsBy (codes "calls") calls between rest)
    ⊎ (BeginsBy (codes "calls") calls words between × BeginsBy (codes "seed") seed between rest))

-- `load --seed N --calls M`
abbrev pub IsLoad : ℕ → ℕ → List Text → Type 0
IsLoad seed calls words = (s : Text) × (c : Text) × (options : List Text) × (rest : List Text)
    × (words ≡ codes "load" ∷ options) × AreOptions s c options rest × IsEnd rest
    × SpellsNumber s seed × SpellsNumber c calls × (seed < 2 ^ 64) × (calls ≤ 20000)

-- `audit`, and behind it `--disks DIR`, where a folder is named
abbrev pub IsAuditLine : Option Text → List Text → Type 0
IsAuditLine disks words = (options : List Text) × (rest : List Text)
    × (words ≡ codes "audit" ∷ options) × HasDisks disks options rest × IsEnd rest

-- the words ask for a run or an audit, and for just this one
abbrev pub AsksFor : Command → List Text → Type 0
AsksFor (Play trace disks) words = IsRunLine (codes "play") trace disks words
AsksFor (Run trace disks) words = IsRunLine (codes "run") trace disks words
AsksFor (Load seed calls) words = IsLoad seed calls words
AsksFor (Audit disks) words = IsAuditLine disks words
AsksFor (Say text) words = ⊥

abbrev pub IsText : Command → Type 0
IsText (Say text) = ⊤
IsText _ = ⊥

-- the folder that the disks are to be in, where one is named
abbrev pub folder_of : Command → Option Text
folder_of (Play trace disks) = disks
folder_of (Run trace disks) = disks
folder_of (Load seed calls) = None
folder_of (Audit disks) = disks
folder_of (Say text) = None

-- the words ask for a run or an audit over the files of this folder, or for none over files
abbrev pub NamesFolder : Option Text → List Text → Type 0
NamesFolder (Some folder) words =
    (command : Command) × AsksFor command words × (folder_of command ≡ Some folder)
NamesFolder None words = (command : Command) → AsksFor command words → folder_of command ≡ None

-- what was found of the two options
abbrev pub HasOptions : Bool → Option Text → List Row → Type 0
HasOptions trace disks rows = (one_of (codes "trace") rows ≡ Some (if trace then codes "true" else codes "false"))
    × (first_of (codes "disks") rows ≡ disks)

-- the command of this name was entered, with these options
abbrev pub IsEntered : Text → Bool → Option Text → Option (Text × List Row) → Type 0
IsEntered name trace disks entered = (rows : List Row) × (entered ≡ Some (name, rows)) × HasOptions trace disks rows

-- what a command is read from, in the matches of the one that was entered
abbrev pub IsReadAs : Option (Text × List Row) → Command → Type 0
IsReadAs entered (Play trace disks) = IsEntered (codes "play") trace disks entered
IsReadAs entered (Run trace disks) = IsEntered (codes "run") trace disks entered
IsReadAs entered (Load seed calls) = (rows : List Row) × (s : Text) × (c : Text)
    × (entered ≡ Some (codes "load", rows))
    × (one_of (codes "seed") rows ≡ Some s) × (one_of (codes "calls") rows ≡ Some c)
    × SpellsNumber s seed × SpellsNumber c calls × (seed < 2 ^ 64) × (calls ≤ 20000)
IsReadAs entered (Audit disks) = (rows : List Row)
    × (entered ≡ Some (codes "audit", rows)) × (first_of (codes "disks") rows ≡ disks)
IsReadAs entered (Say text) = ⊥

-- the answer is this command, unless memory is wanting
abbrev pub IsGiven : Command → Result Command WordsFault → Type 0
IsGiven command result = MatchResult result (λ given. given ≡ command) (λ fault. fault ≡ Memory)

-- the answer is a text, unless memory is wanting
abbrev pub IsSaid : Result Command WordsFault → Type 0
IsSaid result = MatchResult result IsText (λ fault. fault ≡ Memory)

-- the words ask for a help, or for the version
abbrev pub AsksForText : List Text → Type 0
AsksForText words = (words ≡ codes "--help" ∷ []) ⊎ (words ≡ codes "play" ∷ codes "--help" ∷ [])
    ⊎ (words ≡ codes "run" ∷ codes "--help" ∷ []) ⊎ (words ≡ codes "load" ∷ codes "--help" ∷ [])
    ⊎ (words ≡ codes "audit" ∷ codes "--help" ∷ []) ⊎ (words ≡ codes "--version" ∷ [])

abbrev pub IsTextKind : ErrorKind → Type 0
IsTextKind kind = (kind ≡ DisplayHelp) ⊎ (kind ≡ DisplayVersion)

-- what is said for an error of this kind
abbrev pub IsTold : ErrorKind → Result Command WordsFault → Type 0
IsTold kind (Ok command) = IsText command × IsTextKind kind
IsTold kind (Err (Usage text)) = ¬ IsTextKind kind × (kind ≢ OutOfMemory)
IsTold kind (Err Memory) = ⊤

-- a run or an audit comes where no kind of error does, a text where help or the version is to be shown, and Usage where
-- another kind comes
abbrev pub FollowsFrom : Kinds → Result Command WordsFault → Type 0
FollowsFrom kinds (Ok (Say text)) = IsAmong DisplayHelp kinds ⊎ IsAmong DisplayVersion kinds
FollowsFrom kinds (Ok (Play trace disks)) = kinds ≡ []
FollowsFrom kinds (Ok (Run trace disks)) = kinds ≡ []
FollowsFrom kinds (Ok (Load seed calls)) = kinds ≡ []
FollowsFrom kinds (Ok (Audit disks)) = kinds ≡ []
FollowsFrom kinds (Err (Usage text)) = (kind : ErrorKind) × IsAmong kind kinds × (¬ IsTextKind kind)
FollowsFrom kinds (Err Memory) = ⊤
