use Rattle.std.proofs.Common.{◌≡◌, ◌∙◌, ◌⊎◌, [], ◌∷◌, Some, None, map, inl, ap, sym, subst}
use Rattle.std.specs.Prelude.{string_bytes, Ok}
use Rattle.clap.specs.Words.{kind_of, subcommand_of, subcommand_rows_of}
use Rattle.clap.specs.Simple.{is_simple}
use Rattle.clap.specs.Faults.{fault_of, is_simple_and_free}
use Rattle.clap.specs.Kinds.{IsAmong}
use Rattle.clap.specs.declared.error.kind.ErrorKind.TheVariants.{OutOfMemory}
use Rattle.walter_words.specs.Lines.{walter_line}
use Rattle.walter_words.specs.Words.{AsksFor, FollowsFrom}
use Rattle.walter_words.proofs.Asking.{is_free_line, is_simple_line, read_back, command_follows, taken, text_kinds, told_follows, told_given, told_said}
use Rattle.walter_words.proofs.Longs.{same_some}
use Rattle.walter_words.proofs.asked.command_of.Goals as goal

pub unreachable-requires : goal.unreachable-requires
unreachable-requires c =
    let words = map string_bytes c.args.words.now in
    let m = c.in-Ok-try_get_matches_from.matches in
    let none : fault_of walter_line words ≡ [] = ap (λ a. fault_of a words) (sym c.in-Ok.ensures)
    ∙ c.in-Ok-try_get_matches_from.ensures.kinds (ap is_simple_and_free c.in-Ok.ensures ∙ is_free_line) in
    let rows : subcommand_rows_of m ≡ subcommand_of walter_line words = (c.in-Ok-try_get_matches_from.ensures.matches (ap is_simple c.in-Ok.ensures ∙ is_simple_line)).1
    ∙ ap (λ a. subcommand_of a words) c.in-Ok.ensures in
    let back = read_back words (subcommand_rows_of m) c.in-Ok-None.field-0 none rows c.in-Ok-None.ensures in
    let bad : None ≡ Some back.0 = sym c.in-Ok-None.field-0-is ∙ back.2 in
    cc

pub returns-in-Ok-Some-clause-given : goal.returns-in-Ok-Some-clause-given
returns-in-Ok-Some-clause-given c = λ command asks.
    let words = map string_bytes c.args.words.now in
    let m = c.in-Ok-try_get_matches_from.matches in
    let rows : subcommand_rows_of m ≡ subcommand_of walter_line words = (c.in-Ok-try_get_matches_from.ensures.matches (ap is_simple c.in-Ok.ensures ∙ is_simple_line)).1
    ∙ ap (λ a. subcommand_of a words) c.in-Ok.ensures in
    let reads = c.in-Ok-Some.ensures command (rw rows (taken command words asks).1) in
    same_some _ _ (sym c.in-Ok-Some.field-0-is ∙ reads)

pub returns-in-Ok-Some-clause-asked : goal.returns-in-Ok-Some-clause-asked
returns-in-Ok-Some-clause-asked c =
    let words = map string_bytes c.args.words.now in
    let m = c.in-Ok-try_get_matches_from.matches in
    let none : fault_of walter_line words ≡ [] = ap (λ a. fault_of a words) (sym c.in-Ok.ensures)
    ∙ c.in-Ok-try_get_matches_from.ensures.kinds (ap is_simple_and_free c.in-Ok.ensures ∙ is_free_line) in
    let rows : subcommand_rows_of m ≡ subcommand_of walter_line words = (c.in-Ok-try_get_matches_from.ensures.matches (ap is_simple c.in-Ok.ensures ∙ is_simple_line)).1
    ∙ ap (λ a. subcommand_of a words) c.in-Ok.ensures in
    let back = read_back words (subcommand_rows_of m) c.in-Ok-Some.field-0 none rows c.in-Ok-Some.ensures in
    inl (subst (λ command. AsksFor command words) (same_some _ _ (sym back.2 ∙ c.in-Ok-Some.field-0-is)) back.1)

pub returns-in-Ok-Some-clause-said : goal.returns-in-Ok-Some-clause-said
returns-in-Ok-Some-clause-said c = λ asks.
    let words = map string_bytes c.args.words.now in
    let none : fault_of walter_line words ≡ [] = ap (λ a. fault_of a words) (sym c.in-Ok.ensures)
    ∙ c.in-Ok-try_get_matches_from.ensures.kinds (ap is_simple_and_free c.in-Ok.ensures ∙ is_free_line) in
    let t = text_kinds words asks in
    let bad : t.0 ∷ [] ≡ [] = sym t.2 ∙ none in
    cc

pub returns-in-Ok-Some-clause-follows : goal.returns-in-Ok-Some-clause-follows
returns-in-Ok-Some-clause-follows c =
    let words = map string_bytes c.args.words.now in
    let m = c.in-Ok-try_get_matches_from.matches in
    let none : fault_of walter_line words ≡ [] = ap (λ a. fault_of a words) (sym c.in-Ok.ensures)
    ∙ c.in-Ok-try_get_matches_from.ensures.kinds (ap is_simple_and_free c.in-Ok.ensures ∙ is_free_line) in
    let rows : subcommand_rows_of m ≡ subcommand_of walter_line words = (c.in-Ok-try_get_matches_from.ensures.matches (ap is_simple c.in-Ok.ensures ∙ is_simple_line)).1
    ∙ ap (λ a. subcommand_of a words) c.in-Ok.ensures in
    let back = read_back words (subcommand_rows_of m) c.in-Ok-Some.field-0 none rows c.in-Ok-Some.ensures in
    subst (λ command. FollowsFrom (fault_of walter_line words) (Ok command)) (same_some _ _ (sym back.2 ∙ c.in-Ok-Some.field-0-is)) (command_follows back.0 words _ back.1 none)

pub returns-clause-given : goal.returns-clause-given
returns-clause-given c = λ command asks.
    let words = map string_bytes c.args.words.now in
    let has : (kind_of c.in-Err.error ≡ OutOfMemory) ⊎ IsAmong (kind_of c.in-Err.error) (fault_of walter_line words) =
    subst (λ a. (kind_of c.in-Err.error ≡ OutOfMemory) ⊎ IsAmong (kind_of c.in-Err.error) (fault_of a words)) c.in-Ok.ensures
    (c.in-Err.ensures.kinds (ap is_simple_and_free c.in-Ok.ensures ∙ is_free_line)) in
    told_given command words (kind_of c.in-Err.error) c.told_of.result asks has c.told_of.ensures

pub returns-clause-said : goal.returns-clause-said
returns-clause-said c = λ asks.
    let words = map string_bytes c.args.words.now in
    let has : (kind_of c.in-Err.error ≡ OutOfMemory) ⊎ IsAmong (kind_of c.in-Err.error) (fault_of walter_line words) =
    subst (λ a. (kind_of c.in-Err.error ≡ OutOfMemory) ⊎ IsAmong (kind_of c.in-Err.error) (fault_of a words)) c.in-Ok.ensures
    (c.in-Err.ensures.kinds (ap is_simple_and_free c.in-Ok.ensures ∙ is_free_line)) in
    told_said words (kind_of c.in-Err.error) c.told_of.result asks has c.told_of.ensures

pub returns-clause-follows : goal.returns-clause-follows
returns-clause-follows c =
    let words = map string_bytes c.args.words.now in
    let has : (kind_of c.in-Err.error ≡ OutOfMemory) ⊎ IsAmong (kind_of c.in-Err.error) (fault_of walter_line words) =
    subst (λ a. (kind_of c.in-Err.error ≡ OutOfMemory) ⊎ IsAmong (kind_of c.in-Err.error) (fault_of a words)) c.in-Ok.ensures
    (c.in-Err.ensures.kinds (ap is_simple_and_free c.in-Ok.ensures ∙ is_free_line)) in
    told_follows (fault_of walter_line words) (kind_of c.in-Err.error) c.told_of.result has c.told_of.ensures
