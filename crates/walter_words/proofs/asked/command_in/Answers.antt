use Rattle.std.proofs.Common.{◌≡◌, ◌∙◌, ℕ, Bool, true, false, List, Option, Some, codes, option_map, refl, ap, sym, subst}
use Rattle.std.specs.Option.{option_map_or}
use Rattle.std.specs.Str.{bytes_eq}
use Rattle.std.specs.Prelude.{Box}
use Rattle.std.specs.Box.{box_value}
use Rattle.clap.specs.Simple.{subcommand_rows}
use Rattle.clap.specs.Words.{Row, first_of, found_of, rows_of, subcommand_rows_of}
use Rattle.clap.specs.declared.parser.matches.ArgMatches.TheViews.{out-ArgMatches, out-SubCommand}
use Rattle.clap.specs.declared.parser.matches.SubCommand.{SubCommand}
use Rattle.walter_words.specs.declared.asked.Command.{Command}
use Rattle.walter_words.specs.declared.asked.Command.TheVariants.{Play, Run, Load, Audit, Say}
use Rattle.walter_words.specs.Words.{HasOptions, IsReadAs}
use Rattle.walter_words.proofs.Entered.{name_is, none_is_some, rows_are}
use Rattle.walter_words.proofs.asked.command_in.Goals as goal

-- the command that was entered has one name
one_name : {Z : Type 0} (sub : Option (Box SubCommand Z)) (name other : List ℕ) (rows : List Row) → subcommand_rows sub ≡ Some (other, rows)
    → option_map (λ b. (out-SubCommand (box_value b)).name.now) sub ≡ Some name → Some other ≡ Some name
one_name sub name other rows is entered = sym (name_is sub other rows is) ∙ entered

true_false : true ≡ false → ⊥
true_false e = cc

-- whether it is this name
abbrev is_name : List ℕ → Option (List ℕ) → Bool
is_name name found = option_map_or (λ (t : List ℕ). bytes_eq t name) found false

run_not_play : Some (codes "run") ≡ Some (codes "play") → ⊥
run_not_play e = true_false (ap (is_name (codes "run")) e)

load_not_play : Some (codes "load") ≡ Some (codes "play") → ⊥
load_not_play e = true_false (ap (is_name (codes "load")) e)

load_not_run : Some (codes "load") ≡ Some (codes "run") → ⊥
load_not_run e = true_false (ap (is_name (codes "load")) e)

audit_not_play : Some (codes "audit") ≡ Some (codes "play") → ⊥
audit_not_play e = true_false (ap (is_name (codes "audit")) e)

audit_not_run : Some (codes "audit") ≡ Some (codes "run") → ⊥
audit_not_run e = true_false (ap (is_name (codes "audit")) e)

audit_not_load : Some (codes "audit") ≡ Some (codes "load") → ⊥
audit_not_load e = true_false (ap (is_name (codes "audit")) e)

-- it is `play`
pub returns-in-Some : goal.returns-in-Some
returns-in-Some c = λ command reads. go command reads
  where
    go : (command : Command) → IsReadAs (subcommand_rows_of c.args.matches.now) command → Some c.in_ok-play_of.field-0 ≡ Some command
    go (Play trace disks) (rows, is, options) =
        let same = rows_are (out-ArgMatches c.args.matches.now).subcommand (codes "play") rows (rows_of (found_of c.in-Some.play.now)) is c.in-Some.ensures.rows in
        ap (λ (k : Command). Some k) (c.in_ok-play_of.ensures trace disks (subst (HasOptions trace disks) (sym same) options))
    go (Run trace disks) (rows, is, options) =
        absurd (run_not_play (one_name (out-ArgMatches c.args.matches.now).subcommand (codes "play") (codes "run") rows is (c.in-Some.ensures.found.0 refl)))
    go (Load seed calls) reads =
        absurd (load_not_play (one_name (out-ArgMatches c.args.matches.now).subcommand (codes "play") (codes "load") reads.0 reads.3 (c.in-Some.ensures.found.0 refl)))
    go (Audit disks) (rows, is, named) =
        absurd (audit_not_play (one_name (out-ArgMatches c.args.matches.now).subcommand (codes "play") (codes "audit") rows is (c.in-Some.ensures.found.0 refl)))
    go (Say text) reads = absurd reads

-- it is `run`
pub returns-in-Some-subcommand_matches : goal.returns-in-Some-subcommand_matches
returns-in-Some-subcommand_matches c = λ command reads. go command reads
  where
    go : (command : Command) → IsReadAs (subcommand_rows_of c.args.matches.now) command → Some c.in_ok-run_of.field-0 ≡ Some command
    go (Play trace disks) (rows, is, options) =
        let some = c.subcommand_matches.ensures.found.1 (name_is (out-ArgMatches c.args.matches.now).subcommand (codes "play") rows is) in
        absurd (none_is_some c.subcommand_matches.result some c.in_default.not-Some)
    go (Run trace disks) (rows, is, options) =
        let same = rows_are (out-ArgMatches c.args.matches.now).subcommand (codes "run") rows (rows_of (found_of c.in-Some-subcommand_matches.run'.now)) is
        c.in-Some-subcommand_matches.ensures.rows in
        ap (λ (k : Command). Some k) (c.in_ok-run_of.ensures trace disks (subst (HasOptions trace disks) (sym same) options))
    go (Load seed calls) reads =
        absurd (load_not_run (one_name (out-ArgMatches c.args.matches.now).subcommand (codes "run") (codes "load") reads.0 reads.3
        (c.in-Some-subcommand_matches.ensures.found.0 refl)))
    go (Audit disks) (rows, is, named) =
        absurd (audit_not_run (one_name (out-ArgMatches c.args.matches.now).subcommand (codes "run") (codes "audit") rows is
        (c.in-Some-subcommand_matches.ensures.found.0 refl)))
    go (Say text) reads = absurd reads

-- it is `load`
pub returns-in-Some-subcommand_matches-2 : goal.returns-in-Some-subcommand_matches-2
returns-in-Some-subcommand_matches-2 c = λ command reads. go command reads
  where
    go : (command : Command) → IsReadAs (subcommand_rows_of c.args.matches.now) command → c.load_of.result ≡ Some command
    go (Play trace disks) (rows, is, options) =
        let some = c.subcommand_matches.ensures.found.1 (name_is (out-ArgMatches c.args.matches.now).subcommand (codes "play") rows is) in
        absurd (none_is_some c.subcommand_matches.result some c.in_default.not-Some)
    go (Run trace disks) (rows, is, options) =
        let some = c.subcommand_matches-2.ensures.found.1 (name_is (out-ArgMatches c.args.matches.now).subcommand (codes "run") rows is) in
        absurd (none_is_some c.subcommand_matches-2.result some c.in_default-subcommand_matches.not-Some)
    go (Load seed calls) reads =
        let same = rows_are (out-ArgMatches c.args.matches.now).subcommand (codes "load") reads.0 (rows_of (found_of c.in-Some-subcommand_matches-2.load.now)) reads.3
        c.in-Some-subcommand_matches-2.ensures.rows in
        c.load_of.ensures reads.1 reads.2 seed calls (rw same reads.4) (rw same reads.5) reads.6 reads.7 reads.8 reads.9
    go (Audit disks) (rows, is, named) =
        absurd (audit_not_load (one_name (out-ArgMatches c.args.matches.now).subcommand (codes "load") (codes "audit") rows is
        (c.in-Some-subcommand_matches-2.ensures.found.0 refl)))
    go (Say text) reads = absurd reads

-- it is `audit`
pub returns-in_ok-audit_of-in-Some-subcommand_matches-3 : goal.returns-in_ok-audit_of-in-Some-subcommand_matches-3
returns-in_ok-audit_of-in-Some-subcommand_matches-3 c = λ command reads. go command reads
  where
    go : (command : Command) → IsReadAs (subcommand_rows_of c.args.matches.now) command → Some c.in_ok-audit_of-in-Some-subcommand_matches-3.field-0 ≡ Some command
    go (Play trace disks) (rows, is, options) =
        let some = c.subcommand_matches.ensures.found.1 (name_is (out-ArgMatches c.args.matches.now).subcommand (codes "play") rows is) in
        absurd (none_is_some c.subcommand_matches.result some c.in_default.not-Some)
    go (Run trace disks) (rows, is, options) =
        let some = c.subcommand_matches-2.ensures.found.1 (name_is (out-ArgMatches c.args.matches.now).subcommand (codes "run") rows is) in
        absurd (none_is_some c.subcommand_matches-2.result some c.in_default-subcommand_matches.not-Some)
    go (Load seed calls) reads =
        let some = c.subcommand_matches-3.ensures.found.1 (name_is (out-ArgMatches c.args.matches.now).subcommand (codes "load") reads.0 reads.3) in
        absurd (none_is_some c.subcommand_matches-3.result some c.in_default-subcommand_matches-2.not-Some)
    go (Audit disks) (rows, is, named) =
        let same = rows_are (out-ArgMatches c.args.matches.now).subcommand (codes "audit") rows (rows_of (found_of c.in-Some-subcommand_matches-3.audit.now)) is
        c.in-Some-subcommand_matches-3.ensures.rows in
        ap (λ (k : Command). Some k) (c.in_ok-audit_of-in-Some-subcommand_matches-3.ensures disks (subst (λ found. first_of (codes "disks") found ≡ disks) (sym same) named))
    go (Say text) reads = absurd reads
