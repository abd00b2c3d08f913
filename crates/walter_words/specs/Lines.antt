-- What clap is told of the program's words.
use Rattle.std.specs.Prelude.{true, Some, codes}
use Rattle.clap.specs.Words.{App, Rule, Text, new_app, new_rule, with_rule, with_subcommand}
use Rattle.clap.specs.declared.builder.action.ArgAction.TheVariants.{Set, SetTrue}
use Rattle.clap.specs.declared.builder.value_parser.ValueParser.TheVariants.{NonEmptyString, Unsigned}

abbrev pub trace_rule : Rule
trace_rule = record (new_rule (codes "trace")) { long = Some (codes "trace"); action = Some SetTrue }

abbrev pub disks_rule : Rule
disks_rule = record (new_rule (codes "disks")) {
  long = Some (codes "disks");
  value_names = 1;
  action = Some Set;
  parser = Some NonEmptyString;
}

abbrev pub seed_rule : Rule
seed_rule = record (new_rule (codes "seed")) {
  long = Some (codes "seed");
  value_names = 1;
  required = true;
  action = Some Set;
  parser = Some (Unsigned 0 18446744073709551615);
}

abbrev pub calls_rule : Rule
calls_rule = record (new_rule (codes "calls")) {
  long = Some (codes "calls");
  value_names = 1;
  required = true;
  action = Some Set;
  parser = Some (Unsigned 0 20000);
}

-- `play` and `run` take `--trace`, and `--disks` with a folder; `load` takes `--seed` and `--calls` with a number each;
-- `audit` takes `--disks` alone
abbrev pub driven_line : Text → App
driven_line name = with_rule (with_rule (new_app name) trace_rule) disks_rule

abbrev pub play_line : App
play_line = driven_line (codes "play")

abbrev pub run_line : App
run_line = driven_line (codes "run")

abbrev pub load_line : App
load_line = with_rule (with_rule (new_app (codes "load")) seed_rule) calls_rule

abbrev pub audit_line : App
audit_line = with_rule (new_app (codes "audit")) disks_rule

abbrev pub bare_line : App
bare_line = record (new_app (codes "walter")) {
  top = record (new_app (codes "walter")).top {
    has_version = true;
    no_binary_name = true;
    subcommand_required = true;
  };
}

-- the program takes one of the four
abbrev pub walter_line : App
walter_line = with_subcommand (with_subcommand (with_subcommand (with_subcommand bare_line play_line.top) run_line.top)
    load_line.top) audit_line.top
