-- The subcommand that a parse entered, by its name and by its rows.
use Rattle.std.proofs.Common.{◌≡◌, ◌∙◌, List, Option, Some, None, option_map, refl, sym, ap}
use Rattle.std.specs.Prelude.{Box, IsSome}
use Rattle.std.specs.Box.{box_value}
use Rattle.clap.specs.Walk.{Row, Text}
use Rattle.clap.specs.Simple.{subcommand_rows}
use Rattle.clap.specs.declared.parser.matches.SubCommand.{SubCommand}
use Rattle.clap.specs.declared.parser.matches.ArgMatches.TheViews.{out-SubCommand}
use Rattle.walter_words.proofs.Longs.{same_some}

names_rows : {Z : Type 0} (sub : Option (Box SubCommand Z)) → option_map (λ b. (out-SubCommand (box_value b)).name.now) sub ≡ option_map (λ p. p.0) (subcommand_rows sub)
names_rows None = refl
names_rows (Some b) = refl

pub name_is : {Z : Type 0} (sub : Option (Box SubCommand Z)) (name : Text) (rows : List Row) → subcommand_rows sub ≡ Some (name, rows)
    → option_map (λ b. (out-SubCommand (box_value b)).name.now) sub ≡ Some name
name_is sub name rows is = names_rows sub ∙ ap (option_map (λ p. p.0)) is

pub rows_are : {Z : Type 0} (sub : Option (Box SubCommand Z)) (name : Text) (rows found : List Row) → subcommand_rows sub ≡ Some (name, rows)
    → option_map (λ p. p.1) (subcommand_rows sub) ≡ Some found → found ≡ rows
rows_are sub name rows found is e = same_some _ _ (sym e ∙ ap (option_map (λ p. p.1)) is)

pub none_is_some : {X : Type 0} (o : Option X) → IsSome o → ((x : X) → o ≡ Some x → ⊥) → ⊥
none_is_some None some none = cc
none_is_some (Some x) some none = none x refl
