use Rattle.std.proofs.Common.{ap, ap₂, true, ◌≡◌, ◌∙◌}
use Rattle.std.proofs.lemmas.Result.{IfOk-weaker}
use Rattle.clap.specs.Words.{App, app_of, with_subcommand}
use Rattle.walter_words.specs.Lines.{bare_line}
use Rattle.walter_words.proofs.lines.walter.Goals as goal

abbrev bare : App → App
bare a = record a { top = record a.top { has_version = true; no_binary_name = true; subcommand_required = true } }

pub returns : goal.returns
returns c =
    let bare_is : app_of c.subcommand_required.result ≡ bare_line =
    rw (c.subcommand_required.ensures, c.no_binary_name.ensures, c.in_ok-bin_name.ensures.0, c.after_help.ensures, c.about.ensures, c.version.ensures)
    (ap bare c.new.ensures.app) in
    let top = λ (a : App). a.top in
    let one = c.in_ok-subcommand.ensures.shape c.in_ok-play.ensures.local ∙ ap₂ with_subcommand bare_is (ap top c.in_ok-play.ensures.line) in
    let two = c.in_ok-subcommand-2.ensures.shape c.in_ok-run.ensures.local ∙ ap₂ with_subcommand one (ap top c.in_ok-run.ensures.line) in
    let three = c.in_ok-subcommand-3.ensures.shape c.in_ok-load.ensures.local ∙ ap₂ with_subcommand two (ap top c.in_ok-load.ensures.line) in
    IfOk-weaker c.subcommand-4.result _ _ (λ d added. added.shape c.in_ok-audit.ensures.local ∙ ap₂ with_subcommand three (ap top c.in_ok-audit.ensures.line)) c.subcommand-4.ensures
