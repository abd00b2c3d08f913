use Rattle.std.proofs.Common.{ℕ, List, Option, map, sym, subst}
use Rattle.std.specs.Prelude.{string_bytes}
use Rattle.walter_words.specs.Words.{NamesFolder}
use Rattle.walter_words.proofs.Asking.{names}
use Rattle.walter_words.proofs.asked.folder_of.Goals as goal

pub returns-in-Ok : goal.returns-in-Ok
returns-in-Ok c =
    let words = map string_bytes c.args.words.now in
    subst (λ (folder : Option (List ℕ)). NamesFolder folder words) (sym c.into_folder.ensures)
    (names c.in-Ok.command words c.in-Ok.ensures.asked (λ other asks. c.in-Ok.ensures.given other asks))

pub returns-in-Err-Usage : goal.returns-in-Err-Usage
returns-in-Err-Usage c = λ command asks. (let e = c.in-Err-Usage.ensures.given command asks in absurd cc)
