use Rattle.std.proofs.Common.{◌≡◌, ◌∙◌, List, ℕ, Bool, true, false, Option, Some, codes}
use Rattle.std.specs.Prelude.{if◌then◌else◌}
use Rattle.clap.specs.Words.{found_of}
use Rattle.clap.proofs.WalkLemmas.{one_text-rows}
use Rattle.walter_words.proofs.asked.is_traced.Goals as goal

flag : (t : Option (List ℕ)) (result : Bool) → (t ≡ Some (codes "true") → result ≡ true) → (t ≡ Some (codes "false") → result ≡ false)
    → (trace : Bool) → t ≡ Some (if trace then codes "true" else codes "false") → result ≡ trace
flag t result first other true e = first e
flag t result first other false e = other e

pub returns : goal.returns
returns c = λ trace e. flag _ c.get_flag.result c.get_flag.ensures.value c.get_flag.ensures.other trace (one_text-rows (found_of c.args.matches.now) (codes "trace") ∙ e)
