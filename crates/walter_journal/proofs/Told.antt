-- What was read is what the disk tells.
use Rattle.std.proofs.Common.{◌≡◌, ℕ, List, Option, Some, None, subst}
use Rattle.std.specs.Prelude.{IfSome}
use Rattle.walter_base.specs.declared.format.Format.{Format}
use Rattle.walter_journal.specs.Layout.{HasContent}

pub content_told : (format : Format) (reads : Option (List ℕ)) (bytes : List ℕ) (bodies : List (List ℕ)) → IfSome reads (λ told. bytes ≡ told) → HasContent format bytes bodies
    → IfSome reads (λ told. HasContent format told bodies)
content_told format None bytes bodies same content = tt
content_told format (Some told) bytes bodies same content = subst (λ l. HasContent format l bodies) same content
