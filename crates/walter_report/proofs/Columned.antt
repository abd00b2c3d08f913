-- How many replies are in each column, counted in two goes.
use Rattle.std.proofs.Common.{◌≡◌, ℕ, List, ◌++◌, sym, ap, ◌∙◌, append_assoc}
use Rattle.walter_base.specs.declared.message.Reply.{Reply}
use Rattle.walter_report.specs.Summaries.{in_columns, CountMore}

-- some replies are counted, and then others
pub CountMore-then : (old mid new : List ℕ) (first second all : List Reply) → all ≡ first ++ second
    → CountMore old mid first → CountMore mid new second → CountMore old new all
CountMore-then old mid new first second all is one two = λ replies before.
    two (replies ++ first) (one replies before) ∙ ap in_columns (append_assoc replies first second)
    ∙ ap (λ t. in_columns (replies ++ t)) (sym is)
