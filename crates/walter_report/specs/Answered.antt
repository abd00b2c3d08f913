-- The replies to each client, as they are found in trails.
use Rattle.std.specs.Prelude.{◌≡◌, ◌+◌, ◌<◌, ℕ, List, [], ◌∷◌, ◌++◌, length, slice_index_or}
use Rattle.walter_base.specs.declared.message.Reply.{Reply}
use Rattle.walter_scenario.specs.declared.scenario.Client.{Client}
use Rattle.walter_report.specs.Reports.{client_line}

-- each client got its replies, which are at the client's number
abbrev pub HaveEach : List (List Reply) → (ℕ → List Reply) → Type 0
HaveEach answered replies = (c : ℕ) (d : List Reply) → c < length answered → slice_index_or answered c d ≡ replies c

-- each client has its replies behind those that it had
pub record AddEach (old new : List (List Reply)) (replies : ℕ → List Reply) : Type 0 where
  pub clients : length new ≡ length old
  pub adds : (c : ℕ) (d : List Reply) → c < length old
      → slice_index_or new c d ≡ slice_index_or old c d ++ replies c

-- a line for each client, from this one on, of whom each got these replies
abbrev pub answered_lines : ℕ → List Client → List (List Reply) → List ℕ
answered_lines number [] answered = []
answered_lines number (client ∷ clients) answered =
    client_line number client.site.0 (slice_index_or answered number []) ++ answered_lines (number + 1) clients answered
