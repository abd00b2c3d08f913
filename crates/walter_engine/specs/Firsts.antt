-- What a first restart comes to over a book that was loaded.
use Rattle.std.specs.Prelude.{◌≡◌, ◌≢◌, ◌⊎◌, ℕ, List, [], Result, Ok, Err}
use Rattle.walter_engine.specs.declared.answers.BeginFault.{BeginFault}
use Rattle.walter_engine.specs.declared.answers.BeginFault.TheVariants as unbegun
use Rattle.walter_checkpoint.specs.Areas.{Shape}
use Rattle.walter_engine.specs.Begins.{MayHaveBoot}
use Rattle.walter_journal.specs.declared.fault.JournalFault.{JournalFault}
use Rattle.walter_journal.specs.declared.fault.JournalFault.TheVariants as fault
use Rattle.walter_rules.specs.declared.outcome.Outcome.{Outcome}
use Rattle.walter_rules.specs.declared.outcome.Outcome.TheVariants.{Taken, Failed, Memory}

-- what it answers where the restart over no records came to this
abbrev pub IsAnswerTo : Outcome → Result (Unit {0}) BeginFault → Type 0
IsAnswerTo Taken answer = answer ≡ Ok tt
IsAnswerTo Failed answer = answer ≡ Err unbegun.Failed
IsAnswerTo Memory answer = answer ≡ Err unbegun.NoMemory
IsAnswerTo outcome answer = ⊥

-- what it answers over these bodies
abbrev pub IsBegunOver : List (List ℕ) → Result (Unit {0}) BeginFault → Type 0
IsBegunOver bodies (Ok done) = bodies ≡ []
IsBegunOver bodies (Err unbegun.Failed) = bodies ≡ []
IsBegunOver bodies (Err unbegun.Foreign) = ⊥
IsBegunOver bodies (Err (unbegun.Damaged at length)) = ⊥
IsBegunOver bodies (Err unbegun.Used) = bodies ≢ []
IsBegunOver bodies (Err unbegun.NoMemory) = bodies ≡ []

-- what a crash within it leaves of a book with these bytes and bodies
abbrev pub MayHaveFirst : Shape → List ℕ → List (List ℕ) → List ℕ → Type 0
MayHaveFirst shape bytes bodies image = (image ≡ bytes) ⊎ ((bodies ≡ []) × MayHaveBoot shape image)

-- what it answers where no book was loaded
abbrev pub not_loaded_by : JournalFault → BeginFault
not_loaded_by fault.Failed = unbegun.Failed
not_loaded_by fault.Foreign = unbegun.Foreign
not_loaded_by (fault.Damaged at length) = unbegun.Damaged at length
not_loaded_by fault.NoMemory = unbegun.NoMemory
