-- What a client's turn comes to at its site, whatever its source tells.
use Rattle.std.specs.Prelude.{◌≡◌, ℕ, List, slice_get, Some, Result, IfOk, OnErr}
use Rattle.walter_base.specs.declared.memory.NoMemory.{NoMemory}
use Rattle.walter_cell.specs.declared.answers.Serve.{Serve}
use Rattle.walter_cell.specs.Cells.{CellValue}
use Rattle.walter_cell.specs.Turns.{ServesAt, AreSameBut}

-- the cell at this site serves the client; or memory runs out, and all connections are as before. The other clients' are
-- so in any case.
pub record ServesAtHome {D : Type 0} (home client : ℕ) (old new : List (CellValue D))
    (answer : Result Serve NoMemory) : Type 0 where
  pub before : CellValue D
  pub after : CellValue D
  pub was : slice_get old home ≡ Some before
  pub now : slice_get new home ≡ Some after
  pub serves : IfOk answer (ServesAt client before after)
  pub unserved : OnErr answer (after.lines ≡ before.lines)
  pub others : AreSameBut client before.lines after.lines
