-- A run of three sites. Site 0 commits a write; it reaches site 1, where a transaction that reads it writes another
-- object and commits. At site 2 the second commit comes first: it isn't received before its cause is, nor committed
-- before it.
use Rattle.std.specs.Prelude.{◌≡◌, ◌+◌, ◌≤◌, ℕ, List, [], ◌∷◌, length, Some, None}
use Rattle.std.specs.FinMap.{get}
use Rattle.walter_base.specs.declared.catalog.Catalog.{Catalog}
use Rattle.walter_base.specs.declared.message.Record.TheVariants.{Own}
use Rattle.walter_base.specs.declared.message.Reply.TheVariants.{Started, Value, Done, Committed}
use Rattle.walter_base.specs.declared.message.Request.TheVariants.{Start as StartAsked, Read as ReadAsked, Write as WriteAsked, Commit as CommitAsked}
use Rattle.walter_base.specs.declared.names.Kind.TheVariants.{Regular}
use Rattle.walter_base.specs.declared.packet.Packet.TheVariants.{Propagate, Dsmark}
use Rattle.walter_base.specs.declared.transaction.Tx.{Tx}
use Rattle.walter_base.specs.declared.update.Update.{Update}
use Rattle.walter_base.specs.declared.update.Update.TheVariants.{Write as WriteOf}
use Rattle.walter_psi.specs.declared.step.Answer.TheVariants.{Value as ValueIs}
use Rattle.walter_psi.specs.declared.step.Notice.TheVariants.{Version as OfVersion}
use Rattle.walter_psi.specs.declared.step.Step.{Step}
use Rattle.walter_psi.specs.declared.step.Step.TheVariants.{Start, Op, Read, Commit, Arrive, Told}
use Rattle.walter_rules.specs.declared.entry.Entry.{Entry}
use Rattle.walter_rules.specs.declared.outcome.Outcome.TheVariants.{Replied}
use Rattle.walter_rules.specs.Calls.{answers}
use Rattle.walter_rules.specs.Deliveries.{passes, takes}
use Rattle.walter_examples.specs.Entries.{site, object, first_of, first_commit_of, called, delivered, advanced, opening, receives, sees}

-- three sites, none of which may be lost; a container of regular objects preferred at site 0, and one at site 1;
-- short values; and journals with a place for the records
pub record HoldsCausalOrder (catalog : Catalog) (capacity : ℕ) (cause effect : List ℕ) : Type 0 where
  pub sites : catalog.sites ≡ 3
  pub tolerated : catalog.tolerated ≡ 0
  pub container_one : get catalog.containers 1 ≡ Some (record { kind = Regular; preferred = site 0 })
  pub container_two : get catalog.containers 2 ≡ Some (record { kind = Regular; preferred = site 1 })
  pub short_cause : length cause ≤ 4096
  pub short_effect : length effect ≤ 4096
  pub place : 287 + length cause + length effect ≤ capacity

-- what the two transactions write
abbrev pub cause_write : List ℕ → Update
cause_write cause = WriteOf (object 1 1) cause

abbrev pub effect_write : List ℕ → Update
effect_write effect = WriteOf (object 2 1) effect

-- and as they are recorded: the second has seen the first commit of site 0
abbrev pub cause_tx : List ℕ → Tx
cause_tx cause = record { tid = first_of 0; slow = 0; start = 0 ∷ 0 ∷ 0 ∷ []; updates = cause_write cause ∷ [] }

abbrev pub effect_tx : List ℕ → Tx
effect_tx effect = record { tid = first_of 1; slow = 0; start = 1 ∷ 0 ∷ 0 ∷ []; updates = effect_write effect ∷ [] }

-- site 0 commits the first; with f = 0 it is durable at once
abbrev pub trail_0 : List ℕ → List Entry
trail_0 cause =
    opening
    ∷ called 2 0 StartAsked (answers (Started (first_of 0)))
    ∷ called 3 0 (WriteAsked (object 1 1) cause) (answers Done)
    ∷ called 4 0 CommitAsked (record {
      wrote = Some (Own 1 (cause_tx cause));
      outcome = Replied (Committed (first_commit_of 0));
      sends =
          (site 1, Propagate 1 (cause_tx cause))
          ∷ (site 1, Dsmark 1)
          ∷ (site 2, Propagate 1 (cause_tx cause))
          ∷ (site 2, Dsmark 1)
          ∷ [];
    })
    ∷ []

-- site 1 commits it too, and then its own
abbrev pub trail_1 : List ℕ → List ℕ → List Entry
trail_1 cause effect =
    opening
    ∷ delivered 5 0 1 (Propagate 1 (cause_tx cause)) (receives 0 (cause_tx cause))
    ∷ delivered 6 0 2 (Dsmark 1) (takes None [])
    ∷ advanced 7 0 (sees 0)
    ∷ called 8 1 StartAsked (answers (Started (first_of 1)))
    ∷ called 9 1 (ReadAsked (object 1 1)) (answers (Value (Some cause)))
    ∷ called 10 1 (WriteAsked (object 2 1) effect) (answers Done)
    ∷ called 11 1 CommitAsked (record {
      wrote = Some (Own 1 (effect_tx effect));
      outcome = Replied (Committed (first_commit_of 1));
      sends =
          (site 0, Propagate 1 (effect_tx effect))
          ∷ (site 0, Dsmark 1)
          ∷ (site 2, Propagate 1 (effect_tx effect))
          ∷ (site 2, Dsmark 1)
          ∷ [];
    })
    ∷ []

-- site 2 passes the second over until it has the first, and commits it behind the first
abbrev pub trail_2 : List ℕ → List ℕ → List Entry
trail_2 cause effect =
    opening
    ∷ delivered 12 1 1 (Propagate 1 (effect_tx effect)) (passes [])
    ∷ delivered 13 0 1 (Propagate 1 (cause_tx cause)) (receives 0 (cause_tx cause))
    ∷ delivered 14 1 1 (Propagate 1 (effect_tx effect)) (receives 1 (effect_tx effect))
    ∷ delivered 15 1 2 (Dsmark 1) (takes None [])
    ∷ delivered 16 0 2 (Dsmark 1) (takes None [])
    ∷ advanced 17 1 (passes [])
    ∷ advanced 18 0 (sees 0)
    ∷ advanced 19 1 (sees 1)
    ∷ []

-- one trail for each site
abbrev pub causal_trails : List ℕ → List ℕ → List (List Entry)
causal_trails cause effect = trail_0 cause ∷ trail_1 cause effect ∷ trail_2 cause effect ∷ []

-- the history of the run
abbrev pub causal_history : List ℕ → List ℕ → List Step
causal_history cause effect =
    Start (first_of 0) (site 0)
    ∷ Op (first_of 0) (cause_write cause)
    ∷ Commit (first_of 0) (cause_write cause ∷ [])
    ∷ Told (first_of 0) (OfVersion (first_commit_of 0))
    ∷ Arrive (first_of 0) (site 1)
    ∷ Start (first_of 1) (site 1)
    ∷ Read (first_of 1) (object 1 1) (ValueIs (Some cause))
    ∷ Op (first_of 1) (effect_write effect)
    ∷ Commit (first_of 1) (effect_write effect ∷ [])
    ∷ Told (first_of 1) (OfVersion (first_commit_of 1))
    ∷ Arrive (first_of 0) (site 2)
    ∷ Arrive (first_of 1) (site 2)
    ∷ []
