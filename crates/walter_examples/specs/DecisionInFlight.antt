-- A run of two sites. A client at site 1 writes an object that is preferred at site 0, and its slow commit is begun;
-- site 0 locks the object and votes YES. The disk of site 1 fails while the decision is journaled; the restart finds
-- the record, so the transaction is committed, and site 0 commits it too.
use Rattle.std.specs.Prelude.{◌≡◌, ◌+◌, ◌≤◌, ℕ, List, [], ◌∷◌, length, Some, None}
use Rattle.std.specs.FinMap.{get}
use Rattle.walter_base.specs.declared.catalog.Catalog.{Catalog}
use Rattle.walter_base.specs.declared.message.Level.TheVariants.{Committed as IsCommitted}
use Rattle.walter_base.specs.declared.message.Record.TheVariants.{Boot, Own, Prepared, SlowBegin, Marks}
use Rattle.walter_base.specs.declared.message.Reply.TheVariants.{Started, Done, Deciding, Level}
use Rattle.walter_base.specs.declared.message.Request.TheVariants.{Start as StartAsked, Write as WriteAsked, Commit as CommitAsked, Level as LevelAsked}
use Rattle.walter_base.specs.declared.names.Kind.TheVariants.{Regular}
use Rattle.walter_base.specs.declared.packet.Answer.TheVariants.{Yes}
use Rattle.walter_base.specs.declared.packet.Packet.{Packet}
use Rattle.walter_base.specs.declared.packet.Packet.TheVariants.{Propagate, Ack, Dsmark, Prepare, Vote}
use Rattle.walter_base.specs.declared.transaction.Tx.{Tx}
use Rattle.walter_base.specs.declared.update.Update.{Update}
use Rattle.walter_base.specs.declared.update.Update.TheVariants.{Write as WriteOf}
use Rattle.walter_psi.specs.declared.step.Level.TheVariants.{Committed as ToldCommitted}
use Rattle.walter_psi.specs.declared.step.Notice.TheVariants.{Level as OfLevel}
use Rattle.walter_psi.specs.declared.step.Step.{Step}
use Rattle.walter_psi.specs.declared.step.Step.TheVariants.{Start, Op, Commit, Arrive, Told}
use Rattle.walter_rules.specs.declared.entry.Entry.{Entry}
use Rattle.walter_rules.specs.declared.event.Event.TheVariants.{Given, Restart}
use Rattle.walter_rules.specs.declared.event.Input.TheVariants.{Deliver, Tick}
use Rattle.walter_rules.specs.declared.outcome.Outcome.TheVariants.{Replied, Taken, Failed}
use Rattle.walter_rules.specs.Calls.{answers}
use Rattle.walter_rules.specs.Deliveries.{passes, takes}
use Rattle.walter_examples.specs.Entries.{site, object, first_of, entry, called, delivered, advanced, opening, receives, sees}

-- two sites, none of which may be lost; a container of regular objects preferred at site 0; a short value; and
-- journals with a place for the records
pub record HoldsDecision (catalog : Catalog) (capacity : ℕ) (value : List ℕ) : Type 0 where
  pub sites : catalog.sites ≡ 2
  pub tolerated : catalog.tolerated ≡ 0
  pub container_one : get catalog.containers 1 ≡ Some (record { kind = Regular; preferred = site 0 })
  pub short : length value ≤ 4096
  pub place : 287 + length value + length value ≤ capacity

-- what the transaction writes, and as it is recorded: it is the first slow commit of its site
abbrev pub slow_write : List ℕ → Update
slow_write value = WriteOf (object 1 5) value

abbrev pub slow_tx : List ℕ → Tx
slow_tx value = record { tid = first_of 1; slow = 1; start = 0 ∷ 0 ∷ []; updates = slow_write value ∷ [] }

-- site 0 is asked for its object
abbrev pub slow_prepare : Packet
slow_prepare = Prepare 1 (first_of 1) (0 ∷ 0 ∷ []) (object 1 5 ∷ [])

-- the last YES: the record of the commit met a fault of the disk
abbrev pub failed_decision : List ℕ → Entry
failed_decision value = record {
  stamp = 6;
  event = Given (Deliver (site 0) 1 (Vote 1 Yes));
  came = record {
    outcome = Failed;
    kept = None;
    wrote = None;
    flight = Some (Own 1 (slow_tx value));
    sends = [];
    dropped = 0;
  };
}

-- the restart, which found it
abbrev pub kept_decision : List ℕ → Entry
kept_decision value = record {
  stamp = 7;
  event = Restart;
  came = record {
    outcome = Taken;
    kept = Some (Own 1 (slow_tx value));
    wrote = Some (Boot 2);
    flight = None;
    sends = [];
    dropped = 0;
  };
}

-- site 0 locks the object, and later commits the transaction
abbrev pub asked_trail : List ℕ → List Entry
asked_trail value =
    opening
    ∷ delivered 5 1 1 slow_prepare (record {
      wrote = Some (Prepared (site 1) 1 (first_of 1) (object 1 5 ∷ []));
      outcome = Taken;
      sends = (site 1, Vote 1 Yes) ∷ [];
    })
    ∷ delivered 10 1 2 (Propagate 1 (slow_tx value)) (receives 1 (slow_tx value))
    ∷ delivered 12 1 3 (Dsmark 1) (takes None [])
    ∷ advanced 13 1 (sees 1)
    ∷ []

-- site 1 coordinates. Its commit is durable only where site 0 has acknowledged it.
abbrev pub coordinator_trail : List ℕ → List Entry
coordinator_trail value =
    opening
    ∷ called 2 0 StartAsked (answers (Started (first_of 1)))
    ∷ called 3 0 (WriteAsked (object 1 5) value) (answers Done)
    ∷ called 4 0 CommitAsked (record {
      wrote = Some (SlowBegin 1 (slow_tx value));
      outcome = Replied (Deciding (first_of 1));
      sends = (site 0, slow_prepare) ∷ [];
    })
    ∷ failed_decision value
    ∷ kept_decision value
    ∷ called 8 0 (LevelAsked (first_of 1)) (answers (Level IsCommitted))
    ∷ entry 9 (Given Tick) (passes ((site 0, Propagate 1 (slow_tx value)) ∷ []))
    ∷ delivered 11 0 2 (Ack 1) (takes (Some (Marks 1 0)) ((site 0, Dsmark 1) ∷ []))
    ∷ []

-- one trail for each site
abbrev pub decision_trails : List ℕ → List (List Entry)
decision_trails value = asked_trail value ∷ coordinator_trail value ∷ []

-- the history of the run
abbrev pub decision_history : List ℕ → List Step
decision_history value =
    Start (first_of 1) (site 1)
    ∷ Op (first_of 1) (slow_write value)
    ∷ Commit (first_of 1) (slow_write value ∷ [])
    ∷ Told (first_of 1) (OfLevel ToldCommitted)
    ∷ Arrive (first_of 1) (site 0)
    ∷ []
