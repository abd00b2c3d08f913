-- A run of two sites. A client at site 1 commits a write of an object that is preferred at site 0, and then writes it
-- again: its second transaction sees the first one, whose lock still stands at site 0. Site 0 answers the second slow
-- commit that it is to be asked again, first because it hasn't received what the transaction has seen, and then because
-- the owner of the lock is what it has seen. Once the first is committed at site 0 the lock is gone, and it votes YES.
use Rattle.std.specs.Prelude.{◌≡◌, ◌+◌, ◌≤◌, ℕ, List, [], ◌∷◌, length, Some, None}
use Rattle.std.specs.FinMap.{get}
use Rattle.walter_base.specs.declared.catalog.Catalog.{Catalog}
use Rattle.walter_base.specs.declared.message.Record.TheVariants.{Own, Prepared, SlowBegin, Marks}
use Rattle.walter_base.specs.declared.message.Reply.TheVariants.{Started, Done, Deciding, Committed}
use Rattle.walter_base.specs.declared.message.Request.TheVariants.{Start as StartAsked, Write as WriteAsked, Commit as CommitAsked}
use Rattle.walter_base.specs.declared.names.Kind.TheVariants.{Regular}
use Rattle.walter_base.specs.declared.names.Tid.{Tid}
use Rattle.walter_base.specs.declared.names.Version.{Version}
use Rattle.walter_base.specs.declared.packet.Answer.TheVariants.{Yes, Later}
use Rattle.walter_base.specs.declared.packet.Packet.{Packet}
use Rattle.walter_base.specs.declared.packet.Packet.TheVariants.{Propagate, Ack, Dsmark, Prepare, Vote}
use Rattle.walter_base.specs.declared.transaction.Tx.{Tx}
use Rattle.walter_base.specs.declared.update.Update.{Update}
use Rattle.walter_base.specs.declared.update.Update.TheVariants.{Write as WriteOf}
use Rattle.walter_psi.specs.declared.step.Notice.TheVariants.{Version as OfVersion}
use Rattle.walter_psi.specs.declared.step.Step.{Step}
use Rattle.walter_psi.specs.declared.step.Step.TheVariants.{Start, Op, Commit, Arrive, Told}
use Rattle.walter_rules.specs.declared.entry.Entry.{Entry}
use Rattle.walter_rules.specs.declared.outcome.Outcome.TheVariants.{Replied, Taken}
use Rattle.walter_rules.specs.Calls.{answers}
use Rattle.walter_rules.specs.Deliveries.{passes, takes}
use Rattle.walter_examples.specs.Entries.{site, object, first_of, first_commit_of, called, delivered, advanced, opening, receives, sees}

-- two sites, none of which may be lost; a container of regular objects preferred at site 0; short values; and journals
-- with a place for the records
pub record HoldsLockedCause (catalog : Catalog) (capacity : ℕ) (first second : List ℕ) : Type 0 where
  pub sites : catalog.sites ≡ 2
  pub tolerated : catalog.tolerated ≡ 0
  pub container_one : get catalog.containers 1 ≡ Some (record { kind = Regular; preferred = site 0 })
  pub first_short : length first ≤ 4096
  pub second_short : length second ≤ 4096
  pub place : 600 + length first + length first + length second + length second ≤ capacity

-- the second transaction of a site in its first epoch, and its second commit
abbrev pub second_of : ℕ → Tid
second_of k = record { site = site k; epoch = 1; number = 2 }

abbrev pub second_commit_of : ℕ → Version
second_commit_of k = record { site = site k; seq = 2 }

-- what the transactions write, and as they are recorded: the first and the second slow commit of their site
abbrev pub write_of : List ℕ → Update
write_of value = WriteOf (object 1 5) value

abbrev pub first_tx : List ℕ → Tx
first_tx value = record { tid = first_of 1; slow = 1; start = 0 ∷ 0 ∷ []; updates = write_of value ∷ [] }

abbrev pub second_tx : List ℕ → Tx
second_tx value = record { tid = second_of 1; slow = 2; start = 0 ∷ 1 ∷ []; updates = write_of value ∷ [] }

-- site 0 is asked for its object
abbrev pub first_prepare : Packet
first_prepare = Prepare 1 (first_of 1) (0 ∷ 0 ∷ []) (object 1 5 ∷ [])

abbrev pub second_prepare : Packet
second_prepare = Prepare 2 (second_of 1) (0 ∷ 1 ∷ []) (object 1 5 ∷ [])

-- site 0 locks the object, is asked again until the first transaction is committed here, and locks it again
abbrev pub owner_trail : List ℕ → List Entry
owner_trail first =
    opening
    ∷ delivered 5 1 1 first_prepare (record {
      wrote = Some (Prepared (site 1) 1 (first_of 1) (object 1 5 ∷ []));
      outcome = Taken;
      sends = (site 1, Vote 1 Yes) ∷ [];
    })
    ∷ delivered 11 1 3 second_prepare (passes ((site 1, Vote 2 Later) ∷ []))
    ∷ delivered 12 1 2 (Propagate 1 (first_tx first)) (receives 1 (first_tx first))
    ∷ delivered 13 1 3 second_prepare (passes ((site 1, Vote 2 Later) ∷ []))
    ∷ delivered 14 1 4 (Dsmark 1) (takes None [])
    ∷ advanced 15 1 (sees 1)
    ∷ delivered 16 1 3 second_prepare (record {
      wrote = Some (Prepared (site 1) 2 (second_of 1) (object 1 5 ∷ []));
      outcome = Taken;
      sends = (site 1, Vote 2 Yes) ∷ [];
    })
    ∷ []

-- site 1 coordinates both
abbrev pub twice_trail : List ℕ → List ℕ → List Entry
twice_trail first second =
    opening
    ∷ called 2 0 StartAsked (answers (Started (first_of 1)))
    ∷ called 3 0 (WriteAsked (object 1 5) first) (answers Done)
    ∷ called 4 0 CommitAsked (record {
      wrote = Some (SlowBegin 1 (first_tx first));
      outcome = Replied (Deciding (first_of 1));
      sends = (site 0, first_prepare) ∷ [];
    })
    ∷ delivered 6 0 1 (Vote 1 Yes) (record {
      wrote = Some (Own 1 (first_tx first));
      outcome = Taken;
      sends = (site 0, Propagate 1 (first_tx first)) ∷ [];
    })
    ∷ called 7 0 CommitAsked (answers (Committed (first_commit_of 1)))
    ∷ called 8 0 StartAsked (answers (Started (second_of 1)))
    ∷ called 9 0 (WriteAsked (object 1 5) second) (answers Done)
    ∷ called 10 0 CommitAsked (record {
      wrote = Some (SlowBegin 2 (second_tx second));
      outcome = Replied (Deciding (second_of 1));
      sends = (site 0, second_prepare) ∷ [];
    })
    ∷ delivered 13 0 3 (Ack 1) (takes (Some (Marks 1 0)) ((site 0, Dsmark 1) ∷ []))
    ∷ delivered 17 0 6 (Vote 2 Yes) (record {
      wrote = Some (Own 2 (second_tx second));
      outcome = Taken;
      sends = (site 0, Propagate 2 (second_tx second)) ∷ [];
    })
    ∷ called 18 0 CommitAsked (answers (Committed (second_commit_of 1)))
    ∷ []

-- one trail for each site
abbrev pub locked_trails : List ℕ → List ℕ → List (List Entry)
locked_trails first second = owner_trail first ∷ twice_trail first second ∷ []

-- the history of the run
abbrev pub locked_history : List ℕ → List ℕ → List Step
locked_history first second =
    Start (first_of 1) (site 1)
    ∷ Op (first_of 1) (write_of first)
    ∷ Commit (first_of 1) (write_of first ∷ [])
    ∷ Told (first_of 1) (OfVersion (first_commit_of 1))
    ∷ Start (second_of 1) (site 1)
    ∷ Op (second_of 1) (write_of second)
    ∷ Arrive (first_of 1) (site 0)
    ∷ Commit (second_of 1) (write_of second ∷ [])
    ∷ Told (second_of 1) (OfVersion (second_commit_of 1))
    ∷ []
