-- What an event comes to at a site over its journal, and what it leaves.
use Rattle.std.specs.Prelude.{◌≡◌, ◌⊎◌, ◌+◌, ◌≤◌, ℕ, false, List, map, take, slice_get, Option, Some, None, All, IfSome, IsSome, is_some}
use Rattle.walter_base.specs.declared.catalog.Catalog.{Catalog}
use Rattle.walter_base.specs.declared.format.Format.{Format}
use Rattle.walter_base.specs.declared.message.Record.{Record}
use Rattle.walter_base.specs.declared.names.SiteId.{SiteId}
use Rattle.walter_disk.specs.declared.disk.Disk.{Ghosts}
use Rattle.walter_disk.specs.Images.{LeavesOnly}
use Rattle.walter_engine.specs.declared.answers.Effect.{Effect}
use Rattle.walter_engine.specs.declared.answers.RefusedRestart.{RefusedRestart}
use Rattle.walter_engine.specs.declared.answers.RefusedRestart.TheVariants.{Foreign, Damaged, Unreadable, LastEpoch}
use Rattle.walter_engine.specs.declared.engine.Engine.{Engine}
use Rattle.walter_engine.specs.Contents.{MayHaveNext, spelled, HaveSpellings, CanStandIn, HasBook}
use Rattle.walter_engine.specs.Engines.{Stands, OfDisk, OfDisks, IsSameEngine, catalog_in, site_in, layout_in, shape_in}
use Rattle.walter_checkpoint.specs.Areas.{Shape, IsForeign}
use Rattle.walter_checkpoint.specs.Books.{calls_of_pack}
use Rattle.walter_checkpoint.specs.Faults.{IsDamagedBook}
use Rattle.walter_checkpoint.specs.Loads.{calls_of_load}
use Rattle.walter_checkpoint.specs.declared.book.Live.{Live}
use Rattle.walter_machine.specs.Comings.{IsRest, IsSized, IsFaulty}
use Rattle.walter_packet.specs.Framed.{frame_of}
use Rattle.walter_record.specs.Spelling.{record_spelled}
use Rattle.walter_rules.specs.declared.entry.Came.{Came}
use Rattle.walter_rules.specs.declared.event.Event.{Event}
use Rattle.walter_rules.specs.declared.event.Event.TheVariants.{Restart}
use Rattle.walter_rules.specs.declared.outcome.Outcome.TheVariants.{Refused}
use Rattle.walter_rules.specs.Knowledge.{fresh}
use Rattle.walter_rules.specs.Layouts.{Layout, in_force}
use Rattle.walter_rules.specs.Records.{CanFollow, CanAllFollow, replayed}
use Rattle.walter_rules.specs.Standing.{Standing, settled, stands_after}
use Rattle.walter_rules.specs.Trails.{Comes, IsFound}

-- ---- why a restart is refused

-- the bodies, behind a header that names this format, spell these records, of which each can follow those before it
pub record Tell (header : Format) (catalog : Catalog) (i : SiteId) (bodies : List (List ℕ)) (records : List Record) : Type 0 where
  pub spell : bodies ≡ spelled header records
  pub spellings : HaveSpellings header catalog.sites records
  pub follow : CanAllFollow catalog i fresh records

-- the first bodies do; the one with this index spells no record in the format in force there, or one that can't follow
pub record IsUnreadable (header : Format) (catalog : Catalog) (i : SiteId) (bodies : List (List ℕ)) (index : ℕ) : Type 0 where
  pub records : List Record
  pub body : List ℕ
  pub front : Tell header catalog i (take index bodies) records
  pub within : slice_get bodies index ≡ Some body
  pub wrong : let format = in_force header (replayed catalog i fresh records).format in
      (rec : Record) → CanStandIn format catalog.sites rec → body ≡ record_spelled format rec
      → ¬ CanFollow catalog i (replayed catalog i fresh records) rec

-- by the bodies that the journal has: one of them spells no record that can stand there, or the epoch that they tell is
-- the last
abbrev pub IsRefusedOver : Format → Catalog → SiteId → List (List ℕ) → RefusedRestart → Type 0
IsRefusedOver header catalog i bodies Foreign = ⊥
IsRefusedOver header catalog i bodies (Damaged at length) = ⊥
IsRefusedOver header catalog i bodies (Unreadable index) = IsUnreadable header catalog i bodies index
IsRefusedOver header catalog i bodies LastEpoch =
    (records : List Record) × Tell header catalog i bodies records × ((replayed catalog i fresh records).epoch ≡ 4294967295)

-- by the bytes that the disk has: they are no book, or a damaged one, or one with such bodies
abbrev pub IsRefusedFor : Catalog → Shape → SiteId → List ℕ → RefusedRestart → Type 0
IsRefusedFor catalog shape i bytes Foreign = IsForeign shape.capacity shape.sites bytes
IsRefusedFor catalog shape i bytes (Damaged at length) = IsDamagedBook shape.capacity shape.sites bytes at length
IsRefusedFor catalog shape i bytes why =
    (bodies : List (List ℕ)) × (book : HasBook shape bytes bodies) × IsRefusedOver book.header catalog i bodies why

-- ---- what an event comes to

-- no epoch was taken
pub record TakesNoEpoch (came : Came) : Type 0 where
  pub rest : IsRest came.outcome
  pub wrote : came.wrote ≡ None
  pub flight : came.flight ≡ None

-- An event came to this at a site that stood so: a restart found the record in flight or didn't, it came to what it may,
-- and the engine stands as it leaves it. Only a restart of a site that has had its last epoch is refused, and it takes none.
pub record HasCome {D : Type 0} {g : Ghosts D} (catalog : Catalog) (layout : Layout) (i : SiteId) (S : Standing)
    (event : Event) (came : Came) (refused : Option RefusedRestart) (engine : Engine D g) : Type 0 where
  pub found : IfSome came.kept (IsFound S event)
  pub comes : (came.outcome ≡ Refused) ⊎ Comes catalog layout i (settled catalog i came.kept S) event came
  pub stands : Stands engine (stands_after catalog i (settled catalog i came.kept S) event came)
  pub last : IfSome refused (λ why.
      (why ≡ LastEpoch) × ((settled catalog i came.kept S).knows.epoch ≡ 4294967295))
  pub takes_none : S.up ≡ false → event ≡ Restart → (settled catalog i came.kept S).knows.epoch ≡ 4294967295
      → TakesNoEpoch came

-- What is so of each event: what it comes to, and what a crash at any moment of it leaves. Where a restart is refused,
-- the bytes that the disk has are the cause; what is put out has its frames; the disk's faults rise just where one was
-- met.
pub record HasTaken {D : Type 0} {g : Ghosts D} (old new : Engine D g) (event : Event) (came : Came)
    (effect : Effect) : Type 0 where
  pub comes : (S : Standing) → Stands old S
      → HasCome (catalog_in old) (layout_in old) (site_in old) S event came effect.refused new
  pub any_moment : (S : Standing) → Stands old S → OfDisks old new (λ before now.
      LeavesOnly g.moment g.left_since before now (MayHaveNext (catalog_in old) (layout_in old) (site_in old) S event came.kept))
  pub refused : OfDisk new (λ disk. IfSome (g.known disk).reads (λ bytes.
      IfSome effect.refused (IsRefusedFor (catalog_in old) (shape_in old) (site_in old) bytes)))
  pub why : came.outcome ≡ Refused → IsSome effect.refused
  pub sized : IsSized (catalog_in old).sites came
  pub framed : effect.frames.items ≡ map (λ s. frame_of (catalog_in old).sites s.1) came.sends
  pub none_dropped : came.dropped ≡ 0
  pub faults : OfDisks old new (λ before now. IsFaulty came (g.known before).faults (g.known now).faults)
  pub arms : OfDisks old new (λ before now. (g.known now).arms ≡ (g.known before).arms)
  pub tells : OfDisks old new (λ before now. is_some (g.known now).reads ≡ is_some (g.known before).reads)
  pub engine : IsSameEngine old new

-- ---- how many calls of the disk an arm counts

-- four where a record was written, at most four where that failed, and else none
abbrev pub AreCallsFor : Option Record → Option Record → ℕ → ℕ → Type 0
AreCallsFor (Some rec) flight old new = new ≡ old + 4
AreCallsFor None (Some rec) old new = new ≤ old + 4
AreCallsFor None None old new = new ≡ old

abbrev pub AreCalls : Came → ℕ → ℕ → Type 0
AreCalls came old new = AreCallsFor came.wrote came.flight old new

-- so many more are those that a restart makes before it writes its record: of one that comes up, all
pub record AreCallsOfRestart (came : Came) (before old new : ℕ) : Type 0 where
  pub all : IfSome came.wrote (λ rec. new ≡ old + before + 4)
  pub at_most : new ≤ old + before + 4

-- those of a restart: of the load; of a pack, where one is made, by how many bytes the disk has then; and of the record
pub record AreCallsToRestart (shape : Shape) (areas size : ℕ) (came : Came) (old new : ℕ) : Type 0 where
  pub pack : ℕ
  pub packs : (pack ≡ 0) ⊎ ((live : Live) × (now : ℕ) × (pack ≡ calls_of_pack shape live now))
  pub calls : AreCallsOfRestart came (calls_of_load shape areas size + pack) old new
