-- The epochs of a site never run out, so no restart is refused whose disk tells what it holds.
use Rattle.std.proofs.Common.{◌≡◌, ◌<◌, ◌≤◌, ◌+◌, ◌*◌, ℕ, List, [], ◌∷◌, length, reverse, Option, Some, None, ap, subst, arith, inl, inr}
use Rattle.std.specs.Prelude.{IfSome, IsSome}
use Rattle.std.proofs.lemmas.List.{length-append, length-reverse}
use Rattle.walter_base.specs.declared.catalog.Catalog.{Catalog}
use Rattle.walter_base.specs.declared.message.Record.{Record}
use Rattle.walter_base.specs.declared.names.SiteId.{SiteId}
use Rattle.walter_disk.specs.declared.disk.Disk.{Ghosts}
use Rattle.walter_engine.specs.declared.answers.RefusedRestart.{RefusedRestart}
use Rattle.walter_engine.specs.declared.answers.RefusedRestart.TheVariants.{LastEpoch}
use Rattle.walter_engine.specs.declared.engine.Engine.{Engine}
use Rattle.walter_engine.specs.Effects.{HasCome}
use Rattle.walter_engine.specs.Engines.{catalog_in, site_in, Stands}
use Rattle.walter_machine.specs.States.{AreTold, CanBeNext}
use Rattle.walter_rules.specs.declared.entry.Came.{Came}
use Rattle.walter_rules.specs.declared.entry.Entry.{Entry}
use Rattle.walter_rules.specs.declared.event.Event.{Event}
use Rattle.walter_rules.specs.declared.outcome.Outcome.TheVariants.{Refused}
use Rattle.walter_rules.specs.Knowledge.{Knowledge, fresh}
use Rattle.walter_rules.specs.Layouts.{Layout}
use Rattle.walter_rules.specs.Records.{replayed}
use Rattle.walter_rules.specs.Standing.{Standing, records_after, settled}
use Rattle.walter_rules.specs.Trails.{Comes, IsFound, standing}
use Rattle.walter_rules.proofs.Staying.{epoch_few}

records_one : (catalog : Catalog) (i : SiteId) (kept : Option Record) (S : Standing) → length (settled catalog i kept S).records ≤ length S.records + 1
records_one catalog i None S = omega arith
records_one catalog i (Some rec) S = omega (arith, length-append S.records (rec ∷ []))

records_two : (wrote : Option Record) (records : List Record) → length (records_after wrote records) ≤ length records + 1
records_two None records = omega arith
records_two (Some rec) records = omega (arith, length-append records (rec ∷ []))

-- an entry has at most two records
records_few : (catalog : Catalog) (i : SiteId) (es : List Entry) → length (standing catalog i es).records ≤ 2 * length es
records_few catalog i [] = omega arith
records_few catalog i (e ∷ es) =
    let before : Standing = standing catalog i es in
    let kept = records_one catalog i e.came.kept before in
    let wrote = records_two e.came.wrote (settled catalog i e.came.kept before).records in
    let rest = records_few catalog i es in
    omega (arith, kept, wrote, rest)

module _ (catalog : Catalog) (i : SiteId) (S : Standing) (told : AreTold catalog i S) where
  epoch_told : S.knows.epoch ≤ length S.records
  epoch_told =
      let most = epoch_few catalog i fresh S.records told.follow in
      let same : S.knows.epoch ≡ (replayed catalog i fresh S.records).epoch = ap (λ (K : Knowledge). K.epoch) told.tell in
      omega (arith, most, same)

  -- with the record in flight, where it is found
  epoch_found : (event : Event) (kept : Option Record) → IfSome kept (IsFound S event)
      → (settled catalog i kept S).knows.epoch ≤ length S.records + 1
  epoch_found event None found = omega (arith, epoch_told)
  epoch_found event (Some rec) found =
      let next : CanBeNext catalog i S rec = subst (λ (r : Option Record). IfSome r (CanBeNext catalog i S)) found.in_flight told.in_flight in
      let one = epoch_few catalog i S.knows (rec ∷ []) (next.follows, tt) in
      omega (arith, epoch_told, one)

none_last : (refused : Option RefusedRestart) (epoch : ℕ) → IsSome refused
    → IfSome refused (λ why. (why ≡ LastEpoch) × (epoch ≡ 4294967295)) → epoch < 4294967295 → ⊥
none_last None epoch is last less = absurd cc
none_last (Some why) epoch is last less = omega (arith, last.1, less)

-- an event comes to what it may at a site with such a trail
pub comes_young : {D : Type 0} {g : Ghosts D} (layout : Layout) (old new : Engine D g) (es : List Entry) (event : Event) (came : Came)
    (refused : Option RefusedRestart) → length es < 100000
    → Stands old (standing (catalog_in old) (site_in old) (reverse es))
    → HasCome (catalog_in old) layout (site_in old) (standing (catalog_in old) (site_in old) (reverse es)) event came refused new
    → (came.outcome ≡ Refused → IsSome refused)
    → Comes (catalog_in old) layout (site_in old)
    (settled (catalog_in old) (site_in old) came.kept (standing (catalog_in old) (site_in old) (reverse es))) event came
comes_young layout old new es event came refused few stands has why =
    let S : Standing = standing (catalog_in old) (site_in old) (reverse es) in
    elim has.comes [
      | inl is ↦ absurd (none_last refused (settled (catalog_in old) (site_in old) came.kept S).knows.epoch (why is) has.last (
          let most = epoch_found (catalog_in old) (site_in old) S stands.machine.told event came.kept has.found in
          let all = records_few (catalog_in old) (site_in old) (reverse es) in
          let long = length-reverse es in
          omega (arith, most, all, long, few)))
      | inr comes ↦ comes
    ]
