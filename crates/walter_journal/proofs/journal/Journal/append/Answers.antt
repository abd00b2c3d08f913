use Rattle.std.proofs.Common.{◌≡◌, ◌++◌, ◌-◌, [], ◌∷◌, Some, refl, ap, ◌∙◌, arith}
use Rattle.walter_disk.specs.Disks.{DiskState, laid}
use Rattle.walter_journal.specs.Layout.{record_of}
use Rattle.walter_journal.proofs.Appending.{told_behind, only_behind, staged, opened, staging, opening, span_of-push}
use Rattle.walter_journal.proofs.journal.Journal.append.Goals as goal

pub returns-in_err-write_and_sync-clause-any_moment : goal.returns-in_err-write_and_sync-clause-any_moment
returns-in_err-write_and_sync-clause-any_moment g c front bodies stands =
    staging _ _ front bodies c.args.body.now stands.bytes _ _ stands.content stands.end _ _ (c.write_and_sync.ensures.any_moment stands.bytes stands.durable)

pub returns-in_err-write_and_sync-2-clause-any_moment : goal.returns-in_err-write_and_sync-2-clause-any_moment
returns-in_err-write_and_sync-2-clause-any_moment g c front bodies stands =
    let record_is : c.deref.result.now ≡ record_of c.args.body.now ++ 0 ∷ [] = c.deref.ensures.value ∙ c.stage.ensures in
    let told = told_behind _ _ _ _ _ c.in_ok-write_and_sync.ensures.done stands.told ∙ ap (λ over. Some (laid c.args.self.now.end over stands.bytes)) record_is in
    let only = only_behind _ _ _ told c.in_ok-write_and_sync.ensures.durable in
    opening _ _ front bodies c.args.body.now stands.bytes _ _ stands.content stands.end _ _ _ (c.args.self.now.end - 1) c.requires.short (omega (arith, c.args.self.now.begun)) (c.write_and_sync.ensures.any_moment stands.bytes stands.durable) (c.write_and_sync-2.ensures.any_moment _ only)

pub returns-clause-any_moment : goal.returns-clause-any_moment
returns-clause-any_moment g c front bodies stands =
    let record_is : c.deref.result.now ≡ record_of c.args.body.now ++ 0 ∷ [] = c.deref.ensures.value ∙ c.stage.ensures in
    let told = told_behind _ _ _ _ _ c.in_ok-write_and_sync.ensures.done stands.told ∙ ap (λ over. Some (laid c.args.self.now.end over stands.bytes)) record_is in
    let only = only_behind _ _ _ told c.in_ok-write_and_sync.ensures.durable in
    opening _ _ front bodies c.args.body.now stands.bytes _ _ stands.content stands.end _ _ _ (c.args.self.now.end - 1) c.requires.short (omega (arith, c.args.self.now.begun)) (c.write_and_sync.ensures.any_moment stands.bytes stands.durable) (c.write_and_sync-2.ensures.any_moment _ only)

pub returns-clause-behind : goal.returns-clause-behind
returns-clause-behind g c front bodies stands =
    let second = c.in_ok-write_and_sync-2.ensures.done in
    let record_is : c.deref.result.now ≡ record_of c.args.body.now ++ 0 ∷ [] = c.deref.ensures.value ∙ c.stage.ensures in
    let told = told_behind _ _ _ _ _ c.in_ok-write_and_sync.ensures.done stands.told ∙ ap (λ over. Some (laid c.args.self.now.end over stands.bytes)) record_is in
    let told_open = told_behind _ _ _ _ _ second told in
    record {
      bytes = _;
      told = told_open;
      content = opened front bodies c.args.body.now _ (c.args.self.now.end - 1) stands.content.fit c.requires.short (staged front bodies c.args.body.now stands.bytes c.args.self.now.end stands.content stands.end) (omega (arith, c.args.self.now.begun, stands.end));
      whole = ap (λ (disk : DiskState). disk.broken) second ∙ c.in_ok-write_and_sync-2.ensures.whole;
      durable = only_behind _ _ _ told_open c.in_ok-write_and_sync-2.ensures.durable;
      end = omega (arith, stands.end, span_of-push front bodies c.args.body.now);
    }

pub returns-clause-ok : goal.returns-clause-ok
returns-clause-ok g c =
    let first = c.in_ok-write_and_sync.ensures.done in
    let second = c.in_ok-write_and_sync-2.ensures.done in
    record {
      fits = omega (arith, c.saturating_sub-left.ensures);
      whole = ap (λ (disk : DiskState). disk.broken) second ∙ c.in_ok-write_and_sync-2.ensures.whole;
      faultless = ap (λ (disk : DiskState). disk.faults) second ∙ ap (λ (disk : DiskState). disk.faults) first;
      end = refl;
    }
