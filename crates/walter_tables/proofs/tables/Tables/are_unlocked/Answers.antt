use Rattle.std.proofs.Common.{◌≡◌, None, get_or, refl, sym, ◌∙◌}
use Rattle.std.proofs.lemmas.List.{take_all}
use Rattle.std.proofs.lemmas.List.Elements.{All-more, All-same}
use Rattle.walter_base.specs.declared.names.ObjId.{ObjId}
use Rattle.walter_locks.specs.Parts.{owner_of}
use Rattle.walter_tables.proofs.FitsTold.{none_some}
use Rattle.walter_tables.proofs.tables.Tables.are_unlocked.Goals as goal

pub loop-place-preserved : goal.loop-place-preserved
loop-place-preserved c =
    let IsFree : ObjId → Type 0 = λ oid. owner_of c.args.self.now.locks oid ≡ None in
    let objects = c.args.objects.now in
    let any : ObjId = record { container = 0; local = 0 } in
    let free : IsFree (get_or objects c.loop-place.place any) = none_some _ (sym c.is_locked.ensures ∙ c.if-is_locked.false) in
    All-more IsFree objects c.loop-place.place any c.loop-place-test.true c.loop-place.invariant free

pub returns : goal.returns
returns c = (
  λ is. All-same (λ (oid : ObjId). owner_of c.args.self.now.locks oid ≡ None) c.args.objects.now _
      (sym (take_all c.loop-place.place c.args.objects.now c.loop-place-test.false)) c.loop-place.invariant,
  λ all. refl,
)
