use Rattle.std.proofs.Common.{ℕ, ◌≤◌, take, sym, ◌∙◌, subst, arith}
use Rattle.std.proofs.lemmas.List.{take_all}
use Rattle.std.proofs.lemmas.List.Elements.{All-more, All-same, All-weaker}
use Rattle.walter_base.specs.declared.names.ObjId.{ObjId}
use Rattle.walter_base.specs.declared.update.Update.{Update}
use Rattle.walter_history.specs.Lines.{room_of}
use Rattle.walter_base.specs.Values.{object_of}
use Rattle.walter_rows.specs.Rows.{count_on}
use Rattle.walter_rows.proofs.rows.make_room.Goals as goal

pub loop-update-preserved : goal.loop-update-preserved
loop-update-preserved c =
    let updates = c.args.updates.now in
    let old = c.loop-update.history in
    let new = c.reserve.new.self in
    let i = c.loop-update.update-index in
    let u = c.update-item.result in
    let Old : Update → Type 0 = λ (o : Update). count_on (object_of o) updates ≤ room_of old (object_of o) in
    let New : Update → Type 0 = λ (o : Update). count_on (object_of o) updates ≤ room_of new (object_of o) in
    let wider : (o : Update) → Old o → New o = λ o had. let more = c.in_ok-reserve.ensures.room (object_of o) in omega (arith, had, more) in
    let counted : count_on c.object-oid.result updates ≤ room_of new c.object-oid.result = subst (λ (n : ℕ). n ≤ room_of new c.object-oid.result) c.count_on.ensures c.in_ok-reserve.ensures.enough in
    let enough : New u = subst (λ (at : ObjId). count_on at updates ≤ room_of new at) c.object-oid.ensures counted in
    record {
      room = All-more New updates i u c.loop-update-test.true (All-weaker Old New wider (take i updates) c.loop-update.invariant.room) (subst New c.update-item.is enough);
      floor = c.in_ok-reserve.ensures.floor ∙ c.loop-update.invariant.floor;
      same = λ oid. c.in_ok-reserve.ensures.kept oid ∙ c.loop-update.invariant.same oid;
    }

pub returns-clause-room : goal.returns-clause-room
returns-clause-room c =
    let updates = c.args.updates.now in
    All-same (λ (o : Update). count_on (object_of o) updates ≤ room_of c.loop-update.history (object_of o)) updates _ (sym (take_all c.loop-update.update-index updates c.loop-update-test.false)) c.loop-update.invariant.room
