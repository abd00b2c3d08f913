use Rattle.std.proofs.Common.{◌≡◌, Bool, true, false, length, sym, ap, ◌∙◌}
use Rattle.std.proofs.lemmas.Bool.{true≢false}
use Rattle.std.specs.Prelude.{Result, Ok, Err, OnOk, is_err}
use Rattle.walter_tests_disks.specs.declared.books.Ending.{Ending}
use Rattle.walter_tests_disks.specs.declared.books.Ending.TheVariants.{Ended, NotPacked, NoRoom}
use Rattle.walter_tests_disks.proofs.books.restart.Goals as goal

-- what holds where a call answers Ok, if it didn't fail
on_ok : {X E P : Type 0} (result : Result X E) → is_err result ≡ false → OnOk result P → P
on_ok (Ok x) fine is = is
on_ok (Err e) fine is = absurd (true≢false fine)

abbrev failed : Ending → Bool
failed (Ended result) = is_err result
failed NotPacked = true
failed NoRoom = true

pub pack-requires : goal.pack-requires
pack-requires g c =
    let fine : is_err c.make_room.result ≡ false = sym c.is_err-2.ensures.value ∙ c.if-is_err-2.false in
    record { room = on_ok c.make_room.result fine c.make_room.ensures.pack_room (c.arm.ensures.pack_room c.in_ok-book.ensures.room) }

pub append-ended-requires-clause-room : goal.append-ended-requires-clause-room
append-ended-requires-clause-room g c =
    let bodies = c.in_ok-book.bodies in
    let ready = c.arm.ensures.same_book.ready bodies c.in_ok-book.ensures.ready in
    let fine : is_err c.make_room.result ≡ false = sym c.is_err-2.ensures.value ∙ c.if-is_err-2.false in
    let room = on_ok c.make_room.result fine (c.make_room.ensures.room_behind bodies ready) in
    let packed : is_err c.pack.result ≡ false = sym c.is_err-3.ensures.value ∙ c.if-is_err-3.false in
    on_ok c.pack.result packed (c.pack.ensures.room (length c.args.body.now) room)

pub returns : goal.returns
returns g c tells ended =
    let bodies = c.in_ok-book.bodies in
    let armed = c.arm.ensures.same_book in
    let roomy = c.make_room.ensures.same_book in
    let ready = roomy.ready bodies (armed.ready bodies c.in_ok-book.ensures.ready) in
    let stands = roomy.stands bodies (armed.stands bodies (c.in_ok-book.ensures.loaded tells)) in
    let packed : is_err c.pack.result ≡ false = sym c.is_err-3.ensures.value ∙ c.if-is_err-3.false in
    let anew = on_ok c.pack.result packed (c.pack.ensures.stands bodies stands ready) in
    on_ok c.append-ended.result (ap failed ended) (c.append-ended.ensures.stands bodies anew)
