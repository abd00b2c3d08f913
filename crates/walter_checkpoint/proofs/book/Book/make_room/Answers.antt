use Rattle.walter_checkpoint.proofs.Rooms.{same_book, same_twice, if_ok, both_rooms}
use Rattle.walter_checkpoint.proofs.book.Book.make_room.Goals as goal

pub returns-clause-same_book : goal.returns-clause-same_book
returns-clause-same_book g c =
    let room = c.make_room.ensures in
    let mid = record c.args.self.now { journal = c.make_room.new.self } in
    same_twice c.args.self.now mid c.make_room_behind.new.self (same_book c.args.self.now c.make_room.new.self room.end room.capacity room.device room.stands room.crash room.any_moment) c.make_room_behind.ensures.same_book

pub returns-clause-room : goal.returns-clause-room
returns-clause-room g c = if_ok c.make_room_behind.result (λ kept. kept c.in_ok-make_room.ensures.room) (c.make_room_behind.ensures.room c.args.n)

pub returns-clause-room_behind : goal.returns-clause-room_behind
returns-clause-room_behind g c bodies ready =
    let mid = record c.args.self.now { journal = c.make_room.new.self } in
    both_rooms c.make_room_behind.result mid c.make_room_behind.new.self c.args.n c.make_room_behind.ensures.same_book.live (returns-clause-room g c) (c.make_room_behind.ensures.behind bodies (record { is = ready.is }))
