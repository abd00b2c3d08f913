use Rattle.walter_checkpoint.proofs.Rooms.{same_book}
use Rattle.walter_checkpoint.proofs.book.Book.arm.Goals as goal

pub returns-clause-same_book : goal.returns-clause-same_book
returns-clause-same_book g c =
    let armed = c.arm.ensures in
    same_book c.args.self.now c.arm.new.self armed.end armed.capacity armed.device armed.stands armed.crash armed.any_moment
