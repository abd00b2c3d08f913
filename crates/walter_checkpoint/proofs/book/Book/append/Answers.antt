use Rattle.std.proofs.Common.{inl, inr, refl, ap}
use Rattle.std.proofs.lemmas.Bool.{cases_lt}
use Rattle.walter_journal.specs.Journals.{need_of}
use Rattle.walter_journal.specs.Journals as journal
use Rattle.walter_checkpoint.specs.Books.{left_of}
use Rattle.walter_checkpoint.proofs.Adding.{adding, added, unmoved, stands_more}
use Rattle.walter_checkpoint.proofs.book.Book.append.Goals as goal

pub returns-in_err-append-clause-any_moment : goal.returns-in_err-append-clause-any_moment
returns-in_err-append-clause-any_moment g c bodies stands =
    let new = record c.args.self.now { journal = c.append.new.self } in
    elim (cases_lt (left_of c.args.self.now) (need_of c.args.body.now)) [
      | inl less ↦ unmoved g.met.D.Disk.only_now c.args.self.now new c.args.body.now bodies stands (ap journal.disk_of (c.append.ensures.full less).1)
      | inr enough ↦ adding c.args.self.now new c.args.body.now enough bodies stands c.append.ensures.any_moment
    ]

pub returns-clause-any_moment : goal.returns-clause-any_moment
returns-clause-any_moment g c bodies stands =
    let new = record c.args.self.now { journal = c.append.new.self; renewal = c.clear.new.self } in
    adding c.args.self.now new c.args.body.now c.in_ok-append.ensures.ok.fits bodies stands c.append.ensures.any_moment

pub returns-clause-ok : goal.returns-clause-ok
returns-clause-ok g c =
    let new = record c.args.self.now { journal = c.append.new.self; renewal = c.clear.new.self } in
    let did = c.in_ok-append.ensures in
    added c.args.self.now new c.args.body.now did.ok.fits did.ok did.behind refl refl c.append.ensures.capacity

pub returns-clause-stands : goal.returns-clause-stands
returns-clause-stands g c =
    let new = record c.args.self.now { journal = c.append.new.self; renewal = c.clear.new.self } in
    stands_more c.args.self.now new c.args.body.now (returns-clause-ok g c)
