use Rattle.walter_checkpoint.proofs.Contents.{one_book}
use Rattle.walter_checkpoint.proofs.Damages.{content_or_foreign, content_or_damaged, foreign_or_damaged, one_damaged}
use Rattle.walter_checkpoint.proofs.laws.books_differ.Goals as goal

pub returns-clause-content : goal.returns-clause-content
returns-clause-content c = one_book

pub returns-clause-content_or_foreign : goal.returns-clause-content_or_foreign
returns-clause-content_or_foreign c = content_or_foreign

pub returns-clause-content_or_damaged : goal.returns-clause-content_or_damaged
returns-clause-content_or_damaged c = content_or_damaged

pub returns-clause-foreign_or_damaged : goal.returns-clause-foreign_or_damaged
returns-clause-foreign_or_damaged c = foreign_or_damaged

pub returns-clause-damaged : goal.returns-clause-damaged
returns-clause-damaged c = one_damaged
