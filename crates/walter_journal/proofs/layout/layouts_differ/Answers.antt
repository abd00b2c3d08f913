use Rattle.walter_journal.proofs.Layouts.{one_content, not_damaged, one_damage, content_or_foreign, foreign_or_damaged}
use Rattle.walter_journal.proofs.layout.layouts_differ.Goals as goal

pub returns-clause-content : goal.returns-clause-content
returns-clause-content c = one_content

pub returns-clause-content_or_foreign : goal.returns-clause-content_or_foreign
returns-clause-content_or_foreign c = content_or_foreign

pub returns-clause-content_or_damaged : goal.returns-clause-content_or_damaged
returns-clause-content_or_damaged c = not_damaged

pub returns-clause-foreign_or_damaged : goal.returns-clause-foreign_or_damaged
returns-clause-foreign_or_damaged c = foreign_or_damaged

pub returns-clause-damaged : goal.returns-clause-damaged
returns-clause-damaged c = one_damage
