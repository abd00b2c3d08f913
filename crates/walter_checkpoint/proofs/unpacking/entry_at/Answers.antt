use Rattle.std.proofs.Common.{◌≡◌, ◌∷◌, ◌++◌, ◌-◌, length, take, drop, get_or, subst, sym, ap, ◌∙◌}
use Rattle.walter_journal.specs.Layout.{record_of}
use Rattle.walter_checkpoint.specs.Faults.{HasNoBody, HasNoEntry}
use Rattle.walter_checkpoint.proofs.Entries.{head_and_rest, no_record, no_entry}
use Rattle.walter_checkpoint.proofs.unpacking.entry_at.Goals as goal

pub returns-in_default-record_at-clause-none : goal.returns-in_default-record_at-clause-none
returns-in_default-record_at-clause-none c =
    let bytes = c.args.bytes.now in
    subst (λ l. HasNoEntry c.args.sites l) (sym (head_and_rest bytes c.in-len1-up.len_at_least))
    (no_record c.args.sites (get_or bytes 0 0) c.in_default-record_at.field-0 (take (length bytes - 1) (drop 1 bytes)) c.in_default-record_at.ensures.err)

pub returns-in-None-clause-none : goal.returns-in-None-clause-none
returns-in-None-clause-none c =
    let bytes = c.args.bytes.now in
    let found = c.in-Ok.ensures.ok in
    let none : HasNoBody c.args.sites (get_or bytes 0 0) c.in-Ok.spelled.now = rw c.in-None.is at c.in_ok-body.ensures.none in
    let is : bytes ≡ get_or bytes 0 0 ∷ (record_of c.in-Ok.spelled.now ++ c.in-Ok.next.now) = head_and_rest bytes c.in-len1-up.len_at_least ∙ ap (λ l. get_or bytes 0 0 ∷ l) found.0 in
    subst (λ l. HasNoEntry c.args.sites l) (sym is) (no_entry c.args.sites (get_or bytes 0 0) c.in-Ok.spelled.now c.in-Ok.next.now found.1 none)
