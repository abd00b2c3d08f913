-- What a read of an object comes to, by what a vector sees of the log.
use Rattle.std.proofs.Common.{◌≡◌, ℕ, List, ◌++◌, None, Option, ap, sym, ◌∙◌}
use Rattle.walter_base.specs.declared.names.ObjId.{ObjId}
use Rattle.walter_base.specs.declared.update.Update.{Update}
use Rattle.walter_base.specs.Values.{value_from, value_of, count_of}
use Rattle.walter_base.proofs.ValuesFrom.{value_from-append}
use Rattle.walter_history.specs.Rows.{seen_updates}
use Rattle.walter_rows.specs.Rows.{rows_in, seen_in}
use Rattle.walter_rows.proofs.HeldRows.{seen_held, value_on, count_on}
use Rattle.walter_rules.specs.declared.held.Held.{Held}

pub value_read_is : (v : List ℕ) (oid : ObjId) (log : List Held) (own : List Update) (seen : Option (List ℕ)) → seen ≡ value_of oid (seen_updates v (rows_in oid log))
    → value_from seen oid own ≡ value_of oid (seen_in v log ++ own)
value_read_is v oid log own seen is =
    ap (λ base. value_from base oid own) (is ∙ ap (value_of oid) (seen_held v oid log) ∙ value_on oid None (seen_in v log))
    ∙ sym (value_from-append None oid (seen_in v log) own)

-- the same of a count
pub count_held : (v : List ℕ) (oid : ObjId) (id : ℕ) (log : List Held) → count_of oid id (seen_updates v (rows_in oid log)) ≡ count_of oid id (seen_in v log)
count_held v oid id log = ap (count_of oid id) (seen_held v oid log) ∙ count_on oid id (seen_in v log)
