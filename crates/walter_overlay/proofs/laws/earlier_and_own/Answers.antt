use Rattle.std.proofs.Common.{sym, ap, ◌∙◌, ◌++◌}
use Rattle.std.specs.Prelude.{None, ◌+ℤ◌}
use Rattle.walter_base.specs.Values.{count_of}
use Rattle.walter_base.proofs.ValuesFrom.{value_from-append}
use Rattle.walter_cset.proofs.Numbers.{are_counts}
use Rattle.walter_history.proofs.Standing.{count-append}
use Rattle.walter_overlay.proofs.laws.earlier_and_own.Goals as goal

pub returns : goal.returns
returns c = record {
  value = λ oid earlier own. sym (value_from-append None oid earlier own);
  count = λ oid id earlier own. sym (count-append oid id earlier own);
  counts = λ oid earlier own number counts same laid.
      are_counts (λ id. number id +ℤ count_of oid id own) oid (earlier ++ own) counts (λ id. ap (λ n. n +ℤ count_of oid id own) (same id) ∙ sym (count-append oid id earlier own)) laid;
}
