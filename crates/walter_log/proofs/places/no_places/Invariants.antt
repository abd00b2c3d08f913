use Rattle.std.proofs.Common.{◌≡◌, [], All, length}
use Rattle.walter_log.proofs.places.no_places.Given as goal

abbrev pub invariant-loop-site : goal.invariant-loop-site
invariant-loop-site l = record {
  sites : length l.places.items ≡ l._site;
  none : All (λ list. list.items ≡ []) l.places.items;
}
