-- What a log with one transaction more, or a vector that sees one more, makes of the counts.
use Rattle.std.proofs.Common.{◌≡◌, ℕ, Bool, true, false, cond, List, [], ◌∷◌, ◌++◌, filter, flat_map, refl, ap, ◌∙◌, arith}
use Rattle.std.specs.Prelude.{◌+ℤ◌}
use Rattle.std.proofs.lemmas.Grind.{flat_map-append}
use Rattle.std.proofs.lemmas.Int.{ints}
use Rattle.std.proofs.lemmas.List.Elements.{All-head, All-tail, filter-append}
use Rattle.walter_base.specs.declared.names.ObjId.{ObjId}
use Rattle.walter_base.specs.declared.update.Update.{Update}
use Rattle.walter_base.specs.Values.{count_of}
use Rattle.walter_cset.specs.Totals.{Table as Totals, total_of}
use Rattle.walter_history.proofs.Standing.{count-append}
use Rattle.walter_rows.specs.Rows.{seen_in, AreTotalsOf, SeesAlike}
use Rattle.walter_rules.specs.declared.held.Held.{Held}
use Rattle.walter_rules.specs.Log.{sees}

abbrev updates_of : Held → List Update
updates_of h = h.tx.updates

-- the counts of a log in two parts
seen-append : (v : List ℕ) (log others : List Held) → seen_in v (log ++ others) ≡ seen_in v log ++ seen_in v others
seen-append v log others = ap (flat_map updates_of) (filter-append (sees v) log others) ∙ flat_map-append updates_of (filter (sees v) log) (filter (sees v) others)

pub counts-append : (oid : ObjId) (id : ℕ) (v : List ℕ) (log others : List Held)
    → count_of oid id (seen_in v (log ++ others)) ≡ count_of oid id (seen_in v log) +ℤ count_of oid id (seen_in v others)
counts-append oid id v log others = ap (count_of oid id) (seen-append v log others) ∙ count-append oid id (seen_in v log) (seen_in v others)

-- and by its first, that is seen or isn't
pub counts_first : (oid : ObjId) (id : ℕ) (v : List ℕ) (h : Held) (log : List Held) → sees v h ≡ true
    → count_of oid id (seen_in v (h ∷ log)) ≡ count_of oid id h.tx.updates +ℤ count_of oid id (seen_in v log)
counts_first oid id v h log is =
    ap (λ b. count_of oid id (flat_map updates_of (cond b (h ∷ filter (sees v) log) (filter (sees v) log)))) is
    ∙ count-append oid id h.tx.updates (seen_in v log)

pub counts_unseen : (oid : ObjId) (id : ℕ) (v : List ℕ) (h : Held) (log : List Held) → sees v h ≡ false → count_of oid id (seen_in v (h ∷ log)) ≡ count_of oid id (seen_in v log)
counts_unseen oid id v h log is = ap (λ b. count_of oid id (flat_map updates_of (cond b (h ∷ filter (sees v) log) (filter (sees v) log)))) is

-- vectors that see the same
pub seen_alike : (before after : List ℕ) (log : List Held) → SeesAlike before after log → seen_in after log ≡ seen_in before log
seen_alike before after [] alike = refl
seen_alike before after (h ∷ hs) alike =
    let rest = seen_alike before after hs (All-tail (λ (g : Held). sees after g ≡ sees before g) h hs alike) in
    ap (λ b. flat_map updates_of (cond b (h ∷ filter (sees after) hs) (filter (sees after) hs))) (All-head (λ (g : Held). sees after g ≡ sees before g) h hs alike)
    ∙ by (sees before h) rest
  where
    by : (b : Bool) → seen_in after hs ≡ seen_in before hs
        → flat_map updates_of (cond b (h ∷ filter (sees after) hs) (filter (sees after) hs)) ≡ flat_map updates_of (cond b (h ∷ filter (sees before) hs) (filter (sees before) hs))
    by true rest = ap (λ us. h.tx.updates ++ us) rest
    by false rest = rest

module _ (before after : List ℕ) (h : Held) (updates : List Update) (is : h.tx.updates ≡ updates) (old new : Totals)
    (taken : (oid : ObjId) (id : ℕ) → total_of new oid id ≡ total_of old oid id +ℤ count_of oid id updates) where
  -- an own transaction, which the log gets
  pub own_counted : (log : List Held) → SeesAlike before after log → sees after h ≡ true → AreTotalsOf before log old → AreTotalsOf after (log ++ h ∷ []) new
  own_counted log alike seen were oid id =
      let whole = counts-append oid id after log (h ∷ []) in
      let one = counts_first oid id after h [] seen in
      let same = ap (count_of oid id) (seen_alike before after log alike) in
      let its = ap (count_of oid id) is in
      omega (arith, ints, taken oid id, were oid id, whole, one, same, its)

  -- one that was received
  pub received_counted : (front back : List Held) → SeesAlike before after front → SeesAlike before after back → sees before h ≡ false → sees after h ≡ true
      → AreTotalsOf before (front ++ h ∷ back) old → AreTotalsOf after (front ++ h ∷ back) new
  received_counted front back alike_front alike_back unseen seen were oid id =
      let behind = counts-append oid id after front (h ∷ back) in
      let once = counts-append oid id before front (h ∷ back) in
      let one = counts_first oid id after h back seen in
      let none = counts_unseen oid id before h back unseen in
      let same_front = ap (count_of oid id) (seen_alike before after front alike_front) in
      let same_back = ap (count_of oid id) (seen_alike before after back alike_back) in
      let its = ap (count_of oid id) is in
      omega (arith, ints, taken oid id, were oid id, behind, once, one, none, same_front, same_back, its)

-- a transaction that isn't seen is received
pub received_only : (committed : List ℕ) (log : List Held) (h : Held) (totals : Totals) → sees committed h ≡ false → AreTotalsOf committed log totals
    → AreTotalsOf committed (log ++ h ∷ []) totals
received_only committed log h totals unseen were oid id =
    let whole = counts-append oid id committed log (h ∷ []) in
    let none = counts_unseen oid id committed h [] unseen in
    omega (arith, ints, were oid id, whole, none)
