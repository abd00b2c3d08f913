use Rattle.std.proofs.Common.{◌≡◌, ◌<◌, ◌++◌, ◌+◌, ◌∷◌, [], ℕ, List, false, drop, length, ap, sym, refl, arith}
use Rattle.std.specs.Prelude.{codes}
use Rattle.walter_rules.specs.Knowledge.{site_at}
use Rattle.walter_page.specs.Lists.{has_pieces, list_behind}
use Rattle.walter_report.specs.Sites.{record_in, records, log_pieces}
use Rattle.walter_page.specs.Words.{listed}
use Rattle.walter_page.proofs.Going.{cuts, cut_more, put_last, puts_as, goes_from, goes_on, goes_as, goes_err}
use Rattle.walter_page.proofs.Joined.{listed_behind}
use Rattle.walter_report.proofs.Logged.{pieces_next}
use Rattle.walter_report.proofs.logs.put_log.Goals as goal

none : (pieces : List (List ℕ)) → length pieces ≡ 0 → 45 ∷ [] ≡ listed pieces
none [] is = refl
none (piece ∷ pieces) is = absurd (omega (arith, is))

pub returns-in_err-put : goal.returns-in_err-put
returns-in_err-put g c =
    cuts c.put.new.self c.from_residual.result c.from_residual.ensures.0
    (cut_more (listed (log_pieces (site_at c.args.site) (records c.args.trail.now))) c.in_err-put.ensures)

pub returns-then-commits-eq0 : goal.returns-then-commits-eq0
returns-then-commits-eq0 g c =
    let pieces = log_pieces (site_at c.args.site) (records c.args.trail.now) in
    let empty : length pieces ≡ 0 = omega (arith, c.requires, c.if-commits-eq0.true) in
    puts_as g.K.Sink.holds g.K.Sink.faults c.args.sink.now c.put-then-commits-eq0.new.sink c.args.page.now
    c.put-then-commits-eq0.new.self c.put-then-commits-eq0.result (codes " log " ++ 45 ∷ [])
    (codes " log " ++ listed pieces) (ap (λ t. codes " log " ++ t) (none pieces empty))
    (put_last c.put-then-commits-eq0.new.sink c.put-then-commits-eq0.new.self (45 ∷ []) c.put-then-commits-eq0.result
    c.in_ok-put.ensures c.put-then-commits-eq0.ensures)

pub loop-entry-init : goal.loop-entry-init
loop-entry-init g c =
    let pieces = log_pieces (site_at c.args.site) (records c.args.trail.now) in
    let there : 0 < length pieces = omega (arith, c.requires, c.if-commits-eq0.false) in
    goes_as (list_behind false pieces) (listed_behind pieces there) (goes_from (listed pieces) c.in_ok-put.ensures)

pub loop-entry-preserved : goal.loop-entry-preserved
loop-entry-preserved g c =
    let i = site_at c.args.site in
    let trail = c.args.trail.now in
    let k = c.loop-entry.entry-index in
    let e = c.entry-item.result in
    let rest = log_pieces i (records (drop (k + 1) trail)) in
    goes_as (list_behind c.put_entry.new.some rest)
    (ap (λ b. list_behind b rest) (sym c.in_ok-put_entry.ensures.some))
    (goes_on
    (goes_as _ (pieces_next c.loop-entry.some i trail k e c.loop-entry-test.true c.entry-item.is)
    c.loop-entry.invariant)
    c.in_ok-put_entry.ensures.put)

pub returns-in_err-put_entry : goal.returns-in_err-put_entry
returns-in_err-put_entry g c =
    let i = site_at c.args.site in
    let trail = c.args.trail.now in
    let k = c.loop-entry.entry-index in
    let e = c.entry-item.result in
    let pieces = log_pieces i (record_in e.came.kept ++ record_in e.came.wrote) in
    goes_err c.put_entry.new.page c.from_residual-in_err-put_entry.result c.from_residual-in_err-put_entry.ensures.0
    (list_behind (has_pieces c.loop-entry.some pieces) (log_pieces i (records (drop (k + 1) trail))))
    (goes_as _ (pieces_next c.loop-entry.some i trail k e c.loop-entry-test.true c.entry-item.is)
    c.loop-entry.invariant)
    c.in_err-put_entry.ensures.put
