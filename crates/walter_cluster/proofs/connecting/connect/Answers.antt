use Rattle.std.proofs.Common.{◌≡◌, ◌∷◌, [], arith, subst, Vec, Global, vec_len}
use Rattle.std.proofs.lemmas.List.{length-map, map-append}
use Rattle.walter_lane.specs.Lanes.{Sending, Receiving}
use Rattle.walter_cluster.specs.Lanes.{rows_in, columns_in, AddsRow}
use Rattle.walter_cluster.proofs.Joining.{joined_more}
use Rattle.walter_cluster.proofs.connecting.connect.Goals as goal

pub loop-preserved : goal.loop-preserved
loop-preserved c =
    let joined = c.loop.invariant in
    let before = c.loop.columns in
    let after = c.add_row.new.columns in
    let row = c.in_ok-add_row.field-0 in
    let all : vec_len before ≡ c.args.sites = omega (arith, before.ok.0, joined.columns_long, length-map before.items (λ (u : Vec Receiving Global). u.items)) in
    let adds : AddsRow (columns_in before.items) (columns_in after.items) row.items c.args.sites = subst (AddsRow (columns_in before.items) (columns_in after.items) row.items) all c.in_ok-add_row.ensures in
    rw (c.in_ok-push.ensures.items, map-append (λ (u : Vec Sending Global). u.items) c.loop.rows.items (row ∷ []))
    (joined_more c.args.sites c.loop.counter (rows_in c.loop.rows.items) (columns_in before.items) (columns_in after.items) row.items joined adds)
