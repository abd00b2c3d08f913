use Rattle.std.proofs.Common.{◌≡◌, ◌<◌, ◌+◌, [], Vec, Global, List, Option, Some, length, slice_get, refl, ap, sym, ◌∙◌, subst, arith}
use Rattle.std.proofs.lemmas.List.{length-map}
use Rattle.std.proofs.lemmas.Option.{slice_get_read, slice_get_within}
use Rattle.walter_cell.specs.Cells.{HasBegun}
use Rattle.walter_cell.specs.Lines.{LineValue}
use Rattle.walter_lane.specs.Lanes.{Sending, Receiving}
use Rattle.walter_outbox.proofs.Fields.{field_read}
use Rattle.walter_outbox.specs.Lanes.{put_to}
use Rattle.walter_rules.specs.Knowledge.{site_at}
use Rattle.walter_cluster.specs.Lanes.{rows_in, columns_in, row_of, column_of}
use Rattle.walter_cluster.specs.Openings.{HaveBegun}
use Rattle.walter_cluster.specs.Seats.{lists_in, list_of}
use Rattle.walter_cluster.proofs.Built.{bench_built, room_built}
use Rattle.walter_cluster.proofs.Opened.{cell_begins, begun_none, begun_more, left_of, all_back, why_none, faults_grow}
use Rattle.walter_cluster.proofs.Places.{left_next, left_first}
use Rattle.walter_cluster.proofs.opening.begin_all.Goals as goal

pub loop-number-init : goal.loop-number-init
loop-number-init g c = record {
  disks = refl;
  rows = refl;
  columns = refl;
  lists = refl;
  begun = begun_none g.D.Disk c.args.scenario.now c.args.disks.items (rows_in c.args.parts.rows.items) (columns_in c.args.parts.columns.items) (lists_in c.args.parts.lists.items) c.args.parts.room.cells.items c.requires.ready.1.room.no_cells;
  room = refl;
}

pub begin-requires-clause-outs : goal.begin-requires-clause-outs
begin-requires-clause-outs g c =
    let rows = c.args.parts.rows.items in
    let n = c.loop-number.number in
    let joined = c.requires.ready.1.joined in
    let lt : n < length rows = omega (arith, c.loop-number-test.true, joined.rows_long, length-map rows (λ (v : Vec Sending Global). v.items)) in
    let is = field_read (λ (v : Vec Sending Global). v.items) rows n c.remove-outs.result [] lt (left_first rows c.loop-number.rows.items n c.loop-number.invariant.rows c.remove-outs.result c.remove-outs.ensures.value) in
    ap length (sym is) ∙ joined.row_long n c.loop-number-test.true

pub begin-requires-clause-ins : goal.begin-requires-clause-ins
begin-requires-clause-ins g c =
    let columns = c.args.parts.columns.items in
    let n = c.loop-number.number in
    let joined = c.requires.ready.1.joined in
    let lt : n < length columns = omega (arith, c.loop-number-test.true, joined.columns_long, length-map columns (λ (v : Vec Receiving Global). v.items)) in
    let is = field_read (λ (v : Vec Receiving Global). v.items) columns n c.remove-ins.result [] lt (left_first columns c.loop-number.columns.items n c.loop-number.invariant.columns c.remove-ins.result c.remove-ins.ensures.value) in
    ap length (sym is) ∙ joined.column_long n c.loop-number-test.true

pub begin-requires-clause-empty : goal.begin-requires-clause-empty
begin-requires-clause-empty g c k below =
    let rows = c.args.parts.rows.items in
    let n = c.loop-number.number in
    let joined = c.requires.ready.1.joined in
    let lt : n < length rows = omega (arith, c.loop-number-test.true, joined.rows_long, length-map rows (λ (v : Vec Sending Global). v.items)) in
    let is = field_read (λ (v : Vec Sending Global). v.items) rows n c.remove-outs.result [] lt (left_first rows c.loop-number.rows.items n c.loop-number.invariant.rows c.remove-outs.result c.remove-outs.ensures.value) in
    ap (λ row. put_to row k) (sym is) ∙ joined.none_put n k

pub returns-in-Err-clause-leaves : goal.returns-in-Err-clause-leaves
returns-in-Err-clause-leaves g c =
    let disks = c.args.disks.items in
    let n = c.loop-number.number in
    let disk = c.remove-disk.result in
    let is = c.loop-number.invariant in
    let lt : n < length disks = omega (arith, c.loop-number-test.true, c.requires.disks) in
    let next : slice_get disks n ≡ Some disk = slice_get_read disks (length disks) n disk refl lt (left_first disks c.loop-number.disks.items n is.disks disk c.remove-disk.ensures.value) in
    all_back g.D.Disk c.args.scenario.now disks (rows_in c.args.parts.rows.items) (columns_in c.args.parts.columns.items) (lists_in c.args.parts.lists.items) n c.loop-number.cells.items is.begun
    disk c.in-Err.disk c.remove-disk.new.self.items (record { disks = c.give_back.result; site = record { 0 = n }; why = c.in-Err.why }) next
    (c.remove-disk.ensures.items ∙ left_next disks c.loop-number.disks.items n is.disks) c.give_back.ensures
    (record {
      images = λ bytes has. c.in-Err.ensures.begins.leaves bytes has;
      faults = faults_grow c.in-Err.why _ _ c.in-Err.ensures.begins.faults;
      arms = c.in-Err.ensures.begins.arms;
    })

pub returns-in-Err-clause-why : goal.returns-in-Err-clause-why
returns-in-Err-clause-why g c =
    let disks = c.args.disks.items in
    let n = c.loop-number.number in
    let disk = c.remove-disk.result in
    let is = c.loop-number.invariant in
    let lt : n < length disks = omega (arith, c.loop-number-test.true, c.requires.disks) in
    let next : slice_get disks n ≡ Some disk = slice_get_read disks (length disks) n disk refl lt (left_first disks c.loop-number.disks.items n is.disks disk c.remove-disk.ensures.value) in
    why_none g.D.Disk c.args.scenario.now disks (rows_in c.args.parts.rows.items) (columns_in c.args.parts.columns.items) (lists_in c.args.parts.lists.items) n c.loop-number.cells.items is.begun
    disk c.in-Err.disk c.remove-disk.new.self.items (record { disks = c.give_back.result; site = record { 0 = n }; why = c.in-Err.why }) next
    (c.remove-disk.ensures.items ∙ left_next disks c.loop-number.disks.items n is.disks) c.give_back.ensures
    refl (λ bytes has. c.in-Err.ensures.begins.begins bytes has) c.in-Err.ensures.begins.faults

pub loop-number-preserved : goal.loop-number-preserved
loop-number-preserved g c =
    let t = c.args.scenario.now in
    let disks = c.args.disks.items in
    let rows = c.args.parts.rows.items in
    let columns = c.args.parts.columns.items in
    let lists = c.args.parts.lists.items in
    let n = c.loop-number.number in
    let disk = c.remove-disk.result in
    let cell = c.in-Ok.cell in
    let is = c.loop-number.invariant in
    let ready = c.requires.ready.1 in
    let made = c.in-Ok.ensures in
    let lt : n < length disks = omega (arith, c.loop-number-test.true, c.requires.disks) in
    let in_rows : n < length rows = omega (arith, c.loop-number-test.true, ready.joined.rows_long, length-map rows (λ (v : Vec Sending Global). v.items)) in
    let in_columns : n < length columns = omega (arith, c.loop-number-test.true, ready.joined.columns_long, length-map columns (λ (v : Vec Receiving Global). v.items)) in
    let in_lists : n < length lists = omega (arith, c.loop-number-test.true, ready.places.lists_long, length-map lists (λ (v : Vec (Option (LineValue)) Global). v.items)) in
    let next : slice_get disks n ≡ Some disk = slice_get_read disks (length disks) n disk refl lt (left_first disks c.loop-number.disks.items n is.disks disk c.remove-disk.ensures.value) in
    let row = field_read (λ (v : Vec Sending Global). v.items) rows n c.remove-outs.result [] in_rows (left_first rows c.loop-number.rows.items n is.rows c.remove-outs.result c.remove-outs.ensures.value) in
    let column = field_read (λ (v : Vec Receiving Global). v.items) columns n c.remove-ins.result [] in_columns (left_first columns c.loop-number.columns.items n is.columns c.remove-ins.result c.remove-ins.ensures.value) in
    let list = field_read (λ (v : Vec (Option (LineValue)) Global). v.items) lists n c.remove-lines.result [] in_lists (left_first lists c.loop-number.lists.items n is.lists c.remove-lines.result c.remove-lines.ensures.value) in
    let Rows : List Sending → Type 0 = λ os. HasBegun g.D.Disk t.catalog t.capacity t.areas t.format (site_at n) disk os c.remove-ins.result.items c.remove-lines.result.items cell in
    let Columns : List Receiving → Type 0 = λ is. HasBegun g.D.Disk t.catalog t.capacity t.areas t.format (site_at n) disk (row_of (rows_in rows) n) is c.remove-lines.result.items cell in
    let Lists : List (Option LineValue) → Type 0 = λ ls. HasBegun g.D.Disk t.catalog t.capacity t.areas t.format (site_at n) disk (row_of (rows_in rows) n) (column_of (columns_in columns) n) ls cell in
    let one = cell_begins g.D.Disk t n disk (row_of (rows_in rows) n) (column_of (columns_in columns) n) (list_of (lists_in lists) n) cell
    (subst Lists (sym list) (subst Columns (sym column) (subst Rows (sym row) made.opens))) made.begins made.room in
    record {
      disks = c.remove-disk.ensures.items ∙ left_next disks c.loop-number.disks.items n is.disks;
      rows = c.remove-outs.ensures.items ∙ left_next rows c.loop-number.rows.items n is.rows;
      columns = c.remove-ins.ensures.items ∙ left_next columns c.loop-number.columns.items n is.columns;
      lists = c.remove-lines.ensures.items ∙ left_next lists c.loop-number.lists.items n is.lists;
      begun = subst (HaveBegun g.D.Disk t disks (rows_in rows) (columns_in columns) (lists_in lists) (n + 1)) (sym c.push_reserved.ensures.items)
          (begun_more g.D.Disk t disks (rows_in rows) (columns_in columns) (lists_in lists) n c.loop-number.cells.items disk cell is.begun next one);
      room = c.push_reserved.ensures.capacity ∙ is.room;
    }

pub returns-clause-leaves : goal.returns-clause-leaves
returns-clause-leaves g c i disk at =
    let lt = slice_get_within c.args.disks.items i disk at in
    left_of g.D.Disk c.args.scenario.now c.args.disks.items (rows_in c.args.parts.rows.items) (columns_in c.args.parts.columns.items) (lists_in c.args.parts.lists.items) c.loop-number.number c.loop-number.cells.items c.loop-number.invariant.begun
    i disk (omega (arith, lt, c.requires.disks, c.loop-number-test.false)) at

pub invariant_of-result : goal.invariant_of-result
invariant_of-result g c =
    let t = c.args.scenario.now in
    let parts = c.args.parts in
    let disks = c.args.disks.items in
    let rows = rows_in parts.rows.items in
    let columns = columns_in parts.columns.items in
    let lists = lists_in parts.lists.items in
    let cells = c.loop-number.cells.items in
    let ready = c.requires.ready.1 in
    let room = ready.room in
    let begun : HaveBegun g.D.Disk t disks rows columns lists t.catalog.sites cells =
    subst (λ n. HaveBegun g.D.Disk t disks rows columns lists n cells) (omega (arith, c.loop-number-test.false, c.loop-number.auto.number-end)) c.loop-number.invariant.begun in (
      bench_built g.D.Disk t disks rows columns lists cells begun c.requires.disks ready.joined parts.homes.items c.requires.ready.0 ready.conns_long ready.seated ready.alone ready.homes
          c.requires.few c.requires.within,
      room_built g.D.Disk t disks rows columns lists cells begun c.requires.disks parts.room.trails room.no_trails room.for_trails,
      room_built g.D.Disk t disks rows columns lists cells begun c.requires.disks parts.room.disks room.no_disks room.for_disks,
      room_built g.D.Disk t disks rows columns lists cells begun c.requires.disks parts.room.remains room.no_remains room.for_remains,
    )
