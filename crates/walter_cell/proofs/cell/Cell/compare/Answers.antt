use Rattle.std.proofs.Common.{◌≡◌, ◌<◌, ℕ, List, length, map, ap, sym, ◌∙◌, subst}
use mathlib.Core.List.{IsPrefix}
use Rattle.walter_lane.specs.declared.posted.Posted.{Posted}
use Rattle.walter_outbox.specs.Lanes.{arrived_from, posted}
use Rattle.walter_rules.specs.Merges.{put_out_to}
use Rattle.walter_cell.specs.Cells.{CellValue}
use Rattle.walter_cell.proofs.Meeting.{was_here, put_by_trail}
use Rattle.walter_cell.proofs.cell.Cell.compare.Goals as goal

pub returns-clause-begins : goal.returns-clause-begins
returns-clause-begins g c =
    let ins = c.self.inside.ins.items in
    let sender = c.sender.inside.node in
    let from : c.args.from.0 < length ins = rw (← c.self.view_is) at c.requires.from in
    let within : c.from.result < length ins = subst (λ n. n < length ins) (sym c.from.ensures) from in
    let to : c.args.to.0 < length sender.outs = rw (← c.sender.view_is) at c.requires.to in
    let here : arrived_from ins c.args.from.0 ≡ c.index_mut.result.now.arrived =
    ap (λ (n : ℕ). arrived_from ins n) (sym c.from.ensures) ∙ was_here ins c.from.result c.index_mut.result.now c.index_mut.result.now c.index_mut.ensures.value within in
    let begins : IsPrefix (arrived_from ins c.args.from.0) (map (posted sender.catalog.sites) (put_out_to c.args.to sender.trail)) =
    subst (λ (l : List Posted). IsPrefix l (map (posted sender.catalog.sites) (put_out_to c.args.to sender.trail))) (sym here)
    (subst (λ (l : List Posted). IsPrefix c.index_mut.result.now.arrived l) (put_by_trail g.D.Disk sender c.args.to c.compare.ensures.sound to) c.compare.ensures.begins) in
    subst (λ (v : CellValue g.row.D.Denot). IsPrefix (arrived_from v.ins c.args.from.0) (map (posted c.args.sender.now.node.catalog.sites) (put_out_to c.args.to c.args.sender.now.node.trail))) c.self.view_is
    (subst (λ (v : CellValue g.row.D.Denot). IsPrefix (arrived_from ins c.args.from.0) (map (posted v.node.catalog.sites) (put_out_to c.args.to v.node.trail))) c.sender.view_is begins)
