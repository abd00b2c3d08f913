use Rattle.std.proofs.Common.{◌≡◌, ℕ, List, [], Option, Result, Ok, Err, true, reverse, refl, ap, sym, ◌∙◌, subst}
use Rattle.std.specs.Prelude.{All}
use Rattle.std.specs.Result.{IsErrAnd}
use Rattle.std.proofs.lemmas.List.Elements.{All-nil, All-push}
use Rattle.walter_checkpoint.specs.Areas.{Shape, shape_by}
use Rattle.walter_disk.specs.declared.disk.Disk.{Ghosts}
use Rattle.walter_engine.specs.declared.answers.BeginFault.{BeginFault}
use Rattle.walter_outbox.specs.Lanes.{AreNext}
use Rattle.walter_rules.specs.declared.entry.Entry.{Entry}
use Rattle.walter_rules.specs.Kinds.{IfCall}
use Rattle.walter_rules.specs.Trails.{opening}
use Rattle.walter_cell.specs.Builds.{Begins}
use Rattle.walter_cell.specs.Cells.{CellValue}
use Rattle.walter_cell.specs.Lines.{is_here}
use Rattle.walter_cell.specs.Nodes.{NodeValue}
use Rattle.walter_cell.proofs.cell.Cell.begin.Goals as goal

-- what came back with the disk comes back
begins_back : {D M N : Type 0} (g : Ghosts D) (of_node : M → Option D) (of_cell : N → Option D) (shape : Shape) (areas : ℕ) (disk : D)
    (r : Result N (D × BeginFault)) (back : D × BeginFault)
    → IsErrAnd r (λ e. e ≡ back) → Begins g {N = M} of_node shape areas disk (Err back) → Begins g {N = N} of_cell shape areas disk r
begins_back g of_node of_cell shape areas disk (Ok x) back is begins = absurd is
begins_back {D = D} {N = N} g of_node of_cell shape areas disk (Err e) back is begins =
    subst (λ (b : D × BeginFault). Begins g {N = N} of_cell shape areas disk (Err b)) (sym is)
    (record { begins = begins.begins; leaves = begins.leaves; faults = begins.faults; calls = begins.calls; arms = begins.arms })

pub returns-in_err-node-clause-begins : goal.returns-in_err-node-clause-begins
returns-in_err-node-clause-begins g c =
    begins_back {M = NodeValue g.row.D.Denot} {N = CellValue g.row.D.Denot} g.D.Disk (λ node. node.disk) (λ cell. cell.node.disk)
    (shape_by c.args.capacity c.args.catalog.now.sites c.args.format) c.args.areas c.args.disk c.from_residual.result c.in_err-node.field-0.0 c.from_residual.ensures.1 c.in_err-node.ensures.begins

pub invariant_of-result : goal.invariant_of-result
invariant_of-result g c =
    let node = c.in_ok-node.node in
    let opens = c.in_ok-node.ensures.opens in
    let lines = c.args.lines.items in
    record {
      ins = c.requires.ins ∙ ap (λ k. k.sites) (sym opens.catalog_is);
      next = subst (λ (es : List Entry). AreNext node.site c.args.ins.items (reverse es)) (sym opens.trail) (tt, refl);
      calls = subst (λ (es : List Entry). All (λ (e : Entry). IfCall (λ client call. is_here lines client ≡ true) e.event) es) (sym opens.trail)
          (All-push (λ (e : Entry). IfCall (λ client call. is_here lines client ≡ true) e.event) [] opening (All-nil _) tt);
    }
