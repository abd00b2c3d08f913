use Rattle.std.proofs.Common.{◌≡◌, ◌∙◌, ◌++◌, ◌∷◌, [], ◌≤◌, ◌+◌, ℕ, ap, subst, sym, length, map, take}
use Rattle.std.specs.Prelude.{All}
use Rattle.std.proofs.lemmas.List.{take_all, take_more}
use Rattle.std.proofs.lemmas.List.Elements.{All-get_or, All-nil, All-push}
use Rattle.walter_base.specs.declared.format.Format.{Format as Header}
use Rattle.walter_base.specs.Sizes.{most_in}
use Rattle.walter_cell.specs.Cells.{CellValue}
use Rattle.walter_rules.specs.Layouts.{header_of}
use Rattle.walter_cluster.proofs.Closings.{map_pushed}
use Rattle.walter_cluster.proofs.bench.headers_of.Goals as goal

pub loop-cell-init : goal.loop-cell-init
loop-cell-init g c = record {
  named = c.new-headers.ensures.items;
  places = subst (λ hs. All (λ (h : Header). length c.args.cells.now ≤ most_in h) hs) (sym c.new-headers.ensures.items)
      (All-nil (λ (h : Header). length c.args.cells.now ≤ most_in h));
}

pub loop-cell-preserved : goal.loop-cell-preserved
loop-cell-preserved g c =
    let is = c.loop-cell.invariant in
    let cells = c.args.cells.now in
    let i = c.loop-cell.cell-index in
    let one = c.cell-item.result in
    let more : take (i + 1) cells ≡ take i cells ++ one ∷ [] =
    take_more cells i one c.loop-cell-test.true ∙ ap (λ (x : CellValue g.row.D.Denot). take i cells ++ x ∷ []) (sym c.cell-item.is) in
    let sites = subst (λ (x : CellValue g.row.D.Denot). x.node.catalog.sites ≡ length cells) (sym c.cell-item.is)
    (All-get_or (λ (x : CellValue g.row.D.Denot). x.node.catalog.sites ≡ length cells) cells i one c.loop-cell-test.true c.requires) in record {
      named = map_pushed (λ (x : CellValue g.row.D.Denot). header_of x.node.layout) _ _ _ (take i cells) one c.in_ok-push.ensures.items is.named c.header.ensures.header
          ∙ ap (λ xs. map (λ (x : CellValue g.row.D.Denot). header_of x.node.layout) xs) (sym more);
      places = subst (λ hs. All (λ (h : Header). length cells ≤ most_in h) hs) (sym c.in_ok-push.ensures.items)
          (All-push (λ (h : Header). length cells ≤ most_in h) _ _ is.places
          (subst (λ (n : ℕ). n ≤ most_in c.header.result) sites c.header.ensures.places));
    }

pub returns-clause-headers : goal.returns-clause-headers
returns-clause-headers g c = c.loop-cell.invariant.named
    ∙ ap (λ xs. map (λ (x : CellValue g.row.D.Denot). header_of x.node.layout) xs) (take_all c.loop-cell.cell-index c.args.cells.now c.loop-cell-test.false)

pub returns-clause-places : goal.returns-clause-places
returns-clause-places g c = c.loop-cell.invariant.places
