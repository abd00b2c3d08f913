use Rattle.std.proofs.Common.{◌≡◌, sym, ◌∙◌, ◌++◌, ◌∷◌, [], length, arith, ap}
use Rattle.std.specs.Prelude.{option_to_list}
use Rattle.std.proofs.lemmas.Bool.{lt-ltb}
use Rattle.std.proofs.lemmas.List.{length-append}
use Rattle.walter_cluster.proofs.Sharing.{held_front, held_last}
use Rattle.walter_cluster.proofs.shared.lock_last.Goals as goal

pub new-requires : goal.new-requires
new-requires g c =
    let cells = c.pop.new.self.items in
    let pumps = c.pop-2.new.self.items in
    let whole : c.args.cells.now.items ≡ cells ++ c.unwrap-cell.result ∷ [] = c.pop.ensures.items ∙ ap (λ o. cells ++ option_to_list o) c.unwrap-cell.ensures in
    let pumped : c.args.pumps.now.items ≡ pumps ++ c.unwrap-pump.result ∷ [] = c.pop-2.ensures.items ∙ ap (λ o. pumps ++ option_to_list o) c.unwrap-pump.ensures in
    let long : length cells ≡ g.row.I = omega (arith, c.requires.cells, c.if-len.false, c.len.ensures, ap length whole, length-append cells (c.unwrap-cell.result ∷ []), c.args.cells.now.ok.0) in
    let as_long : length pumps ≡ g.row.I = omega (arith, c.requires.pumps, c.requires.cells, c.if-len.false, c.len.ensures, ap length pumped, length-append pumps (c.unwrap-pump.result ∷ []), c.args.pumps.now.ok.0, c.args.cells.now.ok.0) in (
      omega arith,
      held_last g.D.Disk g.N.Name.origins g.row.I cells pumps c.args.cells.now.items c.args.pumps.now.items
          c.unwrap-cell.result c.unwrap-pump.result long as_long whole pumped c.requires.held,
    )

pub returns-clause-held : goal.returns-clause-held
returns-clause-held g c =
    held_front g.D.Disk g.N.Name.origins c.pop.new.self.items c.pop-2.new.self.items c.args.cells.now.items c.args.pumps.now.items
    _ _ c.pop.ensures.items c.pop-2.ensures.items c.requires.held

pub returns-clause-there : goal.returns-clause-there
returns-clause-there g c =
    let len = c.requires.cells in let more = c.if-len.false in let is = c.len.ensures in let ok = c.args.cells.now.ok.0 in
    sym (lt-ltb g.row.I (length g.N.Name.origins) (omega (arith, len, more, is, ok)))
