use Rattle.std.proofs.Common.{subst}
use Rattle.walter_cell.specs.Nodes.{NodeValue, IsSound}
use Rattle.walter_cell.proofs.Wholes.{sound_of}
use Rattle.walter_cell.proofs.node.Node.compare.Goals as goal

pub returns-clause-sound : goal.returns-clause-sound
returns-clause-sound g c =
    subst (λ (v : NodeValue g.row.D.Denot). IsSound g.D.Disk v) c.self.view_is (sound_of _ _ c.self.invariant)
