use Rattle.std.proofs.Common.{◌≡◌, ◌+◌, ◌<◌, ◌≤◌, length, subst, ◌∙◌, arith}
use Rattle.walter_conn.specs.Frames.{EndsInFrame}
use Rattle.walter_conn.specs.Inputs.{held_by}
use Rattle.walter_conn.proofs.InputLemmas.{EndsInFrame-unread, IsBegun-cut, first_kept, frame_held}
use Rattle.walter_conn.proofs.input.FrameInput.arrive.Goals as goal

pub returns-then-not-branch-2-clause-cut : goal.returns-then-not-branch-2-clause-cut
returns-then-not-branch-2-clause-cut g c =
    let now = c.fill-2.new.self in
    let count = c.length-length.result in
    let four : c.fill.new.self.held ≡ 4 = c.fill.ensures.full (cc) in
    let short : now.held < 4 + count = c.fill-2.ensures.short (cc) in
    let long : now.held ≤ length now.buffer.items = omega (arith, c.fill-2.ensures.made) in
    let first = first_kept _ c.fill.new.self.buffer.items now.buffer.items _ four c.fill-2.ensures.kept c.length-length.ensures in
    let begun = IsBegun-cut now.held count now.buffer.items (omega (arith, c.fill-2.ensures.grows)) short (omega arith) long first in
    λ _. subst EndsInFrame (c.fill-2.ensures.unread ∙ c.fill.ensures.unread) (EndsInFrame-unread (g.S.Source.left now.source) (held_by now) begun (c.fill-2.ensures.end (cc)))

pub returns-clause-frame : goal.returns-clause-frame
returns-clause-frame g c =
    let now = c.fill-2.new.self in
    let count = c.length-length.result in
    let four : c.fill.new.self.held ≡ 4 = c.fill.ensures.full (cc) in
    let full : now.held ≡ 4 + count = c.fill-2.ensures.full (cc) in
    let long : now.held ≤ length now.buffer.items = omega (arith, c.fill-2.ensures.made) in
    let first = first_kept _ c.fill.new.self.buffer.items now.buffer.items _ four c.fill-2.ensures.kept c.length-length.ensures in
    λ _. record {
      begun = omega (arith, full);
      within = omega (arith, full);
      is = frame_held now.held count now.buffer.items full long first;
    }
