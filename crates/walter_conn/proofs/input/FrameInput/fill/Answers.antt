use Rattle.std.proofs.Common.{◌+◌, ◌≤◌, ◌++◌, List, ℕ, take, length, option_map, ap, ◌∙◌, arith}
use Rattle.std.proofs.lemmas.Grind.{common_steps}
use Rattle.walter_conn.proofs.InputLemmas.{take-filled, take-kept, unread_more}
use Rattle.walter_conn.proofs.input.FrameInput.fill.Goals as goal

pub loop-self-preserved : goal.loop-self-preserved
loop-self-preserved g c =
    let was = c.loop-self.self in
    let inv = c.loop-self.invariant in
    let read = c.in_ok-count in
    let bytes = c.deref_mut.result.now in
    let fits : read.count ≤ length c.read.new.into = omega (arith, read.ensures.within, c.read.auto.into) in
    let counted : was.held + read.count ≤ c.args.wanted = grind (arith, common_steps, read.ensures.within) in
    let long : was.held ≤ length bytes = omega (arith, c.deref_mut.ensures.len, inv.made, inv.within) in
    let filled = take-filled was.buffer.len was.held read.count bytes c.read.new.into _ _ long fits (omega (arith, counted, inv.made)) in
    record {
      room = inv.room;
      made = inv.made;
      within = counted;
      grows = omega (arith, inv.grows);
      kept = take-kept c.args.self.now.held was.held read.count _ bytes (take read.count c.read.new.into) inv.grows long filled
          ∙ ap (take c.args.self.now.held) c.deref_mut.ensures.value ∙ inv.kept;
      unread = ap (λ (t : List ℕ). option_map (λ rest. t ++ rest) (g.S.Source.left c.read.new.self)) filled
          ∙ unread_more (g.S.Source.left was.source) (g.S.Source.left c.read.new.self) (take was.held bytes) (take read.count c.read.new.into) read.ensures.taken
          ∙ ap (λ (t : List ℕ). option_map (λ rest. take was.held t ++ rest) (g.S.Source.left was.source)) c.deref_mut.ensures.value
          ∙ inv.unread;
      faultless = cc (read.ensures.faultless);
    }
