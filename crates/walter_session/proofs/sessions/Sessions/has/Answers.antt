use Rattle.std.proofs.Common.{◌≡◌, ◌∙◌, length, ap, sym, arith, below_more}
use Rattle.walter_base.specs.Names.{same_tid}
use Rattle.walter_session.specs.Sessions.{sessions_of}
use Rattle.walter_session.proofs.Lists.{any_passes, none_passes}
use Rattle.walter_session.proofs.Links.{sessions_count}
use Rattle.walter_session.proofs.sessions.Sessions.has.Goals as goal

pub returns-then-is_at : goal.returns-then-is_at
returns-then-is_at c = sym (any_passes (λ s. same_tid c.args.tid s.1.tid) (sessions_of c.args.self.now) c.loop-place.place (sym c.is_at.ensures ∙ c.if-is_at.true))

pub loop-place-preserved : goal.loop-place-preserved
loop-place-preserved c = below_more _ _ c.loop-place.invariant (sym c.is_at.ensures ∙ c.if-is_at.false)

pub returns : goal.returns
returns c =
    let count : length (sessions_of c.args.self.now) ≡ c.len-place-end.result =
    ap (λ table. length (sessions_of table)) (sym c.self.view_is) ∙ sessions_count c.self.inside.slots c.self.inside.keys.entries c.self.invariant.each ∙ sym c.len-place-end.ensures.len in
    sym (none_passes (λ s. same_tid c.args.tid s.1.tid) (sessions_of c.args.self.now) (λ place lt. c.loop-place.invariant place (omega arith)))
