use Rattle.std.proofs.Common.{ap, refl}
use Rattle.walter_session.proofs.Links.{same_linked}
use Rattle.walter_session.proofs.sessions.Sessions.reserve_start.Goals as goal

pub invariant_of-self : goal.invariant_of-self
invariant_of-self c = same_linked c.self.inside.slots c.self.inside.slots _ _ c.reserve.ensures.entries refl c.self.invariant

pub invariant_of-self-in_err-reserve-2 : goal.invariant_of-self-in_err-reserve-2
invariant_of-self-in_err-reserve-2 c = same_linked c.self.inside.slots c.reserve-2.new.self _ _ c.reserve.ensures.entries (ap (λ s. s.slots) c.reserve-2.ensures.rest_kept) c.self.invariant

pub invariant_of-self-2 : goal.invariant_of-self-2
invariant_of-self-2 c = same_linked c.self.inside.slots c.reserve-2.new.self _ _ c.reserve.ensures.entries (ap (λ s. s.slots) c.reserve-2.ensures.rest_kept) c.self.invariant
