use Rattle.std.proofs.Common.{◌≡◌, ◌<◌, ◌≤◌, ◌+◌, ◌⊎◌, ◌++◌, ◌∷◌, [], Bool, false, length, set, sym, subst, arith}
use Rattle.walter_lane.specs.Lanes.{Sending}
use Rattle.walter_outbox.specs.Lanes.{IsPut, HavePutOne}
use Rattle.walter_outbox.proofs.Putting.{put_here, put_full}
use Rattle.walter_outbox.proofs.outbox.put.Goals as goal
use Rattle.walter_outbox.proofs.outbox.put.Goals.{in-Ok, in-Err}

pub returns : goal.returns
returns c =
    let outs = c.args.outs.now in
    let place = c.from-place.result in
    let within : place < length outs = omega (arith, c.if-place-outs.false) in
    let at = c.index-outs-place in
    let new = c.put.new.self in
    let to = c.from-place.ensures in
    elim c.match-put.branch [
      | in-Ok w ↦
          subst (λ (b : Bool). IsPut outs (set outs place new) c.args.to c.args.posted b) (sym w.result-is)
          (subst (λ n. HavePutOne outs (set outs place new) n c.args.posted) to (put_here outs place at.result new c.args.posted within at.is
          (subst (λ (s : Sending). new ≡ record s { put = s.put ++ c.args.posted ∷ [] }) (sym at.is) w.in-Ok.ensures.ok)))
      | in-Err w ↦
          subst (λ (b : Bool). IsPut outs (set outs place new) c.args.to c.args.posted b) (sym w.result-is)
          (subst (λ n. IsPut outs (set outs place new) n c.args.posted false) to (put_full outs place at.result new within at.is
          (subst (λ (s : Sending). new ≡ s) (sym at.is) w.in-Err.ensures.back.1)
          (subst (λ (s : Sending). (s.met + 1024 ≤ length s.put) ⊎ (length s.put ≡ 4294967295)) (sym at.is) w.in-Err.ensures.full_or_spent)))
    ]
