use Rattle.std.proofs.Common.{◌≡◌, true, List, ℕ, nat_eq, sym, ap, subst, arith}
use Rattle.std.specs.Map.{lookup}
use Rattle.indexmap.specs.IndexMap.{spare}
use Rattle.walter_slow.specs.Kept.{Kept, ended_by, is_being_decided}
use Rattle.walter_slow.specs.Tables.{Table, RiseBetween}
use Rattle.walter_slow.proofs.BusyOnes.{settled, tells_busy, ended_busy}
use Rattle.walter_slow.proofs.Standings.{from_view, lent_changes, none_changes, room_kept}
use Rattle.walter_slow.proofs.slow.SlowCommits.end.Goals as goal

pub invariant_of-self-2 : goal.invariant_of-self-2
invariant_of-self-2 c =
    let s = c.self.inside in
    let now = c.end.new.self in
    let writes = c.get_mut.follows.holds now in
    let changes = lent_changes s.commits _ c.args.slow (ended_by c.args.no) c.in-Some.standing.now now c.in-Some.ensures.value c.end.ensures writes in (
      subst (RiseBetween 0 s.last) (sym writes.1) c.self.invariant.0,
      c.self.invariant.1,
      c.settle.ensures.rising s.last c.self.invariant.2,
      settled s.commits.entries _ c.args.slow (ended_by c.args.no) s.busy.items _ c.self.invariant.3 changes c.is_busy-is_busy.result c.settle.ensures.any
          (λ kept at. (tells_busy _ c.in-Some.standing.now now kept (ended_by c.args.no) c.is_busy-is_busy.result c.in-Some.ensures.value at c.end.ensures c.is_busy-is_busy.ensures, ended_busy c.args.no _ kept at (subst (λ (es : List (ℕ × Kept)). is_being_decided (lookup (nat_eq c.args.slow) es) ≡ true) (sym (ap (λ (t : Table). t.commits) c.self.view_is)) c.requires))),
    )

pub returns : goal.returns
returns c =
    let old = c.args.self.now in
    let now = c.end.new.self in
    let writes = c.get_mut.follows.holds now in
    let changes = from_view _ old.commits _ (ap (λ (t : Table). t.commits) c.self.view_is) (lent_changes c.self.inside.commits _ c.args.slow (ended_by c.args.no) c.in-Some.standing.now now c.in-Some.ensures.value c.end.ensures writes) in
    record {
      last = ap (λ (t : Table). t.last) c.self.view_is;
      commits = changes.at;
      room = room_kept old (omega (arith, ap (λ (t : Table). t.places) c.self.view_is, writes.6)) (omega (arith, ap (λ (t : Table). t.spots) c.self.view_is, c.settle.ensures.room))
          (omega (arith, ap (λ (t : Table). t.seats) c.self.view_is));
    }

pub returns-in_default : goal.returns-in_default
returns-in_default c =
    let old = c.args.self.now in
    let changes = from_view _ old.commits _ (ap (λ (t : Table). t.commits) c.self.view_is) (none_changes c.self.inside.commits _ c.args.slow (ended_by c.args.no) c.get_mut.follows.holds-at-none (sym c.in_default.ensures.value)) in
    record {
      last = ap (λ (t : Table). t.last) c.self.view_is;
      commits = changes.at;
      room = room_kept old (omega (arith, ap (λ (t : Table). t.places) c.self.view_is, ap spare c.get_mut.follows.holds-at-none)) (omega (arith, ap (λ (t : Table). t.spots) c.self.view_is))
          (omega (arith, ap (λ (t : Table). t.seats) c.self.view_is));
    }
