use Rattle.std.proofs.Common.{◌≡◌, ◌<◌, ◌+◌, ◌∙◌, ◌++◌, ◌∷◌, [], ℕ, List, sym, ap, subst, arith, nat_eq}
use Rattle.std.specs.Map.{keys_of}
use Rattle.std.proofs.lemmas.List.{map-append}
use Rattle.indexmap.specs.IndexMap.{spare}
use Rattle.indexmap.proofs.CallerLemmas.{insert_entry-new}
use Rattle.walter_slow.specs.Kept.{Kept}
use Rattle.walter_slow.specs.Tables.{Table, RiseBetween}
use Rattle.walter_slow.proofs.BusyOnes.{begun, busy_new}
use Rattle.walter_slow.proofs.Numbers.{rise_next, none_past}
use Rattle.walter_slow.proofs.Standings.{from_ok}
use Rattle.walter_slow.proofs.slow.SlowCommits.begin.Goals as goal

pub invariant_of-self : goal.invariant_of-self
invariant_of-self c =
    let s = c.self.inside in
    let slow = c.args.slow in
    let next : slow ≡ s.last + 1 = c.requires.next ∙ ap (λ (t : Table). t.last + 1) (sym c.self.view_is) in
    let room = ap (λ (t : Table). t.places) c.self.view_is in
    let places : 0 < spare s.commits = omega (arith, c.requires.room.0, room) in
    let absent = none_past 0 s.last slow s.commits.entries c.self.invariant.0 (omega (arith, next)) in
    let all = from_ok c.insert.result _ (c.insert.ensures.succeeds places) c.insert.ensures.entries ∙ insert_entry-new nat_eq s.commits slow c.new-2.result absent in
    let keys = ap keys_of all ∙ map-append (λ (e : ℕ × Kept). e.0) s.commits.entries ((slow, c.new-2.result) ∷ []) in
    let updates = from_ok c.insert.result _ (c.insert.ensures.succeeds places) c.insert.ensures.updates in
    let risen : (ns : List ℕ) → RiseBetween 0 s.last ns → RiseBetween 0 slow (ns ++ slow ∷ []) =
    λ ns rise. subst (λ n. RiseBetween 0 n (ns ++ n ∷ [])) (sym next) (rise_next 0 s.last ns rise) in (
      subst (RiseBetween 0 slow) (sym keys) (risen (keys_of s.commits.entries) c.self.invariant.0),
      ap (λ v. v.items) c.replace-heard.ensures.after ∙ c.new.ensures.items,
      subst (RiseBetween 0 slow) (sym c.push_reserved.ensures.items) (risen s.busy.items c.self.invariant.2),
      begun s.commits.entries _ slow c.new-2.result s.busy.items _ c.self.invariant.3 updates.0 (busy_new c.new-2.result c.new-2.ensures) c.push_reserved.ensures.items,
    )
