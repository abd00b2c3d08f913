use Rattle.std.proofs.Common.{◌≡◌, ◌∙◌, ◌-◌, slice_get, option_map, refl, ap, sym}
use Rattle.std.specs.Option.{option_copied}
use Rattle.walter_rules.specs.declared.held.Held.{Held}
use Rattle.walter_rules.specs.Log.{commit_at}
use Rattle.walter_log.specs.Logged.{Logged}
use Rattle.walter_log.proofs.Placed.{stands_at, none_stands, commit_is}
use Rattle.walter_log.proofs.log.Log.commit_at.Goals as goal
use Rattle.walter_log.proofs.log.Log.commit_at.Goals.{In_ok-place}

-- the commit is what stands at the place that is found
at_its_place : (c : In_ok-place) → commit_at c.args.site c.args.seq c.args.self.now.log
    ≡ option_map (λ h. h.tx) (slice_get c.self.inside.held.items c.in_ok-place.place.now)
at_its_place c =
    let l = c.self.inside in
    let places = c.in_ok-places.ensures.lookup in
    let place = c.in_ok-place.ensures.lookup in
    let list = c.in_ok-places.places.now in
    let here = stands_at c.deref.result.now l.places.items c.from.result c.args.site.0 list
    c.deref.ensures.value c.from.ensures places.3.0 places.1 in
    let at = stands_at c.deref-2.result.now list.items c.saturating_sub.result (c.args.seq - 1) c.in_ok-place.place.now
    c.deref-2.ensures.value c.saturating_sub.ensures place.3.0 place.1 in
    ap (λ (v : Logged). commit_at c.args.site c.args.seq v.log) (sym c.self.view_is)
    ∙ commit_is l.held.items l.places.items c.self.invariant.placed c.args.site c.args.seq list c.in_ok-place.place.now
    here at

pub returns-in_err-held : goal.returns-in_err-held
returns-in_err-held c =
    let place = c.in_ok-place.place.now in
    let none = none_stands c.deref-3.result.now c.self.inside.held.items place place c.deref-3.ensures.value refl
    c.in_err-held.ensures.lookup.3 in
    ap (λ o. option_copied o) c.from_residual-in_err-held.ensures
    ∙ sym (at_its_place (goal.at.returns-in_err-held c).In_ok-place ∙ ap (option_map (λ (h : Held). h.tx)) none)

pub returns : goal.returns
returns c =
    let place = c.in_ok-place.place.now in
    let held = c.in_ok-held.ensures.lookup in
    let one = stands_at c.deref-3.result.now c.self.inside.held.items place place c.in_ok-held.held.now
    c.deref-3.ensures.value refl held.3.0 held.1 in
    sym (at_its_place (goal.at.returns c).In_ok-place ∙ ap (option_map (λ (h : Held). h.tx)) one)
