use Rattle.std.proofs.Common.{◌≡◌, ◌∙◌, ◌<◌, ◌++◌, ◌∷◌, [], ℕ, length, List, if◌then◌else◌, ap, sym, subst, arith}
use Rattle.walter_base.specs.declared.names.SiteId.{SiteId}
use Rattle.walter_base.specs.Names.{same_site}
use Rattle.walter_rules.specs.declared.held.Held.{Held}
use Rattle.walter_log.specs.Logged.{Logged, room_of}
use Rattle.walter_log.specs.Places.{places_of}
use Rattle.walter_log.specs.Kept.{AreKept}
use Rattle.walter_log.proofs.Kept.{kept_more}
use Rattle.walter_log.proofs.Rooms.{room_is}
use Rattle.walter_log.proofs.log.Log.append.Goals as goal

pub invariant_of-self : goal.invariant_of-self
invariant_of-self c =
    let l = c.self.inside in
    let places = c.put_place.new.places.items in
    let numbers = c.keep_first.new.numbers.entries in
    let s = c.args.held.tx.tid.site in
    let inside = subst (λ (v : Logged). s.0 < v.sites) (sym c.self.view_is) c.requires.within in
    let long : c.len.result ≡ length l.held.items = omega (arith, c.len.ensures, l.held.ok.0) in
    let put = λ (j : SiteId).
    c.put_place.ensures.places j
    ∙ ap (λ (n : ℕ). if same_site s j then places_of l.places.items s ++ n ∷ [] else places_of l.places.items j) long in
    subst (λ (log : List Held). AreKept log places numbers) (sym c.push_reserved.ensures.items)
    (kept_more l.held.items c.args.held l.places.items places l.numbers.entries numbers c.self.invariant inside
    c.put_place.ensures.sites put c.keep_first.ensures.numbers)

pub returns-clause-room : goal.returns-clause-room
returns-clause-room c other =
    let before = ap (λ (v : Logged). room_of v other) c.self.view_is in
    omega (
      arith,
      before,
      room_is c.self.inside.places.items other,
      room_is c.put_place.new.places.items other,
      c.put_place.ensures.room other,
      c.keep_first.ensures.room,
      c.push_reserved.ensures.len,
      c.push_reserved.ensures.capacity,
    )
