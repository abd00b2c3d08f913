use Rattle.std.proofs.Common.{List, sym, ◌∙◌, subst, arith}
use Rattle.std.proofs.lemmas.Bool.{ltb-true}
use Rattle.walter_world.specs.declared.seat.Seat.{Seat}
use Rattle.walter_world.specs.Worlds.{WorldValue, AreEarly, CanCome, trails_of}
use Rattle.walter_world.proofs.world.World.takes.Goals.{then-event-self, else-event-self}
use Rattle.walter_world.proofs.world.World.takes.Goals as goal

pub returns-then-is_within : goal.returns-then-is_within
returns-then-is_within c =
    let event = c.args.event.now in
    let sites = c.self.inside.catalog.sites in
    elim c.if-event-self.branch [
      | then-event-self w ↦ (
        λ early. subst (λ (v : WorldValue). CanCome v event) c.self.view_is (record {
          here = w.if-event-self.true;
          within = w.is_within.ensures.0 (sym w.value-is ∙ c.if-is_within.true);
          early = subst (λ (seats : List Seat). AreEarly 4294967295 (trails_of seats)) c.deref.ensures.value
              (c.are_early.ensures.0 early);
        }),
        λ can.
            let here = subst (λ (v : WorldValue). CanCome v event) (sym c.self.view_is) can in
            c.are_early.ensures.1 (subst (λ (seats : List Seat). AreEarly 4294967295 (trails_of seats))
            (sym c.deref.ensures.value) here.early),
      )
      | else-event-self w ↦
          let less = ltb-true event.site.0 sites (sym w.value-is ∙ c.if-is_within.true) in
          let past = w.if-event-self.false in
          absurd (omega (arith, less, past))
    ]
