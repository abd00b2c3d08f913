use Rattle.std.proofs.Common.{◌≤◌, ℕ, ◌+◌, sym, subst}
use Rattle.walter_world.specs.Worlds.{HaveOpened}
use Rattle.walter_world.proofs.Opened.{open_more}
use Rattle.walter_world.proofs.world.seats_of.Goals as goal

pub loop-site-preserved : goal.loop-site-preserved
loop-site-preserved c =
    let catalog = c.args.catalog.now in
    let n = c.loop-site.site in
    let made = c.in_ok-seat_of.ensures in
    record {
      opened = subst (HaveOpened c.args.format catalog (n + 1)) (sym c.push_reserved.ensures.items)
          (open_more c.args.format catalog n c.loop-site.seats.items c.in_ok-seat_of.field-0
          c.loop-site.invariant.opened (record { seat_is = made.seat; opens = made.opening }));
      room = subst (λ (k : ℕ). catalog.sites ≤ k) (sym c.push_reserved.ensures.capacity) c.loop-site.invariant.room;
    }
