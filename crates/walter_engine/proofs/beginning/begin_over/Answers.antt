use Rattle.std.proofs.Common.{◌≡◌, [], ◌∷◌, ◌≤◌, ℕ, List, length, map, None, inl, inr, refl, sym, ◌∙◌, subst, ap, arith}
use Rattle.std.specs.Prelude.{is_some}
use Rattle.std.proofs.lemmas.Bool.Decides.{nat_tests}
use Rattle.walter_disk.proofs.Moments.{weaker}
use Rattle.walter_engine.proofs.Firsts.{no_items, none_kept, lies_unmade, can_answer, answer_up, answer_begun, answer_faults, answer_taken, calls_written, first_left, first_next}
use Rattle.walter_engine.proofs.Raising.{has_written}
use Rattle.walter_engine.proofs.Taking.{same_parts}
use Rattle.walter_engine.proofs.beginning.begin_over.Goals as goal
use Rattle.walter_engine.specs.Contents.{MayHaveNext}
use Rattle.walter_engine.specs.Firsts.{MayHaveFirst}
use Rattle.walter_engine.specs.Stores.{IsLeft, layout_of}
use Rattle.walter_engine.specs.Raises.{calls_before}
use Rattle.walter_engine.specs.Restarts.{left_over}
use Rattle.walter_checkpoint.specs.Books.{disk_of, shape_of}
use Rattle.walter_machine.specs.Machines.{catalog_in, site_in, HasStanding}
use Rattle.walter_rules.specs.declared.event.Event.TheVariants.{Restart}
use Rattle.walter_rules.specs.Standing.{unmade, settled}
use Rattle.walter_rules.specs.Trails.{standing, opening}

pub settle-requires-clause-down : goal.settle-requires-clause-down
settle-requires-clause-down g c =
    ap is_some c.requires.down

pub answer_to-requires : goal.answer_to-requires
answer_to-requires g c =
    let length_is : length c.args.bodies.now ≡ 0 = grind (arith, nat_tests) in
    let none = ap (map (λ body. body.items)) (no_items c.args.bodies.now length_is) in
    can_answer _ (catalog_in c.settle.new.self) (site_in c.settle.new.self) (left_over (layout_of c.args.book.now) (map (λ body. body.items) c.args.bodies.now)) (map (λ body. body.items) c.args.bodies.now) c.raise.new.came.wrote c.raise.result c.raise.new.came.outcome
    (subst (λ (b : List (List ℕ)). 10 ≤ left_over (layout_of c.args.book.now) b) (sym none) c.requires.place) none c.raise.ensures.over

pub returns : goal.returns
returns g c =
    let length_is : length c.args.bodies.now ≡ 0 = grind (arith, nat_tests) in
    let none = ap (map (λ body. body.items)) (no_items c.args.bodies.now length_is) in
    let raised = c.raise.ensures in
    record {
      up = raised.up ∙ answer_up _ _ c.answer_to.ensures;
      stands = λ standing_old stands.
          let settles = c.settle.ensures.settles unmade standing_old (inl refl) in
          let kept = none_kept c.settle.result settles.is_found in
          let here = subst (λ k. HasStanding c.settle.new.self (settled (catalog_in c.settle.new.self) (site_in c.settle.new.self) k unmade)) kept settles.stands in
          let raises = raised.raises (layout_of c.args.book.now) unmade (lies_unmade {g = g.D.Disk} (catalog_in c.settle.new.self) (site_in c.settle.new.self) c.args.book.now (map (λ body. body.items) c.args.bodies.now) none stands) here settles.counted in
          answer_taken _ _ _ c.answer_to.ensures (λ taken.
          let left = first_left {g = g.D.Disk} (catalog_in c.settle.new.self) (layout_of c.args.book.now) (site_in c.settle.new.self) c.raise.new.came c.raise.result
          c.raise.new.machine c.raise.new.book raised.none_kept raised.none_sent raised.none_dropped raises taken in
          same_parts (λ x k. IsLeft {g = g.D.Disk} (layout_of c.args.book.now) c.raise.new.machine (standing x k (opening ∷ [])) c.raise.new.book)
          (catalog_in c.settle.new.self) (catalog_in c.args.machine.now) (site_in c.settle.new.self) (site_in c.args.machine.now) (sym c.settle.ensures.same.catalog) (sym c.settle.ensures.same.id) left);
      begins = answer_begun (map (λ body. body.items) c.args.bodies.now) none _ _ c.answer_to.ensures;
      any_moment = λ stands.
          weaker g.D.Disk.moment g.D.Disk.left_since (disk_of c.args.book.now) (disk_of c.raise.new.book)
          (MayHaveNext (catalog_in c.settle.new.self) (layout_of c.args.book.now) (site_in c.settle.new.self) unmade Restart None) (MayHaveFirst (shape_of c.args.book.now) stands.with.stands.bytes (map (λ body. body.items) c.args.bodies.now))
          (λ image may. inr (none, first_next (shape_of c.args.book.now) (catalog_in c.settle.new.self) c.args.book.now.live (site_in c.settle.new.self) image may)) (raised.any_moment (layout_of c.args.book.now) unmade (lies_unmade {g = g.D.Disk} (catalog_in c.settle.new.self) (site_in c.settle.new.self) c.args.book.now (map (λ body. body.items) c.args.bodies.now) none stands));
      faults = answer_faults _ _ _ _ c.answer_to.ensures raised.faults;
      device = answer_taken _ _ _ c.answer_to.ensures (λ taken.
          calls_written _ _ _ _ (has_written _ (catalog_in c.settle.new.self) (site_in c.settle.new.self) (left_over (layout_of c.args.book.now) (map (λ body. body.items) c.args.bodies.now)) (map (λ body. body.items) c.args.bodies.now) c.raise.new.came.wrote c.raise.result c.raise.new.came.outcome raised.over taken)
          (ap (calls_before c.args.book.now) none) raised.device.all);
      at_most = omega (arith, raised.device.at_most, ap (calls_before c.args.book.now) none);
      arms = raised.arms;
      tells = raised.tells;
      shape = raised.shape;
      same = record { catalog = raised.same.catalog ∙ c.settle.ensures.same.catalog; id = raised.same.id ∙ c.settle.ensures.same.id };
    }
