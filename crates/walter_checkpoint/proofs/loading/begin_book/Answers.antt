use Rattle.std.proofs.Common.{◌≡◌, ◌≤◌, ◌-◌, ◌/◌, ◌+◌, ◌++◌, ◌∷◌, [], ℕ, refl, subst, sym, ap, ◌∙◌, ⊎_elim, arith}
use Rattle.std.proofs.lemmas.List.{length-replicate}
use Rattle.std.specs.Prelude.{IfSome}
use Rattle.walter_base.specs.Sizes.{most_in}
use Rattle.walter_journal.specs.Layout.{header_in, end_behind}
use Rattle.walter_journal.specs.Zeros.{zeros}
use Rattle.walter_checkpoint.specs.Areas.{shape_by, area_size, header_of_two}
use Rattle.walter_checkpoint.specs.Books.{IsRead}
use Rattle.walter_checkpoint.specs.declared.book.Live.TheVariants.{Whole, A}
use Rattle.walter_checkpoint.proofs.Openings.{if_told, new_one, new_two}
use Rattle.walter_checkpoint.proofs.loading.begin_book.Goals as goal

pub returns-then-areas-eq2-clause-opened : goal.returns-then-areas-eq2-clause-opened
returns-then-areas-eq2-clause-opened g c sites places =
    let shape = shape_by c.args.capacity sites c.args.format in
    let begun = c.in_ok-begin_two.ensures in
    let least : 47 ≤ c.args.capacity = ⊎_elim (λ one. omega (arith, one, c.if-areas-eq2.true)) (λ two. two.1) c.requires.areas in
    let count : (9 + (c.args.capacity - 9) / 2) - 8 ≡ 1 + area_size shape = omega arith in
    record {
      places = places;
      bytes = header_of_two c.args.format ++ zeros (1 + area_size shape);
      read = subst (λ l. IsRead shape A (header_of_two c.args.format ++ zeros (1 + area_size shape)) l 18) (sym c.new.ensures) (new_two shape least);
      told = if_told _ _ (subst (λ n. IfSome (g.D.Disk.known c.begin_two.new.disk).reads (λ told. told ≡ header_of_two c.args.format ++ zeros n)) count begun.header);
      size = omega (arith, begun.size, length-replicate {A = ℕ} (1 + area_size shape) 0);
      durable = begun.durable;
      whole = begun.whole;
    }

pub returns-clause-opened : goal.returns-clause-opened
returns-clause-opened g c sites places =
    let new = header_in c.args.format ++ 0 ∷ [] in
    let shape = shape_by c.args.capacity sites c.args.format in
    let begun = c.in_ok-bodies.ensures in
    let same : c.in_ok-bodies.format ≡ c.args.format = begun.empty.1 in
    let end : c.in_ok-bodies.end ≡ 9 = begun.ok.behind ∙ ap end_behind begun.empty.0 in
    let read : IsRead shape Whole new c.in_ok-bodies.bodies c.in_ok-bodies.end =
    subst (λ n. IsRead shape Whole new c.in_ok-bodies.bodies n) (sym end) (subst (λ l. IsRead shape Whole new l 9) (sym begun.empty.0) (new_one shape)) in
    record {
      places = subst (λ f. sites ≤ most_in f) (sym same) places;
      bytes = new;
      read = subst (λ f. IsRead (shape_by c.args.capacity sites f) Whole new c.in_ok-bodies.bodies c.in_ok-bodies.end) (sym same) read;
      told = if_told _ _ begun.header;
      size = omega (arith, begun.ok.within, end);
      durable = begun.ok.durable;
      whole = begun.ok.whole;
    }

pub returns-then-areas-eq2-clause-made : goal.returns-then-areas-eq2-clause-made
returns-then-areas-eq2-clause-made g c = (sym c.if-areas-eq2.true, refl)

pub returns-clause-made : goal.returns-clause-made
returns-clause-made g c = (⊎_elim (λ one. sym one) (λ two. absurd (c.if-areas-eq2.false two.0)) c.requires.areas, c.in_ok-bodies.ensures.empty.1)
