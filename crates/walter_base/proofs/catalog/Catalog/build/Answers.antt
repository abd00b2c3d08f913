use Rattle.std.proofs.Common.{◌≡◌, ◌≤◌, Some, get_or, arith}
use Rattle.std.specs.Prelude.{slice_get}
use Rattle.std.proofs.lemmas.Option.{slice_get-get_or}
use Rattle.std.proofs.lemmas.Grind.{common_steps}
use Rattle.walter_base.specs.declared.names.Kind.TheVariants.{Regular}
use Rattle.walter_base.specs.Catalogs.{Item, too_many, nowhere}
use Rattle.walter_base.proofs.Rising.{made_more, keeps_more, too_low}
use Rattle.walter_base.proofs.catalog.Catalog.build.Goals as goal
use Rattle.walter_base.proofs.catalog.Catalog.build.Goals.{then-index-ge-MOST_CONTAINERS-via-then-index-ge-MOST_CONTAINERS, then-index-ge-MOST_CONTAINERS-via-else-index-ge-MOST_CONTAINERS+then-from-least, then-index-ge-MOST_CONTAINERS-via-else-index-ge-MOST_CONTAINERS+else-from-least+then-preferred-sites}

no_item : Item
no_item = (0, Regular, record { 0 = 0 })

pub returns-then-index-ge-MOST_CONTAINERS-clause-fault :
    goal.returns-then-index-ge-MOST_CONTAINERS-clause-fault
unfolding no_item
returns-then-index-ge-MOST_CONTAINERS-clause-fault c =
    let items = c.args.items.now in
    let i = c.loop-index.index in
    let here = get_or items i no_item in
    let keeps = c.loop-index.invariant.keeps in
    let at : slice_get items i ≡ Some here = slice_get-get_or items i no_item (omega arith) in (
      omega arith,
      elim c.then-index-ge-MOST_CONTAINERS.branch [
        | then-index-ge-MOST_CONTAINERS-via-then-index-ge-MOST_CONTAINERS w ↦ too_many (omega arith)
        | then-index-ge-MOST_CONTAINERS-via-else-index-ge-MOST_CONTAINERS+then-from-least w ↦ too_low c.args.sites items i c.loop-index.least here keeps at (omega arith)
        | then-index-ge-MOST_CONTAINERS-via-else-index-ge-MOST_CONTAINERS+else-from-least+then-preferred-sites w ↦ nowhere here at (omega arith)
      ],
      keeps.right,
    )

pub loop-index-preserved : goal.loop-index-preserved
unfolding no_item
loop-index-preserved c =
    let items = c.args.items.now in
    let i = c.loop-index.index in
    let here = get_or items i no_item in
    let keeps = c.loop-index.invariant.keeps in
    let at : slice_get items i ≡ Some here = slice_get-get_or items i no_item (omega arith) in
    let high : c.loop-index.least ≤ here.0 = omega arith in
    let made = made_more c.args.sites items i c.loop-index.least no_item keeps (omega arith) high in
    record {
      made = grind (arith, common_steps, made);
      keeps = rw c.from-least.ensures (keeps_more c.args.sites items i c.loop-index.least here keeps at (omega arith) high (omega arith));
    }

pub returns-clause-right : goal.returns-clause-right
returns-clause-right c place within = c.loop-index.invariant.keeps.right place (omega arith)
