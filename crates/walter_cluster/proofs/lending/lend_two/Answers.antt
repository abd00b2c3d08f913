use Rattle.std.proofs.Common.{◌<◌, refl, arith}
use Rattle.walter_cluster.proofs.Changes.{written_up, written_down, in_low, in_high}
use Rattle.walter_cluster.proofs.lending.lend_two.Goals as goal

pub returns-then-second-first : goal.returns-then-second-first
returns-then-second-first g c =
    let xs = c.args.items.now in
    let low = c.split_at_mut-low.result.0.now in
    let high = c.split_at_mut-low.result.1.now in
    let split = c.split_at_mut-low.ensures in
    let before = c.if-second-first.true in (
      ((refl, refl), λ x y. written_down xs low high c.args.second c.args.first split.value before split.front_len c.requires.first y x),
      record {
        writes_back = tt;
        first = in_high xs low high c.args.second c.args.first split.value before split.front_len c.requires.first _ c.index-high-0.is;
        second = in_low xs low high c.args.second c.args.first split.value before split.front_len c.requires.first _ c.index-low-second.is;
      },
    )

pub returns-else-second-first : goal.returns-else-second-first
returns-else-second-first g c =
    let xs = c.args.items.now in
    let low = c.split_at_mut-low-else-second-first.result.0.now in
    let high = c.split_at_mut-low-else-second-first.result.1.now in
    let split = c.split_at_mut-low-else-second-first.ensures in
    let least = c.if-second-first.false in
    let apart = c.requires.apart in
    let before : c.args.first < c.args.second = omega (arith, least, apart) in (
      ((refl, refl), λ x y. written_up xs low high c.args.first c.args.second split.value before split.front_len c.requires.second x y),
      record {
        writes_back = tt;
        first = in_low xs low high c.args.first c.args.second split.value before split.front_len c.requires.second _ c.index-low-first.is;
        second = in_high xs low high c.args.first c.args.second split.value before split.front_len c.requires.second _ c.index-high-0-else-second-first.is;
      },
    )
