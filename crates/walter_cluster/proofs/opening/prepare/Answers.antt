use Rattle.walter_cluster.proofs.Built.{prepared_for}
use Rattle.walter_cluster.proofs.opening.prepare.Goals as goal

pub returns : goal.returns
returns g c =
    prepared_for c.args.scenario.now c.args.conns.items _ c.from-sites.result c.as_slice-clients.result.now c.from-sites.ensures c.as_slice-clients.ensures
    c.requires.conns c.in_ok-rows.ensures c.in_ok-lists.ensures.places c.in_ok-lists.ensures.seated c.in_ok-lists.ensures.alone
    c.in_ok-find_homes.ensures c.in_ok-make_room.ensures
