use Rattle.std.proofs.Common.{◌≡◌, ◌+◌, ◌<◌, [], Option, Some, Vec, Global, length, get_or, slice_get, sym, ap, ◌∙◌, subst, refl, arith, rules}
use Rattle.std.specs.Vec.{with_item}
use Rattle.std.proofs.lemmas.Iterator.Adapters.{YieldsList-from_vec}
use Rattle.std.proofs.lemmas.Iterator.Consumers.{YieldsList-turn}
use Rattle.std.proofs.lemmas.List.{get_or-map, length-map, length_push}
use Rattle.std.proofs.lemmas.Option.{slice_get_read}
use Rattle.walter_scenario.specs.declared.scenario.Client.{Client}
use Rattle.walter_cluster.specs.Seats.{lists_in, HavePlaces, AreSeated, AreAtHome}
use Rattle.walter_cluster.proofs.Seated.{places_kept, seated_more, home_more, lists_set}
use Rattle.walter_cluster.proofs.seating.seat_all.Goals as goal

pub index_mut-requires-in-loop-conn : goal.index_mut-requires-in-loop-conn
index_mut-requires-in-loop-conn g c =
    let conns = c.args.conns.items in
    let is = c.loop-conn.invariant in
    let home = c.from-home.result in
    let vs = c.loop-conn.lists.items in
    let v = c.index_mut.result.now in
    let turn = YieldsList-turn (YieldsList-from_vec conns (search rules) (search rules)) c.loop-conn.yielded c.loop-conn.conn-iterator c.loop-conn.yielded_by c.next.result c.next.new.self c.in-Some.conn c.in-Some.is c.next.ensures.steps in
    let there : c.loop-conn.number < length c.args.clients.now = omega (arith, turn.0, is.count, c.requires.conns) in
    let at_home = c.requires.within c.loop-conn.number c.index-clients-number.result there in
    let home_in : home < c.args.sites = omega (arith, at_home, c.from-home.ensures) in
    let within : home < length vs = omega (arith, home_in, is.places.lists_long, length-map vs (λ (u : Vec (Option g.row.C.Denot) Global). u.items)) in
    let long : length v.items ≡ length c.args.clients.now =
    sym (ap length (get_or-map (λ (u : Vec (Option g.row.C.Denot) Global). u.items) vs home v [] within ∙ ap (λ (u : Vec (Option g.row.C.Denot) Global). u.items) (sym c.index_mut.ensures.value)))
    ∙ is.places.list_long home home_in in
    omega (arith, there, long, v.ok.0)

pub loop-conn-preserved : goal.loop-conn-preserved
loop-conn-preserved g c =
    let conns = c.args.conns.items in
    let clients = c.args.clients.now in
    let is = c.loop-conn.invariant in
    let home = c.from-home.result in
    let number = c.loop-conn.number in
    let conn = c.in-Some.conn in
    let client = c.index-clients-number.result in
    let vs = c.loop-conn.lists.items in
    let v = c.index_mut.result.now in
    let turn = YieldsList-turn (YieldsList-from_vec conns (search rules) (search rules)) c.loop-conn.yielded c.loop-conn.conn-iterator c.loop-conn.yielded_by c.next.result c.next.new.self conn c.in-Some.is c.next.ensures.steps in
    let there : number < length clients = omega (arith, turn.0, is.count, c.requires.conns) in
    let who = c.requires.within number client there in
    let at_home : home < c.args.sites = omega (arith, who, c.from-home.ensures) in
    let within : home < length vs = omega (arith, at_home, is.places.lists_long, length-map vs (λ (u : Vec (Option g.row.C.Denot) Global). u.items)) in
    let set_to = lists_set vs home v (with_item v number (Some conn)) number (Some conn) within c.index_mut.ensures.value refl in
    let at : slice_get clients number ≡ Some client = slice_get_read clients (length clients) number client refl there c.index-clients-number.is in
    let came : slice_get conns number ≡ Some conn = slice_get_read conns (length conns) number conn refl (omega (arith, turn.0, is.count)) (turn.1 ∙ ap (λ n. get_or conns n conn) (sym is.count)) in
    let his : client.site.0 ≡ home = ap (λ (one : Client). one.site.0) c.index-clients-number.is ∙ sym c.from-home.ensures in
    record {
      count = omega (arith, is.count, length_push c.loop-conn.yielded conn);
      places = subst (HavePlaces c.args.sites (length clients)) (sym set_to) (places_kept (lists_in vs) home number conn c.args.sites (length clients) is.places at_home there);
      seated = subst (AreSeated (number + 1) clients conns) (sym set_to)
          (seated_more (lists_in vs) home number conn c.args.sites (length clients) is.places at_home there clients conns client at his came is.seated);
      alone = subst (AreAtHome clients) (sym set_to)
          (home_more (lists_in vs) home number conn c.args.sites (length clients) is.places at_home there clients client at his is.alone);
    }
