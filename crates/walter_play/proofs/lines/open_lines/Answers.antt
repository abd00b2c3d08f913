use Rattle.std.proofs.Common.{◌+◌, List, length, take, ap, arith, subst}
use Rattle.std.proofs.lemmas.List.{length-take, length_push, take_all}
use Rattle.walter_cluster.specs.Builds.{AreUnread}
use Rattle.walter_psi.proofs.CheckerLists.{take_one}
use Rattle.walter_scenario.specs.declared.scenario.Client.{Client}
use Rattle.walter_play.proofs.Unread.{unread_more}
use Rattle.walter_play.proofs.lines.open_lines.Goals as goal

pub loop-client-preserved : goal.loop-client-preserved
loop-client-preserved c =
    let clients = c.args.clients.now in
    let i = c.loop-client.client-index in
    let lines = c.loop-client.lines.items in
    let client = c.client-item.result in
    let line = c.in_ok-open_line.field-0 in
    let is = c.loop-client.invariant in
    let longer = c.in_ok-push.ensures.items in
    let within = c.loop-client-test.true in
    let front = length-take i clients in
    record {
      long = let a = ap length longer in let b = length_push lines line in let d = is.long in omega (arith, a, b, d);
      unread = unread_more (take i clients) (take (i + 1) clients) lines c.push.new.self.items client line
          (take_one clients i client within c.client-item.is) longer
          (let a = is.long in omega (arith, a, front, within)) is.unread c.in_ok-open_line.ensures;
    }

pub returns-clause-unread : goal.returns-clause-unread
returns-clause-unread c =
    let clients = c.args.clients.now in
    subst (λ (all : List Client). AreUnread all c.loop-client.lines.items)
    (take_all c.loop-client.client-index clients c.loop-client-test.false) c.loop-client.invariant.unread
