use Rattle.std.proofs.Common.{◌≡◌, List, ◌∙◌, ap, arith}
use Rattle.walter_base.specs.declared.names.SiteId.{SiteId}
use Rattle.walter_base.specs.declared.packet.Packet.{Packet}
use Rattle.walter_rules.specs.Knowledge.{peers}
use Rattle.walter_rules.specs.Sending.{to_each}
use Rattle.walter_tables.specs.Packets.{acknowledged_packets}
use Rattle.walter_tables.specs.Sites.{values_of, site_of, catalog_of}
use Rattle.walter_tables.proofs.Said.{peers_below, peer_served, own_left_out}
use Rattle.walter_tables.proofs.PutTold.{acknowledged_packets_told}
use Rattle.walter_tables.proofs.tables.Tables.acknowledged_sends.Goals as goal
use Rattle.walter_tables.proofs.tables.Tables.acknowledged_sends.Goals.{then-k-self+in_ok-put_acknowledged, else-k-self}

pub loop-k-preserved : goal.loop-k-preserved
unfolding values_of site_of catalog_of
loop-k-preserved c =
    let now = c.args.self.now in
    let packets : SiteId → List Packet = acknowledged_packets (values_of now) c.args.from c.args.before_ack c.args.now_ack c.args.before c.args.now in
    elim c.if-k-self.branch [
      | then-k-self+in_ok-put_acknowledged w ↦
          ap (λ sends. sends.items) w.sends-is
          ∙ peer_served now.site packets c.loop-k.k c.loop-k.sends.items w.put_acknowledged.new.sends.items w.if-k-self.true
          c.loop-k.invariant w.in_ok-put_acknowledged.ensures
      | else-k-self w ↦
          own_left_out now.site packets c.loop-k.k c.loop-k.sends.items c.if-k-self.sends.items w.if-k-self.false
          c.loop-k.invariant (ap (λ sends. sends.items) w.sends-is)
    ]

pub returns : goal.returns
unfolding values_of site_of catalog_of
returns c =
    let now = c.args.self.now in
    let packets : SiteId → List Packet = acknowledged_packets (values_of now) c.args.from c.args.before_ack c.args.now_ack c.args.before c.args.now in
    let all : c.loop-k.k ≡ now.catalog.sites = omega (arith, c.loop-k.auto.k-end, c.loop-k-test.false) in
    let sent : c.from.result ≡ to_each (peers now.catalog now.site) packets =
    c.from.ensures ∙ c.loop-k.invariant ∙ ap (λ n. to_each (peers_below n now.site) packets) all in
    λ K got S had has was is.
    sent ∙ ap (to_each (peers now.catalog now.site)) (acknowledged_packets_told (values_of now) K S now.spread_site
    now.spread_window c.args.from got c.args.before_ack c.args.now_ack c.args.before c.args.now had has was is)
