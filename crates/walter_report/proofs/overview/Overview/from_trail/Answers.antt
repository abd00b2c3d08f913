use Rattle.std.proofs.Common.{◌<◌, length, take, arith, rules}
use Rattle.walter_rules.specs.Knowledge.{site_at}
use Rattle.walter_report.specs.Sites.{is_up, records}
use Rattle.walter_report.proofs.Telling.{records_of_front, Tells-more}
use Rattle.walter_report.proofs.overview.Overview.from_trail.Goals as goal

pub add_entry-requires : goal.add_entry-requires
add_entry-requires c =
    let within : c.loop-entry.entry-index < length c.args.trail.now = search rules in
    let few = records_of_front c.args.trail.now c.loop-entry.entry-index (omega (arith, within)) in
    omega (arith, within, c.loop-entry.invariant.records, few)

pub loop-entry-preserved : goal.loop-entry-preserved
loop-entry-preserved c =
    let trail = c.args.trail.now in
    let k = c.loop-entry.entry-index in
    let e = c.entry-item.result in
    Tells-more c.add_entry.new.self c.args.sites (site_at c.args.site) trail k e e (search rules) c.entry-item.is
    (c.add_entry.ensures c.args.sites (is_up (take k trail)) (records (take k trail)) c.loop-entry.invariant)
