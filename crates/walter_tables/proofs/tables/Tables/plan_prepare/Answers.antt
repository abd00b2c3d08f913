use Rattle.std.proofs.Common.{rules, ◌≡◌, Bool, true, ap, sym, ◌∙◌}
use Rattle.std.proofs.lemmas.Result.{IfOk-weaker}
use Rattle.walter_locks.specs.Parts.{part_of}
use Rattle.walter_objects.specs.Preferred.{are_lockable_at}
use Rattle.walter_rules.specs.Conflicts.{first_conflict}
use Rattle.walter_rules.specs.Deliveries.{prepares, prepares_by, if_lockable, packet_rule}
use Rattle.walter_rules.specs.Knowledge.{Knowledge}
use Rattle.walter_rules.specs.Slow.{Free}
use Rattle.walter_base.specs.declared.packet.Packet.TheVariants.{Prepare}
use Rattle.walter_tables.specs.declared.plan.Planned.{Planned}
use Rattle.walter_tables.specs.Planning.{expected_of}
use Rattle.walter_tables.specs.Sites.{values_of, site_of, catalog_of, Stands}
use Rattle.walter_tables.proofs.ConflictsTold.{nothing_there}
use Rattle.walter_tables.proofs.tables.Tables.plan_prepare.Goals as goal

pub returns-clause-rule : goal.returns-clause-rule
unfolding values_of site_of catalog_of
returns-clause-rule c =
    let now = c.args.self.now in
    let j = c.args.from in
    let n = c.args.slow in
    let tid = c.args.tid in
    let start = c.args.start.now in
    let objects = c.args.objects.now in
    let are : c.are_lockable.result ≡ true = search rules in
    let lockable : are_lockable_at now.catalog now.site objects ≡ true =
    sym (c.are_lockable.ensures ∙ ap (are_lockable_at now.catalog now.site) c.as_slice.ensures) ∙ are in
    let free : part_of now.locks j n ≡ Free =
    nothing_there (part_of now.locks j n) c.dead.result c.holds.result c.dead.ensures c.holds.ensures
    c.if-dead.false c.if-holds.false in
    IfOk-weaker c.plan_lock.result
    (λ (p : Planned). (K : Knowledge) → Stands now K
    → expected_of p ≡ prepares K j n tid start objects (first_conflict K start objects))
    (λ (p : Planned). (K : Knowledge) → Stands now K
    → expected_of p ≡ packet_rule now.catalog now.site K j (Prepare n tid start objects))
    (λ p told K S. told K S
    ∙ sym (ap (λ (b : Bool). if_lockable b K j n tid start objects) lockable
    ∙ ap (prepares_by K j n tid start objects) (sym (S.locks.parts j n) ∙ free)))
    c.plan_lock.ensures.rule
