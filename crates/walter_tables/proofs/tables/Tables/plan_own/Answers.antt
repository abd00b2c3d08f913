use Rattle.std.proofs.Common.{◌≡◌, ◌∙◌, ap}
use Rattle.walter_objects.specs.Preferred.{homes_of}
use Rattle.walter_tables.specs.Sites.{values_of, site_of, catalog_of}
use Rattle.walter_tables.proofs.tables.Tables.plan_own.Goals as goal

pub returns-clause-rule : goal.returns-clause-rule
unfolding values_of site_of catalog_of
returns-clause-rule c = λ K S follows.
    let now = c.args.self.now in
    let seq = c.args.seq in
    let tx = c.args.tx in
    let homes : c.homes-homes.result ≡ homes_of now.catalog tx.updates = c.homes-homes.ensures ∙ ap (homes_of now.catalog) c.as_slice.ensures in
    let mark = c.durable_mark_with_own-now.ensures.mark K seq tx homes S follows in
    let sends = c.in_ok-sends.ensures K S follows (c.durable_mark-before.ensures.mark K S) mark in
    λ t. record { wrote = c.in_ok-some.ensures t; outcome = c.args.outcome; sends = sends t }
