use Rattle.std.proofs.Common.{◌+◌, ◌↔◌, Bool, IsTrue, Some, None, ap, sym, ◌∙◌, subst, if◌then◌else◌}
use Rattle.walter_base.specs.Vectors.{entry_at}
use Rattle.walter_rules.specs.Log.{commit_at}
use Rattle.walter_spread.specs.Propagation.{IsEnabled}
use Rattle.walter_tables.specs.Sites.{values_of, site_of, catalog_of}
use Rattle.walter_tables.proofs.Delivered.{next_told}
use Rattle.walter_tables.proofs.tables.Tables.enabled_next.Goals as goal

pub returns-then-enabled-clause-rule : goal.returns-then-enabled-clause-rule
unfolding values_of site_of catalog_of
returns-then-enabled-clause-rule c = λ K S.
    let n = c.get-committed.result in
    let j = c.args.from in
    ap (λ (b : Bool). if b then Some (n + 1) else None) (sym c.if-enabled.true)
    ∙ next_told c.args.self.now.spread K S.spread j n c.in_ok-tx.tx.now
    (c.get-committed.ensures ∙ ap (λ v. entry_at v j) c.committed.ensures)
    (ap (commit_at j (n + 1)) (sym S.log) ∙ sym c.in_ok-tx.ensures) c.enabled.result
    (subst (λ start. IsTrue c.enabled.result ↔ IsEnabled c.args.self.now.spread j start) c.as_slice.ensures.same c.enabled.ensures)

pub returns-else-enabled-clause-rule : goal.returns-else-enabled-clause-rule
unfolding values_of site_of catalog_of
returns-else-enabled-clause-rule c = λ K S.
    let n = c.get-committed.result in
    let j = c.args.from in
    ap (λ (b : Bool). if b then Some (n + 1) else None) (sym c.if-enabled.false)
    ∙ next_told c.args.self.now.spread K S.spread j n c.in_ok-tx.tx.now
    (c.get-committed.ensures ∙ ap (λ v. entry_at v j) c.committed.ensures)
    (ap (commit_at j (n + 1)) (sym S.log) ∙ sym c.in_ok-tx.ensures) c.enabled.result
    (subst (λ start. IsTrue c.enabled.result ↔ IsEnabled c.args.self.now.spread j start) c.as_slice.ensures.same c.enabled.ensures)
