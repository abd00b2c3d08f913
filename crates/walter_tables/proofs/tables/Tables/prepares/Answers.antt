use Rattle.std.proofs.Common.{◌≤◌, ◌∷◌, [], length, ◌∙◌, ap, arith}
use Rattle.std.specs.Prelude.{List}
use Rattle.std.proofs.lemmas.List.{take_all}
use Rattle.walter_base.specs.declared.names.SiteId.{SiteId}
use Rattle.walter_rules.specs.Knowledge.{fresh}
use Rattle.walter_rules.specs.Sending.{to_each, prepare_of}
use Rattle.walter_tables.specs.Sites.{values_of, site_of, catalog_of}
use Rattle.walter_tables.proofs.tables.Tables.prepares.Goals as goal

pub returns : goal.returns
unfolding values_of site_of catalog_of
returns c = λ K.
    let now = c.args.self.now in
    let tx = c.args.tx.now in
    let packets = λ (k : SiteId). prepare_of now.catalog fresh c.args.slow tx k ∷ [] in
    let asked = c.args.asked.now in
    let done : length asked ≤ c.loop-to.to-index =
    omega (arith, c.loop-to-test.false, ap length c.as_slice-to-items.ensures) in
    c.from.ensures ∙ c.loop-to.invariant
    ∙ ap (λ (ks : List SiteId). to_each ks packets) (take_all c.loop-to.to-index asked done)
    ∙ ap (λ (ks : List SiteId). to_each ks packets) c.requires
