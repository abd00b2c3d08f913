use Rattle.std.proofs.Common.{◌<◌, ◌+◌, ℕ, List, length, get_or, ap, sym, subst, ◌∙◌}
use Rattle.std.proofs.lemmas.List.{length_push, get_or_default}
use Rattle.walter_rules.specs.declared.entry.Entry.{Entry}
use Rattle.walter_rules.specs.Knowledge.{site_at}
use Rattle.walter_report.specs.declared.overview.Overview.{Overview}
use Rattle.walter_report.specs.Overviews.{Tells}
use Rattle.walter_report.specs.Sites.{is_up, records}
use Rattle.walter_report.proofs.Telling.{tell_more}
use Rattle.walter_report.proofs.told.overviews_of.Goals as goal

pub loop-site-preserved : goal.loop-site-preserved
loop-site-preserved c =
    let overviews = c.loop-site.overviews.items in
    let overview = c.in_ok-from_trail.field-0 in
    let sites = c.args.sites in
    let trails = c.args.trails.now in
    let k = c.loop-site.site in
    let trail = c.index-trails-site.result in
    let here = c.as_slice.result.now in
    let tells = λ (os : List Overview). (i : ℕ) (o : Overview) (t : List Entry) → i < k + 1
    → Tells (get_or os i o) sites (site_at i) (is_up (get_or trails i t)) (records (get_or trails i t)) in
    let last = λ (t : List Entry). subst (λ es. Tells overview sites (site_at k) (is_up es) (records es))
    (c.as_slice.ensures ∙ c.index-trails-site.is ∙ get_or_default trails k trail t c.loop-site-test.true)
    c.in_ok-from_trail.ensures in
    record {
      many = ap length c.in_ok-push.ensures.items ∙ length_push overviews overview
          ∙ ap (λ n. n + 1) c.loop-site.invariant.many;
      each = subst tells (sym c.in_ok-push.ensures.items)
          (tell_more overviews overview sites trails k c.loop-site.invariant.many c.loop-site.invariant.each last);
    }
