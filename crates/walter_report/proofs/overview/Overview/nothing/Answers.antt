use Rattle.std.proofs.Common.{◌≡◌, replicate, refl, ◌∙◌, rules}
use Rattle.walter_report.specs.Sites.{is_got, is_seen}
use Rattle.walter_report.proofs.Counted.{counts_none}
use Rattle.walter_report.proofs.overview.Overview.nothing.Goals as goal

pub returns : goal.returns
returns c = λ i.
    let got : c.in_ok-vec.field-0.items ≡ replicate c.args.sites 0 = search rules in
    let seen : c.in_ok-vec-2.field-0.items ≡ replicate c.args.sites 0 = search rules in
    record {
      stands = refl;
      epoch = refl;
      records = refl;
      got = got ∙ counts_none (is_got i) c.args.sites;
      seen = seen ∙ counts_none (is_seen i) c.args.sites;
      commits = refl;
    }
