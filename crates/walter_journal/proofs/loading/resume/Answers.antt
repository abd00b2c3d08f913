use Rattle.std.proofs.Common.{subst, arith}
use Rattle.walter_journal.specs.Layout.{HasContent}
use Rattle.walter_journal.proofs.Layouts.{end_within}
use Rattle.walter_journal.proofs.Told.{content_told}
use Rattle.walter_journal.proofs.loading.resume.Goals as goal

pub returns-clause-ok : goal.returns-clause-ok
returns-clause-ok g c =
    let bytes = c.in_ok-bytes.ensures in
    let content = subst (λ l. HasContent c.in_ok-bodies.format l c.in_ok-bodies.bodies) c.deref.ensures.value c.in_ok-bodies.ensures.ok.0 in
    record {
      content = content_told _ _ _ c.in_ok-bodies.bodies bytes.told content;
      durable = bytes.durable;
      whole = bytes.whole;
      behind = c.in_ok-bodies.ensures.ok.1;
      within = omega (arith, bytes.size, c.in_ok-bodies.ensures.ok.1, end_within _ _ _ content);
    }
