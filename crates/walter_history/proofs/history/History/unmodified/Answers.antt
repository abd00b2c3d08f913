use Rattle.std.proofs.Common.{◌≡◌, Some, None, OnOk, IfErr, ap, sym, ◌∙◌, subst}
use Rattle.walter_base.specs.Conflicts.{first_outside}
use Rattle.walter_history.specs.Kept.{Kept, none_kept}
use Rattle.walter_history.specs.Lines.{lines_in, kept_of, kept_by}
use Rattle.walter_history.proofs.LinesSet.{line_is, no_line, kept_at, no_kept}
use Rattle.walter_history.proofs.history.History.unmodified.Goals as goal

pub returns-in-Some-clause-seen : goal.returns-in-Some-clause-seen
returns-in-Some-clause-seen c =
    let entries = c.self.inside.lines.entries in
    let here : kept_of c.args.self.now c.args.oid ≡ kept_by c.in-Some.line.now =
    ap (λ t. kept_of t c.args.oid) (sym c.self.view_is) ∙ kept_at (lines_in entries) c.args.oid _ (line_is entries c.args.oid c.in-Some.line.now c.in-Some.ensures.value) in
    subst (λ versions. OnOk c.all_seen.result (first_outside c.args.by.now versions ≡ None)) (ap (λ k. k.versions) (sym {A = Kept} here)) c.all_seen.ensures.seen

pub returns-in-Some-clause-first : goal.returns-in-Some-clause-first
returns-in-Some-clause-first c =
    let entries = c.self.inside.lines.entries in
    let here : kept_of c.args.self.now c.args.oid ≡ kept_by c.in-Some.line.now =
    ap (λ t. kept_of t c.args.oid) (sym c.self.view_is) ∙ kept_at (lines_in entries) c.args.oid _ (line_is entries c.args.oid c.in-Some.line.now c.in-Some.ensures.value) in
    subst (λ versions. IfErr c.all_seen.result (λ version. first_outside c.args.by.now versions ≡ Some version)) (ap (λ k. k.versions) (sym {A = Kept} here)) c.all_seen.ensures.first

pub returns-in-None-clause-seen : goal.returns-in-None-clause-seen
returns-in-None-clause-seen c =
    let entries = c.self.inside.lines.entries in
    let none : kept_of c.args.self.now c.args.oid ≡ none_kept =
    ap (λ t. kept_of t c.args.oid) (sym c.self.view_is) ∙ no_kept (lines_in entries) c.args.oid (no_line entries c.args.oid c.in-None.ensures.value) in
    ap (λ k. first_outside c.args.by.now k.versions) none
