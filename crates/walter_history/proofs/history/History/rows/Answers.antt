use Rattle.std.proofs.Common.{◌≡◌, ap, sym, ◌∙◌, subst}
use Rattle.walter_history.specs.Kept.{Kept, none_kept, IsKeptOf}
use Rattle.walter_history.specs.Lines.{lines_in, kept_of, kept_by}
use Rattle.walter_history.proofs.LinesSet.{line_is, no_line, kept_at, no_kept}
use Rattle.walter_history.proofs.history.History.rows.Goals as goal

pub returns-in-Some-clause-value : goal.returns-in-Some-clause-value
returns-in-Some-clause-value c =
    let entries = c.self.inside.lines.entries in
    let here : kept_of c.args.self.now c.args.oid ≡ kept_by c.in-Some.line.now =
    ap (λ t. kept_of t c.args.oid) (sym c.self.view_is) ∙ kept_at (lines_in entries) c.args.oid _ (line_is entries c.args.oid c.in-Some.line.now c.in-Some.ensures.value) in
    c.as_ref.ensures.value ∙ ap (λ k. k.value) (sym {A = Kept} here)

pub returns-in-Some-clause-versions : goal.returns-in-Some-clause-versions
returns-in-Some-clause-versions c =
    let entries = c.self.inside.lines.entries in
    let here : kept_of c.args.self.now c.args.oid ≡ kept_by c.in-Some.line.now =
    ap (λ t. kept_of t c.args.oid) (sym c.self.view_is) ∙ kept_at (lines_in entries) c.args.oid _ (line_is entries c.args.oid c.in-Some.line.now c.in-Some.ensures.value) in
    c.as_slice.ensures ∙ ap (λ k. k.versions) (sym {A = Kept} here)

pub returns-in-Some-clause-writes : goal.returns-in-Some-clause-writes
returns-in-Some-clause-writes c =
    let entries = c.self.inside.lines.entries in
    let here : kept_of c.args.self.now c.args.oid ≡ kept_by c.in-Some.line.now =
    ap (λ t. kept_of t c.args.oid) (sym c.self.view_is) ∙ kept_at (lines_in entries) c.args.oid _ (line_is entries c.args.oid c.in-Some.line.now c.in-Some.ensures.value) in
    c.deref.ensures.value ∙ ap (λ k. k.writes) (sym {A = Kept} here)

pub returns-in-Some-clause-steps : goal.returns-in-Some-clause-steps
returns-in-Some-clause-steps c =
    let entries = c.self.inside.lines.entries in
    let here : kept_of c.args.self.now c.args.oid ≡ kept_by c.in-Some.line.now =
    ap (λ t. kept_of t c.args.oid) (sym c.self.view_is) ∙ kept_at (lines_in entries) c.args.oid _ (line_is entries c.args.oid c.in-Some.line.now c.in-Some.ensures.value) in
    c.as_slice-in-Some.ensures ∙ ap (λ k. k.steps) (sym {A = Kept} here)

pub returns-in-Some-clause-own : goal.returns-in-Some-clause-own
returns-in-Some-clause-own c =
    subst (λ t. IsKeptOf c.args.oid (kept_of t c.args.oid)) c.self.view_is (c.self.invariant.0 c.args.oid)

pub returns-in-None-clause-value : goal.returns-in-None-clause-value
returns-in-None-clause-value c =
    let entries = c.self.inside.lines.entries in
    let none : kept_of c.args.self.now c.args.oid ≡ none_kept =
    ap (λ t. kept_of t c.args.oid) (sym c.self.view_is) ∙ no_kept (lines_in entries) c.args.oid (no_line entries c.args.oid c.in-None.ensures.value) in
    ap (λ k. k.value) (sym {A = Kept} none)

pub returns-in-None-clause-versions : goal.returns-in-None-clause-versions
returns-in-None-clause-versions c =
    let entries = c.self.inside.lines.entries in
    let none : kept_of c.args.self.now c.args.oid ≡ none_kept =
    ap (λ t. kept_of t c.args.oid) (sym c.self.view_is) ∙ no_kept (lines_in entries) c.args.oid (no_line entries c.args.oid c.in-None.ensures.value) in
    ap (λ k. k.versions) (sym {A = Kept} none)

pub returns-in-None-clause-writes : goal.returns-in-None-clause-writes
returns-in-None-clause-writes c =
    let entries = c.self.inside.lines.entries in
    let none : kept_of c.args.self.now c.args.oid ≡ none_kept =
    ap (λ t. kept_of t c.args.oid) (sym c.self.view_is) ∙ no_kept (lines_in entries) c.args.oid (no_line entries c.args.oid c.in-None.ensures.value) in
    ap (λ k. k.writes) (sym {A = Kept} none)

pub returns-in-None-clause-steps : goal.returns-in-None-clause-steps
returns-in-None-clause-steps c =
    let entries = c.self.inside.lines.entries in
    let none : kept_of c.args.self.now c.args.oid ≡ none_kept =
    ap (λ t. kept_of t c.args.oid) (sym c.self.view_is) ∙ no_kept (lines_in entries) c.args.oid (no_line entries c.args.oid c.in-None.ensures.value) in
    ap (λ k. k.steps) (sym {A = Kept} none)

pub returns-in-None-clause-own : goal.returns-in-None-clause-own
returns-in-None-clause-own c =
    subst (λ t. IsKeptOf c.args.oid (kept_of t c.args.oid)) c.self.view_is (c.self.invariant.0 c.args.oid)
