use Rattle.std.proofs.Common.{◌≡◌, ap, sym, ◌∙◌, subst}
use Rattle.walter_history.specs.Kept.{Kept, none_kept, IsKeptOf, value_by}
use Rattle.walter_history.specs.Lines.{lines_in, kept_of, kept_by}
use Rattle.walter_history.proofs.LinesSet.{line_is, no_line, kept_at, no_kept}
use Rattle.walter_history.proofs.history.History.latest.Goals as goal

pub value_of-requires : goal.value_of-requires
value_of-requires c =
    let entries = c.self.inside.lines.entries in
    let here : kept_of c.args.self.now c.args.oid ≡ kept_by c.in-Some.line.now =
    ap (λ t. kept_of t c.args.oid) (sym c.self.view_is) ∙ kept_at (lines_in entries) c.args.oid _ (line_is entries c.args.oid c.in-Some.line.now c.in-Some.ensures.value) in
    subst (IsKeptOf c.args.oid) (kept_at (lines_in entries) c.args.oid _ (line_is entries c.args.oid c.in-Some.line.now c.in-Some.ensures.value)) (c.self.invariant.0 c.args.oid)

pub returns-in-Some-clause-value : goal.returns-in-Some-clause-value
returns-in-Some-clause-value c =
    let entries = c.self.inside.lines.entries in
    let here : kept_of c.args.self.now c.args.oid ≡ kept_by c.in-Some.line.now =
    ap (λ t. kept_of t c.args.oid) (sym c.self.view_is) ∙ kept_at (lines_in entries) c.args.oid _ (line_is entries c.args.oid c.in-Some.line.now c.in-Some.ensures.value) in
    c.value_of.ensures ∙ ap (value_by c.args.by.now c.args.oid) (sym {A = Kept} here)

pub returns-in-Some-clause-rows : goal.returns-in-Some-clause-rows
returns-in-Some-clause-rows c = λ rows stands.
    let entries = c.self.inside.lines.entries in
    let here : kept_of c.args.self.now c.args.oid ≡ kept_by c.in-Some.line.now =
    ap (λ t. kept_of t c.args.oid) (sym c.self.view_is) ∙ kept_at (lines_in entries) c.args.oid _ (line_is entries c.args.oid c.in-Some.line.now c.in-Some.ensures.value) in
    c.value_of.ensures ∙ ap (value_by c.args.by.now c.args.oid) (sym {A = Kept} here) ∙ stands.value c.args.by.now c.requires

pub returns-in-None-clause-value : goal.returns-in-None-clause-value
returns-in-None-clause-value c =
    let entries = c.self.inside.lines.entries in
    let none : kept_of c.args.self.now c.args.oid ≡ none_kept =
    ap (λ t. kept_of t c.args.oid) (sym c.self.view_is) ∙ no_kept (lines_in entries) c.args.oid (no_line entries c.args.oid c.in-None.ensures.value) in
    ap (value_by c.args.by.now c.args.oid) (sym {A = Kept} none)

pub returns-in-None-clause-rows : goal.returns-in-None-clause-rows
returns-in-None-clause-rows c = λ rows stands.
    let entries = c.self.inside.lines.entries in
    let none : kept_of c.args.self.now c.args.oid ≡ none_kept =
    ap (λ t. kept_of t c.args.oid) (sym c.self.view_is) ∙ no_kept (lines_in entries) c.args.oid (no_line entries c.args.oid c.in-None.ensures.value) in
    ap (value_by c.args.by.now c.args.oid) (sym {A = Kept} none) ∙ stands.value c.args.by.now c.requires
