use Rattle.std.proofs.Common.{◌≡◌, true, [], ap, sym, ◌∙◌, subst}
use Rattle.std.proofs.lemmas.List.Elements.{All-nil}
use Rattle.walter_base.specs.declared.update.Row.{Row}
use Rattle.walter_history.specs.Kept.{Kept, none_kept}
use Rattle.walter_history.specs.Lines.{lines_in, kept_of, kept_by}
use Rattle.walter_history.specs.Rows.{sees_row}
use Rattle.walter_history.specs.Steps.{told, AreBehind}
use Rattle.walter_history.proofs.LinesSet.{line_is, no_line, kept_at, no_kept}
use Rattle.walter_history.proofs.history.History.steps_between.Goals as goal

pub returns-in-Some : goal.returns-in-Some
returns-in-Some c =
    let entries = c.self.inside.lines.entries in
    let here : kept_of c.args.self.now c.args.oid ≡ kept_by c.in-Some.line.now =
    ap (λ t. kept_of t c.args.oid) (sym c.self.view_is) ∙ kept_at (lines_in entries) c.args.oid _ (line_is entries c.args.oid c.in-Some.line.now c.in-Some.ensures.value) in
    subst (λ rows. AreBehind c.args.from.now c.args.to.now rows (told c.between.result.now)) (ap (λ k. k.steps) (sym {A = Kept} here)) c.between.ensures

pub returns-in-None : goal.returns-in-None
returns-in-None c =
    let entries = c.self.inside.lines.entries in
    let none : kept_of c.args.self.now c.args.oid ≡ none_kept =
    ap (λ t. kept_of t c.args.oid) (sym c.self.view_is) ∙ no_kept (lines_in entries) c.args.oid (no_line entries c.args.oid c.in-None.ensures.value) in
    record {
      front = [];
      split = ap (λ k. k.steps) none;
      seen = All-nil (λ (row : Row). (sees_row c.args.from.now row ≡ true) × (sees_row c.args.to.now row ≡ true));
    }
